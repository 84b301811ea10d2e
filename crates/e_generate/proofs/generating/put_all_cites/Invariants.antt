use Rattle.std.proofs.Common.{◌≡◌, ◌+◌, ◌-◌, ◌++◌, string_bytes, flat_map}
use Rattle.e_generate.specs.Generated.{numbers, cites}
use Rattle.e_generate.proofs.generating.put_all_cites.Given as goal

abbrev pub invariant-loop-i : goal.invariant-loop-i
invariant-loop-i l =
    string_bytes l.out ++ flat_map cites (numbers l.i (l.last - l.i)) ≡ string_bytes l.initial.out ++ flat_map cites (numbers 2 (l.last - 2))
