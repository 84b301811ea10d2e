use Rattle.std.proofs.Common.{◌≡◌, ◌+◌, ◌-◌, ◌++◌, string_bytes, flat_map}
use Rattle.e_generate.specs.Generated.{numbers, given_between_line}
use Rattle.e_generate.proofs.generating.put_given.Given as goal

abbrev pub invariant-loop-i : goal.invariant-loop-i
invariant-loop-i l =
    string_bytes l.out ++ flat_map given_between_line (numbers l.i ((l.last - 1) - l.i)) ≡ string_bytes l.initial.out ++ flat_map given_between_line (numbers 0 ((l.last - 1) - 0))
