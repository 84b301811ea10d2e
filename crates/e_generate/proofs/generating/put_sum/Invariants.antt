use Rattle.std.proofs.Common.{◌≡◌, ◌+◌, ◌-◌, ◌++◌, string_bytes, flat_map}
use Rattle.e_generate.specs.Generated.{numbers, plus_segment}
use Rattle.e_generate.proofs.generating.put_sum.Given as goal

abbrev pub invariant-loop-i : goal.invariant-loop-i
invariant-loop-i l =
    string_bytes l.out ++ flat_map plus_segment (numbers l.i (l.last - l.i)) ≡ string_bytes l.initial.out ++ flat_map plus_segment (numbers 1 (l.last - 1))
