use Rattle.std.proofs.Common.{◌≡◌, ◌+◌, ◌-◌, ◌++◌, string_bytes, flat_map}
use Rattle.e_generate.specs.Generated.{numbers, point}
use Rattle.e_generate.proofs.generating.put_points.Given as goal

abbrev pub invariant-loop-i : goal.invariant-loop-i
invariant-loop-i l =
    string_bytes l.out ++ flat_map point (numbers l.i (l.count - l.i)) ≡ string_bytes l.initial.out ++ flat_map point (numbers 0 (l.count - 0))
