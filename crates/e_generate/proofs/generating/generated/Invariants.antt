use Rattle.std.proofs.Common.{◌≡◌, ◌+◌, ◌-◌, ◌++◌, string_bytes, flat_map}
use Rattle.e_generate.specs.Generated.{numbers, generated_theorem_text}
use Rattle.e_generate.proofs.generating.generated.Given as goal

abbrev pub invariant-loop-number : goal.invariant-loop-number
invariant-loop-number l =
    string_bytes l.out ++ flat_map generated_theorem_text (numbers l.number ((l.theorems + 1) - l.number)) ≡ string_bytes l.initial.out ++ flat_map generated_theorem_text (numbers 1 ((l.theorems + 1) - 1))
