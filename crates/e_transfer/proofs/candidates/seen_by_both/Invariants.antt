use Rattle.std.proofs.Common.{◌≡◌, ◌⊎◌, ℕ, Some, false}
use Rattle.std.specs.Prelude.{slice_get}
use Rattle.e_transfer.proofs.candidates.seen_by_both.Given as goal

abbrev pub invariant-loop-n : goal.invariant-loop-n
invariant-loop-n l = (k : ℕ) → slice_get l.seen k ≡ Some false → (slice_get l.one k ≡ Some false) ⊎ (slice_get l.other k ≡ Some false)
