use Rattle.std.proofs.Common.{◌≢◌, ℕ, ◌<◌, ◌^◌, get_or, pos}
use Rattle.std.specs.Prelude.{unsigned_abs}
use Rattle.e_simplex.proofs.unequal.large_place.Given as goal

abbrev pub invariant-loop-j : goal.invariant-loop-j
invariant-loop-j l = (k : ℕ) → k < l.j → k ≢ l.but → unsigned_abs (get_or l.xs k (pos 0)) < 2 ^ 64
