use Rattle.std.proofs.Common.{◌≡◌, drop}
use Rattle.std.specs.Prelude.{pos}
use Rattle.e_verify.specs.inner.Totals.{cancel_in_runs}
use Rattle.e_verify.proofs.totals.cancel_in_runs.Given as goal

abbrev pub invariant-loop-summand : goal.invariant-loop-summand
invariant-loop-summand l = cancel_in_runs l.key l.so_far (drop l.summand-index l.summands) ≡ cancel_in_runs 0 (pos 0) l.summands
