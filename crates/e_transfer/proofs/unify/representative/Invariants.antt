use Rattle.std.proofs.Common.{◌≡◌, ◌<◌, ℕ, length}
use Rattle.e_transfer.specs.inner.Bindings.{BindingsAgree}
use Rattle.e_transfer.proofs.unify.representative.Given as goal

abbrev pub invariant-loop : goal.invariant-loop
invariant-loop l = (l.at < length l.bindings) × ((f : ℕ → ℕ) → BindingsAgree f l.bindings → f l.at ≡ f l.variable)
