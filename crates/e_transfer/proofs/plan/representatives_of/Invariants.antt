use Rattle.std.proofs.Common.{◌≡◌, ◌<◌, ℕ, length, get_or}
use Rattle.e_transfer.specs.inner.Bindings.{BindingsAgree}
use Rattle.e_transfer.proofs.plan.representatives_of.Given as goal

abbrev pub invariant-loop-v : goal.invariant-loop-v
invariant-loop-v l = record {
  many : length l.representatives.items ≡ l.v;
  below : (v : ℕ) → v < l.v → get_or l.representatives.items v 0 < length l.bindings;
  hold : (f : ℕ → ℕ) → BindingsAgree f l.bindings → (v : ℕ) → v < l.v → f (get_or l.representatives.items v 0) ≡ f v;
}
