use Rattle.std.proofs.Common.{◌≡◌, ℕ, take, length, true}
use Rattle.e_transfer.specs.inner.Equations.{all_agree}
use Rattle.e_transfer.specs.inner.Bindings.{BindingsAgree}
use Rattle.e_transfer.proofs.unify.unify.Given as goal

abbrev pub invariant-loop-b : goal.invariant-loop-b
invariant-loop-b l = record {
  all : length l.bindings.items ≡ l.total;
  agree : (f : ℕ → ℕ) → all_agree f (take l.b-index l.equations) ≡ true → BindingsAgree f l.bindings.items;
}
