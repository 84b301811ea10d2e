use Rattle.std.proofs.Common.{◌≡◌, ℕ, ◌<◌, ◌^◌, ◌↔◌, ap, subst, sym, ◌∙◌, rules}
use Rattle.std.specs.Prelude.{ℤ, pos, unsigned_abs, IsTrue}
use Rattle.std.proofs.lemmas.List.Sorted.{IsNonDecreasingBy-from_sort_by_key}
use Rattle.e_literal.specs.declared.object.Term.{Term}
use Rattle.e_verify.specs.inner.Totals.{total_at, cancel_in_runs}
use Rattle.e_verify.proofs.arithmetic.KeyedTotals.{cancel_for}
use Rattle.e_verify.proofs.totals.Totals.all_cancel.Goals as goal

pub returns : goal.returns
returns c =
    let sorted = IsNonDecreasingBy-from_sort_by_key (λ (e : ℕ × ℤ). e.0) _ c.sort_unstable_by_key.ensures.sorted (λ a r q k. search rules) in
    let is = c.cancel_in_runs.ensures ∙ ap (cancel_in_runs 0 (pos 0)) c.deref.ensures.value in
    subst (λ es. IsTrue c.cancel_in_runs.result ↔ ((t : Term) → total_at es t ≡ pos 0)) c.self.view_is
    (cancel_for c.self.inside.summands.items _ c.cancel_in_runs.result c.self.invariant c.sort_unstable_by_key.ensures.permutation sorted
    (λ t. subst (λ es. unsigned_abs (total_at es t) < 2 ^ 127) (sym c.self.view_is) (c.requires t)) is)
