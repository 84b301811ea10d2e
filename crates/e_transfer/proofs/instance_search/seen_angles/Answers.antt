use Rattle.std.proofs.Common.{◌∷◌, List, ℕ, inl, inr, subst}
use Rattle.e_transfer.specs.inner.ListedTerms.{IsUnlisted}
use Rattle.e_transfer.proofs.instance_search.seen_angles.Goals as goal

pub returns : goal.returns
returns c = λ next out rest.
    let n = c.args.numbers.now in
    elim (c.seen_by_both.ensures next out) [
      | inl e ↦ inl (subst (λ (ps : List (ℕ × ℕ × ℕ)). IsUnlisted ps n (next ∷ rest) c.args.term) c.deref.ensures.value (c.in_ok-one.ensures next e rest))
      | inr e ↦ inr (subst (λ (ps : List (ℕ × ℕ × ℕ)). IsUnlisted ps n (next ∷ rest) c.args.other) c.deref-2.ensures.value (c.in_ok-another.ensures next e rest))
    ]
