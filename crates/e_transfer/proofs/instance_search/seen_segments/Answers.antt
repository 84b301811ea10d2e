use Rattle.std.proofs.Common.{◌∷◌, List, ℕ, inl, inr, subst}
use Rattle.e_transfer.specs.inner.ListedTerms.{IsUnlisted, IsApart}
use Rattle.e_transfer.proofs.instance_search.seen_segments.Goals as goal

pub returns : goal.returns
returns c = λ next out rest.
    let n = c.args.numbers.now in
    let all = c.seen_by_one-2.ensures next out in
    let zero = c.seen_by_one.ensures next all.1 in (
      elim (c.seen_by_both-both.ensures next all.0) [
        | inl e ↦ inl (subst (λ (ps : List (ℕ × ℕ × ℕ)). IsUnlisted ps n (next ∷ rest) c.args.term) c.deref.ensures.value (c.in_ok-one.ensures next e rest))
        | inr e ↦ inr (subst (λ (ps : List (ℕ × ℕ × ℕ)). IsUnlisted ps n (next ∷ rest) c.args.other) c.deref-2.ensures.value (c.in_ok-another.ensures next e rest))
      ],
      subst (λ (ps : List (ℕ × ℕ × ℕ)). IsApart ps n (next ∷ rest) c.args.term) c.deref-3.ensures.value (c.in_ok-zero.ensures next zero.0 rest),
      subst (λ (ps : List (ℕ × ℕ × ℕ)). IsApart ps n (next ∷ rest) c.args.other) c.deref-4.ensures.value (c.in_ok-other_zero.ensures next zero.1 rest),
    )
