use Rattle.std.proofs.Common.{List, ℕ, inl, inr, subst}
use Rattle.e_transfer.specs.inner.ListedTerms.{IsUnlisted}
use Rattle.e_transfer.proofs.instance_search.is_one_unlisted.Goals as goal

pub returns-then-one : goal.returns-then-one
returns-then-one c = λ e.
    let n = c.args.numbers.now in
    inl (λ rest. subst (λ (ps : List (ℕ × ℕ × ℕ)). IsUnlisted ps n rest c.args.term) c.deref-angles.ensures.value (c.is_unlisted-one.ensures c.if-one.true rest))

pub returns : goal.returns
returns c = λ e.
    let n = c.args.numbers.now in
    inr (λ rest. subst (λ (ps : List (ℕ × ℕ × ℕ)). IsUnlisted ps n rest c.args.other) c.deref-angles.ensures.value (c.is_unlisted.ensures e rest))
