-- What the marks of sums show: a literal without one is neither the goal nor a fact.
use Rattle.std.proofs.Common.{◌≡◌, ℕ, ◌+◌, ◌<◌, ◌≤◌, List, [], ◌∷◌, refl, sym, ap, ◌∙◌, subst, arith, Bool, true, false, true≢false, inl, inr, get_or, get_or-set_same, set, length, take, Some}
use Rattle.std.specs.Prelude.{slice_get, ◌%◌}
use Rattle.std.specs.Int.{abs_diff}
use Rattle.std.proofs.lemmas.Bool.{and_from, or_cases}
use Rattle.std.proofs.lemmas.List.{take_all}
use Rattle.e_literal.specs.declared.literal.Atom.{Atom}
use Rattle.e_literal.specs.declared.literal.Atom.TheVariants.{On, OnC, Inside, Center, Between, Same, MeetLL, MeetLC, MeetCC, EqP, EqL, EqC, MagEq, MagLt}
use Rattle.e_literal.specs.declared.literal.Lit.{Lit}
use Rattle.e_literal.specs.Facts.{has}
use Rattle.e_literal.specs.Literal.{negation}
use Rattle.e_literal.specs.Same.{agree, same_neg, same_atom, same_lit}
use Rattle.e_literal.proofs.Booleans.{and_left, and_right}
use Rattle.e_literal.proofs.Valued.{same_difference}
use Rattle.e_metric.proofs.terms.WellFormedSums.{all_more}
use Rattle.e_transfer.specs.declared.query.Strength.{Strength}
use Rattle.e_transfer.specs.declared.query.Strength.TheVariants as strength
use Rattle.e_transfer.specs.GivenGoals.{Suffices, IsFittingLiteral}
use Rattle.e_transfer.specs.SumMarks.{mark_of_term, mark_total, folded_distance, sum_mark, has_sum_mark, have_sum_marks}
use Rattle.e_transfer.proofs.MarkedFacts.{set_keeps}

-- ---- literals that are the same

apart_moved : (a b c d : ℕ) → a + d ≡ c + b → abs_diff a b ≡ abs_diff c d
apart_moved a b c d e = omega (arith, e)

apart_turned : (a b c d : ℕ) → a + c ≡ d + b → abs_diff a b ≡ abs_diff c d
apart_turned a b c d e = omega (arith, e)

folded_moved : (a b c d : ℕ) → a + d ≡ c + b → folded_distance a b ≡ folded_distance c d
unfolding folded_distance
folded_moved a b c d e = ap (λ n. n % 256) (apart_moved a b c d e)

folded_turned : (a b c d : ℕ) → a + c ≡ d + b → folded_distance a b ≡ folded_distance c d
unfolding folded_distance
folded_turned a b c d e = ap (λ n. n % 256) (apart_turned a b c d e)

one_mark : (a b : Atom) → same_atom a b ≡ true → sum_mark a ≡ sum_mark b
one_mark (On a b) (On c d) h = refl
one_mark (OnC a b) (OnC c d) h = refl
one_mark (Inside a b) (Inside c d) h = refl
one_mark (Center a b) (Center c d) h = refl
one_mark (Between a b c) (Between d e f) h = refl
one_mark (Same a b c) (Same d e f) h = refl
one_mark (MeetLL a b) (MeetLL c d) h = refl
one_mark (MeetLC a b) (MeetLC c d) h = refl
one_mark (MeetCC a b) (MeetCC c d) h = refl
one_mark (EqP a b) (EqP c d) h = refl
one_mark (EqL a b) (EqL c d) h = refl
one_mark (EqC a b) (EqC c d) h = refl
one_mark (MagEq x y) (MagEq z w) h = elim (or_cases (agree x y z w) (agree x y w z) h) [
  | inl c ↦ folded_moved (mark_total x) (mark_total y) (mark_total z) (mark_total w) (same_difference x y z w mark_of_term c)
  | inr c ↦ folded_turned (mark_total x) (mark_total y) (mark_total z) (mark_total w) (same_difference x y w z mark_of_term c)
]
one_mark (MagLt x y) (MagLt z w) h = folded_moved (mark_total x) (mark_total y) (mark_total z) (mark_total w) (same_difference x y z w mark_of_term h)
one_mark a b h = absurd (true≢false (sym h))

sum_mark_alike : (a b : Lit) → same_lit a b ≡ true → sum_mark a.atom ≡ sum_mark b.atom
sum_mark_alike a b h = one_mark a.atom b.atom (and_right (same_neg a.neg b.neg) (same_atom a.atom b.atom) h)

-- ---- marks

-- a fact is marked
fact_has : (marks : List Bool) (facts : List Lit) (l : Lit) → have_sum_marks marks facts ≡ true → has facts l ≡ true → get_or marks (sum_mark l.atom) false ≡ true
fact_has marks [] l all h = absurd (true≢false (sym h))
fact_has marks (f ∷ fs) l all h = elim (or_cases (same_lit f l) (has fs l) h) [
  | inl same ↦ ap (λ k. get_or marks k false) (sym (sum_mark_alike f l same)) ∙ and_left (has_sum_mark marks f) (have_sum_marks marks fs) all
  | inr later ↦ fact_has marks fs l (and_right (has_sum_mark marks f) (have_sum_marks marks fs) all) later
]

-- what has no mark is not the goal, and its negation is no fact
pub unmarked_unfit : (m : Strength) (facts : List Lit) (goal : Lit) (marks : List Bool) (l : Lit) → m ≡ strength.Facts → have_sum_marks marks facts ≡ true → has_sum_mark marks goal ≡ true
    → get_or marks (sum_mark l.atom) false ≡ false → (b : Bool) → IsFittingLiteral m facts goal b l → ⊥
unmarked_unfit m facts goal marks l is all own none b fits = by b fits
  where
    not_goal : same_lit l goal ≡ true → ⊥
    not_goal same = true≢false (sym (ap (λ k. get_or marks k false) (sum_mark_alike l goal same) ∙ own) ∙ none)

    no_fact : Suffices m facts (negation l) → ⊥
    no_fact enough = true≢false (sym (fact_has marks facts (negation l) all (subst (λ (k : Strength). Suffices k facts (negation l)) is enough)) ∙ none)

    by : (b : Bool) → IsFittingLiteral m facts goal b l → ⊥
    by true same = not_goal same
    by false (inl same) = not_goal same
    by false (inr enough) = no_fact enough

pub still_marked : (marks : List Bool) (k : ℕ) (ls : List Lit) → k < length marks → have_sum_marks marks ls ≡ true → have_sum_marks (set marks k true) ls ≡ true
still_marked marks k [] less all = refl
still_marked marks k (l ∷ ls) less all =
    and_from (has_sum_mark (set marks k true) l) (have_sum_marks (set marks k true) ls)
    (set_keeps marks k (sum_mark l.atom) less (and_left (has_sum_mark marks l) (have_sum_marks marks ls) all))
    (still_marked marks k ls less (and_right (has_sum_mark marks l) (have_sum_marks marks ls) all))

-- one literal more is marked
pub newly_marked : (marks new : List Bool) (k : ℕ) (l : Lit) → k < length marks → new ≡ set marks k true → k ≡ sum_mark l.atom → has_sum_mark new l ≡ true
newly_marked marks new k l less is at = ap (λ (ms : List Bool). has_sum_mark ms l) is ∙ (ap (λ n. get_or (set marks k true) n false) (sym at) ∙ get_or-set_same marks k true false less)

pub one_more_sum : (facts : List Lit) (marks new : List Bool) (i k : ℕ) (fact : Lit) → k < length marks → new ≡ set marks k true → k ≡ sum_mark fact.atom
    → slice_get facts i ≡ Some fact → have_sum_marks marks (take i facts) ≡ true → have_sum_marks new (take (i + 1) facts) ≡ true
one_more_sum facts marks new i k fact less is at here all =
    let kept : have_sum_marks new (take i facts) ≡ true = ap (λ (ms : List Bool). have_sum_marks ms (take i facts)) is ∙ still_marked marks k (take i facts) less all in
    all_more (has_sum_mark new) facts i fact here kept (newly_marked marks new k fact less is at)

pub all_sums : (facts : List Lit) (marks : List Bool) (n : ℕ) → length facts ≤ n → have_sum_marks marks (take n facts) ≡ true → have_sum_marks marks facts ≡ true
all_sums facts marks n most each = sym (ap (have_sum_marks marks) (take_all n facts most)) ∙ each
