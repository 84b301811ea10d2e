-- Values that carry over to all terms refute a literal where they are a model of the facts.
use Rattle.std.proofs.Common.{◌≡◌, ℕ, List, [], ◌∷◌, ◌++◌, refl, sym, ◌∙◌, Bool, true, false, cond, not, ◌&&◌, ◌||◌, eqb, eq-eqb, true≢false, length, inl, inr, Some, arith}
use Rattle.std.specs.Prelude.{MatchBool}
use Rattle.std.proofs.lemmas.List.Sums.{list_all-from_AllPass}
use Rattle.std.specs.List.{list_all, AllWithin}
use Rattle.std.proofs.lemmas.List.Folds.{list_all-append}
use Rattle.std.proofs.lemmas.Bool.{and_from}
use Rattle.e_literal.specs.declared.object.Term.{Term}
use Rattle.e_literal.specs.declared.object.Term.TheVariants.{Right}
use Rattle.e_literal.specs.declared.literal.Lit.{Lit}
use Rattle.e_literal.specs.Facts.{has, is_metric}
use Rattle.e_literal.specs.Same.{canonical, one_term}
use Rattle.e_literal.specs.Solution.{values_for_all}
use Rattle.e_literal.specs.Truth.{holds, all_hold}
use Rattle.e_literal.proofs.Terms.{term_eq_is}
use Rattle.e_literal.proofs.Booleans.{and_left, and_right}
use Rattle.e_clause.specs.Assignment.{terms_of_atom, terms_of_lits, terms_of_step, is_within, is_zero_if_degenerate, is_positive_if_apart, agrees_with, is_admissible}
use Rattle.e_clause.specs.Metric.{MetricConsequence}
use Rattle.e_clause.proofs.Carried.{carried_same, zero_so}
use Rattle.e_transfer.specs.declared.query.Strength.{Strength}
use Rattle.e_transfer.specs.declared.query.Strength.TheVariants as strength
use Rattle.e_transfer.specs.GivenGoals.{Suffices}
use Rattle.e_transfer.specs.Models.{fits_term, fits_terms, is_model}

by_one : (w : Term → ℕ) (t u : Term) (b : Bool) → one_term t u ≡ b → cond b (eqb (values_for_all w t) (values_for_all w u)) true ≡ true
by_one w t u true e = eq-eqb (values_for_all w t) (values_for_all w u) (carried_same w t u (term_eq_is (canonical t) (canonical u) e))
by_one w t u false e = refl

agrees : (w : Term → ℕ) (ts : List Term) (t : Term) → agrees_with (values_for_all w) ts t ≡ true
agrees w [] t = refl
agrees w (u ∷ us) t = and_from (cond (one_term t u) (eqb (values_for_all w t) (values_for_all w u)) true) (agrees_with (values_for_all w) us t) (by_one w t u (one_term t u) refl) (agrees w us t)

all_admissible : (facts : List Lit) (w : Term → ℕ) (all ts : List Term) → fits_terms facts (values_for_all w) ts ≡ true
    → list_all (λ t. is_within (values_for_all w) t && (is_zero_if_degenerate (values_for_all w) t && (is_positive_if_apart facts (values_for_all w) t && agrees_with (values_for_all w) all t))) ts ≡ true
all_admissible facts w all [] fit = refl
all_admissible facts w all (t ∷ ts) fit =
    let v = values_for_all w in
    let here = and_left (fits_term facts v t) (fits_terms facts v ts) fit in
    let within = and_left (is_within v t) (is_positive_if_apart facts v t) here in
    let positive = and_right (is_within v t) (is_positive_if_apart facts v t) here in
    and_from (is_within v t && (is_zero_if_degenerate v t && (is_positive_if_apart facts v t && agrees_with v all t)))
    (list_all (λ u. is_within v u && (is_zero_if_degenerate v u && (is_positive_if_apart facts v u && agrees_with v all u))) ts)
    (and_from (is_within v t) (is_zero_if_degenerate v t && (is_positive_if_apart facts v t && agrees_with v all t)) within
    (and_from (is_zero_if_degenerate v t) (is_positive_if_apart facts v t && agrees_with v all t) (zero_so w t)
    (and_from (is_positive_if_apart facts v t) (agrees_with v all t) positive (agrees w all t))))
    (all_admissible facts w all ts (and_right (fits_term facts v t) (fits_terms facts v ts) fit))

-- a literal that is false in a model, with values that its terms may have, does not follow
pub refuted : (facts : List Lit) (l : Lit) (w : Term → ℕ) → is_model facts (values_for_all w) ≡ true → fits_terms facts (values_for_all w) (terms_of_atom l.atom) ≡ true
    → holds (values_for_all w) l ≡ false → MetricConsequence facts l → ⊥
refuted facts l w model fit fails follows =
    let v = values_for_all w in
    let rest = and_right (fits_term facts v Right) (fits_terms facts v (terms_of_lits facts) && all_hold v facts) model in
    let right = and_left (fits_term facts v Right) (fits_terms facts v (terms_of_lits facts) && all_hold v facts) model in
    let terms = and_left (fits_terms facts v (terms_of_lits facts)) (all_hold v facts) rest in
    let true_facts = and_right (fits_terms facts v (terms_of_lits facts)) (all_hold v facts) rest in
    let ts = terms_of_step facts (Some l) in
    let fit_all : fits_terms facts v ts ≡ true =
    and_from (fits_term facts v Right) (fits_terms facts v (terms_of_lits facts ++ terms_of_atom l.atom)) right
    (list_all-append (fits_term facts v) (terms_of_lits facts) (terms_of_atom l.atom)
    ∙ and_from (fits_terms facts v (terms_of_lits facts)) (fits_terms facts v (terms_of_atom l.atom)) terms fit) in
    let admissible : is_admissible facts (Some l) v ≡ true = all_admissible facts w ts ts fit_all in
    true≢false (sym (follows.follows v admissible true_facts) ∙ fails)

-- fact by fact
pub fits_all : (facts ls : List Lit) (v : Term → ℕ) → list_all (λ l. fits_terms facts v (terms_of_atom l.atom)) ls ≡ true → fits_terms facts v (terms_of_lits ls) ≡ true
fits_all facts [] v each = refl
fits_all facts (l ∷ ls) v each =
    let here = fits_terms facts v (terms_of_atom l.atom) in
    let rest = list_all (λ k. fits_terms facts v (terms_of_atom k.atom)) ls in
    list_all-append (fits_term facts v) (terms_of_atom l.atom) (terms_of_lits ls)
    ∙ and_from here (fits_terms facts v (terms_of_lits ls)) (and_left here rest each) (fits_all facts ls v (and_right here rest each))

-- where `all` answered yes, each passes
pub each_passes : (p : Lit → Bool) (ls : List Lit) (b : Bool) (No : Type 0) → b ≡ true → MatchBool b (AllWithin (λ l. p l ≡ true) ls 0 (length ls)) No → list_all p ls ≡ true
each_passes p ls true No e h = list_all-from_AllPass p ls (λ k d less. h k d (omega arith) less)
each_passes p ls false No e h = absurd (true≢false (sym e))

-- ---- whether a model is at hand

pub or_else : (b c : Bool) → (b ≡ true → c ≡ true) → (not b || c) ≡ true
or_else true c h = h refl
or_else false c h = refl

pub then : (b c : Bool) → (not b || c) ≡ true → b ≡ true → c ≡ true
then true c h e = h
then false c h e = absurd (true≢false (sym e))

by_hold : (b : Bool) (facts : List Lit) (l : Lit) → has facts l ≡ false → (MetricConsequence facts l → ⊥) → MatchBool b (MetricConsequence facts l) (has facts l ≡ true) → ⊥
by_hold true facts l missing fails need_holds = fails need_holds
by_hold false facts l missing fails need_holds = true≢false (sym need_holds ∙ missing)

-- what is no fact and does not follow does not suffice
pub insufficient : (m : Strength) (facts : List Lit) (l : Lit) → has facts l ≡ false → (MetricConsequence facts l → ⊥) → Suffices m facts l → ⊥
insufficient strength.Facts facts l missing fails enough = true≢false (sym enough ∙ missing)
insufficient strength.Sums facts l missing fails enough = by_hold (is_metric l) facts l missing fails enough
insufficient strength.NarrowSums facts l missing fails (inl fact) = true≢false (sym fact ∙ missing)
insufficient strength.NarrowSums facts l missing fails (inr (follows, narrow)) = fails follows
