-- Assignments that agree on the terms of a step, and an admissible one spread over all terms.
use Rattle.std.proofs.Common.{◌≡◌, ℕ, ◌+◌, ◌*◌, ◌≤◌, List, [], ◌∷◌, ◌++◌, map, refl, sym, ap, ap₂, ◌∙◌, subst, Option, Some, None, Bool, true, not, cond, ◌&&◌, ◌==◌, eqb, true≢false, ◌⊎◌, inl, inr, leb-true, eqb-true}
use Rattle.std.specs.Prelude.{nat_le, nat_lt}
use Rattle.std.specs.List.{list_all}
use Rattle.std.proofs.lemmas.List.{map-append}
use Rattle.std.proofs.lemmas.Bool.{or_cases, cases_Bool}
use Rattle.e_literal.specs.declared.object.Term.{Term}
use Rattle.e_literal.specs.declared.object.Term.TheVariants.{Seg, Ang, Right}
use Rattle.e_literal.specs.declared.object.Mono.{Mono}
use Rattle.e_literal.specs.declared.literal.Lit.{Lit}
use Rattle.e_literal.specs.declared.literal.Atom.{Atom}
use Rattle.e_literal.specs.Same.{canonical, term_eq, one_term}
use Rattle.e_literal.specs.Width.{is_among}
use Rattle.e_literal.specs.Truth.{value_of, metric_atom_holds, holds, all_hold}
use Rattle.e_literal.specs.Facts.{are_apart}
use Rattle.e_literal.specs.Rows.{is_degenerate}
use Rattle.e_literal.specs.Solution.{values_for_all}
use Rattle.e_literal.proofs.Terms.{term_eq_is, equal_terms, term_eq_turned, among_left, among_right, among_first, among_rest}
use Rattle.e_literal.proofs.Valued.{IsMagEq, IsMagLt, IsDiagram, split}
use Rattle.e_literal.proofs.Booleans.{and_left, and_right}
use Rattle.e_clause.specs.Assignment.{terms_of_atom, terms_of_lits, terms_of_wanted, terms_of_step, is_within, is_zero_if_degenerate, is_positive_if_apart, agrees_with, is_admissible_over}
use Rattle.e_clause.specs.Metric.{wanted_fails, IsCounterexample}

-- ---- agreement

-- two assignments have one value at each term of the list
abbrev pub Agree : List Term → (Term → ℕ) → (Term → ℕ) → Type 0
Agree ts v u = (t : Term) → is_among ts t ≡ true → v t ≡ u t

abbrev pub terms_of_sum : List Mono → List Term
terms_of_sum ms = map (λ (m : Mono). m.term) ms

sum_agrees : (ms : List Mono) (v u : Term → ℕ) → Agree (terms_of_sum ms) v u → value_of v ms ≡ value_of u ms
sum_agrees [] v u h = refl
sum_agrees (m ∷ ms) v u h =
    ap₂ {A = ℕ} {B = ℕ} (λ a b. m.coeff * a + b) (h m.term (among_first m.term (terms_of_sum ms))) (sum_agrees ms v u (λ t a. h t (among_rest m.term (terms_of_sum ms) t a)))

sums_agree : (x y : List Mono) (v u : Term → ℕ) → Agree (terms_of_sum (x ++ y)) v u → (value_of v x ≡ value_of u x) × (value_of v y ≡ value_of u y)
sums_agree x y v u h = (
  sum_agrees x v u (λ t a. h t (subst (λ ts. is_among ts t ≡ true) (sym (map-append (λ (m : Mono). m.term) x y)) (among_left (terms_of_sum x) (terms_of_sum y) t a))),
  sum_agrees y v u (λ t a. h t (subst (λ ts. is_among ts t ≡ true) (sym (map-append (λ (m : Mono). m.term) x y)) (among_right (terms_of_sum x) (terms_of_sum y) t a))),
)

atom_agrees : (a : Atom) (neg : Bool) (v u : Term → ℕ) → (IsMagEq a ⊎ IsMagLt a) ⊎ IsDiagram a → Agree (terms_of_atom a) v u → metric_atom_holds v a neg ≡ metric_atom_holds u a neg
atom_agrees a neg v u (inl (inl p)) h =
    let e = sums_agree p.0 p.1 v u (subst (λ b. Agree (terms_of_atom b) v u) p.2 h) in
    ap (λ b. metric_atom_holds v b neg) p.2
    ∙ ap₂ {A = ℕ} {B = ℕ} (λ m n. cond neg (not (eqb m n)) (eqb m n)) e.0 e.1
    ∙ sym (ap (λ b. metric_atom_holds u b neg) p.2)
atom_agrees a neg v u (inl (inr p)) h =
    let e = sums_agree p.0 p.1 v u (subst (λ b. Agree (terms_of_atom b) v u) p.2 h) in
    ap (λ b. metric_atom_holds v b neg) p.2
    ∙ ap₂ {A = ℕ} {B = ℕ} (λ m n. cond neg (not (nat_lt m n)) (nat_lt m n)) e.0 e.1
    ∙ sym (ap (λ b. metric_atom_holds u b neg) p.2)
atom_agrees a neg v u (inr d) h = d.quiet v neg ∙ sym (d.quiet u neg)

pub holds_agrees : (l : Lit) (v u : Term → ℕ) → Agree (terms_of_atom l.atom) v u → holds v l ≡ holds u l
holds_agrees l v u h = atom_agrees l.atom l.neg v u (split l.atom) h

pub all_hold_agrees : (ls : List Lit) (v u : Term → ℕ) → Agree (terms_of_lits ls) v u → all_hold v ls ≡ all_hold u ls
all_hold_agrees [] v u h = refl
all_hold_agrees (l ∷ ls) v u h =
    ap₂ {A = Bool} {B = Bool} (λ a b. a && b)
    (holds_agrees l v u (λ t a. h t (among_left (terms_of_atom l.atom) (terms_of_lits ls) t a)))
    (all_hold_agrees ls v u (λ t a. h t (among_right (terms_of_atom l.atom) (terms_of_lits ls) t a)))

pub fails_agrees : (wanted : Option Lit) (v u : Term → ℕ) → Agree (terms_of_wanted wanted) v u → wanted_fails v wanted ≡ wanted_fails u wanted
fails_agrees (Some l) v u h = ap not (holds_agrees l v u h)
fails_agrees None v u h = refl

-- the terms of the facts, and those of the wanted literal, are terms of the step
pub among_facts : (facts : List Lit) (wanted : Option Lit) (t : Term) → is_among (terms_of_lits facts) t ≡ true → is_among (terms_of_step facts wanted) t ≡ true
among_facts facts wanted t a =
    among_rest Right (terms_of_lits facts ++ terms_of_wanted wanted) t (among_left (terms_of_lits facts) (terms_of_wanted wanted) t a)

pub among_wanted : (facts : List Lit) (wanted : Option Lit) (t : Term) → is_among (terms_of_wanted wanted) t ≡ true → is_among (terms_of_step facts wanted) t ≡ true
among_wanted facts wanted t a =
    among_rest Right (terms_of_lits facts ++ terms_of_wanted wanted) t (among_right (terms_of_lits facts) (terms_of_wanted wanted) t a)

-- what is so of each of a list is so of one that is among it
pub all_among : (p : Term → Bool) (ts : List Term) (t : Term) → list_all p ts ≡ true → is_among ts t ≡ true → p t ≡ true
all_among p [] t h a = absurd (true≢false (sym a))
all_among p (s ∷ ss) t h a = elim (or_cases (term_eq t s) (is_among ss t) a) [
  | inl e ↦ ap p (term_eq_is t s e) ∙ and_left (p s) (list_all p ss) h
  | inr b ↦ all_among p ss t (and_right (p s) (list_all p ss) h) b
]

-- ---- an assignment to some terms, for all terms

-- the value of the first term that is one term with this one, or 0
abbrev pub spread : (Term → ℕ) → List Term → Term → ℕ
spread v [] t = 0
spread v (s ∷ ss) t = cond (term_eq (canonical s) t) (v s) (spread v ss t)

spread_at : (v : Term → ℕ) (ts : List Term) (t : Term) → list_all (λ s. cond (one_term t s) (v t == v s) true) ts ≡ true → is_among ts t ≡ true → spread v ts (canonical t) ≡ v t
spread_at v [] t h a = absurd (true≢false (sym a))
spread_at v (s ∷ ss) t h a = elim (cases_Bool (term_eq (canonical s) (canonical t))) [
  | inl e ↦
      ap (λ b. cond b (v s) (spread v ss (canonical t))) e
      ∙ sym (eqb-true (v t) (v s) (sym (ap (λ b. cond b (v t == v s) true) (term_eq_turned (canonical t) (canonical s) ∙ e)) ∙ and_left (cond (one_term t s) (v t == v s) true) (list_all (λ s. cond (one_term t s) (v t == v s) true) ss) h))
  | inr n ↦
      ap (λ b. cond b (v s) (spread v ss (canonical t))) n
      ∙ spread_at v ss t (and_right (cond (one_term t s) (v t == v s) true) (list_all (λ s. cond (one_term t s) (v t == v s) true) ss) h)
      (elim (or_cases (term_eq t s) (is_among ss t) a) [
        | inl e ↦ absurd (true≢false (sym (equal_terms (canonical s) (canonical t) (ap canonical (sym (term_eq_is t s e)))) ∙ n))
        | inr b ↦ b
      ])
]

abbrev is_admissible_at : List Lit → List Term → (Term → ℕ) → Term → Bool
is_admissible_at facts ts v t = is_within v t && (is_zero_if_degenerate v t && (is_positive_if_apart facts v t && agrees_with v ts t))

-- an admissible assignment is what its spread gives
pub spread_agrees : (facts : List Lit) (ts : List Term) (v : Term → ℕ) → is_admissible_over facts ts v ≡ true → Agree ts v (values_for_all (spread v ts))
spread_agrees facts ts v h t a =
    let good : is_admissible_at facts ts v t ≡ true = all_among (is_admissible_at facts ts v) ts t h a in
    let after_within = and_right (is_within v t) (is_zero_if_degenerate v t && (is_positive_if_apart facts v t && agrees_with v ts t)) good in
    let flat : is_zero_if_degenerate v t ≡ true = and_left (is_zero_if_degenerate v t) (is_positive_if_apart facts v t && agrees_with v ts t) after_within in
    let one : agrees_with v ts t ≡ true = and_right (is_positive_if_apart facts v t) (agrees_with v ts t) (and_right (is_zero_if_degenerate v t) (is_positive_if_apart facts v t && agrees_with v ts t) after_within) in
    elim (cases_Bool (is_degenerate t)) [
      | inl d ↦ eqb-true (v t) 0 (sym (ap (λ b. cond b (v t == 0) true) d) ∙ flat) ∙ sym (ap (λ b. cond b 0 (spread v ts (canonical t))) d)
      | inr n ↦ sym (spread_at v ts t one a) ∙ sym (ap (λ b. cond b 0 (spread v ts (canonical t))) n)
    ]

-- ---- models

-- the values, carried to all terms, make the facts true and the wanted literal false, and keep the bounds of the step's terms
pub record IsModel (facts : List Lit) (wanted : Option Lit) (w : Term → ℕ) : Type 0 where
  pub right : 1 ≤ values_for_all w Right
  pub within : (a b c : ℕ) → is_among (terms_of_step facts wanted) (Ang a b c) ≡ true → values_for_all w (Ang a b c) ≤ 2 * values_for_all w Right
  pub apart : (a b : ℕ) → is_among (terms_of_step facts wanted) (Seg a b) ≡ true → are_apart facts a b ≡ true → 1 ≤ values_for_all w (Seg a b)
  pub facts_hold : all_hold (values_for_all w) facts ≡ true
  pub wanted_fails : wanted_fails (values_for_all w) wanted ≡ true

-- a counterexample, spread, is a model
pub model_of : (facts : List Lit) (wanted : Option Lit) (v : Term → ℕ) → IsCounterexample facts wanted v → IsModel facts wanted (spread v (terms_of_step facts wanted))
model_of facts wanted v x =
    let ts = terms_of_step facts wanted in
    let w = spread v ts in
    let agree : Agree ts v (values_for_all w) = spread_agrees facts ts v x.is_admissible in
    let good : (t : Term) → is_among ts t ≡ true → is_admissible_at facts ts v t ≡ true = λ t a. all_among (is_admissible_at facts ts v) ts t x.is_admissible a in
    let bound : (t : Term) → is_among ts t ≡ true → is_within v t ≡ true =
    λ t a. and_left (is_within v t) (is_zero_if_degenerate v t && (is_positive_if_apart facts v t && agrees_with v ts t)) (good t a) in
    let positive : (t : Term) → is_among ts t ≡ true → is_positive_if_apart facts v t ≡ true =
    λ t a. and_left (is_positive_if_apart facts v t) (agrees_with v ts t) (and_right (is_zero_if_degenerate v t) (is_positive_if_apart facts v t && agrees_with v ts t)
    (and_right (is_within v t) (is_zero_if_degenerate v t && (is_positive_if_apart facts v t && agrees_with v ts t)) (good t a))) in
    let first : is_among ts Right ≡ true = among_first Right (terms_of_lits facts ++ terms_of_wanted wanted) in
    record {
      right = subst (λ n. 1 ≤ n) (agree Right first) (leb-true 1 (v Right) (bound Right first));
      within = λ a b c k. subst (λ n. n ≤ 2 * values_for_all w Right) (agree (Ang a b c) k)
          (subst (λ n. v (Ang a b c) ≤ 2 * n) (agree Right first) (leb-true (v (Ang a b c)) (2 * v Right) (bound (Ang a b c) k)));
      apart = λ a b k d. subst (λ n. 1 ≤ n) (agree (Seg a b) k)
          (leb-true 1 (v (Seg a b)) (sym (ap (λ c. cond c (nat_le 1 (v (Seg a b))) true) d) ∙ positive (Seg a b) k));
      facts_hold = sym (all_hold_agrees facts v (values_for_all w) (λ t a. agree t (among_facts facts wanted t a))) ∙ x.facts_hold;
      wanted_fails = sym (fails_agrees wanted v (values_for_all w) (λ t a. agree t (among_wanted facts wanted t a))) ∙ x.wanted_fails;
    }
