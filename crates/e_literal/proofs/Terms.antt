-- Terms as they are written: equal, or apart; and which stand in a list.
use Rattle.std.proofs.Common.{◌≡◌, List, [], ◌∷◌, ◌++◌, refl, sym, ap, ◌∙◌, Bool, true, false, cond, true≢false, ◌⊎◌, inl, inr, eqb-true}
use Rattle.std.proofs.lemmas.Bool.{and_from, or_left, or_right, or_cases, cases_Bool}
use Rattle.e_literal.specs.declared.object.Term.{Term}
use Rattle.e_literal.specs.declared.object.Term.TheVariants.{Seg, Ang, Area, Right}
use Rattle.e_literal.specs.Same.{term_eq}
use Rattle.e_literal.specs.Width.{is_among, new_terms}
use Rattle.e_literal.proofs.Booleans.{eqb_self, and_left, and_right}

pub term_eq_is : (a b : Term) → term_eq a b ≡ true → a ≡ b
term_eq_is (Seg a b) (Seg c d) h =
    let p = eqb-true a c (and_left _ _ h) in let q = eqb-true b d (and_right _ _ h) in cc
term_eq_is (Ang a b c) (Ang d e f) h =
    let p = eqb-true a d (and_left _ _ h) in
    let q = eqb-true b e (and_left _ _ (and_right _ _ h)) in
    let r = eqb-true c f (and_right _ _ (and_right _ _ h)) in cc
term_eq_is (Area a b c) (Area d e f) h =
    let p = eqb-true a d (and_left _ _ h) in
    let q = eqb-true b e (and_left _ _ (and_right _ _ h)) in
    let r = eqb-true c f (and_right _ _ (and_right _ _ h)) in cc
term_eq_is Right Right h = refl
term_eq_is (Seg a b) (Ang d e f) h = absurd (true≢false (sym h))
term_eq_is (Seg a b) (Area d e f) h = absurd (true≢false (sym h))
term_eq_is (Seg a b) Right h = absurd (true≢false (sym h))
term_eq_is (Ang a b c) (Seg d e) h = absurd (true≢false (sym h))
term_eq_is (Ang a b c) (Area d e f) h = absurd (true≢false (sym h))
term_eq_is (Ang a b c) Right h = absurd (true≢false (sym h))
term_eq_is (Area a b c) (Seg d e) h = absurd (true≢false (sym h))
term_eq_is (Area a b c) (Ang d e f) h = absurd (true≢false (sym h))
term_eq_is (Area a b c) Right h = absurd (true≢false (sym h))
term_eq_is Right (Seg d e) h = absurd (true≢false (sym h))
term_eq_is Right (Ang d e f) h = absurd (true≢false (sym h))
term_eq_is Right (Area d e f) h = absurd (true≢false (sym h))

pub term_eq_same : (t : Term) → term_eq t t ≡ true
term_eq_same (Seg a b) = and_from _ _ (eqb_self a) (eqb_self b)
term_eq_same (Ang a b c) = and_from _ _ (eqb_self a) (and_from _ _ (eqb_self b) (eqb_self c))
term_eq_same (Area a b c) = and_from _ _ (eqb_self a) (and_from _ _ (eqb_self b) (eqb_self c))
term_eq_same Right = refl

pub equal_terms : (a b : Term) → a ≡ b → term_eq a b ≡ true
equal_terms a b e = ap (term_eq a) (sym e) ∙ term_eq_same a

-- one way round and the other
pub term_eq_turned : (a b : Term) → term_eq a b ≡ term_eq b a
term_eq_turned a b = elim (cases_Bool (term_eq a b)) [
  | inl e ↦ e ∙ sym (equal_terms b a (sym (term_eq_is a b e)))
  | inr n ↦ n ∙ elim (cases_Bool (term_eq b a)) [
    | inl e ↦ absurd (true≢false (sym (equal_terms a b (sym (term_eq_is b a e))) ∙ n))
    | inr m ↦ sym m
  ]
]

-- ---- which stand in a list

pub among_left : (xs ys : List Term) (t : Term) → is_among xs t ≡ true → is_among (xs ++ ys) t ≡ true
among_left [] ys t h = absurd (true≢false (sym h))
among_left (x ∷ xs) ys t h = elim (or_cases (term_eq t x) (is_among xs t) h) [
  | inl a ↦ or_left (term_eq t x) (is_among (xs ++ ys) t) a
  | inr b ↦ or_right (term_eq t x) (is_among (xs ++ ys) t) (among_left xs ys t b)
]

pub among_right : (xs ys : List Term) (t : Term) → is_among ys t ≡ true → is_among (xs ++ ys) t ≡ true
among_right [] ys t h = h
among_right (x ∷ xs) ys t h = or_right (term_eq t x) (is_among (xs ++ ys) t) (among_right xs ys t h)

pub among_either : (xs ys : List Term) (t : Term) → is_among (xs ++ ys) t ≡ true → (is_among xs t ≡ true) ⊎ (is_among ys t ≡ true)
among_either [] ys t h = inr h
among_either (x ∷ xs) ys t h = elim (or_cases (term_eq t x) (is_among (xs ++ ys) t) h) [
  | inl e ↦ inl (or_left (term_eq t x) (is_among xs t) e)
  | inr b ↦ elim (among_either xs ys t b) [
    | inl k ↦ inl (or_right (term_eq t x) (is_among xs t) k)
    | inr k ↦ inr k
  ]
]

pub among_first : (x : Term) (xs : List Term) → is_among (x ∷ xs) x ≡ true
among_first x xs = or_left (term_eq x x) (is_among xs x) (term_eq_same x)

pub among_rest : (x : Term) (xs : List Term) (t : Term) → is_among xs t ≡ true → is_among (x ∷ xs) t ≡ true
among_rest x xs t h = or_right (term_eq t x) (is_among xs t) h

-- a term of the list is one of the terms before, or one of the new ones
pub among_new : (before ts : List Term) (t : Term) → is_among ts t ≡ true → (is_among before t ≡ true) ⊎ (is_among (new_terms before ts) t ≡ true)
among_new before [] t h = inr h
among_new before (x ∷ xs) t h = elim (or_cases (term_eq t x) (is_among xs t) h) [ inl a ↦ at_head (is_among before x) refl (term_eq_is t x a) | inr b ↦ at_rest (is_among before x) refl (λ bs. among_new bs xs t b) ]
  where
    at_head : (b : Bool) → is_among before x ≡ b → t ≡ x → (is_among before t ≡ true) ⊎ (is_among (cond b (new_terms before xs) (x ∷ new_terms (x ∷ before) xs)) t ≡ true)
    at_head true is e = inl (ap (is_among before) e ∙ is)
    at_head false is e = inr (or_left (term_eq t x) (is_among (new_terms (x ∷ before) xs) t) (equal_terms t x e))

    later : (is_among (x ∷ before) t ≡ true) ⊎ (is_among (new_terms (x ∷ before) xs) t ≡ true) → (is_among before t ≡ true) ⊎ (is_among (x ∷ new_terms (x ∷ before) xs) t ≡ true)
    later (inl g) = elim (or_cases (term_eq t x) (is_among before t) g) [
      | inl e ↦ inr (or_left (term_eq t x) (is_among (new_terms (x ∷ before) xs) t) e)
      | inr k ↦ inl k
    ]
    later (inr g) = inr (or_right (term_eq t x) (is_among (new_terms (x ∷ before) xs) t) g)

    at_rest : (b : Bool) → is_among before x ≡ b → ((bs : List Term) → (is_among bs t ≡ true) ⊎ (is_among (new_terms bs xs) t ≡ true))
        → (is_among before t ≡ true) ⊎ (is_among (cond b (new_terms before xs) (x ∷ new_terms (x ∷ before) xs)) t ≡ true)
    at_rest true is ih = ih before
    at_rest false is ih = later (ih (x ∷ before))
