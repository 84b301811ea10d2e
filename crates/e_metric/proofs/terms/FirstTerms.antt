-- Terms in the order in which they occur first.
use Rattle.std.proofs.Common.{◌≡◌, ℕ, zero, suc, ◌+◌, List, [], ◌∷◌, ◌++◌, map, take, drop, refl, sym, ap, ap₂, ◌∙◌, arith, Bool, true, false, cond, ◌||◌, true≢false, ◌⊎◌, inl, inr, Option, Some, None, append_assoc}
use Rattle.std.specs.Prelude.{slice_get}
use Rattle.std.specs.List.{cons_option}
use Rattle.std.proofs.lemmas.List.Folds.{list_any-append}
use Rattle.std.proofs.lemmas.Bool.{or_left, or_right, or_cases, cases_Bool}
use Rattle.std.proofs.lemmas.List.{map-append}
use Rattle.e_literal.specs.declared.object.Kind.{Kind}
use Rattle.e_literal.specs.declared.object.Mono.{Mono}
use Rattle.e_literal.specs.declared.object.Term.{Term}
use Rattle.e_literal.specs.declared.literal.Lit.{Lit}
use Rattle.e_literal.specs.Literal.{negation}
use Rattle.e_literal.specs.declared.object.Term.TheVariants.{Right}
use Rattle.e_literal.specs.Same.{canonical, term_eq, one_term}
use Rattle.e_literal.specs.Rows.{has_term, first_terms}
use Rattle.e_literal.proofs.CanonicalTerms.{one_term_is, one_term_of}
use Rattle.e_clause.specs.Assignment.{terms_of_atom, terms_of_lits}
use Rattle.e_clause.specs.System.{is_of_kind, of_kind, against_goal}
use Rattle.e_metric.specs.ListedTerms.{with_listed, distinct_terms}
use Rattle.e_metric.proofs.rows.Forms.{none_more}

-- ---- one list after the other

pub listed_append : (seen ts us : List Term) → with_listed seen (ts ++ us) ≡ with_listed (with_listed seen ts) us
listed_append seen [] us = refl
listed_append seen (t ∷ ts) us = listed_append (cond (has_term seen t) seen (seen ++ t ∷ [])) ts us

abbrev term_of : Mono → Term
term_of m = m.term

pub sum_terms : (seen : List Term) (x y : List Mono) → with_listed seen (map (λ m. m.term) (x ++ y)) ≡ with_listed (with_listed seen (map (λ m. m.term) x)) (map (λ m. m.term) y)
sum_terms seen x y = ap (with_listed seen) (map-append term_of x y) ∙ listed_append seen (map term_of x) (map term_of y)

pub ruleset atom_terms = (sum_terms)

-- ---- the definition

or_last : (a b : Bool) → (a || (b || false)) ≡ (b || a)
or_last true true = refl
or_last true false = refl
or_last false true = refl
or_last false false = refl

abbrev Alike : List Term → List Term → Type 0
Alike us vs = (t : Term) → has_term us t ≡ has_term vs t

alike_push : (us vs : List Term) (t : Term) → Alike us vs → Alike (us ++ t ∷ []) (t ∷ vs)
alike_push us vs t h u = list_any-append (one_term u) us (t ∷ []) ∙ ap (λ b. b || (one_term u t || false)) (h u) ∙ or_last (has_term vs u) (one_term u t)

pub listed_first : (us vs ts : List Term) → Alike us vs → with_listed us ts ≡ us ++ first_terms vs ts
listed_first us vs [] h = sym (none_more us)
listed_first us vs (t ∷ ts) h = by (has_term us t) (has_term vs t) (h t) (listed_first us vs ts h) (listed_first (us ++ t ∷ []) (t ∷ vs) ts (alike_push us vs t h))
  where
    by : (a b : Bool) → a ≡ b → with_listed us ts ≡ us ++ first_terms vs ts → with_listed (us ++ t ∷ []) ts ≡ (us ++ t ∷ []) ++ first_terms (t ∷ vs) ts
        → with_listed (cond a us (us ++ t ∷ [])) ts ≡ us ++ cond b (first_terms vs ts) (t ∷ first_terms (t ∷ vs) ts)
    by true true e known new = known
    by true false e known new = absurd (true≢false e)
    by false true e known new = absurd (true≢false (sym e))
    by false false e known new = new ∙ append_assoc us (t ∷ []) (first_terms (t ∷ vs) ts)

-- ---- the literals of a kind

pub kind_append : (which : Kind) (ls ms : List Lit) → of_kind which (ls ++ ms) ≡ of_kind which ls ++ of_kind which ms
kind_append which [] ms = refl
kind_append which (l ∷ ls) ms = by (cond (is_of_kind which l) (Some l) None) (kind_append which ls ms)
  where
    by : (o : Option Lit) → of_kind which (ls ++ ms) ≡ of_kind which ls ++ of_kind which ms
        → cons_option o (of_kind which (ls ++ ms)) ≡ cons_option o (of_kind which ls) ++ of_kind which ms
    by (Some k) h = ap (λ xs. k ∷ xs) h
    by None h = h

pub lits_append : (ls ms : List Lit) → terms_of_lits (ls ++ ms) ≡ terms_of_lits ls ++ terms_of_lits ms
lits_append [] ms = refl
lits_append (l ∷ ls) ms = ap (λ xs. terms_of_atom l.atom ++ xs) (lits_append ls ms) ∙ sym (append_assoc (terms_of_atom l.atom) (terms_of_lits ls) (terms_of_lits ms))

pub kind_one : (which : Kind) (l : Lit) → of_kind which (l ∷ []) ≡ cond (is_of_kind which l) (l ∷ []) []
kind_one which l = by (is_of_kind which l)
  where
    by : (b : Bool) → cons_option (cond b (Some l) None) [] ≡ cond b (l ∷ []) []
    by true = refl
    by false = refl

-- one literal
pub literal_yes : (which : Kind) (l : Lit) (seen : List Term) → is_of_kind which l ≡ true → with_listed seen (terms_of_lits (of_kind which (l ∷ []))) ≡ with_listed seen (terms_of_atom l.atom)
literal_yes which l seen h =
    ap (λ ls. with_listed seen (terms_of_lits ls)) (kind_one which l ∙ ap (λ b. cond b (l ∷ []) []) h) ∙ ap (with_listed seen) (none_more (terms_of_atom l.atom))

pub literal_no : (which : Kind) (l : Lit) (seen : List Term) → is_of_kind which l ≡ false → with_listed seen (terms_of_lits (of_kind which (l ∷ []))) ≡ seen
literal_no which l seen h = ap (λ ls. with_listed seen (terms_of_lits ls)) (kind_one which l ∙ ap (λ b. cond b (l ∷ []) []) h)

pub ruleset literal_terms = (literal_yes, literal_no)

take_suc : {X : Type 0} (xs : List X) (k : ℕ) (x : X) → slice_get xs k ≡ Some x → take (suc k) xs ≡ take k xs ++ x ∷ []
take_suc [] k x e = absurd (cc)
take_suc (y ∷ ys) zero x e = cc
take_suc (y ∷ ys) (suc k) x e = ap (λ zs. y ∷ zs) (take_suc ys k x e)

pub take_one : {X : Type 0} (xs : List X) (i : ℕ) (x : X) → slice_get xs i ≡ Some x → take (i + 1) xs ≡ take i xs ++ x ∷ []
take_one xs i x h = ap (λ n. take n xs) (one_more i) ∙ take_suc xs i x h
  where
    one_more : (n : ℕ) → n + 1 ≡ suc n
    one_more n = omega arith

-- one fact more
pub kind_more : (which : Kind) (facts : List Lit) (i : ℕ) (l : Lit) → slice_get facts i ≡ Some l → of_kind which (take (i + 1) facts) ≡ of_kind which (take i facts) ++ of_kind which (l ∷ [])
kind_more which facts i l h = ap (of_kind which) (take_one facts i l h) ∙ kind_append which (take i facts) (l ∷ [])

-- ---- facts from a place on

get_from : {X : Type 0} (xs : List X) (from k : ℕ) → slice_get (drop from xs) k ≡ slice_get xs (from + k)
get_from xs zero k = (let e : k ≡ zero + k = omega arith in ap (slice_get xs) e)
get_from [] (suc n) k = refl
get_from (x ∷ xs) (suc n) k = (let e : suc (n + k) ≡ suc n + k = omega arith in get_from xs n k ∙ ap (slice_get (x ∷ xs)) e)

pub place_in_all : {X : Type 0} (xs : List X) (from k : ℕ) (x : X) → slice_get (drop from xs) k ≡ Some x → slice_get xs (from + k) ≡ Some x
place_in_all xs from k x h = sym (get_from xs from k) ∙ h

-- the terms of one more
pub more_terms : (which : Kind) (ls : List Lit) (i : ℕ) (l : Lit) (start now new : List Term) → slice_get ls i ≡ Some l
    → now ≡ with_listed start (terms_of_lits (of_kind which (take i ls))) → new ≡ with_listed now (terms_of_lits (of_kind which (l ∷ [])))
    → new ≡ with_listed start (terms_of_lits (of_kind which (take (i + 1) ls)))
more_terms which ls i l start now new h e n =
    n ∙ ap (λ ts. with_listed ts (terms_of_lits (of_kind which (l ∷ [])))) e
    ∙ sym (ap (λ ms. with_listed start (terms_of_lits ms)) (kind_more which ls i l h)
    ∙ ap (with_listed start) (lits_append (of_kind which (take i ls)) (of_kind which (l ∷ [])))
    ∙ listed_append start (terms_of_lits (of_kind which (take i ls))) (terms_of_lits (of_kind which (l ∷ []))))

-- with the wanted literal
turned_terms : (which : Kind) (l : Lit) → terms_of_lits (of_kind which (negation l ∷ [])) ≡ terms_of_lits (of_kind which (l ∷ []))
turned_terms which l = by (is_of_kind which l)
  where
    by : (b : Bool) → terms_of_lits (cons_option (cond b (Some (negation l)) None) []) ≡ terms_of_lits (cons_option (cond b (Some l) None) [])
    by true = refl
    by false = refl

after_facts : (which : Kind) (facts : List Lit) (wanted : Option Lit) → distinct_terms which facts wanted ≡ with_listed (with_listed [] (terms_of_lits (of_kind which facts))) (terms_of_lits (of_kind which (against_goal wanted)))
after_facts which facts wanted =
    sym (listed_first [] [] (terms_of_lits (of_kind which facts) ++ terms_of_lits (of_kind which (against_goal wanted))) (λ t. refl))
    ∙ listed_append [] (terms_of_lits (of_kind which facts)) (terms_of_lits (of_kind which (against_goal wanted)))

pub some_wanted : (which : Kind) (facts : List Lit) (l : Lit) → distinct_terms which facts (Some l) ≡ with_listed (with_listed [] (terms_of_lits (of_kind which facts))) (terms_of_lits (of_kind which (l ∷ [])))
some_wanted which facts l = after_facts which facts (Some l) ∙ ap (with_listed (with_listed [] (terms_of_lits (of_kind which facts)))) (turned_terms which l)

pub none_wanted : (which : Kind) (facts : List Lit) → distinct_terms which facts None ≡ with_listed [] (terms_of_lits (of_kind which facts))
none_wanted which facts = after_facts which facts None

pub ruleset all_terms = (some_wanted, none_wanted)

-- ---- each term once

-- no term is one term with a later one
abbrev pub Once : List Term → Type 0
Once [] = Unit {0}
Once (t ∷ ts) = (has_term ts t ≡ false) × Once ts

-- a term that is one term with another is there where the other is
pub has_same : (ts : List Term) (t u : Term) → one_term t u ≡ true → has_term ts t ≡ has_term ts u
has_same [] t u h = refl
has_same (s ∷ ss) t u h = ap₂ {A = Bool} {B = Bool} (λ a b. a || b) (ap (λ c. term_eq c (canonical s)) (one_term_is t u h)) (has_same ss t u h)

first_not : (seen ts : List Term) (u : Term) → has_term seen u ≡ true → has_term (first_terms seen ts) u ≡ false
first_not seen [] u h = refl
first_not seen (s ∷ ss) u h = by (has_term seen s) refl (λ bs. first_not bs ss u)
  where
    differ : has_term seen s ≡ false → one_term u s ≡ false
    differ e = elim (cases_Bool (one_term u s)) [ inl k ↦ absurd (true≢false (sym h ∙ has_same seen u s k ∙ e)) | inr n ↦ n ]

    by : (b : Bool) → has_term seen s ≡ b → ((bs : List Term) → has_term bs u ≡ true → has_term (first_terms bs ss) u ≡ false) → has_term (cond b (first_terms seen ss) (s ∷ first_terms (s ∷ seen) ss)) u ≡ false
    by true e ih = ih seen h
    by false e ih = ap₂ {A = Bool} {B = Bool} (λ a b. a || b) (differ e) (ih (s ∷ seen) (or_right (one_term u s) (has_term seen u) h))

pub first_once : (seen ts : List Term) → Once (first_terms seen ts)
first_once seen [] = tt
first_once seen (t ∷ ts) = by (has_term seen t) (λ bs. first_once bs ts)
  where
    by : (b : Bool) → ((bs : List Term) → Once (first_terms bs ts)) → Once (cond b (first_terms seen ts) (t ∷ first_terms (t ∷ seen) ts))
    by true ih = ih seen
    by false ih = (first_not (t ∷ seen) ts t (or_left (one_term t t) (has_term seen t) (one_term_of t t refl)), ih (t ∷ seen))

-- a term of the list is one term with one that was seen or occurs first
pub first_has : (seen ts : List Term) (u : Term) → has_term ts u ≡ true → has_term seen u ≡ false → has_term (first_terms seen ts) u ≡ true
first_has seen [] u h n = absurd (true≢false (sym h))
first_has seen (s ∷ ss) u h n = by (has_term seen s) refl (or_cases (one_term u s) (has_term ss u) h) (λ bs. first_has bs ss u)
  where
    by : (b : Bool) → has_term seen s ≡ b → (one_term u s ≡ true) ⊎ (has_term ss u ≡ true) → ((bs : List Term) → has_term ss u ≡ true → has_term bs u ≡ false → has_term (first_terms bs ss) u ≡ true)
        → has_term (cond b (first_terms seen ss) (s ∷ first_terms (s ∷ seen) ss)) u ≡ true
    by true e (inl k) ih = absurd (true≢false (sym (has_same seen u s k ∙ e) ∙ n))
    by true e (inr k) ih = ih seen k n
    by false e (inl k) ih = or_left (one_term u s) (has_term (first_terms (s ∷ seen) ss) u) k
    by false e (inr k) ih = elim (cases_Bool (one_term u s)) [
      | inl o ↦ or_left (one_term u s) (has_term (first_terms (s ∷ seen) ss) u) o
      | inr o ↦ or_right (one_term u s) (has_term (first_terms (s ∷ seen) ss) u) (ih (s ∷ seen) k (ap (λ b. b || has_term seen u) o ∙ n))
    ]

-- with right after them
pub with_right : (ts : List Term) → with_listed (first_terms [] ts) (Right ∷ []) ≡ first_terms [] (ts ++ Right ∷ [])
with_right ts =
    ap (λ us. with_listed us (Right ∷ [])) (sym (listed_first [] [] ts (λ t. refl)))
    ∙ sym (listed_append [] ts (Right ∷ []))
    ∙ listed_first [] [] (ts ++ Right ∷ []) (λ t. refl)
