-- Terms of a step are terms of it after the kept steps alone, and ends of segments are apart there as they were.
use Rattle.std.proofs.Common.{◌≡◌, ℕ, List, [], ◌∷◌, ◌++◌, map, refl, sym, ap, ◌∙◌, Bool, true, false, ◌||◌, cond, true≢false, inl, inr, Option, Some, None}
use Rattle.std.specs.Option.{option_map}
use Rattle.std.specs.List.{list_any}
use Rattle.std.proofs.lemmas.Bool.{or_left, or_right, or_cases, cases_Bool}
use Rattle.std.proofs.lemmas.List.{map-append}
use Rattle.std.proofs.lemmas.List.Folds.{list_any-append}
use Rattle.e_literal.specs.declared.object.Obj.{Obj}
use Rattle.e_literal.specs.declared.object.Mono.{Mono}
use Rattle.e_literal.specs.declared.object.Term.{Term}
use Rattle.e_literal.specs.declared.object.Term.TheVariants.{Seg, Right}
use Rattle.e_literal.specs.declared.object.Sort.TheVariants.{Point, Line, Circle}
use Rattle.e_literal.specs.declared.literal.Atom.{Atom}
use Rattle.e_literal.specs.declared.literal.Atom.TheVariants.{MagEq, MagLt}
use Rattle.e_literal.specs.declared.literal.Lit.{Lit}
use Rattle.e_literal.specs.Literal.{negation, objects_of_term}
use Rattle.e_literal.specs.Rename.{term_at, mono_at, atom_at}
use Rattle.e_literal.specs.Same.{term_eq, same_lit}
use Rattle.e_literal.specs.Facts.{has, are_apart, are_equal_points}
use Rattle.e_literal.proofs.Terms.{term_eq_is, term_eq_same}
use Rattle.e_clause.specs.Assignment.{terms_of_atom, terms_of_lits, terms_of_wanted, terms_of_step, lit_has_term}
use Rattle.e_clause.proofs.WrittenTerms.{in_lits}
use Rattle.e_trim.specs.Looked.{Wants, first_that, parts_ends, of_term}
use Rattle.e_trim.specs.Trimmed.{kept_before, lit_among_kept}
use Rattle.e_trim.proofs.renumbering.Members.{In, any_in}
use Rattle.e_trim.proofs.renumbering.LitsAt.{AllKept, OverLit, same_at, has_in, in_has}
use Rattle.e_trim.proofs.kept_certificates.Staying.{Stays}

-- what is wanted is looked up, and what is needed is kept
pub record Covered (kept : List Obj) (looked : List Lit) (w : Wants) : Type 0 where
  pub lits : (l : Lit) → In l w.lits → has looked l ≡ true
  pub objects : AllKept kept w.objects

-- the first that is so is one that is so
pub first_in : (p : Lit → Bool) (facts : List Lit) → list_any p facts ≡ true → (m : Lit) × In m facts × (p m ≡ true) × In m (first_that p facts)
first_in p [] h = absurd (true≢false (sym h))
first_in p (f ∷ facts) h = by (p f) refl (first_in p facts)
  where
    by : (b : Bool) → p f ≡ b → (list_any p facts ≡ true → (m : Lit) × In m facts × (p m ≡ true) × In m (first_that p facts))
        → (m : Lit) × In m (f ∷ facts) × (p m ≡ true) × In m (cond b (f ∷ []) (first_that p facts))
    by true e more = (f, inl refl, e, inl refl)
    by false e more = elim (or_cases (p f) (list_any p facts) h) [
      | inl k ↦ absurd (true≢false (sym k ∙ e))
      | inr k ↦ let r = more k in (r.0, inr r.1, r.2, r.3)
    ]

-- ---- terms as they are written

abbrev at : List Obj → Term → Term
at kept t = term_at (kept_before kept Point) t

terms_map : (kept : List Obj) (ms : List Mono) → map (λ (m : Mono). m.term) (map (mono_at (kept_before kept Point)) ms) ≡ map (at kept) (map (λ (m : Mono). m.term) ms)
terms_map kept [] = refl
terms_map kept (m ∷ ms) = ap (λ ts. at kept m.term ∷ ts) (terms_map kept ms)

sums_map : (kept : List Obj) (x y : List Mono) → map (λ (m : Mono). m.term) (map (mono_at (kept_before kept Point)) x ++ map (mono_at (kept_before kept Point)) y) ≡ map (at kept) (map (λ (m : Mono). m.term) (x ++ y))
sums_map kept x y = ap (λ ms. map (λ (m : Mono). m.term) ms) (sym (map-append (mono_at (kept_before kept Point)) x y)) ∙ terms_map kept (x ++ y)

terms_at : (kept : List Obj) (a : Atom) → terms_of_atom (atom_at (kept_before kept Point) (kept_before kept Line) (kept_before kept Circle) a) ≡ map (at kept) (terms_of_atom a)
terms_at kept (MagEq x y) = sums_map kept x y
terms_at kept (MagLt x y) = sums_map kept x y
terms_at kept a = refl

any_at : (kept : List Obj) (t : Term) (ts : List Term) → list_any (term_eq t) ts ≡ true → list_any (term_eq (at kept t)) (map (at kept) ts) ≡ true
any_at kept t [] h = absurd (true≢false (sym h))
any_at kept t (u ∷ ts) h = elim (or_cases (term_eq t u) (list_any (term_eq t) ts) h) [
  | inl e ↦ or_left (term_eq (at kept t) (at kept u)) (list_any (term_eq (at kept t)) (map (at kept) ts)) (ap (λ x. term_eq (at kept t) (at kept x)) (sym (term_eq_is t u e)) ∙ term_eq_same (at kept t))
  | inr k ↦ or_right (term_eq (at kept t) (at kept u)) (list_any (term_eq (at kept t)) (map (at kept) ts)) (any_at kept t ts k)
]

-- a literal that has the term has it over the kept points
pub written_at : (kept : List Obj) (t : Term) (l : Lit) → lit_has_term t l ≡ true → lit_has_term (at kept t) (lit_among_kept kept l) ≡ true
written_at kept t l h = ap (list_any (term_eq (at kept t))) (terms_at kept l.atom) ∙ any_at kept t (terms_of_atom l.atom) h

abbrev pub wanted_at : List Obj → Option Lit → Option Lit
wanted_at kept wanted = option_map (lit_among_kept kept) wanted

wanted_stays : (kept : List Obj) (t : Term) (wanted : Option Lit) → list_any (term_eq t) (terms_of_wanted wanted) ≡ true → list_any (term_eq (at kept t)) (terms_of_wanted (wanted_at kept wanted)) ≡ true
wanted_stays kept t None h = absurd (true≢false (sym h))
wanted_stays kept t (Some l) h = written_at kept t l h

looked_unless : (b : Bool) (ls : List Lit) (m : Lit) → b ≡ false → In m ls → In m (cond b [] ls)
looked_unless true ls m e i = absurd (true≢false e)
looked_unless false ls m e i = i

abbrev pub stands : List Lit → Option Lit → Term → Bool
stands facts wanted t = list_any (term_eq t) (terms_of_step facts wanted)

-- a term of the step is one still, where the first fact that has it is looked up
pub term_stays : (kept : List Obj) (facts now looked : List Lit) (wanted : Option Lit) (t : Term) → Stays kept facts now looked → Covered kept looked (of_term facts wanted t)
    → stands facts wanted t ≡ true → stands now (wanted_at kept wanted) (at kept t) ≡ true
term_stays kept facts now looked wanted t st c h = elim (or_cases (term_eq t Right) (list_any (term_eq t) (terms_of_lits facts ++ terms_of_wanted wanted)) h) [
  | inl e ↦ or_left (term_eq t' Right) rest' (ap (λ x. term_eq (at kept x) Right) (term_eq_is t Right e))
  | inr k ↦ or_right (term_eq t' Right) rest' (list_any-append (term_eq t') (terms_of_lits now) (terms_of_wanted (wanted_at kept wanted)) ∙ in_either_list (list_any-append' k))
]
  where
    t' : Term
    t' = at kept t

    rest' : Bool
    rest' = list_any (term_eq (at kept t)) (terms_of_lits now ++ terms_of_wanted (wanted_at kept wanted))

    list_any-append' : list_any (term_eq t) (terms_of_lits facts ++ terms_of_wanted wanted) ≡ true → (list_any (term_eq t) (terms_of_lits facts) || list_any (term_eq t) (terms_of_wanted wanted)) ≡ true
    list_any-append' k = sym (list_any-append (term_eq t) (terms_of_lits facts) (terms_of_wanted wanted)) ∙ k

    in_facts : list_any (term_eq t) (terms_of_wanted wanted) ≡ false → list_any (term_eq t) (terms_of_lits facts) ≡ true → list_any (term_eq (at kept t)) (terms_of_lits now) ≡ true
    in_facts none k =
        let r = first_in (lit_has_term t) facts (sym (in_lits t facts) ∙ k) in
        let up = c.lits r.0 (looked_unless (list_any (term_eq t) (terms_of_wanted wanted)) (first_that (lit_has_term t) facts) r.0 none r.3) in
        let n = st.there r.0 r.1 up in
        in_lits (at kept t) now ∙ any_in (lit_has_term (at kept t)) (lit_among_kept kept r.0) now n.0 (written_at kept t r.0 r.2)

    in_either_list : (list_any (term_eq t) (terms_of_lits facts) || list_any (term_eq t) (terms_of_wanted wanted)) ≡ true
        → (list_any (term_eq (at kept t)) (terms_of_lits now) || list_any (term_eq (at kept t)) (terms_of_wanted (wanted_at kept wanted))) ≡ true
    in_either_list k = elim (cases_Bool (list_any (term_eq t) (terms_of_wanted wanted))) [
      | inl w ↦ or_right (list_any (term_eq (at kept t)) (terms_of_lits now)) (list_any (term_eq (at kept t)) (terms_of_wanted (wanted_at kept wanted))) (wanted_stays kept t wanted w)
      | inr none ↦ elim (or_cases (list_any (term_eq t) (terms_of_lits facts)) (list_any (term_eq t) (terms_of_wanted wanted)) k) [
        | inl f ↦ or_left (list_any (term_eq (at kept t)) (terms_of_lits now)) (list_any (term_eq (at kept t)) (terms_of_wanted (wanted_at kept wanted))) (in_facts none f)
        | inr w ↦ absurd (true≢false (sym w ∙ none))
      ]
    ]

-- ---- ends that are apart

abbrev differ : ℕ → ℕ → Lit
differ a b = negation (are_equal_points a b)

parting : (facts : List Lit) (a b : ℕ) → are_apart facts a b ≡ true → list_any (parts_ends (Seg a b)) facts ≡ true
parting facts a b h = elim (or_cases (has facts (differ a b)) (has facts (differ b a) || false) h) [
  | inl k ↦ let r = has_in facts (differ a b) k in any_in (parts_ends (Seg a b)) r.0 facts r.1 (or_left (same_lit r.0 (differ a b)) (same_lit r.0 (differ b a)) r.2)
  | inr k ↦ elim (or_cases (has facts (differ b a)) false k) [
    | inl j ↦ let r = has_in facts (differ b a) j in any_in (parts_ends (Seg a b)) r.0 facts r.1 (or_right (same_lit r.0 (differ a b)) (same_lit r.0 (differ b a)) r.2)
    | inr f ↦ absurd (true≢false (sym f))
  ]
]

-- ends that a looked-up fact parts are apart still
pub apart_stays : (kept : List Obj) (facts now looked : List Lit) (a b : ℕ) → Stays kept facts now looked → ((l : Lit) → In l (first_that (parts_ends (Seg a b)) facts) → has looked l ≡ true)
    → AllKept kept (objects_of_term (Seg a b)) → are_apart facts a b ≡ true → are_apart now (kept_before kept Point a) (kept_before kept Point b) ≡ true
apart_stays kept facts now looked a b st up o h =
    let r = first_in (parts_ends (Seg a b)) facts (parting facts a b h) in
    let n = st.there r.0 r.1 (up r.0 r.3) in
    elim (or_cases (same_lit r.0 (differ a b)) (same_lit r.0 (differ b a)) r.2) [
      | inl e ↦ or_left (has now (differ (kept_before kept Point a) (kept_before kept Point b))) (has now (differ (kept_before kept Point b) (kept_before kept Point a)) || false)
          (in_has now (lit_among_kept kept r.0) (differ (kept_before kept Point a) (kept_before kept Point b)) n.0 (same_at kept r.0 (differ a b) n.1 one ∙ e))
      | inr e ↦ or_right (has now (differ (kept_before kept Point a) (kept_before kept Point b))) (has now (differ (kept_before kept Point b) (kept_before kept Point a)) || false)
          (or_left (has now (differ (kept_before kept Point b) (kept_before kept Point a))) false
          (in_has now (lit_among_kept kept r.0) (differ (kept_before kept Point b) (kept_before kept Point a)) n.0 (same_at kept r.0 (differ b a) n.1 other ∙ e)))
    ]
  where
    one : OverLit kept (differ a b)
    one = o

    other : OverLit kept (differ b a)
    other x i = elim i [
      | inl e ↦ o x (inr (inl e))
      | inr j ↦ elim j [
        | inl e ↦ o x (inl e)
        | inr f ↦ absurd f
      ]
    ]
