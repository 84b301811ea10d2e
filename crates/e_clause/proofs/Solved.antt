-- A model solves each metric system.
use Rattle.std.proofs.Common.{◌≡◌, ℕ, List, [], ◌∷◌, ◌++◌, map, refl, sym, ap, subst, Option, Some, None, Bool, true, false, cond, ◌&&◌, true≢false, inl, inr}
use Rattle.std.specs.Prelude.{flat_map}
use Rattle.std.specs.Option.{option_map}
use Rattle.std.specs.List.{cons_option}
use Rattle.std.proofs.lemmas.Bool.{or_left, or_cases}
use Rattle.e_literal.specs.declared.object.Kind.{Kind}
use Rattle.e_literal.specs.declared.object.Kind.TheVariants.{Segment, Angle, Area as AreaKind}
use Rattle.e_literal.specs.declared.object.Term.{Term}
use Rattle.e_literal.specs.declared.object.Term.TheVariants.{Seg, Ang, Area, Right}
use Rattle.e_literal.specs.declared.literal.Lit.{Lit}
use Rattle.e_literal.specs.Literal.{negation}
use Rattle.e_literal.specs.Same.{term_eq}
use Rattle.e_literal.specs.Width.{is_among}
use Rattle.e_literal.specs.Truth.{holds, all_hold}
use Rattle.e_literal.specs.Facts.{are_apart}
use Rattle.e_literal.specs.Rows.{Row, row_of_lit, has_term, first_terms}
use Rattle.e_literal.specs.Solution.{Satisfy, values_for_all}
use Rattle.e_literal.proofs.Terms.{among_either, among_left, among_right, among_first, among_rest}
use Rattle.e_literal.proofs.Valued.{so_of_holds}
use Rattle.e_literal.proofs.Booleans.{and_left, and_right}
use Rattle.e_clause.specs.declared.cert.RowName.{RowName}
use Rattle.e_clause.specs.declared.cert.RowName.TheVariants.{Fact, Goal, Pos}
use Rattle.e_clause.specs.Assignment.{terms_of_atom, terms_of_lits, terms_of_wanted, terms_of_step}
use Rattle.e_clause.specs.Metric.{wanted_fails}
use Rattle.e_clause.specs.System.{NamedRow, named_row, is_of_kind, of_kind, against_goal, rows_named, pos_row, rows_of_term, rows_of_kind, system}
use Rattle.e_clause.proofs.Spread.{IsModel, among_facts, among_wanted}
use Rattle.e_clause.proofs.Refuted.{pos_so, top_so, negation_holds}

-- ---- rows of lists

-- the values satisfy the rows, whatever they are named
abbrev pub SatisfyNamed : (Term → ℕ) → List NamedRow → Type 0
SatisfyNamed w ns = Satisfy w (map (λ (n : NamedRow). n.row) ns)

pub satisfy-append : (w : Term → ℕ) (ns ms : List NamedRow) → SatisfyNamed w ns → SatisfyNamed w ms → SatisfyNamed w (ns ++ ms)
satisfy-append w [] ms h g = g
satisfy-append w (n ∷ ns) ms h g = (h.0, satisfy-append w ns ms h.1 g)

satisfy-flat_map : (w : Term → ℕ) (f : Term → List NamedRow) (ts : List Term) → ((t : Term) → is_among ts t ≡ true → SatisfyNamed w (f t)) → SatisfyNamed w (flat_map f ts)
satisfy-flat_map w f [] h = tt
satisfy-flat_map w f (t ∷ ts) h =
    satisfy-append w (f t) (flat_map f ts) (h t (among_first t ts)) (satisfy-flat_map w f ts (λ s a. h s (among_rest t ts s a)))

-- the rows of true literals are so
literals_so : (w : Term → ℕ) (which : Kind) (name : Lit → RowName) (ls : List Lit) → all_hold (values_for_all w) ls ≡ true → SatisfyNamed w (rows_named name (of_kind which ls))
literals_so w which name [] h = tt
literals_so w which name (l ∷ ls) h =
    by (is_of_kind which l) (row_of_lit l) refl (literals_so w which name ls (and_right (holds (values_for_all w) l) (all_hold (values_for_all w) ls) h))
  where
    rest : List Lit
    rest = of_kind which ls

    one : (o : Option Row) → row_of_lit l ≡ o → SatisfyNamed w (rows_named name rest) → SatisfyNamed w (cons_option (option_map (named_row (name l)) o) (rows_named name rest))
    one None e ih = ih
    one (Some r) e ih = (so_of_holds l r w e (and_left (holds (values_for_all w) l) (all_hold (values_for_all w) ls) h), ih)

    by : (b : Bool) (o : Option Row) → row_of_lit l ≡ o → SatisfyNamed w (rows_named name rest) → SatisfyNamed w (rows_named name (cons_option (cond b (Some l) None) rest))
    by true o e ih = subst (λ p. SatisfyNamed w (cons_option (option_map (named_row (name l)) p) (rows_named name rest))) (sym e) (one o e ih)
    by false o e ih = ih

-- ---- the terms of a system

-- a term that stands first in a list is in it
pub first_among : (seen ts : List Term) (t : Term) → is_among (first_terms seen ts) t ≡ true → is_among ts t ≡ true
first_among seen [] t h = h
first_among seen (s ∷ ss) t h = by (has_term seen s) h (λ bs. first_among bs ss t)
  where
    by : (b : Bool) → is_among (cond b (first_terms seen ss) (s ∷ first_terms (s ∷ seen) ss)) t ≡ true → ((bs : List Term) → is_among (first_terms bs ss) t ≡ true → is_among ss t ≡ true)
        → is_among (s ∷ ss) t ≡ true
    by true k ih = among_rest s ss t (ih seen k)
    by false k ih = elim (or_cases (term_eq t s) (is_among (first_terms (s ∷ seen) ss) t) k) [
      | inl e ↦ or_left (term_eq t s) (is_among ss t) e
      | inr b ↦ among_rest s ss t (ih (s ∷ seen) b)
    ]

of_kind_among : (which : Kind) (ls : List Lit) (t : Term) → is_among (terms_of_lits (of_kind which ls)) t ≡ true → is_among (terms_of_lits ls) t ≡ true
of_kind_among which [] t h = h
of_kind_among which (l ∷ ls) t h = by (is_of_kind which l) h (of_kind_among which ls t)
  where
    rest : List Lit
    rest = of_kind which ls

    by : (b : Bool) → is_among (terms_of_lits (cons_option (cond b (Some l) None) rest)) t ≡ true → (is_among (terms_of_lits rest) t ≡ true → is_among (terms_of_lits ls) t ≡ true)
        → is_among (terms_of_lits (l ∷ ls)) t ≡ true
    by true k ih = elim (among_either (terms_of_atom l.atom) (terms_of_lits rest) t k) [
      | inl a ↦ among_left (terms_of_atom l.atom) (terms_of_lits ls) t a
      | inr b ↦ among_right (terms_of_atom l.atom) (terms_of_lits ls) t (ih b)
    ]
    by false k ih = among_right (terms_of_atom l.atom) (terms_of_lits ls) t (ih k)

-- the terms of the negated goal are those of the wanted literal
goal_among : (which : Kind) (wanted : Option Lit) (t : Term) → is_among (terms_of_lits (of_kind which (against_goal wanted))) t ≡ true → is_among (terms_of_wanted wanted) t ≡ true
goal_among which None t h = absurd (true≢false (sym h))
goal_among which (Some l) t h = elim (among_either (terms_of_atom l.atom) [] t (of_kind_among which (negation l ∷ []) t h)) [
  | inl a ↦ a
  | inr b ↦ absurd (true≢false (sym b))
]

-- the terms of a system, as they are written in its literals
abbrev pub terms_of_system : Kind → List Lit → Option Lit → List Term
terms_of_system which facts wanted = terms_of_lits (of_kind which facts) ++ terms_of_lits (of_kind which (against_goal wanted))

pub system_among : (which : Kind) (facts : List Lit) (wanted : Option Lit) (t : Term) → is_among (terms_of_system which facts wanted) t ≡ true → is_among (terms_of_step facts wanted) t ≡ true
system_among which facts wanted t h = elim (among_either (terms_of_lits (of_kind which facts)) (terms_of_lits (of_kind which (against_goal wanted))) t h) [
  | inl a ↦ among_facts facts wanted t (of_kind_among which facts t a)
  | inr b ↦ among_wanted facts wanted t (goal_among which wanted t b)
]

-- ---- the systems

module _ (facts : List Lit) (wanted : Option Lit) (w : Term → ℕ) (model : IsModel facts wanted w) where
  term_so : (t : Term) → is_among (terms_of_step facts wanted) t ≡ true → SatisfyNamed w (rows_of_term facts t)
  term_so (Seg a b) h = by (are_apart facts a b) refl
    where
      by : (c : Bool) → are_apart facts a b ≡ c → SatisfyNamed w (cond c (named_row (Pos (Seg a b)) (pos_row (Seg a b)) ∷ []) [])
      by true e = (pos_so (Seg a b) w (model.apart a b h e), tt)
      by false e = tt
  term_so (Ang a b c) h = (top_so (Ang a b c) w (model.within a b c h), tt)
  term_so (Area a b c) h = tt
  term_so Right h = tt

  kind_so : (which : Kind) → SatisfyNamed w (rows_of_kind which)
  kind_so Segment = tt
  kind_so Angle = (pos_so Right w model.right, tt)
  kind_so AreaKind = tt

  against_so : all_hold (values_for_all w) (against_goal wanted) ≡ true
  against_so = by wanted model.wanted_fails
    where
      by : (o : Option Lit) → wanted_fails (values_for_all w) o ≡ true → all_hold (values_for_all w) (against_goal o) ≡ true
      by None h = refl
      by (Some l) h = ap (λ b. b && true) (negation_holds l (values_for_all w) h)

  -- the values of a model satisfy the rows of each system
  pub system_so : (which : Kind) → SatisfyNamed w (system which facts wanted)
  system_so which =
      let terms = first_terms [] (terms_of_system which facts wanted) in
      let later = flat_map (rows_of_term facts) terms ++ rows_of_kind which in
      satisfy-append w (rows_named Fact (of_kind which facts)) (rows_named (λ l. Goal) (of_kind which (against_goal wanted)) ++ later)
      (literals_so w which Fact facts model.facts_hold)
      (satisfy-append w (rows_named (λ l. Goal) (of_kind which (against_goal wanted))) later (literals_so w which (λ l. Goal) (against_goal wanted) against_so)
      (satisfy-append w (flat_map (rows_of_term facts) terms) (rows_of_kind which)
      (satisfy-flat_map w (rows_of_term facts) terms (λ t a. term_so t (system_among which facts wanted t (first_among [] (terms_of_system which facts wanted) t a))))
      (kind_so which)))
