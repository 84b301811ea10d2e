-- How many rows and terms a metric system has.
use Rattle.std.proofs.Common.{◌≡◌, suc, ◌+◌, ◌≤◌, List, [], ◌∷◌, ◌++◌, map, length, refl, sym, ap, ◌∙◌, subst, arith, cond, Bool, true, false, ◌&&◌, true≢false, ◌⊎◌, inl, inr, Option, Some, None, leb-true, length-append}
use Rattle.std.specs.Prelude.{flat_map, nat_le, is_some}
use Rattle.std.specs.Option.{option_map, option_map_or}
use Rattle.std.specs.List.{list_all, cons_option}
use Rattle.std.proofs.lemmas.List.{length-map}
use Rattle.e_literal.specs.declared.object.Kind.{Kind}
use Rattle.e_literal.specs.declared.object.Kind.TheVariants.{Segment, Angle, Area as AreaKind}
use Rattle.e_literal.specs.declared.object.Mono.{Mono}
use Rattle.e_literal.specs.declared.object.Term.{Term}
use Rattle.e_literal.specs.declared.object.Term.TheVariants.{Seg, Ang, Area, Right}
use Rattle.e_literal.specs.declared.literal.Lit.{Lit}
use Rattle.e_literal.specs.Literal.{kind_of_sums, kind_of_term}
use Rattle.e_literal.specs.Facts.{are_apart, is_metric}
use Rattle.e_literal.specs.Rows.{row_of_lit, has_term, first_terms}
use Rattle.e_literal.specs.WellFormed.{same_kind, is_bounded_coefficient, are_well_formed_sums, is_well_formed_atom, is_well_formed}
use Rattle.e_literal.proofs.Valued.{IsMagEq, IsMagLt, IsDiagram, split}
use Rattle.e_literal.proofs.Booleans.{and_left, and_right}
use Rattle.e_clause.specs.declared.cert.RowName.{RowName}
use Rattle.e_clause.specs.declared.cert.RowName.TheVariants.{Fact, Goal, Pos}
use Rattle.e_clause.specs.Assignment.{terms_of_atom, terms_of_lits}
use Rattle.e_clause.specs.Laws.{is_well_formed_metric}
use Rattle.e_clause.specs.System.{NamedRow, named_row, is_of_kind, of_kind, against_goal, rows_named, rows_of_term, rows_of_kind, pos_row, system}
use Rattle.e_clause.proofs.Carried.{good_against}
use Rattle.e_metric.specs.ListedTerms.{with_listed, distinct_terms}
use Rattle.e_metric.proofs.terms.FirstTerms.{with_right}

-- ---- one literal

sums_some : (x y : List Mono) → are_well_formed_sums x y ≡ true → 1 ≤ length (map (λ (m : Mono). m.term) (x ++ y))
sums_some x y h = omega (arith, length-map (x ++ y) (λ (m : Mono). m.term), leb-true 1 (length (x ++ y)) (and_left (nat_le 1 (length (x ++ y))) (nat_le (length (x ++ y)) 32 && each) h))
  where
    each : Bool
    each = list_all (λ (m : Mono). same_kind (kind_of_term m.term) (kind_of_sums x y) && is_bounded_coefficient m.coeff) (x ++ y)

sums_few : (x y : List Mono) → are_well_formed_sums x y ≡ true → length (map (λ (m : Mono). m.term) (x ++ y)) ≤ 32
sums_few x y h = omega (
  arith,
  length-map (x ++ y) (λ (m : Mono). m.term),
  leb-true (length (x ++ y)) 32
      (and_left (nat_le (length (x ++ y)) 32) each (and_right (nat_le 1 (length (x ++ y))) (nat_le (length (x ++ y)) 32 && each) h)),
)
  where
    each : Bool
    each = list_all (λ (m : Mono). same_kind (kind_of_term m.term) (kind_of_sums x y) && is_bounded_coefficient m.coeff) (x ++ y)

-- a literal of a kind has a term
some_terms : (which : Kind) (l : Lit) → is_well_formed l ≡ true → is_of_kind which l ≡ true → 1 ≤ length (terms_of_atom l.atom)
some_terms which l h k = by (split l.atom)
  where
    by : (IsMagEq l.atom ⊎ IsMagLt l.atom) ⊎ IsDiagram l.atom → 1 ≤ length (terms_of_atom l.atom)
    by (inl (inl p)) = subst (λ a. 1 ≤ length (terms_of_atom a)) (sym p.2) (sums_some p.0 p.1 (ap is_well_formed_atom (sym p.2) ∙ h))
    by (inl (inr p)) = subst (λ a. 1 ≤ length (terms_of_atom a)) (sym p.2) (sums_some p.0 p.1 (ap is_well_formed_atom (sym p.2) ∙ h))
    by (inr d) = absurd (true≢false (sym k ∙ ap (λ (o : Option Kind). option_map_or (same_kind which) o false) d.no_kind))

few_terms : (l : Lit) → is_well_formed l ≡ true → is_metric l ≡ true → length (terms_of_atom l.atom) ≤ 32
few_terms l h k = by (split l.atom)
  where
    by : (IsMagEq l.atom ⊎ IsMagLt l.atom) ⊎ IsDiagram l.atom → length (terms_of_atom l.atom) ≤ 32
    by (inl (inl p)) = subst (λ a. length (terms_of_atom a) ≤ 32) (sym p.2) (sums_few p.0 p.1 (ap is_well_formed_atom (sym p.2) ∙ h))
    by (inl (inr p)) = subst (λ a. length (terms_of_atom a) ≤ 32) (sym p.2) (sums_few p.0 p.1 (ap is_well_formed_atom (sym p.2) ∙ h))
    by (inr d) = absurd (true≢false (sym k ∙ ap (λ (o : Option Kind). is_some o) d.no_kind))

-- ---- rows

literal_rows : (which : Kind) (name : Lit → RowName) (ls : List Lit) → list_all is_well_formed ls ≡ true → length (rows_named name (of_kind which ls)) ≤ length (terms_of_lits (of_kind which ls))
literal_rows which name [] h = omega arith
literal_rows which name (l ∷ ls) h = by (is_of_kind which l) refl (literal_rows which name ls (and_right (is_well_formed l) (list_all is_well_formed ls) h))
  where
    rest : List Lit
    rest = of_kind which ls

    one : (o : Option NamedRow) → length (cons_option o (rows_named name rest)) ≤ suc (length (rows_named name rest))
    one None = omega arith
    one (Some n) = omega arith

    by : (b : Bool) → is_of_kind which l ≡ b → length (rows_named name rest) ≤ length (terms_of_lits rest)
        → length (rows_named name (cons_option (cond b (Some l) None) rest)) ≤ length (terms_of_lits (cons_option (cond b (Some l) None) rest))
    by true e ih = omega (
      arith,
      ih,
      one (option_map (named_row (name l)) (row_of_lit l)),
      length-append (terms_of_atom l.atom) (terms_of_lits rest),
      some_terms which l (and_left (is_well_formed l) (list_all is_well_formed ls) h) e,
    )
    by false e ih = ih

kind_terms : (which : Kind) (ls : List Lit) → length (terms_of_lits (of_kind which ls)) ≤ length (terms_of_lits ls)
kind_terms which [] = omega arith
kind_terms which (l ∷ ls) = by (is_of_kind which l) (kind_terms which ls)
  where
    rest : List Lit
    rest = of_kind which ls

    by : (b : Bool) → length (terms_of_lits rest) ≤ length (terms_of_lits ls) → length (terms_of_lits (cons_option (cond b (Some l) None) rest)) ≤ length (terms_of_atom l.atom ++ terms_of_lits ls)
    by true ih = omega (arith, ih, length-append (terms_of_atom l.atom) (terms_of_lits rest), length-append (terms_of_atom l.atom) (terms_of_lits ls))
    by false ih = omega (arith, ih, length-append (terms_of_atom l.atom) (terms_of_lits ls))

first_length : (seen ts : List Term) → length (first_terms seen ts) ≤ length ts
first_length seen [] = omega arith
first_length seen (t ∷ ts) = by (has_term seen t) (λ bs. first_length bs ts)
  where
    by : (b : Bool) → ((bs : List Term) → length (first_terms bs ts) ≤ length ts) → length (cond b (first_terms seen ts) (t ∷ first_terms (t ∷ seen) ts)) ≤ suc (length ts)
    by true ih = omega (arith, ih seen)
    by false ih = omega (arith, ih (t ∷ seen))

term_rows : (facts : List Lit) (ts : List Term) → length (flat_map (rows_of_term facts) ts) ≤ length ts
term_rows facts [] = omega arith
term_rows facts (t ∷ ts) = omega (arith, length-append (rows_of_term facts t) (flat_map (rows_of_term facts) ts), one t, term_rows facts ts)
  where
    one : (u : Term) → length (rows_of_term facts u) ≤ 1
    one (Seg a b) = by (are_apart facts a b)
      where
        by : (c : Bool) → length (cond c (named_row (Pos (Seg a b)) (pos_row (Seg a b)) ∷ []) []) ≤ 1
        by true = omega arith
        by false = omega arith
    one (Ang a b c) = omega arith
    one (Area a b c) = omega arith
    one Right = omega arith

right_rows : (which : Kind) → length (rows_of_kind which) ≤ 1
right_rows Segment = omega arith
right_rows Angle = omega arith
right_rows AreaKind = omega arith

-- ---- a system

wanted_terms : (wanted : Option Lit) → is_well_formed_metric wanted ≡ true → length (terms_of_lits (against_goal wanted)) ≤ 32
wanted_terms None h = omega arith
wanted_terms (Some l) h = omega (arith, length-append (terms_of_atom l.atom) [], few_terms l (and_right (is_metric l) (is_well_formed l) h) (and_left (is_metric l) (is_well_formed l) h))

pub system_length : (which : Kind) (facts : List Lit) (wanted : Option Lit) → list_all is_well_formed facts ≡ true → is_well_formed_metric wanted ≡ true → length (terms_of_lits facts) ≤ 1100
    → length (system which facts wanted) + length (with_listed (distinct_terms which facts wanted) (Right ∷ [])) ≤ 4096
system_length which facts wanted good good_wanted few =
    (let known = of_kind which facts in
    let negated_at = of_kind which (against_goal wanted) in
    let ts = terms_of_lits known ++ terms_of_lits negated_at in
    let a = rows_named (λ l. Fact l) known in
    let b = rows_named (λ l. Goal) negated_at in
    let c = flat_map (rows_of_term facts) (first_terms [] ts) in
    let d = rows_of_kind which in
    omega (
      arith,
      few,
      length-append a (b ++ (c ++ d)),
      length-append b (c ++ d),
      length-append c d,
      literal_rows which (λ l. Fact l) facts good,
      literal_rows which (λ l. Goal) (against_goal wanted) (good_against wanted good_wanted),
      term_rows facts (first_terms [] ts),
      right_rows which,
      first_length [] ts,
      length-append (terms_of_lits known) (terms_of_lits negated_at),
      kind_terms which facts,
      kind_terms which (against_goal wanted),
      wanted_terms wanted good_wanted,
      ap (λ (us : List Term). length us) (with_right ts),
      first_length [] (ts ++ Right ∷ []),
      length-append ts (Right ∷ []),
    ))
