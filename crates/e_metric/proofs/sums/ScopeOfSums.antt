-- A certificate names no object but those of the facts and of the wanted literal.
use Rattle.std.proofs.Common.{◌≡◌, List, [], ◌∷◌, ◌++◌, map, refl, sym, ap, ◌∙◌, cond, Bool, true, false, true≢false, ◌⊎◌, inl, inr, Option, Some, None, append_assoc}
use Rattle.std.specs.List.{list_all}
use Rattle.std.proofs.lemmas.List.Folds.{list_all-append}
use Rattle.std.proofs.lemmas.Bool.{and_from, or_cases}
use Rattle.e_literal.specs.declared.object.Kind.{Kind}
use Rattle.e_literal.specs.declared.object.Kind.TheVariants.{Segment, Angle, Area as AreaKind}
use Rattle.e_literal.specs.declared.object.Mono.{Mono}
use Rattle.e_literal.specs.declared.object.Scope.{Scope}
use Rattle.e_literal.specs.declared.object.Term.{Term}
use Rattle.e_literal.specs.declared.object.Term.TheVariants.{Seg, Ang, Area, Right}
use Rattle.e_literal.specs.declared.literal.Lit.{Lit}
use Rattle.e_literal.specs.declared.literal.Atom.{Atom}
use Rattle.e_literal.specs.declared.literal.Atom.TheVariants.{MagEq, MagLt}
use Rattle.e_literal.specs.Literal.{kind_of_atom, is_in_scope, all_in_scope, objects_of_term, objects_of_sum, objects_of_atom}
use Rattle.e_literal.specs.Same.{term_eq}
use Rattle.e_literal.specs.Width.{is_among}
use Rattle.e_literal.specs.Facts.{are_apart}
use Rattle.e_literal.specs.Rows.{first_terms}
use Rattle.e_literal.proofs.Terms.{term_eq_is, among_first, among_rest, among_either}
use Rattle.e_literal.proofs.Valued.{IsMagEq, IsMagLt, IsDiagram, split}
use Rattle.e_literal.proofs.Booleans.{and_left, and_right}
use Rattle.e_clause.specs.declared.cert.RowName.{RowName}
use Rattle.e_clause.specs.declared.cert.RowName.TheVariants.{Fact, Goal, Pos}
use Rattle.e_clause.specs.declared.cert.Sums.{Sums}
use Rattle.e_clause.specs.declared.cert.Sums.TheVariants.{One as OneSum, Two as TwoSums}
use Rattle.e_clause.specs.Assignment.{terms_of_atom, terms_of_lits, terms_of_wanted, terms_of_step}
use Rattle.e_clause.specs.System.{NamedRow, named_row, against_goal, rows_of_term, rows_of_kind, pos_row, system}
use Rattle.e_clause.specs.MetricCertificate.{row_name_in, are_sums_in}
use Rattle.e_clause.proofs.Named.{Each, EachLit, each_literal, each_system}
use Rattle.e_clause.proofs.Solved.{terms_of_system, system_among, first_among}
use Rattle.e_fraction.specs.declared.row.Row.{Row as GivenRow}
use Rattle.e_simplex.specs.declared.decision.Absurdity.{Absurdity}
use Rattle.e_metric.specs.ListedTerms.{with_listed, distinct_terms}
use Rattle.e_metric.specs.inner.Certificate.{certificate_sums}
use Rattle.e_metric.specs.MetricAnswers.{wanted_in}
use Rattle.e_metric.proofs.terms.FirstTerms.{with_right}
use Rattle.e_metric.proofs.sums.RowNames.{each_of, each_name, sums_have}
use Rattle.e_metric.specs.RowOrder.{AreReordered}
use Rattle.e_metric.proofs.rows.RowOrder.{each_reordered}

-- a diagram atom has no terms
no_terms : (a : Atom) → kind_of_atom a ≡ None → terms_of_atom a ≡ []
no_terms (MagEq x y) h = absurd (cc)
no_terms (MagLt x y) h = absurd (cc)
no_terms a h = refl

module _ (s : Scope) where
  -- the objects of the term are in scope
  abbrev pub term_in : Term → Bool
  term_in t = list_all (is_in_scope s) (objects_of_term t)

  sum_terms : (ms : List Mono) (t : Term) → list_all (is_in_scope s) (objects_of_sum ms) ≡ true → is_among (map (λ (m : Mono). m.term) ms) t ≡ true → term_in t ≡ true
  sum_terms [] t h k = absurd (true≢false (sym k))
  sum_terms (m ∷ ms) t h k =
      (let parts = sym (list_all-append (is_in_scope s) (objects_of_term m.term) (objects_of_sum ms)) ∙ h in
      elim (or_cases (term_eq t m.term) (is_among (map (λ (n : Mono). n.term) ms) t) k) [
        | inl e ↦ ap term_in (term_eq_is t m.term e) ∙ and_left (term_in m.term) (list_all (is_in_scope s) (objects_of_sum ms)) parts
        | inr r ↦ sum_terms ms t (and_right (term_in m.term) (list_all (is_in_scope s) (objects_of_sum ms)) parts) r
      ])

  sum_objects : (x y : List Mono) → objects_of_sum (x ++ y) ≡ objects_of_sum x ++ objects_of_sum y
  sum_objects [] y = refl
  sum_objects (m ∷ ms) y = ap (λ os. objects_of_term m.term ++ os) (sum_objects ms y) ∙ sym (append_assoc (objects_of_term m.term) (objects_of_sum ms) (objects_of_sum y))

  atom_terms : (a : Atom) (t : Term) → list_all (is_in_scope s) (objects_of_atom a) ≡ true → is_among (terms_of_atom a) t ≡ true → term_in t ≡ true
  atom_terms a t h k = by (split a)
    where
      by : (IsMagEq a ⊎ IsMagLt a) ⊎ IsDiagram a → term_in t ≡ true
      by (inl (inl p)) = sum_terms (p.0 ++ p.1) t (ap (list_all (is_in_scope s)) (sum_objects p.0 p.1) ∙ sym (ap (λ b. list_all (is_in_scope s) (objects_of_atom b)) p.2) ∙ h)
          (sym (ap (λ b. is_among (terms_of_atom b) t) p.2) ∙ k)
      by (inl (inr p)) = sum_terms (p.0 ++ p.1) t (ap (list_all (is_in_scope s)) (sum_objects p.0 p.1) ∙ sym (ap (λ b. list_all (is_in_scope s) (objects_of_atom b)) p.2) ∙ h)
          (sym (ap (λ b. is_among (terms_of_atom b) t) p.2) ∙ k)
      by (inr d) = absurd (true≢false (sym k ∙ ap (λ ts. is_among ts t) (no_terms a d.no_kind)))

  lits_terms : (ls : List Lit) (t : Term) → list_all (all_in_scope s) ls ≡ true → is_among (terms_of_lits ls) t ≡ true → term_in t ≡ true
  lits_terms [] t h k = absurd (true≢false (sym k))
  lits_terms (l ∷ ls) t h k = elim (among_either (terms_of_atom l.atom) (terms_of_lits ls) t k) [
    | inl a ↦ atom_terms l.atom t (and_left (all_in_scope s l) (list_all (all_in_scope s) ls) h) a
    | inr b ↦ lits_terms ls t (and_right (all_in_scope s l) (list_all (all_in_scope s) ls) h) b
  ]

  module _ (facts : List Lit) (wanted : Option Lit) (known : list_all (all_in_scope s) facts ≡ true) (goal : wanted_in s wanted ≡ true) where
    wanted_terms : (o : Option Lit) (t : Term) → wanted_in s o ≡ true → is_among (terms_of_wanted o) t ≡ true → term_in t ≡ true
    wanted_terms None t h k = absurd (true≢false (sym k))
    wanted_terms (Some l) t h k = atom_terms l.atom t h k

    step_term : (t : Term) → is_among (terms_of_step facts wanted) t ≡ true → term_in t ≡ true
    step_term t h = elim (or_cases (term_eq t Right) (is_among (terms_of_lits facts ++ terms_of_wanted wanted) t) h) [
      | inl e ↦ ap term_in (term_eq_is t Right e)
      | inr k ↦ elim (among_either (terms_of_lits facts) (terms_of_wanted wanted) t k) [
        | inl a ↦ lits_terms facts t known a
        | inr b ↦ wanted_terms wanted t goal b
      ]
    ]

    -- ---- the names of the rows

    abbrev InScope : NamedRow → Type 0
    InScope n = row_name_in s n.name ≡ true

    each_known : (ls : List Lit) → list_all (all_in_scope s) ls ≡ true → EachLit (λ l. all_in_scope s l ≡ true) ls
    each_known [] h = tt
    each_known (l ∷ ls) h = (and_left (all_in_scope s l) (list_all (all_in_scope s) ls) h, each_known ls (and_right (all_in_scope s l) (list_all (all_in_scope s) ls) h))

    each_any : (ls : List Lit) → EachLit (λ l. Unit {0}) ls
    each_any [] = tt
    each_any (l ∷ ls) = (tt, each_any ls)

    term_named : (t : Term) → is_among (terms_of_step facts wanted) t ≡ true → Each InScope (rows_of_term facts t)
    term_named (Seg a b) h = by (are_apart facts a b)
      where
        by : (c : Bool) → Each InScope (cond c (named_row (Pos (Seg a b)) (pos_row (Seg a b)) ∷ []) [])
        by true = (step_term (Seg a b) h, tt)
        by false = tt
    term_named (Ang a b c) h = (step_term (Ang a b c) h, tt)
    term_named (Area a b c) h = tt
    term_named Right h = tt

    kind_named : (which : Kind) → Each InScope (rows_of_kind which)
    kind_named Segment = tt
    kind_named Angle = (refl, tt)
    kind_named AreaKind = tt

    names_each : (which : Kind) → Each InScope (system which facts wanted)
    names_each which = each_system InScope which facts wanted
        (each_literal InScope (λ l. all_in_scope s l ≡ true) which Fact facts (each_known facts known) (λ l r h of e. h))
        (each_literal InScope (λ l. Unit {0}) which (λ l. Goal) (against_goal wanted) (each_any (against_goal wanted)) (λ l r h of e. refl))
        (λ t a. term_named t (system_among which facts wanted t a))
        (kind_named which)

    -- ---- the sums

    sums_scoped : (x : Sums) → are_sums_in s x ≡ each_of (row_name_in s) x
    sums_scoped (OneSum sum) = refl
    sums_scoped (TwoSums differs above below) = refl

    all_terms : (ts : List Term) → ((t : Term) → is_among ts t ≡ true → term_in t ≡ true) → list_all term_in ts ≡ true
    all_terms [] h = refl
    all_terms (t ∷ ts) h = and_from (term_in t) (list_all term_in ts) (h t (among_first t ts)) (all_terms ts (λ u k. h u (among_rest t ts u k)))

    -- the sums of a system
    pub in_scope : (which : Kind) (ns : List NamedRow) (order : AreReordered ns (system which facts wanted)) (names : List RowName) (gs : List GivenRow) (a : Absurdity) → names ≡ map (λ (n : NamedRow). n.name) ns
        → are_sums_in s (certificate_sums names gs (with_listed (distinct_terms which facts wanted) (Right ∷ [])) a) ≡ true
    in_scope which ns order names gs a e =
        (let written = terms_of_system which facts wanted in
        sums_scoped (certificate_sums names gs (with_listed (distinct_terms which facts wanted) (Right ∷ [])) a)
        ∙ sums_have (row_name_in s) names gs (with_listed (distinct_terms which facts wanted) (Right ∷ [])) a (record { goal = refl; above = refl; below = refl })
        (ap (list_all (row_name_in s)) e ∙ each_name (row_name_in s) ns (each_reordered ns (system which facts wanted) order InScope (names_each which)))
        (ap (list_all term_in) (with_right written)
        ∙ all_terms (first_terms [] (written ++ Right ∷ [])) (λ t k. elim (among_either written (Right ∷ []) t (first_among [] (written ++ Right ∷ []) t k)) [
          | inl m ↦ step_term t (system_among which facts wanted t m)
          | inr m ↦ elim (or_cases (term_eq t Right) false m) [ inl q ↦ ap term_in (term_eq_is t Right q) | inr q ↦ absurd (true≢false (sym q)) ]
        ])))
