-- What further facts bring to the system of the facts of a kind.
use Rattle.std.proofs.Common.{◌≡◌, ℕ, ◌+◌, ◌<◌, ◌≤◌, take, drop, get_or, take-append-drop, List, [], ◌∷◌, ◌++◌, Bool, true, false, ◌||◌, cond, length, length-append, refl, sym, ap, ap₂, ◌∙◌, subst, arith, None}
use Rattle.std.specs.Prelude.{flat_map}
use Rattle.std.proofs.lemmas.List.{take_more}
use Rattle.std.proofs.lemmas.List.Elements.{filter_map-append}
use Rattle.std.proofs.lemmas.List.Folds.{list_any-append}
use Rattle.std.specs.Option.{option_map}
use Rattle.e_literal.specs.declared.object.Kind.{Kind}
use Rattle.e_literal.specs.declared.object.Term.{Term}
use Rattle.e_literal.specs.declared.object.Term.TheVariants.{Seg, Ang, Area, Right}
use Rattle.e_literal.specs.declared.literal.Lit.{Lit}
use Rattle.e_literal.specs.Facts.{has, are_apart, are_equal_points}
use Rattle.e_literal.specs.Literal.{negation}
use Rattle.e_literal.specs.Rows.{row_of_lit}
use Rattle.e_clause.specs.declared.cert.RowName.TheVariants.{Fact, Pos}
use Rattle.e_clause.specs.Assignment.{terms_of_lits}
use Rattle.e_clause.specs.System.{NamedRow, named_row, pos_row, of_kind, rows_named, rows_of_term, rows_of_kind, system}
use Rattle.e_metric.specs.inner.FurtherRows.{terms_added, rows_added_by_facts, rows_brought_by_facts}
use Rattle.e_metric.specs.ListedTerms.{with_listed, distinct_terms}
use Rattle.e_metric.proofs.terms.FirstTerms.{listed_append, listed_first, none_wanted, kind_append, lits_append}
use Rattle.e_metric.proofs.rows.Forms.{none_more}
use Rattle.e_metric.proofs.rows.SystemRows.{flat_append}
use Rattle.e_metric.specs.RowOrder.{AreReordered}
use Rattle.e_metric.proofs.rows.RowOrder.{two_after}

-- ---- terms that were there bring what they brought

pub more_apart : (facts more : List Lit) (a b : ℕ) → are_apart facts a b ≡ true → are_apart (facts ++ more) a b ≡ true
more_apart facts more a b h =
    let one = negation (are_equal_points a b) in
    let other = negation (are_equal_points b a) in
    by (has facts one) (has facts other) (has more one) (has more other) (has (facts ++ more) one) (has (facts ++ more) other)
    (list_any-append (λ f. Rattle.e_literal.specs.Same.same_lit f one) facts more) (list_any-append (λ f. Rattle.e_literal.specs.Same.same_lit f other) facts more) h
  where
    by : (p q r s u v : Bool) → u ≡ (p || r) → v ≡ (q || s) → (p || (q || false)) ≡ true → (u || (v || false)) ≡ true
    by true q r s u v e f h = rw e refl
    by false true r s true v e f h = refl
    by false true r s false v e f h = rw f refl
    by false false r s u v e f h = absurd cc

longer : (p q : Bool) (x : NamedRow) → (p ≡ true → q ≡ true) → length (cond p (x ∷ []) []) ≤ length (cond q (x ∷ []) [])
longer true true x h = omega arith
longer true false x h = absurd (let e = h refl in cc)
longer false q x h = omega arith

same_either : (p q : Bool) (x : NamedRow) → length (cond q (x ∷ []) []) ≡ length (cond p (x ∷ []) []) → cond q (x ∷ []) [] ≡ cond p (x ∷ []) []
same_either true true x h = refl
same_either true false x h = absurd (omega (arith, h))
same_either false true x h = absurd (omega (arith, h))
same_either false false x h = refl

no_fewer_one : (t : Term) (facts more : List Lit) → length (rows_of_term facts t) ≤ length (rows_of_term (facts ++ more) t)
no_fewer_one (Seg a b) facts more = longer (are_apart facts a b) (are_apart (facts ++ more) a b) (named_row (Pos (Seg a b)) (pos_row (Seg a b))) (more_apart facts more a b)
no_fewer_one (Ang a b c) facts more = omega arith
no_fewer_one (Area a b c) facts more = omega arith
no_fewer_one Right facts more = omega arith

-- where more rows come of each, as many rows in all are the same rows
no_fewer : (facts more : List Lit) (ts : List Term) → length (flat_map (rows_of_term facts) ts) ≤ length (flat_map (rows_of_term (facts ++ more)) ts)
no_fewer facts more [] = omega arith
no_fewer facts more (t ∷ ts) = omega (
  arith,
  no_fewer_one t facts more,
  no_fewer facts more ts,
  length-append (rows_of_term facts t) (flat_map (rows_of_term facts) ts),
  length-append (rows_of_term (facts ++ more) t) (flat_map (rows_of_term (facts ++ more)) ts),
)

same_one : (t : Term) (facts more : List Lit) → length (rows_of_term (facts ++ more) t) ≡ length (rows_of_term facts t) → rows_of_term (facts ++ more) t ≡ rows_of_term facts t
same_one (Seg a b) facts more h = same_either (are_apart facts a b) (are_apart (facts ++ more) a b) (named_row (Pos (Seg a b)) (pos_row (Seg a b))) h
same_one (Ang a b c) facts more h = refl
same_one (Area a b c) facts more h = refl
same_one Right facts more h = refl

pub same_raised : (facts more : List Lit) (ts : List Term) → length (flat_map (rows_of_term (facts ++ more)) ts) ≡ length (flat_map (rows_of_term facts) ts) → flat_map (rows_of_term (facts ++ more)) ts ≡ flat_map (rows_of_term facts) ts
same_raised facts more [] h = refl
same_raised facts more (t ∷ ts) h =
    let a = length-append (rows_of_term facts t) (flat_map (rows_of_term facts) ts) in
    let b = length-append (rows_of_term (facts ++ more) t) (flat_map (rows_of_term (facts ++ more)) ts) in
    ap₂ (λ (xs ys : List NamedRow). xs ++ ys)
    (same_one t facts more (omega (arith, h, a, b, no_fewer_one t facts more, no_fewer facts more ts)))
    (same_raised facts more ts (omega (arith, h, a, b, no_fewer_one t facts more, no_fewer facts more ts)))

-- ---- the whole system

all_terms : (which : Kind) (facts more : List Lit) → distinct_terms which (facts ++ more) None ≡ distinct_terms which facts None ++ terms_added which (distinct_terms which facts None) more
all_terms which facts more =
    let known = distinct_terms which facts None in
    let old = terms_of_lits (of_kind which facts) in
    let new = terms_of_lits (of_kind which more) in
    none_wanted which (facts ++ more)
    ∙ ap (with_listed []) (ap terms_of_lits (kind_append which facts more) ∙ lits_append (of_kind which facts) (of_kind which more))
    ∙ listed_append [] old new
    ∙ ap (λ ts. with_listed ts new) (sym (none_wanted which facts))
    ∙ listed_first known known new (λ t. refl)

-- the rows that further facts bring
abbrev brought : Kind → List Lit → List Lit → List Lit → List NamedRow
brought which facts more all = rows_added_by_facts which all more (terms_added which (distinct_terms which facts None) more)

-- the rows of the facts and what further facts bring are the rows of all, in another order
with_brought : (which : Kind) (facts more : List Lit) → flat_map (rows_of_term (facts ++ more)) (distinct_terms which facts None) ≡ flat_map (rows_of_term facts) (distinct_terms which facts None)
    → AreReordered (system which facts None ++ brought which facts more (facts ++ more)) (system which (facts ++ more) None)
with_brought which facts more same =
    let known = distinct_terms which facts None in
    let fresh = terms_added which known more in
    let f = rows_of_term (facts ++ more) in
    let a = rows_named Fact (of_kind which facts) in
    let g = rows_named Fact (of_kind which more) in
    let t = flat_map (rows_of_term facts) known in
    let n = flat_map f fresh in
    let r = rows_of_kind which in
    let names : rows_named Fact (of_kind which (facts ++ more)) ≡ a ++ g =
    ap (rows_named Fact) (kind_append which facts more) ∙ filter_map-append (λ l. option_map (named_row (Fact l)) (row_of_lit l)) (of_kind which facts) (of_kind which more) in
    let terms : flat_map f (distinct_terms which (facts ++ more) None) ≡ t ++ n =
    ap (flat_map f) (all_terms which facts more) ∙ flat_append f known fresh ∙ ap (λ v. v ++ n) same in
    subst (AreReordered (system which facts None ++ brought which facts more (facts ++ more)))
    (sym (ap (λ v. v ++ (flat_map f (distinct_terms which (facts ++ more) None) ++ r)) names ∙ ap (λ v. (a ++ g) ++ (v ++ r)) terms))
    (two_after a t r g n)

-- ---- facts from a place on

module _ (which : Kind) (facts : List Lit) (from : ℕ) where
  abbrev old : List Lit
  old = take from facts

  abbrev more : List Lit
  more = drop from facts

  pub terms_at : distinct_terms which facts None ≡ distinct_terms which old None ++ terms_added which (distinct_terms which old None) more
  terms_at = subst (λ v. distinct_terms which v None ≡ distinct_terms which old None ++ terms_added which (distinct_terms which old None) more) (take-append-drop from facts) (all_terms which old more)

  -- terms that bring as many rows as before bring those
  pub same_raised_at : (ts : List Term) → length (flat_map (rows_of_term facts) ts) ≡ length (flat_map (rows_of_term old) ts) → flat_map (rows_of_term facts) ts ≡ flat_map (rows_of_term old) ts
  same_raised_at ts =
      subst (λ v. length (flat_map (rows_of_term v) ts) ≡ length (flat_map (rows_of_term old) ts) → flat_map (rows_of_term v) ts ≡ flat_map (rows_of_term old) ts) (take-append-drop from facts)
      (same_raised old more ts)

  pub with_joining : flat_map (rows_of_term facts) (distinct_terms which old None) ≡ flat_map (rows_of_term old) (distinct_terms which old None) → AreReordered (system which old None ++ rows_brought_by_facts which facts from) (system which facts None)
  with_joining =
      subst (λ v. flat_map (rows_of_term v) (distinct_terms which old None) ≡ flat_map (rows_of_term old) (distinct_terms which old None) → AreReordered (system which old None ++ brought which old more v) (system which v None)) (take-append-drop from facts)
      (with_brought which old more)

-- ---- counting

-- a segment brings a row where its ends are apart
pub segment_count : (facts : List Lit) (t : Term) (a b : ℕ) (c : Bool) → t ≡ Seg a b → are_apart facts a b ≡ c → length (rows_of_term facts t) ≡ cond c 1 0
segment_count facts t a b c e h =
    ap (λ u. length (rows_of_term facts u)) e ∙ ap (λ x. length (cond x (named_row (Pos (Seg a b)) (pos_row (Seg a b)) ∷ []) [])) h ∙ by c
  where
    by : (d : Bool) → length (cond d (named_row (Pos (Seg a b)) (pos_row (Seg a b)) ∷ []) []) ≡ cond d 1 0
    by true = refl
    by false = refl

-- the rows of one term more
pub raised_more : (facts : List Lit) (ts : List Term) (i : ℕ) (d : Term) → i < length ts
    → length (flat_map (rows_of_term facts) (take (i + 1) ts)) ≡ length (flat_map (rows_of_term facts) (take i ts)) + length (rows_of_term facts (get_or ts i d))
raised_more facts ts i d h =
    ap (λ us. length (flat_map (rows_of_term facts) us)) (take_more ts i d h)
    ∙ ap (λ (rs : List NamedRow). length rs) (flat_append (rows_of_term facts) (take i ts) (get_or ts i d ∷ []))
    ∙ length-append (flat_map (rows_of_term facts) (take i ts)) (rows_of_term facts (get_or ts i d) ++ [])
    ∙ ap (λ (rs : List NamedRow). length (flat_map (rows_of_term facts) (take i ts)) + length rs) (none_more (rows_of_term facts (get_or ts i d)))
