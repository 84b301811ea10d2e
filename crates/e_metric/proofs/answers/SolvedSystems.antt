-- What is solved of facts, and the answers from there.
use Rattle.std.proofs.Common.{◌≡◌, ℕ, zero, suc, ◌+◌, ◌<◌, ◌≤◌, List, [], ◌∷◌, ◌++◌, map, drop, get_or, length, refl, sym, ap, ap₂, ◌∙◌, subst, arith, cond, Bool, true, false, Option, Some, None}
use Rattle.std.specs.List.{list_all}
use Rattle.std.proofs.lemmas.List.{map-append, length-map}
use lib.IntN.{ℤ, pos, ◌+ℤ◌, ◌*ℤ◌}
use Rattle.e_literal.specs.declared.object.Kind.{Kind}
use Rattle.e_literal.specs.declared.object.Term.{Term}
use Rattle.e_literal.specs.declared.object.Term.TheVariants.{Right}
use Rattle.e_literal.specs.declared.literal.Lit.{Lit}
use Rattle.e_literal.specs.Minor.{IsWide}
use Rattle.e_literal.specs.Width.{width}
use Rattle.e_literal.specs.Rows.{Row, Summands}
use Rattle.e_literal.specs.Same.{term_eq}
use Rattle.e_literal.specs.Solution.{form_value, IsSo, Satisfy}
use Rattle.e_literal.specs.WellFormed.{is_well_formed}
use Rattle.e_clause.specs.declared.cert.RowName.{RowName}
use Rattle.e_clause.specs.declared.cert.Sums.{Sums}
use Rattle.e_clause.specs.Assignment.{terms_of_lits}
use Rattle.e_clause.specs.Laws.{is_well_formed_metric}
use Rattle.e_clause.specs.System.{NamedRow, system, rows_of_system}
use Rattle.e_clause.specs.Wide.{HasWidth}
use Rattle.e_fraction.specs.declared.row.Row.{Row as GivenRow}
use Rattle.e_fraction.specs.Limits.{all_small}
use Rattle.e_fraction.specs.Views.{view_of_row, views_of_rows}
use Rattle.e_simplex.specs.declared.decision.Absurdity.{Absurdity}
use Rattle.e_simplex.specs.Answer.{assigned_value, AreValuesOf, IsAbsurdity}
use Rattle.e_simplex.specs.Naming.{place_of, IsIn, FormNamed, AllNamed}
use Rattle.e_metric.specs.declared.solved_system.SolvedSystem.{SolvedSystem}
use Rattle.e_metric.specs.AgreeingRows.{AreRows, AllLimited}
use Rattle.e_metric.specs.inner.Certificate.{certificate_sums}
use Rattle.e_metric.specs.inner.FurtherRows.{terms_added, rows_added_by_goal, rows_brought_by_goal}
use Rattle.e_metric.specs.SolvedSystems.{AreNamed, AreRowsOf, IsSolvedSystem}
use Rattle.e_metric.specs.ListedTerms.{with_listed, distinct_terms}
use Rattle.e_metric.specs.MetricAnswers.{IsMetricCertificate}
use Rattle.e_metric.proofs.rows.GoalRows.{with_further, all_terms}
use Rattle.e_metric.proofs.rows.RowOrder.{one_order, reordered_more, same_order}
use Rattle.e_metric.proofs.answers.KindAnswers

-- ---- rows with their names, one list after the other

rows_append : (ns ms : List NamedRow) (ps qs : List (RowName × GivenRow)) → AreRows ns ps → AreRows ms qs → AreRows (ns ++ ms) (ps ++ qs)
rows_append [] ms [] qs h k = k
rows_append [] ms (p ∷ ps) qs h k = absurd h
rows_append (n ∷ ns) ms [] qs h k = absurd h
rows_append (n ∷ ns) ms (p ∷ ps) qs h k = (h.0, h.1, rows_append ns ms ps qs h.2 k)

limited_append : (ps qs : List (RowName × GivenRow)) → AllLimited ps → AllLimited qs → AllLimited (ps ++ qs)
limited_append [] qs h k = k
limited_append (p ∷ ps) qs h k = (h.0, limited_append ps qs h.1 k)

abbrev name_in : RowName × GivenRow → RowName
name_in p = p.0

abbrev row_in : RowName × GivenRow → GivenRow
row_in p = p.1

pub named_append : (ns ms : List NamedRow) (names more : List RowName) (rows others : List GivenRow) → AreNamed ns names rows → AreNamed ms more others → AreNamed (ns ++ ms) (names ++ more) (rows ++ others)
named_append ns ms names more rows others h k = record {
  pairs = h.pairs ++ k.pairs;
  are = rows_append ns ms h.pairs k.pairs h.are k.are;
  limited = limited_append h.pairs k.pairs h.limited k.limited;
  names_are = ap₂ {A = List RowName} {B = List RowName} (λ x y. x ++ y) h.names_are k.names_are ∙ sym (map-append name_in h.pairs k.pairs);
  rows_are = ap₂ {A = List GivenRow} {B = List GivenRow} (λ x y. x ++ y) h.rows_are k.rows_are ∙ sym (map-append row_in h.pairs k.pairs);
}

pub named_of : (ns : List NamedRow) (ps : List (RowName × GivenRow)) (names : List RowName) (rows : List GivenRow) → AreRows ns ps → AllLimited ps → names ≡ map name_in ps → rows ≡ map row_in ps → AreNamed ns names rows
named_of ns ps names rows a l n r = record { pairs = ps; are = a; limited = l; names_are = n; rows_are = r }

-- the rows of a system, in its order
pub in_order : (which : Kind) (facts : List Lit) (wanted : Option Lit) (ps : List (RowName × GivenRow)) (names : List RowName) (rows : List GivenRow) → AreRows (system which facts wanted) ps → AllLimited ps → names ≡ map name_in ps → rows ≡ map row_in ps
    → AreRowsOf which facts wanted names rows
in_order which facts wanted ps names rows a l n r = record {
  all = system which facts wanted;
  order = same_order (system which facts wanted);
  named = named_of (system which facts wanted) ps names rows a l n r;
}

-- ---- what is solved of such rows

module _ (which : Kind) (facts : List Lit) (wanted : Option Lit) (names : List RowName) (rows : List GivenRow) (r : AreRowsOf which facts wanted names rows)
    (good : list_all is_well_formed facts ≡ true) (few : length (terms_of_lits facts) ≤ 1100) (good_wanted : is_well_formed_metric wanted ≡ true) where
  pub few_named : length rows ≤ 4096
  few_named = KindAnswers.few_rows which facts wanted r.all r.order r.named.pairs r.named.are r.named.limited good few good_wanted rows r.named.rows_are

  pub small_named : all_small rows ≡ true
  small_named = KindAnswers.small_rows which facts wanted r.all r.order r.named.pairs r.named.are r.named.limited good few good_wanted rows r.named.rows_are

  -- each row has a name
  pub as_many : length names ≡ length rows
  as_many = omega (
    arith,
    ap (λ (ns : List RowName). length ns) r.named.names_are,
    ap (λ (rs : List GivenRow). length rs) r.named.rows_are,
    length-map r.named.pairs name_in,
    length-map r.named.pairs row_in,
  )

  pub solved_named : (v : Term → ℕ) → Satisfy v (views_of_rows rows) → Satisfy v (rows_of_system which facts wanted)
  solved_named = KindAnswers.solved which facts wanted r.all r.order r.named.pairs r.named.are r.named.limited good few good_wanted rows r.named.rows_are

  pub wide_named : (w : ℕ) → w ≡ width (rows_of_system which facts wanted) → IsWide (views_of_rows rows) → HasWidth (rows_of_system which facts wanted) w
  wide_named = KindAnswers.has_width which facts wanted r.all r.order r.named.pairs r.named.are r.named.limited good few good_wanted rows r.named.rows_are

  pub refuted_named : (terms : List Term) (a : Absurdity) (sums : Sums) → terms ≡ with_listed (distinct_terms which facts wanted) (Right ∷ [])
      → IsAbsurdity (views_of_rows rows) a → sums ≡ certificate_sums names rows terms a → IsMetricCertificate facts wanted (record { sums = sums })
  refuted_named terms a sums t h e = KindAnswers.refuted which facts wanted r.all r.order r.named.pairs r.named.are r.named.limited good few good_wanted rows r.named.rows_are names terms a sums r.named.names_are t h e

-- ---- values, and those of more terms

assigned_more : (ps qs : List (Term × ℕ)) (t : Term) → IsIn (map (λ (p : Term × ℕ). p.0) ps) t → assigned_value (ps ++ qs) t ≡ assigned_value ps t
assigned_more [] qs t h = absurd (omega (arith, h))
assigned_more (p ∷ ps) qs t h = by (term_eq t p.0) h (λ k. assigned_more ps qs t k)
  where
    ts : List Term
    ts = map (λ (q : Term × ℕ). q.0) ps

    by : (b : Bool) → cond b 0 (suc (place_of (map (λ (q : Term × ℕ). q.0) ps) t)) < suc (length (map (λ (q : Term × ℕ). q.0) ps)) → (IsIn (map (λ (q : Term × ℕ). q.0) ps) t → assigned_value (ps ++ qs) t ≡ assigned_value ps t)
        → cond b p.1 (assigned_value (ps ++ qs) t) ≡ cond b p.1 (assigned_value ps t)
    by true k ih = refl
    by false k ih = ih (omega (arith, k))

form_more : (ps qs : List (Term × ℕ)) (form : Summands) → FormNamed (map (λ (p : Term × ℕ). p.0) ps) form → form_value form (assigned_value (ps ++ qs)) ≡ form_value form (assigned_value ps)
form_more ps qs [] h = refl
form_more ps qs (f ∷ fs) h = ap₂ {A = ℕ} {B = ℤ} (λ n z. f.0 *ℤ pos n +ℤ z) (assigned_more ps qs f.1 h.0) (form_more ps qs fs h.1)

satisfy_more : (ps qs : List (Term × ℕ)) (rs : List Row) → AllNamed (map (λ (p : Term × ℕ). p.0) ps) rs → Satisfy (assigned_value ps) rs → Satisfy (assigned_value (ps ++ qs)) rs
satisfy_more ps qs [] h s = tt
satisfy_more ps qs (r ∷ rs) h s = (subst (IsSo r.sense) (sym (form_more ps qs r.form h.0)) s.0, satisfy_more ps qs rs h.1 s.1)

satisfy_append : (v : Term → ℕ) (rs ss : List Row) → Satisfy v rs → Satisfy v ss → Satisfy v (rs ++ ss)
satisfy_append v [] ss h k = k
satisfy_append v (r ∷ rs) ss h k = (h.0, satisfy_append v rs ss h.1 k)

-- one row more of those that are left
pub one_so : (v : Term → ℕ) (rows : List GivenRow) (i : ℕ) (r : GivenRow) → i < length rows → r ≡ get_or rows i r → IsSo (view_of_row r).sense (form_value (view_of_row r).form v) → Satisfy v (views_of_rows (drop (i + 1) rows)) → Satisfy v (views_of_rows (drop i rows))
one_so v rows i r l e h s = subst (λ rs. Satisfy v (views_of_rows rs)) (sym (at rows i r r l e ∙ ap (λ n. r ∷ drop n rows) (one_more i))) (h, s)
  where
    one_more : (n : ℕ) → suc n ≡ n + 1
    one_more n = omega arith

    at : (rs : List GivenRow) (k : ℕ) (x d : GivenRow) → k < length rs → x ≡ get_or rs k d → drop k rs ≡ x ∷ drop (suc k) rs
    at [] k x d l h = absurd (omega (arith, l))
    at (y ∷ ys) zero x d l h = ap (λ z. z ∷ ys) (sym h)
    at (y ∷ ys) (suc k) x d l h = at ys k x d (omega (arith, l)) h

-- ---- the answer where more rows come after those that are solved

-- the values of the solved rows, and those of more terms, solve the system where they solve the rows after them
pub false_already : (which : Kind) (facts : List Lit) (wanted : Option Lit) (names : List RowName) (solved rows : List GivenRow) → AreRowsOf which facts wanted names (solved ++ rows) → list_all is_well_formed facts ≡ true
    → length (terms_of_lits facts) ≤ 1100 → is_well_formed_metric wanted ≡ true → (values fresh vs : List (Term × ℕ)) → vs ≡ values ++ fresh → AreValuesOf (views_of_rows solved) values → Satisfy (assigned_value vs) (views_of_rows rows)
    → Satisfy (assigned_value vs) (rows_of_system which facts wanted)
false_already which facts wanted names solved rows r good few good_wanted values fresh vs e h s =
    solved_named which facts wanted names (solved ++ rows) r good few good_wanted (assigned_value vs)
    (subst (Satisfy (assigned_value vs)) (sym (map-append view_of_row solved rows))
    (satisfy_append (assigned_value vs) (views_of_rows solved) (views_of_rows rows) (subst (λ v. Satisfy (assigned_value v) (views_of_rows solved)) (sym e) (satisfy_more values fresh (views_of_rows solved) h.all h.satisfy)) s))

-- ---- the rows of a goal

-- where its terms are set beside those that are kept
pub asked : (which : Kind) (facts : List Lit) (l : Lit) (g : SolvedSystem) (fresh : List Term) → IsSolvedSystem which facts g → fresh ≡ terms_added which g.terms.items (l ∷ []) → rows_added_by_goal which facts fresh l ≡ rows_brought_by_goal which facts l
asked which facts l g fresh solved_system e = ap (λ ts. rows_added_by_goal which facts ts l) (e ∙ ap (λ ts. terms_added which ts (l ∷ [])) solved_system.terms)

-- the terms are those of the facts and the goal
pub goal_terms : (which : Kind) (facts : List Lit) (l : Lit) (g : SolvedSystem) (fresh : List Term) → IsSolvedSystem which facts g → fresh ≡ terms_added which g.terms.items (l ∷ []) → g.terms.items ++ fresh ≡ distinct_terms which facts (Some l)
goal_terms which facts l g fresh solved_system e =
    ap₂ {A = List Term} {B = List Term} (λ x y. x ++ y) solved_system.terms (e ∙ ap (λ ts. terms_added which ts (l ∷ [])) solved_system.terms) ∙ sym (all_terms which facts l)

pub goal_together : (which : Kind) (facts : List Lit) (l : Lit) (g : SolvedSystem) (names : List RowName) (rows : List GivenRow) → IsSolvedSystem which facts g → AreNamed (rows_brought_by_goal which facts l) names rows
    → AreRowsOf which facts (Some l) (g.names.items ++ names) (g.solved_rows ++ rows)
goal_together which facts l g names rows solved_system more =
    (let solved = solved_system.rows in
    record {
      all = solved.all ++ rows_brought_by_goal which facts l;
      order = one_order (solved.all ++ rows_brought_by_goal which facts l) (system which facts None ++ rows_brought_by_goal which facts l) (system which facts (Some l))
          (reordered_more solved.all (system which facts None) (rows_brought_by_goal which facts l) solved.order) (with_further which facts l);
      named = named_append solved.all (rows_brought_by_goal which facts l) g.names.items names g.solved_rows rows solved.named more;
    })
