-- What a goal brings to the system of the facts of its kind.
use Rattle.std.proofs.Common.{◌≡◌, ◌≤◌, List, [], ◌∷◌, ◌++◌, ◌-◌, length, take, drop, sym, ap, ◌∙◌, subst, arith, Some, None, append_assoc, length-append, refl}
use Rattle.std.specs.Prelude.{flat_map}
use Rattle.std.proofs.Math.Seq.{drop-append_seam}
use Rattle.std.proofs.lemmas.List.{length-drop, take_all}
use Rattle.e_literal.specs.declared.object.Kind.{Kind}
use Rattle.e_literal.specs.declared.object.Term.{Term}
use Rattle.e_literal.specs.declared.literal.Lit.{Lit}
use Rattle.e_clause.specs.declared.cert.RowName.TheVariants.{Fact, Goal}
use Rattle.e_clause.specs.Assignment.{terms_of_lits}
use Rattle.e_clause.specs.System.{of_kind, against_goal, rows_named, rows_of_term, rows_of_kind, system}
use Rattle.e_metric.specs.ListedTerms.{with_listed, distinct_terms}
use Rattle.e_metric.specs.inner.FurtherRows.{terms_added, rows_brought_by_goal}
use Rattle.e_metric.specs.RowOrder.{AreReordered}
use Rattle.e_metric.proofs.terms.FirstTerms.{listed_first, some_wanted, none_wanted}
use Rattle.e_metric.proofs.rows.SystemRows.{flat_append}
use Rattle.e_metric.proofs.rows.RowOrder.{two_after}

-- ---- terms of more literals

-- those after the terms that were there
goal_rows_after : (which : Kind) (terms : List Term) (ls : List Lit) (all : List Term) → all ≡ with_listed terms (terms_of_lits (of_kind which ls)) → drop (length terms) all ≡ terms_added which terms ls
goal_rows_after which terms ls all e =
    ap (drop (length terms)) (e ∙ listed_first terms terms (terms_of_lits (of_kind which ls)) (λ t. refl))
    ∙ drop-append_seam terms (terms_added which terms ls)

pub as_long : (which : Kind) (terms : List Term) (ls : List Lit) (all : List Term) → all ≡ with_listed terms (terms_of_lits (of_kind which ls)) → length terms ≤ length all
as_long which terms ls all e = omega (
  arith,
  ap (λ (ts : List Term). length ts) (e ∙ listed_first terms terms (terms_of_lits (of_kind which ls)) (λ t. refl)),
  length-append terms (terms_added which terms ls),
)

-- the same of one literal
pub as_long_one : (which : Kind) (terms : List Term) (l : Lit) (all : List Term) → all ≡ with_listed terms (terms_of_lits (of_kind which (l ∷ []))) → length terms ≤ length all
as_long_one which terms l = as_long which terms (l ∷ [])

pub last_after : (which : Kind) (terms : List Term) (ls : List Lit) (all : List Term) → all ≡ with_listed terms (terms_of_lits (of_kind which ls)) → take (length all - length terms) (drop (length terms) all) ≡ terms_added which terms ls
last_after which terms ls all e =
    take_all (length all - length terms) (drop (length terms) all) (omega (arith, length-drop (length terms) all)) ∙ goal_rows_after which terms ls all e

-- the terms of the facts, and then the fresh ones of a goal
pub all_terms : (which : Kind) (facts : List Lit) (l : Lit) → distinct_terms which facts (Some l) ≡ distinct_terms which facts None ++ terms_added which (distinct_terms which facts None) (l ∷ [])
all_terms which facts l =
    (let known = distinct_terms which facts None in
    let new = terms_of_lits (of_kind which (l ∷ [])) in
    some_wanted which facts l ∙ ap (λ ts. with_listed ts new) (sym (none_wanted which facts)) ∙ listed_first known known new (λ t. refl))

-- ---- rows

-- the rows of the facts and what the goal brings are the rows of both, in another order
pub with_further : (which : Kind) (facts : List Lit) (l : Lit) → AreReordered (system which facts None ++ rows_brought_by_goal which facts l) (system which facts (Some l))
with_further which facts l =
    let f = rows_of_term facts in
    let known = distinct_terms which facts None in
    let fresh = terms_added which known (l ∷ []) in
    let a = rows_named (λ k. Fact k) (of_kind which facts) in
    let g = rows_named (λ k. Goal) (of_kind which (against_goal (Some l))) in
    let t = flat_map f known in
    let n = flat_map f fresh in
    let r = rows_of_kind which in
    let same : (a ++ g) ++ ((t ++ n) ++ r) ≡ system which facts (Some l) =
    append_assoc a g ((t ++ n) ++ r) ∙ ap (λ v. a ++ (g ++ (v ++ r))) (sym (flat_append f known fresh) ∙ ap (flat_map f) (sym (all_terms which facts l))) in
    subst (AreReordered (system which facts None ++ rows_brought_by_goal which facts l)) same (two_after a t r g n)
