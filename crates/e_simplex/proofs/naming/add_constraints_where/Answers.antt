use Rattle.std.proofs.Common.{◌≡◌, ◌++◌, ◌∷◌, [], refl, take, ap, sym, ◌∙◌, subst}
use Rattle.std.proofs.lemmas.List.{append_assoc, take_all}
use Rattle.e_fraction.specs.Views.{views_of_rows}
use Rattle.e_fraction.specs.Views.{sense_of}
use Rattle.e_simplex.specs.Naming.{FormNamed, named_form, named_constraints, keeps, constraint_sense}
use Rattle.std.proofs.Common.{true}
use Rattle.e_fraction.specs.Limits.{has_small_coefficients}
use Rattle.e_fraction.proofs.Sums.{small_row}
use Rattle.e_simplex.specs.Constraints.{AllSmallConstraints}
use Rattle.e_simplex.proofs.columns.Negatives.{small_push}
use Rattle.e_simplex.proofs.columns.Places.{row_named, constraints_more, constraints_same}
use Rattle.e_simplex.proofs.naming.add_constraints_where.Goals.{then-is_kept+in_ok-constraint_of_row+in_ok-push, else-is_kept}
use Rattle.e_simplex.proofs.naming.add_constraints_where.Goals as goal

pub constraint_of_row-requires-clause-named : goal.constraint_of_row-requires-clause-named
constraint_of_row-requires-clause-named c =
    subst (λ r. FormNamed c.args.terms.now r.form) (sym c.row-item.is)
    (row_named c.args.terms.now c.args.rows.now c.loop-row.row-index c.row-item.result c.loop-row-test.true c.requires.named)

pub constraint_of_row-requires-clause-coefficients : goal.constraint_of_row-requires-clause-coefficients
constraint_of_row-requires-clause-coefficients c =
    subst (λ r. has_small_coefficients r.form ≡ true) (sym c.row-item.is)
    (small_row c.args.rows.now c.loop-row.row-index c.row-item.result c.loop-row-test.true c.requires.coefficients)

pub loop-row-preserved : goal.loop-row-preserved
loop-row-preserved c =
    let rows = c.args.rows.now in
    let i = c.loop-row.row-index in
    let ts = c.args.terms.now in
    let first = c.args.constraints.now.items in
    let old = named_constraints c.args.not c.args.terms.now (views_of_rows (take c.loop-row.row-index c.args.rows.now)) in
    elim c.if-is_kept.branch [
      | then-is_kept+in_ok-constraint_of_row+in_ok-push w ↦
          (let new = ap (λ v. v.items) w.constraints-is ∙ w.in_ok-push.ensures.items in
          let l = w.in_ok-constraint_of_row.field-0 in
          record {
            value = new ∙ ap (λ v. v ++ w.in_ok-constraint_of_row.field-0 ∷ []) c.loop-row.invariant.value ∙ append_assoc first old (l ∷ [])
                ∙ ap (λ v. c.args.constraints.now.items ++ v) (constraints_more c.args.not ts rows i c.row-item.result old (old ++ l ∷ []) l c.loop-row-test.true refl
                refl (sym (ap (λ r. keeps c.args.not (sense_of r.sense)) c.row-item.is) ∙ sym c.is_kept.ensures ∙ w.if-is_kept.true)
                (w.in_ok-constraint_of_row.ensures.sense ∙ ap (λ r. constraint_sense (sense_of r.sense)) c.row-item.is)
                (w.in_ok-constraint_of_row.ensures.form ∙ ap (λ r. named_form c.args.terms.now r.form) c.row-item.is));
            small = λ s. subst AllSmallConstraints (sym new) (small_push c.loop-row.constraints.items l (c.loop-row.invariant.small s) w.in_ok-constraint_of_row.ensures.small);
          })
      | else-is_kept w ↦ record {
        value = ap (λ v. v.items) w.constraints-is ∙ c.loop-row.invariant.value
            ∙ ap (λ v. c.args.constraints.now.items ++ v) (constraints_same c.args.not ts rows i c.row-item.result old c.loop-row-test.true refl (sym (ap (λ r. keeps c.args.not (sense_of r.sense)) c.row-item.is) ∙ sym c.is_kept.ensures ∙ w.if-is_kept.false));
        small = λ s. subst AllSmallConstraints (sym (ap (λ v. v.items) w.constraints-is)) (c.loop-row.invariant.small s);
      }
    ]

pub returns-clause-value : goal.returns-clause-value
returns-clause-value c =
    c.loop-row.invariant.value ∙ ap (λ v. c.args.constraints.now.items ++ named_constraints c.args.not c.args.terms.now (views_of_rows v)) (take_all c.loop-row.row-index c.args.rows.now c.loop-row-test.false)
