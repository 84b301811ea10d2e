use Rattle.std.proofs.Common.{SFits, to_z-of_z, ap, ◌∙◌}
use Rattle.std.proofs.lemmas.List.{get_or_read}
use mir.Syntax.{w128}
use Rattle.e_simplex.specs.Constraints.{value_of_monomials}
use Rattle.e_simplex.proofs.columns.Forms.{fits_type}
use Rattle.e_simplex.proofs.forms_not_zero.Combining.{values_more}
use Rattle.e_simplex.proofs.unequal.values_at.Goals as goal

pub loop-constraint-preserved : goal.loop-constraint-preserved
loop-constraint-preserved c =
    let fv : SFits w128 c.value_of.result = fits_type c.value_of.result c.value_of.type_inv in
    let e = simp to_z-of_z at c.in_ok-push.ensures.items in
    values_more c.loop-constraint.constraint-index c.args.forms.now c.args.values.now c.loop-constraint.all.items c.push.new.self.items c.value_of.result e c.loop-constraint.invariant
    (λ d. c.value_of.ensures.value ∙ ap (λ v. value_of_monomials v c.args.values.now) c.items.ensures
    ∙ ap (λ l. value_of_monomials l.form c.args.values.now) (get_or_read c.args.forms.now c.loop-constraint.constraint-index c.constraint-item.result c.loop-constraint-test.true c.constraint-item.is d))
