-- The two parts are those of an absurd sum, and an absurd sum leaves no values.
use Rattle.std.proofs.Common.{◌≡◌, true, ap, sym, ◌∙◌, ◌&&◌, subst}
use Rattle.e_literal.specs.Absurd.{is_absurd}
use Rattle.e_fraction.specs.Views.{with_multipliers}
use Rattle.e_literal.specs.Solution.{Satisfy}
use Rattle.e_fraction.proofs.Sums.{absurd_is, absurd_not, weighed_rows}
use Rattle.e_literal.proofs.Refutes.{no_values}
use Rattle.e_fraction.proofs.sum.check_sum.Goals as goal

pub returns-then-have_absurd_signs-clause-value : goal.returns-then-have_absurd_signs-clause-value
returns-then-have_absurd_signs-clause-value c =
    sym (ap (λ b. b && c.cancels.result) c.if-have_absurd_signs.true)
    ∙ absurd_is c.args.rows.now c.args.multipliers.now c.have_absurd_signs.result c.cancels.result c.requires.lengths c.have_absurd_signs.ensures c.cancels.ensures

pub returns-then-have_absurd_signs-clause-refutes : goal.returns-then-have_absurd_signs-clause-refutes
returns-then-have_absurd_signs-clause-refutes c t s =
    let is : is_absurd (with_multipliers c.args.rows.now c.args.multipliers.now) ≡ true
    = sym (sym (ap (λ b. b && c.cancels.result) c.if-have_absurd_signs.true)
    ∙ absurd_is c.args.rows.now c.args.multipliers.now c.have_absurd_signs.result c.cancels.result c.requires.lengths c.have_absurd_signs.ensures c.cancels.ensures) ∙ t in
    no_values (with_multipliers c.args.rows.now c.args.multipliers.now) s.values is
    (subst (Satisfy s.values) (sym (weighed_rows c.args.rows.now c.args.multipliers.now c.requires.lengths)) s.satisfy)

pub returns-else-have_absurd_signs-clause-value : goal.returns-else-have_absurd_signs-clause-value
returns-else-have_absurd_signs-clause-value c =
    absurd_not c.args.rows.now c.args.multipliers.now c.have_absurd_signs.result c.requires.lengths c.have_absurd_signs.ensures c.if-have_absurd_signs.false
