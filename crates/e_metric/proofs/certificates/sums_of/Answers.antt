use Rattle.std.proofs.Common.{length, sym, ap, ◌∙◌, subst, arith}
use lib.IntN.{ℤ}
use Rattle.std.specs.Prelude.{List}
use Rattle.e_fraction.specs.Views.{views_of_rows}
use Rattle.e_simplex.specs.Answer.{Refutes, RefutesBoth, IsAbsurdity}
use Rattle.e_simplex.specs.declared.decision.Absurdity.{Absurdity}
use Rattle.e_metric.specs.inner.Certificate.{negated_place, IsWeighable}
use Rattle.e_metric.proofs.sums.Multipliers.{one_length, one_weighable, both_here, above_length, below_length, above_weighable, below_weighable}
use Rattle.e_metric.proofs.certificates.sums_of.Goals as goal

pub sum_of-requires-clause-names : goal.sum_of-requires-clause-names
sum_of-requires-clause-names c =
    let h : Refutes (views_of_rows c.args.rows.now) c.in-One.multipliers.items = subst (λ (a : Absurdity). IsAbsurdity (views_of_rows c.args.rows.now) a) c.in-One.is c.requires.refuted in
    ap (λ (xs : List ℤ). length xs) c.deref.ensures.value ∙ one_length c.args.rows.now c.requires.few c.requires.coefficients c.in-One.multipliers.items h ∙ sym c.requires.names

pub sum_of-requires-clause-rows : goal.sum_of-requires-clause-rows
sum_of-requires-clause-rows c =
    let h : Refutes (views_of_rows c.args.rows.now) c.in-One.multipliers.items = subst (λ (a : Absurdity). IsAbsurdity (views_of_rows c.args.rows.now) a) c.in-One.is c.requires.refuted in
    subst (λ (xs : List ℤ). IsWeighable c.args.rows.now xs) (sym c.deref-in-One.ensures.value) (one_weighable c.args.rows.now c.requires.few c.requires.coefficients c.in-One.multipliers.items h)

pub two_sums-requires-clause-here : goal.two_sums-requires-clause-here
two_sums-requires-clause-here c =
    let h : RefutesBoth (views_of_rows c.args.rows.now) c.in-Two.row c.in-Two.above.items c.in-Two.below.items = subst (λ (a : Absurdity). IsAbsurdity (views_of_rows c.args.rows.now) a) c.in-Two.is c.requires.refuted in
    omega (arith, both_here c.args.rows.now c.requires.few c.requires.coefficients c.in-Two.row c.in-Two.above.items c.in-Two.below.items h, c.requires.names)

pub two_sums-requires-clause-above_length : goal.two_sums-requires-clause-above_length
two_sums-requires-clause-above_length c =
    let h : RefutesBoth (views_of_rows c.args.rows.now) c.in-Two.row c.in-Two.above.items c.in-Two.below.items = subst (λ (a : Absurdity). IsAbsurdity (views_of_rows c.args.rows.now) a) c.in-Two.is c.requires.refuted in
    ap (λ (xs : List ℤ). length xs) c.deref-in-Two.ensures.value ∙ above_length c.args.rows.now c.requires.few c.requires.coefficients c.in-Two.row c.in-Two.above.items c.in-Two.below.items h ∙ sym c.requires.names

pub two_sums-requires-clause-below_length : goal.two_sums-requires-clause-below_length
two_sums-requires-clause-below_length c =
    let h : RefutesBoth (views_of_rows c.args.rows.now) c.in-Two.row c.in-Two.above.items c.in-Two.below.items = subst (λ (a : Absurdity). IsAbsurdity (views_of_rows c.args.rows.now) a) c.in-Two.is c.requires.refuted in
    ap (λ (xs : List ℤ). length xs) c.deref-in-Two-2.ensures.value ∙ below_length c.args.rows.now c.requires.few c.requires.coefficients c.in-Two.row c.in-Two.above.items c.in-Two.below.items h ∙ sym c.requires.names

pub two_sums-requires-clause-first : goal.two_sums-requires-clause-first
two_sums-requires-clause-first c =
    let h : RefutesBoth (views_of_rows c.args.rows.now) c.in-Two.row c.in-Two.above.items c.in-Two.below.items = subst (λ (a : Absurdity). IsAbsurdity (views_of_rows c.args.rows.now) a) c.in-Two.is c.requires.refuted in
    subst (λ (xs : List ℤ). IsWeighable c.args.rows.now xs) (sym c.deref-in-Two.ensures.value)
    (above_weighable c.args.rows.now c.requires.few c.requires.coefficients c.in-Two.row c.in-Two.above.items c.in-Two.below.items h)

pub two_sums-requires-clause-second : goal.two_sums-requires-clause-second
two_sums-requires-clause-second c =
    let h : RefutesBoth (views_of_rows c.args.rows.now) c.in-Two.row c.in-Two.above.items c.in-Two.below.items = subst (λ (a : Absurdity). IsAbsurdity (views_of_rows c.args.rows.now) a) c.in-Two.is c.requires.refuted in
    subst (λ (xs : List ℤ). IsWeighable c.args.rows.now (negated_place xs c.in-Two.row)) (sym c.deref-in-Two-2.ensures.value)
    (below_weighable c.args.rows.now c.requires.few c.requires.coefficients c.in-Two.row c.in-Two.above.items c.in-Two.below.items h)
