use Rattle.std.proofs.Common.{◌<◌, ◌+◌, arith, ap, sym, ◌∙◌, subst, length, get_or, SFits, to_z-of_z, rules}
use Rattle.e_literal.specs.declared.object.Term.TheVariants.{Seg}
use lib.IntN.{ℤ, pos}
use Rattle.e_literal.specs.declared.object.Term.{Term}
use mir.Syntax.{w64}
use Rattle.e_simplex.specs.Naming.{place_of, IsIn}
use Rattle.std.proofs.Common.{◌≤◌}
use Rattle.e_fraction.specs.Views.{view_of_row}
use Rattle.e_simplex.proofs.verdicts.RowMultipliers.{take_done}
use Rattle.e_simplex.proofs.columns.NamedConstraints.{small_like, small_constraint}
use Rattle.e_simplex.proofs.columns.Places.{named_at, named_more}
use Rattle.e_simplex.proofs.naming.constraint_of_row.Goals as goal

pub overflow_add-place : goal.overflow_add-place
overflow_add-place c =
    let e = c.summands-summands.ensures.value in
    let l : c.loop-coefficient.coefficient-index < length c.args.row.now.form = subst (λ v. c.loop-coefficient.coefficient-index < length v) e c.loop-coefficient-test.true in
    let i : IsIn c.args.terms.now (get_or {A = ℤ × Term} c.summands-summands.result.now c.loop-coefficient.coefficient-index (pos 0, Seg 0 0)).1
    = subst (λ v. IsIn c.args.terms.now (get_or {A = ℤ × Term} v c.loop-coefficient.coefficient-index (pos 0, Seg 0 0)).1) (sym e) (named_at c.args.terms.now c.args.row.now.form c.loop-coefficient.coefficient-index (pos 0, Seg 0 0) l c.requires.named) in
    let v = c.place.ensures.value in
    let n = c.place.ensures.counted in
    search rules

pub loop-coefficient-preserved : goal.loop-coefficient-preserved
loop-coefficient-preserved c =
    let e = c.summands-summands.ensures.value in
    let l : c.loop-coefficient.coefficient-index < length c.args.row.now.form = subst (λ v. c.loop-coefficient.coefficient-index < length v) e c.loop-coefficient-test.true in
    let f : SFits w64 (get_or {A = ℤ × Term} c.args.row.now.form c.loop-coefficient.coefficient-index (pos 0, Seg 0 0)).0 = search rules in
    let f2 : SFits w64 (get_or {A = ℤ × Term} c.summands-summands.result.now c.loop-coefficient.coefficient-index (pos 0, Seg 0 0)).0 = search rules in
    let h = simp to_z-of_z at c.in_ok-push.ensures.items in
    named_more c.args.terms.now c.args.row.now.form c.loop-coefficient.coefficient-index (pos 0, Seg 0 0) c.loop-coefficient.form.items c.push.new.self.items _ (c.place.result + 1) l c.loop-coefficient.invariant h
    (ap (λ v. (get_or {A = ℤ × Term} v c.loop-coefficient.coefficient-index (pos 0, Seg 0 0)).0) e)
    (omega (arith, c.place.ensures.value, ap (λ v. place_of c.args.terms.now (get_or {A = ℤ × Term} v c.loop-coefficient.coefficient-index (pos 0, Seg 0 0)).1) e))

pub returns-clause-small : goal.returns-clause-small
returns-clause-small c =
    let e = c.summands-summands.ensures.value in
    let done : length c.args.row.now.form ≤ c.loop-coefficient.coefficient-index = subst (λ v. length v ≤ c.loop-coefficient.coefficient-index) e c.loop-coefficient-test.false in
    small_like (record { sense = c.sense.result; form = c.new.result }) (Rattle.e_simplex.specs.Naming.named_constraint c.args.terms.now (view_of_row c.args.row.now))
    (c.new.ensures ∙ c.loop-coefficient.invariant ∙ ap (Rattle.e_simplex.specs.Naming.named_form c.args.terms.now) (take_done c.args.row.now.form c.loop-coefficient.coefficient-index done))
    (small_constraint c.args.terms.now (view_of_row c.args.row.now) c.requires.once c.requires.named c.requires.coefficients
    c.summands-summands.ensures.distinct (omega (arith, ap length e)))
