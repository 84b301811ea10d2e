use Rattle.std.proofs.Common.{◌≡◌, ap, sym, ◌∙◌, ◌&&◌, ◌||◌, SFits, to_z-of_z, rules}
use Rattle.std.specs.Option.{option_map}
use mir.Syntax.{w128}
use Rattle.e_literal.specs.Absurd.{allows_multiplier, is_strict}
use Rattle.e_verify.specs.inner.Views.{row_scope_view, row_view}
use Rattle.e_verify.proofs.arithmetic.AddedRows.{not_named, bad_sign, one_added, good_multiplier, small_totals, whole, all_taken}
use Rattle.e_verify.proofs.sums.refutes.Goals as goal
use Rattle.e_verify.proofs.sums.refutes.Goals.{then-strict, else-strict}

pub returns-in_default : goal.returns-in_default
returns-in_default c =
    let p = row_scope_view c.args.row_scope.now in
    sym (not_named p c.args.sum.now c.loop-multiplier.multiplier-index c.loop-multiplier-item.result c.loop-multiplier-test.true c.loop-multiplier-item.is
    (sym c.row_named.ensures.row ∙ ap (option_map row_view) c.in_default.is))

pub returns-then-not-allows_sign : goal.returns-then-not-allows_sign
returns-then-not-allows_sign c =
    let p = row_scope_view c.args.row_scope.now in
    let m : SFits w128 c.loop-multiplier-item.result.0 = search rules in
    let sign = simp to_z-of_z at c.allows_sign.ensures in
    sym (bad_sign p c.args.sum.now c.loop-multiplier.multiplier-index c.loop-multiplier-item.result (row_view c.in-Some.row) c.loop-multiplier-test.true c.loop-multiplier-item.is
    (sym c.row_named.ensures.row ∙ ap (option_map row_view) c.in-Some.is)
    (ap (λ s. allows_multiplier s c.loop-multiplier-item.result.0) (sym c.sense.ensures) ∙ sym sign ∙ c.if-not-allows_sign.true))

pub loop-multiplier-preserved : goal.loop-multiplier-preserved
loop-multiplier-preserved c =
    let p = row_scope_view c.args.row_scope.now in
    let x = c.loop-multiplier-item.result in
    let m : SFits w128 c.loop-multiplier-item.result.0 = search rules in
    let sign = simp to_z-of_z at c.allows_sign.ensures in
    let strict = simp to_z-of_z at c.is_strict-is_strict.ensures in
    let more = simp to_z-of_z at c.in_ok-add_row.ensures in
    let new : c.if-strict.strict ≡ (c.loop-multiplier.strict || c.is_strict-is_strict.result)
    = elim c.if-strict.branch [ then-strict w ↦ w.strict-is ∙ w.if-strict.true ∙ ap (λ b. b || c.is_strict-is_strict.result) (sym w.if-strict.true) | else-strict w ↦ w.strict-is ∙ ap (λ b. b || c.is_strict-is_strict.result) (sym w.if-strict.false) ] in
    one_added p c.args.sum.now c.loop-multiplier.multiplier-index x c.loop-multiplier.totals c.add_row.new.totals c.loop-multiplier.strict c.is_strict-is_strict.result c.if-strict.strict c.in-Some.row
    c.loop-multiplier-test.true c.loop-multiplier-item.is c.loop-multiplier.invariant (sym c.row_named.ensures.row ∙ ap (option_map row_view) c.in-Some.is) more
    (ap (λ s. allows_multiplier s x.0) (sym c.sense.ensures) ∙ sym sign ∙ c.if-not-allows_sign.false) (strict ∙ ap (λ s. is_strict s x.0) c.sense-in-loop-multiplier.ensures) new c.in-Some.ensures.small
    (good_multiplier c.args.sum.now c.loop-multiplier.multiplier-index x (sym c.has_limited_size.ensures ∙ c.if-not-has_limited_size.false) c.loop-multiplier-test.true c.loop-multiplier-item.is)

pub all_cancel-cancel-requires : goal.all_cancel-cancel-requires
all_cancel-cancel-requires c t =
    let p = row_scope_view c.args.row_scope.now in
    small_totals p c.args.sum.now c.loop-multiplier.multiplier-index c.loop-multiplier.totals c.loop-multiplier.strict t (sym c.has_limited_size.ensures ∙ c.if-not-has_limited_size.false) c.loop-multiplier.invariant

pub returns-then-strict-2 : goal.returns-then-strict-2
returns-then-strict-2 c =
    ap (λ b. b && c.all_cancel-cancel.result) (sym c.if-strict-2.true)
    ∙ whole (row_scope_view c.args.row_scope.now) c.args.sum.now _ c.loop-multiplier.totals c.loop-multiplier.strict c.all_cancel-cancel.result (sym c.has_limited_size.ensures ∙ c.if-not-has_limited_size.false)
    (all_taken c.args.sum.now c.loop-multiplier.multiplier-index c.loop-multiplier-test.false) c.loop-multiplier.invariant c.all_cancel-cancel.ensures

pub returns-else-strict-2 : goal.returns-else-strict-2
returns-else-strict-2 c =
    c.if-strict-2.false
    ∙ ap (λ b. b && c.all_cancel-cancel.result) (sym c.if-strict-2.false)
    ∙ whole (row_scope_view c.args.row_scope.now) c.args.sum.now _ c.loop-multiplier.totals c.loop-multiplier.strict c.all_cancel-cancel.result (sym c.has_limited_size.ensures ∙ c.if-not-has_limited_size.false)
    (all_taken c.args.sum.now c.loop-multiplier.multiplier-index c.loop-multiplier-test.false) c.loop-multiplier.invariant c.all_cancel-cancel.ensures
