use Rattle.std.proofs.Common.{◌+◌, [], drop, get_or, sym, ap, ◌∙◌}
use Rattle.e_names.specs.Scope.{arguments_in, used_object}
use Rattle.e_line.proofs.base.Loops.{rest_at}
use Rattle.e_names.proofs.resolution.Arguments.{argument_taken, argument_refused, one_takes}
use Rattle.e_names.proofs.scope.arguments_in.Goals as goal

pub returns-then-not-is_taken_by : goal.returns-then-not-is_taken_by
returns-then-not-is_taken_by c =
    let of = c.args.of.now in
    let i = c.loop-name.name-index in
    let o = c.in_ok-object.object in
    let found = ap (one_takes c.args.shapes.now) (sym (c.items.ensures ∙ c.in_ok-push.ensures.ok)) ∙ sym c.is_taken_by.ensures ∙ c.if-not-is_taken_by.true in
    argument_refused c.args.names.now c.args.shapes.now c.loop-name.found (drop i of) (get_or of i c.name-item.result) (drop (i + 1) of) o (arguments_in c.args.names.now c.args.shapes.now [] of) (rest_at of i c.name-item.result c.loop-name-test.true)
    (ap (used_object c.args.names.now) (sym c.name-item.is) ∙ c.in_ok-object.ensures) found c.loop-name.invariant

pub loop-name-preserved : goal.loop-name-preserved
loop-name-preserved c =
    let of = c.args.of.now in
    let i = c.loop-name.name-index in
    let o = c.in_ok-object.object in
    let found = ap (one_takes c.args.shapes.now) (sym (c.items.ensures ∙ c.in_ok-push.ensures.ok)) ∙ sym c.is_taken_by.ensures ∙ c.if-not-is_taken_by.false in
    rw c.in_ok-push.ensures.ok (argument_taken c.args.names.now c.args.shapes.now c.loop-name.found (drop i of) (get_or of i c.name-item.result) (drop (i + 1) of) o (arguments_in c.args.names.now c.args.shapes.now [] of) (rest_at of i c.name-item.result c.loop-name-test.true)
    (ap (used_object c.args.names.now) (sym c.name-item.is) ∙ c.in_ok-object.ensures) found c.loop-name.invariant)
