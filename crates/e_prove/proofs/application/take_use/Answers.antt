use Rattle.std.proofs.Common.{◌≡◌, length, refl, ap, ◌∙◌, arith}
use Rattle.e_theorem.specs.Statements.{as_view}
use Rattle.e_prove.proofs.NextStates.{applied_after, good_applied}
use Rattle.e_prove.proofs.Applications.{room_for}
use Rattle.e_prove.proofs.application.take_use.Goals as goal

pub grow-requires-clause-points : goal.grow-requires-clause-points
grow-requires-clause-points c =
    let s = c.args.state.now.context.scope in
    let room = room_for (as_view c.args.statement.now) s s c.requires.apply.statement c.requires.apply.scope refl in
    let same : length c.items.result.now ≡ length c.args.statement.now.made = ap length c.items.ensures in
    omega (arith, same, room.points)

pub grow-requires-clause-lines : goal.grow-requires-clause-lines
grow-requires-clause-lines c =
    let s = c.args.state.now.context.scope in
    let room = room_for (as_view c.args.statement.now) s s c.requires.apply.statement c.requires.apply.scope refl in
    let same : length c.items.result.now ≡ length c.args.statement.now.made = ap length c.items.ensures in
    omega (arith, same, room.lines)

pub grow-requires-clause-circles : goal.grow-requires-clause-circles
grow-requires-clause-circles c =
    let s = c.args.state.now.context.scope in
    let room = room_for (as_view c.args.statement.now) s s c.requires.apply.statement c.requires.apply.scope refl in
    let same : length c.items.result.now ≡ length c.args.statement.now.made = ap length c.items.ensures in
    omega (arith, same, room.circles)

pub join_copied-requires : goal.join_copied-requires
join_copied-requires c =
    let u = c.args.used.now in
    let lits = c.requires.apply.lits u.args c.requires.used.least.good.is_choice in
    good_applied (as_view c.args.statement.now) u.args c.args.state.now.context c.grow.new.self.context c.items.result.now c.items-2.result.now c.items.ensures
    (c.items-2.ensures ∙ c.requires.used.gives) c.in_ok-grow.ensures.scope lits.after

pub returns-clause-after : goal.returns-clause-after
returns-clause-after c =
    let u = c.args.used.now in
    applied_after (as_view c.args.statement.now) u.args c.args.application.now.names.now c.args.state.now c.grow.new.self c.join_copied.new.self c.items.result.now c.items-2.result.now c.items.ensures
    (c.items-2.ensures ∙ c.requires.used.gives) c.in_ok-grow.ensures.scope c.in_ok-grow.ensures.names c.in_ok-join_copied.ensures
