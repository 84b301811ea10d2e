use Rattle.std.proofs.Common.{◌≡◌, ◌∙◌, ap, length, arith}
use Rattle.e_theorem.specs.Statements.{as_view, as_views}
use Rattle.e_deriv.specs.Script.{script_of}
use Rattle.e_deriv.specs.Goal.{goal_view}
use Rattle.e_prove.proofs.ProofsOfStatements.{few_declared, given_good, made_fit, ready_at_start, goal_is, names_are}
use Rattle.e_prove.proofs.WrittenCertificates.{each_written_well}
use Rattle.e_prove.proofs.prover.prove.Goals as goal

pub first-requires-clause-few : goal.first-requires-clause-few
first-requires-clause-few c = few_declared (as_views c.args.before.now) (as_view c.args.theorem.now.statement) (script_of c.args.theorem.now.block) c.requires

pub first-requires-clause-good : goal.first-requires-clause-good
first-requires-clause-good c = given_good (as_views c.args.before.now) (as_view c.args.theorem.now.statement) (script_of c.args.theorem.now.block) c.requires

pub next_objects-requires-clause-points : goal.next_objects-requires-clause-points
next_objects-requires-clause-points c =
    let fit = made_fit (as_views c.args.before.now) (as_view c.args.theorem.now.statement) (script_of c.args.theorem.now.block) c.scope.result (c.scope.ensures ∙ ap (λ x. x.context.scope) c.in_ok-state.ensures) c.requires in
    let same : length c.items.result.now ≡ length c.args.theorem.now.statement.made = ap length c.items.ensures in
    omega (arith, same, fit.points)

pub next_objects-requires-clause-lines : goal.next_objects-requires-clause-lines
next_objects-requires-clause-lines c =
    let fit = made_fit (as_views c.args.before.now) (as_view c.args.theorem.now.statement) (script_of c.args.theorem.now.block) c.scope.result (c.scope.ensures ∙ ap (λ x. x.context.scope) c.in_ok-state.ensures) c.requires in
    let same : length c.items.result.now ≡ length c.args.theorem.now.statement.made = ap length c.items.ensures in
    omega (arith, same, fit.lines)

pub next_objects-requires-clause-circles : goal.next_objects-requires-clause-circles
next_objects-requires-clause-circles c =
    let fit = made_fit (as_views c.args.before.now) (as_view c.args.theorem.now.statement) (script_of c.args.theorem.now.block) c.scope.result (c.scope.ensures ∙ ap (λ x. x.context.scope) c.in_ok-state.ensures) c.requires in
    let same : length c.items.result.now ≡ length c.args.theorem.now.statement.made = ap length c.items.ensures in
    omega (arith, same, fit.circles)

pub prove_block-requires-clause-ready : goal.prove_block-requires-clause-ready
prove_block-requires-clause-ready c =
    let t = as_view c.args.theorem.now.statement in
    let same =
    goal_is t c.items.result.now c.scope.result c.deref.result.now c.in-Ok.made.items c.items-2.result.now (c.scope.ensures ∙ ap (λ x. x.context.scope) c.in_ok-state.ensures) c.items.ensures c.in-Ok.ensures c.deref.ensures.value
    c.items-2.ensures
    in
    ready_at_start (as_views c.args.before.now) t c.args.theorem.now.names (script_of c.args.theorem.now.block) c.in_ok-state.state (goal_view (record { made = c.deref.result; shown = c.items-2.result })) c.in_ok-state.ensures same c.requires

pub returns-clause-names : goal.returns-clause-names
returns-clause-names c =
    let t = as_view c.args.theorem.now.statement in
    let same =
    goal_is t c.items.result.now c.scope.result c.deref.result.now c.in-Ok.made.items c.items-2.result.now (c.scope.ensures ∙ ap (λ x. x.context.scope) c.in_ok-state.ensures) c.items.ensures c.in-Ok.ensures c.deref.ensures.value
    c.items-2.ensures
    in
    names_are (as_views c.args.before.now) t c.args.theorem.now.names (script_of c.args.theorem.now.block) c.in_ok-state.state (goal_view (record { made = c.deref.result; shown = c.items-2.result })) c.in-Err-prove_block.stop c.in_ok-state.ensures same c.in-Err-prove_block.ensures.err

pub returns-in-Ok-prove_block-clause-written : goal.returns-in-Ok-prove_block-clause-written
returns-in-Ok-prove_block-clause-written c =
    each_written_well (script_of c.args.theorem.now.block) (script_of c.in-Ok-prove_block.proved) c.in-Ok-prove_block.ensures.derived.erased c.in-Ok-prove_block.ensures.derived.version
