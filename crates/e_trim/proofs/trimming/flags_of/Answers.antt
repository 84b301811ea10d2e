use Rattle.std.proofs.Common.{arith, length, sym, ap, ◌∙◌, subst}
use Rattle.e_literal.specs.Use.{scope_of}
use Rattle.e_literal.specs.Scopes.{nothing, with_sorts, next_objects}
use Rattle.e_theorem.specs.Statements.{as_view, as_views}
use Rattle.e_deriv.specs.Script.{script_of, steps_script, close_script}
use Rattle.e_deriv.proofs.Smallness.{few_objects}
use Rattle.e_trim.specs.inner.StepState.{IsReady}
use Rattle.e_trim.proofs.kept_scripts.Starting.{scope_room, start_ready, goal_same}
use Rattle.e_trim.proofs.trimming.flags_of.Goals as goal

pub with_sorts-scope-requires-clause-points : goal.with_sorts-scope-requires-clause-points
with_sorts-scope-requires-clause-points c = let n = few_objects (as_view c.args.statement.now) c.requires.statement in let e = ap length c.items.ensures in omega (arith, n, e)

pub with_sorts-scope-requires-clause-lines : goal.with_sorts-scope-requires-clause-lines
with_sorts-scope-requires-clause-lines c = let n = few_objects (as_view c.args.statement.now) c.requires.statement in let e = ap length c.items.ensures in omega (arith, n, e)

pub with_sorts-scope-requires-clause-circles : goal.with_sorts-scope-requires-clause-circles
with_sorts-scope-requires-clause-circles c = let n = few_objects (as_view c.args.statement.now) c.requires.statement in let e = ap length c.items.ensures in omega (arith, n, e)

pub next_objects-requires-clause-points : goal.next_objects-requires-clause-points
next_objects-requires-clause-points c = (scope_room c.with_sorts-scope.result (as_view c.args.statement.now) c.items-2.result.now (c.with_sorts-scope.ensures ∙ ap (with_sorts nothing) c.items.ensures) c.items-2.ensures c.requires.statement).0

pub next_objects-requires-clause-lines : goal.next_objects-requires-clause-lines
next_objects-requires-clause-lines c = (scope_room c.with_sorts-scope.result (as_view c.args.statement.now) c.items-2.result.now (c.with_sorts-scope.ensures ∙ ap (with_sorts nothing) c.items.ensures) c.items-2.ensures c.requires.statement).1

pub next_objects-requires-clause-circles : goal.next_objects-requires-clause-circles
next_objects-requires-clause-circles c = (scope_room c.with_sorts-scope.result (as_view c.args.statement.now) c.items-2.result.now (c.with_sorts-scope.ensures ∙ ap (with_sorts nothing) c.items.ensures) c.items-2.ensures c.requires.statement).2

pub look-requires-clause-ready : goal.look-requires-clause-ready
look-requires-clause-ready c =
    let t = (as_view c.args.statement.now) in
    let same = ap (λ xs. steps_script xs (close_script c.args.deriv.now.close)) c.deref-2.ensures.value in
    let made = c.deref.ensures.value ∙ c.in_ok-made.ensures ∙ ap (λ s. next_objects s c.items-2.result.now) (c.with_sorts-scope.ensures ∙ ap (with_sorts nothing) c.items.ensures) ∙ ap (next_objects (scope_of t)) c.items-2.ensures in
    subst (λ d. IsReady (as_views c.args.before.now) d c.in_ok-state.state.scope c.in_ok-state.state.facts (record { made = c.deref.result.now; shown = c.items-3.result.now })) (sym same)
    (start_ready (as_views c.args.before.now) t (script_of c.args.deriv.now) c.in_ok-state.state (record { made = c.deref.result.now; shown = c.items-3.result.now }) c.in_ok-state.ensures
    (goal_same c.deref.result.now c.items-3.result.now t made c.items-3.ensures) c.requires)
