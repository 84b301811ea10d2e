use Rattle.std.proofs.Common.{arith, ◌≡◌, ◌+◌, ◌<◌, ◌^◌, ap, sym, ◌∙◌, subst, length}
use Rattle.std.specs.Prelude.{List}
use Rattle.e_literal.specs.declared.object.Obj.{Obj}
use Rattle.e_literal.specs.declared.object.Scope.{Scope}
use Rattle.e_literal.specs.declared.object.Sort.{Sort}
use Rattle.e_literal.specs.declared.literal.Lit.{Lit}
use Rattle.e_literal.specs.Scopes.{next_objects, with_sorts, nothing}
use Rattle.e_literal.specs.Use.{StatementView, scope_of}
use Rattle.e_theorem.specs.Statements.{as_view, as_views}
use Rattle.e_deriv.specs.Script.{script_of}
use Rattle.e_deriv.specs.Goal.{Goal, goal_of_statement}
use Rattle.e_deriv.proofs.Agreement.{proof_of_certified}
use Rattle.e_verify.specs.Checking.{verdict_at}
use Rattle.e_verify.proofs.checking.DerivationsOfStatements.{same_verdict, start_ready, certified_of, few_declared, few_more}
use Rattle.e_verify.proofs.verifier.verify.Goals as goal

abbrev as_goal : List Obj → List Lit → Goal
as_goal made shown = record { made = made; shown = shown }

pub with_sorts-scope-requires-clause-points : goal.with_sorts-scope-requires-clause-points
with_sorts-scope-requires-clause-points c = omega (arith, ap length c.items.ensures, few_declared (as_view c.args.statement.now) c.requires.statement)

pub with_sorts-scope-requires-clause-lines : goal.with_sorts-scope-requires-clause-lines
with_sorts-scope-requires-clause-lines c = omega (arith, ap length c.items.ensures, few_declared (as_view c.args.statement.now) c.requires.statement)

pub with_sorts-scope-requires-clause-circles : goal.with_sorts-scope-requires-clause-circles
with_sorts-scope-requires-clause-circles c = omega (arith, ap length c.items.ensures, few_declared (as_view c.args.statement.now) c.requires.statement)

pub next_objects-requires-clause-points : goal.next_objects-requires-clause-points
next_objects-requires-clause-points c =
    subst (λ (s : Scope). s.points + length c.items-2.result.now < 2 ^ 16) (sym (c.with_sorts-scope.ensures ∙ ap (with_sorts nothing) c.items.ensures))
    (subst (λ n. (scope_of (as_view c.args.statement.now)).points + n < 2 ^ 16) (sym (ap length c.items-2.ensures)) (few_more (as_view c.args.statement.now) c.requires.statement).0)

pub next_objects-requires-clause-lines : goal.next_objects-requires-clause-lines
next_objects-requires-clause-lines c =
    subst (λ (s : Scope). s.lines + length c.items-2.result.now < 2 ^ 16) (sym (c.with_sorts-scope.ensures ∙ ap (with_sorts nothing) c.items.ensures))
    (subst (λ n. (scope_of (as_view c.args.statement.now)).lines + n < 2 ^ 16) (sym (ap length c.items-2.ensures)) (few_more (as_view c.args.statement.now) c.requires.statement).1)

pub next_objects-requires-clause-circles : goal.next_objects-requires-clause-circles
next_objects-requires-clause-circles c =
    subst (λ (s : Scope). s.circles + length c.items-2.result.now < 2 ^ 16) (sym (c.with_sorts-scope.ensures ∙ ap (with_sorts nothing) c.items.ensures))
    (subst (λ n. (scope_of (as_view c.args.statement.now)).circles + n < 2 ^ 16) (sym (ap length c.items-2.ensures)) (few_more (as_view c.args.statement.now) c.requires.statement).2)

pub state_at_start-requires : goal.state_at_start-requires
state_at_start-requires c = c.with_sorts-scope.ensures ∙ ap (with_sorts nothing) c.items.ensures

-- the objects that are made, in the code and in the definition
made_is : (t : StatementView) (s : Scope) (declared made : List Sort) (seen said : List Obj) → s ≡ with_sorts nothing declared → declared ≡ t.declared → made ≡ t.made → said ≡ next_objects s made → seen ≡ said → seen ≡ next_objects (scope_of t) t.made
made_is t s declared made seen said is same like next at =
    at ∙ next ∙ ap (λ (z : Scope). next_objects z made) (is ∙ ap (with_sorts nothing) same) ∙ ap (next_objects (scope_of t)) like

goal_is : (t : StatementView) (made : List Obj) (shown : List Lit) → made ≡ next_objects (scope_of t) t.made → shown ≡ t.shown → as_goal made shown ≡ goal_of_statement t
goal_is t made shown m e = ap (λ ms. as_goal ms shown) m ∙ ap (as_goal (next_objects (scope_of t) t.made)) e

pub verify_block-requires-clause-ready : goal.verify_block-requires-clause-ready
verify_block-requires-clause-ready c =
    let t = as_view c.args.statement.now in
    let made = made_is t c.with_sorts-scope.result c.items.result.now c.items-2.result.now c.deref.result.now c.in_ok-made.made.items c.with_sorts-scope.ensures c.items.ensures c.items-2.ensures c.in_ok-made.ensures c.deref.ensures.value in
    start_ready (as_views c.args.before.now) t (script_of c.args.deriv.now) c.in_ok-state.state (as_goal c.deref.result.now c.items-3.result.now) c.requires c.in_ok-state.ensures
    (goal_is t c.deref.result.now c.items-3.result.now made c.items-3.ensures)

pub returns-in-Ok-clause-certified : goal.returns-in-Ok-clause-certified
returns-in-Ok-clause-certified c =
    let before = as_views c.args.before.now in
    let t = as_view c.args.statement.now in
    let d = script_of c.args.deriv.now in
    let g = as_goal c.deref.result.now c.items-3.result.now in
    let made = made_is t c.with_sorts-scope.result c.items.result.now c.items-2.result.now c.deref.result.now c.in_ok-made.made.items c.with_sorts-scope.ensures c.items.ensures c.items-2.ensures c.in_ok-made.ensures c.deref.ensures.value in
    certified_of before t d (verdict_at before d c.in_ok-state.state g 1) c.in-Ok.field-0
    (same_verdict before t d c.in_ok-state.state g c.in_ok-state.ensures (goal_is t c.deref.result.now c.items-3.result.now made c.items-3.ensures)) c.in-Ok.ensures.ok

pub returns-in-Ok-clause-proof : goal.returns-in-Ok-clause-proof
returns-in-Ok-clause-proof c =
    let before = as_views c.args.before.now in
    let t = as_view c.args.statement.now in
    let d = script_of c.args.deriv.now in
    let g = as_goal c.deref.result.now c.items-3.result.now in
    let made = made_is t c.with_sorts-scope.result c.items.result.now c.items-2.result.now c.deref.result.now c.in_ok-made.made.items c.with_sorts-scope.ensures c.items.ensures c.items-2.ensures c.in_ok-made.ensures c.deref.ensures.value in
    proof_of_certified before t d
    (certified_of before t d (verdict_at before d c.in_ok-state.state g 1) c.in-Ok.field-0
    (same_verdict before t d c.in_ok-state.state g c.in_ok-state.ensures (goal_is t c.deref.result.now c.items-3.result.now made c.items-3.ensures)) c.in-Ok.ensures.ok)
