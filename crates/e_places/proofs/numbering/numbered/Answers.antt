use Rattle.std.proofs.Common.{arith, ◌≡◌, ◌+◌, ◌<◌, ◌^◌, ap, sym, ◌∙◌, subst, length, Result, Ok, Err}
use Rattle.std.specs.Prelude.{List, IfOk, OnOk}
use Rattle.e_literal.specs.declared.object.Obj.{Obj}
use Rattle.e_literal.specs.declared.object.Scope.{Scope}
use Rattle.e_literal.specs.declared.object.Sort.{Sort}
use Rattle.e_literal.specs.declared.literal.Lit.{Lit}
use Rattle.e_literal.specs.Scopes.{next_objects, with_sorts, nothing}
use Rattle.e_literal.specs.Use.{StatementView, scope_of}
use Rattle.e_clause.specs.declared.cert.Version.TheVariants as version
use Rattle.e_theorem.specs.Statements.{as_view, as_views}
use Rattle.e_deriv.specs.declared.block.Block.{Block}
use Rattle.e_deriv.specs.Script.{Script, script_of, bare_script}
use Rattle.e_deriv.specs.Goal.{Goal, goal_of_statement, facts_of_statement}
use Rattle.e_deriv.specs.Certified.{Certified}
use Rattle.e_deriv.specs.Versions.{has_certs_of}
use Rattle.e_verify.specs.declared.step_state.StepState.{StepState}
use Rattle.e_places.specs.Numbered.{derivation_with_places}
use Rattle.e_verify.specs.StepStates.{state_at_start}
use Rattle.e_places.specs.inner.Numbering.{HaveFew, places_at}
use Rattle.e_verify.proofs.checking.DerivationsOfStatements.{few_declared, few_more}
use Rattle.e_places.proofs.placing.NumberedLines.{numbered_certified, numbered_erased, numbered_of_second}
use Rattle.e_places.proofs.placing.NumberedSteps.{start_ready}
use Rattle.e_places.proofs.numbering.numbered.Goals as goal

abbrev as_goal : List Obj → List Lit → Goal
as_goal made shown = record { made = made; shown = shown }

pub with_sorts-scope-requires-clause-points : goal.with_sorts-scope-requires-clause-points
with_sorts-scope-requires-clause-points c = omega (arith, ap length c.items.ensures, few_declared (as_view c.args.statement.now) c.requires.verifiable.statement)

pub with_sorts-scope-requires-clause-lines : goal.with_sorts-scope-requires-clause-lines
with_sorts-scope-requires-clause-lines c = omega (arith, ap length c.items.ensures, few_declared (as_view c.args.statement.now) c.requires.verifiable.statement)

pub with_sorts-scope-requires-clause-circles : goal.with_sorts-scope-requires-clause-circles
with_sorts-scope-requires-clause-circles c = omega (arith, ap length c.items.ensures, few_declared (as_view c.args.statement.now) c.requires.verifiable.statement)

pub next_objects-requires-clause-points : goal.next_objects-requires-clause-points
next_objects-requires-clause-points c =
    subst (λ (s : Scope). s.points + length c.items-2.result.now < 2 ^ 16) (sym (c.with_sorts-scope.ensures ∙ ap (with_sorts nothing) c.items.ensures))
    (subst (λ n. (scope_of (as_view c.args.statement.now)).points + n < 2 ^ 16) (sym (ap length c.items-2.ensures)) (few_more (as_view c.args.statement.now) c.requires.verifiable.statement).0)

pub next_objects-requires-clause-lines : goal.next_objects-requires-clause-lines
next_objects-requires-clause-lines c =
    subst (λ (s : Scope). s.lines + length c.items-2.result.now < 2 ^ 16) (sym (c.with_sorts-scope.ensures ∙ ap (with_sorts nothing) c.items.ensures))
    (subst (λ n. (scope_of (as_view c.args.statement.now)).lines + n < 2 ^ 16) (sym (ap length c.items-2.ensures)) (few_more (as_view c.args.statement.now) c.requires.verifiable.statement).1)

pub next_objects-requires-clause-circles : goal.next_objects-requires-clause-circles
next_objects-requires-clause-circles c =
    subst (λ (s : Scope). s.circles + length c.items-2.result.now < 2 ^ 16) (sym (c.with_sorts-scope.ensures ∙ ap (with_sorts nothing) c.items.ensures))
    (subst (λ n. (scope_of (as_view c.args.statement.now)).circles + n < 2 ^ 16) (sym (ap length c.items-2.ensures)) (few_more (as_view c.args.statement.now) c.requires.verifiable.statement).2)

pub state_at_start-requires : goal.state_at_start-requires
state_at_start-requires c = c.with_sorts-scope.ensures ∙ ap (with_sorts nothing) c.items.ensures

-- the objects that are made, in the code and in the definition
made_is : (t : StatementView) (s : Scope) (declared made : List Sort) (seen said : List Obj) → s ≡ with_sorts nothing declared → declared ≡ t.declared → made ≡ t.made → said ≡ next_objects s made → seen ≡ said → seen ≡ next_objects (scope_of t) t.made
made_is t s declared made seen said is same like next at =
    at ∙ next ∙ ap (λ (z : Scope). next_objects z made) (is ∙ ap (with_sorts nothing) same) ∙ ap (next_objects (scope_of t)) like

goal_is : (t : StatementView) (made : List Obj) (shown : List Lit) → made ≡ next_objects (scope_of t) t.made → shown ≡ t.shown → as_goal made shown ≡ goal_of_statement t
goal_is t made shown m e = ap (λ ms. as_goal ms shown) m ∙ ap (as_goal (next_objects (scope_of t) t.made)) e

pub number_block-requires-clause-ready : goal.number_block-requires-clause-ready
number_block-requires-clause-ready c =
    let t = as_view c.args.statement.now in
    let made = made_is t c.with_sorts-scope.result c.items.result.now c.items-2.result.now c.deref.result.now c.in_ok-made.made.items c.with_sorts-scope.ensures c.items.ensures c.items-2.ensures c.in_ok-made.ensures c.deref.ensures.value in
    start_ready (as_views c.args.before.now) t (script_of c.args.deriv.now) c.in_ok-state.state (as_goal c.deref.result.now c.items-3.result.now) c.requires.certified c.requires.verifiable.scopes c.in_ok-state.ensures
    (goal_is t c.deref.result.now c.items-3.result.now made c.items-3.ensures)

-- with places from the start of the statement
whole : (before : List StatementView) (t : StatementView) (d p : Script) (x : StepState) (g : Goal) → x ≡ state_at_start t → g ≡ goal_of_statement t → p ≡ places_at before d x g → p ≡ derivation_with_places before t d
whole before t d p x g is same e = e ∙ ap (λ y. places_at before d y g) is ∙ ap (places_at before d (state_at_start t)) same

if_ok : {X E : Type 0} {P Q : X → Type 0} (r : Result X E) → IfOk r P → ((x : X) → P x → Q x) → IfOk r Q
if_ok (Ok x) h f = f x h
if_ok (Err e) h f = h

both_ok : {X E A : Type 0} {P Q : X → Type 0} (r : Result X E) → IfOk r P → OnOk r A → ((x : X) → P x → A → Q x) → IfOk r Q
both_ok (Ok x) h a f = f x h a
both_ok (Err e) h a f = h

pub returns-clause-numbered : goal.returns-clause-numbered
returns-clause-numbered c =
    let before = as_views c.args.before.now in
    let t = as_view c.args.statement.now in
    let d = script_of c.args.deriv.now in
    let x = c.in_ok-state.state in
    let g = as_goal c.deref.result.now c.items-3.result.now in
    let made = made_is t c.with_sorts-scope.result c.items.result.now c.items-2.result.now c.deref.result.now c.in_ok-made.made.items c.with_sorts-scope.ensures c.items.ensures c.items-2.ensures c.in_ok-made.ensures c.deref.ensures.value in
    let same = goal_is t c.deref.result.now c.items-3.result.now made c.items-3.ensures in
    if_ok c.number_block.result c.number_block.ensures.same (λ (b : Block) e. whole before t d (script_of b) x g c.in_ok-state.ensures same e)

pub returns-clause-script : goal.returns-clause-script
returns-clause-script c =
    let before = as_views c.args.before.now in
    let t = as_view c.args.statement.now in
    let d = script_of c.args.deriv.now in
    let x = c.in_ok-state.state in
    let g = as_goal c.deref.result.now c.items-3.result.now in
    let made = made_is t c.with_sorts-scope.result c.items.result.now c.items-2.result.now c.deref.result.now c.in_ok-made.made.items c.with_sorts-scope.ensures c.items.ensures c.items-2.ensures c.in_ok-made.ensures c.deref.ensures.value in
    let same = goal_is t c.deref.result.now c.items-3.result.now made c.items-3.ensures in
    if_ok c.number_block.result c.number_block.ensures.same (λ (b : Block) e. ap bare_script (whole before t d (script_of b) x g c.in_ok-state.ensures same e) ∙ numbered_erased before d (scope_of t) (facts_of_statement t) (goal_of_statement t))

pub returns-clause-certified : goal.returns-clause-certified
returns-clause-certified c =
    let before = as_views c.args.before.now in
    let t = as_view c.args.statement.now in
    let d = script_of c.args.deriv.now in
    let x = c.in_ok-state.state in
    let g = as_goal c.deref.result.now c.items-3.result.now in
    let made = made_is t c.with_sorts-scope.result c.items.result.now c.items-2.result.now c.deref.result.now c.in_ok-made.made.items c.with_sorts-scope.ensures c.items.ensures c.items-2.ensures c.in_ok-made.ensures c.deref.ensures.value in
    let same = goal_is t c.deref.result.now c.items-3.result.now made c.items-3.ensures in
    if_ok c.number_block.result c.number_block.ensures.same
    (λ (b : Block) e. subst (Certified before t) (sym (whole before t d (script_of b) x g c.in_ok-state.ensures same e)) (numbered_certified before d (scope_of t) (facts_of_statement t) (goal_of_statement t) c.requires.certified))

pub returns-clause-version : goal.returns-clause-version
returns-clause-version c =
    let before = as_views c.args.before.now in
    let t = as_view c.args.statement.now in
    let d = script_of c.args.deriv.now in
    let x = c.in_ok-state.state in
    let g = as_goal c.deref.result.now c.items-3.result.now in
    let made = made_is t c.with_sorts-scope.result c.items.result.now c.items-2.result.now c.deref.result.now c.in_ok-made.made.items c.with_sorts-scope.ensures c.items.ensures c.items-2.ensures c.in_ok-made.ensures c.deref.ensures.value in
    let same = goal_is t c.deref.result.now c.items-3.result.now made c.items-3.ensures in
    both_ok c.number_block.result c.number_block.ensures.same c.number_block.ensures.few
    (λ (b : Block) e few. ap (has_certs_of version.Two) (whole before t d (script_of b) x g c.in_ok-state.ensures same e)
    ∙ numbered_of_second before d (scope_of t) (facts_of_statement t) (goal_of_statement t) c.requires.verifiable.written
    (subst (λ h. HaveFew before d (state_at_start t) h) same (subst (λ y. HaveFew before d y g) c.in_ok-state.ensures few)))

pub number_block-requires-clause-statements : goal.number_block-requires-clause-statements
number_block-requires-clause-statements c = c.requires.verifiable.statements
