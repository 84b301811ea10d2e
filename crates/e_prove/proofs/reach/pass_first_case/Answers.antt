use Rattle.std.proofs.Common.{◌≡◌, ◌++◌, ◌∷◌, [], rules, ap, sym, ◌∙◌, subst, true}
use Rattle.e_literal.specs.Literal.{negation}
use Rattle.e_literal.specs.Facts.{with_fact}
use Rattle.e_clause.specs.LimitedFacts.{are_limited_facts}
use Rattle.e_licence.specs.Contexts.{state_of}
use Rattle.e_theorem.specs.Statements.{as_views}
use Rattle.e_deriv.specs.Script.{script_of}
use Rattle.e_deriv.specs.Goal.{goal_view}
use Rattle.e_prove.specs.inner.NextStates.{after_literal}
use Rattle.e_prove.proofs.PassedSteps.{stops_for_memory, stops_as_memory}
use Rattle.e_prove.proofs.ReadySteps.{block_facts}
use Rattle.e_prove.proofs.HeldStates.{ready_inside, derived_outside, stops_outside, some_held, left_is}
use Rattle.e_prove.proofs.reach.pass_first_case.Goals as goal

pub assume-requires : goal.assume-requires
assume-requires c =
    let x = c.args.state.now in
    subst (λ y. are_limited_facts y.context.scope (with_fact y.context.facts c.args.lit.now) ≡ true) (sym c.in_ok-outer.ensures.held)
    (block_facts (as_views c.args.before.now) (script_of c.args.block.now) (after_literal c.args.lit.now x) (goal_view c.args.goal.now) c.requires.ready)

pub prove_block-requires-clause-ready : goal.prove_block-requires-clause-ready
prove_block-requires-clause-ready c =
    let x = c.args.state.now in
    let hs = x.context.held ++ state_of x.context ∷ [] in
    let entered = c.in-Ok.ensures ∙ ap (after_literal c.args.lit.now) c.in_ok-outer.ensures.held in
    ready_inside (as_views c.args.before.now) (script_of c.args.block.now) (after_literal c.args.lit.now x) c.assume.new.self (goal_view c.args.goal.now) hs entered c.requires.ready

pub leave_block-requires : goal.leave_block-requires
leave_block-requires c =
    let x = c.args.state.now in
    let entered = c.in-Ok.ensures ∙ ap (after_literal c.args.lit.now) c.in_ok-outer.ensures.held in
    some_held x c.prove_block.new.state (c.in-Ok-prove_block.ensures.kept ∙ ap (λ w. w.context.held) entered)

pub assume_not-requires : goal.assume_not-requires
assume_not-requires c =
    let x = c.args.state.now in
    let hs = x.context.held ++ state_of x.context ∷ [] in
    let entered = c.in-Ok.ensures ∙ ap (after_literal c.args.lit.now) c.in_ok-outer.ensures.held in
    let back = left_is c.in_ok-outer.outer x c.prove_block.new.state c.leave_block.new.self c.in_ok-outer.ensures.names (c.in-Ok-prove_block.ensures.kept ∙ ap (λ w. w.context.held) entered) c.leave_block.ensures in
    subst (λ y. are_limited_facts y.context.scope (with_fact y.context.facts (negation c.args.lit.now)) ≡ true) (sym back)
    (c.requires.second (script_of c.in-Ok-prove_block.proved)
    (derived_outside (as_views c.args.before.now) (script_of c.args.block.now) (after_literal c.args.lit.now x) c.assume.new.self (goal_view c.args.goal.now) (script_of c.in-Ok-prove_block.proved) hs entered c.in-Ok-prove_block.ensures.derived))

pub returns-clause-passed : goal.returns-clause-passed
returns-clause-passed c =
    let x = c.args.state.now in
    let hs = x.context.held ++ state_of x.context ∷ [] in
    let entered = c.in-Ok.ensures ∙ ap (after_literal c.args.lit.now) c.in_ok-outer.ensures.held in
    let back = left_is c.in_ok-outer.outer x c.prove_block.new.state c.leave_block.new.self c.in_ok-outer.ensures.names (c.in-Ok-prove_block.ensures.kept ∙ ap (λ w. w.context.held) entered) c.leave_block.ensures in
    record {
      derived = script_of c.in-Ok-prove_block.proved;
      is_derived = derived_outside (as_views c.args.before.now) (script_of c.args.block.now) (after_literal c.args.lit.now x) c.assume.new.self (goal_view c.args.goal.now) (script_of c.in-Ok-prove_block.proved) hs entered c.in-Ok-prove_block.ensures.derived;
      is_after = c.in_ok-assume_not.ensures ∙ ap (after_literal (negation c.args.lit.now)) back;
    }

pub returns-in-Err-prove_block-clause-err : goal.returns-in-Err-prove_block-clause-err
returns-in-Err-prove_block-clause-err c =
    let x = c.args.state.now in
    let hs = x.context.held ++ state_of x.context ∷ [] in
    let entered = c.in-Ok.ensures ∙ ap (after_literal c.args.lit.now) c.in_ok-outer.ensures.held in
    stops_outside (as_views c.args.before.now) (script_of c.args.block.now) (after_literal c.args.lit.now x) c.assume.new.self (goal_view c.args.goal.now) c.args.first_number c.in-Err-prove_block.stop hs entered c.in-Err-prove_block.ensures.err

pub returns-in_err-outer-clause-err : goal.returns-in_err-outer-clause-err
returns-in_err-outer-clause-err c =
    stops_as_memory (as_views c.args.before.now) (script_of c.args.block.now) (after_literal c.args.lit.now c.args.state.now) (goal_view c.args.goal.now) c.args.first_number c.from_residual.result (search rules)

pub returns-in-Err-clause-err : goal.returns-in-Err-clause-err
returns-in-Err-clause-err c =
    stops_for_memory (as_views c.args.before.now) (script_of c.args.block.now) (after_literal c.args.lit.now c.args.state.now) (goal_view c.args.goal.now) c.args.first_number

pub returns-in_err-assume_not-clause-err : goal.returns-in_err-assume_not-clause-err
returns-in_err-assume_not-clause-err c =
    stops_as_memory (as_views c.args.before.now) (script_of c.args.block.now) (after_literal c.args.lit.now c.args.state.now) (goal_view c.args.goal.now) c.args.first_number c.from_residual-in_err-assume_not.result (search rules)
