use Rattle.std.proofs.Common.{◌≡◌, ◌+◌, ◌++◌, ◌∷◌, [], rules, arith, refl, sym, ap, ◌∙◌, subst, true}
use Rattle.e_literal.specs.Literal.{negation}
use Rattle.e_clause.specs.LimitedFacts.{are_limited_facts}
use Rattle.e_theorem.specs.Statements.{as_views}
use Rattle.e_deriv.specs.declared.block.Close.TheViews.{the_lemmas}
use Rattle.e_deriv.specs.Script.{script_of, step_script, close_script, size}
use Rattle.e_deriv.specs.Goal.{goal_of, goal_view}
use Rattle.e_prove.specs.inner.NextStates.{after_literal, after_superposed}
use Rattle.e_prove.specs.inner.PassedSteps.{IsReadyFor, IsReadyStep, IsDerivedFrom, IsFirstPassed, ReachesStep, StopsWithin}
use Rattle.e_prove.proofs.LicensedLiterals.{err_map}
use Rattle.e_prove.proofs.StopsInLists.{stop_before, stop_within, before_more}
use Rattle.e_prove.proofs.PassedSteps.{stops_as_memory}
use Rattle.e_prove.proofs.ReadySteps.{claim_parts, claim_lines, superposed_parts, superposed_lines, block_facts, room_of_small}
use Rattle.e_prove.proofs.Blocks.{passed_start, step_ready, step_stops, step_passed, close_ready, close_few, close_stops, claim_stopped, superposed_stopped, superposed_refused, split_parts, split_second_ready, split_size, split_stops_first, line_is_one, close_is_one, kept_on, kept_literal}
use Rattle.e_prove.proofs.ReachedSteps.{on_ok_map, memory_before, lines_fit, claim_count, superposed_count, same_state_names, step_reaches, step_here, close_reaches, close_here, step_ends, step_stops_before, claim_entered, superposed_entered, split_entered_first, split_entered_second, split_stopped_second}
use Rattle.e_prove.proofs.reach.+reach.Goals as goal
use Rattle.e_book.proofs.canonical.ScriptParts.{at_least}

-- ---- the steps of a block

pub reach-loop-step-init : goal.reach-loop-step-init
reach-loop-step-init t c =
    record { done = []; passed = passed_start (as_views c.args.before.now) c.args.block.now.steps.items [] c.args.state.now c.args.first_number refl; from = c.requires.from }

pub reach-returns-then-number-target-clause-reached : goal.reach-returns-then-number-target-clause-reached
reach-returns-then-number-target-clause-reached t c =
    step_here (as_views c.args.before.now) c.args.block.now.steps.items c.deref-step-items.result.now c.loop-step.invariant.done (close_script c.args.block.now.close) c.loop-step.step-index c.step-item.result c.args.state.now c.loop-step.state
    (goal_view c.args.goal.now) c.args.first_number c.loop-step.number c.args.target c.deref-step-items.ensures.value c.loop-step-test.true c.step-item.is (search rules) c.loop-step.invariant.passed c.requires.ready

pub reach-returns-then-number-target-clause-kept : goal.reach-returns-then-number-target-clause-kept
reach-returns-then-number-target-clause-kept t c = c.loop-step.invariant.passed.kept

pub reach-step_count-count-requires : goal.reach-step_count-count-requires
reach-step_count-count-requires t c =
    let ready = step_ready (as_views c.args.before.now) c.args.block.now.steps.items c.deref-step-items.result.now c.loop-step.invariant.done (close_script c.args.block.now.close) c.loop-step.step-index c.step-item.result c.args.state.now c.loop-step.state
    (goal_view c.args.goal.now) c.args.first_number c.loop-step.number c.deref-step-items.ensures.value c.loop-step-test.true c.step-item.is c.loop-step.invariant.passed c.requires.ready c.requires.few
    in
    lines_fit c.step-item.result ready.rest c.loop-step.number ready.few

pub reach-overflow_add-next : goal.reach-overflow_add-next
reach-overflow_add-next t c =
    let ready = step_ready (as_views c.args.before.now) c.args.block.now.steps.items c.deref-step-items.result.now c.loop-step.invariant.done (close_script c.args.block.now.close) c.loop-step.step-index c.step-item.result c.args.state.now c.loop-step.state
    (goal_view c.args.goal.now) c.args.first_number c.loop-step.number c.deref-step-items.ensures.value c.loop-step-test.true c.step-item.is c.loop-step.invariant.passed c.requires.ready c.requires.few
    in
    omega (arith, ready.few, c.step_count-count.ensures ready.rest)

pub reach-enter_step-requires : goal.reach-enter_step-requires
reach-enter_step-requires t c =
    let ready = step_ready (as_views c.args.before.now) c.args.block.now.steps.items c.deref-step-items.result.now c.loop-step.invariant.done (close_script c.args.block.now.close) c.loop-step.step-index c.step-item.result c.args.state.now c.loop-step.state
    (goal_view c.args.goal.now) c.args.first_number c.loop-step.number c.deref-step-items.ensures.value c.loop-step-test.true c.step-item.is c.loop-step.invariant.passed c.requires.ready c.requires.few
    in (
      search (rules, the_lemmas),
      (
        ready,
        (
          omega (arith, c.loop-step.invariant.from, c.if-number-target.false),
          λ rest. omega (arith, c.step_count-count.ensures rest, c.if-target-next.true),
        ),
      ),
    )

pub reach-returns-then-target-next-clause-reached : goal.reach-returns-then-target-next-clause-reached
reach-returns-then-target-next-clause-reached t c =
    on_ok_map _ _ c.enter_step.result
    (step_reaches (as_views c.args.before.now) c.args.block.now.steps.items c.deref-step-items.result.now c.loop-step.invariant.done (close_script c.args.block.now.close) c.loop-step.step-index c.step-item.result c.args.state.now c.loop-step.state
    c.enter_step.new.state (goal_view c.args.goal.now) c.args.first_number c.loop-step.number c.args.target c.deref-step-items.ensures.value c.loop-step-test.true c.step-item.is c.loop-step.invariant.passed c.requires.ready)
    c.enter_step.ensures.reached

pub reach-returns-then-target-next-clause-kept : goal.reach-returns-then-target-next-clause-kept
reach-returns-then-target-next-clause-kept t c =
    on_ok_map _ _ c.enter_step.result (kept_on c.args.state.now c.loop-step.state c.enter_step.new.state c.loop-step.invariant.passed.kept) c.enter_step.ensures.kept

pub reach-returns-then-target-next-clause-err : goal.reach-returns-then-target-next-clause-err
reach-returns-then-target-next-clause-err t c =
    err_map _ _ c.enter_step.result
    (λ stop k. step_stops (as_views c.args.before.now) c.args.block.now.steps.items c.deref-step-items.result.now c.loop-step.invariant.done (close_script c.args.block.now.close) c.loop-step.step-index c.step-item.result c.args.state.now c.loop-step.state
    (goal_view c.args.goal.now) c.args.first_number c.loop-step.number stop c.deref-step-items.ensures.value c.loop-step-test.true c.step-item.is c.loop-step.invariant.passed c.requires.ready k)
    c.enter_step.ensures.err

pub reach-prove_step-requires : goal.reach-prove_step-requires
reach-prove_step-requires t c =
    step_ready (as_views c.args.before.now) c.args.block.now.steps.items c.deref-step-items.result.now c.loop-step.invariant.done (close_script c.args.block.now.close) c.loop-step.step-index c.step-item.result c.args.state.now c.loop-step.state
    (goal_view c.args.goal.now) c.args.first_number c.loop-step.number c.deref-step-items.ensures.value c.loop-step-test.true c.step-item.is c.loop-step.invariant.passed c.requires.ready c.requires.few

pub reach-loop-step-preserved : goal.reach-loop-step-preserved
reach-loop-step-preserved t c =
    record {
      done = c.loop-step.invariant.done ++ c.in-Ok.proved ∷ [];
      passed =
          step_passed (as_views c.args.before.now) c.args.block.now.steps.items c.deref-step-items.result.now c.loop-step.invariant.done (c.loop-step.invariant.done ++ c.in-Ok.proved ∷ []) c.loop-step.step-index c.step-item.result
          c.in-Ok.proved c.args.state.now c.loop-step.state c.prove_step.new.state c.args.first_number c.loop-step.number c.prove_step.new.number c.deref-step-items.ensures.value c.loop-step-test.true c.step-item.is refl
          c.loop-step.invariant.passed c.in-Ok.ensures.ok;
      from = omega (
        arith,
        step_ends (as_views c.args.before.now) c.step-item.result c.in-Ok.proved c.loop-step.state c.prove_step.new.state c.loop-step.number c.prove_step.new.number c.step_count-count.result (close_script c.args.block.now.close)
            (c.step_count-count.ensures (close_script c.args.block.now.close)) c.in-Ok.ensures.ok,
        c.if-target-next.false,
      );
    }

pub reach-returns-in-Err-clause-err : goal.reach-returns-in-Err-clause-err
reach-returns-in-Err-clause-err t c =
    step_stops (as_views c.args.before.now) c.args.block.now.steps.items c.deref-step-items.result.now c.loop-step.invariant.done (close_script c.args.block.now.close) c.loop-step.step-index c.step-item.result c.args.state.now c.loop-step.state
    (goal_view c.args.goal.now) c.args.first_number c.loop-step.number c.in-Err.stop c.deref-step-items.ensures.value c.loop-step-test.true c.step-item.is c.loop-step.invariant.passed c.requires.ready c.in-Err.ensures.err

pub reach-returns-in-Err-clause-earlier : goal.reach-returns-in-Err-clause-earlier
reach-returns-in-Err-clause-earlier t c =
    let ready = step_ready (as_views c.args.before.now) c.args.block.now.steps.items c.deref-step-items.result.now c.loop-step.invariant.done (close_script c.args.block.now.close) c.loop-step.step-index c.step-item.result c.args.state.now c.loop-step.state
    (goal_view c.args.goal.now) c.args.first_number c.loop-step.number c.deref-step-items.ensures.value c.loop-step-test.true c.step-item.is c.loop-step.invariant.passed c.requires.ready c.requires.few
    in
    step_stops_before (as_views c.args.before.now) c.step-item.result c.loop-step.state c.loop-step.number c.step_count-count.result c.args.target c.in-Err.stop ready (c.step_count-count.ensures ready.rest)
    (omega (arith, c.if-target-next.false)) c.in-Err.ensures.err

-- ---- its close

pub reach-returns-then-number-target-2-clause-reached : goal.reach-returns-then-number-target-2-clause-reached
reach-returns-then-number-target-2-clause-reached t c =
    close_here (as_views c.args.before.now) c.args.block.now.steps.items c.deref-step-items.result.now c.loop-step.invariant.done (close_script c.args.block.now.close) c.loop-step.step-index c.args.state.now c.loop-step.state
    (goal_view c.args.goal.now) c.args.first_number c.loop-step.number c.args.target c.deref-step-items.ensures.value c.loop-step-test.false (search rules) c.loop-step.invariant.passed c.requires.ready

pub reach-returns-then-number-target-2-clause-kept : goal.reach-returns-then-number-target-2-clause-kept
reach-returns-then-number-target-2-clause-kept t c = c.loop-step.invariant.passed.kept

pub reach-enter_close-requires : goal.reach-enter_close-requires
reach-enter_close-requires t c =
    let items = c.args.block.now.steps.items in
    let close = close_script c.args.block.now.close in
    let i = c.loop-step.step-index in
    let p = c.loop-step.invariant.passed in
    let few = close_few (as_views c.args.before.now) items c.deref-step-items.result.now c.loop-step.invariant.done close i c.args.state.now c.loop-step.state c.args.first_number c.loop-step.number c.deref-step-items.ensures.value c.loop-step-test.false p in (
      search (rules, the_lemmas),
      (
        close_ready (as_views c.args.before.now) items c.deref-step-items.result.now c.loop-step.invariant.done close i c.args.state.now c.loop-step.state (goal_view c.args.goal.now) c.args.first_number c.loop-step.number c.deref-step-items.ensures.value
            c.loop-step-test.false p c.requires.ready,
        (
          omega (arith, few, c.requires.few),
          (
            omega (arith, c.loop-step.invariant.from, c.if-number-target-2.false),
            omega (arith, few, c.requires.within),
          ),
        ),
      ),
    )

pub reach-returns-clause-reached : goal.reach-returns-clause-reached
reach-returns-clause-reached t c =
    on_ok_map _ _ c.enter_close.result
    (close_reaches (as_views c.args.before.now) c.args.block.now.steps.items c.deref-step-items.result.now c.loop-step.invariant.done (close_script c.args.block.now.close) c.loop-step.step-index c.args.state.now c.loop-step.state
    c.enter_close.new.state (goal_view c.args.goal.now) c.args.first_number c.loop-step.number c.args.target c.deref-step-items.ensures.value c.loop-step-test.false c.loop-step.invariant.passed c.requires.ready)
    c.enter_close.ensures.reached

pub reach-returns-clause-kept : goal.reach-returns-clause-kept
reach-returns-clause-kept t c =
    on_ok_map _ _ c.enter_close.result (kept_on c.args.state.now c.loop-step.state c.enter_close.new.state c.loop-step.invariant.passed.kept) c.enter_close.ensures.kept

pub reach-returns-clause-err : goal.reach-returns-clause-err
reach-returns-clause-err t c =
    err_map _ _ c.enter_close.result
    (λ stop k. close_stops (as_views c.args.before.now) c.args.block.now.steps.items c.deref-step-items.result.now c.loop-step.invariant.done (close_script c.args.block.now.close) c.loop-step.step-index c.args.state.now c.loop-step.state
    (goal_view c.args.goal.now) c.args.first_number c.loop-step.number stop c.deref-step-items.ensures.value c.loop-step-test.false c.loop-step.invariant.passed c.requires.ready k)
    c.enter_close.ensures.err

-- ---- the block inside a step

pub enter_step-unreachable-requires : goal.enter_step-unreachable-requires
enter_step-unreachable-requires t c =
    let rest = c.requires.ready.rest in
    omega (arith, line_is_one c.args.step.now rest c.in-Cite.is, c.requires.inside, c.requires.within rest)

pub enter_step-overflow_add-number : goal.enter_step-overflow_add-number
enter_step-overflow_add-number t c = let one = at_least (step_script c.args.step.now c.requires.ready.rest) in omega (arith, one, c.requires.ready.few)

pub enter_step-reach-requires : goal.enter_step-reach-requires
enter_step-reach-requires t c =
    let x = c.args.state.now in
    let ready = subst (λ s. IsReadyStep (as_views c.args.before.now) s x c.args.number) c.in-Claim.is c.requires.ready in
    let parts = claim_parts (as_views c.args.before.now) c.in-Claim.shown c.in-Claim.inner x c.args.number ready in
    let few = claim_lines (as_views c.args.before.now) c.in-Claim.shown c.in-Claim.inner x c.args.number ready in
    let same = ap (λ b. size (script_of b)) c.deref.ensures in
    let rest = c.requires.ready.rest in
    let count = ap (λ s. size (step_script s rest)) c.in-Claim.is ∙ claim_count c.in-Claim.shown c.in-Claim.inner rest in (
      search (rules, the_lemmas),
      (
        subst (λ b. IsReadyFor (as_views c.args.before.now) (script_of b) x (goal_of c.items.result.now)) (sym c.deref.ensures)
            (subst (λ ls. IsReadyFor (as_views c.args.before.now) (script_of c.in-Claim.inner.value) x (goal_of ls)) (sym c.items.ensures) parts.block),
        (
          omega (arith, same, few),
          (
            omega (arith, c.requires.inside),
            omega (arith, same, count, c.requires.within rest),
          ),
        ),
      ),
    )

pub enter_step-returns-in-Claim-clause-reached : goal.enter_step-returns-in-Claim-clause-reached
enter_step-returns-in-Claim-clause-reached t c =
    let x = c.args.state.now in
    let ready = subst (λ s. IsReadyStep (as_views c.args.before.now) s x c.args.number) c.in-Claim.is c.requires.ready in
    on_ok_map _ _ c.reach.result
    (λ k. claim_entered (as_views c.args.before.now) c.args.step.now c.in-Claim.shown c.in-Claim.inner x c.reach.new.state c.args.number c.args.target c.in-Claim.is
    (claim_parts (as_views c.args.before.now) c.in-Claim.shown c.in-Claim.inner x c.args.number ready)
    (subst (λ ls. ReachesStep (as_views c.args.before.now) (script_of c.in-Claim.inner.value) x (goal_of ls) (c.args.number + 1) c.args.target c.reach.new.state) c.items.ensures
    (subst (λ b. ReachesStep (as_views c.args.before.now) (script_of b) x (goal_of c.items.result.now) (c.args.number + 1) c.args.target c.reach.new.state) c.deref.ensures k)))
    c.reach.ensures.reached

pub enter_step-returns-in-Claim-clause-kept : goal.enter_step-returns-in-Claim-clause-kept
enter_step-returns-in-Claim-clause-kept t c = c.reach.ensures.kept

pub enter_step-returns-in-Claim-clause-err : goal.enter_step-returns-in-Claim-clause-err
enter_step-returns-in-Claim-clause-err t c =
    let x = c.args.state.now in
    let ready = subst (λ s. IsReadyStep (as_views c.args.before.now) s x c.args.number) c.in-Claim.is c.requires.ready in
    err_map _ _ c.reach.result
    (λ stop k. claim_stopped (as_views c.args.before.now) c.args.step.now c.in-Claim.shown c.in-Claim.inner x c.args.number stop c.in-Claim.is
    (claim_parts (as_views c.args.before.now) c.in-Claim.shown c.in-Claim.inner x c.args.number ready)
    (subst (λ ls. StopsWithin (as_views c.args.before.now) (script_of c.in-Claim.inner.value) x (goal_of ls) (c.args.number + 1) stop) c.items.ensures
    (subst (λ b. StopsWithin (as_views c.args.before.now) (script_of b) x (goal_of c.items.result.now) (c.args.number + 1) stop) c.deref.ensures k)))
    c.reach.ensures.err

pub enter_step-license_superpose-requires-clause-room : goal.enter_step-license_superpose-requires-clause-room
enter_step-license_superpose-requires-clause-room t c =
    let x = c.args.state.now in
    let y = c.in-Superposed in
    let parts = superposed_parts (as_views c.args.before.now) y.superposition y.names y.shown y.certs y.inner x c.args.number (subst (λ s. IsReadyStep (as_views c.args.before.now) s x c.args.number) y.is c.requires.ready) in
    room_of_small x.context.scope parts.scope

pub enter_step-license_superpose-requires-clause-needs : goal.enter_step-license_superpose-requires-clause-needs
enter_step-license_superpose-requires-clause-needs t c =
    let x = c.args.state.now in
    let y = c.in-Superposed in
    (superposed_parts (as_views c.args.before.now) y.superposition y.names y.shown y.certs y.inner x c.args.number (subst (λ s. IsReadyStep (as_views c.args.before.now) s x c.args.number) y.is c.requires.ready)).needs

pub enter_step-license_superpose-requires-clause-after : goal.enter_step-license_superpose-requires-clause-after
enter_step-license_superpose-requires-clause-after t c =
    let x = c.args.state.now in
    let y = c.in-Superposed in
    let parts = superposed_parts (as_views c.args.before.now) y.superposition y.names y.shown y.certs y.inner x c.args.number (subst (λ s. IsReadyStep (as_views c.args.before.now) s x c.args.number) y.is c.requires.ready) in
    let good = block_facts (as_views c.args.before.now) (script_of y.inner.value) (after_superposed y.superposition y.names x) (goal_of y.shown) parts.block in
    subst (λ ns. let after = after_superposed y.superposition ns x in are_limited_facts after.context.scope after.context.facts ≡ true) (sym c.items-in-Superposed.ensures) good

pub enter_step-returns-in-Err-clause-err : goal.enter_step-returns-in-Err-clause-err
enter_step-returns-in-Err-clause-err t c =
    let x = c.args.state.now in
    let y = c.in-Superposed in
    let h = c.in-Err.stop_reason in
    superposed_refused (as_views c.args.before.now) c.args.step.now y.superposition y.names y.shown y.certs y.inner x c.license_superpose.new.state c.args.number h c.stop_at.result y.is c.in-Err.ensures.err
    (same_state_names x c.license_superpose.new.state h c.in-Err.ensures.kept) c.stop_at.ensures

pub enter_step-returns-in-Err-clause-earlier : goal.enter_step-returns-in-Err-clause-earlier
enter_step-returns-in-Err-clause-earlier t c =
    stop_before c.in-Err.stop_reason c.args.number c.args.target c.license_superpose.new.state.names c.stop_at.result c.requires.inside c.stop_at.ensures

pub enter_step-overflow_add-number-in-Superposed : goal.enter_step-overflow_add-number-in-Superposed
enter_step-overflow_add-number-in-Superposed t c = let one = at_least (step_script c.args.step.now c.requires.ready.rest) in omega (arith, one, c.requires.ready.few)

pub enter_step-reach-requires-in-Superposed : goal.enter_step-reach-requires-in-Superposed
enter_step-reach-requires-in-Superposed t c =
    let x = c.args.state.now in
    let y = c.in-Superposed in
    let ready = subst (λ s. IsReadyStep (as_views c.args.before.now) s x c.args.number) y.is c.requires.ready in
    let parts = superposed_parts (as_views c.args.before.now) y.superposition y.names y.shown y.certs y.inner x c.args.number ready in
    let few = superposed_lines (as_views c.args.before.now) y.superposition y.names y.shown y.certs y.inner x c.args.number ready in
    let begun = c.in-Ok.ensures.after ∙ ap (λ ns. after_superposed y.superposition ns x) c.items-in-Superposed.ensures in
    let same = ap (λ b. size (script_of b)) c.deref-in-Superposed.ensures in
    let rest = c.requires.ready.rest in
    let count = ap (λ s. size (step_script s rest)) y.is ∙ superposed_count y.superposition y.names y.shown y.certs y.inner rest in (
      search (rules, the_lemmas),
      (
        subst (λ b. IsReadyFor (as_views c.args.before.now) (script_of b) c.license_superpose.new.state (goal_of c.items-in-Superposed-2.result.now)) (sym c.deref-in-Superposed.ensures)
            (subst (λ ls. IsReadyFor (as_views c.args.before.now) (script_of y.inner.value) c.license_superpose.new.state (goal_of ls)) (sym c.items-in-Superposed-2.ensures)
            (subst (λ z. IsReadyFor (as_views c.args.before.now) (script_of y.inner.value) z (goal_of y.shown)) (sym begun) parts.block)),
        (
          omega (arith, same, few),
          (
            omega (arith, c.requires.inside),
            omega (arith, same, count, c.requires.within rest),
          ),
        ),
      ),
    )

pub enter_step-returns-in-Ok-clause-reached : goal.enter_step-returns-in-Ok-clause-reached
enter_step-returns-in-Ok-clause-reached t c =
    let x = c.args.state.now in
    let y = c.in-Superposed in
    let begun = c.in-Ok.ensures.after ∙ ap (λ ns. after_superposed y.superposition ns x) c.items-in-Superposed.ensures in
    on_ok_map _ _ c.reach-in-Superposed.result
    (λ k. superposed_entered (as_views c.args.before.now) c.args.step.now y.superposition y.names y.shown y.certs c.in-Ok.certs.items y.inner x c.reach-in-Superposed.new.state c.args.number c.args.target y.is
    (superposed_parts (as_views c.args.before.now) y.superposition y.names y.shown y.certs y.inner x c.args.number (subst (λ s. IsReadyStep (as_views c.args.before.now) s x c.args.number) y.is c.requires.ready))
    (c.in-Ok.ensures.certs, c.in-Ok.ensures.version)
    (subst (λ z. ReachesStep (as_views c.args.before.now) (script_of y.inner.value) z (goal_of y.shown) (c.args.number + 1) c.args.target c.reach-in-Superposed.new.state) begun
    (subst (λ ls. ReachesStep (as_views c.args.before.now) (script_of y.inner.value) c.license_superpose.new.state (goal_of ls) (c.args.number + 1) c.args.target c.reach-in-Superposed.new.state) c.items-in-Superposed-2.ensures
    (subst (λ b. ReachesStep (as_views c.args.before.now) (script_of b) c.license_superpose.new.state (goal_of c.items-in-Superposed-2.result.now) (c.args.number + 1) c.args.target c.reach-in-Superposed.new.state) c.deref-in-Superposed.ensures k))))
    c.reach-in-Superposed.ensures.reached

pub enter_step-returns-in-Ok-clause-kept : goal.enter_step-returns-in-Ok-clause-kept
enter_step-returns-in-Ok-clause-kept t c =
    let begun = c.in-Ok.ensures.after ∙ ap (λ ns. after_superposed c.in-Superposed.superposition ns c.args.state.now) c.items-in-Superposed.ensures in
    on_ok_map _ _ c.reach-in-Superposed.result (λ k. k ∙ ap (λ w. w.context.held) begun) c.reach-in-Superposed.ensures.kept

pub enter_step-returns-in-Ok-clause-err : goal.enter_step-returns-in-Ok-clause-err
enter_step-returns-in-Ok-clause-err t c =
    let x = c.args.state.now in
    let y = c.in-Superposed in
    let begun = c.in-Ok.ensures.after ∙ ap (λ ns. after_superposed y.superposition ns x) c.items-in-Superposed.ensures in
    err_map _ _ c.reach-in-Superposed.result
    (λ stop k. superposed_stopped (as_views c.args.before.now) c.args.step.now y.superposition y.names y.shown y.certs c.in-Ok.certs.items y.inner x c.args.number stop y.is
    (superposed_parts (as_views c.args.before.now) y.superposition y.names y.shown y.certs y.inner x c.args.number (subst (λ s. IsReadyStep (as_views c.args.before.now) s x c.args.number) y.is c.requires.ready))
    (c.in-Ok.ensures.certs, c.in-Ok.ensures.version)
    (subst (λ z. StopsWithin (as_views c.args.before.now) (script_of y.inner.value) z (goal_of y.shown) (c.args.number + 1) stop) begun
    (subst (λ ls. StopsWithin (as_views c.args.before.now) (script_of y.inner.value) c.license_superpose.new.state (goal_of ls) (c.args.number + 1) stop) c.items-in-Superposed-2.ensures
    (subst (λ b. StopsWithin (as_views c.args.before.now) (script_of b) c.license_superpose.new.state (goal_of c.items-in-Superposed-2.result.now) (c.args.number + 1) stop) c.deref-in-Superposed.ensures k))))
    c.reach-in-Superposed.ensures.err

-- ---- the blocks of a split

pub enter_close-unreachable-requires : goal.enter_close-unreachable-requires
enter_close-unreachable-requires t c = omega (arith, close_is_one c.args.close.now c.in-Qed.is, c.requires.inside, c.requires.within)

pub enter_close-size-count-requires : goal.enter_close-size-count-requires
enter_close-size-count-requires t c =
    let count = split_size c.args.close.now c.in-Cases.lit c.in-Cases.first c.in-Cases.second c.in-Cases.is in
    let same = ap (λ b. size (script_of b)) c.deref.ensures in
    omega (arith, count, same, c.requires.few)

pub enter_close-overflow_add-number : goal.enter_close-overflow_add-number
enter_close-overflow_add-number t c = let one = at_least (close_script c.args.close.now) in omega (arith, one, c.requires.few)

pub enter_close-overflow_add-middle : goal.enter_close-overflow_add-middle
enter_close-overflow_add-middle t c =
    let count = split_size c.args.close.now c.in-Cases.lit c.in-Cases.first c.in-Cases.second c.in-Cases.is in
    let same = ap (λ b. size (script_of b)) c.deref.ensures in
    omega (arith, count, same, c.size-count.ensures, c.requires.few)

pub enter_close-overflow_add-middle-in-Cases : goal.enter_close-overflow_add-middle-in-Cases
enter_close-overflow_add-middle-in-Cases t c =
    let count = split_size c.args.close.now c.in-Cases.lit c.in-Cases.first c.in-Cases.second c.in-Cases.is in
    let same = ap (λ b. size (script_of b)) c.deref.ensures in
    omega (arith, count, same, c.size-count.ensures, c.requires.few)

pub enter_close-assume-requires : goal.enter_close-assume-requires
enter_close-assume-requires t c =
    let x = c.args.state.now in
    let goal = goal_view c.args.goal.now in
    let parts = split_parts (as_views c.args.before.now) c.args.close.now c.in-Cases.lit c.in-Cases.first c.in-Cases.second x goal c.in-Cases.is c.requires.ready in
    block_facts (as_views c.args.before.now) (script_of c.in-Cases.first.value) (after_literal c.in-Cases.lit x) goal parts.one

pub enter_close-returns-in_err-assume-in-Cases-clause-err : goal.enter_close-returns-in_err-assume-in-Cases-clause-err
enter_close-returns-in_err-assume-in-Cases-clause-err t c =
    stops_as_memory (as_views c.args.before.now) (close_script c.args.close.now) c.args.state.now (goal_view c.args.goal.now) c.args.number c.from_residual.result (search rules)

pub enter_close-returns-in_err-assume-in-Cases-clause-earlier : goal.enter_close-returns-in_err-assume-in-Cases-clause-earlier
enter_close-returns-in_err-assume-in-Cases-clause-earlier t c = memory_before c.args.target c.from_residual.result (search rules)

pub enter_close-reach-requires : goal.enter_close-reach-requires
enter_close-reach-requires t c =
    let x = c.args.state.now in
    let goal = goal_view c.args.goal.now in
    let parts = split_parts (as_views c.args.before.now) c.args.close.now c.in-Cases.lit c.in-Cases.first c.in-Cases.second x goal c.in-Cases.is c.requires.ready in
    let count = split_size c.args.close.now c.in-Cases.lit c.in-Cases.first c.in-Cases.second c.in-Cases.is in
    let same = ap (λ b. size (script_of b)) c.deref.ensures in
    let again = ap (λ b. size (script_of b)) c.deref-then-target-middle.ensures in (
      search (rules, the_lemmas),
      (
        subst (λ b. IsReadyFor (as_views c.args.before.now) (script_of b) c.assume.new.self goal) (sym c.deref-then-target-middle.ensures)
            (subst (λ y. IsReadyFor (as_views c.args.before.now) (script_of c.in-Cases.first.value) y goal) (sym c.in_ok-assume-in-Cases.ensures) parts.one),
        (
          omega (arith, count, again, c.requires.few),
          (
            omega (arith, c.requires.inside),
            omega (arith, same, again, c.size-count.ensures, c.if-target-middle.true),
          ),
        ),
      ),
    )

pub enter_close-returns-then-target-middle-clause-reached : goal.enter_close-returns-then-target-middle-clause-reached
enter_close-returns-then-target-middle-clause-reached t c =
    let x = c.args.state.now in
    let goal = goal_view c.args.goal.now in
    let parts = split_parts (as_views c.args.before.now) c.args.close.now c.in-Cases.lit c.in-Cases.first c.in-Cases.second x goal c.in-Cases.is c.requires.ready in
    on_ok_map _ _ c.reach.result
    (λ k. split_entered_first (as_views c.args.before.now) c.args.close.now c.in-Cases.lit c.in-Cases.first c.in-Cases.second x c.reach.new.state goal c.args.number c.args.target c.in-Cases.is parts
    (subst (λ y. ReachesStep (as_views c.args.before.now) (script_of c.in-Cases.first.value) y goal (c.args.number + 1) c.args.target c.reach.new.state) c.in_ok-assume-in-Cases.ensures
    (subst (λ b. ReachesStep (as_views c.args.before.now) (script_of b) c.assume.new.self goal (c.args.number + 1) c.args.target c.reach.new.state) c.deref-then-target-middle.ensures k)))
    c.reach.ensures.reached

pub enter_close-returns-then-target-middle-clause-kept : goal.enter_close-returns-then-target-middle-clause-kept
enter_close-returns-then-target-middle-clause-kept t c =
    on_ok_map _ _ c.reach.result (kept_literal c.in-Cases.lit c.args.state.now c.assume.new.self c.reach.new.state c.in_ok-assume-in-Cases.ensures) c.reach.ensures.kept

pub enter_close-returns-then-target-middle-clause-err : goal.enter_close-returns-then-target-middle-clause-err
enter_close-returns-then-target-middle-clause-err t c =
    let x = c.args.state.now in
    let goal = goal_view c.args.goal.now in
    let parts = split_parts (as_views c.args.before.now) c.args.close.now c.in-Cases.lit c.in-Cases.first c.in-Cases.second x goal c.in-Cases.is c.requires.ready in
    err_map _ _ c.reach.result
    (λ stop k. split_stops_first (as_views c.args.before.now) c.args.close.now c.in-Cases.lit c.in-Cases.first c.in-Cases.second x goal c.args.number stop c.in-Cases.is parts
    (subst (λ y. StopsWithin (as_views c.args.before.now) (script_of c.in-Cases.first.value) y goal (c.args.number + 1) stop) c.in_ok-assume-in-Cases.ensures
    (subst (λ b. StopsWithin (as_views c.args.before.now) (script_of b) c.assume.new.self goal (c.args.number + 1) stop) c.deref-then-target-middle.ensures k)))
    c.reach.ensures.err

pub enter_close-pass_first_case-requires-clause-ready : goal.enter_close-pass_first_case-requires-clause-ready
enter_close-pass_first_case-requires-clause-ready t c =
    let x = c.args.state.now in
    let goal = goal_view c.args.goal.now in
    let parts = split_parts (as_views c.args.before.now) c.args.close.now c.in-Cases.lit c.in-Cases.first c.in-Cases.second x goal c.in-Cases.is c.requires.ready in
    subst (λ b. IsReadyFor (as_views c.args.before.now) (script_of b) (after_literal c.in-Cases.lit x) goal) (sym c.deref-in-Cases.ensures) parts.one

pub enter_close-pass_first_case-requires-clause-few : goal.enter_close-pass_first_case-requires-clause-few
enter_close-pass_first_case-requires-clause-few t c =
    let count = split_size c.args.close.now c.in-Cases.lit c.in-Cases.first c.in-Cases.second c.in-Cases.is in
    let same = ap (λ b. size (script_of b)) c.deref-in-Cases.ensures in
    omega (arith, count, same, c.requires.few)

pub enter_close-pass_first_case-requires-clause-second : goal.enter_close-pass_first_case-requires-clause-second
enter_close-pass_first_case-requires-clause-second t c = λ derived d.
    let x = c.args.state.now in
    let goal = goal_view c.args.goal.now in
    let lit = c.in-Cases.lit in
    let other =
    split_second_ready (as_views c.args.before.now) c.args.close.now lit c.in-Cases.first c.in-Cases.second derived x goal c.in-Cases.is
    (subst (λ b. IsDerivedFrom (as_views c.args.before.now) (script_of b) (after_literal lit x) goal derived) c.deref-in-Cases.ensures d) c.requires.ready
    in
    block_facts (as_views c.args.before.now) (script_of c.in-Cases.second.value) (after_literal (negation lit) x) goal other

pub enter_close-reach-requires-in-Ok : goal.enter_close-reach-requires-in-Ok
enter_close-reach-requires-in-Ok t c =
    let x = c.args.state.now in
    let goal = goal_view c.args.goal.now in
    let lit = c.in-Cases.lit in
    let passed = subst (λ b. IsFirstPassed (as_views c.args.before.now) lit (script_of b) x goal c.pass_first_case.new.state) c.deref-in-Cases.ensures c.in-Ok.ensures.passed in
    let other = split_second_ready (as_views c.args.before.now) c.args.close.now lit c.in-Cases.first c.in-Cases.second passed.derived x goal c.in-Cases.is passed.is_derived c.requires.ready in
    let count = split_size c.args.close.now lit c.in-Cases.first c.in-Cases.second c.in-Cases.is in
    let same = ap (λ b. size (script_of b)) c.deref.ensures in
    let again = ap (λ b. size (script_of b)) c.deref-in-Ok.ensures in (
      search (rules, the_lemmas),
      (
        subst (λ b. IsReadyFor (as_views c.args.before.now) (script_of b) c.pass_first_case.new.state goal) (sym c.deref-in-Ok.ensures)
            (subst (λ y. IsReadyFor (as_views c.args.before.now) (script_of c.in-Cases.second.value) y goal) (sym passed.is_after) other),
        (
          omega (arith, count, same, again, c.size-count.ensures, c.requires.few),
          (
            omega (arith, c.if-target-middle.false),
            omega (arith, count, same, again, c.size-count.ensures, c.requires.within),
          ),
        ),
      ),
    )

pub enter_close-returns-in-Ok-clause-reached : goal.enter_close-returns-in-Ok-clause-reached
enter_close-returns-in-Ok-clause-reached t c =
    let x = c.args.state.now in
    let goal = goal_view c.args.goal.now in
    let lit = c.in-Cases.lit in
    let parts = split_parts (as_views c.args.before.now) c.args.close.now lit c.in-Cases.first c.in-Cases.second x goal c.in-Cases.is c.requires.ready in
    let passed = subst (λ b. IsFirstPassed (as_views c.args.before.now) lit (script_of b) x goal c.pass_first_case.new.state) c.deref-in-Cases.ensures c.in-Ok.ensures.passed in
    let same = ap (λ b. size (script_of b)) c.deref.ensures in
    on_ok_map _ _ c.reach-in-Ok.result
    (λ k. split_entered_second (as_views c.args.before.now) c.args.close.now lit c.in-Cases.first c.in-Cases.second x c.pass_first_case.new.state c.reach-in-Ok.new.state goal c.args.number (c.args.number + 1 + c.size-count.result) c.args.target c.in-Cases.is parts passed
    (omega (arith, same, c.size-count.ensures))
    (subst (λ b. ReachesStep (as_views c.args.before.now) (script_of b) c.pass_first_case.new.state goal (c.args.number + 1 + c.size-count.result) c.args.target c.reach-in-Ok.new.state) c.deref-in-Ok.ensures k))
    c.reach-in-Ok.ensures.reached

pub enter_close-returns-in-Ok-clause-kept : goal.enter_close-returns-in-Ok-clause-kept
enter_close-returns-in-Ok-clause-kept t c =
    on_ok_map _ _ c.reach-in-Ok.result
    (kept_literal (negation c.in-Cases.lit) c.args.state.now c.pass_first_case.new.state c.reach-in-Ok.new.state c.in-Ok.ensures.passed.is_after) c.reach-in-Ok.ensures.kept

pub enter_close-returns-in-Ok-clause-err : goal.enter_close-returns-in-Ok-clause-err
enter_close-returns-in-Ok-clause-err t c =
    let x = c.args.state.now in
    let goal = goal_view c.args.goal.now in
    let lit = c.in-Cases.lit in
    let parts = split_parts (as_views c.args.before.now) c.args.close.now lit c.in-Cases.first c.in-Cases.second x goal c.in-Cases.is c.requires.ready in
    let passed = subst (λ b. IsFirstPassed (as_views c.args.before.now) lit (script_of b) x goal c.pass_first_case.new.state) c.deref-in-Cases.ensures c.in-Ok.ensures.passed in
    let same = ap (λ b. size (script_of b)) c.deref.ensures in
    err_map _ _ c.reach-in-Ok.result
    (λ stop k. split_stopped_second (as_views c.args.before.now) c.args.close.now lit c.in-Cases.first c.in-Cases.second x c.pass_first_case.new.state goal c.args.number (c.args.number + 1 + c.size-count.result) stop c.in-Cases.is parts passed
    (omega (arith, same, c.size-count.ensures))
    (subst (λ b. StopsWithin (as_views c.args.before.now) (script_of b) c.pass_first_case.new.state goal (c.args.number + 1 + c.size-count.result) stop) c.deref-in-Ok.ensures k))
    c.reach-in-Ok.ensures.err

pub enter_close-returns-in-Err-clause-err : goal.enter_close-returns-in-Err-clause-err
enter_close-returns-in-Err-clause-err t c =
    let x = c.args.state.now in
    let goal = goal_view c.args.goal.now in
    let parts = split_parts (as_views c.args.before.now) c.args.close.now c.in-Cases.lit c.in-Cases.first c.in-Cases.second x goal c.in-Cases.is c.requires.ready in
    split_stops_first (as_views c.args.before.now) c.args.close.now c.in-Cases.lit c.in-Cases.first c.in-Cases.second x goal c.args.number c.in-Err.stop c.in-Cases.is parts
    (subst (λ b. StopsWithin (as_views c.args.before.now) (script_of b) (after_literal c.in-Cases.lit x) goal (c.args.number + 1) c.in-Err.stop) c.deref-in-Cases.ensures c.in-Err.ensures.err)

pub enter_close-returns-in-Err-clause-earlier : goal.enter_close-returns-in-Err-clause-earlier
enter_close-returns-in-Err-clause-earlier t c =
    let same = ap (λ b. size (script_of b)) c.deref.ensures in
    let again = ap (λ b. size (script_of b)) c.deref-in-Cases.ensures in
    before_more (c.args.number + 1 + size (script_of c.deref-in-Cases.result.now)) c.args.target c.in-Err.stop (omega (arith, same, again, c.size-count.ensures, c.if-target-middle.false))
    (stop_within (as_views c.args.before.now) (script_of c.deref-in-Cases.result.now) (after_literal c.in-Cases.lit c.args.state.now) (goal_view c.args.goal.now) (c.args.number + 1) c.in-Err.stop c.in-Err.ensures.err)
