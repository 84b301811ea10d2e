use Rattle.std.proofs.Common.{◌≡◌, ◌+◌, ◌<◌, ◌++◌, ◌∷◌, [], length, rules, arith, refl, sym, ap, List, ◌∙◌, subst, true, IfOk}
use Rattle.e_literal.specs.Literal.{negation}
use Rattle.e_literal.specs.Facts.{with_fact}
use Rattle.e_clause.specs.declared.cert.Cert.{Cert}
use Rattle.e_clause.specs.Certify.{certify_all}
use Rattle.e_clause.specs.LimitedFacts.{are_well_formed_in, are_limited_facts}
use Rattle.e_theorem.specs.Statements.{as_view, as_views}
use Rattle.e_deriv.specs.declared.block.Close.TheViews.{the_lemmas}
use Rattle.e_deriv.specs.declared.block.Step.TheVariants.{Cite, Hence, Make, Apply}
use Rattle.e_deriv.specs.declared.block.Close.TheVariants.{Qed}
use Rattle.e_deriv.specs.Script.{Claim as ClaimScript, Superposed as SuperposedScript, script_of, step_script, close_script, size}
use Rattle.e_deriv.specs.Goal.{goal_of, are_for, goal_with, goal_view}
use Rattle.e_construct.specs.Superposing as superposing
use Rattle.e_prove.specs.inner.NextStates.{HasRoomForMore, after_literal, after_superposed}
use Rattle.e_prove.specs.inner.Applications.{CanApply}
use Rattle.e_prove.specs.inner.LicensedSteps.{IsLicensedStep, IsStopOfClose, IsStopOfStep}
use Rattle.e_prove.specs.inner.PassedSteps.{IsReadyFor, IsReadyStep, IsDerivedFrom, IsPassed, StopsInSteps, StopsWithin}
use Rattle.e_prove.proofs.LicensedLiterals.{ok_map, err_map}
use Rattle.e_prove.proofs.Closes.{qed_fits}
use Rattle.e_prove.proofs.PassedSteps.{numbered_passed, numbered_stops, numbered_close_stops, stops_for_memory, stops_as_memory}
use Rattle.e_prove.proofs.ReadySteps.{cite_good, hence_good, one_good, make_good, make_room, block_facts, room_of_small, apply_good, as_many, theorem_is}
use Rattle.e_prove.proofs.Blocks.{on_ok, passed_start, step_ready, step_stops, step_passed, close_ready, close_few, close_derived, close_stops, kept_on, kept_literal, split_parts, split_second_ready, split_size, split_derived, split_stops_first, split_stops_second, cite_one, hence_one, make_one, apply_one, qed_one, contradiction_one}
use Rattle.e_prove.proofs.ReachedSteps.{on_ok_map}
use Rattle.e_prove.proofs.StepsWithBlocks.{ready_as, all_passed_as, all_stopped_as, ok_with, err_with, claim_is, claim_begins, claim_numbers, claim_ends, claim_is_passed, claim_is_stopped, superposed_is, superposed_begins, superposed_numbers, superposed_ends, superposed_is_passed, superposed_is_stopped, superposed_is_refused}
use Rattle.e_licence.specs.Contexts.{state_of}
use Rattle.e_prove.proofs.HeldStates.{ready_inside, derived_outside, stops_outside, step_stops_outside, names_outside, kept_inside, some_held, left_is, good_after}
use Rattle.e_prove.proofs.block.+block.Goals as goal
use Rattle.e_book.proofs.canonical.ScriptParts.{at_least}

-- ---- a block

pub prove_block-loop-step-init : goal.prove_block-loop-step-init
prove_block-loop-step-init t c = record { passed = passed_start (as_views c.args.before.now) c.args.block.now.steps.items c.new-steps.result.items c.args.state.now c.args.number.now c.new-steps.ensures.items }

pub prove_block-prove_step-requires : goal.prove_block-prove_step-requires
prove_block-prove_step-requires t c = (
  search (rules, the_lemmas),
  step_ready (as_views c.args.before.now) c.args.block.now.steps.items c.deref-step-items.result.now c.loop-step.steps.items (close_script c.args.block.now.close) c.loop-step.step-index c.step-item.result c.args.state.now c.loop-step.state
      (goal_view c.args.goal.now) c.args.number.now c.loop-step.number c.deref-step-items.ensures.value c.loop-step-test.true c.step-item.is c.loop-step.invariant.passed c.requires.ready c.requires.few,
)

pub prove_block-returns-in-Err-clause-err : goal.prove_block-returns-in-Err-clause-err
prove_block-returns-in-Err-clause-err t c =
    step_stops (as_views c.args.before.now) c.args.block.now.steps.items c.deref-step-items.result.now c.loop-step.steps.items (close_script c.args.block.now.close) c.loop-step.step-index c.step-item.result c.args.state.now c.loop-step.state
    (goal_view c.args.goal.now) c.args.number.now c.loop-step.number c.in-Err.stop c.deref-step-items.ensures.value c.loop-step-test.true c.step-item.is c.loop-step.invariant.passed c.requires.ready c.in-Err.ensures.err

pub prove_block-loop-step-preserved : goal.prove_block-loop-step-preserved
prove_block-loop-step-preserved t c =
    record {
      passed =
          step_passed (as_views c.args.before.now) c.args.block.now.steps.items c.deref-step-items.result.now c.loop-step.steps.items c.push.new.self.items c.loop-step.step-index c.step-item.result c.in-Ok.proved c.args.state.now c.loop-step.state
          c.prove_step.new.state c.args.number.now c.loop-step.number c.prove_step.new.number c.deref-step-items.ensures.value c.loop-step-test.true c.step-item.is c.in_ok-push-in-Ok.ensures.items c.loop-step.invariant.passed c.in-Ok.ensures.ok;
    }

pub prove_block-prove_close-requires : goal.prove_block-prove_close-requires
prove_block-prove_close-requires t c =
    let items = c.args.block.now.steps.items in
    let close = close_script c.args.block.now.close in
    let i = c.loop-step.step-index in
    let p = c.loop-step.invariant.passed in
    let few = close_few (as_views c.args.before.now) items c.deref-step-items.result.now c.loop-step.steps.items close i c.args.state.now c.loop-step.state c.args.number.now c.loop-step.number c.deref-step-items.ensures.value c.loop-step-test.false p in (
      search (rules, the_lemmas),
      (
        close_ready (as_views c.args.before.now) items c.deref-step-items.result.now c.loop-step.steps.items close i c.args.state.now c.loop-step.state (goal_view c.args.goal.now) c.args.number.now c.loop-step.number c.deref-step-items.ensures.value c.loop-step-test.false p
            c.requires.ready,
        omega (arith, few, c.requires.few),
      ),
    )

pub prove_block-returns-in-Ok-prove_close-clause-derived : goal.prove_block-returns-in-Ok-prove_close-clause-derived
prove_block-returns-in-Ok-prove_close-clause-derived t c =
    close_derived (as_views c.args.before.now) c.args.block.now.steps.items c.deref-step-items.result.now c.loop-step.steps.items (close_script c.args.block.now.close) (close_script c.in-Ok-prove_close.close) c.loop-step.step-index c.args.state.now c.loop-step.state
    (goal_view c.args.goal.now) c.args.number.now c.loop-step.number c.deref-step-items.ensures.value c.loop-step-test.false c.loop-step.invariant.passed c.requires.ready c.in-Ok-prove_close.ensures.derived

pub prove_block-returns-in-Ok-prove_close-clause-next : goal.prove_block-returns-in-Ok-prove_close-clause-next
prove_block-returns-in-Ok-prove_close-clause-next t c =
    c.in-Ok-prove_close.ensures.next
    ∙ sym (close_few (as_views c.args.before.now) c.args.block.now.steps.items c.deref-step-items.result.now c.loop-step.steps.items (close_script c.args.block.now.close) c.loop-step.step-index c.args.state.now c.loop-step.state c.args.number.now c.loop-step.number
    c.deref-step-items.ensures.value c.loop-step-test.false c.loop-step.invariant.passed)

pub prove_block-returns-in-Ok-prove_close-clause-kept : goal.prove_block-returns-in-Ok-prove_close-clause-kept
prove_block-returns-in-Ok-prove_close-clause-kept t c =
    kept_on c.args.state.now c.loop-step.state c.prove_close.new.state c.loop-step.invariant.passed.kept c.in-Ok-prove_close.ensures.kept

pub prove_block-returns-in-Err-prove_close-clause-err : goal.prove_block-returns-in-Err-prove_close-clause-err
prove_block-returns-in-Err-prove_close-clause-err t c =
    close_stops (as_views c.args.before.now) c.args.block.now.steps.items c.deref-step-items.result.now c.loop-step.steps.items (close_script c.args.block.now.close) c.loop-step.step-index c.args.state.now c.loop-step.state (goal_view c.args.goal.now) c.args.number.now
    c.loop-step.number c.in-Err-prove_close.stop c.deref-step-items.ensures.value c.loop-step-test.false c.loop-step.invariant.passed c.requires.ready c.in-Err-prove_close.ensures.err

pub prove_block-returns-in_err-push-in-Ok-clause-err : goal.prove_block-returns-in_err-push-in-Ok-clause-err
prove_block-returns-in_err-push-in-Ok-clause-err t c = stops_as_memory (as_views c.args.before.now) (script_of c.args.block.now) c.args.state.now (goal_view c.args.goal.now) c.args.number.now c.from_residual.result (search rules)

-- ---- a close

pub prove_close-returns-in_err-outer-in-Cases-clause-err : goal.prove_close-returns-in_err-outer-in-Cases-clause-err
prove_close-returns-in_err-outer-in-Cases-clause-err t c = stops_as_memory (as_views c.args.before.now) (close_script c.args.close.now) c.args.state.now (goal_view c.args.goal.now) c.args.number.now c.from_residual.result (search rules)

pub prove_close-returns-in_err-assume-in-Cases-clause-err : goal.prove_close-returns-in_err-assume-in-Cases-clause-err
prove_close-returns-in_err-assume-in-Cases-clause-err t c = stops_as_memory (as_views c.args.before.now) (close_script c.args.close.now) c.args.state.now (goal_view c.args.goal.now) c.args.number.now c.from_residual-in_err-assume-in-Cases.result (search rules)

pub prove_close-returns-in-Err-assume_not-clause-err : goal.prove_close-returns-in-Err-assume_not-clause-err
prove_close-returns-in-Err-assume_not-clause-err t c = stops_for_memory (as_views c.args.before.now) (close_script c.args.close.now) c.args.state.now (goal_view c.args.goal.now) c.args.number.now

pub prove_close-returns-in_err-derived-in-Ok-prove_block-clause-err : goal.prove_close-returns-in_err-derived-in-Ok-prove_block-clause-err
prove_close-returns-in_err-derived-in-Ok-prove_block-clause-err t c = stops_as_memory (as_views c.args.before.now) (close_script c.args.close.now) c.args.state.now (goal_view c.args.goal.now) c.args.number.now c.from_residual-in_err-derived-in-Ok-prove_block.result (search rules)

pub prove_close-qed-answered-requires-clause-form : goal.prove_close-qed-answered-requires-clause-form
prove_close-qed-answered-requires-clause-form t c =
    let x = c.args.state.now in
    let goal = goal_view c.args.goal.now in
    let fit = qed_fits (as_views c.args.before.now) c.in-Qed.objects c.in-Qed.certs x goal (subst (λ close. IsReadyFor (as_views c.args.before.now) (close_script close) x goal) c.in-Qed.is c.requires.ready) in
    subst (λ os. are_for goal x.context.scope os ≡ true) (sym c.items.ensures) fit.form

pub prove_close-qed-answered-requires-clause-lits : goal.prove_close-qed-answered-requires-clause-lits
prove_close-qed-answered-requires-clause-lits t c =
    let x = c.args.state.now in
    let goal = goal_view c.args.goal.now in
    let fit = qed_fits (as_views c.args.before.now) c.in-Qed.objects c.in-Qed.certs x goal (subst (λ close. IsReadyFor (as_views c.args.before.now) (close_script close) x goal) c.in-Qed.is c.requires.ready) in
    subst (λ os. are_well_formed_in x.context.scope (goal_with goal os) ≡ true) (sym c.items.ensures) fit.lits

pub prove_close-count_or_stop-requires : goal.prove_close-count_or_stop-requires
prove_close-count_or_stop-requires t c = let one = at_least (close_script c.args.close.now) in omega (arith, one, c.requires.few)

pub prove_close-count_or_stop-requires-in-Contradiction : goal.prove_close-count_or_stop-requires-in-Contradiction
prove_close-count_or_stop-requires-in-Contradiction t c = let one = at_least (close_script c.args.close.now) in omega (arith, one, c.requires.few)

pub prove_close-assume-requires : goal.prove_close-assume-requires
prove_close-assume-requires t c =
    let x = c.args.state.now in
    let goal = goal_view c.args.goal.now in
    let parts = split_parts (as_views c.args.before.now) c.args.close.now c.in-Cases.lit c.in-Cases.first c.in-Cases.second x goal c.in-Cases.is c.requires.ready in
    let good = block_facts (as_views c.args.before.now) (script_of c.in-Cases.first.value) (after_literal c.in-Cases.lit x) goal parts.one in
    subst (λ y. are_limited_facts y.context.scope (with_fact y.context.facts c.in-Cases.lit) ≡ true) (sym c.in_ok-outer-in-Cases.ensures.held) good

pub prove_close-overflow_add-number : goal.prove_close-overflow_add-number
prove_close-overflow_add-number t c = let one = at_least (close_script c.args.close.now) in omega (arith, one, c.requires.few)

pub prove_close-prove_block-requires : goal.prove_close-prove_block-requires
prove_close-prove_block-requires t c =
    let x = c.args.state.now in
    let goal = goal_view c.args.goal.now in
    let hs = x.context.held ++ state_of x.context ∷ [] in
    let first = after_literal c.in-Cases.lit x in
    let entered = c.in_ok-assume-in-Cases.ensures ∙ ap (after_literal c.in-Cases.lit) c.in_ok-outer-in-Cases.ensures.held in
    let parts = split_parts (as_views c.args.before.now) c.args.close.now c.in-Cases.lit c.in-Cases.first c.in-Cases.second x goal c.in-Cases.is c.requires.ready in
    let count = split_size c.args.close.now c.in-Cases.lit c.in-Cases.first c.in-Cases.second c.in-Cases.is in
    let same = ap (λ b. size (script_of b)) c.deref.ensures in (
      search (rules, the_lemmas),
      (
        subst (λ b. IsReadyFor (as_views c.args.before.now) (script_of b) c.assume.new.self goal) (sym c.deref.ensures)
            (ready_inside (as_views c.args.before.now) (script_of c.in-Cases.first.value) first c.assume.new.self goal hs entered parts.one),
        omega (arith, count, same, c.requires.few),
      ),
    )

pub prove_close-returns-in-Err-clause-err : goal.prove_close-returns-in-Err-clause-err
prove_close-returns-in-Err-clause-err t c =
    let x = c.args.state.now in
    let goal = goal_view c.args.goal.now in
    let hs = x.context.held ++ state_of x.context ∷ [] in
    let first = after_literal c.in-Cases.lit x in
    let entered = c.in_ok-assume-in-Cases.ensures ∙ ap (after_literal c.in-Cases.lit) c.in_ok-outer-in-Cases.ensures.held in
    let parts = split_parts (as_views c.args.before.now) c.args.close.now c.in-Cases.lit c.in-Cases.first c.in-Cases.second x goal c.in-Cases.is c.requires.ready in
    split_stops_first (as_views c.args.before.now) c.args.close.now c.in-Cases.lit c.in-Cases.first c.in-Cases.second x goal c.args.number.now c.in-Err.stop c.in-Cases.is parts
    (stops_outside (as_views c.args.before.now) (script_of c.in-Cases.first.value) first c.assume.new.self goal (c.args.number.now + 1) c.in-Err.stop hs entered
    (subst (λ b. StopsWithin (as_views c.args.before.now) (script_of b) c.assume.new.self goal (c.args.number.now + 1) c.in-Err.stop) c.deref.ensures c.in-Err.ensures.err))

pub prove_close-leave_block-requires : goal.prove_close-leave_block-requires
prove_close-leave_block-requires t c =
    let x = c.args.state.now in
    let entered = c.in_ok-assume-in-Cases.ensures ∙ ap (after_literal c.in-Cases.lit) c.in_ok-outer-in-Cases.ensures.held in
    some_held x c.prove_block.new.state (c.in-Ok.ensures.kept ∙ ap (λ w. w.context.held) entered)

pub prove_close-assume_not-requires : goal.prove_close-assume_not-requires
prove_close-assume_not-requires t c =
    let x = c.args.state.now in
    let goal = goal_view c.args.goal.now in
    let hs = x.context.held ++ state_of x.context ∷ [] in
    let first = after_literal c.in-Cases.lit x in
    let entered = c.in_ok-assume-in-Cases.ensures ∙ ap (after_literal c.in-Cases.lit) c.in_ok-outer-in-Cases.ensures.held in
    let lit = c.in-Cases.lit in
    let other =
    split_second_ready (as_views c.args.before.now) c.args.close.now lit c.in-Cases.first c.in-Cases.second (script_of c.in-Ok.one) x goal c.in-Cases.is
    (derived_outside (as_views c.args.before.now) (script_of c.in-Cases.first.value) first c.assume.new.self goal (script_of c.in-Ok.one) hs entered
    (subst (λ b. IsDerivedFrom (as_views c.args.before.now) (script_of b) c.assume.new.self goal (script_of c.in-Ok.one)) c.deref.ensures c.in-Ok.ensures.derived))
    c.requires.ready
    in
    let back =
    left_is c.in_ok-outer-in-Cases.outer x c.prove_block.new.state c.leave_block.new.self c.in_ok-outer-in-Cases.ensures.names
    (c.in-Ok.ensures.kept ∙ ap (λ w. w.context.held) entered) c.leave_block.ensures
    in
    subst (λ y. are_limited_facts y.context.scope (with_fact y.context.facts (negation lit)) ≡ true) (sym back) (block_facts (as_views c.args.before.now) (script_of c.in-Cases.second.value) (after_literal (negation lit) x) goal other)

pub prove_close-prove_block-requires-in-Cases : goal.prove_close-prove_block-requires-in-Cases
prove_close-prove_block-requires-in-Cases t c =
    let x = c.args.state.now in
    let goal = goal_view c.args.goal.now in
    let hs = x.context.held ++ state_of x.context ∷ [] in
    let first = after_literal c.in-Cases.lit x in
    let entered = c.in_ok-assume-in-Cases.ensures ∙ ap (after_literal c.in-Cases.lit) c.in_ok-outer-in-Cases.ensures.held in
    let lit = c.in-Cases.lit in
    let other =
    split_second_ready (as_views c.args.before.now) c.args.close.now lit c.in-Cases.first c.in-Cases.second (script_of c.in-Ok.one) x goal c.in-Cases.is
    (derived_outside (as_views c.args.before.now) (script_of c.in-Cases.first.value) first c.assume.new.self goal (script_of c.in-Ok.one) hs entered
    (subst (λ b. IsDerivedFrom (as_views c.args.before.now) (script_of b) c.assume.new.self goal (script_of c.in-Ok.one)) c.deref.ensures c.in-Ok.ensures.derived))
    c.requires.ready
    in
    let count = split_size c.args.close.now lit c.in-Cases.first c.in-Cases.second c.in-Cases.is in
    let back =
    left_is c.in_ok-outer-in-Cases.outer x c.prove_block.new.state c.leave_block.new.self c.in_ok-outer-in-Cases.ensures.names
    (c.in-Ok.ensures.kept ∙ ap (λ w. w.context.held) entered) c.leave_block.ensures
    in
    let begun = c.in-Ok-assume_not.ensures ∙ ap (after_literal (negation lit)) back in
    let same = ap (λ b. size (script_of b)) c.deref.ensures in
    let count_other = ap (λ b. size (script_of b)) c.deref-in-Cases.ensures in (
      search (rules, the_lemmas),
      (
        subst (λ b. IsReadyFor (as_views c.args.before.now) (script_of b) c.assume_not.new.self goal) (sym c.deref-in-Cases.ensures)
            (subst (λ y. IsReadyFor (as_views c.args.before.now) (script_of c.in-Cases.second.value) y goal) (sym begun) other),
        omega (arith, count, same, count_other, c.in-Ok.ensures.next, c.requires.few),
      ),
    )

pub prove_close-returns-in-Qed-clause-next : goal.prove_close-returns-in-Qed-clause-next
prove_close-returns-in-Qed-clause-next t c =
    let one = ap (λ k. size (close_script k)) c.in-Qed.is ∙ qed_one c.in-Qed.objects c.in-Qed.certs in
    on_ok_map _ _ c.count_or_stop.result (λ e. omega (arith, e, one)) c.count_or_stop.ensures.next

pub prove_close-returns-in-Qed-clause-err : goal.prove_close-returns-in-Qed-clause-err
prove_close-returns-in-Qed-clause-err t c =
    let x = c.args.state.now in
    let goal = goal_view c.args.goal.now in
    numbered_close_stops (as_views c.args.before.now) c.args.close.now x goal c.args.number.now c.qed-answered.result c.count_or_stop.result
    (err_map _ _ c.qed-answered.result
    (λ h k. subst (λ close. IsStopOfClose (as_views c.args.before.now) close x.context goal h) (sym c.in-Qed.is) (subst (λ os. IsStopOfClose (as_views c.args.before.now) (Qed os c.in-Qed.certs) x.context goal h) c.items.ensures (k (as_views c.args.before.now) c.in-Qed.certs)))
    c.qed-answered.ensures.err)
    c.count_or_stop.ensures.err

pub prove_close-returns-in-Qed-clause-kept : goal.prove_close-returns-in-Qed-clause-kept
prove_close-returns-in-Qed-clause-kept t c = on_ok _ c.count_or_stop.result (ap (λ b. b.held) c.qed-answered.ensures.kept)

pub prove_close-returns-in-Contradiction-clause-kept : goal.prove_close-returns-in-Contradiction-clause-kept
prove_close-returns-in-Contradiction-clause-kept t c = on_ok _ c.count_or_stop-in-Contradiction.result (ap (λ b. b.held) c.contradiction-answered.ensures.kept)

pub prove_close-returns-in-Contradiction-clause-next : goal.prove_close-returns-in-Contradiction-clause-next
prove_close-returns-in-Contradiction-clause-next t c =
    let one = ap (λ k. size (close_script k)) c.in-Contradiction.is ∙ contradiction_one c.in-Contradiction.against in
    on_ok_map _ _ c.count_or_stop-in-Contradiction.result (λ e. omega (arith, e, one)) c.count_or_stop-in-Contradiction.ensures.next

pub prove_close-returns-in-Contradiction-clause-err : goal.prove_close-returns-in-Contradiction-clause-err
prove_close-returns-in-Contradiction-clause-err t c =
    let x = c.args.state.now in
    let goal = goal_view c.args.goal.now in
    numbered_close_stops (as_views c.args.before.now) c.args.close.now x goal c.args.number.now c.contradiction-answered.result c.count_or_stop-in-Contradiction.result
    (err_map _ _ c.contradiction-answered.result (λ h k. subst (λ close. IsStopOfClose (as_views c.args.before.now) close x.context goal h) (sym c.in-Contradiction.is) (k (as_views c.args.before.now) goal c.in-Contradiction.against)) c.contradiction-answered.ensures.err)
    c.count_or_stop-in-Contradiction.ensures.err

pub prove_close-returns-in_ok-derived-in-Ok-prove_block-clause-derived : goal.prove_close-returns-in_ok-derived-in-Ok-prove_block-clause-derived
prove_close-returns-in_ok-derived-in-Ok-prove_block-clause-derived t c =
    let x = c.args.state.now in
    let goal = goal_view c.args.goal.now in
    let hs = x.context.held ++ state_of x.context ∷ [] in
    let first = after_literal c.in-Cases.lit x in
    let entered = c.in_ok-assume-in-Cases.ensures ∙ ap (after_literal c.in-Cases.lit) c.in_ok-outer-in-Cases.ensures.held in
    let lit = c.in-Cases.lit in
    let parts = split_parts (as_views c.args.before.now) c.args.close.now lit c.in-Cases.first c.in-Cases.second x goal c.in-Cases.is c.requires.ready in
    let back =
    left_is c.in_ok-outer-in-Cases.outer x c.prove_block.new.state c.leave_block.new.self c.in_ok-outer-in-Cases.ensures.names
    (c.in-Ok.ensures.kept ∙ ap (λ w. w.context.held) entered) c.leave_block.ensures
    in
    let begun = c.in-Ok-assume_not.ensures ∙ ap (after_literal (negation lit)) back in
    split_derived (as_views c.args.before.now) c.args.close.now lit c.in-Cases.first c.in-Cases.second c.in-Ok.one c.in-Ok-prove_block.other c.in_ok-derived-in-Ok-prove_block.derived x goal c.in-Cases.is parts
    (derived_outside (as_views c.args.before.now) (script_of c.in-Cases.first.value) first c.assume.new.self goal (script_of c.in-Ok.one) hs entered
    (subst (λ b. IsDerivedFrom (as_views c.args.before.now) (script_of b) c.assume.new.self goal (script_of c.in-Ok.one)) c.deref.ensures c.in-Ok.ensures.derived))
    (subst (λ y. IsDerivedFrom (as_views c.args.before.now) (script_of c.in-Cases.second.value) y goal (script_of c.in-Ok-prove_block.other)) begun
    (subst (λ b. IsDerivedFrom (as_views c.args.before.now) (script_of b) c.assume_not.new.self goal (script_of c.in-Ok-prove_block.other)) c.deref-in-Cases.ensures c.in-Ok-prove_block.ensures.derived))
    c.in_ok-derived-in-Ok-prove_block.ensures

pub prove_close-returns-in_ok-derived-in-Ok-prove_block-clause-next : goal.prove_close-returns-in_ok-derived-in-Ok-prove_block-clause-next
prove_close-returns-in_ok-derived-in-Ok-prove_block-clause-next t c =
    let count = split_size c.args.close.now c.in-Cases.lit c.in-Cases.first c.in-Cases.second c.in-Cases.is in
    let same = ap (λ b. size (script_of b)) c.deref.ensures in
    let other = ap (λ b. size (script_of b)) c.deref-in-Cases.ensures in
    omega (arith, count, same, other, c.in-Ok.ensures.next, c.in-Ok-prove_block.ensures.next)

pub prove_close-returns-in_ok-derived-in-Ok-prove_block-clause-kept : goal.prove_close-returns-in_ok-derived-in-Ok-prove_block-clause-kept
prove_close-returns-in_ok-derived-in-Ok-prove_block-clause-kept t c =
    let x = c.args.state.now in
    let hs = x.context.held ++ state_of x.context ∷ [] in
    let first = after_literal c.in-Cases.lit x in
    let entered = c.in_ok-assume-in-Cases.ensures ∙ ap (after_literal c.in-Cases.lit) c.in_ok-outer-in-Cases.ensures.held in
    let lit = c.in-Cases.lit in
    let back =
    left_is c.in_ok-outer-in-Cases.outer x c.prove_block.new.state c.leave_block.new.self c.in_ok-outer-in-Cases.ensures.names
    (c.in-Ok.ensures.kept ∙ ap (λ w. w.context.held) entered) c.leave_block.ensures
    in
    kept_literal (negation lit) x c.assume_not.new.self c.prove_block-in-Cases.new.state (c.in-Ok-assume_not.ensures ∙ ap (after_literal (negation lit)) back) c.in-Ok-prove_block.ensures.kept

pub prove_close-returns-in-Err-prove_block-clause-err : goal.prove_close-returns-in-Err-prove_block-clause-err
prove_close-returns-in-Err-prove_block-clause-err t c =
    let x = c.args.state.now in
    let goal = goal_view c.args.goal.now in
    let hs = x.context.held ++ state_of x.context ∷ [] in
    let first = after_literal c.in-Cases.lit x in
    let entered = c.in_ok-assume-in-Cases.ensures ∙ ap (after_literal c.in-Cases.lit) c.in_ok-outer-in-Cases.ensures.held in
    let lit = c.in-Cases.lit in
    let parts = split_parts (as_views c.args.before.now) c.args.close.now lit c.in-Cases.first c.in-Cases.second x goal c.in-Cases.is c.requires.ready in
    let back =
    left_is c.in_ok-outer-in-Cases.outer x c.prove_block.new.state c.leave_block.new.self c.in_ok-outer-in-Cases.ensures.names
    (c.in-Ok.ensures.kept ∙ ap (λ w. w.context.held) entered) c.leave_block.ensures
    in
    let begun = c.in-Ok-assume_not.ensures ∙ ap (after_literal (negation lit)) back in
    let same = ap (λ b. size (script_of b)) c.deref.ensures in
    split_stops_second (as_views c.args.before.now) c.args.close.now lit c.in-Cases.first c.in-Cases.second c.in-Ok.one x goal c.args.number.now c.prove_block.new.number c.in-Err-prove_block.stop c.in-Cases.is parts
    (derived_outside (as_views c.args.before.now) (script_of c.in-Cases.first.value) first c.assume.new.self goal (script_of c.in-Ok.one) hs entered
    (subst (λ b. IsDerivedFrom (as_views c.args.before.now) (script_of b) c.assume.new.self goal (script_of c.in-Ok.one)) c.deref.ensures c.in-Ok.ensures.derived))
    (omega (arith, same, c.in-Ok.ensures.next))
    (subst (λ y. StopsWithin (as_views c.args.before.now) (script_of c.in-Cases.second.value) y goal c.prove_block.new.number c.in-Err-prove_block.stop) begun
    (subst (λ b. StopsWithin (as_views c.args.before.now) (script_of b) c.assume_not.new.self goal c.prove_block.new.number c.in-Err-prove_block.stop) c.deref-in-Cases.ensures c.in-Err-prove_block.ensures.err))

-- ---- steps that have no block inside

pub prove_step-license_cite-answered-requires : goal.prove_step-license_cite-answered-requires
prove_step-license_cite-answered-requires t c = cite_good (as_views c.args.before.now) c.in-Cite.by c.args.state.now c.args.number.now (subst (λ s. IsReadyStep (as_views c.args.before.now) s c.args.state.now c.args.number.now) c.in-Cite.is c.requires)

pub prove_step-count_or_stop-requires : goal.prove_step-count_or_stop-requires
prove_step-count_or_stop-requires t c = let one = at_least (step_script c.args.step.now c.requires.rest) in omega (arith, one, c.requires.few)

pub prove_step-license_hence-answered-requires-clause-lit : goal.prove_step-license_hence-answered-requires-clause-lit
prove_step-license_hence-answered-requires-clause-lit t c =
    one_good c.args.state.now.context.scope c.in-Hence.lit
    (hence_good (as_views c.args.before.now) c.in-Hence.lit c.in-Hence.cert c.args.state.now c.args.number.now (subst (λ s. IsReadyStep (as_views c.args.before.now) s c.args.state.now c.args.number.now) c.in-Hence.is c.requires)).needs

pub prove_step-license_hence-answered-requires-clause-after : goal.prove_step-license_hence-answered-requires-clause-after
prove_step-license_hence-answered-requires-clause-after t c =
    (hence_good (as_views c.args.before.now) c.in-Hence.lit c.in-Hence.cert c.args.state.now c.args.number.now (subst (λ s. IsReadyStep (as_views c.args.before.now) s c.args.state.now c.args.number.now) c.in-Hence.is c.requires)).after

pub prove_step-count_or_stop-requires-in-Hence : goal.prove_step-count_or_stop-requires-in-Hence
prove_step-count_or_stop-requires-in-Hence t c = let one = at_least (step_script c.args.step.now c.requires.rest) in omega (arith, one, c.requires.few)

pub prove_step-license_make-answered-requires-clause-room : goal.prove_step-license_make-answered-requires-clause-room
prove_step-license_make-answered-requires-clause-room t c =
    make_room (as_views c.args.before.now) c.in-Make.construction c.in-Make.names c.in-Make.certs c.args.state.now c.args.number.now (subst (λ s. IsReadyStep (as_views c.args.before.now) s c.args.state.now c.args.number.now) c.in-Make.is c.requires)

pub prove_step-license_make-answered-requires-clause-needs : goal.prove_step-license_make-answered-requires-clause-needs
prove_step-license_make-answered-requires-clause-needs t c =
    (make_good (as_views c.args.before.now) c.in-Make.construction c.in-Make.names c.in-Make.certs c.args.state.now c.args.number.now (subst (λ s. IsReadyStep (as_views c.args.before.now) s c.args.state.now c.args.number.now) c.in-Make.is c.requires)).needs

pub prove_step-license_make-answered-requires-clause-after : goal.prove_step-license_make-answered-requires-clause-after
prove_step-license_make-answered-requires-clause-after t c =
    (make_good (as_views c.args.before.now) c.in-Make.construction c.in-Make.names c.in-Make.certs c.args.state.now c.args.number.now (subst (λ s. IsReadyStep (as_views c.args.before.now) s c.args.state.now c.args.number.now) c.in-Make.is c.requires)).after

pub prove_step-count_or_stop-requires-in-Make : goal.prove_step-count_or_stop-requires-in-Make
prove_step-count_or_stop-requires-in-Make t c = let one = at_least (step_script c.args.step.now c.requires.rest) in omega (arith, one, c.requires.few)

pub prove_step-returns-in-Cite-clause-ok : goal.prove_step-returns-in-Cite-clause-ok
prove_step-returns-in-Cite-clause-ok t c =
    let x = c.args.state.now in
    let after = c.license_cite-answered.new.state in
    subst (λ s. IfOk c.count_or_stop.result (λ d. IsPassed (as_views c.args.before.now) (step_script s) x c.args.number.now (step_script d) after c.count_or_stop.new.number)) (sym c.in-Cite.is)
    (numbered_passed (as_views c.args.before.now) (Cite c.in-Cite.by) x after c.args.number.now c.count_or_stop.new.number c.license_cite-answered.result c.count_or_stop.result (cite_one c.in-Cite.by) (ok_map _ _ c.license_cite-answered.result (λ d h. h (as_views c.args.before.now)) c.license_cite-answered.ensures.ok) c.count_or_stop.ensures.ok c.count_or_stop.ensures.next)

pub prove_step-returns-in-Cite-clause-err : goal.prove_step-returns-in-Cite-clause-err
prove_step-returns-in-Cite-clause-err t c =
    let x = c.args.state.now in
    numbered_stops (as_views c.args.before.now) c.args.step.now x c.license_cite-answered.new.state c.args.number.now c.license_cite-answered.result c.count_or_stop.result
    (err_map _ _ c.license_cite-answered.result (λ h k. subst (λ s. IsStopOfStep (as_views c.args.before.now) s x h) (sym c.in-Cite.is) (k (as_views c.args.before.now))) c.license_cite-answered.ensures.err) c.license_cite-answered.ensures.kept c.count_or_stop.ensures.err

pub prove_step-returns-in-Hence-clause-ok : goal.prove_step-returns-in-Hence-clause-ok
prove_step-returns-in-Hence-clause-ok t c =
    let x = c.args.state.now in
    let after = c.license_hence-answered.new.state in
    subst (λ s. IfOk c.count_or_stop-in-Hence.result (λ d. IsPassed (as_views c.args.before.now) (step_script s) x c.args.number.now (step_script d) after c.count_or_stop-in-Hence.new.number)) (sym c.in-Hence.is)
    (numbered_passed (as_views c.args.before.now) (Hence c.in-Hence.lit c.in-Hence.cert) x after c.args.number.now c.count_or_stop-in-Hence.new.number c.license_hence-answered.result c.count_or_stop-in-Hence.result (hence_one c.in-Hence.lit c.in-Hence.cert)
    (ok_map _ _ c.license_hence-answered.result (λ d h. h (as_views c.args.before.now) c.in-Hence.cert) c.license_hence-answered.ensures.ok) c.count_or_stop-in-Hence.ensures.ok c.count_or_stop-in-Hence.ensures.next)

pub prove_step-returns-in-Hence-clause-err : goal.prove_step-returns-in-Hence-clause-err
prove_step-returns-in-Hence-clause-err t c =
    let x = c.args.state.now in
    numbered_stops (as_views c.args.before.now) c.args.step.now x c.license_hence-answered.new.state c.args.number.now c.license_hence-answered.result c.count_or_stop-in-Hence.result
    (err_map _ _ c.license_hence-answered.result (λ h k. subst (λ s. IsStopOfStep (as_views c.args.before.now) s x h) (sym c.in-Hence.is) (k (as_views c.args.before.now) c.in-Hence.cert)) c.license_hence-answered.ensures.err) c.license_hence-answered.ensures.kept c.count_or_stop-in-Hence.ensures.err

pub prove_step-returns-in-Make-clause-ok : goal.prove_step-returns-in-Make-clause-ok
prove_step-returns-in-Make-clause-ok t c =
    let x = c.args.state.now in
    let after = c.license_make-answered.new.state in
    subst (λ s. IfOk c.count_or_stop-in-Make.result (λ d. IsPassed (as_views c.args.before.now) (step_script s) x c.args.number.now (step_script d) after c.count_or_stop-in-Make.new.number)) (sym c.in-Make.is)
    (numbered_passed (as_views c.args.before.now) (Make c.in-Make.construction c.in-Make.names c.in-Make.certs) x after c.args.number.now c.count_or_stop-in-Make.new.number c.license_make-answered.result c.count_or_stop-in-Make.result (make_one c.in-Make.construction c.in-Make.names c.in-Make.certs)
    (ok_map _ _ c.license_make-answered.result (λ d h. subst (λ ns. IsLicensedStep (as_views c.args.before.now) (Make c.in-Make.construction ns c.in-Make.certs) x d after) c.items.ensures (h (as_views c.args.before.now) c.in-Make.certs)) c.license_make-answered.ensures.ok) c.count_or_stop-in-Make.ensures.ok c.count_or_stop-in-Make.ensures.next)

pub prove_step-returns-in-Make-clause-err : goal.prove_step-returns-in-Make-clause-err
prove_step-returns-in-Make-clause-err t c =
    let x = c.args.state.now in
    numbered_stops (as_views c.args.before.now) c.args.step.now x c.license_make-answered.new.state c.args.number.now c.license_make-answered.result c.count_or_stop-in-Make.result
    (err_map _ _ c.license_make-answered.result (λ h k. subst (λ s. IsStopOfStep (as_views c.args.before.now) s x h) (sym c.in-Make.is) (subst (λ ns. IsStopOfStep (as_views c.args.before.now) (Make c.in-Make.construction ns c.in-Make.certs) x h) c.items.ensures (k (as_views c.args.before.now) c.in-Make.certs))) c.license_make-answered.ensures.err)
    c.license_make-answered.ensures.kept c.count_or_stop-in-Make.ensures.err

-- ---- an application

pub prove_step-bounds-before-theorem : goal.prove_step-bounds-before-theorem
prove_step-bounds-before-theorem t c =
    let y = c.in-Apply in
    let ready = apply_good (as_views c.args.before.now) y.theorem y.args y.names y.certs c.args.state.now c.args.number.now (subst (λ s. IsReadyStep (as_views c.args.before.now) s c.args.state.now c.args.number.now) y.is c.requires) in
    let many = as_many c.args.before.now in
    omega (arith, many, ready.place)

pub prove_step-count_or_stop-requires-in-Apply : goal.prove_step-count_or_stop-requires-in-Apply
prove_step-count_or_stop-requires-in-Apply t c = let one = at_least (step_script c.args.step.now c.requires.rest) in omega (arith, one, c.requires.few)

pub prove_step-license_apply-answered-requires : goal.prove_step-license_apply-answered-requires
prove_step-license_apply-answered-requires t c =
    let x = c.args.state.now in
    let y = c.in-Apply in
    let ready = apply_good (as_views c.args.before.now) y.theorem y.args y.names y.certs x c.args.number.now (subst (λ s. IsReadyStep (as_views c.args.before.now) s x c.args.number.now) y.is c.requires) in
    let many = as_many c.args.before.now in
    let place : y.theorem < length c.args.before.now = omega (arith, many, ready.place) in
    let is = theorem_is c.args.before.now y.theorem c.index-before-theorem.result place c.index-before-theorem.is in
    subst (λ es. CanApply (as_view c.index-before-theorem.result) es x.context) (sym c.items-in-Apply.ensures) (subst (λ w. CanApply w y.args x.context) is ready.can)

pub prove_step-returns-in-Apply-clause-ok : goal.prove_step-returns-in-Apply-clause-ok
prove_step-returns-in-Apply-clause-ok t c =
    let x = c.args.state.now in
    let y = c.in-Apply in
    let ready = apply_good (as_views c.args.before.now) y.theorem y.args y.names y.certs x c.args.number.now (subst (λ s. IsReadyStep (as_views c.args.before.now) s x c.args.number.now) y.is c.requires) in
    let many = as_many c.args.before.now in
    let place : y.theorem < length c.args.before.now = omega (arith, many, ready.place) in
    let is = theorem_is c.args.before.now y.theorem c.index-before-theorem.result place c.index-before-theorem.is in
    let after = c.license_apply-answered.new.state in
    subst (λ s. IfOk c.count_or_stop-in-Apply.result (λ d. IsPassed (as_views c.args.before.now) (step_script s) x c.args.number.now (step_script d) after c.count_or_stop-in-Apply.new.number)) (sym y.is)
    (numbered_passed (as_views c.args.before.now) (Apply y.theorem y.args y.names y.certs) x after c.args.number.now c.count_or_stop-in-Apply.new.number c.license_apply-answered.result c.count_or_stop-in-Apply.result (apply_one y.theorem y.args y.names y.certs)
    (ok_map _ _ c.license_apply-answered.result
    (λ d h. subst (λ ns. IsLicensedStep (as_views c.args.before.now) (Apply y.theorem y.args ns y.certs) x d after) c.items-in-Apply-2.ensures
    (subst (λ es. IsLicensedStep (as_views c.args.before.now) (Apply y.theorem es c.items-in-Apply-2.result.now y.certs) x d after) c.items-in-Apply.ensures (h (as_views c.args.before.now) y.certs is)))
    c.license_apply-answered.ensures.ok)
    c.count_or_stop-in-Apply.ensures.ok c.count_or_stop-in-Apply.ensures.next)

pub prove_step-returns-in-Apply-clause-err : goal.prove_step-returns-in-Apply-clause-err
prove_step-returns-in-Apply-clause-err t c =
    let x = c.args.state.now in
    let y = c.in-Apply in
    let ready = apply_good (as_views c.args.before.now) y.theorem y.args y.names y.certs x c.args.number.now (subst (λ s. IsReadyStep (as_views c.args.before.now) s x c.args.number.now) y.is c.requires) in
    let many = as_many c.args.before.now in
    let place : y.theorem < length c.args.before.now = omega (arith, many, ready.place) in
    let is = theorem_is c.args.before.now y.theorem c.index-before-theorem.result place c.index-before-theorem.is in
    numbered_stops (as_views c.args.before.now) c.args.step.now x c.license_apply-answered.new.state c.args.number.now c.license_apply-answered.result c.count_or_stop-in-Apply.result
    (err_map _ _ c.license_apply-answered.result
    (λ h k. subst (λ s. IsStopOfStep (as_views c.args.before.now) s x h) (sym y.is)
    (subst (λ ns. IsStopOfStep (as_views c.args.before.now) (Apply y.theorem y.args ns y.certs) x h) c.items-in-Apply-2.ensures
    (subst (λ es. IsStopOfStep (as_views c.args.before.now) (Apply y.theorem es c.items-in-Apply-2.result.now y.certs) x h) c.items-in-Apply.ensures (k (as_views c.args.before.now) y.certs is))))
    c.license_apply-answered.ensures.err)
    c.license_apply-answered.ensures.kept c.count_or_stop-in-Apply.ensures.err

-- ---- a claim

pub prove_step-prove_claim-requires : goal.prove_step-prove_claim-requires
prove_step-prove_claim-requires t c =
    let y = c.in-Claim in (
      search (rules, the_lemmas),
      ready_as (as_views c.args.before.now) (ClaimScript c.items-in-Claim.result.now (script_of c.deref.result.now)) (step_script c.args.step.now) c.args.state.now c.args.number.now
          (claim_is c.args.step.now y.shown c.items-in-Claim.result.now y.inner c.deref.result.now y.is c.items-in-Claim.ensures c.deref.ensures) c.requires,
    )

pub prove_step-returns-in-Claim-clause-ok : goal.prove_step-returns-in-Claim-clause-ok
prove_step-returns-in-Claim-clause-ok t c =
    let y = c.in-Claim in
    all_passed_as (as_views c.args.before.now) (ClaimScript c.items-in-Claim.result.now (script_of c.deref.result.now)) (step_script c.args.step.now) c.args.state.now c.prove_claim.new.state c.args.number.now c.prove_claim.new.number c.prove_claim.result
    (claim_is c.args.step.now y.shown c.items-in-Claim.result.now y.inner c.deref.result.now y.is c.items-in-Claim.ensures c.deref.ensures) c.prove_claim.ensures.ok

pub prove_step-returns-in-Claim-clause-err : goal.prove_step-returns-in-Claim-clause-err
prove_step-returns-in-Claim-clause-err t c =
    let y = c.in-Claim in
    all_stopped_as (as_views c.args.before.now) (ClaimScript c.items-in-Claim.result.now (script_of c.deref.result.now)) (step_script c.args.step.now) c.args.state.now c.args.number.now c.prove_claim.result
    (claim_is c.args.step.now y.shown c.items-in-Claim.result.now y.inner c.deref.result.now y.is c.items-in-Claim.ensures c.deref.ensures) c.prove_claim.ensures.err

pub prove_claim-overflow_add-number : goal.prove_claim-overflow_add-number
prove_claim-overflow_add-number t c =
    let few = claim_numbers (as_views c.args.before.now) c.args.shown.now (script_of c.args.inner.now) c.args.state.now c.args.number.now c.requires in
    omega (arith, few)

pub prove_claim-prove_block-requires : goal.prove_claim-prove_block-requires
prove_claim-prove_block-requires t c =
    let before = as_views c.args.before.now in
    let inner = script_of c.args.inner.now in
    let x = c.args.state.now in
    let hs = x.context.held ++ state_of x.context ∷ [] in
    let parts = claim_begins before c.args.shown.now inner x c.args.number.now c.requires in (
      search (rules, the_lemmas),
      (ready_inside before inner x c.enter_block.new.self (goal_of c.args.shown.now) hs c.in_ok-outer.ensures.held parts.block, claim_numbers before c.args.shown.now inner x c.args.number.now c.requires),
    )

pub prove_claim-end_claim-requires-clause-held : goal.prove_claim-end_claim-requires-clause-held
prove_claim-end_claim-requires-clause-held t c =
    let x = c.args.state.now in
    some_held x c.prove_block.new.state (kept_inside x c.enter_block.new.self c.prove_block.new.state c.in_ok-outer.ensures.held c.in-Ok.ensures.kept)

pub prove_claim-end_claim-requires-clause-good : goal.prove_claim-end_claim-requires-clause-good
prove_claim-end_claim-requires-clause-good t c =
    let before = as_views c.args.before.now in
    let shown = c.args.shown.now in
    let inner = script_of c.args.inner.now in
    let x = c.args.state.now in
    let hs = x.context.held ++ state_of x.context ∷ [] in
    let derived = derived_outside before inner x c.enter_block.new.self (goal_of shown) (script_of c.in-Ok.proved) hs c.in_ok-outer.ensures.held c.in-Ok.ensures.derived in
    good_after x c.prove_block.new.state shown shown (kept_inside x c.enter_block.new.self c.prove_block.new.state c.in_ok-outer.ensures.held c.in-Ok.ensures.kept) refl
    (claim_ends before shown inner (script_of c.in-Ok.proved) x c.args.number.now derived c.requires)

pub prove_claim-returns-in-Ok-clause-ok : goal.prove_claim-returns-in-Ok-clause-ok
prove_claim-returns-in-Ok-clause-ok t c =
    let before = as_views c.args.before.now in
    let shown = c.args.shown.now in
    let inner = script_of c.args.inner.now in
    let x = c.args.state.now in
    let hs = x.context.held ++ state_of x.context ∷ [] in
    let derived = derived_outside before inner x c.enter_block.new.self (goal_of shown) (script_of c.in-Ok.proved) hs c.in_ok-outer.ensures.held c.in-Ok.ensures.derived in
    claim_is_passed before shown inner x c.prove_block.new.state c.end_claim.new.state c.args.number.now c.prove_block.new.number c.in_ok-outer.outer c.in-Ok.proved c.end_claim.result (claim_begins before shown inner x c.args.number.now c.requires) derived c.in-Ok.ensures.next
    c.in_ok-outer.ensures.names (kept_inside x c.enter_block.new.self c.prove_block.new.state c.in_ok-outer.ensures.held c.in-Ok.ensures.kept) c.end_claim.ensures.step c.end_claim.ensures.after

pub prove_claim-returns-in-Err-clause-err : goal.prove_claim-returns-in-Err-clause-err
prove_claim-returns-in-Err-clause-err t c =
    let before = as_views c.args.before.now in
    let shown = c.args.shown.now in
    let inner = script_of c.args.inner.now in
    let x = c.args.state.now in
    let hs = x.context.held ++ state_of x.context ∷ [] in
    claim_is_stopped before shown inner x c.args.number.now c.in-Err.stop (claim_begins before shown inner x c.args.number.now c.requires)
    (stops_outside before inner x c.enter_block.new.self (goal_of shown) (c.args.number.now + 1) c.in-Err.stop hs c.in_ok-outer.ensures.held c.in-Err.ensures.err)

-- ---- a superposition

pub prove_step-prove_superposed-requires : goal.prove_step-prove_superposed-requires
prove_step-prove_superposed-requires t c =
    let y = c.in-Superposed in (
      search (rules, the_lemmas),
      (
        y.certs,
        ready_as (as_views c.args.before.now) (SuperposedScript y.superposition c.items-in-Superposed.result.now c.items-in-Superposed-2.result.now y.certs (script_of c.deref-in-Superposed.result.now)) (step_script c.args.step.now) c.args.state.now c.args.number.now
            (superposed_is c.args.step.now y.superposition y.names c.items-in-Superposed.result.now y.shown c.items-in-Superposed-2.result.now y.certs y.inner c.deref-in-Superposed.result.now y.is c.items-in-Superposed.ensures c.items-in-Superposed-2.ensures
            c.deref-in-Superposed.ensures) c.requires,
      ),
    )

pub prove_step-returns-in-Superposed-clause-ok : goal.prove_step-returns-in-Superposed-clause-ok
prove_step-returns-in-Superposed-clause-ok t c =
    let before = as_views c.args.before.now in
    let y = c.in-Superposed in
    let whole = λ (certs : List Cert). SuperposedScript y.superposition c.items-in-Superposed.result.now c.items-in-Superposed-2.result.now certs (script_of c.deref-in-Superposed.result.now) in
    all_passed_as before (whole y.certs) (step_script c.args.step.now) c.args.state.now c.prove_superposed.new.state c.args.number.now c.prove_superposed.new.number c.prove_superposed.result
    (superposed_is c.args.step.now y.superposition y.names c.items-in-Superposed.result.now y.shown c.items-in-Superposed-2.result.now y.certs y.inner c.deref-in-Superposed.result.now y.is c.items-in-Superposed.ensures c.items-in-Superposed-2.ensures
    c.deref-in-Superposed.ensures)
    (ok_with c.prove_superposed.result (λ d certs. IsPassed before (whole certs) c.args.state.now c.args.number.now (step_script d) c.prove_superposed.new.state c.prove_superposed.new.number) y.certs c.prove_superposed.ensures.ok)

pub prove_step-returns-in-Superposed-clause-err : goal.prove_step-returns-in-Superposed-clause-err
prove_step-returns-in-Superposed-clause-err t c =
    let before = as_views c.args.before.now in
    let y = c.in-Superposed in
    let whole = λ (certs : List Cert). SuperposedScript y.superposition c.items-in-Superposed.result.now c.items-in-Superposed-2.result.now certs (script_of c.deref-in-Superposed.result.now) in
    all_stopped_as before (whole y.certs) (step_script c.args.step.now) c.args.state.now c.args.number.now c.prove_superposed.result
    (superposed_is c.args.step.now y.superposition y.names c.items-in-Superposed.result.now y.shown c.items-in-Superposed-2.result.now y.certs y.inner c.deref-in-Superposed.result.now y.is c.items-in-Superposed.ensures c.items-in-Superposed-2.ensures
    c.deref-in-Superposed.ensures)
    (err_with c.prove_superposed.result (λ s certs. StopsInSteps before (whole certs) c.args.state.now c.args.number.now s) y.certs c.prove_superposed.ensures.err)

pub prove_superposed-license_superpose-requires-clause-room : goal.prove_superposed-license_superpose-requires-clause-room
prove_superposed-license_superpose-requires-clause-room t c =
    let h = c.args.parts.now in
    let x = c.args.state.now in
    let parts = superposed_begins (as_views c.args.before.now) h.superposition.now h.names.now h.shown.now c.requires.0 (script_of c.args.inner.now) x c.args.number.now c.requires.1 in
    subst (λ z. HasRoomForMore z.context.scope) (sym c.in_ok-outer.ensures.held) (room_of_small x.context.scope parts.scope)

pub prove_superposed-license_superpose-requires-clause-needs : goal.prove_superposed-license_superpose-requires-clause-needs
prove_superposed-license_superpose-requires-clause-needs t c =
    let h = c.args.parts.now in
    let x = c.args.state.now in
    let parts = superposed_begins (as_views c.args.before.now) h.superposition.now h.names.now h.shown.now c.requires.0 (script_of c.args.inner.now) x c.args.number.now c.requires.1 in
    subst (λ z. are_well_formed_in z.context.scope (superposing.needs_of_superposition h.superposition.now) ≡ true) (sym c.in_ok-outer.ensures.held) parts.needs

pub prove_superposed-license_superpose-requires-clause-after : goal.prove_superposed-license_superpose-requires-clause-after
prove_superposed-license_superpose-requires-clause-after t c =
    let before = as_views c.args.before.now in
    let h = c.args.parts.now in
    let x = c.args.state.now in
    let inner = script_of c.args.inner.now in
    let parts = superposed_begins before h.superposition.now h.names.now h.shown.now c.requires.0 inner x c.args.number.now c.requires.1 in
    let good = block_facts before inner (after_superposed h.superposition.now h.names.now x) (goal_of h.shown.now) parts.block in
    subst (λ z. let after = after_superposed h.superposition.now h.names.now z in are_limited_facts after.context.scope after.context.facts ≡ true) (sym c.in_ok-outer.ensures.held) good

pub prove_superposed-returns-in-Err-clause-err : goal.prove_superposed-returns-in-Err-clause-err
prove_superposed-returns-in-Err-clause-err t c =
    let h = c.args.parts.now in
    let x = c.args.state.now in
    let s = c.in-Err.stop_reason in
    let hs = x.context.held ++ state_of x.context ∷ [] in
    superposed_is_refused (as_views c.args.before.now) h.superposition.now h.names.now h.shown.now (script_of c.args.inner.now) x c.license_superpose.new.state c.args.number.now s c.stop_at.result
    (step_stops_outside hs x c.enter_block.new.self (superposing.needs_of_superposition h.superposition.now) s c.in_ok-outer.ensures.held c.in-Err.ensures.err)
    (names_outside hs x c.enter_block.new.self c.license_superpose.new.state s c.in_ok-outer.ensures.held c.in-Err.ensures.kept) c.stop_at.ensures

pub prove_superposed-overflow_add-number : goal.prove_superposed-overflow_add-number
prove_superposed-overflow_add-number t c =
    let h = c.args.parts.now in
    let few = superposed_numbers (as_views c.args.before.now) h.superposition.now h.names.now h.shown.now c.requires.0 (script_of c.args.inner.now) c.args.state.now c.args.number.now c.requires.1 in
    omega (arith, few)

pub prove_superposed-prove_block-requires : goal.prove_superposed-prove_block-requires
prove_superposed-prove_block-requires t c =
    let before = as_views c.args.before.now in
    let h = c.args.parts.now in
    let x = c.args.state.now in
    let inner = script_of c.args.inner.now in
    let hs = x.context.held ++ state_of x.context ∷ [] in
    let parts = superposed_begins before h.superposition.now h.names.now h.shown.now c.requires.0 inner x c.args.number.now c.requires.1 in
    let begun = c.in-Ok.ensures.after ∙ ap (after_superposed h.superposition.now h.names.now) c.in_ok-outer.ensures.held in (
      search (rules, the_lemmas),
      (
        ready_inside before inner (after_superposed h.superposition.now h.names.now x) c.license_superpose.new.state (goal_of h.shown.now) hs begun parts.block,
        superposed_numbers before h.superposition.now h.names.now h.shown.now c.requires.0 inner x c.args.number.now c.requires.1,
      ),
    )

pub prove_superposed-end_superposition-requires-clause-held : goal.prove_superposed-end_superposition-requires-clause-held
prove_superposed-end_superposition-requires-clause-held t c =
    let h = c.args.parts.now in
    let begun = c.in-Ok.ensures.after ∙ ap (after_superposed h.superposition.now h.names.now) c.in_ok-outer.ensures.held in
    some_held c.args.state.now c.prove_block.new.state (c.in-Ok-prove_block.ensures.kept ∙ ap (λ w. w.context.held) begun)

pub prove_superposed-end_superposition-requires-clause-good : goal.prove_superposed-end_superposition-requires-clause-good
prove_superposed-end_superposition-requires-clause-good t c =
    let before = as_views c.args.before.now in
    let h = c.args.parts.now in
    let x = c.args.state.now in
    let inner = script_of c.args.inner.now in
    let hs = x.context.held ++ state_of x.context ∷ [] in
    let begun = c.in-Ok.ensures.after ∙ ap (after_superposed h.superposition.now h.names.now) c.in_ok-outer.ensures.held in
    let derived = derived_outside before inner (after_superposed h.superposition.now h.names.now x) c.license_superpose.new.state (goal_of h.shown.now) (script_of c.in-Ok-prove_block.proved) hs begun c.in-Ok-prove_block.ensures.derived in
    good_after x c.prove_block.new.state h.shown.now h.shown.now (c.in-Ok-prove_block.ensures.kept ∙ ap (λ w. w.context.held) begun) refl
    (superposed_ends before h.superposition.now h.names.now h.shown.now c.requires.0 inner (script_of c.in-Ok-prove_block.proved) x c.args.number.now derived c.requires.1)

pub prove_superposed-returns-in-Ok-prove_block-clause-ok : goal.prove_superposed-returns-in-Ok-prove_block-clause-ok
prove_superposed-returns-in-Ok-prove_block-clause-ok t c =
    let before = as_views c.args.before.now in
    let h = c.args.parts.now in
    let x = c.args.state.now in
    let inner = script_of c.args.inner.now in
    let hs = x.context.held ++ state_of x.context ∷ [] in
    let certified = subst (λ z. certify_all z.context.scope z.context.facts (superposing.needs_of_superposition h.superposition.now) c.in-Ok.certs.items ≡ true) c.in_ok-outer.ensures.held c.in-Ok.ensures.certs in
    let begun = c.in-Ok.ensures.after ∙ ap (after_superposed h.superposition.now h.names.now) c.in_ok-outer.ensures.held in
    let derived = derived_outside before inner (after_superposed h.superposition.now h.names.now x) c.license_superpose.new.state (goal_of h.shown.now) (script_of c.in-Ok-prove_block.proved) hs begun c.in-Ok-prove_block.ensures.derived in
    superposed_is_passed before h.superposition.now h.names.now h.shown.now c.in-Ok.certs.items inner x c.prove_block.new.state c.end_superposition.new.state c.args.number.now c.prove_block.new.number c.in_ok-outer.outer c.in-Ok-prove_block.proved c.end_superposition.result
    (superposed_begins before h.superposition.now h.names.now h.shown.now c.requires.0 inner x c.args.number.now c.requires.1) (certified, c.in-Ok.ensures.version) derived c.in-Ok-prove_block.ensures.next c.in_ok-outer.ensures.names
    (c.in-Ok-prove_block.ensures.kept ∙ ap (λ w. w.context.held) begun) c.end_superposition.ensures.step c.end_superposition.ensures.after

pub prove_superposed-returns-in-Err-prove_block-clause-err : goal.prove_superposed-returns-in-Err-prove_block-clause-err
prove_superposed-returns-in-Err-prove_block-clause-err t c =
    let before = as_views c.args.before.now in
    let h = c.args.parts.now in
    let x = c.args.state.now in
    let inner = script_of c.args.inner.now in
    let hs = x.context.held ++ state_of x.context ∷ [] in
    let certified = subst (λ z. certify_all z.context.scope z.context.facts (superposing.needs_of_superposition h.superposition.now) c.in-Ok.certs.items ≡ true) c.in_ok-outer.ensures.held c.in-Ok.ensures.certs in
    let begun = c.in-Ok.ensures.after ∙ ap (after_superposed h.superposition.now h.names.now) c.in_ok-outer.ensures.held in
    superposed_is_stopped before h.superposition.now h.names.now h.shown.now c.in-Ok.certs.items inner x c.args.number.now c.in-Err-prove_block.stop (superposed_begins before h.superposition.now h.names.now h.shown.now c.requires.0 inner x c.args.number.now c.requires.1)
    (certified, c.in-Ok.ensures.version)
    (stops_outside before inner (after_superposed h.superposition.now h.names.now x) c.license_superpose.new.state (goal_of h.shown.now) (c.args.number.now + 1) c.in-Err-prove_block.stop hs begun c.in-Err-prove_block.ensures.err)
