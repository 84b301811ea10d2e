use Rattle.std.proofs.Common.{rules, ◌≡◌, true, sym, ap, ◌∙◌, subst, arith}
use Rattle.std.specs.Prelude.{IfOk}
use Rattle.e_literal.specs.Literal.{negation}
use Rattle.e_literal.specs.Facts.{with_fact}
use Rattle.e_construct.specs.Construct.{needs_of_construction}
use Rattle.e_theorem.specs.Statements.{as_views}
use Rattle.e_deriv.specs.declared.block.Close.TheViews.{the_lemmas}
use Rattle.e_deriv.specs.Script.{Cite, Hence, Make, Apply, Claim, Superposed, script_of, step_script, steps_script, close_script}
use Rattle.e_deriv.specs.Goal.{goal_view, goal_with, are_for}
use Rattle.e_verify.specs.Checking.{KeepsFirstFacts}
use Rattle.e_verify.specs.StepStates.{state_with_facts}
use Rattle.e_places.specs.inner.Numbering.{HaveFew, IsReady, IsApplied, IsNumberedStep, places_at}
use Rattle.e_deriv.proofs.Keeping.{all_stay, stay_joined}
use Rattle.e_verify.proofs.checking.InnerBlocks.{cite_is, hence_is, make_is, apply_is, claim_is, superposed_is, kept_on, steps_end}
use Rattle.e_places.proofs.placing.NumberedSteps.{steps_go_on, few_go_on, step_ok, all_before, ok_with, if_ok, where_ok, claim_numbered, superposed_numbered, qed_same, qed_few, contradiction_same, contradiction_few, after_cases, cases_numbered, cases_few, small_scope, apply_fits, claim_ready, superposed_ready, ready_as, qed_fits, cases_ready, block_ready, step_ready, next_ready}
use Rattle.e_places.proofs.numbering.+number.Goals as goal

-- ---- a block

pub number_block-loop-step-init : goal.number_block-loop-step-init
number_block-loop-step-init t c = record {
  same = ap (λ ss. steps_script ss (places_at (as_views c.args.before.now) (script_of c.args.block.now) c.args.state.now (goal_view c.args.goal.now))) c.new-steps.ensures.items;
  few = λ h. h;
  ready = c.requires.ready;
  kept = all_stay c.args.state.now.facts;
}

pub number_block-loop-step-preserved : goal.number_block-loop-step-preserved
number_block-loop-step-preserved t c =
    let before = as_views c.args.before.now in
    let items = c.args.block.now.steps.items in
    let seen = c.deref-step-items.result.now in
    let close = close_script c.args.block.now.close in
    let g = goal_view c.args.goal.now in
    let x = c.args.state.now in
    record {
      same = steps_go_on before items seen close (places_at before (script_of c.args.block.now) x g) c.loop-step.step-index c.step-item.result c.in-Ok.numbered c.loop-step.steps.items c.push.new.self.items c.loop-step.state c.number_step.new.state g
          c.deref-step-items.ensures.value c.loop-step-test.true c.step-item.is c.in-Ok.ensures.step c.in_ok-push-in-Ok.ensures.items c.loop-step.invariant.same;
      few = few_go_on before items seen close (script_of c.args.block.now) c.loop-step.step-index c.step-item.result c.in-Ok.numbered x c.loop-step.state c.number_step.new.state g
          c.deref-step-items.ensures.value c.loop-step-test.true c.step-item.is c.in-Ok.ensures.few c.in-Ok.ensures.step c.loop-step.invariant.few;
      ready = next_ready before items seen close c.loop-step.step-index c.step-item.result c.in-Ok.numbered c.loop-step.state c.number_step.new.state g
          c.deref-step-items.ensures.value c.loop-step-test.true c.step-item.is c.in-Ok.ensures.step c.loop-step.invariant.ready;
      kept = kept_on x c.loop-step.state c.number_step.new.state c.loop-step.invariant.kept c.in-Ok.ensures.step.kept;
    }

pub number_block-number_step-requires : goal.number_block-number_step-requires
number_block-number_step-requires t c = (
  search (rules, the_lemmas),
  (
    step_ready (as_views c.args.before.now) c.args.block.now.steps.items c.deref-step-items.result.now (close_script c.args.block.now.close) c.loop-step.step-index c.step-item.result c.loop-step.state (goal_view c.args.goal.now)
        c.deref-step-items.ensures.value c.loop-step-test.true c.step-item.is c.loop-step.invariant.ready,
    c.requires.statements,
  ),
)

pub number_block-number_close-requires : goal.number_block-number_close-requires
number_block-number_close-requires t c =
    let end = steps_end c.args.block.now.steps.items c.deref-step-items.result.now (close_script c.args.block.now.close) c.loop-step.step-index c.deref-step-items.ensures.value c.loop-step-test.false in (
      search (rules, the_lemmas),
      (subst (λ d. IsReady (as_views c.args.before.now) d c.loop-step.state (goal_view c.args.goal.now)) end c.loop-step.invariant.ready, c.requires.statements),
    )

pub number_block-returns-in-Ok-number_close-clause-same : goal.number_block-returns-in-Ok-number_close-clause-same
number_block-returns-in-Ok-number_close-clause-same t c =
    let before = as_views c.args.before.now in
    let g = goal_view c.args.goal.now in
    let close = close_script c.args.block.now.close in
    let end = steps_end c.args.block.now.steps.items c.deref-step-items.result.now close c.loop-step.step-index c.deref-step-items.ensures.value c.loop-step-test.false in
    ap (steps_script c.loop-step.steps.items) (c.in-Ok-number_close.ensures.same ∙ sym (ap (λ d. places_at before d c.loop-step.state g) end)) ∙ c.loop-step.invariant.same

pub number_block-returns-in-Ok-number_close-clause-few : goal.number_block-returns-in-Ok-number_close-clause-few
number_block-returns-in-Ok-number_close-clause-few t c =
    let before = as_views c.args.before.now in
    let g = goal_view c.args.goal.now in
    let end = steps_end c.args.block.now.steps.items c.deref-step-items.result.now (close_script c.args.block.now.close) c.loop-step.step-index c.deref-step-items.ensures.value c.loop-step-test.false in
    c.loop-step.invariant.few (subst (λ d. HaveFew before d c.loop-step.state g) (sym end) c.in-Ok-number_close.ensures.few)

pub number_block-returns-in-Ok-number_close-clause-kept : goal.number_block-returns-in-Ok-number_close-clause-kept
number_block-returns-in-Ok-number_close-clause-kept t c = kept_on c.args.state.now c.loop-step.state c.number_close.new.state c.loop-step.invariant.kept c.in-Ok-number_close.ensures.kept

-- ---- what the parts of a step need

pub number_step-hence-requires : goal.number_step-hence-requires
number_step-hence-requires t c = omega (arith, c.len.ensures, c.if-len-ge-PLACES.false)

pub number_step-make-requires-clause-few : goal.number_step-make-requires-clause-few
number_step-make-requires-clause-few t c = omega (arith, c.len.ensures, c.if-len-ge-PLACES.false)

pub number_step-make-requires-clause-scope : goal.number_step-make-requires-clause-scope
number_step-make-requires-clause-scope t c = small_scope (as_views c.args.before.now) (step_script c.args.step.now) c.args.state.now c.requires.ready

pub number_step-apply-requires-clause-few : goal.number_step-apply-requires-clause-few
number_step-apply-requires-clause-few t c = omega (arith, c.len.ensures, c.if-len-ge-PLACES.false)

pub number_step-apply-requires-clause-scope : goal.number_step-apply-requires-clause-scope
number_step-apply-requires-clause-scope t c = small_scope (as_views c.args.before.now) (step_script c.args.step.now) c.args.state.now c.requires.ready

pub number_step-apply-requires-clause-applied : goal.number_step-apply-requires-clause-applied
number_step-apply-requires-clause-applied t c =
    let y = c.in-Apply in
    let before = as_views c.args.before.now in
    let x = c.args.state.now in
    subst (λ os. IsApplied before y.theorem os x) (sym c.items-in-Apply.ensures)
    (apply_fits before y.theorem y.args y.names y.certs x (ready_as before (step_script c.args.step.now) (Apply y.theorem y.args y.names y.certs) x (apply_is c.args.step.now y.theorem y.args y.names y.certs y.is) c.requires.ready))

pub number_step-number_claim-requires : goal.number_step-number_claim-requires
number_step-number_claim-requires t c =
    let y = c.in-Claim in (
      search (rules, the_lemmas),
      (
        ready_as (as_views c.args.before.now) (step_script c.args.step.now) (Claim c.items-in-Claim.result.now (script_of c.deref.result.now)) c.args.state.now
            (claim_is c.args.step.now y.shown c.items-in-Claim.result.now y.inner c.deref.result.now y.is c.items-in-Claim.ensures c.deref.ensures) c.requires.ready,
        c.requires.statements,
      ),
    )

pub number_claim-number_block-requires : goal.number_claim-number_block-requires
number_claim-number_block-requires t c = (search (rules, the_lemmas), (claim_ready (as_views c.args.before.now) c.args.shown.now (script_of c.args.inner.now) c.args.state.now c.requires.ready, c.requires.statements))

pub number_step-number_superposed-requires : goal.number_step-number_superposed-requires
number_step-number_superposed-requires t c =
    let y = c.in-Superposed in
    let ready =
    ready_as (as_views c.args.before.now) (step_script c.args.step.now)
    (Superposed y.superposition c.items-in-Superposed.result.now c.items-in-Superposed-2.result.now c.items-in-Superposed-3.result.now (script_of c.deref-in-Superposed.result.now)) c.args.state.now
    (λ rest. superposed_is c.args.step.now y.superposition y.names y.shown c.items-in-Superposed-2.result.now y.certs c.items-in-Superposed-3.result.now y.inner c.deref-in-Superposed.result.now y.is c.items-in-Superposed-2.ensures c.items-in-Superposed-3.ensures
    c.deref-in-Superposed.ensures rest
    ∙ ap (λ ns. Superposed y.superposition ns c.items-in-Superposed-2.result.now c.items-in-Superposed-3.result.now (script_of c.deref-in-Superposed.result.now) rest) (sym c.items-in-Superposed.ensures)) c.requires.ready
    in (search (rules, the_lemmas), (ready, (omega (arith, c.len.ensures, c.if-len-ge-PLACES.false), c.requires.statements)))

pub number_superposed-superpose-requires-clause-scope : goal.number_superposed-superpose-requires-clause-scope
number_superposed-superpose-requires-clause-scope t c =
    let h = c.args.parts.now in
    small_scope (as_views c.args.before.now) (Superposed h.superposition.now h.names.now h.shown.now h.certs.now (script_of c.args.inner.now)) c.args.state.now c.requires.ready

pub number_superposed-number_block-requires : goal.number_superposed-number_block-requires
number_superposed-number_block-requires t c =
    let h = c.args.parts.now in (
      search (rules, the_lemmas),
      (
        superposed_ready (as_views c.args.before.now) h.superposition.now h.names.now h.shown.now h.certs.now (script_of c.args.inner.now) c.args.state.now c.superpose.new.state c.in-Ok.ensures.after c.requires.ready,
        c.requires.statements,
      ),
    )

-- ---- steps of one line

pub number_step-returns-in-Cite-clause-step : goal.number_step-returns-in-Cite-clause-step
number_step-returns-in-Cite-clause-step t c =
    let before = as_views c.args.before.now in
    step_ok before c.args.step.now (Cite c.in-Cite.by) c.args.state.now c.cite.new.state c.cite.result (cite_is c.args.step.now c.in-Cite.by c.in-Cite.is) (all_before before (Cite c.in-Cite.by) c.args.state.now c.cite.new.state c.cite.result c.cite.ensures)

pub number_step-returns-in-Hence-clause-step : goal.number_step-returns-in-Hence-clause-step
number_step-returns-in-Hence-clause-step t c =
    let before = as_views c.args.before.now in
    let y = c.in-Hence in
    step_ok before c.args.step.now (Hence y.lit y.cert) c.args.state.now c.hence.new.state c.hence.result (hence_is c.args.step.now y.lit y.cert y.is) (all_before before (Hence y.lit y.cert) c.args.state.now c.hence.new.state c.hence.result c.hence.ensures)

pub number_step-returns-in-Make-clause-step : goal.number_step-returns-in-Make-clause-step
number_step-returns-in-Make-clause-step t c =
    let before = as_views c.args.before.now in
    let y = c.in-Make in
    let x = c.args.state.now in
    let after = c.make.new.state in
    step_ok before c.args.step.now (Make y.construction y.names y.certs) x after c.make.result (make_is c.args.step.now y.construction y.names y.certs y.is)
    (subst (λ cs. IfOk c.make.result (λ s. IsNumberedStep before (Make y.construction y.names cs) x (step_script s) after)) c.items-in-Make.ensures
    (subst (λ ns. IfOk c.make.result (λ s. IsNumberedStep before (Make y.construction ns c.items-in-Make.result.now) x (step_script s) after)) c.items.ensures (all_before before (Make y.construction c.items.result.now c.items-in-Make.result.now) x after c.make.result c.make.ensures)))

pub number_step-returns-in-Apply-clause-step : goal.number_step-returns-in-Apply-clause-step
number_step-returns-in-Apply-clause-step t c =
    let before = as_views c.args.before.now in
    let y = c.in-Apply in
    let x = c.args.state.now in
    let after = c.apply.new.state in
    step_ok before c.args.step.now (Apply y.theorem y.args y.names y.certs) x after c.apply.result (apply_is c.args.step.now y.theorem y.args y.names y.certs y.is)
    (subst (λ os. IfOk c.apply.result (λ s. IsNumberedStep before (Apply y.theorem os y.names y.certs) x (step_script s) after)) c.items-in-Apply.ensures
    (subst (λ ns. IfOk c.apply.result (λ s. IsNumberedStep before (Apply y.theorem c.items-in-Apply.result.now ns y.certs) x (step_script s) after)) c.items-in-Apply-2.ensures
    (subst (λ cs. IfOk c.apply.result (λ s. IsNumberedStep before (Apply y.theorem c.items-in-Apply.result.now c.items-in-Apply-2.result.now cs) x (step_script s) after)) c.items-in-Apply-3.ensures c.apply.ensures)))

-- ---- steps with a block inside

pub number_step-returns-in-Claim-clause-step : goal.number_step-returns-in-Claim-clause-step
number_step-returns-in-Claim-clause-step t c =
    let y = c.in-Claim in
    step_ok (as_views c.args.before.now) c.args.step.now (Claim c.items-in-Claim.result.now (script_of c.deref.result.now)) c.args.state.now c.number_claim.new.state c.number_claim.result
    (claim_is c.args.step.now y.shown c.items-in-Claim.result.now y.inner c.deref.result.now y.is c.items-in-Claim.ensures c.deref.ensures) c.number_claim.ensures

pub number_step-returns-in-Superposed-clause-step : goal.number_step-returns-in-Superposed-clause-step
number_step-returns-in-Superposed-clause-step t c =
    let y = c.in-Superposed in
    step_ok (as_views c.args.before.now) c.args.step.now (Superposed y.superposition c.items-in-Superposed.result.now c.items-in-Superposed-2.result.now c.items-in-Superposed-3.result.now (script_of c.deref-in-Superposed.result.now)) c.args.state.now
    c.number_superposed.new.state c.number_superposed.result
    (λ rest. superposed_is c.args.step.now y.superposition y.names y.shown c.items-in-Superposed-2.result.now y.certs c.items-in-Superposed-3.result.now y.inner c.deref-in-Superposed.result.now y.is c.items-in-Superposed-2.ensures c.items-in-Superposed-3.ensures
    c.deref-in-Superposed.ensures rest
    ∙ ap (λ ns. Superposed y.superposition ns c.items-in-Superposed-2.result.now c.items-in-Superposed-3.result.now (script_of c.deref-in-Superposed.result.now) rest) (sym c.items-in-Superposed.ensures)) c.number_superposed.ensures

pub number_claim-returns-in-Ok : goal.number_claim-returns-in-Ok
number_claim-returns-in-Ok t c =
    ok_with c.end_claim.result c.end_claim.ensures.step c.end_claim.ensures.after
    (λ s made end. claim_numbered (as_views c.args.before.now) c.args.shown.now (script_of c.args.inner.now) c.in-Ok.numbered c.args.state.now c.number_block.new.state c.end_claim.new.state c.checkpoint-outer.result s
    c.in-Ok.ensures.same c.in-Ok.ensures.few c.checkpoint-outer.ensures c.in-Ok.ensures.kept made end)

pub number_superposed-returns-in-Ok-number_block : goal.number_superposed-returns-in-Ok-number_block
number_superposed-returns-in-Ok-number_block t c =
    let h = c.args.parts.now in
    ok_with c.end_superposition.result c.end_superposition.ensures.step c.end_superposition.ensures.after
    (λ s made end. superposed_numbered (as_views c.args.before.now) h.superposition.now h.names.now h.shown.now h.certs.now c.in-Ok.certs (script_of c.args.inner.now) c.in-Ok-number_block.numbered c.args.state.now c.superpose.new.state
    c.number_block.new.state c.end_superposition.new.state c.checkpoint-outer.result s c.in-Ok.ensures.certs c.in-Ok.ensures.after c.in-Ok-number_block.ensures.same c.in-Ok-number_block.ensures.few c.checkpoint-outer.ensures
    c.in-Ok-number_block.ensures.kept made end)

-- ---- closes

pub number_close-number_qed-requires-clause-few : goal.number_close-number_qed-requires-clause-few
number_close-number_qed-requires-clause-few t c = omega (arith, c.len.ensures, c.if-len-ge-PLACES.false)

pub number_close-number_qed-requires-clause-objects : goal.number_close-number_qed-requires-clause-objects
number_close-number_qed-requires-clause-objects t c =
    let y = c.in-Qed in
    let g = goal_view c.args.goal.now in
    ap (are_for g c.args.state.now.scope) c.items.ensures ∙ qed_fits (as_views c.args.before.now) c.args.close.now y.objects y.certs c.args.state.now g y.is c.requires.ready

pub number_close-number_contradiction-requires : goal.number_close-number_contradiction-requires
number_close-number_contradiction-requires t c = omega (arith, c.len.ensures, c.if-len-ge-PLACES.false)

pub number_close-number_block-requires : goal.number_close-number_block-requires
number_close-number_block-requires t c =
    let y = c.in-Cases in
    let x = c.args.state.now in
    let g = goal_view c.args.goal.now in
    let before = as_views c.args.before.now in (
      search (rules, the_lemmas),
      (
        block_ready before c.deref.result.now y.first (state_with_facts (with_fact x.facts y.lit) x) c.assume.new.self g c.deref.ensures c.in_ok-assume-in-Cases.ensures (cases_ready before c.args.close.now y.lit y.first y.second x g y.is c.requires.ready).0,
        c.requires.statements,
      ),
    )

pub number_close-number_block-requires-in-Cases : goal.number_close-number_block-requires-in-Cases
number_close-number_block-requires-in-Cases t c =
    let y = c.in-Cases in
    let x = c.args.state.now in
    let g = goal_view c.args.goal.now in
    let before = as_views c.args.before.now in
    let back =
    after_cases x c.assume.new.self c.number_block.new.state c.restore.new.self c.assume_not.new.self y.lit c.checkpoint-outer.result c.in_ok-assume-in-Cases.ensures c.checkpoint-outer.ensures c.in-Ok.ensures.kept c.restore.ensures
    c.in-Ok-assume_not.ensures
    in (
      search (rules, the_lemmas),
      (
        block_ready before c.deref-in-Cases.result.now y.second (state_with_facts (with_fact x.facts (negation y.lit)) x) c.assume_not.new.self g c.deref-in-Cases.ensures back (cases_ready before c.args.close.now y.lit y.first y.second x g y.is c.requires.ready).1,
        c.requires.statements,
      ),
    )

pub number_close-returns-in-Qed-clause-same : goal.number_close-returns-in-Qed-clause-same
number_close-returns-in-Qed-clause-same t c =
    let before = as_views c.args.before.now in
    let y = c.in-Qed in
    if_ok c.number_qed.result c.number_qed.ensures
    (λ k e. qed_same before c.args.close.now k y.objects c.items.result.now y.certs c.items-in-Qed.result.now c.args.state.now (goal_view c.args.goal.now) y.is c.items.ensures c.items-in-Qed.ensures (e before))

pub number_close-returns-in-Qed-clause-few : goal.number_close-returns-in-Qed-clause-few
number_close-returns-in-Qed-clause-few t c =
    where_ok c.number_qed.result (qed_few (as_views c.args.before.now) c.args.close.now c.in-Qed.objects c.in-Qed.certs c.args.state.now (goal_view c.args.goal.now) c.in-Qed.is (omega (arith, c.len.ensures, c.if-len-ge-PLACES.false)))

pub number_close-returns-in-Contradiction-clause-same : goal.number_close-returns-in-Contradiction-clause-same
number_close-returns-in-Contradiction-clause-same t c =
    if_ok c.number_contradiction.result c.number_contradiction.ensures
    (λ k e. contradiction_same (as_views c.args.before.now) c.args.close.now k c.in-Contradiction.against c.args.state.now (goal_view c.args.goal.now) c.in-Contradiction.is e)

pub number_close-returns-in-Contradiction-clause-few : goal.number_close-returns-in-Contradiction-clause-few
number_close-returns-in-Contradiction-clause-few t c =
    where_ok c.number_contradiction.result
    (contradiction_few (as_views c.args.before.now) c.args.close.now c.in-Contradiction.against c.args.state.now (goal_view c.args.goal.now) c.in-Contradiction.is (omega (arith, c.len.ensures, c.if-len-ge-PLACES.false)))

-- ---- a split

pub number_close-returns-in-Ok-number_block-clause-same : goal.number_close-returns-in-Ok-number_block-clause-same
number_close-returns-in-Ok-number_block-clause-same t c =
    let before = as_views c.args.before.now in
    let y = c.in-Cases in
    let x = c.args.state.now in
    let back =
    after_cases x c.assume.new.self c.number_block.new.state c.restore.new.self c.assume_not.new.self y.lit c.checkpoint-outer.result c.in_ok-assume-in-Cases.ensures c.checkpoint-outer.ensures c.in-Ok.ensures.kept c.restore.ensures
    c.in-Ok-assume_not.ensures
    in
    if_ok c.cases_close.result c.cases_close.ensures
    (λ k e. e
    ∙ cases_numbered before c.args.close.now y.lit y.first y.second c.deref.result.now c.deref-in-Cases.result.now c.in-Ok.one c.in-Ok-number_block.other x c.assume.new.self c.assume_not.new.self (goal_view c.args.goal.now) y.is c.deref.ensures
    c.deref-in-Cases.ensures c.in_ok-assume-in-Cases.ensures c.in-Ok.ensures.same back c.in-Ok-number_block.ensures.same)

pub number_close-returns-in-Ok-number_block-clause-few : goal.number_close-returns-in-Ok-number_block-clause-few
number_close-returns-in-Ok-number_block-clause-few t c =
    let y = c.in-Cases in
    let x = c.args.state.now in
    let back =
    after_cases x c.assume.new.self c.number_block.new.state c.restore.new.self c.assume_not.new.self y.lit c.checkpoint-outer.result c.in_ok-assume-in-Cases.ensures c.checkpoint-outer.ensures c.in-Ok.ensures.kept c.restore.ensures
    c.in-Ok-assume_not.ensures
    in
    where_ok c.cases_close.result
    (cases_few (as_views c.args.before.now) c.args.close.now y.lit y.first y.second c.deref.result.now c.deref-in-Cases.result.now x c.assume.new.self c.assume_not.new.self (goal_view c.args.goal.now) (omega (arith, c.len.ensures, c.if-len-ge-PLACES.false))
    y.is c.deref.ensures c.deref-in-Cases.ensures c.in_ok-assume-in-Cases.ensures c.in-Ok.ensures.few back c.in-Ok-number_block.ensures.few)

pub number_close-returns-in-Ok-number_block-clause-kept : goal.number_close-returns-in-Ok-number_block-clause-kept
number_close-returns-in-Ok-number_block-clause-kept t c =
    let y = c.in-Cases in
    let x = c.args.state.now in
    let back =
    after_cases x c.assume.new.self c.number_block.new.state c.restore.new.self c.assume_not.new.self y.lit c.checkpoint-outer.result c.in_ok-assume-in-Cases.ensures c.checkpoint-outer.ensures c.in-Ok.ensures.kept c.restore.ensures
    c.in-Ok-assume_not.ensures
    in
    where_ok c.cases_close.result
    (kept_on x c.assume_not.new.self c.number_block-in-Cases.new.state (subst (KeepsFirstFacts x) (sym back) (stay_joined x.facts (negation y.lit))) c.in-Ok-number_block.ensures.kept)
