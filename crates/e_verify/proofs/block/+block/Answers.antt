use Rattle.std.proofs.Common.{rules, arith, refl, sym, ap, ◌∙◌, subst, ℕ, List}
use Rattle.std.proofs.lemmas.Result.{err_from_is_err_and}
use Rattle.e_theorem.specs.Statements.{as_views}
use Rattle.e_deriv.specs.declared.block.Close.TheViews.{the_lemmas}
use Rattle.e_deriv.specs.Script.{script_of, step_script, close_script, Cite, Hence, Make, Apply, Claim, Superposed}
use Rattle.e_deriv.specs.Goal.{goal_view}
use Rattle.e_verify.specs.Checking.{verdict_at, IsCheckable, IsChecked, AreVerified, RejectsInSteps}
use Rattle.e_deriv.proofs.Keeping.{all_stay}
use Rattle.e_verify.proofs.checking.PassedLines.{cite_line, hence_line, make_line, apply_line, line_passed, line_rejected}
use Rattle.e_verify.proofs.checking.InnerBlocks.{step_ready, step_rejects, step_same, step_next, steps_end, kept_on, ok_as, err_as, few_one, few_step, formed_step, small_step, cite_parts, cite_is, hence_is, make_is, apply_is, hence_parts, make_parts, apply_parts, ready_as, all_passed_as, all_rejected_as, ok_with, err_with, few_lines, formed_lines, small_lines, claim_is, claim_ready, claim_fails, claim_stops, claim_done, superposed_is, superposed_parts, superposed_ready, tested_fits, superposed_fails, superposed_stops, superposed_done, qed_parts, contradiction_parts, qed_ok, qed_bad, contradiction_ok, contradiction_bad, split_fails, first_ready, first_stops, after_first, second_ready, split_same, kept_after_first}
use Rattle.e_verify.proofs.block.+block.Goals as goal
use Rattle.e_verify.proofs.arithmetic.Coefficients.{on_ok}

-- ---- a block

pub verify_block-loop-step-init : goal.verify_block-loop-step-init
verify_block-loop-step-init t c = record { same = refl; ready = c.requires.ready; kept = all_stay c.args.state.now.facts }

pub verify_block-verify_step-requires : goal.verify_block-verify_step-requires
verify_block-verify_step-requires t c = (
  search (rules, the_lemmas),
  (
    step_ready (as_views c.args.before.now) c.args.block.now.steps.items c.deref-step-items.result.now (close_script c.args.block.now.close) c.loop-step.step-index c.step-item.result c.loop-step.state (goal_view c.args.goal.now) c.loop-step.number
        c.deref-step-items.ensures.value c.loop-step-test.true c.step-item.is c.loop-step.invariant.ready,
    c.requires.statements,
  ),
)

pub verify_block-returns-in_err-number-clause-err : goal.verify_block-returns-in_err-number-clause-err
verify_block-returns-in_err-number-clause-err t c =
    let p = err_from_is_err_and c.from_residual.result c.from_residual.ensures.1 in
    rw (p.1, p.2)
    (step_rejects (as_views c.args.before.now) c.args.block.now.steps.items c.deref-step-items.result.now (close_script c.args.block.now.close) c.loop-step.step-index c.step-item.result c.loop-step.state (goal_view c.args.goal.now) c.loop-step.number
    (verdict_at (as_views c.args.before.now) (script_of c.args.block.now) c.args.state.now (goal_view c.args.goal.now) c.args.first_number) c.in_err-number.field-0.0
    c.deref-step-items.ensures.value c.loop-step-test.true c.step-item.is c.loop-step.invariant.same c.in_err-number.ensures.err)

pub verify_block-loop-step-preserved : goal.verify_block-loop-step-preserved
verify_block-loop-step-preserved t c =
    let before = as_views c.args.before.now in
    let items = c.args.block.now.steps.items in
    let seen = c.deref-step-items.result.now in
    let close = close_script c.args.block.now.close in
    let g = goal_view c.args.goal.now in
    record {
      same = step_same before items seen close c.loop-step.step-index c.step-item.result c.loop-step.state c.verify_step.new.state g c.loop-step.number c.in_ok-number.number
          (verdict_at before (script_of c.args.block.now) c.args.state.now g c.args.first_number) c.deref-step-items.ensures.value c.loop-step-test.true c.step-item.is c.loop-step.invariant.same c.in_ok-number.ensures.ok;
      ready = step_next before items seen close c.loop-step.step-index c.step-item.result c.loop-step.state c.verify_step.new.state g c.loop-step.number c.in_ok-number.number
          c.deref-step-items.ensures.value c.loop-step-test.true c.step-item.is c.loop-step.invariant.ready c.in_ok-number.ensures.ok;
      kept = kept_on c.args.state.now c.loop-step.state c.verify_step.new.state c.loop-step.invariant.kept c.in_ok-number.ensures.ok.kept;
    }

pub verify_block-verify_close-requires : goal.verify_block-verify_close-requires
verify_block-verify_close-requires t c =
    let end = steps_end c.args.block.now.steps.items c.deref-step-items.result.now (close_script c.args.block.now.close) c.loop-step.step-index c.deref-step-items.ensures.value c.loop-step-test.false in (
      search (rules, the_lemmas),
      (subst (λ d. IsCheckable (as_views c.args.before.now) d c.loop-step.state (goal_view c.args.goal.now) c.loop-step.number) end c.loop-step.invariant.ready, c.requires.statements),
    )

pub verify_block-returns-clause-ok : goal.verify_block-returns-clause-ok
verify_block-returns-clause-ok t c =
    let before = as_views c.args.before.now in
    let g = goal_view c.args.goal.now in
    let close = close_script c.args.block.now.close in
    let end = steps_end c.args.block.now.steps.items c.deref-step-items.result.now close c.loop-step.step-index c.deref-step-items.ensures.value c.loop-step-test.false in
    ok_as c.verify_close.result (verdict_at before (script_of c.args.block.now) c.args.state.now g c.args.first_number) (verdict_at before close c.loop-step.state g c.loop-step.number)
    (sym c.loop-step.invariant.same ∙ ap (λ d. verdict_at before d c.loop-step.state g c.loop-step.number) end) c.verify_close.ensures.ok

pub verify_block-returns-clause-kept : goal.verify_block-returns-clause-kept
verify_block-returns-clause-kept t c =
    on_ok c.verify_close.result c.verify_close.ensures.kept (λ k. kept_on c.args.state.now c.loop-step.state c.verify_close.new.state c.loop-step.invariant.kept k)

pub verify_block-returns-clause-err : goal.verify_block-returns-clause-err
verify_block-returns-clause-err t c =
    let before = as_views c.args.before.now in
    let g = goal_view c.args.goal.now in
    let close = close_script c.args.block.now.close in
    let end = steps_end c.args.block.now.steps.items c.deref-step-items.result.now close c.loop-step.step-index c.deref-step-items.ensures.value c.loop-step-test.false in
    err_as c.verify_close.result (verdict_at before (script_of c.args.block.now) c.args.state.now g c.args.first_number) (verdict_at before close c.loop-step.state g c.loop-step.number)
    (sym c.loop-step.invariant.same ∙ ap (λ d. verdict_at before d c.loop-step.state g c.loop-step.number) end) c.verify_close.ensures.err

-- ---- steps of one line

pub verify_step-verdict_of-requires : goal.verify_step-verdict_of-requires
verify_step-verdict_of-requires t c = few_step (as_views c.args.before.now) c.args.step.now c.args.state.now c.args.number c.requires.ready

pub verify_step-verdict_of-requires-in-Hence : goal.verify_step-verdict_of-requires-in-Hence
verify_step-verdict_of-requires-in-Hence t c = few_step (as_views c.args.before.now) c.args.step.now c.args.state.now c.args.number c.requires.ready

pub verify_step-verdict_of-requires-in-Make : goal.verify_step-verdict_of-requires-in-Make
verify_step-verdict_of-requires-in-Make t c = few_step (as_views c.args.before.now) c.args.step.now c.args.state.now c.args.number c.requires.ready

pub verify_step-verdict_of-requires-in-Apply : goal.verify_step-verdict_of-requires-in-Apply
verify_step-verdict_of-requires-in-Apply t c = few_step (as_views c.args.before.now) c.args.step.now c.args.state.now c.args.number c.requires.ready

pub verify_step-returns-in_ok-check_cite-in-Cite-clause-ok : goal.verify_step-returns-in_ok-check_cite-in-Cite-clause-ok
verify_step-returns-in_ok-check_cite-in-Cite-clause-ok t c =
    let before = as_views c.args.before.now in
    line_passed before c.args.step.now (Cite c.in-Cite.by) c.args.state.now c.check_cite.new.state c.args.number c.in_ok-check_cite-in-Cite.field-0 c.verdict_of.result (cite_is c.args.step.now c.in-Cite.by c.in-Cite.is) (cite_line c.in-Cite.by)
    (c.in_ok-check_cite-in-Cite.ensures before) c.verdict_of.ensures.ok

pub verify_step-returns-in_ok-check_cite-in-Cite-clause-err : goal.verify_step-returns-in_ok-check_cite-in-Cite-clause-err
verify_step-returns-in_ok-check_cite-in-Cite-clause-err t c =
    let before = as_views c.args.before.now in
    line_rejected before c.args.step.now (Cite c.in-Cite.by) c.args.state.now c.check_cite.new.state c.args.number c.in_ok-check_cite-in-Cite.field-0 c.verdict_of.result (cite_is c.args.step.now c.in-Cite.by c.in-Cite.is)
    (c.in_ok-check_cite-in-Cite.ensures before) c.verdict_of.ensures.err

pub verify_step-check_cite-requires : goal.verify_step-check_cite-requires
verify_step-check_cite-requires t c = cite_parts (as_views c.args.before.now) c.args.step.now c.in-Cite.by c.args.state.now c.args.number c.in-Cite.is c.requires.ready

pub verify_step-check_hence-requires-clause-facts : goal.verify_step-check_hence-requires-clause-facts
verify_step-check_hence-requires-clause-facts t c = formed_step (as_views c.args.before.now) c.args.step.now c.args.state.now c.args.number c.requires.ready

pub verify_step-check_hence-requires-clause-lit : goal.verify_step-check_hence-requires-clause-lit
verify_step-check_hence-requires-clause-lit t c =
    (hence_parts (as_views c.args.before.now) c.args.step.now c.in-Hence.lit c.in-Hence.cert c.args.state.now c.args.number c.in-Hence.is c.requires.ready).0

pub verify_step-check_hence-requires-clause-cert : goal.verify_step-check_hence-requires-clause-cert
verify_step-check_hence-requires-clause-cert t c =
    (hence_parts (as_views c.args.before.now) c.args.step.now c.in-Hence.lit c.in-Hence.cert c.args.state.now c.args.number c.in-Hence.is c.requires.ready).1

pub verify_step-returns-in_ok-check_hence-in-Hence-clause-ok : goal.verify_step-returns-in_ok-check_hence-in-Hence-clause-ok
verify_step-returns-in_ok-check_hence-in-Hence-clause-ok t c =
    let before = as_views c.args.before.now in
    let y = c.in-Hence in
    line_passed before c.args.step.now (Hence y.lit y.cert) c.args.state.now c.check_hence.new.state c.args.number c.in_ok-check_hence-in-Hence.field-0 c.verdict_of-in-Hence.result (hence_is c.args.step.now y.lit y.cert y.is) (hence_line y.lit y.cert)
    (c.in_ok-check_hence-in-Hence.ensures before) c.verdict_of-in-Hence.ensures.ok

pub verify_step-returns-in_ok-check_hence-in-Hence-clause-err : goal.verify_step-returns-in_ok-check_hence-in-Hence-clause-err
verify_step-returns-in_ok-check_hence-in-Hence-clause-err t c =
    let before = as_views c.args.before.now in
    let y = c.in-Hence in
    line_rejected before c.args.step.now (Hence y.lit y.cert) c.args.state.now c.check_hence.new.state c.args.number c.in_ok-check_hence-in-Hence.field-0 c.verdict_of-in-Hence.result (hence_is c.args.step.now y.lit y.cert y.is)
    (c.in_ok-check_hence-in-Hence.ensures before) c.verdict_of-in-Hence.ensures.err

pub verify_step-check_make-requires-clause-facts : goal.verify_step-check_make-requires-clause-facts
verify_step-check_make-requires-clause-facts t c = formed_step (as_views c.args.before.now) c.args.step.now c.args.state.now c.args.number c.requires.ready

pub verify_step-check_make-requires-clause-scope : goal.verify_step-check_make-requires-clause-scope
verify_step-check_make-requires-clause-scope t c = small_step (as_views c.args.before.now) c.args.step.now c.args.state.now c.args.number c.requires.ready

pub verify_step-check_make-requires-clause-certs : goal.verify_step-check_make-requires-clause-certs
verify_step-check_make-requires-clause-certs t c =
    let y = c.in-Make in
    make_parts (as_views c.args.before.now) c.args.step.now y.construction y.names y.certs c.items.result.now c.args.state.now c.args.number y.is c.items.ensures c.requires.ready

pub verify_step-returns-in_ok-check_make-in-Make-clause-ok : goal.verify_step-returns-in_ok-check_make-in-Make-clause-ok
verify_step-returns-in_ok-check_make-in-Make-clause-ok t c =
    let before = as_views c.args.before.now in
    let y = c.in-Make in
    line_passed before c.args.step.now (Make y.construction y.names y.certs) c.args.state.now c.check_make.new.state c.args.number c.in_ok-check_make-in-Make.field-0 c.verdict_of-in-Make.result (make_is c.args.step.now y.construction y.names y.certs y.is) (make_line y.construction y.names y.certs)
    (subst (λ cs. IsChecked before (Make y.construction y.names cs) c.args.state.now c.check_make.new.state c.in_ok-check_make-in-Make.field-0) c.items.ensures (c.in_ok-check_make-in-Make.ensures before y.names)) c.verdict_of-in-Make.ensures.ok

pub verify_step-returns-in_ok-check_make-in-Make-clause-err : goal.verify_step-returns-in_ok-check_make-in-Make-clause-err
verify_step-returns-in_ok-check_make-in-Make-clause-err t c =
    let before = as_views c.args.before.now in
    let y = c.in-Make in
    line_rejected before c.args.step.now (Make y.construction y.names y.certs) c.args.state.now c.check_make.new.state c.args.number c.in_ok-check_make-in-Make.field-0 c.verdict_of-in-Make.result (make_is c.args.step.now y.construction y.names y.certs y.is)
    (subst (λ cs. IsChecked before (Make y.construction y.names cs) c.args.state.now c.check_make.new.state c.in_ok-check_make-in-Make.field-0) c.items.ensures (c.in_ok-check_make-in-Make.ensures before y.names)) c.verdict_of-in-Make.ensures.err

pub verify_step-check_apply-requires-clause-facts : goal.verify_step-check_apply-requires-clause-facts
verify_step-check_apply-requires-clause-facts t c = formed_step (as_views c.args.before.now) c.args.step.now c.args.state.now c.args.number c.requires.ready

pub verify_step-check_apply-requires-clause-scope : goal.verify_step-check_apply-requires-clause-scope
verify_step-check_apply-requires-clause-scope t c = small_step (as_views c.args.before.now) c.args.step.now c.args.state.now c.args.number c.requires.ready

pub verify_step-check_apply-requires-clause-certs : goal.verify_step-check_apply-requires-clause-certs
verify_step-check_apply-requires-clause-certs t c =
    let y = c.in-Apply in
    apply_parts (as_views c.args.before.now) c.args.step.now y.theorem y.args y.names y.certs c.items-in-Apply.result.now c.args.state.now c.args.number y.is c.items-in-Apply.ensures c.requires.ready

pub verify_step-returns-in_ok-check_apply-in-Apply-clause-ok : goal.verify_step-returns-in_ok-check_apply-in-Apply-clause-ok
verify_step-returns-in_ok-check_apply-in-Apply-clause-ok t c =
    let before = as_views c.args.before.now in
    let y = c.in-Apply in
    let x = c.args.state.now in
    line_passed before c.args.step.now (Apply y.theorem y.args y.names y.certs) x c.check_apply.new.state c.args.number c.in_ok-check_apply-in-Apply.field-0 c.verdict_of-in-Apply.result (apply_is c.args.step.now y.theorem y.args y.names y.certs y.is)
    (apply_line y.theorem y.args y.names y.certs)
    (subst (λ os. IsChecked before (Apply y.theorem os y.names y.certs) x c.check_apply.new.state c.in_ok-check_apply-in-Apply.field-0) c.items-args.ensures
    (subst (λ cs. IsChecked before (Apply y.theorem c.items-args.result.now y.names cs) x c.check_apply.new.state c.in_ok-check_apply-in-Apply.field-0) c.items-in-Apply.ensures (c.in_ok-check_apply-in-Apply.ensures y.names))) c.verdict_of-in-Apply.ensures.ok

pub verify_step-returns-in_ok-check_apply-in-Apply-clause-err : goal.verify_step-returns-in_ok-check_apply-in-Apply-clause-err
verify_step-returns-in_ok-check_apply-in-Apply-clause-err t c =
    let before = as_views c.args.before.now in
    let y = c.in-Apply in
    let x = c.args.state.now in
    line_rejected before c.args.step.now (Apply y.theorem y.args y.names y.certs) x c.check_apply.new.state c.args.number c.in_ok-check_apply-in-Apply.field-0 c.verdict_of-in-Apply.result (apply_is c.args.step.now y.theorem y.args y.names y.certs y.is)
    (subst (λ os. IsChecked before (Apply y.theorem os y.names y.certs) x c.check_apply.new.state c.in_ok-check_apply-in-Apply.field-0) c.items-args.ensures
    (subst (λ cs. IsChecked before (Apply y.theorem c.items-args.result.now y.names cs) x c.check_apply.new.state c.in_ok-check_apply-in-Apply.field-0) c.items-in-Apply.ensures (c.in_ok-check_apply-in-Apply.ensures y.names))) c.verdict_of-in-Apply.ensures.err

-- ---- a claim

pub verify_step-verify_claim-requires : goal.verify_step-verify_claim-requires
verify_step-verify_claim-requires t c =
    let y = c.in-Claim in (
      search (rules, the_lemmas),
      (
        ready_as (as_views c.args.before.now) (Claim c.items-in-Claim.result.now (script_of c.deref.result.now)) (step_script c.args.step.now) c.args.state.now c.args.number
            (claim_is c.args.step.now y.shown c.items-in-Claim.result.now y.inner c.deref.result.now y.is c.items-in-Claim.ensures c.deref.ensures) c.requires.ready,
        c.requires.statements,
      ),
    )

pub verify_step-returns-in-Claim-clause-ok : goal.verify_step-returns-in-Claim-clause-ok
verify_step-returns-in-Claim-clause-ok t c =
    let y = c.in-Claim in
    all_passed_as (as_views c.args.before.now) (Claim c.items-in-Claim.result.now (script_of c.deref.result.now)) (step_script c.args.step.now) c.args.state.now c.verify_claim.new.state c.args.number c.verify_claim.result
    (claim_is c.args.step.now y.shown c.items-in-Claim.result.now y.inner c.deref.result.now y.is c.items-in-Claim.ensures c.deref.ensures) c.verify_claim.ensures.ok

pub verify_step-returns-in-Claim-clause-err : goal.verify_step-returns-in-Claim-clause-err
verify_step-returns-in-Claim-clause-err t c =
    let y = c.in-Claim in
    all_rejected_as (as_views c.args.before.now) (Claim c.items-in-Claim.result.now (script_of c.deref.result.now)) (step_script c.args.step.now) c.args.state.now c.args.number c.verify_claim.result
    (claim_is c.args.step.now y.shown c.items-in-Claim.result.now y.inner c.deref.result.now y.is c.items-in-Claim.ensures c.deref.ensures) c.verify_claim.ensures.err

pub verify_claim-returns-then-not-are_over-clause-err : goal.verify_claim-returns-then-not-are_over-clause-err
verify_claim-returns-then-not-are_over-clause-err t c =
    claim_fails (as_views c.args.before.now) c.args.shown.now (script_of c.args.inner.now) c.args.state.now c.args.number (sym c.are_over.ensures ∙ c.if-not-are_over.true)

pub verify_claim-overflow_add-number : goal.verify_claim-overflow_add-number
verify_claim-overflow_add-number t c =
    omega (arith, few_lines (as_views c.args.before.now) (Claim c.args.shown.now (script_of c.args.inner.now)) c.args.state.now c.args.number c.requires.ready)

pub verify_claim-verify_block-requires : goal.verify_claim-verify_block-requires
verify_claim-verify_block-requires t c = (
  search (rules, the_lemmas),
  (claim_ready (as_views c.args.before.now) c.args.shown.now (script_of c.args.inner.now) c.args.state.now c.args.number c.requires.ready, c.requires.statements),
)

pub verify_claim-returns-clause-ok : goal.verify_claim-returns-clause-ok
verify_claim-returns-clause-ok t c =
    claim_done (as_views c.args.before.now) c.args.shown.now (script_of c.args.inner.now) c.args.state.now c.verify_block.new.state c.restore.new.self c.assume_all.new.self c.checkpoint-outer.result c.args.number c.in_ok-next.next
    (sym c.are_over.ensures ∙ c.if-not-are_over.false) c.in_ok-next.ensures.ok c.checkpoint-outer.ensures c.in_ok-next.ensures.kept c.restore.ensures c.in_ok-assume_all.ensures

pub verify_claim-returns-in_err-next-clause-err : goal.verify_claim-returns-in_err-next-clause-err
verify_claim-returns-in_err-next-clause-err t c =
    let p = err_from_is_err_and c.from_residual.result c.from_residual.ensures.1 in
    rw (p.1, p.2)
    (claim_stops (as_views c.args.before.now) c.args.shown.now (script_of c.args.inner.now) c.args.state.now c.args.number c.in_err-next.field-0.0 (sym c.are_over.ensures ∙ c.if-not-are_over.false) c.in_err-next.ensures.err)

-- ---- closes

pub verify_close-verdict_of-requires : goal.verify_close-verdict_of-requires
verify_close-verdict_of-requires t c = few_one (as_views c.args.before.now) (close_script c.args.close.now) c.args.state.now (goal_view c.args.goal.now) c.args.number c.requires.ready

pub verify_close-verdict_of-requires-in-Contradiction : goal.verify_close-verdict_of-requires-in-Contradiction
verify_close-verdict_of-requires-in-Contradiction t c = few_one (as_views c.args.before.now) (close_script c.args.close.now) c.args.state.now (goal_view c.args.goal.now) c.args.number c.requires.ready

pub verify_close-is_qed_certified-requires-clause-facts : goal.verify_close-is_qed_certified-requires-clause-facts
verify_close-is_qed_certified-requires-clause-facts t c = c.requires.ready.facts

pub verify_close-is_qed_certified-requires-clause-shown : goal.verify_close-is_qed_certified-requires-clause-shown
verify_close-is_qed_certified-requires-clause-shown t c = c.requires.ready.shown

pub verify_close-is_qed_certified-requires-clause-certs : goal.verify_close-is_qed_certified-requires-clause-certs
verify_close-is_qed_certified-requires-clause-certs t c =
    let y = c.in-Qed in
    qed_parts (as_views c.args.before.now) c.args.close.now y.objects y.certs c.items.result.now c.args.state.now (goal_view c.args.goal.now) c.args.number y.is c.items.ensures c.requires.ready

pub verify_close-returns-in_ok-is_qed_certified-in-Qed-clause-ok : goal.verify_close-returns-in_ok-is_qed_certified-in-Qed-clause-ok
verify_close-returns-in_ok-is_qed_certified-in-Qed-clause-ok t c =
    let before = as_views c.args.before.now in
    let y = c.in-Qed in
    qed_ok before c.args.close.now y.objects c.items-objects.result.now y.certs c.items.result.now c.args.state.now (goal_view c.args.goal.now) c.args.number c.in_ok-is_qed_certified-in-Qed.field-0 c.verdict_of.result y.is c.items-objects.ensures c.items.ensures
    (c.in_ok-is_qed_certified-in-Qed.ensures before) c.verdict_of.ensures.ok

pub verify_close-returns-in_ok-is_qed_certified-in-Qed-clause-err : goal.verify_close-returns-in_ok-is_qed_certified-in-Qed-clause-err
verify_close-returns-in_ok-is_qed_certified-in-Qed-clause-err t c =
    let before = as_views c.args.before.now in
    let y = c.in-Qed in
    qed_bad before c.args.close.now y.objects c.items-objects.result.now y.certs c.items.result.now c.args.state.now (goal_view c.args.goal.now) c.args.number c.in_ok-is_qed_certified-in-Qed.field-0 c.verdict_of.result y.is c.items-objects.ensures c.items.ensures
    (c.in_ok-is_qed_certified-in-Qed.ensures before) c.verdict_of.ensures.err

pub verify_close-is_contradiction_certified-requires-clause-facts : goal.verify_close-is_contradiction_certified-requires-clause-facts
verify_close-is_contradiction_certified-requires-clause-facts t c = c.requires.ready.facts

pub verify_close-is_contradiction_certified-requires-clause-against : goal.verify_close-is_contradiction_certified-requires-clause-against
verify_close-is_contradiction_certified-requires-clause-against t c =
    contradiction_parts (as_views c.args.before.now) c.args.close.now c.in-Contradiction.against c.args.state.now (goal_view c.args.goal.now) c.args.number c.in-Contradiction.is c.requires.ready

pub verify_close-returns-in_ok-is_contradiction_certified-in-Contradiction-clause-ok : goal.verify_close-returns-in_ok-is_contradiction_certified-in-Contradiction-clause-ok
verify_close-returns-in_ok-is_contradiction_certified-in-Contradiction-clause-ok t c =
    let before = as_views c.args.before.now in
    contradiction_ok before c.args.close.now c.in-Contradiction.against c.args.state.now (goal_view c.args.goal.now) c.args.number c.in_ok-is_contradiction_certified-in-Contradiction.field-0 c.verdict_of-in-Contradiction.result c.in-Contradiction.is
    (c.in_ok-is_contradiction_certified-in-Contradiction.ensures before (goal_view c.args.goal.now)) c.verdict_of-in-Contradiction.ensures.ok

pub verify_close-returns-in_ok-is_contradiction_certified-in-Contradiction-clause-err : goal.verify_close-returns-in_ok-is_contradiction_certified-in-Contradiction-clause-err
verify_close-returns-in_ok-is_contradiction_certified-in-Contradiction-clause-err t c =
    let before = as_views c.args.before.now in
    contradiction_bad before c.args.close.now c.in-Contradiction.against c.args.state.now (goal_view c.args.goal.now) c.args.number c.in_ok-is_contradiction_certified-in-Contradiction.field-0 c.verdict_of-in-Contradiction.result c.in-Contradiction.is
    (c.in_ok-is_contradiction_certified-in-Contradiction.ensures before (goal_view c.args.goal.now)) c.verdict_of-in-Contradiction.ensures.err

-- ---- a superposition

pub verify_step-verify_superposed-requires : goal.verify_step-verify_superposed-requires
verify_step-verify_superposed-requires t c =
    let y = c.in-Superposed in
    let ready =
    ready_as (as_views c.args.before.now) (Superposed y.superposition y.names c.items-in-Superposed.result.now c.items-in-Superposed-2.result.now (script_of c.deref-in-Superposed.result.now)) (step_script c.args.step.now) c.args.state.now c.args.number
    (superposed_is c.args.step.now y.superposition y.names y.shown c.items-in-Superposed.result.now y.certs c.items-in-Superposed-2.result.now y.inner c.deref-in-Superposed.result.now y.is c.items-in-Superposed.ensures c.items-in-Superposed-2.ensures
    c.deref-in-Superposed.ensures) c.requires.ready
    in (search (rules, the_lemmas), ((y.names, ready), c.requires.statements))

pub verify_step-returns-in-Superposed-clause-ok : goal.verify_step-returns-in-Superposed-clause-ok
verify_step-returns-in-Superposed-clause-ok t c =
    let y = c.in-Superposed in
    let before = as_views c.args.before.now in
    let whole = λ (names : List (List ℕ)). Superposed y.superposition names c.items-in-Superposed.result.now c.items-in-Superposed-2.result.now (script_of c.deref-in-Superposed.result.now) in
    all_passed_as before (whole y.names) (step_script c.args.step.now) c.args.state.now c.verify_superposed.new.state c.args.number c.verify_superposed.result
    (superposed_is c.args.step.now y.superposition y.names y.shown c.items-in-Superposed.result.now y.certs c.items-in-Superposed-2.result.now y.inner c.deref-in-Superposed.result.now y.is c.items-in-Superposed.ensures c.items-in-Superposed-2.ensures
    c.deref-in-Superposed.ensures)
    (ok_with c.verify_superposed.result (λ m names. AreVerified before (whole names) c.args.state.now c.args.number c.verify_superposed.new.state m) y.names c.verify_superposed.ensures.ok)

pub verify_step-returns-in-Superposed-clause-err : goal.verify_step-returns-in-Superposed-clause-err
verify_step-returns-in-Superposed-clause-err t c =
    let y = c.in-Superposed in
    let before = as_views c.args.before.now in
    let whole = λ (names : List (List ℕ)). Superposed y.superposition names c.items-in-Superposed.result.now c.items-in-Superposed-2.result.now (script_of c.deref-in-Superposed.result.now) in
    all_rejected_as before (whole y.names) (step_script c.args.step.now) c.args.state.now c.args.number c.verify_superposed.result
    (superposed_is c.args.step.now y.superposition y.names y.shown c.items-in-Superposed.result.now y.certs c.items-in-Superposed-2.result.now y.inner c.deref-in-Superposed.result.now y.is c.items-in-Superposed.ensures c.items-in-Superposed-2.ensures
    c.deref-in-Superposed.ensures)
    (err_with c.verify_superposed.result (λ e names. RejectsInSteps before (whole names) c.args.state.now c.args.number e) y.names c.verify_superposed.ensures.err)

pub verify_superposed-check_superpose-requires-clause-facts : goal.verify_superposed-check_superpose-requires-clause-facts
verify_superposed-check_superpose-requires-clause-facts t c =
    let h = c.args.parts.now in
    formed_lines (as_views c.args.before.now) (Superposed h.superposition.now c.requires.ready.0 h.shown.now h.certs.now (script_of c.args.inner.now)) c.args.state.now c.args.number c.requires.ready.1

pub verify_superposed-check_superpose-requires-clause-scope : goal.verify_superposed-check_superpose-requires-clause-scope
verify_superposed-check_superpose-requires-clause-scope t c =
    let h = c.args.parts.now in
    small_lines (as_views c.args.before.now) (Superposed h.superposition.now c.requires.ready.0 h.shown.now h.certs.now (script_of c.args.inner.now)) c.args.state.now c.args.number c.requires.ready.1

pub verify_superposed-check_superpose-requires-clause-certs : goal.verify_superposed-check_superpose-requires-clause-certs
verify_superposed-check_superpose-requires-clause-certs t c =
    let h = c.args.parts.now in
    superposed_parts (as_views c.args.before.now) h.superposition.now c.requires.ready.0 h.shown.now h.certs.now (script_of c.args.inner.now) c.args.state.now c.args.number c.requires.ready.1

pub verify_superposed-returns-then-not-branch-clause-err : goal.verify_superposed-returns-then-not-branch-clause-err
verify_superposed-returns-then-not-branch-clause-err t c =
    let before = as_views c.args.before.now in
    let h = c.args.parts.now in
    superposed_fails before h.superposition.now h.shown.now h.certs.now (script_of c.args.inner.now) c.args.state.now c.args.number c.in_ok-check_superpose.field-0 c.if-not-branch.true (c.in_ok-check_superpose.ensures.test before)

pub verify_superposed-overflow_add-number : goal.verify_superposed-overflow_add-number
verify_superposed-overflow_add-number t c =
    let h = c.args.parts.now in
    omega (arith, few_lines (as_views c.args.before.now) (Superposed h.superposition.now c.requires.ready.0 h.shown.now h.certs.now (script_of c.args.inner.now)) c.args.state.now c.args.number c.requires.ready.1)

pub verify_superposed-verify_block-requires : goal.verify_superposed-verify_block-requires
verify_superposed-verify_block-requires t c =
    let before = as_views c.args.before.now in
    let h = c.args.parts.now in (
      search (rules, the_lemmas),
      (
        superposed_ready before h.superposition.now c.requires.ready.0 h.shown.now h.certs.now (script_of c.args.inner.now) c.args.state.now c.check_superpose.new.state c.args.number (c.in_ok-check_superpose.ensures.after c.if-not-branch.false)
            (tested_fits before h.superposition.now h.shown.now h.certs.now c.args.state.now c.in_ok-check_superpose.field-0 c.if-not-branch.false (c.in_ok-check_superpose.ensures.test before)) c.requires.ready.1,
        c.requires.statements,
      ),
    )

pub verify_superposed-returns-clause-ok : goal.verify_superposed-returns-clause-ok
verify_superposed-returns-clause-ok t c =
    let before = as_views c.args.before.now in
    let h = c.args.parts.now in
    superposed_done before h.superposition.now h.shown.now h.certs.now (script_of c.args.inner.now) c.args.state.now c.check_superpose.new.state c.verify_block.new.state c.restore.new.self c.assume_all.new.self c.checkpoint-outer.result c.args.number c.in_ok-next.next
    c.in_ok-check_superpose.field-0 (c.in_ok-check_superpose.ensures.after c.if-not-branch.false) c.if-not-branch.false (c.in_ok-check_superpose.ensures.test before) c.in_ok-next.ensures.ok c.checkpoint-outer.ensures c.in_ok-next.ensures.kept c.restore.ensures
    c.in_ok-assume_all.ensures

pub verify_superposed-returns-in_err-next-clause-err : goal.verify_superposed-returns-in_err-next-clause-err
verify_superposed-returns-in_err-next-clause-err t c =
    let before = as_views c.args.before.now in
    let h = c.args.parts.now in
    let p = err_from_is_err_and c.from_residual-in_err-next.result c.from_residual-in_err-next.ensures.1 in
    rw (p.1, p.2)
    (superposed_stops before h.superposition.now h.shown.now h.certs.now (script_of c.args.inner.now) c.args.state.now c.check_superpose.new.state c.args.number c.in_ok-check_superpose.field-0 c.in_err-next.field-0.0 (c.in_ok-check_superpose.ensures.after c.if-not-branch.false)
    c.if-not-branch.false (c.in_ok-check_superpose.ensures.test before) c.in_err-next.ensures.err)

-- ---- a split

pub verify_close-returns-then-not-in_scope-clause-err : goal.verify_close-returns-then-not-in_scope-clause-err
verify_close-returns-then-not-in_scope-clause-err t c =
    let y = c.in-Cases in
    split_fails (as_views c.args.before.now) c.args.close.now y.lit y.first y.second c.args.state.now (goal_view c.args.goal.now) c.args.number y.is (sym c.in_scope.ensures ∙ c.if-not-in_scope.true)

pub verify_close-overflow_add-number : goal.verify_close-overflow_add-number
verify_close-overflow_add-number t c = omega (arith, few_one (as_views c.args.before.now) (close_script c.args.close.now) c.args.state.now (goal_view c.args.goal.now) c.args.number c.requires.ready)

pub verify_close-verify_block-requires : goal.verify_close-verify_block-requires
verify_close-verify_block-requires t c =
    let y = c.in-Cases in (
      search (rules, the_lemmas),
      (
        first_ready (as_views c.args.before.now) c.args.close.now y.lit y.first y.second c.deref.result.now c.args.state.now c.assume.new.self (goal_view c.args.goal.now) c.args.number y.is c.deref.ensures c.in_ok-assume-in-Cases.ensures c.requires.ready,
        c.requires.statements,
      ),
    )

pub verify_close-returns-in_err-next-in-Cases-clause-err : goal.verify_close-returns-in_err-next-in-Cases-clause-err
verify_close-returns-in_err-next-in-Cases-clause-err t c =
    let y = c.in-Cases in
    let p = err_from_is_err_and c.from_residual-in_err-next-in-Cases.result c.from_residual-in_err-next-in-Cases.ensures.1 in
    rw (p.1, p.2)
    (first_stops (as_views c.args.before.now) c.args.close.now y.lit y.first y.second c.deref.result.now c.args.state.now c.assume.new.self (goal_view c.args.goal.now) c.args.number c.in_err-next-in-Cases.field-0.0 y.is c.deref.ensures c.in_ok-assume-in-Cases.ensures
    (sym c.in_scope.ensures ∙ c.if-not-in_scope.false) c.in_err-next-in-Cases.ensures.err)

pub verify_close-verify_block-requires-in-Cases : goal.verify_close-verify_block-requires-in-Cases
verify_close-verify_block-requires-in-Cases t c =
    let y = c.in-Cases in
    let before = as_views c.args.before.now in
    let g = goal_view c.args.goal.now in
    let x = c.args.state.now in
    let b = after_first before y.lit y.first c.deref.result.now x c.assume.new.self c.verify_block.new.state c.restore.new.self c.assume_not.new.self c.checkpoint-outer.result g c.args.number c.in_ok-next-in-Cases.next c.deref.ensures c.in_ok-assume-in-Cases.ensures
    c.in_ok-next-in-Cases.ensures.ok c.checkpoint-outer.ensures c.in_ok-next-in-Cases.ensures.kept c.restore.ensures c.in_ok-assume_not-in-Cases.ensures in (
      search (rules, the_lemmas),
      (second_ready before c.args.close.now y.lit y.first y.second c.deref-in-Cases.result.now x c.assume_not.new.self g c.args.number c.in_ok-next-in-Cases.next y.is c.deref-in-Cases.ensures b c.requires.ready, c.requires.statements),
    )

pub verify_close-returns-in_ok-assume_not-in-Cases-clause-ok : goal.verify_close-returns-in_ok-assume_not-in-Cases-clause-ok
verify_close-returns-in_ok-assume_not-in-Cases-clause-ok t c =
    let y = c.in-Cases in
    let before = as_views c.args.before.now in
    let g = goal_view c.args.goal.now in
    let x = c.args.state.now in
    let b = after_first before y.lit y.first c.deref.result.now x c.assume.new.self c.verify_block.new.state c.restore.new.self c.assume_not.new.self c.checkpoint-outer.result g c.args.number c.in_ok-next-in-Cases.next c.deref.ensures c.in_ok-assume-in-Cases.ensures
    c.in_ok-next-in-Cases.ensures.ok c.checkpoint-outer.ensures c.in_ok-next-in-Cases.ensures.kept c.restore.ensures c.in_ok-assume_not-in-Cases.ensures in
    ok_as c.verify_block-in-Cases.result (verdict_at before (close_script c.args.close.now) x g c.args.number) (verdict_at before (script_of c.deref-in-Cases.result.now) c.assume_not.new.self g c.in_ok-next-in-Cases.next)
    (split_same before c.args.close.now y.lit y.first y.second c.deref-in-Cases.result.now x c.assume_not.new.self g c.args.number c.in_ok-next-in-Cases.next y.is c.deref-in-Cases.ensures (sym c.in_scope.ensures ∙ c.if-not-in_scope.false) b) c.verify_block-in-Cases.ensures.ok

pub verify_close-returns-in_ok-assume_not-in-Cases-clause-kept : goal.verify_close-returns-in_ok-assume_not-in-Cases-clause-kept
verify_close-returns-in_ok-assume_not-in-Cases-clause-kept t c =
    let y = c.in-Cases in
    let before = as_views c.args.before.now in
    let g = goal_view c.args.goal.now in
    let x = c.args.state.now in
    let b = after_first before y.lit y.first c.deref.result.now x c.assume.new.self c.verify_block.new.state c.restore.new.self c.assume_not.new.self c.checkpoint-outer.result g c.args.number c.in_ok-next-in-Cases.next c.deref.ensures c.in_ok-assume-in-Cases.ensures
    c.in_ok-next-in-Cases.ensures.ok c.checkpoint-outer.ensures c.in_ok-next-in-Cases.ensures.kept c.restore.ensures c.in_ok-assume_not-in-Cases.ensures in
    on_ok c.verify_block-in-Cases.result c.verify_block-in-Cases.ensures.kept (λ k. kept_after_first before y.lit (script_of y.first.value) x c.assume_not.new.self c.verify_block-in-Cases.new.state g c.args.number c.in_ok-next-in-Cases.next b k)

pub verify_close-returns-in_ok-assume_not-in-Cases-clause-err : goal.verify_close-returns-in_ok-assume_not-in-Cases-clause-err
verify_close-returns-in_ok-assume_not-in-Cases-clause-err t c =
    let y = c.in-Cases in
    let before = as_views c.args.before.now in
    let g = goal_view c.args.goal.now in
    let x = c.args.state.now in
    let b = after_first before y.lit y.first c.deref.result.now x c.assume.new.self c.verify_block.new.state c.restore.new.self c.assume_not.new.self c.checkpoint-outer.result g c.args.number c.in_ok-next-in-Cases.next c.deref.ensures c.in_ok-assume-in-Cases.ensures
    c.in_ok-next-in-Cases.ensures.ok c.checkpoint-outer.ensures c.in_ok-next-in-Cases.ensures.kept c.restore.ensures c.in_ok-assume_not-in-Cases.ensures in
    err_as c.verify_block-in-Cases.result (verdict_at before (close_script c.args.close.now) x g c.args.number) (verdict_at before (script_of c.deref-in-Cases.result.now) c.assume_not.new.self g c.in_ok-next-in-Cases.next)
    (split_same before c.args.close.now y.lit y.first y.second c.deref-in-Cases.result.now x c.assume_not.new.self g c.args.number c.in_ok-next-in-Cases.next y.is c.deref-in-Cases.ensures (sym c.in_scope.ensures ∙ c.if-not-in_scope.false) b) c.verify_block-in-Cases.ensures.err
