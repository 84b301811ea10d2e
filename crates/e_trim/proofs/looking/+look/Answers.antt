use Rattle.std.proofs.Common.{arith, ◌≡◌, ◌<◌, ◌^◌, ◌++◌, [], ◌∷◌, length, true, sym, ap, ◌∙◌, subst}
use Rattle.std.specs.List.{list_all}
use Rattle.e_literal.specs.declared.object.Sort.{Sort}
use Rattle.e_literal.specs.Literal.{negation}
use Rattle.e_literal.specs.Facts.{with_fact, with_facts}
use Rattle.e_construct.specs.Superposing as superposing
use Rattle.e_deriv.specs.Goal.{goal_of, goal_view}
use Rattle.e_deriv.specs.Fitting.{is_small, is_small_statement}
use Rattle.e_trim.specs.declared.step_state.StepState.{StepState}
use Rattle.e_trim.proofs.kept_scripts.StepParts.{and_so}
use Rattle.e_trim.proofs.walks.StepForms.{ready_small, ready_fits, claim_ready, superposed_ready, cases_ready}
use Rattle.e_literal.specs.Scopes.{with_sorts}
use Rattle.e_theorem.specs.Statements.{as_views}
use Rattle.e_deriv.specs.Script.{close_script, script_of, steps_script, size}
use Rattle.e_trim.specs.Looked.{Wants, both}
use Rattle.e_trim.specs.Trimmed.{wants_outside, wants}
use Rattle.e_trim.specs.inner.StepState.{IsReady, IsReadyToTrim}
use Rattle.e_trim.specs.inner.Flags.{flags_of}
use Rattle.e_trim.proofs.walks.FirstSteps.{ok_map, on_ok, later_steps, whole_is}
use Rattle.e_trim.proofs.kept_scripts.StepSizes.{rest_falls, step_falls, claim_falls, superposed_falls, first_falls, second_falls}
use Rattle.e_trim.proofs.walks.StepLooking.{look_fits, look_small, look_step_ready, look_rest, look_enough, look_back_is, later_keeps, wanted_whole, flags_whole}
use Rattle.e_trim.proofs.walks.BlockLooking.{block_enough, block_back, block_ready, block_wants, plain_wants, plain_flags, claim_inside, superposed_inside, inside_wants, inside_flags, close_wanted, close_flags, cases_wanted, cases_flags, close_fits, two_more, few_copies, plain_of, no_blocks}
use Rattle.e_trim.proofs.looking.+look.Goals as goal

-- ---- several steps

pub look-pass-requires-clause-small : goal.look-pass-requires-clause-small
look-pass-requires-clause-small t c = look_small (as_views c.args.before.now) c.args.steps.now c.step-item.result c.args.state.now (goal_view c.args.goal.now) (close_script c.args.close.now) (record { some = c.in-len1-up.len_at_least; first = c.step-item.is; ready = c.requires.ready })

pub look-pass-requires-clause-fits : goal.look-pass-requires-clause-fits
look-pass-requires-clause-fits t c = look_fits (as_views c.args.before.now) c.args.steps.now c.step-item.result c.args.state.now (goal_view c.args.goal.now) (close_script c.args.close.now) (record { some = c.in-len1-up.len_at_least; first = c.step-item.is; ready = c.requires.ready })

pub look-look-requires : goal.look-look-requires
look-look-requires t c = (
  omega (arith, c.decreases, rest_falls c.step-item.result (steps_script (later_steps c.args.steps.now) (close_script c.args.close.now)) (steps_script c.args.steps.now (close_script c.args.close.now)) (whole_is c.args.steps.now c.step-item.result (close_script c.args.close.now) c.in-len1-up.len_at_least c.step-item.is)),
  (look_rest (as_views c.args.before.now) c.args.steps.now c.step-item.result c.args.state.now c.pass.new.state (goal_view c.args.goal.now) (close_script c.args.close.now) (record { some = c.in-len1-up.len_at_least; first = c.step-item.is; ready = c.requires.ready }) c.in_ok-pass-in-len1-up.ensures, c.requires.statements),
)

pub look-restore-requires : goal.look-restore-requires
look-restore-requires t c = look_enough (as_views c.args.before.now) c.step-item.result c.args.state.now c.pass.new.state c.look.new.state c.checkpoint-outer.result c.in_ok-pass-in-len1-up.ensures c.in_ok-wanted-in-len1-up.ensures.kept c.checkpoint-outer.ensures

pub look-look_back-requires : goal.look-look_back-requires
look-look_back-requires t c = (
  omega (arith, c.decreases, step_falls c.step-item.result (steps_script (later_steps c.args.steps.now) (close_script c.args.close.now)) (steps_script c.args.steps.now (close_script c.args.close.now)) (whole_is c.args.steps.now c.step-item.result (close_script c.args.close.now) c.in-len1-up.len_at_least c.step-item.is)),
  (subst (IsReadyToTrim (as_views c.args.before.now) c.step-item.result) (sym (look_back_is (as_views c.args.before.now) c.step-item.result c.args.state.now c.pass.new.state c.look.new.state c.restore.new.self c.checkpoint-outer.result c.in_ok-pass-in-len1-up.ensures c.in_ok-wanted-in-len1-up.ensures.kept c.checkpoint-outer.ensures c.restore.ensures)) (look_step_ready (as_views c.args.before.now) c.args.steps.now c.step-item.result c.args.state.now (goal_view c.args.goal.now) (close_script c.args.close.now) (record { some = c.in-len1-up.len_at_least; first = c.step-item.is; ready = c.requires.ready })), c.requires.statements),
)

pub look-returns-in-Ok-clause-wanted : goal.look-returns-in-Ok-clause-wanted
look-returns-in-Ok-clause-wanted t c =
    wanted_whole (as_views c.args.before.now) c.args.steps.now c.step-item.result c.args.state.now c.pass.new.state c.restore.new.self (goal_view c.args.goal.now) (close_script c.args.close.now) c.in_ok-wanted-in-len1-up.wanted c.look_back.new.out (record { some = c.in-len1-up.len_at_least; first = c.step-item.is; ready = c.requires.ready }) c.in_ok-pass-in-len1-up.ensures (look_back_is (as_views c.args.before.now) c.step-item.result c.args.state.now c.pass.new.state c.look.new.state c.restore.new.self c.checkpoint-outer.result c.in_ok-pass-in-len1-up.ensures c.in_ok-wanted-in-len1-up.ensures.kept c.checkpoint-outer.ensures c.restore.ensures) c.in_ok-wanted-in-len1-up.ensures.wanted c.in-Ok.ensures.wanted

pub look-returns-in-Ok-clause-flags : goal.look-returns-in-Ok-clause-flags
look-returns-in-Ok-clause-flags t c =
    flags_whole (as_views c.args.before.now) c.args.steps.now c.step-item.result c.args.state.now c.pass.new.state c.restore.new.self (goal_view c.args.goal.now) (close_script c.args.close.now) c.in_ok-wanted-in-len1-up.wanted c.args.flags.now.items c.look.new.flags.items c.look_back.new.flags.items (record { some = c.in-len1-up.len_at_least; first = c.step-item.is; ready = c.requires.ready }) c.in_ok-pass-in-len1-up.ensures (look_back_is (as_views c.args.before.now) c.step-item.result c.args.state.now c.pass.new.state c.look.new.state c.restore.new.self c.checkpoint-outer.result c.in_ok-pass-in-len1-up.ensures c.in_ok-wanted-in-len1-up.ensures.kept c.checkpoint-outer.ensures c.restore.ensures) c.in_ok-wanted-in-len1-up.ensures.wanted c.in_ok-wanted-in-len1-up.ensures.flags
    c.in-Ok.ensures.flags

pub look-returns-in-Ok-clause-kept : goal.look-returns-in-Ok-clause-kept
look-returns-in-Ok-clause-kept t c = later_keeps c.args.state.now c.restore.new.self c.look_back.new.state (look_back_is (as_views c.args.before.now) c.step-item.result c.args.state.now c.pass.new.state c.look.new.state c.restore.new.self c.checkpoint-outer.result c.in_ok-pass-in-len1-up.ensures c.in_ok-wanted-in-len1-up.ensures.kept c.checkpoint-outer.ensures c.restore.ensures) c.in-Ok.ensures.kept

-- ---- a block

pub look_inside-look-requires : goal.look_inside-look-requires
look_inside-look-requires t c = (
  (let same = ap size (ap (λ xs. steps_script xs (close_script c.args.block.now.close)) c.deref.ensures.value) in omega (arith, c.decreases, same)),
  (subst (λ d. IsReady (as_views c.args.before.now) d c.extend.new.self.scope c.extend.new.self.facts (goal_view c.args.goal.now)) (sym (ap (λ xs. steps_script xs (close_script c.args.block.now.close)) c.deref.ensures.value)) (block_ready (as_views c.args.before.now) (script_of c.args.block.now) (goal_view c.args.goal.now) c.args.sorts.now c.args.lits.now c.args.state.now c.extend.new.self c.in_ok-extend.ensures c.requires.ready), c.requires.statements),
)

pub look_inside-restore-requires : goal.look_inside-restore-requires
look_inside-restore-requires t c = block_enough c.args.sorts.now c.args.lits.now c.args.state.now c.extend.new.self c.look.new.state c.checkpoint-outer.result c.in_ok-extend.ensures c.in_ok-inside.ensures.kept c.checkpoint-outer.ensures

pub look_inside-returns-clause-wanted : goal.look_inside-returns-clause-wanted
look_inside-returns-clause-wanted t c =
    ok_map (λ (w : Wants). w ≡ wants_outside c.restore.new.self.scope c.restore.new.self.facts c.in_ok-inside.inside) (λ (w : Wants). w ≡ wants_outside c.args.state.now.scope c.args.state.now.facts (wants (as_views c.args.before.now) (script_of c.args.block.now) (with_sorts c.args.state.now.scope c.args.sorts.now) (with_facts c.args.state.now.facts c.args.lits.now) (goal_view c.args.goal.now))) c.outside.result
    (λ w h. block_wants (as_views c.args.before.now) (script_of c.args.block.now) (goal_view c.args.goal.now) c.args.sorts.now c.args.lits.now c.args.state.now c.extend.new.self c.restore.new.self c.in_ok-inside.inside w c.in_ok-extend.ensures (block_back c.args.sorts.now c.args.lits.now c.args.state.now c.extend.new.self c.look.new.state c.restore.new.self c.checkpoint-outer.result c.in_ok-extend.ensures c.in_ok-inside.ensures.kept c.checkpoint-outer.ensures c.restore.ensures) (c.in_ok-inside.ensures.wanted ∙ ap (λ d. wants (as_views c.args.before.now) d c.extend.new.self.scope c.extend.new.self.facts (goal_view c.args.goal.now)) (ap (λ xs. steps_script xs (close_script c.args.block.now.close)) c.deref.ensures.value)) h) c.outside.ensures

pub look_inside-returns-clause-same : goal.look_inside-returns-clause-same
look_inside-returns-clause-same t c = on_ok c.outside.result (block_back c.args.sorts.now c.args.lits.now c.args.state.now c.extend.new.self c.look.new.state c.restore.new.self c.checkpoint-outer.result c.in_ok-extend.ensures c.in_ok-inside.ensures.kept c.checkpoint-outer.ensures c.restore.ensures)

-- ---- back at a step

pub look_back-is_kept-requires-clause-small : goal.look_back-is_kept-requires-clause-small
look_back-is_kept-requires-clause-small t c = ready_small (as_views c.args.before.now) c.args.step.now c.requires.ready.rest c.args.state.now c.requires.ready.goal c.requires.ready.ready

pub look_back-is_kept-requires-clause-fits : goal.look_back-is_kept-requires-clause-fits
look_back-is_kept-requires-clause-fits t c = ready_fits (as_views c.args.before.now) c.args.step.now c.requires.ready.rest c.args.state.now c.requires.ready.goal c.requires.ready.ready

-- ---- a kept step

pub look_at_step-look_step-requires-clause-small : goal.look_at_step-look_step-requires-clause-small
look_at_step-look_step-requires-clause-small t c = ready_small (as_views c.args.before.now) c.args.step.now c.requires.ready.rest c.args.state.now c.requires.ready.goal c.requires.ready.ready

pub look_at_step-look_step-requires-clause-fits : goal.look_at_step-look_step-requires-clause-fits
look_at_step-look_step-requires-clause-fits t c = ready_fits (as_views c.args.before.now) c.args.step.now c.requires.ready.rest c.args.state.now c.requires.ready.goal c.requires.ready.ready

pub look_at_step-look_inside-requires : goal.look_at_step-look_inside-requires
look_at_step-look_inside-requires t c = (
  (let n = claim_falls c.args.step.now c.in-Claim.shown c.in-Claim.inner c.deref.result.now c.in-Claim.is c.deref.ensures in omega (arith, c.decreases, n)),
  (
    ready_small (as_views c.args.before.now) c.args.step.now c.requires.ready.rest c.args.state.now c.requires.ready.goal c.requires.ready.ready,
    (
      omega arith,
      (
        subst (λ ls. IsReady (as_views c.args.before.now) (script_of c.deref.result.now) c.args.state.now.scope c.args.state.now.facts (goal_of ls)) (sym c.items.ensures)
            (subst (λ b. IsReady (as_views c.args.before.now) (script_of b) c.args.state.now.scope c.args.state.now.facts (goal_of c.in-Claim.shown)) (sym c.deref.ensures) (claim_ready (as_views c.args.before.now) c.in-Claim.shown c.in-Claim.inner c.args.state.now (subst (λ st. IsReadyToTrim (as_views c.args.before.now) st c.args.state.now) c.in-Claim.is c.requires.ready))),
        c.requires.statements,
      ),
    ),
  ),
)

pub look_at_step-gives-requires : goal.look_at_step-gives-requires
look_at_step-gives-requires t c = two_more c.args.state.now.scope (ready_small (as_views c.args.before.now) c.args.step.now c.requires.ready.rest c.args.state.now c.requires.ready.goal c.requires.ready.ready)

pub look_at_step-returns-in_ok-inside-in-Claim-clause-wanted : goal.look_at_step-returns-in_ok-inside-in-Claim-clause-wanted
look_at_step-returns-in_ok-inside-in-Claim-clause-wanted t c =
    let inside = c.in_ok-inside-in-Claim.ensures.wanted ∙ ap (λ b. wants_outside c.args.state.now.scope c.args.state.now.facts (wants (as_views c.args.before.now) (script_of b) c.args.state.now.scope c.args.state.now.facts (goal_of c.items.result.now))) c.deref.ensures
    ∙ ap (λ ls. wants_outside c.args.state.now.scope c.args.state.now.facts (wants (as_views c.args.before.now) (script_of c.in-Claim.inner.value) c.args.state.now.scope c.args.state.now.facts (goal_of ls))) c.items.ensures in
    and_so c.append.result
    (λ h. inside_wants (as_views c.args.before.now) c.args.step.now c.args.state.now c.args.out.now c.look_step.new.out c.in_ok-inside-in-Claim.inside c.append.new.self c.in_ok-look_step.ensures (λ rest. (claim_inside (as_views c.args.before.now) c.args.step.now c.in-Claim.shown c.in-Claim.inner c.args.state.now rest c.in-Claim.is).0 ∙ sym inside) h) c.append.ensures

pub look_at_step-returns-in_ok-inside-in-Claim-clause-flags : goal.look_at_step-returns-in_ok-inside-in-Claim-clause-flags
look_at_step-returns-in_ok-inside-in-Claim-clause-flags t c =
    let inside = c.in_ok-inside-in-Claim.ensures.flags ∙ ap (λ b. c.args.flags.now.items ++ flags_of (as_views c.args.before.now) (script_of b) c.args.state.now.scope c.args.state.now.facts (goal_of c.items.result.now)) c.deref.ensures
    ∙ ap (λ ls. c.args.flags.now.items ++ flags_of (as_views c.args.before.now) (script_of c.in-Claim.inner.value) c.args.state.now.scope c.args.state.now.facts (goal_of ls)) c.items.ensures in
    on_ok c.append.result
    (inside_flags (as_views c.args.before.now) c.args.step.now c.args.state.now c.args.flags.now.items (flags_of (as_views c.args.before.now) (script_of c.in-Claim.inner.value) c.args.state.now.scope c.args.state.now.facts (goal_of c.in-Claim.shown)) c.look_inside.new.flags.items (λ rest. (claim_inside (as_views c.args.before.now) c.args.step.now c.in-Claim.shown c.in-Claim.inner c.args.state.now rest c.in-Claim.is).1) inside)

pub look_at_step-look_inside-inside-requires : goal.look_at_step-look_inside-inside-requires
look_at_step-look_inside-inside-requires t c = (
  (let n = superposed_falls c.args.step.now c.in-Superposed.superposition c.in-Superposed.names c.in-Superposed.shown c.in-Superposed.certs c.in-Superposed.inner c.deref-in-Superposed.result.now c.in-Superposed.is c.deref-in-Superposed.ensures in omega (arith, c.decreases, n)),
  (
    ready_small (as_views c.args.before.now) c.args.step.now c.requires.ready.rest c.args.state.now c.requires.ready.goal c.requires.ready.ready,
    (
      few_copies c.made-made.result.now c.made-made.ensures,
      (
        subst (λ xs. IsReady (as_views c.args.before.now) (script_of c.deref-in-Superposed.result.now) (with_sorts c.args.state.now.scope xs) (with_facts c.args.state.now.facts c.deref-in-Superposed-2.result.now) (goal_of c.items-in-Superposed.result.now)) (sym c.made-made.ensures)
            (subst (λ fs. IsReady (as_views c.args.before.now) (script_of c.deref-in-Superposed.result.now) (with_sorts c.args.state.now.scope superposing.sorts_copied) (with_facts c.args.state.now.facts fs) (goal_of c.items-in-Superposed.result.now)) (sym (c.deref-in-Superposed-2.ensures.value ∙ c.in_ok-given-in-Superposed.ensures))
            (subst (λ ls. IsReady (as_views c.args.before.now) (script_of c.deref-in-Superposed.result.now) (with_sorts c.args.state.now.scope superposing.sorts_copied) (with_facts c.args.state.now.facts (superposing.gives_of_superposition c.in-Superposed.superposition c.args.state.now.scope)) (goal_of ls)) (sym c.items-in-Superposed.ensures)
            (subst (λ b. IsReady (as_views c.args.before.now) (script_of b) (with_sorts c.args.state.now.scope superposing.sorts_copied) (with_facts c.args.state.now.facts (superposing.gives_of_superposition c.in-Superposed.superposition c.args.state.now.scope)) (goal_of c.in-Superposed.shown)) (sym c.deref-in-Superposed.ensures)
            (superposed_ready (as_views c.args.before.now) c.in-Superposed.superposition c.in-Superposed.names c.in-Superposed.shown c.in-Superposed.certs c.in-Superposed.inner c.args.state.now (subst (λ st. IsReadyToTrim (as_views c.args.before.now) st c.args.state.now) c.in-Superposed.is c.requires.ready))))),
        c.requires.statements,
      ),
    ),
  ),
)

pub look_at_step-returns-in_ok-inside-in-Superposed-clause-wanted : goal.look_at_step-returns-in_ok-inside-in-Superposed-clause-wanted
look_at_step-returns-in_ok-inside-in-Superposed-clause-wanted t c =
    let inside = c.in_ok-inside-in-Superposed.ensures.wanted ∙ ap (λ b. wants_outside c.args.state.now.scope c.args.state.now.facts (wants (as_views c.args.before.now) (script_of b) (with_sorts c.args.state.now.scope c.made-made.result.now) (with_facts c.args.state.now.facts c.deref-in-Superposed-2.result.now) (goal_of c.items-in-Superposed.result.now))) c.deref-in-Superposed.ensures
    ∙ ap (λ xs. wants_outside c.args.state.now.scope c.args.state.now.facts (wants (as_views c.args.before.now) (script_of c.in-Superposed.inner.value) (with_sorts c.args.state.now.scope xs) (with_facts c.args.state.now.facts c.deref-in-Superposed-2.result.now) (goal_of c.items-in-Superposed.result.now))) c.made-made.ensures
    ∙ ap (λ fs. wants_outside c.args.state.now.scope c.args.state.now.facts (wants (as_views c.args.before.now) (script_of c.in-Superposed.inner.value) (with_sorts c.args.state.now.scope superposing.sorts_copied) (with_facts c.args.state.now.facts fs) (goal_of c.items-in-Superposed.result.now))) (c.deref-in-Superposed-2.ensures.value ∙ c.in_ok-given-in-Superposed.ensures)
    ∙ ap (λ ls. wants_outside c.args.state.now.scope c.args.state.now.facts (wants (as_views c.args.before.now) (script_of c.in-Superposed.inner.value) (with_sorts c.args.state.now.scope superposing.sorts_copied) (with_facts c.args.state.now.facts (superposing.gives_of_superposition c.in-Superposed.superposition c.args.state.now.scope)) (goal_of ls))) c.items-in-Superposed.ensures in
    and_so c.append-in-Superposed.result
    (λ h. inside_wants (as_views c.args.before.now) c.args.step.now c.args.state.now c.args.out.now c.look_step.new.out c.in_ok-inside-in-Superposed.field-0 c.append-in-Superposed.new.self c.in_ok-look_step.ensures
    (λ rest. (superposed_inside (as_views c.args.before.now) c.args.step.now c.in-Superposed.superposition c.in-Superposed.names c.in-Superposed.shown c.in-Superposed.certs c.in-Superposed.inner c.args.state.now rest c.in-Superposed.is).0 ∙ sym inside) h) c.append-in-Superposed.ensures

pub look_at_step-returns-in_ok-inside-in-Superposed-clause-flags : goal.look_at_step-returns-in_ok-inside-in-Superposed-clause-flags
look_at_step-returns-in_ok-inside-in-Superposed-clause-flags t c =
    let inside = c.in_ok-inside-in-Superposed.ensures.flags ∙ ap (λ b. c.args.flags.now.items ++ flags_of (as_views c.args.before.now) (script_of b) (with_sorts c.args.state.now.scope c.made-made.result.now) (with_facts c.args.state.now.facts c.deref-in-Superposed-2.result.now) (goal_of c.items-in-Superposed.result.now)) c.deref-in-Superposed.ensures
    ∙ ap (λ xs. c.args.flags.now.items ++ flags_of (as_views c.args.before.now) (script_of c.in-Superposed.inner.value) (with_sorts c.args.state.now.scope xs) (with_facts c.args.state.now.facts c.deref-in-Superposed-2.result.now) (goal_of c.items-in-Superposed.result.now)) c.made-made.ensures
    ∙ ap (λ fs. c.args.flags.now.items ++ flags_of (as_views c.args.before.now) (script_of c.in-Superposed.inner.value) (with_sorts c.args.state.now.scope superposing.sorts_copied) (with_facts c.args.state.now.facts fs) (goal_of c.items-in-Superposed.result.now)) (c.deref-in-Superposed-2.ensures.value ∙ c.in_ok-given-in-Superposed.ensures)
    ∙ ap (λ ls. c.args.flags.now.items ++ flags_of (as_views c.args.before.now) (script_of c.in-Superposed.inner.value) (with_sorts c.args.state.now.scope superposing.sorts_copied) (with_facts c.args.state.now.facts (superposing.gives_of_superposition c.in-Superposed.superposition c.args.state.now.scope)) (goal_of ls)) c.items-in-Superposed.ensures in
    on_ok c.append-in-Superposed.result
    (inside_flags (as_views c.args.before.now) c.args.step.now c.args.state.now c.args.flags.now.items (flags_of (as_views c.args.before.now) (script_of c.in-Superposed.inner.value) (with_sorts c.args.state.now.scope superposing.sorts_copied) (with_facts c.args.state.now.facts (superposing.gives_of_superposition c.in-Superposed.superposition c.args.state.now.scope)) (goal_of c.in-Superposed.shown)) c.look_inside-inside.new.flags.items
    (λ rest. (superposed_inside (as_views c.args.before.now) c.args.step.now c.in-Superposed.superposition c.in-Superposed.names c.in-Superposed.shown c.in-Superposed.certs c.in-Superposed.inner c.args.state.now rest c.in-Superposed.is).1) inside)

pub look_at_step-returns-in-Cite-clause-wanted : goal.look_at_step-returns-in-Cite-clause-wanted
look_at_step-returns-in-Cite-clause-wanted t c = plain_wants (as_views c.args.before.now) c.args.step.now c.args.state.now c.args.out.now c.look_step.new.out (plain_of (as_views c.args.before.now) c.args.step.now c.args.state.now c.in-Cite.is) c.in_ok-look_step.ensures

pub look_at_step-returns-in-Cite-clause-flags : goal.look_at_step-returns-in-Cite-clause-flags
look_at_step-returns-in-Cite-clause-flags t c = plain_flags (as_views c.args.before.now) c.args.step.now c.args.state.now c.args.flags.now.items (plain_of (as_views c.args.before.now) c.args.step.now c.args.state.now c.in-Cite.is)

pub look_at_step-returns-in-Cite-2-clause-wanted : goal.look_at_step-returns-in-Cite-2-clause-wanted
look_at_step-returns-in-Cite-2-clause-wanted t c = plain_wants (as_views c.args.before.now) c.args.step.now c.args.state.now c.args.out.now c.look_step.new.out (plain_of (as_views c.args.before.now) c.args.step.now c.args.state.now c.in-Cite.is) c.in_ok-look_step.ensures

pub look_at_step-returns-in-Cite-2-clause-flags : goal.look_at_step-returns-in-Cite-2-clause-flags
look_at_step-returns-in-Cite-2-clause-flags t c = plain_flags (as_views c.args.before.now) c.args.step.now c.args.state.now c.args.flags.now.items (plain_of (as_views c.args.before.now) c.args.step.now c.args.state.now c.in-Cite.is)

pub look_at_step-returns-in-Cite-3-clause-wanted : goal.look_at_step-returns-in-Cite-3-clause-wanted
look_at_step-returns-in-Cite-3-clause-wanted t c = plain_wants (as_views c.args.before.now) c.args.step.now c.args.state.now c.args.out.now c.look_step.new.out (plain_of (as_views c.args.before.now) c.args.step.now c.args.state.now c.in-Cite.is) c.in_ok-look_step.ensures

pub look_at_step-returns-in-Cite-3-clause-flags : goal.look_at_step-returns-in-Cite-3-clause-flags
look_at_step-returns-in-Cite-3-clause-flags t c = plain_flags (as_views c.args.before.now) c.args.step.now c.args.state.now c.args.flags.now.items (plain_of (as_views c.args.before.now) c.args.step.now c.args.state.now c.in-Cite.is)

pub look_at_step-returns-in-Cite-4-clause-wanted : goal.look_at_step-returns-in-Cite-4-clause-wanted
look_at_step-returns-in-Cite-4-clause-wanted t c = plain_wants (as_views c.args.before.now) c.args.step.now c.args.state.now c.args.out.now c.look_step.new.out (plain_of (as_views c.args.before.now) c.args.step.now c.args.state.now c.in-Cite.is) c.in_ok-look_step.ensures

pub look_at_step-returns-in-Cite-4-clause-flags : goal.look_at_step-returns-in-Cite-4-clause-flags
look_at_step-returns-in-Cite-4-clause-flags t c = plain_flags (as_views c.args.before.now) c.args.step.now c.args.state.now c.args.flags.now.items (plain_of (as_views c.args.before.now) c.args.step.now c.args.state.now c.in-Cite.is)

-- ---- a close

pub look_from_close-returns-in-Ok-clause-wanted : goal.look_from_close-returns-in-Ok-clause-wanted
look_from_close-returns-in-Ok-clause-wanted t c =
    c.in-Ok.ensures.wanted ∙ ap (λ w. both w (wants (as_views c.args.before.now) (close_script c.args.close.now) c.args.state.now.scope c.args.state.now.facts (goal_view c.args.goal.now))) c.new-wanted.ensures

pub look_at_close-look_close-requires : goal.look_at_close-look_close-requires
look_at_close-look_close-requires t c = record { fits = close_fits (as_views c.args.before.now) c.args.close.now c.args.state.now.scope c.args.state.now.facts (goal_view c.args.goal.now) c.requires.ready }

pub look_at_close-look_inside-other-requires : goal.look_at_close-look_inside-other-requires
look_at_close-look_inside-other-requires t c = (
  (let n = second_falls c.args.close.now c.in-Cases.lit c.in-Cases.first c.in-Cases.second c.deref.result.now c.in-Cases.is c.deref.ensures in omega (arith, c.decreases, n)),
  (
    (cases_ready (as_views c.args.before.now) c.in-Cases.lit c.in-Cases.first c.in-Cases.second c.args.state.now.scope c.args.state.now.facts (goal_view c.args.goal.now) (subst (λ cl. IsReady (as_views c.args.before.now) (close_script cl) c.args.state.now.scope c.args.state.now.facts (goal_view c.args.goal.now)) c.in-Cases.is c.requires.ready)).0,
    (
      omega arith,
      (
        subst (λ ls. IsReady (as_views c.args.before.now) (script_of c.deref.result.now) c.args.state.now.scope (with_facts c.args.state.now.facts ls) (goal_view c.args.goal.now)) (sym (c.deref-in-Cases.ensures.value ∙ c.in_ok-fails-in-Cases.ensures.items ∙ ap (λ l. l ∷ []) (c.negate.ensures ∙ ap negation c.in_ok-copy-in-Cases.ensures))) (subst (λ b. IsReady (as_views c.args.before.now) (script_of b) c.args.state.now.scope (with_fact c.args.state.now.facts (negation c.in-Cases.lit)) (goal_view c.args.goal.now)) (sym c.deref.ensures) (cases_ready (as_views c.args.before.now) c.in-Cases.lit c.in-Cases.first c.in-Cases.second c.args.state.now.scope c.args.state.now.facts (goal_view c.args.goal.now) (subst (λ cl. IsReady (as_views c.args.before.now) (close_script cl) c.args.state.now.scope c.args.state.now.facts (goal_view c.args.goal.now)) c.in-Cases.is c.requires.ready)).2),
        c.requires.statements,
      ),
    ),
  ),
)

pub look_at_close-look_inside-one-requires : goal.look_at_close-look_inside-one-requires
look_at_close-look_inside-one-requires t c = (
  (let n = first_falls c.args.close.now c.in-Cases.lit c.in-Cases.first c.in-Cases.second c.deref-in-Cases-2.result.now c.in-Cases.is c.deref-in-Cases-2.ensures in omega (arith, c.decreases, n)),
  subst (λ (y : StepState). (is_small y.scope ≡ true) × ((length {A = Sort} [] < 2 ^ 15) × (IsReady (as_views c.args.before.now) (script_of c.deref-in-Cases-2.result.now) y.scope (with_facts y.facts c.deref-in-Cases-3.result.now) (goal_view c.args.goal.now) × (list_all is_small_statement (as_views c.args.before.now) ≡ true)))) (sym c.in_ok-other-in-Cases.ensures.same) (
    (cases_ready (as_views c.args.before.now) c.in-Cases.lit c.in-Cases.first c.in-Cases.second c.args.state.now.scope c.args.state.now.facts (goal_view c.args.goal.now) (subst (λ cl. IsReady (as_views c.args.before.now) (close_script cl) c.args.state.now.scope c.args.state.now.facts (goal_view c.args.goal.now)) c.in-Cases.is c.requires.ready)).0,
    (
      omega arith,
      (
        subst (λ ls. IsReady (as_views c.args.before.now) (script_of c.deref-in-Cases-2.result.now) c.args.state.now.scope (with_facts c.args.state.now.facts ls) (goal_view c.args.goal.now)) (sym (c.deref-in-Cases-3.ensures.value ∙ c.in_ok-holds-in-Cases.ensures.items ∙ ap (λ l. l ∷ []) c.in_ok-copy-in-Cases-2.ensures)) (subst (λ b. IsReady (as_views c.args.before.now) (script_of b) c.args.state.now.scope (with_fact c.args.state.now.facts c.in-Cases.lit) (goal_view c.args.goal.now)) (sym c.deref-in-Cases-2.ensures) (cases_ready (as_views c.args.before.now) c.in-Cases.lit c.in-Cases.first c.in-Cases.second c.args.state.now.scope c.args.state.now.facts (goal_view c.args.goal.now) (subst (λ cl. IsReady (as_views c.args.before.now) (close_script cl) c.args.state.now.scope c.args.state.now.facts (goal_view c.args.goal.now)) c.in-Cases.is c.requires.ready)).1),
        c.requires.statements,
      ),
    ),
  ),
)

pub look_at_close-returns-in_ok-one-in-Cases-clause-wanted : goal.look_at_close-returns-in_ok-one-in-Cases-clause-wanted
look_at_close-returns-in_ok-one-in-Cases-clause-wanted t c =
    and_so c.append-in-Cases.result
    (λ h. cases_wanted (as_views c.args.before.now) c.args.close.now c.in-Cases.lit c.in-Cases.first c.in-Cases.second c.args.state.now.scope c.args.state.now.facts (goal_view c.args.goal.now) c.args.out.now c.look_close.new.out c.in_ok-other-in-Cases.field-0 c.in_ok-one-in-Cases.field-0 c.append-in-Cases.new.self c.append.new.self c.in-Cases.is (c.in_ok-look_close.ensures (as_views c.args.before.now))
    (c.in_ok-other-in-Cases.ensures.wanted ∙ ap (λ b. wants_outside c.args.state.now.scope c.args.state.now.facts (wants (as_views c.args.before.now) (script_of b) c.args.state.now.scope (with_facts c.args.state.now.facts c.deref-in-Cases.result.now) (goal_view c.args.goal.now))) c.deref.ensures
    ∙ ap (λ ls. wants_outside c.args.state.now.scope c.args.state.now.facts (wants (as_views c.args.before.now) (script_of c.in-Cases.second.value) c.args.state.now.scope (with_facts c.args.state.now.facts ls) (goal_view c.args.goal.now))) (c.deref-in-Cases.ensures.value ∙ c.in_ok-fails-in-Cases.ensures.items ∙ ap (λ l. l ∷ []) (c.negate.ensures ∙ ap negation c.in_ok-copy-in-Cases.ensures)))
    (c.in_ok-one-in-Cases.ensures.wanted ∙ ap (λ (y : StepState). wants_outside y.scope y.facts (wants (as_views c.args.before.now) (script_of c.deref-in-Cases-2.result.now) y.scope (with_facts y.facts c.deref-in-Cases-3.result.now) (goal_view c.args.goal.now))) c.in_ok-other-in-Cases.ensures.same
    ∙ ap (λ b. wants_outside c.args.state.now.scope c.args.state.now.facts (wants (as_views c.args.before.now) (script_of b) c.args.state.now.scope (with_facts c.args.state.now.facts c.deref-in-Cases-3.result.now) (goal_view c.args.goal.now))) c.deref-in-Cases-2.ensures
    ∙ ap (λ ls. wants_outside c.args.state.now.scope c.args.state.now.facts (wants (as_views c.args.before.now) (script_of c.in-Cases.first.value) c.args.state.now.scope (with_facts c.args.state.now.facts ls) (goal_view c.args.goal.now))) (c.deref-in-Cases-3.ensures.value ∙ c.in_ok-holds-in-Cases.ensures.items ∙ ap (λ l. l ∷ []) c.in_ok-copy-in-Cases-2.ensures)) c.in_ok-append-in-Cases.ensures h) c.append-in-Cases.ensures

pub look_at_close-returns-in_ok-one-in-Cases-clause-flags : goal.look_at_close-returns-in_ok-one-in-Cases-clause-flags
look_at_close-returns-in_ok-one-in-Cases-clause-flags t c =
    on_ok c.append-in-Cases.result
    (cases_flags (as_views c.args.before.now) c.args.close.now c.in-Cases.lit c.in-Cases.first c.in-Cases.second c.args.state.now.scope c.args.state.now.facts (goal_view c.args.goal.now) c.args.flags.now.items c.look_inside-other.new.flags.items c.look_inside-one.new.flags.items c.in-Cases.is
    (c.in_ok-other-in-Cases.ensures.flags ∙ ap (λ b. c.args.flags.now.items ++ flags_of (as_views c.args.before.now) (script_of b) c.args.state.now.scope (with_facts c.args.state.now.facts c.deref-in-Cases.result.now) (goal_view c.args.goal.now)) c.deref.ensures
    ∙ ap (λ ls. c.args.flags.now.items ++ flags_of (as_views c.args.before.now) (script_of c.in-Cases.second.value) c.args.state.now.scope (with_facts c.args.state.now.facts ls) (goal_view c.args.goal.now)) (c.deref-in-Cases.ensures.value ∙ c.in_ok-fails-in-Cases.ensures.items ∙ ap (λ l. l ∷ []) (c.negate.ensures ∙ ap negation c.in_ok-copy-in-Cases.ensures)))
    (c.in_ok-one-in-Cases.ensures.flags ∙ ap (λ (y : StepState). c.look_inside-other.new.flags.items ++ flags_of (as_views c.args.before.now) (script_of c.deref-in-Cases-2.result.now) y.scope (with_facts y.facts c.deref-in-Cases-3.result.now) (goal_view c.args.goal.now)) c.in_ok-other-in-Cases.ensures.same
    ∙ ap (λ b. c.look_inside-other.new.flags.items ++ flags_of (as_views c.args.before.now) (script_of b) c.args.state.now.scope (with_facts c.args.state.now.facts c.deref-in-Cases-3.result.now) (goal_view c.args.goal.now)) c.deref-in-Cases-2.ensures
    ∙ ap (λ ls. c.look_inside-other.new.flags.items ++ flags_of (as_views c.args.before.now) (script_of c.in-Cases.first.value) c.args.state.now.scope (with_facts c.args.state.now.facts ls) (goal_view c.args.goal.now)) (c.deref-in-Cases-3.ensures.value ∙ c.in_ok-holds-in-Cases.ensures.items ∙ ap (λ l. l ∷ []) c.in_ok-copy-in-Cases-2.ensures)))

pub look_at_close-returns-in-Qed-clause-wanted : goal.look_at_close-returns-in-Qed-clause-wanted
look_at_close-returns-in-Qed-clause-wanted t c =
    close_wanted (as_views c.args.before.now) c.args.close.now c.args.state.now.scope c.args.state.now.facts (goal_view c.args.goal.now) c.args.out.now c.look_close.new.out
    (no_blocks (as_views c.args.before.now) c.args.close.now c.args.state.now.scope c.args.state.now.facts (goal_view c.args.goal.now) c.in-Qed.is) (c.in_ok-look_close.ensures (as_views c.args.before.now))

pub look_at_close-returns-in-Qed-clause-flags : goal.look_at_close-returns-in-Qed-clause-flags
look_at_close-returns-in-Qed-clause-flags t c =
    close_flags (as_views c.args.before.now) c.args.close.now c.args.state.now.scope c.args.state.now.facts (goal_view c.args.goal.now) c.args.flags.now.items
    (no_blocks (as_views c.args.before.now) c.args.close.now c.args.state.now.scope c.args.state.now.facts (goal_view c.args.goal.now) c.in-Qed.is)

pub look_at_close-returns-in-Qed-2-clause-wanted : goal.look_at_close-returns-in-Qed-2-clause-wanted
look_at_close-returns-in-Qed-2-clause-wanted t c =
    close_wanted (as_views c.args.before.now) c.args.close.now c.args.state.now.scope c.args.state.now.facts (goal_view c.args.goal.now) c.args.out.now c.look_close.new.out
    (no_blocks (as_views c.args.before.now) c.args.close.now c.args.state.now.scope c.args.state.now.facts (goal_view c.args.goal.now) c.in-Qed.is) (c.in_ok-look_close.ensures (as_views c.args.before.now))

pub look_at_close-returns-in-Qed-2-clause-flags : goal.look_at_close-returns-in-Qed-2-clause-flags
look_at_close-returns-in-Qed-2-clause-flags t c =
    close_flags (as_views c.args.before.now) c.args.close.now c.args.state.now.scope c.args.state.now.facts (goal_view c.args.goal.now) c.args.flags.now.items
    (no_blocks (as_views c.args.before.now) c.args.close.now c.args.state.now.scope c.args.state.now.facts (goal_view c.args.goal.now) c.in-Qed.is)
