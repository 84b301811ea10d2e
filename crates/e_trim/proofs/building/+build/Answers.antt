use Rattle.std.proofs.Common.{arith, ◌≡◌, ◌++◌, map, refl, sym, ap, ◌∙◌, subst}
use Rattle.std.specs.Option.{option_map}
use Rattle.e_theorem.specs.Statements.{as_views}
use Rattle.e_deriv.specs.declared.block.Close.{Close}
use Rattle.e_deriv.specs.declared.block.Step.{Step}
use Rattle.e_deriv.specs.declared.block.Step.TheVariants.{Hence as HenceStep, Make as MakeStep, Apply as ApplyStep}
use Rattle.e_deriv.specs.Script.{Script, Claim, Superposed, Cases, close_script, script_of, step_script, steps_script}
use Rattle.e_literal.specs.Scopes.{with_sorts, next_objects}
use Rattle.e_construct.specs.Superposing as superposing
use Rattle.e_trim.specs.Trimmed.{obj_at, lit_among_kept, cert_at, args_at, construction_among_kept, superpose_at}
use Rattle.e_trim.specs.inner.Building.{IsBuilt, AreSmall, IsSmallStep, StepIsBuilt, CloseIsBuilt}
use Rattle.e_trim.proofs.kept_scripts.BuiltSteps.{few_numbers, small_first, small_step, small_claim, small_superposed, small_cases}
use Rattle.e_trim.proofs.kept_scripts.KeptSteps.{cite_built, hence_built, make_built, apply_built, claim_built, superposed_built, qed_built, contradiction_built, cases_built, boxed, copies_room}
use Rattle.e_trim.proofs.walks.FirstSteps.{ok_map, later_steps, whole_is, begun_small, begun_few, begun_room, begun_step, begun_rest, wide_few, more_few, dropped_whole, kept_whole}
use Rattle.e_trim.proofs.kept_scripts.StepSizes.{rest_falls, step_falls, claim_falls, superposed_falls, first_falls, second_falls}
use Rattle.e_trim.proofs.building.+build.Goals as goal

pub build-with_sorts-after-requires-clause-points : goal.build-with_sorts-after-requires-clause-points
build-with_sorts-after-requires-clause-points t c =
    (begun_room (as_views c.args.before.now) c.args.steps.now c.step-item.result c.makes-sorts.result.now c.args.scope (close_script c.args.close.now)
    (record { some = c.in-len1-up.len_at_least; first = c.step-item.is; makes = c.makes-sorts.ensures; statements = c.requires.statements; scopes = c.requires.scopes })).0

pub build-with_sorts-after-requires-clause-lines : goal.build-with_sorts-after-requires-clause-lines
build-with_sorts-after-requires-clause-lines t c =
    (begun_room (as_views c.args.before.now) c.args.steps.now c.step-item.result c.makes-sorts.result.now c.args.scope (close_script c.args.close.now)
    (record { some = c.in-len1-up.len_at_least; first = c.step-item.is; makes = c.makes-sorts.ensures; statements = c.requires.statements; scopes = c.requires.scopes })).1

pub build-with_sorts-after-requires-clause-circles : goal.build-with_sorts-after-requires-clause-circles
build-with_sorts-after-requires-clause-circles t c =
    (begun_room (as_views c.args.before.now) c.args.steps.now c.step-item.result c.makes-sorts.result.now c.args.scope (close_script c.args.close.now)
    (record { some = c.in-len1-up.len_at_least; first = c.step-item.is; makes = c.makes-sorts.ensures; statements = c.requires.statements; scopes = c.requires.scopes })).2

pub build-build-requires : goal.build-build-requires
build-build-requires t c = (
  omega (arith, c.decreases, rest_falls c.step-item.result (steps_script (later_steps c.args.steps.now) (close_script c.args.close.now)) (steps_script c.args.steps.now (close_script c.args.close.now)) (whole_is c.args.steps.now c.step-item.result (close_script c.args.close.now) c.in-len1-up.len_at_least c.step-item.is)),
  (
    begun_rest (as_views c.args.before.now) c.args.steps.now c.step-item.result c.makes-sorts.result.now c.args.scope c.with_sorts-after.result (close_script c.args.close.now) (record { some = c.in-len1-up.len_at_least; first = c.step-item.is; makes = c.makes-sorts.ensures; statements = c.requires.statements; scopes = c.requires.scopes }) c.with_sorts-after.ensures,
    (c.requires.statements, wide_few c.args.scope c.with_sorts-after.result c.makes-sorts.result.now c.args.kept.now c.with_sorts-after.ensures c.requires.few),
  ),
)

pub build-returns-then-not-take_flag : goal.build-returns-then-not-take_flag
build-returns-then-not-take_flag t c =
    let pile = c.args.flags.now.items in
    let popped = c.take_flag.new.flags.items in
    let left = c.build.new.flags.items in
    let done = c.args.out.now.items in
    let now = c.build.new.out.items in
    ok_map (λ (new : Close). IsBuilt (as_views c.args.before.now) c.args.kept.now (steps_script (later_steps c.args.steps.now) (close_script c.args.close.now)) c.with_sorts-after.result popped left done now new) (λ (new : Close). IsBuilt (as_views c.args.before.now) c.args.kept.now (steps_script c.args.steps.now (close_script c.args.close.now)) c.args.scope pile left done now new) c.build.result
    (λ new h. dropped_whole (as_views c.args.before.now) c.args.kept.now c.args.steps.now c.step-item.result c.makes-sorts.result.now c.args.scope c.with_sorts-after.result (close_script c.args.close.now) pile popped left c.take_flag.result done now new (record { some = c.in-len1-up.len_at_least; first = c.step-item.is; makes = c.makes-sorts.ensures; statements = c.requires.statements; scopes = c.requires.scopes }) c.with_sorts-after.ensures c.take_flag.ensures c.if-not-take_flag.true h) c.build.ensures

pub build-build_step-requires : goal.build-build_step-requires
build-build_step-requires t c = (
  omega (arith, c.decreases, step_falls c.step-item.result (steps_script (later_steps c.args.steps.now) (close_script c.args.close.now)) (steps_script c.args.steps.now (close_script c.args.close.now)) (whole_is c.args.steps.now c.step-item.result (close_script c.args.close.now) c.in-len1-up.len_at_least c.step-item.is)),
  (begun_step (as_views c.args.before.now) c.args.steps.now c.step-item.result c.makes-sorts.result.now c.args.scope (close_script c.args.close.now) (record { some = c.in-len1-up.len_at_least; first = c.step-item.is; makes = c.makes-sorts.ensures; statements = c.requires.statements; scopes = c.requires.scopes }), (c.requires.statements, c.requires.few)),
)

pub build-with_next-requires-clause-small : goal.build-with_next-requires-clause-small
build-with_next-requires-clause-small t c = begun_small (as_views c.args.before.now) c.args.steps.now c.step-item.result c.makes-sorts.result.now c.args.scope (close_script c.args.close.now) (record { some = c.in-len1-up.len_at_least; first = c.step-item.is; makes = c.makes-sorts.ensures; statements = c.requires.statements; scopes = c.requires.scopes })

pub build-with_next-requires-clause-few : goal.build-with_next-requires-clause-few
build-with_next-requires-clause-few t c = begun_few (as_views c.args.before.now) c.args.steps.now c.step-item.result c.makes-sorts.result.now c.args.scope (close_script c.args.close.now) (record { some = c.in-len1-up.len_at_least; first = c.step-item.is; makes = c.makes-sorts.ensures; statements = c.requires.statements; scopes = c.requires.scopes })

pub build-build-requires-in-len1-up : goal.build-build-requires-in-len1-up
build-build-requires-in-len1-up t c = (
  omega (arith, c.decreases, rest_falls c.step-item.result (steps_script (later_steps c.args.steps.now) (close_script c.args.close.now)) (steps_script c.args.steps.now (close_script c.args.close.now)) (whole_is c.args.steps.now c.step-item.result (close_script c.args.close.now) c.in-len1-up.len_at_least c.step-item.is)),
  (
    begun_rest (as_views c.args.before.now) c.args.steps.now c.step-item.result c.makes-sorts.result.now c.args.scope c.with_sorts-after.result (close_script c.args.close.now) (record { some = c.in-len1-up.len_at_least; first = c.step-item.is; makes = c.makes-sorts.ensures; statements = c.requires.statements; scopes = c.requires.scopes }) c.with_sorts-after.ensures,
    (
      c.requires.statements,
      more_few c.args.scope c.with_sorts-after.result c.makes-sorts.result.now c.args.kept.now c.deref.result.now c.with_sorts-after.ensures (c.deref.ensures.value ∙ c.in_ok-more-in-len1-up.ensures) c.requires.few,
    ),
  ),
)

pub build-returns-in_ok-more-in-len1-up : goal.build-returns-in_ok-more-in-len1-up
build-returns-in_ok-more-in-len1-up t c =
    let pile = c.args.flags.now.items in
    let popped = c.take_flag.new.flags.items in
    let over = c.build_step.new.flags.items in
    let left = c.build-in-len1-up.new.flags.items in
    let done = c.args.out.now.items in
    let put = c.push.new.self.items in
    let now = c.build-in-len1-up.new.out.items in
    ok_map (λ (new : Close). IsBuilt (as_views c.args.before.now) c.deref.result.now (steps_script (later_steps c.args.steps.now) (close_script c.args.close.now)) c.with_sorts-after.result over left put now new) (λ (new : Close). IsBuilt (as_views c.args.before.now) c.args.kept.now (steps_script c.args.steps.now (close_script c.args.close.now)) c.args.scope pile left done now new) c.build-in-len1-up.result
    (λ new h. kept_whole (as_views c.args.before.now) c.args.kept.now c.deref.result.now c.args.steps.now c.step-item.result c.makes-sorts.result.now c.args.scope c.with_sorts-after.result (close_script c.args.close.now) pile popped over left c.take_flag.result done put now c.in_ok-new-in-len1-up.new new (record { some = c.in-len1-up.len_at_least; first = c.step-item.is; makes = c.makes-sorts.ensures; statements = c.requires.statements; scopes = c.requires.scopes }) c.with_sorts-after.ensures
    (c.deref.ensures.value ∙ c.in_ok-more-in-len1-up.ensures) c.in_ok-push-in-len1-up.ensures.items c.take_flag.ensures c.if-not-take_flag.false c.in_ok-new-in-len1-up.ensures h) c.build-in-len1-up.ensures

-- ---- a close

pub build_close-new_objects-requires : goal.build_close-new_objects-requires
build_close-new_objects-requires t c = few_numbers c.args.scope c.args.kept.now (small_first (as_views c.args.before.now) (close_script c.args.close.now) c.args.scope c.requires.scopes) c.requires.few

pub build_close-new_certs-requires : goal.build_close-new_certs-requires
build_close-new_certs-requires t c = few_numbers c.args.scope c.args.kept.now (small_first (as_views c.args.before.now) (close_script c.args.close.now) c.args.scope c.requires.scopes) c.requires.few

pub build_close-new_against_of-requires : goal.build_close-new_against_of-requires
build_close-new_against_of-requires t c = few_numbers c.args.scope c.args.kept.now (small_first (as_views c.args.before.now) (close_script c.args.close.now) c.args.scope c.requires.scopes) c.requires.few

pub build_close-new_split-requires : goal.build_close-new_split-requires
build_close-new_split-requires t c = few_numbers c.args.scope c.args.kept.now (small_first (as_views c.args.before.now) (close_script c.args.close.now) c.args.scope c.requires.scopes) c.requires.few

pub build_close-build_block-requires : goal.build_close-build_block-requires
build_close-build_block-requires t c = (
  omega (arith, c.decreases, first_falls c.args.close.now c.in-Cases.lit c.in-Cases.first c.in-Cases.second c.deref.result.now c.in-Cases.is c.deref.ensures),
  (subst (λ b. AreSmall (as_views c.args.before.now) (script_of b) c.args.scope) (sym c.deref.ensures) (small_cases (as_views c.args.before.now) c.in-Cases.lit c.in-Cases.first c.in-Cases.second c.args.scope (subst (λ cl. AreSmall (as_views c.args.before.now) (close_script cl) c.args.scope) c.in-Cases.is c.requires.scopes)).1, (c.requires.statements, c.requires.few)),
)

pub build_close-build_block-requires-in-Cases : goal.build_close-build_block-requires-in-Cases
build_close-build_block-requires-in-Cases t c = (
  omega (arith, c.decreases, second_falls c.args.close.now c.in-Cases.lit c.in-Cases.first c.in-Cases.second c.deref-in-Cases.result.now c.in-Cases.is c.deref-in-Cases.ensures),
  (subst (λ b. AreSmall (as_views c.args.before.now) (script_of b) c.args.scope) (sym c.deref-in-Cases.ensures) (small_cases (as_views c.args.before.now) c.in-Cases.lit c.in-Cases.first c.in-Cases.second c.args.scope (subst (λ cl. AreSmall (as_views c.args.before.now) (close_script cl) c.args.scope) c.in-Cases.is c.requires.scopes)).2, (c.requires.statements, c.requires.few)),
)

pub build_close-returns-in_ok-new_certs-in-Qed : goal.build_close-returns-in_ok-new_certs-in-Qed
build_close-returns-in_ok-new_certs-in-Qed t c =
    qed_built (as_views c.args.before.now) c.args.kept.now c.args.close.now c.in-Qed.objects c.in_ok-new_objects-in-Qed.field-0 c.in-Qed.certs c.in_ok-new_certs-in-Qed.field-0 c.args.scope c.args.flags.now.items c.in-Qed.is (c.in_ok-new_objects-in-Qed.ensures ∙ ap (map (obj_at c.args.kept.now)) c.items.ensures)
    (c.in_ok-new_certs-in-Qed.ensures ∙ ap (map (cert_at c.args.kept.now)) c.items-in-Qed.ensures)

pub build_close-returns-in_ok-new_against_of-in-Contradiction : goal.build_close-returns-in_ok-new_against_of-in-Contradiction
build_close-returns-in_ok-new_against_of-in-Contradiction t c =
    contradiction_built (as_views c.args.before.now) c.args.kept.now c.args.close.now c.in-Contradiction.against c.in_ok-new_against_of-in-Contradiction.field-0 c.args.scope c.args.flags.now.items c.in-Contradiction.is c.in_ok-new_against_of-in-Contradiction.ensures

pub build_close-returns-in-Ok : goal.build_close-returns-in-Ok
build_close-returns-in-Ok t c =
    let before = as_views c.args.before.now in
    let kept = c.args.kept.now in
    let y = c.in-Cases in
    let pile = c.args.flags.now.items in
    let over = c.build_block.new.flags.items in
    let left = c.build_block-in-Cases.new.flags.items in
    let one = c.in_ok-first-in-Cases.first in
    let other = c.in-Ok.second in
    let lit = lit_among_kept kept y.lit in
    ok_map (λ (made : Close). close_script made ≡ Cases lit (script_of one) (script_of other)) (λ (made : Close). CloseIsBuilt before kept (close_script c.args.close.now) c.args.scope pile left made) c.new_split.result
    (λ made script. cases_built before kept c.args.close.now made y.lit lit y.first y.second one other c.args.scope pile over left y.is refl script
    (boxed before kept c.deref.result.now y.first one c.args.scope c.args.scope pile over c.deref.ensures refl c.in_ok-first-in-Cases.ensures)
    (boxed before kept c.deref-in-Cases.result.now y.second other c.args.scope c.args.scope over left c.deref-in-Cases.ensures refl c.in-Ok.ensures)) c.new_split.ensures

-- ---- a step

pub build_step-new_by-requires : goal.build_step-new_by-requires
build_step-new_by-requires t c = few_numbers c.args.scope c.args.kept.now (small_step (as_views c.args.before.now) c.args.step.now c.args.scope c.requires.scopes) c.requires.few

pub build_step-new_hence-requires : goal.build_step-new_hence-requires
build_step-new_hence-requires t c = few_numbers c.args.scope c.args.kept.now (small_step (as_views c.args.before.now) c.args.step.now c.args.scope c.requires.scopes) c.requires.few

pub build_step-new_make-requires : goal.build_step-new_make-requires
build_step-new_make-requires t c = few_numbers c.args.scope c.args.kept.now (small_step (as_views c.args.before.now) c.args.step.now c.args.scope c.requires.scopes) c.requires.few

pub build_step-new_apply-requires : goal.build_step-new_apply-requires
build_step-new_apply-requires t c = few_numbers c.args.scope c.args.kept.now (small_step (as_views c.args.before.now) c.args.step.now c.args.scope c.requires.scopes) c.requires.few

pub build_step-new_claim-requires : goal.build_step-new_claim-requires
build_step-new_claim-requires t c = few_numbers c.args.scope c.args.kept.now (small_step (as_views c.args.before.now) c.args.step.now c.args.scope c.requires.scopes) c.requires.few

pub build_step-new_superposition-requires : goal.build_step-new_superposition-requires
build_step-new_superposition-requires t c = few_numbers c.args.scope c.args.kept.now (small_step (as_views c.args.before.now) c.args.step.now c.args.scope c.requires.scopes) c.requires.few

pub build_step-returns-in_ok-new_by-in-Cite : goal.build_step-returns-in_ok-new_by-in-Cite
build_step-returns-in_ok-new_by-in-Cite t c = cite_built (as_views c.args.before.now) c.args.kept.now c.args.step.now c.in-Cite.by c.in_ok-new_by-in-Cite.field-0 c.args.scope c.args.flags.now.items c.in-Cite.is c.in_ok-new_by-in-Cite.ensures

pub build_step-returns-in-Hence : goal.build_step-returns-in-Hence
build_step-returns-in-Hence t c =
    let kept = c.args.kept.now in
    let y = c.in-Hence in
    let new = HenceStep (lit_among_kept kept y.lit) (option_map (cert_at kept) y.cert) in
    ok_map (λ (made : Step). made ≡ new) (λ (made : Step). StepIsBuilt (as_views c.args.before.now) kept c.args.step.now c.args.scope c.args.flags.now.items c.args.flags.now.items made) c.new_hence.result
    (λ made e. subst (λ x. StepIsBuilt (as_views c.args.before.now) kept c.args.step.now c.args.scope c.args.flags.now.items c.args.flags.now.items x) (sym e)
    (hence_built (as_views c.args.before.now) kept c.args.step.now y.lit (lit_among_kept kept y.lit) y.cert (option_map (cert_at kept) y.cert) c.args.scope c.args.flags.now.items y.is refl refl)) c.new_hence.ensures

pub build_step-returns-in-Make : goal.build_step-returns-in-Make
build_step-returns-in-Make t c =
    let kept = c.args.kept.now in
    let y = c.in-Make in
    let new = MakeStep (construction_among_kept kept y.construction) c.items.result.now (map (cert_at kept) c.items-in-Make.result.now) in
    ok_map (λ (made : Step). made ≡ new) (λ (made : Step). StepIsBuilt (as_views c.args.before.now) kept c.args.step.now c.args.scope c.args.flags.now.items c.args.flags.now.items made) c.new_make.result
    (λ made e. subst (λ x. StepIsBuilt (as_views c.args.before.now) kept c.args.step.now c.args.scope c.args.flags.now.items c.args.flags.now.items x) (sym e)
    (make_built (as_views c.args.before.now) kept c.args.step.now y.construction (construction_among_kept kept y.construction) y.names c.items.result.now y.certs (map (cert_at kept) c.items-in-Make.result.now) c.args.scope c.args.flags.now.items y.is refl c.items.ensures (ap (map (cert_at kept)) c.items-in-Make.ensures))) c.new_make.ensures

pub build_step-returns-in-Apply : goal.build_step-returns-in-Apply
build_step-returns-in-Apply t c =
    let kept = c.args.kept.now in
    let y = c.in-Apply in
    let new = ApplyStep y.theorem (args_at kept c.items-in-Apply.result.now) c.items-in-Apply-2.result.now (map (cert_at kept) c.items-in-Apply-3.result.now) in
    ok_map (λ (made : Step). made ≡ new) (λ (made : Step). StepIsBuilt (as_views c.args.before.now) kept c.args.step.now c.args.scope c.args.flags.now.items c.args.flags.now.items made) c.new_apply.result
    (λ made e. subst (λ x. StepIsBuilt (as_views c.args.before.now) kept c.args.step.now c.args.scope c.args.flags.now.items c.args.flags.now.items x) (sym e)
    (apply_built (as_views c.args.before.now) kept c.args.step.now y.theorem y.args (args_at kept c.items-in-Apply.result.now) y.names c.items-in-Apply-2.result.now y.certs (map (cert_at kept) c.items-in-Apply-3.result.now) c.args.scope c.args.flags.now.items y.is
    (ap (args_at kept) c.items-in-Apply.ensures) c.items-in-Apply-2.ensures (ap (map (cert_at kept)) c.items-in-Apply-3.ensures))) c.new_apply.ensures

pub build_step-build_block-requires : goal.build_step-build_block-requires
build_step-build_block-requires t c = (
  omega (arith, c.decreases, claim_falls c.args.step.now c.in-Claim.shown c.in-Claim.inner c.deref.result.now c.in-Claim.is c.deref.ensures),
  (
    subst (λ b. AreSmall (as_views c.args.before.now) (script_of b) c.args.scope) (sym c.deref.ensures) (small_claim (as_views c.args.before.now) c.in-Claim.shown c.in-Claim.inner c.args.scope (subst (λ st. IsSmallStep (as_views c.args.before.now) st c.args.scope) c.in-Claim.is c.requires.scopes)),
    (c.requires.statements, c.requires.few),
  ),
)

pub build_step-returns-in_ok-inner-in-Claim : goal.build_step-returns-in_ok-inner-in-Claim
build_step-returns-in_ok-inner-in-Claim t c =
    let before = as_views c.args.before.now in
    let kept = c.args.kept.now in
    let y = c.in-Claim in
    let pile = c.args.flags.now.items in
    let left = c.build_block.new.flags.items in
    let shown = map (lit_among_kept kept) c.items-in-Claim.result.now in
    let block = c.in_ok-inner-in-Claim.inner in
    ok_map (λ (made : Step). (more : Script) → step_script made more ≡ Claim shown (script_of block) more) (λ (made : Step). StepIsBuilt before kept c.args.step.now c.args.scope pile left made) c.new_claim.result
    (λ made script. claim_built before kept c.args.step.now made y.shown shown y.inner block c.args.scope pile left y.is (ap (map (lit_among_kept kept)) c.items-in-Claim.ensures) script
    (boxed before kept c.deref.result.now y.inner block c.args.scope c.args.scope pile left c.deref.ensures refl c.in_ok-inner-in-Claim.ensures)) c.new_claim.ensures

pub build_step-with_next-requires-clause-small : goal.build_step-with_next-requires-clause-small
build_step-with_next-requires-clause-small t c = (small_step (as_views c.args.before.now) c.args.step.now c.args.scope c.requires.scopes)

pub build_step-with_sorts-requires-clause-points : goal.build_step-with_sorts-requires-clause-points
build_step-with_sorts-requires-clause-points t c = (copies_room c.args.scope c.made-copies.result.now (small_step (as_views c.args.before.now) c.args.step.now c.args.scope c.requires.scopes) c.made-copies.ensures).0

pub build_step-with_sorts-requires-clause-lines : goal.build_step-with_sorts-requires-clause-lines
build_step-with_sorts-requires-clause-lines t c = (copies_room c.args.scope c.made-copies.result.now (small_step (as_views c.args.before.now) c.args.step.now c.args.scope c.requires.scopes) c.made-copies.ensures).1

pub build_step-with_sorts-requires-clause-circles : goal.build_step-with_sorts-requires-clause-circles
build_step-with_sorts-requires-clause-circles t c = (copies_room c.args.scope c.made-copies.result.now (small_step (as_views c.args.before.now) c.args.step.now c.args.scope c.requires.scopes) c.made-copies.ensures).2

pub build_step-build_block-requires-in-Superposed : goal.build_step-build_block-requires-in-Superposed
build_step-build_block-requires-in-Superposed t c = (
  omega (arith, c.decreases, superposed_falls c.args.step.now c.in-Superposed.superposition c.in-Superposed.names c.in-Superposed.shown c.in-Superposed.certs c.in-Superposed.inner c.deref-in-Superposed.result.now c.in-Superposed.is c.deref-in-Superposed.ensures),
  (
    subst (λ x. AreSmall (as_views c.args.before.now) (script_of c.deref-in-Superposed.result.now) x) (sym (c.with_sorts.ensures ∙ ap (with_sorts c.args.scope) c.made-copies.ensures))
        (subst (λ b. AreSmall (as_views c.args.before.now) (script_of b) (with_sorts c.args.scope superposing.sorts_copied)) (sym c.deref-in-Superposed.ensures)
        (small_superposed (as_views c.args.before.now) c.in-Superposed.superposition c.in-Superposed.names c.in-Superposed.shown c.in-Superposed.certs c.in-Superposed.inner c.args.scope (subst (λ st. IsSmallStep (as_views c.args.before.now) st c.args.scope) c.in-Superposed.is c.requires.scopes))),
    (c.requires.statements, more_few c.args.scope c.with_sorts.result c.made-copies.result.now c.args.kept.now c.deref-in-Superposed-2.result.now c.with_sorts.ensures (c.deref-in-Superposed-2.ensures.value ∙ c.in_ok-inside-in-Superposed.ensures) c.requires.few),
  ),
)

pub build_step-returns-in_ok-inner-in-Superposed : goal.build_step-returns-in_ok-inner-in-Superposed
build_step-returns-in_ok-inner-in-Superposed t c =
    let before = as_views c.args.before.now in
    let kept = c.args.kept.now in
    let y = c.in-Superposed in
    let pile = c.args.flags.now.items in
    let left = c.build_block-in-Superposed.new.flags.items in
    let wide = c.deref-in-Superposed-2.result.now in
    let superposition = superpose_at kept y.superposition in
    let names = c.items-in-Superposed.result.now in
    let shown = map (lit_among_kept kept) c.items-in-Superposed-2.result.now in
    let certs = map (cert_at kept) c.items-in-Superposed-3.result.now in
    let block = c.in_ok-inner-in-Superposed.inner in
    ok_map (λ (made : Step). (more : Script) → step_script made more ≡ Superposed superposition names shown certs (script_of block) more) (λ (made : Step). StepIsBuilt before kept c.args.step.now c.args.scope pile left made) c.new_superposition.result
    (λ made script. superposed_built before kept wide c.args.step.now made y.superposition superposition y.names names y.shown shown y.certs certs y.inner block c.args.scope pile left y.is
    (c.deref-in-Superposed-2.ensures.value ∙ c.in_ok-inside-in-Superposed.ensures ∙ ap (λ xs. kept ++ next_objects c.args.scope xs) c.made-copies.ensures) refl c.items-in-Superposed.ensures
    (ap (map (lit_among_kept kept)) c.items-in-Superposed-2.ensures) (ap (map (cert_at kept)) c.items-in-Superposed-3.ensures) script
    (boxed before wide c.deref-in-Superposed.result.now y.inner block (with_sorts c.args.scope superposing.sorts_copied) c.with_sorts.result pile left c.deref-in-Superposed.ensures (c.with_sorts.ensures ∙ ap (with_sorts c.args.scope) c.made-copies.ensures) c.in_ok-inner-in-Superposed.ensures)) c.new_superposition.ensures
