use Rattle.std.proofs.Common.{sym, ap, ◌∙◌, subst}
use Rattle.e_theorem.specs.Statements.{as_views}
use Rattle.e_deriv.specs.Script.{Cite, Hence, Make, Apply, Claim, Superposed, step_script, script_of}
use Rattle.e_trim.specs.Looked.{both, wanted_objects, objects_of_lits}
use Rattle.e_trim.specs.inner.StepState.{IsApplied, StepFits}
use Rattle.e_trim.proofs.walks.LookedUp.{line_needs}
use Rattle.e_trim.proofs.kept_scripts.StepParts.{and_so, same_line, apply_fits, cite_script, hence_script, make_script, apply_script, claim_script, superposed_script}
use Rattle.e_trim.proofs.steps.look_step.Goals as goal

pub look_apply-requires-clause-fits : goal.look_apply-requires-clause-fits
look_apply-requires-clause-fits c =
    let before = as_views c.args.before.now in
    let s = c.args.state.now.scope in
    let a = c.in-Apply in
    subst (λ os. IsApplied before a.theorem os s) (sym c.items-args.ensures) (apply_fits before a.theorem a.args a.names a.certs s (subst (λ st. StepFits before st s) a.is c.requires.fits))

pub returns-in-Cite : goal.returns-in-Cite
returns-in-Cite c =
    let before = as_views c.args.before.now in
    let step = c.args.step.now in
    let x = c.args.state.now in
    and_so c.look_cite.result (λ h rest goal. same_line before (Cite c.in-Cite.by rest) (step_script step rest) x.scope x.facts goal c.args.out.now c.look_cite.new.out (cite_script step c.in-Cite.by rest c.in-Cite.is) (h before rest x goal)) c.look_cite.ensures

pub returns-in-Hence : goal.returns-in-Hence
returns-in-Hence c =
    let before = as_views c.args.before.now in
    let step = c.args.step.now in
    let x = c.args.state.now in
    let a = c.in-Hence in
    and_so c.look_hence.result (λ h rest goal. same_line before (Hence a.lit a.cert rest) (step_script step rest) x.scope x.facts goal c.args.out.now c.look_hence.new.out (hence_script step a.lit a.cert rest a.is) (h before rest goal)) c.look_hence.ensures

pub returns-in-Make : goal.returns-in-Make
returns-in-Make c =
    let before = as_views c.args.before.now in
    let step = c.args.step.now in
    let x = c.args.state.now in
    let a = c.in-Make in
    and_so c.look_make.result
    (λ h rest goal. same_line before (Make a.construction a.names c.items.result.now rest) (step_script step rest) x.scope x.facts goal c.args.out.now c.look_make.new.out (make_script step a.construction a.names a.certs c.items.result.now rest a.is c.items.ensures) (h before a.names rest goal))
    c.look_make.ensures

pub returns-in-Apply : goal.returns-in-Apply
returns-in-Apply c =
    let before = as_views c.args.before.now in
    let step = c.args.step.now in
    let x = c.args.state.now in
    let a = c.in-Apply in
    and_so c.look_apply.result
    (λ h rest goal. same_line before (Apply a.theorem c.items-args.result.now a.names c.items-in-Apply.result.now rest) (step_script step rest) x.scope x.facts goal c.args.out.now c.look_apply.new.out
    (apply_script step a.theorem a.args c.items-args.result.now a.names a.certs c.items-in-Apply.result.now rest a.is c.items-args.ensures c.items-in-Apply.ensures) (h a.names rest goal)) c.look_apply.ensures

pub returns-in-Claim : goal.returns-in-Claim
returns-in-Claim c =
    let before = as_views c.args.before.now in
    let step = c.args.step.now in
    let x = c.args.state.now in
    let a = c.in-Claim in
    and_so c.need_objects_of_all.result
    (λ h rest goal. same_line before (Claim a.shown (script_of a.inner.value) rest) (step_script step rest) x.scope x.facts goal c.args.out.now c.need_objects_of_all.new.self (claim_script step a.shown a.inner rest a.is)
    (h ∙ ap (λ ls. both c.args.out.now (wanted_objects (objects_of_lits ls))) c.items-in-Claim.ensures ∙ line_needs c.args.out.now (objects_of_lits a.shown))) c.need_objects_of_all.ensures

pub returns-in-Superposed : goal.returns-in-Superposed
returns-in-Superposed c =
    let before = as_views c.args.before.now in
    let step = c.args.step.now in
    let x = c.args.state.now in
    let a = c.in-Superposed in
    and_so c.look_superpose.result
    (λ h rest goal. same_line before (Superposed a.superposition a.names c.items-in-Superposed.result.now c.items-in-Superposed-2.result.now (script_of a.inner.value) rest) (step_script step rest) x.scope x.facts goal c.args.out.now c.look_superpose.new.out
    (superposed_script step a.superposition a.names a.shown c.items-in-Superposed.result.now a.certs c.items-in-Superposed-2.result.now a.inner rest a.is c.items-in-Superposed.ensures c.items-in-Superposed-2.ensures)
    (h before a.names (script_of a.inner.value) rest goal)) c.look_superpose.ensures
