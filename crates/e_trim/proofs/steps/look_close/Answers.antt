use Rattle.std.proofs.Common.{sym, ap, ◌∙◌, subst, Some, None}
use Rattle.e_literal.specs.Literal.{objects_of_atom}
use Rattle.e_deriv.specs.Script.{Qed, Contradiction, Cases, close_script, script_of}
use Rattle.e_deriv.specs.Goal.{goal_view}
use Rattle.e_trim.specs.inner.StepState.{CloseFits}
use Rattle.e_trim.proofs.walks.Both.{both-none}
use Rattle.e_trim.proofs.walks.LookedUp.{line_needs}
use Rattle.e_trim.proofs.renumbering.Pairs.{sorts}
use Rattle.e_trim.proofs.kept_scripts.StepParts.{and_so, same_line, qed_sorts, qed_script, contradiction_script, cases_script}
use Rattle.e_trim.proofs.steps.look_close.Goals as goal

pub look_qed-requires : goal.look_qed-requires
look_qed-requires c =
    let a = c.in-Qed in
    let g = goal_view c.args.goal.now in
    record { one_sort = qed_sorts a.objects a.certs c.args.state.now.scope g (subst (λ cl. CloseFits cl c.args.state.now.scope g) a.is c.requires.fits) ∙ ap sorts (sym c.items-objects.ensures) }

pub returns-in-Qed : goal.returns-in-Qed
returns-in-Qed c =
    let x = c.args.state.now in
    let a = c.in-Qed in
    let g = goal_view c.args.goal.now in
    and_so c.look_qed.result
    (λ h before. same_line before (Qed c.items-objects.result.now c.items.result.now) (close_script c.args.close.now) x.scope x.facts g c.args.out.now c.look_qed.new.out
    (qed_script c.args.close.now a.objects c.items-objects.result.now a.certs c.items.result.now a.is c.items-objects.ensures c.items.ensures) (h before)) c.look_qed.ensures

pub returns-in-None : goal.returns-in-None
returns-in-None c before =
    let x = c.args.state.now in
    same_line before (Contradiction None) (close_script c.args.close.now) x.scope x.facts (goal_view c.args.goal.now) c.args.out.now c.args.out.now (ap Contradiction (sym c.in-None.is) ∙ contradiction_script c.args.close.now c.in-Contradiction.against c.in-Contradiction.is)
    (sym (both-none c.args.out.now))

pub returns-in-Cases : goal.returns-in-Cases
returns-in-Cases c =
    let x = c.args.state.now in
    let a = c.in-Cases in
    and_so c.need_objects_of.result
    (λ h before. same_line before (Cases a.lit (script_of a.first.value) (script_of a.second.value)) (close_script c.args.close.now) x.scope x.facts (goal_view c.args.goal.now) c.args.out.now c.need_objects_of.new.self (cases_script c.args.close.now a.lit a.first a.second a.is)
    (h ∙ line_needs c.args.out.now (objects_of_atom a.lit.atom))) c.need_objects_of.ensures

pub returns-in-Some : goal.returns-in-Some
returns-in-Some c =
    let x = c.args.state.now in
    and_so c.look_against.result
    (λ h before. same_line before (Contradiction (Some c.in-Some.against)) (close_script c.args.close.now) x.scope x.facts (goal_view c.args.goal.now) c.args.out.now c.look_against.new.out
    (ap Contradiction (sym c.in-Some.is) ∙ contradiction_script c.args.close.now c.in-Contradiction.against c.in-Contradiction.is) h) c.look_against.ensures
