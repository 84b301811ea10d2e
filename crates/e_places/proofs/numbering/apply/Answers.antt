use Rattle.std.proofs.Common.{ap, sym, ◌∙◌, subst, true≢false}
use Rattle.std.specs.Prelude.{unwrap_or}
use Rattle.std.specs.Option.{option_map}
use Rattle.e_literal.specs.Use.{are_arguments, needs_of_use, gives_of_use}
use Rattle.e_theorem.specs.Faults.{UseFaultIs}
use Rattle.e_theorem.specs.Statements.{as_view, as_views}
use Rattle.e_deriv.specs.declared.block.Step.TheVariants.{Apply as ApplyStep}
use Rattle.e_deriv.specs.PlacedSteps.{no_statement}
use Rattle.e_deriv.specs.Parts.{has_no_blank, args_written}
use Rattle.e_places.specs.Numbered.{certs_with_places}
use Rattle.e_verify.specs.StepStates.{state_after_use}
use Rattle.e_verify.proofs.checking.FirstLines.{after_apply}
use Rattle.e_verify.proofs.checking.CertifiedLines.{fits_of, all_are_written, few_new_of, theorem_there}
use Rattle.e_places.proofs.placing.NumberedSteps.{ok_with, apply_numbered}
use Rattle.e_places.proofs.numbering.apply.Goals as goal

pub use_of-requires-clause-few : goal.use_of-requires-clause-few
use_of-requires-clause-few c =
    let y = c.args.application.now in
    let e = sym (ap (option_map (λ v. v.items)) c.in-Some-2.is) ∙ c.in_ok-objects.ensures in
    let f = fits_of c.args.before.now y.theorem y.args.now c.in-Some.statement.now c.in-Some-2.objects.items c.requires.statements c.in-Some.ensures.lookup.3.0 c.in-Some.ensures.lookup.1 e in
    (few_new_of c.args.state.now.scope (as_view c.in-Some.statement.now) c.requires.scope f.small).0

pub use_of-requires-clause-points : goal.use_of-requires-clause-points
use_of-requires-clause-points c =
    let y = c.args.application.now in
    let e = sym (ap (option_map (λ v. v.items)) c.in-Some-2.is) ∙ c.in_ok-objects.ensures in
    let f = fits_of c.args.before.now y.theorem y.args.now c.in-Some.statement.now c.in-Some-2.objects.items c.requires.statements c.in-Some.ensures.lookup.3.0 c.in-Some.ensures.lookup.1 e in
    (few_new_of c.args.state.now.scope (as_view c.in-Some.statement.now) c.requires.scope f.small).1

pub use_of-requires-clause-lines : goal.use_of-requires-clause-lines
use_of-requires-clause-lines c =
    let y = c.args.application.now in
    let e = sym (ap (option_map (λ v. v.items)) c.in-Some-2.is) ∙ c.in_ok-objects.ensures in
    let f = fits_of c.args.before.now y.theorem y.args.now c.in-Some.statement.now c.in-Some-2.objects.items c.requires.statements c.in-Some.ensures.lookup.3.0 c.in-Some.ensures.lookup.1 e in
    (few_new_of c.args.state.now.scope (as_view c.in-Some.statement.now) c.requires.scope f.small).2

pub use_of-requires-clause-circles : goal.use_of-requires-clause-circles
use_of-requires-clause-circles c =
    let y = c.args.application.now in
    let e = sym (ap (option_map (λ v. v.items)) c.in-Some-2.is) ∙ c.in_ok-objects.ensures in
    let f = fits_of c.args.before.now y.theorem y.args.now c.in-Some.statement.now c.in-Some-2.objects.items c.requires.statements c.in-Some.ensures.lookup.3.0 c.in-Some.ensures.lookup.1 e in
    (few_new_of c.args.state.now.scope (as_view c.in-Some.statement.now) c.requires.scope f.small).3

pub take_use-step-requires-clause-statement : goal.take_use-step-requires-clause-statement
take_use-step-requires-clause-statement c =
    let y = c.args.application.now in
    let e = sym (ap (option_map (λ v. v.items)) c.in-Some-2.is) ∙ c.in_ok-objects.ensures in
    let f = fits_of c.args.before.now y.theorem y.args.now c.in-Some.statement.now c.in-Some-2.objects.items c.requires.statements c.in-Some.ensures.lookup.3.0 c.in-Some.ensures.lookup.1 e in
    f.small

pub unreachable-requires-in-Err-BadArgs : goal.unreachable-requires-in-Err-BadArgs
unreachable-requires-in-Err-BadArgs c =
    let y = c.args.application.now in
    let t = as_view c.in-Some.statement.now in
    let s = c.args.state.now.scope in
    let e = sym (ap (option_map (λ v. v.items)) c.in-Some-2.is) ∙ c.in_ok-objects.ensures in
    let w = all_are_written c.in-Some-2.objects.items (args_written y.args.now) (has_no_blank y.args.now) e in
    let there = ap (λ o. unwrap_or o no_statement) (theorem_there c.args.before.now y.theorem c.in-Some.statement.now c.in-Some.ensures.lookup.3.0 c.in-Some.ensures.lookup.1) in
    let no = subst (UseFaultIs t c.deref.result.now s) c.in-Err-BadArgs.field-0-is c.in-Err-BadArgs.ensures.err in
    true≢false (sym (ap (are_arguments t s) (c.deref.ensures.value ∙ w.1) ∙ ap (λ u. are_arguments u s (args_written y.args.now)) (sym there) ∙ c.requires.applied.fit) ∙ no)

pub returns : goal.returns
returns c =
    let y = c.args.application.now in
    let before = as_views c.args.before.now in
    let t = as_view c.in-Some.statement.now in
    let x = c.args.state.now in
    let args = y.args.now in
    let names = y.names.now in
    let e = sym (ap (option_map (λ v. v.items)) c.in-Some-2.is) ∙ c.in_ok-objects.ensures in
    let w = all_are_written c.in-Some-2.objects.items (args_written args) (has_no_blank args) e in
    let os = c.deref.ensures.value ∙ w.1 in
    let there = ap (λ o. unwrap_or o no_statement) (theorem_there c.args.before.now y.theorem c.in-Some.statement.now c.in-Some.ensures.lookup.3.0 c.in-Some.ensures.lookup.1) in
    let needs = c.in-Ok.ensures.needs ∙ ap (λ os. needs_of_use t os x.scope) os ∙ ap (λ u. needs_of_use u (args_written args) x.scope) (sym there) in
    let gives = c.in-Ok.ensures.gives ∙ ap (λ os. gives_of_use t os x.scope) os in
    ok_with c.take_use-step.result c.take_use-step.ensures.step c.take_use-step.ensures.after
    (λ s made end. apply_numbered before y.theorem args names y.certs.now x c.take_use-step.new.state s
    (made ∙ ap (λ ls. ApplyStep y.theorem args names (certs_with_places x.facts ls y.certs.now)) needs)
    (end ∙ ap (λ ls. state_after_use t ls x) gives ∙ ap (λ u. after_apply u (args_written args) x) (sym there)))
