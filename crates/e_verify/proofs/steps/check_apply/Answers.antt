use Rattle.std.proofs.Common.{ap, sym, ◌∙◌, subst, Result, Ok, Err}
use Rattle.std.specs.Prelude.{IfOk}
use Rattle.std.specs.Option.{option_map}
use Rattle.std.specs.List.{list_all}
use Rattle.e_literal.specs.Use.{are_arguments, needs_of_use, gives_of_use}
use Rattle.e_literal.specs.WellFormed.{is_well_formed}
use Rattle.e_clause.specs.Certify.{certify_all}
use Rattle.e_theorem.specs.Faults.{UseFaultIs}
use Rattle.e_theorem.specs.Statements.{as_view, as_views}
use Rattle.e_deriv.specs.Parts.{has_no_blank, args_written}
use Rattle.e_verify.specs.StepStates.{state_after_use}
use Rattle.e_verify.proofs.checking.CertifiedLines.{use_checked, no_arguments, fits_of, all_are_written, few_new_of, use_formed, theorem_there}
use Rattle.e_verify.proofs.steps.check_apply.Goals as goal

-- where memory lasts, two things that hold
where_both : {X E : Type 0} {P Q R : X → Type 0} (r : Result X E) → IfOk r P → IfOk r Q → ((x : X) → P x → Q x → R x) → IfOk r R
where_both (Ok x) p q f = f x p q
where_both (Err e) p q f = p

pub use_of-requires-clause-few : goal.use_of-requires-clause-few
use_of-requires-clause-few c =
    let e = sym (ap (option_map (λ v. v.items)) c.in-Some-2.is) ∙ c.in_ok-objects.ensures in
    let f = fits_of c.args.before.now c.args.theorem c.args.args.now c.in-Some.statement.now c.in-Some-2.objects.items c.requires.statements c.in-Some.ensures.lookup.3.0 c.in-Some.ensures.lookup.1 e in
    (few_new_of c.args.state.now.scope (as_view c.in-Some.statement.now) c.requires.scope f.small).0

pub use_of-requires-clause-points : goal.use_of-requires-clause-points
use_of-requires-clause-points c =
    let e = sym (ap (option_map (λ v. v.items)) c.in-Some-2.is) ∙ c.in_ok-objects.ensures in
    let f = fits_of c.args.before.now c.args.theorem c.args.args.now c.in-Some.statement.now c.in-Some-2.objects.items c.requires.statements c.in-Some.ensures.lookup.3.0 c.in-Some.ensures.lookup.1 e in
    (few_new_of c.args.state.now.scope (as_view c.in-Some.statement.now) c.requires.scope f.small).1

pub use_of-requires-clause-lines : goal.use_of-requires-clause-lines
use_of-requires-clause-lines c =
    let e = sym (ap (option_map (λ v. v.items)) c.in-Some-2.is) ∙ c.in_ok-objects.ensures in
    let f = fits_of c.args.before.now c.args.theorem c.args.args.now c.in-Some.statement.now c.in-Some-2.objects.items c.requires.statements c.in-Some.ensures.lookup.3.0 c.in-Some.ensures.lookup.1 e in
    (few_new_of c.args.state.now.scope (as_view c.in-Some.statement.now) c.requires.scope f.small).2

pub use_of-requires-clause-circles : goal.use_of-requires-clause-circles
use_of-requires-clause-circles c =
    let e = sym (ap (option_map (λ v. v.items)) c.in-Some-2.is) ∙ c.in_ok-objects.ensures in
    let f = fits_of c.args.before.now c.args.theorem c.args.args.now c.in-Some.statement.now c.in-Some-2.objects.items c.requires.statements c.in-Some.ensures.lookup.3.0 c.in-Some.ensures.lookup.1 e in
    (few_new_of c.args.state.now.scope (as_view c.in-Some.statement.now) c.requires.scope f.small).3

pub returns-in-Err-BadArgs : goal.returns-in-Err-BadArgs
returns-in-Err-BadArgs c names =
    let t = as_view c.in-Some.statement.now in
    let x = c.args.state.now in
    let w = all_are_written c.in-Some-2.objects.items (args_written c.args.args.now) (has_no_blank c.args.args.now) (sym (ap (option_map (λ v. v.items)) c.in-Some-2.is) ∙ c.in_ok-objects.ensures) in
    no_arguments (as_views c.args.before.now) c.args.theorem c.args.args.now names c.args.certs.now t x x (theorem_there c.args.before.now c.args.theorem c.in-Some.statement.now c.in-Some.ensures.lookup.3.0 c.in-Some.ensures.lookup.1)
    (ap (λ os. are_arguments t x.scope os) (sym (c.deref.ensures.value ∙ w.1)) ∙ subst (UseFaultIs t c.deref.result.now x.scope) c.in-Err-BadArgs.field-0-is c.in-Err-BadArgs.ensures.err)

pub check_use-certified-requires-clause-statement : goal.check_use-certified-requires-clause-statement
check_use-certified-requires-clause-statement c =
    let e = sym (ap (option_map (λ v. v.items)) c.in-Some-2.is) ∙ c.in_ok-objects.ensures in
    let f = fits_of c.args.before.now c.args.theorem c.args.args.now c.in-Some.statement.now c.in-Some-2.objects.items c.requires.statements c.in-Some.ensures.lookup.3.0 c.in-Some.ensures.lookup.1 e in
    f.small

pub check_use-certified-requires-clause-needs : goal.check_use-certified-requires-clause-needs
check_use-certified-requires-clause-needs c =
    let t = as_view c.in-Some.statement.now in
    let e = sym (ap (option_map (λ v. v.items)) c.in-Some-2.is) ∙ c.in_ok-objects.ensures in
    let f = fits_of c.args.before.now c.args.theorem c.args.args.now c.in-Some.statement.now c.in-Some-2.objects.items c.requires.statements c.in-Some.ensures.lookup.3.0 c.in-Some.ensures.lookup.1 e in
    ap (list_all is_well_formed) c.in-Ok.ensures.needs ∙ use_formed t c.deref.result.now c.args.state.now.scope f.small c.in-Ok.ensures.fit

pub returns : goal.returns
returns c =
    let t = as_view c.in-Some.statement.now in
    let x = c.args.state.now in
    let e = sym (ap (option_map (λ v. v.items)) c.in-Some-2.is) ∙ c.in_ok-objects.ensures in
    let w = all_are_written c.in-Some-2.objects.items (args_written c.args.args.now) (has_no_blank c.args.args.now) e in
    let os = c.deref.ensures.value ∙ w.1 in
    let needs = c.in-Ok.ensures.needs ∙ ap (λ os. needs_of_use t os x.scope) os in
    let gives = c.in-Ok.ensures.gives ∙ ap (λ os. gives_of_use t os x.scope) os in
    let f = fits_of c.args.before.now c.args.theorem c.args.args.now c.in-Some.statement.now c.in-Some-2.objects.items c.requires.statements c.in-Some.ensures.lookup.3.0 c.in-Some.ensures.lookup.1 e in
    where_both c.check_use-certified.result c.check_use-certified.ensures.test c.check_use-certified.ensures.after
    (λ b test end names. use_checked (as_views c.args.before.now) c.args.theorem c.args.args.now names c.args.certs.now t x c.check_use-certified.new.state b f.small f.at f.blank
    (ap (λ os. are_arguments t x.scope os) (sym os) ∙ c.in-Ok.ensures.fit) (test ∙ ap (λ ls. certify_all x.scope x.facts ls c.args.certs.now) needs) (λ is. end is ∙ ap (λ ls. state_after_use t ls x) gives))
