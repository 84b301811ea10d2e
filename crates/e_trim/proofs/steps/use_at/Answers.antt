use Rattle.std.proofs.Common.{sym, ap, ◌∙◌, subst, true≢false}
use Rattle.e_literal.specs.Use.{are_arguments, needs_of_use, gives_of_use}
use Rattle.e_theorem.specs.Faults.{UseFaultIs}
use Rattle.e_theorem.specs.Statements.{as_view}
use Rattle.e_deriv.specs.Parts.{args_written}
use Rattle.e_trim.proofs.kept_scripts.StepParts.{use_room, theorem_there}
use Rattle.e_trim.proofs.steps.use_at.Goals as goal

pub use_of-requires-clause-few : goal.use_of-requires-clause-few
use_of-requires-clause-few c = (use_room c.args.before.now c.args.theorem c.in-Some.statement.now c.args.scope c.requires.small c.requires.statements c.in-Some.ensures.lookup.3.0 c.in-Some.ensures.lookup.1).0

pub use_of-requires-clause-points : goal.use_of-requires-clause-points
use_of-requires-clause-points c = (use_room c.args.before.now c.args.theorem c.in-Some.statement.now c.args.scope c.requires.small c.requires.statements c.in-Some.ensures.lookup.3.0 c.in-Some.ensures.lookup.1).1

pub use_of-requires-clause-lines : goal.use_of-requires-clause-lines
use_of-requires-clause-lines c = (use_room c.args.before.now c.args.theorem c.in-Some.statement.now c.args.scope c.requires.small c.requires.statements c.in-Some.ensures.lookup.3.0 c.in-Some.ensures.lookup.1).2

pub use_of-requires-clause-circles : goal.use_of-requires-clause-circles
use_of-requires-clause-circles c = (use_room c.args.before.now c.args.theorem c.in-Some.statement.now c.args.scope c.requires.small c.requires.statements c.in-Some.ensures.lookup.3.0 c.in-Some.ensures.lookup.1).3

pub returns-in-Ok-clause-needs : goal.returns-in-Ok-clause-needs
returns-in-Ok-clause-needs c =
    let there = theorem_there c.args.before.now c.args.theorem c.in-Some.statement.now c.in-Some.ensures.lookup.3.0 c.in-Some.ensures.lookup.1 in
    c.in-Ok.ensures.needs ∙ ap (λ os. needs_of_use (as_view c.in-Some.statement.now) os c.args.scope) (c.deref.ensures.value ∙ c.in_ok-objects.ensures)
    ∙ ap (λ t. needs_of_use t (args_written c.args.args.now) c.args.scope) (sym there)

pub returns-in-Ok-clause-gives : goal.returns-in-Ok-clause-gives
returns-in-Ok-clause-gives c =
    let there = theorem_there c.args.before.now c.args.theorem c.in-Some.statement.now c.in-Some.ensures.lookup.3.0 c.in-Some.ensures.lookup.1 in
    c.in-Ok.ensures.gives ∙ ap (λ os. gives_of_use (as_view c.in-Some.statement.now) os c.args.scope) (c.deref.ensures.value ∙ c.in_ok-objects.ensures)
    ∙ ap (λ t. gives_of_use t (args_written c.args.args.now) c.args.scope) (sym there)

pub unreachable-requires-in-Err-BadArgs : goal.unreachable-requires-in-Err-BadArgs
unreachable-requires-in-Err-BadArgs c =
    let t = as_view c.in-Some.statement.now in
    let there = theorem_there c.args.before.now c.args.theorem c.in-Some.statement.now c.in-Some.ensures.lookup.3.0 c.in-Some.ensures.lookup.1 in
    let no = subst (UseFaultIs t c.deref.result.now c.args.scope) c.in-Err-BadArgs.field-0-is c.in-Err-BadArgs.ensures.err in
    let yes = ap (λ os. are_arguments t c.args.scope os) (c.deref.ensures.value ∙ c.in_ok-objects.ensures) ∙ ap (λ u. are_arguments u c.args.scope (args_written c.args.args.now)) (sym there) ∙ c.requires.fits.fit in
    true≢false (sym yes ∙ no)
