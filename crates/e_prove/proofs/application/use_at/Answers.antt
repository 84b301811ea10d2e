use Rattle.std.proofs.Common.{◌≡◌, sym, subst, true}
use Rattle.e_clause.specs.Certify.{certify_all}
use Rattle.e_clause.specs.LimitedFacts.{are_well_formed_in}
use Rattle.e_theorem.specs.Statements.{as_view}
use Rattle.e_prove.specs.inner.StopsOfSteps.{StepStopsAmong}
use Rattle.e_prove.proofs.Applications.{room_for, needs_there}
use Rattle.e_prove.proofs.application.use_at.Goals as goal

pub use_of-requires-clause-few : goal.use_of-requires-clause-few
use_of-requires-clause-few c = (room_for (as_view c.args.statement.now) c.args.context.now.scope c.scope.result c.requires.statement c.requires.scope c.scope.ensures).few

pub use_of-requires-clause-points : goal.use_of-requires-clause-points
use_of-requires-clause-points c = (room_for (as_view c.args.statement.now) c.args.context.now.scope c.scope.result c.requires.statement c.requires.scope c.scope.ensures).points

pub use_of-requires-clause-lines : goal.use_of-requires-clause-lines
use_of-requires-clause-lines c = (room_for (as_view c.args.statement.now) c.args.context.now.scope c.scope.result c.requires.statement c.requires.scope c.scope.ensures).lines

pub use_of-requires-clause-circles : goal.use_of-requires-clause-circles
use_of-requires-clause-circles c = (room_for (as_view c.args.statement.now) c.args.context.now.scope c.scope.result c.requires.statement c.requires.scope c.scope.ensures).circles

pub licences-answered-requires : goal.licences-answered-requires
licences-answered-requires c =
    let x = c.args.context.now in
    let all = needs_there (as_view c.args.statement.now) x.scope c.scope.result c.args.args c.items.result.now c.in-Ok.field-0.needs c.items-in-Ok.result.now c.items.ensures c.scope.ensures c.in-Ok.ensures.needs c.items-in-Ok.ensures in
    subst (λ ls. are_well_formed_in x.scope ls ≡ true) (sym all) c.requires.needs

pub returns-in-Err-clause-err : goal.returns-in-Err-clause-err
returns-in-Err-clause-err c =
    let x = c.args.context.now in
    let all = needs_there (as_view c.args.statement.now) x.scope c.scope.result c.args.args c.items.result.now c.in-Ok.field-0.needs c.items-in-Ok.result.now c.items.ensures c.scope.ensures c.in-Ok.ensures.needs c.items-in-Ok.ensures in
    subst (λ ls. StepStopsAmong x ls c.in-Err.stop_reason) all c.in-Err.ensures.err

pub returns-in-Ok-answered-clause-certified : goal.returns-in-Ok-answered-clause-certified
returns-in-Ok-answered-clause-certified c =
    let x = c.args.context.now in
    let all = needs_there (as_view c.args.statement.now) x.scope c.scope.result c.args.args c.items.result.now c.in-Ok.field-0.needs c.items-in-Ok.result.now c.items.ensures c.scope.ensures c.in-Ok.ensures.needs c.items-in-Ok.ensures in
    subst (λ ls. certify_all x.scope x.facts ls c.in-Ok-answered.certs.items ≡ true) all c.in-Ok-answered.ensures.ok
