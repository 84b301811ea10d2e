use Rattle.std.proofs.Common.{arith, subst}
use Rattle.e_theorem.specs.Statements.{as_view}
use Rattle.e_licence.specs.Contexts.{Basis}
use Rattle.e_licence.specs.FilledBlanks.{FilledIs}
use Rattle.e_prove.specs.inner.StopsOfSteps.{StepStopsFilling}
use Rattle.e_prove.proofs.Applications.{match_stops_so}
use Rattle.e_prove.proofs.application.fill_blanks.Goals as goal
use Rattle.e_deriv.proofs.Smallness.{few_objects}

pub match_blanks-requires-clause-few : goal.match_blanks-requires-clause-few
match_blanks-requires-clause-few c = let few = few_objects (as_view c.args.statement.now) c.requires.statement in omega (arith, few)

pub returns-in-Err-clause-err : goal.returns-in-Err-clause-err
returns-in-Err-clause-err c =
    let t = as_view c.args.statement.now in
    let x = c.solve.new.self in
    subst (λ (b : Basis). StepStopsFilling t b c.args.pattern.now c.as_match.result) c.in_ok-solve.ensures
    (match_stops_so t x c.args.pattern.now c.in-Found.args c.in-Err.stop_reason c.as_match.result (subst (FilledIs t x c.args.pattern.now) c.in-Found.is c.in_ok-args.ensures) c.in-Err.ensures.err c.as_match.ensures)
