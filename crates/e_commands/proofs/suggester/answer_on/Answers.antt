use Rattle.std.proofs.Common.{arith}
use Rattle.e_book.specs.TheoremViews.{entry_of}
use Rattle.e_commands.proofs.answers.SuggesterAnswers.{too_short_next, stopped_next, answered_next}
use Rattle.e_commands.proofs.suggester.answer_on.Goals as goal

pub size-steps-requires : goal.size-steps-requires
size-steps-requires c = omega (arith, c.requires.fitting.short)

pub returns-then-steps-step : goal.returns-then-steps-step
returns-then-steps-step c =
    too_short_next c.answer_with.result c.args.known.now (entry_of c.args.theorem.now) c.args.step (omega (arith, c.size-steps.ensures, c.if-steps-step.true)) c.answer_with.ensures

pub state_before_step-requires-clause-fitting : goal.state_before_step-requires-clause-fitting
state_before_step-requires-clause-fitting c = rw c.statements.ensures c.requires.fitting

pub state_before_step-requires-clause-last : goal.state_before_step-requires-clause-last
state_before_step-requires-clause-last c = omega (arith, c.size-steps.ensures, c.if-steps-step.false)

pub returns-in-Err : goal.returns-in-Err
returns-in-Err c =
    stopped_next c.answer_of_stop.result c.args.known.now (entry_of c.args.theorem.now) c.args.step c.in-Err.stop (omega (arith, c.size-steps.ensures, c.if-steps-step.false)) c.in-Err.ensures.earlier
    (rw c.statements.ensures at c.in-Err.ensures.stop) (rw c.statements.ensures at c.in-Err.ensures.names) c.answer_of_stop.ensures

pub returns : goal.returns
returns c =
    answered_next c.answer_at-answer.result c.args.known.now (entry_of c.args.theorem.now) c.args.step c.in-Ok.state (rw c.statements.ensures at c.in-Ok.ensures.state) c.answer_at-answer.ensures
