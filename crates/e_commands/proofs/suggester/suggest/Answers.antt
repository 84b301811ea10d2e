use Rattle.e_commands.specs.Outcome.{lines_of_book}
use Rattle.e_commands.specs.SuggesterAnswers.{SuggestAnswer}
use Rattle.e_commands.proofs.answers.Finished.{finished_wrote, may_finish, rose_here}
use Rattle.e_commands.proofs.suggester.suggest.Goals as goal

pub finish-requires : goal.finish-requires
finish-requires g c = let d = c.answer_to_source.ensures.due in may_finish (SuggestAnswer (lines_of_book d.0) c.args.title c.args.step) c.answer_to_source.result (λ out h. h) d.2

pub returns-clause-suggests : goal.returns-clause-suggests
returns-clause-suggests g c =
    let d = c.answer_to_source.ensures.due in
    (d.0, d.1, finished_wrote (SuggestAnswer (lines_of_book d.0) c.args.title c.args.step) (g.K.Sink.written c.args.sink.now) (g.K.Sink.written c.finish.new.sink) c.answer_to_source.result c.finish.result d.2 c.finish.ensures.finishes)

pub returns-clause-read_cause : goal.returns-clause-read_cause
returns-clause-read_cause g c = λ h. c.answer_to_source.ensures.cause (c.finish.ensures.read h)

pub returns-clause-write_cause : goal.returns-clause-write_cause
returns-clause-write_cause g c =
    let d = c.answer_to_source.ensures.due in
    λ h. rose_here (SuggestAnswer (lines_of_book d.0) c.args.title c.args.step) c.answer_to_source.result _ _ d.2 (c.finish.ensures.cause h)
