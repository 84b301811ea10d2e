use Rattle.e_commands.specs.Answers.{IsDrawn}
use Rattle.e_commands.specs.Input.{IsAtEnd}
use Rattle.e_commands.specs.DrawerAnswers.{FigureAnswer}
use Rattle.e_commands.proofs.answers.Finished.{finished_wrote, finished_as, may_finish, rose_here}
use Rattle.e_commands.proofs.drawer.figure.Goals as goal

pub finish-requires : goal.finish-requires
finish-requires g c = let d = c.answer_to_source.ensures.due in may_finish (FigureAnswer d.0) c.answer_to_source.result (λ out h. h) d.2

pub returns-clause-draws : goal.returns-clause-draws
returns-clause-draws g c =
    let d = c.answer_to_source.ensures.due in
    (d.0, d.1, finished_wrote (FigureAnswer d.0) (g.K.Sink.written c.args.sink.now) (g.K.Sink.written c.finish.new.sink) c.answer_to_source.result c.finish.result d.2 c.finish.ensures.finishes)

pub returns-clause-end : goal.returns-clause-end
returns-clause-end g c =
    λ v. finished_as IsDrawn (IsAtEnd (g.S.Source.left c.answer_to_source.new.source)) (g.K.Sink.written c.args.sink.now) (g.K.Sink.written c.finish.new.sink) c.answer_to_source.result c.finish.result (λ n. n) (λ n. n) (λ n. n)
    c.answer_to_source.ensures.end c.finish.ensures.finishes v

pub returns-clause-read_cause : goal.returns-clause-read_cause
returns-clause-read_cause g c = λ h. c.answer_to_source.ensures.cause (c.finish.ensures.read h)

pub returns-clause-write_cause : goal.returns-clause-write_cause
returns-clause-write_cause g c =
    let d = c.answer_to_source.ensures.due in
    λ h. rose_here (FigureAnswer d.0) c.answer_to_source.result _ _ d.2 (c.finish.ensures.cause h)
