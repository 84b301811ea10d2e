use Rattle.std.proofs.Common.{refl}
use Rattle.e_generate.specs.Generated.{generated_text}
use Rattle.e_commands.specs.Outcome.{lines_of_book}
use Rattle.e_commands.specs.Trials.{TrialAnswer}
use Rattle.e_commands.proofs.answers.Finished.{or_due, finished_wrote, may_finish, rose_here}
use Rattle.e_commands.proofs.answers.Trials.{trial_unread}
use Rattle.e_commands.proofs.trier.trial.Goals as goal

pub finish-requires : goal.finish-requires
finish-requires g c =
    let Due = TrialAnswer (lines_of_book (generated_text c.args.theorems)) in
    may_finish Due c.or_no_memory.result (λ out h. h) (or_due Due c.answer_for.result c.or_no_memory.result refl c.answer_for.ensures c.or_no_memory.ensures)

pub returns-clause-tries : goal.returns-clause-tries
returns-clause-tries g c =
    let Due = TrialAnswer (lines_of_book (generated_text c.args.theorems)) in
    finished_wrote Due (g.K.Sink.written c.args.sink.now) (g.K.Sink.written c.finish.new.sink) c.or_no_memory.result c.finish.result (or_due Due c.answer_for.result c.or_no_memory.result refl c.answer_for.ensures c.or_no_memory.ensures) c.finish.ensures.finishes

pub returns-clause-cause : goal.returns-clause-cause
returns-clause-cause g c =
    let Due = TrialAnswer (lines_of_book (generated_text c.args.theorems)) in
    λ h. rose_here Due c.or_no_memory.result _ _ (or_due Due c.answer_for.result c.or_no_memory.result refl c.answer_for.ensures c.or_no_memory.ensures) (c.finish.ensures.cause h)

pub returns-clause-no_read : goal.returns-clause-no_read
returns-clause-no_read g c =
    let lines = lines_of_book (generated_text c.args.theorems) in
    λ h. trial_unread lines c.or_no_memory.result (or_due (TrialAnswer lines) c.answer_for.result c.or_no_memory.result refl c.answer_for.ensures c.or_no_memory.ensures) (c.finish.ensures.read h)
