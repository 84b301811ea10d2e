use Rattle.std.proofs.Common.{◌∙◌}
use Rattle.e_commands.proofs.answers.MadeBooks.{made_closed, unmade_closed}
use Rattle.e_commands.proofs.maker.make.Goals as goal

pub returns-in-Ok-clause-makes : goal.returns-in-Ok-clause-makes
returns-in-Ok-clause-makes g c =
    made_closed c.args.theorems (g.K.Sink.written c.args.sink.now) (g.K.Sink.written c.close.new.sink) c.deref.result.now c.close.result (c.deref.ensures.value ∙ c.in-Ok.ensures) c.close.ensures.closes

pub returns-in-Err-clause-makes : goal.returns-in-Err-clause-makes
returns-in-Err-clause-makes g c =
    unmade_closed c.args.theorems (g.K.Sink.written c.args.sink.now) (g.K.Sink.written c.finish.new.sink) c.finish.result c.finish.ensures.finishes
