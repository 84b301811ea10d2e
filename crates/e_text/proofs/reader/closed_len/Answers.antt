use Rattle.std.proofs.Common.{refl}
use Rattle.e_text.proofs.ClosedTexts.{closed_at, open_after, open_all}
use Rattle.e_text.proofs.reader.closed_len.Goals as goal

pub returns-in-None-clause-closed : goal.returns-in-None-clause-closed
returns-in-None-clause-closed c = refl

pub returns-in-None-clause-rest : goal.returns-in-None-clause-rest
returns-in-None-clause-rest c = open_all c.args.bytes.now c.in-None.ensures

pub returns-in-Some-clause-closed : goal.returns-in-Some-clause-closed
returns-in-Some-clause-closed c = closed_at c.args.bytes.now c.in-Some.last c.in-Some.ensures.0.high c.in-Some.ensures.1

pub returns-in-Some-clause-rest : goal.returns-in-Some-clause-rest
returns-in-Some-clause-rest c = open_after c.args.bytes.now c.in-Some.last c.in-Some.ensures.0.after
