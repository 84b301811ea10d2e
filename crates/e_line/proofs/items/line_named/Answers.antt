use Rattle.std.proofs.Common.{sym, ◌∙◌}
use Rattle.e_line.specs.Reading.{texts}
use Rattle.e_line.proofs.base.Cited.{cited_is, cited_fails}
use Rattle.e_line.proofs.items.line_named.Goals as goal

pub returns-in-Ok : goal.returns-in-Ok
returns-in-Ok c = cited_is c.args.word.now (texts c.args.rest.now) c.in-Ok.raw_line (sym c.is.ensures ∙ c.if-is.true) c.in-Ok.ensures

pub returns-in-Err : goal.returns-in-Err
returns-in-Err c = cited_fails c.args.word.now (texts c.args.rest.now) c.in-Err.error (sym c.is.ensures ∙ c.if-is.true) c.in-Err.ensures
