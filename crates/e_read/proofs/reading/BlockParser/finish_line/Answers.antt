use Rattle.std.proofs.Common.{sym, ◌∙◌}
use Rattle.e_read.proofs.Settled.{settled_owed, settled_line}
use Rattle.e_read.proofs.reading.BlockParser.finish_line.Goals as goal

pub returns-then-is_settled-clause-value : goal.returns-then-is_settled-clause-value
returns-then-is_settled-clause-value c = rw (c.replace.ensures.after, c.no_names.ensures) (settled_line c.args.self.now (sym c.is_settled.ensures ∙ c.if-is_settled.true))

pub returns-then-is_settled-clause-owed : goal.returns-then-is_settled-clause-owed
returns-then-is_settled-clause-owed c = rw (c.replace.ensures.after, c.no_names.ensures) (settled_owed c.args.self.now.owed (sym c.is_settled.ensures ∙ c.if-is_settled.true))
