use Rattle.std.proofs.Common.{rules}
use Rattle.e_text.specs.Lines.{view_of_line}
use Rattle.e_drawing.proofs.PlanLines.{takes_nothing}
use Rattle.e_drawing.proofs.reading.take_line.Goals as goal

pub returns-in_err-words-clause-takes : goal.returns-in_err-words-clause-takes
returns-in_err-words-clause-takes c = takes_nothing c.args.plan.now c.args.plan.now (view_of_line c.args.line.now) c.from_residual.result (search rules)
