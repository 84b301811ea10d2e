use Rattle.std.proofs.Common.{◌+◌, ◌∙◌, ap}
use Rattle.e_text.specs.Lines.{view_of_line}
use Rattle.e_judgement.specs.Steps.{version_at}
use Rattle.e_judgement.proofs.Passing.{begins_so, begins_not}
use Rattle.e_judgement.proofs.judging.begins.Goals as goal

pub returns-in-None : goal.returns-in-None
returns-in-None c = begins_not c.args.lines.now.lines c.next.new.self (ap version_at c.in-None.ensures.0)

pub returns-in-Some-Err : goal.returns-in-Some-Err
returns-in-Some-Err c = begins_not c.args.lines.now.lines c.next.new.self (ap version_at (rw c.in-Some-Err.field-0-is at c.in-Some-Err.ensures).0)

pub returns-in-Some-Ok : goal.returns-in-Some-Ok
returns-in-Some-Ok c =
    begins_so c.args.lines.now.lines (view_of_line c.in-Some-Ok.line) c.next.new.self c.version_of.result (rw c.in-Some-Ok.field-0-is at c.in-Some-Ok.ensures).0
    ((rw c.in-Some-Ok.field-0-is at c.in-Some-Ok.ensures).1 ∙ ap (λ n. n + 1) c.requires) c.version_of.ensures
