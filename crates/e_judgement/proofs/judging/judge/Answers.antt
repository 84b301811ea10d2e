use Rattle.std.proofs.Common.{ap}
use Rattle.e_text.specs.Lines.{Ahead}
use Rattle.e_judgement.proofs.Passing.{not_begun, begins_then}
use Rattle.e_judgement.proofs.judging.judge.Goals as goal

pub begins-requires : goal.begins-requires
begins-requires c = ap (λ (a : Ahead). a.line) c.new-lines.ensures

pub returns-in_default : goal.returns-in_default
returns-in_default c =
    not_begun c.args.text.now c.new-lines.result.lines c.begins.new.lines c.begins.result (ap (λ (a : Ahead). a.lines) c.new-lines.ensures) c.begins.ensures c.in_default.is

pub returns : goal.returns
returns c =
    begins_then c.args.text.now c.new-lines.result.lines c.begins.new.lines c.begins.result c.in-Some.version c.judge_theorems-judged.result (ap (λ (a : Ahead). a.lines) c.new-lines.ensures)
    c.begins.ensures c.in-Some.is c.judge_theorems-judged.ensures
