use Rattle.std.proofs.Common.{◌≡◌, length}
use Rattle.e_book.specs.Grammar.{last_line}
use Rattle.e_drawing.specs.Plans.{FitsPlan}
use Rattle.e_drawing.proofs.PlanLines.{Alike}
use Rattle.e_drawing.proofs.reading.read_plan.Given as goal

abbrev pub invariant-loop-line : goal.invariant-loop-line
invariant-loop-line l = record {
  alike : Alike (last_line l.initial.lines) l.initial.plan l.initial.lines.lines l.plan l.lines.lines;
  last : last_line l.lines ≡ last_line l.initial.lines;
  fits : FitsPlan l.plan;
}

abbrev pub decreases-loop-line : goal.decreases-loop-line
decreases-loop-line l = length l.lines.lines
