use Rattle.std.proofs.Common.{◌≡◌, length}
use Rattle.e_book.specs.Grammar.{last_line}
use Rattle.e_commands.specs.inner.Suggesting.{IsOnWay}
use Rattle.e_commands.proofs.suggester.answer_to.Given as goal

abbrev pub invariant-loop-item : goal.invariant-loop-item
invariant-loop-item l = record {
  way : IsOnWay l.initial.lines.lines l.title l.known l.lines.lines;
  last : last_line l.lines ≡ last_line l.initial.lines;
}

abbrev pub decreases-loop-item : goal.decreases-loop-item
decreases-loop-item l = length l.lines.lines
