use Rattle.std.proofs.Common.{◌<◌, ◌^◌, sym, subst}
use Rattle.e_text.specs.Lines.{Ahead}
use Rattle.e_book.specs.Grammar.{last_line}
use Rattle.e_drawing.proofs.Drawn.{few_lines}
use Rattle.e_drawing.proofs.drawing.read_text.Goals as goal

pub read_plan-requires-clause-lines : goal.read_plan-requires-clause-lines
read_plan-requires-clause-lines c = subst (λ (a : Ahead). last_line a < 2 ^ 32) (sym c.new-lines.ensures) (few_lines c.args.text.now c.requires.few)
