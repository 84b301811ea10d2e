use Rattle.std.proofs.Common.{arith}
use Rattle.e_text.proofs.LinesOfTexts.{length-lines_of}
use Rattle.examples.proofs.items.first_item.Goals as goal

pub next_item-requires-clause-lines : goal.next_item-requires-clause-lines
next_item-requires-clause-lines c =
    rw c.new-lines.ensures (omega (arith, length-lines_of (record { longest = 1600; most = 4194304 }) (record { line = 1; before = 0 }) c.args.text.now, c.requires.few))
