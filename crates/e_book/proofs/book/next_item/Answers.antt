use Rattle.std.proofs.Common.{ap}
use Rattle.e_book.specs.Grammar.{last_line}
use Rattle.e_book.specs.declared.reading.Reading.{Reading}
use Rattle.e_book.proofs.parsers.ItemsRead.{reads_grammar, items_good, items_fit}
use Rattle.e_book.proofs.book.next_item.Goals as goal

pub read_with-read-requires-clause-begins : goal.read_with-read-requires-clause-begins
read_with-read-requires-clause-begins c = ap (λ (r : Reading). r.partial_item) c.new-reading.ensures

pub returns-clause-read : goal.returns-clause-read
returns-clause-read c =
    reads_grammar c.args.known.now (last_line c.args.lines.now) c.args.lines.now.lines c.read_with-read.result c.read_with-read.new.lines c.requires.notions c.read_with-read.ensures.read

pub returns-clause-good : goal.returns-clause-good
returns-clause-good c =
    items_good c.args.known.now (last_line c.args.lines.now) c.args.lines.now.lines c.read_with-read.result c.read_with-read.new.lines c.requires.notions c.read_with-read.ensures.read

pub returns-clause-fitting : goal.returns-clause-fitting
returns-clause-fitting c =
    items_fit c.args.known.now (last_line c.args.lines.now) c.args.lines.now.lines c.read_with-read.result c.read_with-read.new.lines c.requires.theorems c.requires.notions c.read_with-read.ensures.read
