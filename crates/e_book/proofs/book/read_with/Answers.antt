use Rattle.std.proofs.Common.{◌≡◌, ◌∙◌, None, Some, ap, sym, arith, length}
use Rattle.std.proofs.lemmas.Result.{err_from_is_err_and}
use Rattle.e_book.specs.Grammar.{last_line}
use Rattle.e_book.specs.inner.Machine.{item_from}
use Rattle.e_book.proofs.parsers.ReadingOn.{begun_first, from_nothing, book_fails, whole_item, whole_fault, ended_at, end_none, end_inside}
use Rattle.e_book.proofs.book.read_with.Goals as goal

pub read-requires-clause-partial_item : goal.read-requires-clause-partial_item
read-requires-clause-partial_item c = rw c.requires.begins tt

pub read-requires-clause-begun : goal.read-requires-clause-begun
read-requires-clause-begun c = rw c.requires.begins (begun_first c.args.known.now)

pub returns-in_err-item-clause-read : goal.returns-in_err-item-clause-read
returns-in_err-item-clause-read c =
    let p = err_from_is_err_and c.from_residual.result c.from_residual.ensures.1 in
    rw (p.1, p.2) (whole_fault c.args.known.now (last_line c.args.lines.now) c.args.lines.now.lines c.read.new.lines.lines c.read.new.self.partial_item c.in_err-item.field-0.0 (rw c.requires.begins at c.in_err-item.ensures.reads))

pub returns-in-Some-clause-read : goal.returns-in-Some-clause-read
returns-in-Some-clause-read c =
    whole_item c.args.known.now (last_line c.args.lines.now) c.args.lines.now.lines c.read.new.lines.lines c.read.new.self.partial_item c.in-Some.item
    (from_nothing c.args.known.now c.args.reading.now.partial_item c.read.new.self.partial_item c.args.lines.now.lines c.read.new.lines.lines c.in_ok-item.field-0 (Some c.in-Some.item) c.requires.begins c.in-Some.is c.in_ok-item.ensures.reads)

pub returns-in_err-end-in-None-clause-read : goal.returns-in_err-end-in-None-clause-read
returns-in_err-end-in-None-clause-read c =
    let reads = from_nothing c.args.known.now c.args.reading.now.partial_item c.read.new.self.partial_item c.args.lines.now.lines c.read.new.lines.lines c.in_ok-item.field-0 None c.requires.begins c.in-None.is c.in_ok-item.ensures.reads in
    let at = ended_at c.args.known.now (last_line c.args.lines.now) None c.read.new.self.partial_item c.args.lines.now.lines c.read.new.lines.lines reads in
    let line : c.line.result ≡ last_line c.args.lines.now = omega (arith, c.line.ensures, ap length reads.0, c.in_ok-item.ensures.last) in
    let p = err_from_is_err_and c.from_residual-in_err-end-in-None.result c.from_residual-in_err-end-in-None.ensures.1 in
    rw (p.1, p.2) (book_fails c.in_err-end-in-None.field-0.0 (item_from c.args.known.now (last_line c.args.lines.now) None c.args.lines.now.lines) (at ∙ end_inside c.line.result (last_line c.args.lines.now) c.read.new.self.partial_item c.in_err-end-in-None.field-0.0 line (sym c.end.ensures ∙ c.in_err-end-in-None.was)))

pub returns-in_ok-end-in-None-clause-read : goal.returns-in_ok-end-in-None-clause-read
returns-in_ok-end-in-None-clause-read c =
    let reads = from_nothing c.args.known.now c.args.reading.now.partial_item c.read.new.self.partial_item c.args.lines.now.lines c.read.new.lines.lines c.in_ok-item.field-0 None c.requires.begins c.in-None.is c.in_ok-item.ensures.reads in
    ended_at c.args.known.now (last_line c.args.lines.now) None c.read.new.self.partial_item c.args.lines.now.lines c.read.new.lines.lines reads
    ∙ end_none c.line.result (last_line c.args.lines.now) c.read.new.self.partial_item c.in_ok-end-in-None.field-0 (sym c.end.ensures ∙ c.in_ok-end-in-None.was)
