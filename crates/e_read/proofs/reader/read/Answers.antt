use Rattle.std.proofs.Common.{subst}
use Rattle.e_book.specs.Grammar.{last_line}
use Rattle.e_read.specs.Text.{TextReads}
use Rattle.e_read.proofs.TextTied.{text_read}
use Rattle.e_read.proofs.Consequences.{answer_spelled, answer_version, answer_states}
use Rattle.e_read.proofs.reader.read.Goals as goal

pub returns-clause-read : goal.returns-clause-read
returns-clause-read c =
    subst (λ (x : _). TextReads c.args.known.now c.read_piece.result c.read_piece.new.lines x) (text_read c.args.version c.args.known.now (last_line c.args.lines.now) c.args.lines.now.lines) c.read_piece.ensures.read

pub returns-clause-spelled : goal.returns-clause-spelled
returns-clause-spelled c =
    answer_spelled c.args.version c.args.known.now (last_line c.args.lines.now) c.args.lines.now.lines c.read_piece.result c.read_piece.new.lines c.read_piece.ensures.read

pub returns-clause-states : goal.returns-clause-states
returns-clause-states c =
    answer_states c.args.version c.args.known.now (last_line c.args.lines.now) c.args.lines.now.lines c.read_piece.result c.read_piece.new.lines c.read_piece.ensures.read

pub returns-clause-version : goal.returns-clause-version
returns-clause-version c =
    answer_version c.args.version c.args.known.now (last_line c.args.lines.now) c.args.lines.now.lines c.read_piece.result c.read_piece.new.lines c.read_piece.ensures.read
