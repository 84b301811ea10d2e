use Rattle.std.proofs.Common.{◌∙◌, ℕ, [], List, Err, Result, sym, ap, arith, length}
use Rattle.e_text.specs.Lines.{LineView, Ahead}
use Rattle.e_text.specs.declared.line.LineFault.{LineFault}
use Rattle.e_book.specs.Grammar.{last_line}
use Rattle.e_read.specs.inner.Machine.{piece_from}
use Rattle.e_read.proofs.Bridge.{Answer}
use Rattle.e_read.proofs.Pieces.{piece_none, piece_fault}
use Rattle.e_read.proofs.reader.next_line.Goals as goal

abbrev garbled : ℕ → Result Answer ℕ
garbled n = Err n

pub returns-in-Some-Err-clause-line : goal.returns-in-Some-Err-clause-line
returns-in-Some-Err-clause-line c =
    λ known r. ap (λ (ls : List (Result LineView LineFault)). piece_from known (last_line c.args.lines.now) r ls) (rw c.in-Some-Err.field-0-is at c.in-Some-Err.ensures).0
    ∙ piece_fault known (last_line c.args.lines.now) r c.in-Some-Err.fault [] ∙ ap garbled (sym c.faulty_line.ensures)

pub returns-in-None-clause-line : goal.returns-in-None-clause-line
returns-in-None-clause-line c =
    λ known r. ap (λ (ls : List (Result LineView LineFault)). piece_from known (last_line c.args.lines.now) r ls) c.in-None.ensures.0
    ∙ piece_none known (last_line c.args.lines.now) r ∙ ap garbled (omega (arith, ap length c.in-None.ensures.0, c.line.ensures, ap (λ (a : Ahead). a.line) c.in-None.ensures.1))
