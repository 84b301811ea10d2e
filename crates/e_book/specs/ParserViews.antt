-- What the parser's lines make: the statement, the close and the theorem of a parser.
use Rattle.std.specs.Prelude.{[], None}
use Rattle.e_deriv.specs.Script.{Script, Qed, Contradiction, Cases}
use Rattle.e_deriv.specs.PlainStep.{all_before}
use Rattle.e_theorem.specs.declared.statement.Statement.{Statement}
use Rattle.e_book.specs.declared.steps.CloseLine.{CloseLine}
use Rattle.e_book.specs.declared.steps.CloseLine.TheVariants as closes
use Rattle.e_book.specs.declared.parser.TheoremParser.{TheoremParser}
use Rattle.e_book.specs.TheoremViews.{TheoremView}

-- a close line, which has no certificate
abbrev pub script_of_close : CloseLine → Script
script_of_close (closes.Qed objects) = Qed objects []
script_of_close closes.Contradiction = Contradiction None
script_of_close (closes.Cases lit first second) = Cases lit first second

-- what the lines of a parser state
abbrev pub statement_of_parser : TheoremParser → Statement
statement_of_parser d =
    record { declared = d.declared; given = d.given; made = d.made; shown = d.shown }

-- the theorem that the lines of a parser make
abbrev pub entry_of_parser : TheoremParser → TheoremView
entry_of_parser d =
    record {
      title = d.title;
      names = d.names;
      statement = statement_of_parser d;
      script = all_before d.steps (script_of_close d.close);
    }
