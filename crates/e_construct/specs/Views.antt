-- What the program's pieces of lines are.
use Rattle.e_construct.specs.declared.lines.Piece.{Piece as CodePiece}
use Rattle.e_construct.specs.declared.lines.Piece.TheVariants as pieces
use Rattle.e_construct.specs.Lines.{Piece, New, Argument, Word}

abbrev pub piece_view : CodePiece → Piece
piece_view pieces.New = New
piece_view pieces.Argument = Argument
piece_view (pieces.Word w) = Word w.now
