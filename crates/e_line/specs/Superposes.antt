-- Superpositions, by their spelling.
use Rattle.std.specs.Prelude.{ℕ, List, [], ◌∷◌, length, take, drop, codes, Result, Ok, Err}
use Rattle.std.specs.Prelude.{if◌then◌else◌}
use Rattle.e_construct.specs.Lines.{Piece, New, Argument, Word}
use Rattle.e_line.specs.declared.fault.FaultKind.{FaultKind}
use Rattle.e_line.specs.declared.fault.FaultKind.TheVariants.{Malformed}
use Rattle.e_line.specs.declared.superposes.RawSuperpose.{RawSuperpose}
use Rattle.e_line.specs.Reading.{◌>>=◌, names_of}
use Rattle.e_line.specs.Literals.{lits_of}
use Rattle.e_line.specs.Lets.{are_words_of, new_words, argument_words}

-- after the word superpose, as in `a b c K onto d g h L as p q show`, before the literals
abbrev pub superpose_pieces : List Piece
superpose_pieces =
    Argument ∷ Argument ∷ Argument ∷ Argument ∷ Word (codes "onto")
    ∷ Argument ∷ Argument ∷ Argument ∷ Argument ∷ Word (codes "as")
    ∷ New ∷ New ∷ Word (codes "show") ∷ []

-- the words up to show, and those of the literals
abbrev pub words_to_show : List (List ℕ) → List (List ℕ)
words_to_show words = take (length superpose_pieces) words

abbrev pub words_shown : List (List ℕ) → List (List ℕ)
words_shown words = drop (length superpose_pieces) words

-- the words up to show, and those of the literals
unfoldable pub raw_superpose_of : List (List ℕ) → List (List ℕ) → Result RawSuperpose FaultKind
raw_superpose_of head rest =
    if are_words_of superpose_pieces head
    then (names_of (new_words superpose_pieces head)
    >>= λ new. names_of (argument_words superpose_pieces head) >>= λ args. lits_of rest
    >>= λ ls. Ok (record { args = args; new = new; shown = ls }))
    else Err Malformed

-- what comes after superpose: a word for each piece, and then literals
unfoldable pub superpose_of : List (List ℕ) → Result RawSuperpose FaultKind
superpose_of words = raw_superpose_of (words_to_show words) (words_shown words)
