-- What holds of reading, whatever the code does.
use Rattle.std.specs.Prelude.{◌≡◌, ◌⊎◌, ℕ, Bool, true, false, not, List, [], ◌∷◌, ◌++◌, filter}
use Rattle.std.specs.Prelude.{Some, None, Result, Ok, Err}
use Rattle.e_text.specs.Tokens.{tokens_of}
use Rattle.e_text.specs.Lines.{LineView}
use Rattle.e_clause.specs.declared.cert.Version.{Version}
use Rattle.e_text.specs.declared.line.LineFault.{LineFault}
use Rattle.e_names.specs.TitledStatements.{TitledStatement}
use Rattle.e_book.specs.TheoremViews.{TheoremView}
use Rattle.e_book.specs.Grammar.{read_from}
use Rattle.e_read.specs.Text.{Derived, is_bar, at_start, piece_from, without_certs}

-- a line of a certificate begins with the word `|`
abbrev pub begins_with_bar : List (List ℕ) → Bool
begins_with_bar [] = false
begins_with_bar (w ∷ ws) = is_bar w

abbrev pub is_of_theorem : Result LineView LineFault → Bool
is_of_theorem (Ok l) = not (begins_with_bar (tokens_of l.bytes))
is_of_theorem (Err f) = true

-- the lines without those of certificates, as lines of a book, are the theorem without its
-- certificates
pub record ReadsAsBook (known : List TitledStatement) (last : ℕ) (t : TheoremView)
    (lines rest : List (Result LineView LineFault)) : Type 0 where
  pub front : List (Result LineView LineFault)
  pub all : lines ≡ front ++ rest
  pub read : read_from known last None (filter is_of_theorem front ++ rest)
      ≡ Ok (Some (without_certs t, rest))

-- a theorem that is read with its derivation is that theorem of a book
abbrev pub DerivationsAreOfBooks : Type 0
DerivationsAreOfBooks =
    (v : Version) (known : List TitledStatement) (last : ℕ) (t : TheoremView)
    (lines rest : List (Result LineView LineFault))
    → piece_from known last (at_start v) lines ≡ Ok (Derived t, rest)
    → ReadsAsBook known last t lines rest

-- The lines begin with a front of which no line is wrong: read alone it only ends too soon. The
-- line after the front is malformed at its place, whatever follows it, and has this number.
pub record GarblesAt (v : Version) (known : List TitledStatement)
    (lines : List (Result LineView LineFault)) (n : ℕ) : Type 0 where
  pub front : List (Result LineView LineFault)
  pub line : Result LineView LineFault
  pub rest : List (Result LineView LineFault)
  pub all : lines ≡ front ++ line ∷ rest
  pub before : (last : ℕ) → piece_from known last (at_start v) front ≡ Err last
  pub there : (last : ℕ) (other : List (Result LineView LineFault))
      → piece_from known last (at_start v) (front ++ line ∷ other) ≡ Err n

-- no line is wrong, and they end inside a theorem: at the number after the last line, whichever it
-- is
abbrev pub EndsTooSoon : Version → List TitledStatement → List (Result LineView LineFault) → Type 0
EndsTooSoon v known lines = (last : ℕ) → piece_from known last (at_start v) lines ≡ Err last

-- the garbled line is the first, and depends on the lines up to it alone
abbrev pub GarbledLineIsFirst : Type 0
GarbledLineIsFirst =
    (v : Version) (known : List TitledStatement) (last : ℕ)
    (lines : List (Result LineView LineFault)) (n : ℕ)
    → piece_from known last (at_start v) lines ≡ Err n
    → GarblesAt v known lines n ⊎ (EndsTooSoon v known lines × (n ≡ last))
