-- The judgement of a derivation text: its theorems are taken one after another, up to the first
-- block in which a line is malformed at its place or is not certified.
use Rattle.std.specs.Prelude.{◌≡◌, ◌⊎◌, ℕ, ◌+◌, Bool, ◌&&◌, List, [], ◌∷◌, ◌++◌, length, codes}
use Rattle.std.specs.Prelude.{Option, Some, None, Result, Ok, Err, if◌then◌else◌}
use Rattle.std.specs.Str.{bytes_eq}
use Rattle.e_text.specs.Lines.{LineView, lines_of, line_of_fault}
use Rattle.e_text.specs.declared.line.LineFault.{LineFault}
use Rattle.e_clause.specs.declared.cert.Version.{Version}
use Rattle.e_clause.specs.declared.cert.Version.TheVariants.{One, Two}
use Rattle.e_theorem.specs.Statements.{as_view}
use Rattle.e_deriv.specs.Certified.{Certified, verdict}
use Rattle.e_names.specs.TitledStatements.{TitledStatement, titled_statement, stated_by}
use Rattle.e_book.specs.TheoremViews.{TheoremView}
use Rattle.e_book.specs.Grammar.{Rest}
use Rattle.e_read.specs.Text.{at_start, piece_from, Derived, Last, is_lf_end}
use Rattle.e_judgement.specs.declared.judgement.Judgement.{Judgement}
use Rattle.e_judgement.specs.declared.judgement.Judgement.TheVariants.{Verified, Bad, Garbled}

-- after a theorem it is known
abbrev pub with_theorem : List TitledStatement → TheoremView → List TitledStatement
with_theorem known t = known ++ titled_statement t.title t.statement ∷ []

-- with this known, these lines begin with this theorem and its derivation, in this version, and
-- those are left after it
abbrev pub ReadsNext : Version → ℕ → List TitledStatement → Rest → TheoremView → Rest → Type 0
ReadsNext v last known lines t after =
    piece_from known last (at_start v) lines ≡ Ok (Derived t, after)

-- with this known, each certificate of the theorem's derivation certifies at its own step
abbrev pub IsCertified : List TitledStatement → TheoremView → Type 0
IsCertified known t = Certified (stated_by known) (as_view t.statement) t.script

-- these theorems are read one after another, and each is certified by those before it; then this is
-- known, and these lines are left
abbrev pub Passes : Version → ℕ → List TitledStatement → Rest → List TheoremView
    → List TitledStatement → Rest → Type 0
Passes v last known lines [] now rest = (known ≡ now) × (lines ≡ rest)
Passes v last known lines (t ∷ ts) now rest =
    (after : Rest) × ReadsNext v last known lines t after × IsCertified known t
    × Passes v last (with_theorem known t) after ts now rest

-- the number of a line
abbrev pub number_of_line : Result LineView LineFault → ℕ
number_of_line (Ok l) = l.number
number_of_line (Err f) = line_of_fault f

-- nothing comes after the last line
abbrev pub JudgedAfter : ℕ → Rest → Judgement
JudgedAfter n [] = Verified n
JudgedAfter n (x ∷ xs) = Garbled (number_of_line x)

-- the last line comes
abbrev pub EndsThere : Version → ℕ → List TitledStatement → Rest → Judgement → Type 0
EndsThere v last known lines j =
    (rest : Rest) × (piece_from known last (at_start v) lines ≡ Ok (Last, rest))
    × (j ≡ JudgedAfter (length known) rest)

-- a line of the next block is malformed at its place
abbrev pub BreaksThere : Version → ℕ → List TitledStatement → Rest → Judgement → Type 0
BreaksThere v last known lines j =
    (line : ℕ) × (piece_from known last (at_start v) lines ≡ Err line) × (j ≡ Garbled line)

-- no line of the next block is malformed, and this is the first step that is not certified
abbrev pub FailsThere : Version → ℕ → List TitledStatement → Rest → Judgement → Type 0
FailsThere v last known lines j =
    (t : TheoremView) × (after : Rest) × (step : ℕ) × ReadsNext v last known lines t after
    × (verdict (stated_by known) (as_view t.statement) t.script ≡ Err step) × (j ≡ Bad t.title step)

-- after the theorems `known`, these lines have this judgement
abbrev pub Closes : Version → ℕ → List TitledStatement → Rest → Judgement → Type 0
Closes v last known lines j =
    EndsThere v last known lines j
    ⊎ (BreaksThere v last known lines j ⊎ FailsThere v last known lines j)

-- these lines after the head of this version are theorems, each certified by those before it, and
-- then end so
pub record IsJudged (v : Version) (last : ℕ) (lines : Rest) (j : Judgement) : Type 0 where
  pub theorems : List TheoremView
  pub known : List TitledStatement
  pub rest : Rest
  pub passes : Passes v last [] lines theorems known rest
  pub closes : Closes v last known rest j

-- the first line of a derivation text
abbrev pub head_of : Version → List ℕ
head_of One = codes "derivation 1"
head_of Two = codes "derivation 2"

abbrev pub is_head : Version → LineView → Bool
is_head v l = is_lf_end l.end && bytes_eq l.bytes (head_of v)

-- the version that it says
abbrev pub version_of : LineView → Option Version
version_of l = if is_head One l then Some One else if is_head Two l then Some Two else None

-- after a line that says this the lines are judged so
abbrev pub JudgedAfterHead : Option Version → Rest → Judgement → Type 0
JudgedAfterHead None lines j = j ≡ Garbled 1
JudgedAfterHead (Some v) lines j = IsJudged v (2 + length lines) lines j

-- a text begins with the head line
abbrev pub JudgesLines : Rest → Judgement → Type 0
JudgesLines [] j = j ≡ Garbled 1
JudgesLines (Err f ∷ lines) j = j ≡ Garbled 1
JudgesLines (Ok l ∷ lines) j = JudgedAfterHead (version_of l) lines j

-- the lines of a derivation text: each has at most 262,144 bytes, and all bytes count
abbrev pub lines_of_text : List ℕ → Rest
lines_of_text text =
    lines_of (record { longest = 262144; most = length text })
    (record { line = 1; before = 0 }) text

-- a derivation text is judged so
abbrev pub JudgesText : List ℕ → Judgement → Type 0
JudgesText text j = JudgesLines (lines_of_text text) j
