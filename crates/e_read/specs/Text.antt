-- The grammar of derivation texts: the lines of a book, each as its raw line is spelled, and below
-- each the certificates that it owes.
use Rattle.std.specs.Prelude.{◌≡◌, ℕ, ◌&&◌, Bool, true, false, List, [], ◌∷◌, ◌++◌, length, decimal, codes}
use Rattle.std.specs.Prelude.{option_and_then, Option, Some, None, Result, Ok, Err, if◌then◌else◌}
use Rattle.std.specs.Option.{option_to_list}
use Rattle.std.specs.Str.{bytes_eq}
use Rattle.e_text.specs.Tokens.{tokens_of, joined_words}
use Rattle.e_text.specs.Lines.{LineView, Ahead, line_of_fault}
use Rattle.e_text.specs.declared.line.LineEnd.{LineEnd}
use Rattle.e_text.specs.declared.line.LineEnd.TheVariants as ends
use Rattle.e_text.specs.declared.line.LineFault.{LineFault}
use Rattle.e_clause.specs.declared.cert.Version.{Version}
use Rattle.e_deriv.specs.declared.names.Names.{Names}
use Rattle.e_deriv.specs.Script.{bare_script}
use Rattle.e_line.specs.declared.fault.FaultKind.{FaultKind}
use Rattle.e_line.specs.declared.fault.FaultKind.TheVariants.{Malformed}
use Rattle.e_line.specs.declared.raw_line.RawLine.{RawLine}
use Rattle.e_line.specs.Reading.{◌>>=◌}
use Rattle.e_line.specs.CanonicalLines.{canonical_line}
use Rattle.e_names.specs.TitledStatements.{TitledStatement}
use Rattle.e_book.specs.declared.theorem.Theorem.{Theorem}
use Rattle.e_book.specs.TheoremViews.{TheoremView, entry_of}
use Rattle.e_book.specs.Steps.{no_names}
use Rattle.e_book.specs.Open.{Open}
use Rattle.e_book.specs.Counts.{context_at}
use Rattle.e_book.specs.Grammar.{Rest, line_after, theorem_ended}
use Rattle.e_cert.specs.declared.cert_line.CertLine.{CertLine}
use Rattle.e_cert.specs.declared.kept.StepCerts.{StepCerts}
use Rattle.e_cert.specs.CertLines.{cert_line_is_of}
use Rattle.e_cert.specs.CanonicalCertLines.{canonical_cert_line}
use Rattle.e_cert.specs.Certificates.{Lack, Wrong, Due, Nothing, below}
use Rattle.e_read.specs.declared.reader.Piece.{Piece as PieceRead}
use Rattle.e_read.specs.declared.reader.Piece.TheVariants as read
use Rattle.e_read.specs.declared.reader.TextFault.{TextFault}
use Rattle.e_read.specs.declared.reader.TextFault.TheVariants as faults
use Rattle.e_read.specs.Filled.{script_with_certs}
use Rattle.e_read.specs.Owing.{due_after, is_apart}

-- what has come of a block: what the lines of its theorem have said; what the last of them owes,
-- with the names in scope before it, and the lines of certificates below it; and the certificates
-- of the lines before it
pub record Block : Type 0 where
  pub version : Version
  pub said : Option Open
  pub names : Names
  pub due : Due
  pub lines : List CertLine
  pub kept : List StepCerts

-- before the first line of a block, in a text of this version
abbrev pub at_start : Version → Block
at_start v =
    record { version = v; said = None; names = no_names; due = Nothing; lines = []; kept = [] }

-- the lines are a front of certificates, or all
abbrev pub is_front : {A : Type 0} → Result A Lack → Bool
is_front (Err Wrong) = false
is_front found = true

-- one more line of certificates, with which they are still a front of what is owed
abbrev pub with_cert_line : Block → CertLine → Result Block FaultKind
with_cert_line b m =
    if cert_line_is_of b.version m && is_front (below b.names b.due (b.lines ++ m ∷ []))
    then Ok (record b { lines = b.lines ++ m ∷ [] }) else Err Malformed

abbrev pub or_lacks : {A : Type 0} → Result A Lack → Result A FaultKind
or_lacks (Ok x) = Ok x
or_lacks (Err e) = Err Malformed

-- the names in scope before the next line, and what it owes
abbrev pub owing_after : List TitledStatement → Option Open → RawLine
    → Result (Names × Due) FaultKind
owing_after known None f = Ok (no_names, Nothing)
owing_after known (Some o) f =
    if is_apart o f then (due_after known o f >>= λ due. Ok ((context_at known o).names, due)) else
    Err Malformed

-- the next line of the theorem, where what the line before it owes has come
abbrev pub with_raw_line : List TitledStatement → Block → RawLine → Result Block FaultKind
with_raw_line known b f = do
  certs ← or_lacks (below b.names b.due b.lines)
  owed ← owing_after known b.said f
  o ← line_after known b.said f
  Ok (record {
    version = b.version;
    said = Some o;
    names = owed.0;
    due = owed.1;
    lines = [];
    kept = b.kept ++ option_to_list certs;
  })

abbrev pub is_bar : List ℕ → Bool
is_bar word = bytes_eq word (codes "|")

-- a line by its words: the sign `|` comes before each line of a certificate
abbrev pub with_words : List TitledStatement → Block → List ℕ → List (List ℕ)
    → Result Block FaultKind
with_words known b line [] = Err Malformed
with_words known b line (w ∷ ws) =
    if is_bar w then (canonical_cert_line line ws >>= λ m. with_cert_line b m) else
    (canonical_line line >>= λ f. with_raw_line known b f)

abbrev pub is_lf_end : LineEnd → Bool
is_lf_end ends.Lf = true
is_lf_end end = false

-- each line ends with a line feed
abbrev pub with_line : List TitledStatement → Block → LineView → Result Block FaultKind
with_line known b l =
    if is_lf_end l.end then with_words known b l.bytes (tokens_of l.bytes) else Err Malformed

-- what comes next: a theorem with its derivation for its script, or the last line
pub data TextPiece : Type 0 where
  Derived : (theorem : TheoremView) → TextPiece
  Last : TextPiece

-- the last line says how many theorems there are
abbrev pub last_line_of : ℕ → List ℕ
last_line_of n = joined_words (codes "accepted" ∷ decimal n ∷ [])

-- it comes in the place of a theorem's first line
abbrev pub is_end : List TitledStatement → Option Open → LineView → Bool
is_end known None l = is_lf_end l.end && bytes_eq l.bytes (last_line_of (length known))
is_end known (Some o) l = false

abbrev pub garbled_at : {A : Type 0} → ℕ → Result A FaultKind → Result A ℕ
garbled_at line (Ok x) = Ok x
garbled_at line (Err kind) = Err line

-- a theorem that has ended, with its certificates at their lines, or what comes after
abbrev pub or_on : Option TheoremView → List StepCerts → Rest → Result (TextPiece × Rest) ℕ
    → Result (TextPiece × Rest) ℕ
or_on None kept lines more = more
or_on (Some t) kept lines more =
    Ok (Derived (record t { script = (script_with_certs t.script kept).0 }), lines)

-- the rest of what comes next and the lines after it, or the first line that is malformed at its
-- place; last is the number after the last line
unfoldable pub piece_from : List TitledStatement → ℕ → Block → Rest → Result (TextPiece × Rest) ℕ
piece_from known last b [] = Err last
piece_from known last b (Err f ∷ lines) = Err (line_of_fault f)
piece_from known last b (Ok line ∷ lines) =
    if is_end known b.said line then Ok (Last, lines) else
    (garbled_at line.number (with_line known b line)
    >>= λ n. or_on (option_and_then theorem_ended n.said) n.kept lines
    (piece_from known last n lines))

-- ---- what is read

-- what was answered is what comes next, unless memory ran out
abbrev pub TextReads : List TitledStatement → Result PieceRead TextFault → Ahead
    → Result (TextPiece × List (Result LineView LineFault)) ℕ → Type 0
TextReads known (Ok (read.Theorem t)) new from = from ≡ Ok (Derived (entry_of t), new.lines)
TextReads known (Ok (read.Last n)) new from = (n ≡ length known) × (from ≡ Ok (Last, new.lines))
TextReads known (Err (faults.Garbled line)) new from = from ≡ Err line
TextReads known (Err faults.NoMemory) new from = Unit {0}

-- a theorem without its certificates
abbrev pub without_certs : TheoremView → TheoremView
without_certs t = record t { script = bare_script t.script }

-- what holds of a theorem, where one was read
abbrev pub OfTheorem : (Theorem → Type 0) → PieceRead → Type 0
OfTheorem holds (read.Theorem t) = holds t
OfTheorem holds (read.Last n) = Unit {0}
