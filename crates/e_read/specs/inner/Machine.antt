-- A block of a derivation text while its lines come, by what the parser holds.
use Rattle.std.specs.Prelude.{◌≡◌, IfSome, IsTrue, ℕ, ◌≤◌, ◌&&◌, Bool, true, false, ◌∷◌, ◌++◌}
use Rattle.std.specs.Prelude.{List, [], length, is_none, Option, Some, None, Result, Ok, Err}
use Rattle.std.specs.Prelude.{if◌then◌else◌}
use Rattle.std.specs.Option.{option_to_list}
use Rattle.std.specs.Str.{bytes_eq}
use Rattle.e_text.specs.Tokens.{tokens_of}
use Rattle.e_text.specs.Lines.{LineView, Ahead, view_of_line, line_of_fault}
use Rattle.e_text.specs.declared.line.Line.{Line}
use Rattle.e_text.specs.declared.line.LineFault.{LineFault}
use Rattle.e_clause.specs.declared.cert.Version.{Version}
use Rattle.e_line.specs.declared.fault.FaultKind.{FaultKind}
use Rattle.e_line.specs.declared.fault.FaultKind.TheVariants.{Malformed}
use Rattle.e_line.specs.declared.raw_line.RawLine.{RawLine}
use Rattle.e_book.specs.declared.parser.TheoremParser.{TheoremParser}
use Rattle.e_line.specs.Reading.{◌>>=◌}
use Rattle.e_names.specs.TitledStatements.{TitledStatement}
use Rattle.e_book.specs.ParserViews.{entry_of_parser}
use Rattle.e_book.specs.TheoremViews.{TheoremView}
use Rattle.e_names.specs.Scope.{FewNames}
use Rattle.e_book.specs.Steps.{begin, step, no_names, count_names, FitsScope}
use Rattle.e_book.specs.Grammar.{last_line}
use Rattle.e_book.specs.Book.{is_done}
use Rattle.e_cert.specs.declared.cert_line.CertLine.{CertLine}
use Rattle.e_cert.specs.declared.owed.Obligation.{Obligation}
use Rattle.e_cert.specs.declared.owed.Obligation.TheVariants as due
use Rattle.e_cert.specs.declared.owed.Pending.{Pending}
use Rattle.e_cert.specs.declared.kept.StepCerts.{StepCerts}
use Rattle.e_read.specs.declared.reading.BlockParser.{BlockParser}
use Rattle.e_read.specs.declared.reader.Progress.{Progress}
use Rattle.e_read.specs.declared.reader.Progress.TheVariants as turns
use Rattle.e_read.specs.declared.reader.TextFault.{TextFault}
use Rattle.e_read.specs.declared.reader.TextFault.TheVariants as faults
use Rattle.e_cert.specs.CertLines.{cert_line_is_of}
use Rattle.e_line.specs.CanonicalLines.{canonical_line}
use Rattle.e_cert.specs.CanonicalCertLines.{canonical_cert_line}
use Rattle.e_read.specs.inner.Strict.{is_apart}
use Rattle.e_cert.specs.Owed.{after_cert_line, finish_certs}
use Rattle.e_read.specs.inner.Needs.{due_of}
use Rattle.e_read.specs.Filled.{script_with_certs}
use Rattle.e_read.specs.Text.{TextPiece, Derived, Last, is_bar, is_lf_end, last_line_of, garbled_at}

-- ---- lines

abbrev pub owes_nothing : Pending
owes_nothing = record { names = no_names; due = due.Nothing; sums = None }

abbrev pub is_nothing : Obligation → Bool
is_nothing due.Nothing = true
is_nothing d = false

-- no certificate is owed, and none is begun
abbrev pub is_settled : Pending → Bool
is_settled o = is_nothing o.due && is_none o.sums

-- before the first line of a block, in a text of this version
abbrev pub at_start : Version → BlockParser
at_start v = record { version = v; parser = None; owed = owes_nothing; kept = [] }

-- a line of a certificate is taken, and what is owed after it is left
unfoldable pub with_cert_line : BlockParser → CertLine → Result BlockParser FaultKind
with_cert_line r m = after_cert_line r.owed m >>= λ o. Ok (record r { owed = o })

-- a line of a certificate, which may come in the version of the text
unfoldable pub parser_after_certificate : BlockParser → List ℕ → List (List ℕ)
    → Result BlockParser FaultKind
parser_after_certificate r line words =
    canonical_cert_line line words
    >>= λ m. if cert_line_is_of r.version m then with_cert_line r m else Err Malformed

-- what a line owes, with the names in scope before it
unfoldable pub owed_by : List TitledStatement → TheoremParser → RawLine → Result Pending FaultKind
owed_by known d f =
    due_of known d f >>= λ new. Ok (record { names = d.in_scope; due = new; sums = None })

-- a line begins a theorem, or goes on with it, and owes certificates of its own
abbrev pub parser_and_owed : List TitledStatement → Option TheoremParser → RawLine
    → Result (TheoremParser × Pending) FaultKind
parser_and_owed known None f = begin known f >>= λ e. Ok (e, owes_nothing)
parser_and_owed known (Some d) f =
    if is_apart d f then (owed_by known d f >>= λ o. step known d f >>= λ e. Ok (e, o)) else
    Err Malformed

-- nothing is owed any more, and what was read is kept
abbrev pub finish_line : BlockParser → Result BlockParser FaultKind
finish_line r =
    finish_certs r.owed >>= λ k. Ok (record {
      version = r.version;
      parser = r.parser;
      owed = owes_nothing;
      kept = r.kept ++ option_to_list k;
    })

-- any other line comes where nothing is owed any more
unfoldable pub with_raw_line : List TitledStatement → BlockParser → RawLine
    → Result BlockParser FaultKind
with_raw_line known r f =
    finish_line r >>= λ s. parser_and_owed known s.parser f
    >>= λ e. Ok (record { version = s.version; parser = Some e.0; owed = e.1; kept = s.kept })

unfoldable pub parser_after_exact_line : List TitledStatement → BlockParser → List ℕ
    → Result BlockParser FaultKind
parser_after_exact_line known r line = canonical_line line >>= λ f. with_raw_line known r f

-- a line by its words: the sign `|` comes before each line of a certificate
unfoldable pub parser_after_words : List TitledStatement → BlockParser → List ℕ → List (List ℕ)
    → Result BlockParser FaultKind
parser_after_words known r line [] = Err Malformed
parser_after_words known r line (w ∷ ws) =
    if is_bar w then parser_after_certificate r line ws else parser_after_exact_line known r line

-- a line by its bytes
unfoldable pub parser_after_bytes : List TitledStatement → BlockParser → List ℕ
    → Result BlockParser FaultKind
parser_after_bytes known r line = parser_after_words known r line (tokens_of line)

-- each line ends with a line feed
unfoldable pub parser_after_line : List TitledStatement → BlockParser → LineView
    → Result BlockParser FaultKind
parser_after_line known r l =
    if is_lf_end l.end then parser_after_bytes known r l.bytes else Err Malformed

-- ---- blocks

abbrev pub is_last_line : List TitledStatement → LineView → Bool
is_last_line known l =
    if is_lf_end l.end then bytes_eq l.bytes (last_line_of (length known)) else false

-- a theorem with its certificates at their lines
abbrev pub theorem_with_certs : TheoremParser → List StepCerts → TheoremView
theorem_with_certs d kept =
    let t = entry_of_parser d in record t { script = (script_with_certs t.script kept).0 }

-- the last line of a theorem has come
abbrev pub is_finished : Option TheoremParser → Bool
is_finished None = false
is_finished (Some d) = is_done d

abbrev pub finished_theorem : Option TheoremParser → List StepCerts → Option TheoremView
finished_theorem None kept = None
finished_theorem (Some d) kept = if is_done d then Some (theorem_with_certs d kept) else None

abbrev pub or_on : Option TheoremView → List (Result LineView LineFault)
    → Result (TextPiece × List (Result LineView LineFault)) ℕ
    → Result (TextPiece × List (Result LineView LineFault)) ℕ
or_on None lines more = more
or_on (Some t) lines more = Ok (Derived t, lines)

-- the line is the last one of a text, at the place of a theorem's first line
abbrev pub is_end : List TitledStatement → Option TheoremParser → LineView → Bool
is_end known None l = is_last_line known l
is_end known (Some d) l = false

-- the rest of what comes next and the lines after it, or the first line that is malformed at its
-- place; last is the number after the last line
unfoldable pub piece_from : List TitledStatement → ℕ → BlockParser
    → List (Result LineView LineFault) → Result (TextPiece × List (Result LineView LineFault)) ℕ
piece_from known last r [] = Err last
piece_from known last r (Err f ∷ lines) = Err (line_of_fault f)
piece_from known last r (Ok line ∷ lines) =
    if is_end known r.parser line then Ok (Last, lines) else
    (garbled_at line.number (parser_after_line known r line)
    >>= λ next. or_on (finished_theorem next.parser next.kept) lines
    (piece_from known last next lines))

-- what a line made of a block, unless memory ran out
abbrev pub LineReads : Result (Unit {0}) TextFault → BlockParser → Result BlockParser ℕ → Type 0
LineReads (Ok u) new read = read ≡ Ok new
LineReads (Err (faults.Garbled line)) new read = read ≡ Err line
LineReads (Err faults.NoMemory) new read = Unit {0}

-- the next line, or what comes next is garbled whatever of a block has come
abbrev pub LineIs : Result Line TextFault → Ahead → Ahead → Type 0
LineIs (Ok line) old new = old.lines ≡ Ok (view_of_line line) ∷ new.lines
LineIs (Err (faults.Garbled n)) old new =
    (known : List TitledStatement) (r : BlockParser)
    → piece_from known (last_line old) r old.lines ≡ Err n
LineIs (Err faults.NoMemory) old new = ⊥

-- what comes next, where this line comes before any others and made this of the block, unless
-- memory ran out
abbrev pub ProgressIs : List TitledStatement → BlockParser → LineView → BlockParser
    → Result Progress TextFault → Type 0
ProgressIs known old line new (Ok turns.Last) =
    (last : ℕ) (rest : List (Result LineView LineFault))
    → piece_from known last old (Ok line ∷ rest) ≡ Ok (Last, rest)
ProgressIs known old line new (Ok turns.Complete) = IsTrue (is_finished new.parser)
    × ((t : TheoremView) → finished_theorem new.parser new.kept ≡ Some t → (last : ℕ)
    (rest : List (Result LineView LineFault))
    → piece_from known last old (Ok line ∷ rest) ≡ Ok (Derived t, rest))
ProgressIs known old line new (Ok turns.Continue) =
    (last : ℕ) (rest : List (Result LineView LineFault))
    → piece_from known last old (Ok line ∷ rest) ≡ piece_from known last new rest
ProgressIs known old line new (Err (faults.Garbled n)) =
    (last : ℕ) (rest : List (Result LineView LineFault))
    → piece_from known last old (Ok line ∷ rest) ≡ Err n
ProgressIs known old line new (Err faults.NoMemory) = Unit {0}

-- ---- what is known of a block while its lines come: its names and counts are within the limits

pub record FitsParser (d : TheoremParser) : Type 0 where
  pub scope : FitsScope d
  -- no more objects are made than have names
  pub made : length d.made ≤ count_names d.names

pub record FitsReading (r : BlockParser) : Type 0 where
  pub parser : IfSome r.parser FitsParser
  pub names : FewNames r.owed.names
