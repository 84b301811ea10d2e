-- Where reading ends with the last line of a text, that line comes next.
use Rattle.std.proofs.Common.{◌≡◌, ℕ, true, false, cond, inl, inr, List, [], ◌∷◌, length, Option, Some, None, Result, Ok, Err, refl, sym, ap, ◌∙◌}
use Rattle.std.specs.Str.{bytes_eq}
use Rattle.std.proofs.lemmas.Slice.Eq.{bytes_eq-Decides}
use Rattle.e_text.specs.Lines.{LineView}
use Rattle.e_text.specs.declared.line.LineEnd.{LineEnd}
use Rattle.e_text.specs.declared.line.LineEnd.TheVariants as ends
use Rattle.e_clause.specs.declared.cert.Version.{Version}
use Rattle.e_book.specs.declared.parser.TheoremParser.{TheoremParser}
use Rattle.e_line.specs.declared.fault.FaultKind.{FaultKind}
use Rattle.e_line.specs.declared.fault.FaultKind.TheVariants.{Malformed}
use Rattle.e_line.specs.Reading.{◌>>=◌}
use Rattle.e_names.specs.TitledStatements.{TitledStatement}
use Rattle.e_book.specs.TheoremViews.{TheoremView}
use Rattle.e_book.specs.Grammar.{Rest}
use Rattle.e_names.specs.Scope.{lit_in}
use Rattle.e_line.proofs.base.Bound.{bind_ok}
use Rattle.e_cert.specs.declared.cert_line.CertLine.{CertLine}
use Rattle.e_cert.specs.declared.cert_line.CertLine.TheVariants as certlines
use Rattle.e_cert.specs.declared.owed.Obligation.TheVariants as due
use Rattle.e_cert.specs.declared.owed.Pending.{Pending}
use Rattle.e_read.specs.declared.reading.BlockParser.{BlockParser}
use Rattle.e_cert.specs.Owed.{row_put, differs_put, clash_put, sums_after, due_after, after_cert_line}
use Rattle.e_cert.specs.Rows.{row_in}
use Rattle.e_read.specs.Text.{Last, is_lf_end, garbled_at, last_line_of}
use Rattle.e_read.specs.inner.Machine.{owes_nothing, at_start, parser_after_line, finished_theorem, or_on, is_last_line, is_end, piece_from}
use Rattle.e_read.specs.Text as text
use Rattle.e_read.proofs.TextTied.{text_read}
use Rattle.e_read.proofs.Bridge.{Answer, no_last, garbled_ok}
use Rattle.e_read.proofs.TakenLines.{line_taken, either}
use Rattle.e_roundtrip.specs.Spelled.{ShowsEnded}

-- reading ends with the last line, and these lines are left
abbrev pub ended : Rest → Result Answer ℕ
ended rest = Ok (Last, rest)

-- after a line that ends a theorem it would not
goes_on_last : (t : Option TheoremView) (lines rest : Rest) (more : Result Answer ℕ) → or_on t lines more ≡ ended rest → more ≡ ended rest
goes_on_last None lines rest more e = e
goes_on_last (Some x) lines rest more e = absurd (no_last rest lines x (sym e))

-- inside a theorem no line is the last of a text
no_end : (known : List TitledStatement) (o : Option TheoremParser) (d : TheoremParser) (l : LineView) → o ≡ Some d → is_end known o l ≡ true → ⊥
no_end known None d l b e = absurd cc
no_end known (Some x) d l b e = absurd cc

-- so reading does not end there with the last line
never_last : (known : List TitledStatement) (last : ℕ) (r : BlockParser) (d : TheoremParser) (lines rest : Rest) → r.parser ≡ Some d → piece_from known last r lines ≡ ended rest → ⊥
unfolding piece_from
never_last known last r d [] rest b e = absurd cc
never_last known last r d (Err f ∷ lines) rest b e = absurd cc
never_last known last r d (Ok l ∷ lines) rest b e =
    let next : Result BlockParser ℕ = garbled_at l.number (parser_after_line known r l) in
    let then : BlockParser → Result Answer ℕ = λ x. or_on (finished_theorem x.parser x.kept) lines (piece_from known last x lines) in
    elim (either (is_end known r.parser l) (ended lines) (next >>= then) (ended rest) e) [
      | inl p ↦ no_end known r.parser d l b p.0
      | inr p ↦
          let x = bind_ok next then (Last, rest) p.1 in
          let took = garbled_ok l.number (parser_after_line known r l) x.0 x.1 in
          let more = goes_on_last (finished_theorem x.0.parser x.0.kept) lines rest (piece_from known last x.0 lines) x.2 in
          elim (line_taken known r x.0 l took) [
            | inl c ↦ never_last known last x.0 d lines rest (c.2.parser ∙ b) more
            | inr s ↦ never_last known last x.0 s.1.parser lines rest (ap (λ (y : BlockParser). y.parser) s.1.next_is) more
          ]
    ]

-- before the first line of a theorem no certificate is owed
refused : (o : Pending) → let r : Result Pending FaultKind = Err Malformed in r ≡ Ok o → ⊥
refused o e = absurd cc

no_cert_line : (m : CertLine) (o : Pending) → after_cert_line owes_nothing m ≡ Ok o → ⊥
unfolding after_cert_line
no_cert_line certlines.Fact o e = refused o e
no_cert_line certlines.Metric o e = refused o e
no_cert_line (certlines.FactAt k) o e = refused o e
no_cert_line (certlines.Transfer title raws) o e = refused o e
no_cert_line (certlines.Clash raw) o e = refused o (bind_ok (lit_in owes_nothing.names raw) (λ l. clash_put due.Nothing l >>= λ d. Ok (due_after owes_nothing d)) o e).2
no_cert_line certlines.Sum o e = refused o e
no_cert_line (certlines.Differs raw) o e = refused o (bind_ok (row_in owes_nothing.names raw) (λ r. differs_put None r >>= λ s. Ok (sums_after owes_nothing s)) o e).2
no_cert_line (certlines.Row m raw) o e = refused o (bind_ok (row_in owes_nothing.names raw) (λ r. row_put None m r >>= λ s. Ok (sums_after owes_nothing s)) o e).2

-- what a last line says
said : (end : LineEnd) (a b : List ℕ) → cond (is_lf_end end) (bytes_eq a b) false ≡ true → (a ≡ b) × (end ≡ ends.Lf)
said ends.Lf a b e = ((bytes_eq-Decides a b).0 e, refl)
said ends.CrLf a b e = absurd cc
said ends.TextEnd a b e = absurd cc

at_end : (a b : Rest) → ended a ≡ ended b → a ≡ b
at_end a b e = ap (λ (x : Answer). x.1) (inside (Last, a) (Last, b) e) where
  inside : (x y : Answer) → let r : Result Answer ℕ = Ok x in r ≡ Ok y → x ≡ y
  inside x y e = cc

-- where reading ends with the last line, the lines that come begin with it
shown_by_parser : (v : Version) (known : List TitledStatement) (last : ℕ) (lines rest : Rest) → piece_from known last (at_start v) lines ≡ ended rest → ShowsEnded lines (last_line_of (length known) ∷ []) rest
unfolding piece_from
shown_by_parser v known last [] rest e = absurd cc
shown_by_parser v known last (Err f ∷ lines) rest e = absurd cc
shown_by_parser v known last (Ok l ∷ lines) rest e =
    let next : Result BlockParser ℕ = garbled_at l.number (parser_after_line known (at_start v) l) in
    let then : BlockParser → Result Answer ℕ = λ x. or_on (finished_theorem x.parser x.kept) lines (piece_from known last x lines) in
    elim (either (is_last_line known l) (ended lines) (next >>= then) (ended rest) e) [
      | inl p ↦ let q = said l.end l.bytes (last_line_of (length known)) p.0 in (q.0, q.1, at_end lines rest p.1)
      | inr p ↦
          let x = bind_ok next then (Last, rest) p.1 in
          let took = garbled_ok l.number (parser_after_line known (at_start v) l) x.0 x.1 in
          let more = goes_on_last (finished_theorem x.0.parser x.0.kept) lines rest (piece_from known last x.0 lines) x.2 in
          elim (line_taken known (at_start v) x.0 l took) [
            | inl c ↦ absurd (no_cert_line c.2.cert_line x.0.owed c.2.owed)
            | inr s ↦ absurd (never_last known last x.0 s.1.parser lines rest (ap (λ (y : BlockParser). y.parser) s.1.next_is) more)
          ]
    ]

pub last_shown : (v : Version) (known : List TitledStatement) (last : ℕ) (lines rest : Rest) → text.piece_from known last (text.at_start v) lines ≡ ended rest → ShowsEnded lines (last_line_of (length known) ∷ []) rest
last_shown v known last lines rest e = shown_by_parser v known last lines rest (text_read v known last lines ∙ e)
