-- What is known of a theorem that is read from a derivation text.
use Rattle.std.proofs.Common.{◌≡◌, ℕ, true, List, ◌++◌, None, Ok, Err, Result, refl, sym, ap, subst, ◌∙◌}
use Rattle.std.specs.Prelude.{IfOk, IsTrue, filter}
use Rattle.e_text.specs.Lines.{LineView, Ahead}
use Rattle.e_text.specs.declared.line.LineFault.{LineFault}
use Rattle.e_theorem.specs.Statements.{as_view}
use Rattle.e_clause.specs.declared.cert.Version.{Version}
use Rattle.e_deriv.specs.Script.{Script, bare_script, script_of}
use Rattle.e_deriv.specs.Versions.{has_certs_of}
use Rattle.e_deriv.specs.Fitting.{is_small_statement}
use Rattle.e_names.specs.TitledStatements.{TitledStatement}
use Rattle.e_book.specs.TheoremViews.{TheoremView, entry_of}
use Rattle.e_book.specs.HasSpelling.{HasSpelling}
use Rattle.e_book.proofs.parsers.Answered.{answered, pair}
use Rattle.e_book.proofs.fit_theorems.Fitting.{reading_states}
use Rattle.e_book.proofs.grammar.GrammarRead.{grammar_read}
use Rattle.e_book.proofs.fit_theorems.ReadSpelled.{read_is_spelled}
use Rattle.e_read.specs.declared.reader.Piece.{Piece}
use Rattle.e_read.specs.declared.reader.Piece.TheVariants as pieces
use Rattle.e_read.specs.declared.reader.TextFault.{TextFault}
use Rattle.e_read.specs.Filled.{script_with_certs}
use Rattle.e_read.specs.Laws.{is_of_theorem, ReadsAsBook}
use Rattle.e_read.specs.Text.{without_certs, OfTheorem, TextReads}
use Rattle.e_read.specs.inner.Machine.{at_start, piece_from}
use Rattle.e_read.specs.Text as text
use Rattle.e_read.proofs.TextTied.{text_read}
use Rattle.e_read.proofs.Bridge.{derives, Plainly, plainly}
use Rattle.e_read.proofs.ReadCertificates.{version_read}
use Rattle.e_read.proofs.Erased.{erased_filled, erased_plain}

-- the theorem without its certificates, as the other lines are read
record Bare (known : List TitledStatement) (last : ℕ) (t : TheoremView) (lines rest : List (Result LineView LineFault)) : Type 0 where
  plain : Plainly known last None t lines rest
  spelled : HasSpelling known plain.entry
  same : without_certs t ≡ plain.entry

bare_is : (v : Version) (known : List TitledStatement) (last : ℕ) (lines rest : List (Result LineView LineFault)) (t : TheoremView) → piece_from known last (at_start v) lines ≡ derives t rest → Bare known last t lines rest
bare_is v known last lines rest t e =
    let p = plainly known last (at_start v) lines rest t refl e in
    let h = read_is_spelled known last p.entry (filter is_of_theorem p.front ++ rest) rest p.read in
    let script : bare_script (script_with_certs p.entry.script p.kept).0 ≡ p.entry.script = erased_filled p.entry.script p.kept ∙ erased_plain p.entry.script h.script in
    record { plain = p; spelled = h; same = ap without_certs p.same ∙ ap (λ (s : Script). record p.entry { script = s }) script }

pub reads_as_book : (v : Version) (known : List TitledStatement) (last : ℕ) (t : TheoremView) (lines rest : List (Result LineView LineFault)) → text.piece_from known last (text.at_start v) lines ≡ derives t rest → ReadsAsBook known last t lines rest
reads_as_book v known last t lines rest e =
    let b = bare_is v known last lines rest t (text_read v known last lines ∙ e) in
    record { front = b.plain.front; all = b.plain.all; read = sym (grammar_read known last (filter is_of_theorem b.plain.front ++ rest)) ∙ b.plain.read ∙ ap (λ (x : TheoremView). answered (pair x rest)) (sym b.same) }

pub text_spelled : (v : Version) (known : List TitledStatement) (last : ℕ) (lines rest : List (Result LineView LineFault)) (t : TheoremView) → piece_from known last (at_start v) lines ≡ derives t rest → HasSpelling known (without_certs t)
text_spelled v known last lines rest t e = let b = bare_is v known last lines rest t e in subst (λ (x : TheoremView). HasSpelling known x) (sym b.same) b.spelled

pub text_states : (v : Version) (known : List TitledStatement) (last : ℕ) (lines rest : List (Result LineView LineFault)) (t : TheoremView) → piece_from known last (at_start v) lines ≡ derives t rest → is_small_statement (as_view t.statement) ≡ true
text_states v known last lines rest t e = let b = bare_is v known last lines rest t e in
    subst (λ (x : TheoremView). is_small_statement (as_view x.statement) ≡ true) (sym b.same) (reading_states known last (filter is_of_theorem b.plain.front ++ rest) rest b.plain.entry b.plain.read)

pub answer_spelled : (v : Version) (known : List TitledStatement) (last : ℕ) (lines : List (Result LineView LineFault)) (result : Result Piece TextFault) (new : Ahead) → TextReads known result new (piece_from known last (at_start v) lines)
    → IfOk result (OfTheorem (λ t. HasSpelling known (without_certs (entry_of t))))
answer_spelled v known last lines (Ok (pieces.Theorem t)) new e = text_spelled v known last lines new.lines (entry_of t) e
answer_spelled v known last lines (Ok (pieces.Last n)) new e = tt
answer_spelled v known last lines (Err f) new e = tt

-- the certificates are of the version of the text
pub answer_version : (v : Version) (known : List TitledStatement) (last : ℕ) (lines : List (Result LineView LineFault)) (result : Result Piece TextFault) (new : Ahead) → TextReads known result new (piece_from known last (at_start v) lines)
    → IfOk result (OfTheorem (λ t. IsTrue (has_certs_of v (script_of t.block))))
answer_version v known last lines (Ok (pieces.Theorem t)) new e = version_read v known last lines new.lines (entry_of t) e
answer_version v known last lines (Ok (pieces.Last n)) new e = tt
answer_version v known last lines (Err f) new e = tt

pub answer_states : (v : Version) (known : List TitledStatement) (last : ℕ) (lines : List (Result LineView LineFault)) (result : Result Piece TextFault) (new : Ahead) → TextReads known result new (piece_from known last (at_start v) lines)
    → IfOk result (OfTheorem (λ t. IsTrue (is_small_statement (as_view t.statement))))
answer_states v known last lines (Ok (pieces.Theorem t)) new e = text_states v known last lines new.lines (entry_of t) e
answer_states v known last lines (Ok (pieces.Last n)) new e = tt
answer_states v known last lines (Err f) new e = tt
