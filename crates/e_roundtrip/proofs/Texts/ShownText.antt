-- The bytes of lines that are spelled.
use Rattle.std.proofs.Common.{◌≡◌, ℕ, List, [], ◌∷◌, ◌++◌, Result, Ok, Err, sym, ap, ◌∙◌, append_assoc}
use Rattle.e_text.specs.Lines.{LineView, end_bytes, text_of_lines}
use Rattle.e_text.specs.declared.line.LineEnd.{LineEnd}
use Rattle.e_text.specs.declared.line.LineFault.{LineFault}
use Rattle.e_clause.specs.declared.cert.Version.{Version}
use Rattle.e_names.specs.TitledStatements.{TitledStatement}
use Rattle.e_book.specs.TheoremViews.{TheoremView}
use Rattle.e_book.specs.Canonical.{text_of}
use Rattle.e_read.specs.Text.{at_start, piece_from}
use Rattle.e_read.proofs.Bridge.{derives}
use Rattle.e_spell.specs.Spelling.{spelled_lines, spelling}
use Rattle.e_roundtrip.specs.Spelled.{ShowsEnded}
use Rattle.e_roundtrip.proofs.Texts.ReadIsSpelled.{read_is_spelled_so}

shown_text : (lines rest : List (Result LineView LineFault)) (texts : List (List ℕ)) → ShowsEnded lines texts rest → text_of_lines lines ≡ text_of texts ++ text_of_lines rest
shown_text lines rest [] h = ap text_of_lines h
shown_text [] rest (x ∷ texts) h = absurd h
shown_text (Err f ∷ lines) rest (x ∷ texts) h = absurd h
shown_text (Ok l ∷ lines) rest (x ∷ texts) h =
    let end : List ℕ = 10 ∷ [] in
    ap (λ (b : List ℕ). b ++ (end_bytes l.end ++ text_of_lines lines)) h.0 ∙ ap (λ (e : LineEnd). x ++ (end_bytes e ++ text_of_lines lines)) h.1
    ∙ ap (λ (r : List ℕ). x ++ (end ++ r)) (shown_text lines rest texts h.2) ∙ sym (append_assoc x end (text_of texts ++ text_of_lines rest)) ∙ sym (append_assoc (x ++ end) (text_of texts) (text_of_lines rest))

pub read_text_is_spelled : (v : Version) (known : List TitledStatement) (last : ℕ) (t : TheoremView) (lines rest : List (Result LineView LineFault)) → piece_from known last (at_start v) lines ≡ derives t rest → text_of_lines lines ≡ spelling known t t.script ++ text_of_lines rest
read_text_is_spelled v known last t lines rest e = shown_text lines rest (spelled_lines known t t.script) (read_is_spelled_so v known last t lines rest e)
