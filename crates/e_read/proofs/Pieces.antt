-- What comes next in a text, line by line.
use Rattle.std.proofs.Common.{◌≡◌, ℕ, false, true, List, [], ◌∷◌, Option, Some, None, Result, Ok, Err, refl, sym, ap, subst, ◌∙◌}
use Rattle.e_text.specs.Lines.{LineView, line_of_fault}
use Rattle.e_text.specs.declared.line.LineFault.{LineFault}
use Rattle.e_names.specs.TitledStatements.{TitledStatement}
use Rattle.e_book.specs.TheoremViews.{TheoremView}
use Rattle.e_book.specs.declared.parser.TheoremParser.{TheoremParser}
use Rattle.e_cert.specs.declared.kept.StepCerts.{StepCerts}
use Rattle.e_read.specs.declared.reading.BlockParser.{BlockParser}
use Rattle.e_read.specs.declared.reader.Progress.{Progress}
use Rattle.e_read.specs.declared.reader.Progress.TheVariants as turns
use Rattle.e_read.specs.declared.reader.TextFault.{TextFault}
use Rattle.e_read.specs.declared.reader.TextFault.TheVariants as faults
use Rattle.e_read.specs.Text.{TextPiece, Derived, Last, garbled_at}
use Rattle.e_read.specs.inner.Machine.{parser_after_line, is_finished, finished_theorem, is_end, piece_from, LineReads, ProgressIs}

-- after the last line of the text
pub piece_none : (known : List TitledStatement) (last : ℕ) (r : BlockParser) → piece_from known last r [] ≡ Err last
unfolding piece_from
piece_none known last r = refl

-- a line that cannot be one
pub piece_fault : (known : List TitledStatement) (last : ℕ) (r : BlockParser) (f : LineFault) (lines : List (Result LineView LineFault)) → piece_from known last r (Err f ∷ lines) ≡ Err (line_of_fault f)
unfolding piece_from
piece_fault known last r f lines = refl

-- the last line
pub piece_last : (known : List TitledStatement) (last : ℕ) (r : BlockParser) (line : LineView) (lines : List (Result LineView LineFault)) → is_end known r.parser line ≡ true → piece_from known last r (Ok line ∷ lines) ≡ Ok (Last, lines)
unfolding piece_from
piece_last known last r line lines e = rw e refl

-- a line that has no form at its place
pub piece_garbled : (known : List TitledStatement) (last : ℕ) (r : BlockParser) (line : LineView) (lines : List (Result LineView LineFault)) (n : ℕ) → is_end known r.parser line ≡ false → garbled_at line.number (parser_after_line known r line) ≡ Err n
    → piece_from known last r (Ok line ∷ lines) ≡ Err n
unfolding piece_from
piece_garbled known last r line lines n e h = rw (e, h) refl

-- the end of a theorem
pub piece_ended : (known : List TitledStatement) (last : ℕ) (r next : BlockParser) (line : LineView) (lines : List (Result LineView LineFault)) (t : TheoremView) → is_end known r.parser line ≡ false → garbled_at line.number (parser_after_line known r line) ≡ Ok next
    → finished_theorem next.parser next.kept ≡ Some t → piece_from known last r (Ok line ∷ lines) ≡ Ok (Derived t, lines)
unfolding piece_from
piece_ended known last r next line lines t e h f = rw (e, h, f) refl

-- any other line
pub piece_next : (known : List TitledStatement) (last : ℕ) (r next : BlockParser) (line : LineView) (lines : List (Result LineView LineFault)) → is_end known r.parser line ≡ false → garbled_at line.number (parser_after_line known r line) ≡ Ok next
    → finished_theorem next.parser next.kept ≡ None → piece_from known last r (Ok line ∷ lines) ≡ piece_from known last next lines
unfolding piece_from
piece_next known last r next line lines e h f = rw (e, h, f) refl

-- ---- a line before any others

pub last_turn : (known : List TitledStatement) (old new : BlockParser) (line : LineView) → is_end known old.parser line ≡ true → ProgressIs known old line new (Ok turns.Last)
last_turn known old new line e = λ last rest. piece_last known last old line rest e

pub err_turn : (known : List TitledStatement) (old new : BlockParser) (line : LineView) (e : TextFault) → is_end known old.parser line ≡ false → LineReads (Err e) new (garbled_at line.number (parser_after_line known old line)) → ProgressIs known old line new (Err e)
err_turn known old new line (faults.Garbled n) b h = λ last rest. piece_garbled known last old line rest n b h
err_turn known old new line faults.NoMemory b h = tt

pub ended_turn : (known : List TitledStatement) (old new : BlockParser) (line : LineView) → is_end known old.parser line ≡ false → garbled_at line.number (parser_after_line known old line) ≡ Ok new → is_finished new.parser ≡ true → ProgressIs known old line new (Ok turns.Complete)
ended_turn known old new line b h e = (e, λ t f last rest. piece_ended known last old new line rest t b h f)

-- a theorem that has not ended is not finished
not_finished : (d : Option TheoremParser) (kept : List StepCerts) → is_finished d ≡ false → finished_theorem d kept ≡ None
not_finished None kept e = refl
not_finished (Some d) kept e = rw e refl

pub more_turn : (known : List TitledStatement) (old new : BlockParser) (line : LineView) → is_end known old.parser line ≡ false → garbled_at line.number (parser_after_line known old line) ≡ Ok new → is_finished new.parser ≡ false → ProgressIs known old line new (Ok turns.Continue)
more_turn known old new line b h e = λ last rest. piece_next known last old new line rest b h (not_finished new.parser new.kept e)

-- ---- the lines that come

-- the line after which the theorem has ended
pub read_ended : (known : List TitledStatement) (last : ℕ) (old new : BlockParser) (line : LineView) (lines rest : List (Result LineView LineFault)) (all : Result (TextPiece × List (Result LineView LineFault)) ℕ) (t : TheoremView) (turn : Progress) → turn ≡ turns.Complete
    → ProgressIs known old line new (Ok turn) → finished_theorem new.parser new.kept ≡ Some t → lines ≡ Ok line ∷ rest → piece_from known last old lines ≡ all → all ≡ Ok (Derived t, rest)
read_ended known last old new line lines rest all t turn is h f e so_far =
    sym so_far ∙ ap (λ (ls : List (Result LineView LineFault)). piece_from known last old ls) e ∙ (subst (λ (x : Progress). ProgressIs known old line new (Ok x)) is h).1 t f last rest
