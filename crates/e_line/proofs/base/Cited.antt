-- The line of a citation, known from its first word.
use Rattle.std.proofs.Common.{◌≡◌, ℕ, List, Result, Ok, Err, true, refl, sym, ap, subst}
use Rattle.std.specs.Prelude.{codes}
use Rattle.std.specs.Str.{bytes_eq}
use Rattle.std.proofs.lemmas.Slice.Eq.{bytes_eq-Decides}
use Rattle.e_line.specs.declared.fault.FaultKind.{FaultKind}
use Rattle.e_line.specs.declared.fault.LineError.{LineError}
use Rattle.e_line.specs.declared.fault.LineError.TheVariants as line_errors
use Rattle.e_line.specs.declared.raw_line.RawLine.{RawLine}
use Rattle.e_line.specs.declared.items.BookLine.{BookLine}
use Rattle.e_line.specs.declared.items.BookLine.TheVariants.{Plain}
use Rattle.e_line.specs.Reading.{◌>>=◌, Fails}
use Rattle.e_line.specs.RawLines.{by_of, raw_line_named}
use Rattle.e_line.specs.Items.{line_named}

abbrev plain : Result RawLine FaultKind → Result BookLine FaultKind
plain r = r >>= λ f. Ok (Plain f)

cited : (w : List ℕ) (ws : List (List ℕ)) → bytes_eq w (codes "by") ≡ true → line_named w ws ≡ plain (by_of ws)
unfolding line_named raw_line_named
cited w ws h = rw ((bytes_eq-Decides w (codes "by")).0 h) refl

pub cited_is : (w : List ℕ) (ws : List (List ℕ)) (f : RawLine) → bytes_eq w (codes "by") ≡ true → by_of ws ≡ Ok f → line_named w ws ≡ Ok (Plain f)
cited_is w ws f h e = rw (cited w ws h, e) refl

fails_plain : (error : LineError) (r : Result RawLine FaultKind) → Fails error r → Fails error (plain r)
fails_plain line_errors.NoMemory r h = tt
fails_plain (line_errors.Fault k) r h = ap plain h

pub cited_fails : (w : List ℕ) (ws : List (List ℕ)) (error : LineError) → bytes_eq w (codes "by") ≡ true → Fails error (by_of ws) → Fails error (line_named w ws)
cited_fails w ws error h e = subst (λ (r : Result BookLine FaultKind). Fails error r) (sym (cited w ws h)) (fails_plain error (by_of ws) e)
