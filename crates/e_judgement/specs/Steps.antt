-- A derivation text taken theorem by theorem: what each step of that says of the text's judgement.
use Rattle.std.specs.Prelude.{◌≡◌, ℕ, ◌<◌, List, [], ◌∷◌, length, Option, Some, None, Ok, Err}
use Rattle.std.specs.Prelude.{IsTrue}
use Rattle.e_text.specs.Lines.{LineView, Ahead}
use Rattle.e_clause.specs.declared.cert.Version.{Version}
use Rattle.e_theorem.specs.Statements.{as_view}
use Rattle.e_deriv.specs.Fitting.{is_small_statement}
use Rattle.e_deriv.specs.Versions.{has_certs_of}
use Rattle.e_book.specs.Grammar.{last_line, Rest}
use Rattle.e_names.specs.TitledStatements.{TitledStatement, stated_by}
use Rattle.e_book.specs.TheoremViews.{TheoremView, entry_of}
use Rattle.e_book.specs.HasSpelling.{HasSpelling}
use Rattle.e_read.specs.Text.{without_certs}
use Rattle.e_verify.specs.Verdicts.{IsVerifiable}
use Rattle.e_judgement.specs.declared.next.NextItem.{NextItem}
use Rattle.e_judgement.specs.declared.next.NextItem.TheVariants.{Theorem, End}
use Rattle.e_judgement.specs.Judged.{ReadsNext, IsCertified, Closes, version_of}

-- the theorem comes next and is certified, by certificates of the version; without them it has a
-- spelling in a book
pub record IsNextCertified (v : Version) (known : List TitledStatement) (last : ℕ) (lines : Rest)
    (t : TheoremView) (after : Rest) : Type 0 where
  pub read : ReadsNext v last known lines t after
  pub certified : IsCertified known t
  pub verifiable : IsVerifiable (stated_by known) (as_view t.statement) t.script
  pub version : IsTrue (has_certs_of v t.script)
  pub spelled : HasSpelling known (without_certs t)
  pub states : IsTrue (is_small_statement (as_view t.statement))

-- with this known, this is next
abbrev pub NextCertified : Version → List TitledStatement → ℕ → Rest → Rest → NextItem → Type 0
NextCertified v known last lines after (Theorem t) =
    IsNextCertified v known last lines (entry_of t) after
NextCertified v known last lines after (End j) = Closes v last known lines j

-- after a theorem fewer lines come, and they are those of the same text
abbrev pub GoesOn : NextItem → Ahead → Ahead → Type 0
GoesOn (Theorem t) before after =
    (length after.lines < length before.lines) × (last_line after ≡ last_line before)
GoesOn (End j) before after = Unit {0}

-- the version that the first of the lines says
abbrev pub version_at : Rest → Option Version
version_at [] = None
version_at (Err f ∷ lines) = None
version_at (Ok l ∷ lines) = version_of l

-- the version that was found is the one that the first line says; where it says one, that line is
-- taken, and line 2 is next
pub record IsHeadFound (lines : Rest) (after : Ahead) (found : Option Version) : Type 0 where
  pub head : found ≡ version_at lines
  pub taken : (v : Version) → found ≡ Some v
      → (l : LineView) × (lines ≡ Ok l ∷ after.lines) × (after.line ≡ 2)
