-- Lines that show texts, and derivations that lines can spell.
use Rattle.std.specs.Prelude.{◌≡◌, ℕ, IsTrue, List, [], ◌∷◌, Result, Ok, Err}
use Rattle.e_text.specs.Lines.{LineView}
use Rattle.e_text.specs.declared.line.LineEnd.TheVariants.{Lf}
use Rattle.e_text.specs.declared.line.LineFault.{LineFault}
use Rattle.e_clause.specs.declared.cert.Version.{Version}
use Rattle.e_theorem.specs.Statements.{as_view}
use Rattle.e_deriv.specs.Script.{Script, bare_script}
use Rattle.e_deriv.specs.Versions.{has_certs_of}
use Rattle.e_names.specs.TitledStatements.{TitledStatement, stated_by}
use Rattle.e_book.specs.TheoremViews.{TheoremView}
use Rattle.e_book.specs.HasSpelling.{HasSpelling}
use Rattle.e_roundtrip.specs.Formed.{Formed}

-- the next lines begin with these texts, whatever their numbers, each ended by a line feed, and the
-- rest follows
abbrev pub ShowsEnded : List (Result LineView LineFault) → List (List ℕ)
    → List (Result LineView LineFault) → Type 0
ShowsEnded lines [] rest = lines ≡ rest
ShowsEnded [] (text ∷ texts) rest = ⊥
ShowsEnded (Err f ∷ lines) (text ∷ texts) rest = ⊥
ShowsEnded (Ok l ∷ lines) (text ∷ texts) rest =
    (l.bytes ≡ text) × (l.end ≡ Lf) × ShowsEnded lines texts rest

-- what a derivation of a theorem is that lines of a text of this version can spell; whether its
-- certificates certify is not asked
pub record CanBeSpelled (v : Version) (known : List TitledStatement) (t : TheoremView)
    (d : Script) : Type 0 where
  -- the theorem has a spelling, with the derivation's script for its own
  pub plain : HasSpelling known (record t { script = bare_script d })
  -- each line has as many certificates as it owes, each of the form that lines can have
  pub formed : Formed (stated_by known) (as_view t.statement) d
  -- its certificates are of the version
  pub version : IsTrue (has_certs_of v d)
