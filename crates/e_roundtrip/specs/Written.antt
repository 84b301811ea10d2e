-- The text of derivations that follow one another.
use Rattle.std.specs.Prelude.{◌≡◌, ℕ, List, [], ◌∷◌, ◌++◌, length, codes, decimal, Result, Ok, Err}
use Rattle.e_clause.specs.declared.cert.Version.{Version}
use Rattle.e_theorem.specs.Statements.{as_view}
use Rattle.e_deriv.specs.Script.{Script}
use Rattle.e_deriv.specs.Proves.{IsProof}
use Rattle.e_deriv.specs.Certified.{Certified, verdict}
use Rattle.e_names.specs.TitledStatements.{TitledStatement, stated_by}
use Rattle.e_book.specs.TheoremViews.{TheoremView}
use Rattle.e_spell.specs.Spelling.{spelling}
use Rattle.e_roundtrip.specs.Spelled.{CanBeSpelled}
use Rattle.e_judgement.specs.declared.judgement.Judgement.{Judgement}
use Rattle.e_judgement.specs.declared.judgement.Judgement.TheVariants.{Verified, Bad}
use Rattle.e_judgement.specs.Judged.{with_theorem, head_of}

-- theorems, each with a derivation of it that lines of this version can spell: each where those
-- before it are known
abbrev pub AllCanBeSpelled : Version → List TitledStatement → List (TheoremView × Script) → Type 0
AllCanBeSpelled v known [] = Unit {0}
AllCanBeSpelled v known (p ∷ ps) =
    CanBeSpelled v known p.0 p.1 × AllCanBeSpelled v (with_theorem known p.0) ps

-- lines can spell the derivation, and each of its certificates certifies
pub record CanBeVerified (v : Version) (known : List TitledStatement) (t : TheoremView)
    (d : Script) : Type 0 where
  pub spelled : CanBeSpelled v known t d
  pub certified : Certified (stated_by known) (as_view t.statement) d

-- theorems, each with a derivation of it: each where those before it are known
abbrev pub AllCanBeVerified : Version → List TitledStatement → List (TheoremView × Script) → Type 0
AllCanBeVerified v known [] = Unit {0}
AllCanBeVerified v known (p ∷ ps) =
    CanBeVerified v known p.0 p.1 × AllCanBeVerified v (with_theorem known p.0) ps

-- after the verdict on a derivation: bad at the step that is not certified, or what those after it
-- are judged
abbrev pub judged_after : List ℕ → Result ℕ ℕ → Judgement → Judgement
judged_after title (Ok n) after = after
judged_after title (Err step) after = Bad title step

-- what they are judged, one after another, up to the first step that is not certified
abbrev pub judgement_of : List TitledStatement → List (TheoremView × Script) → Judgement
judgement_of known [] = Verified (length known)
judgement_of known (p ∷ ps) =
    judged_after p.0.title (verdict (stated_by known) (as_view p.0.statement) p.1)
    (judgement_of (with_theorem known p.0) ps)

-- the blocks of derivations, one after the other
abbrev pub spelled_blocks : List TitledStatement → List (TheoremView × Script) → List ℕ
spelled_blocks known [] = []
spelled_blocks known (p ∷ ps) = spelling known p.0 p.1 ++ spelled_blocks (with_theorem known p.0) ps

-- the line that comes before the blocks
abbrev pub version_line : Version → List ℕ
version_line v = head_of v ++ codes "\n"

-- the line after the blocks: how many they are
abbrev pub accepted_blocks_line : ℕ → List ℕ
accepted_blocks_line n = codes "accepted " ++ (decimal n ++ codes "\n")

-- the head line, the blocks, and the last line
abbrev pub derivation_text : Version → List (TheoremView × Script) → List ℕ
derivation_text v ps = version_line v ++ (spelled_blocks [] ps ++ accepted_blocks_line (length ps))

-- a theorem with a derivation for its script
abbrev pub entry_with : TheoremView × Script → TheoremView
entry_with p = record p.0 { script = p.1 }

-- each derivation proves its theorem's statement from those of the theorems before it
abbrev pub AllProved : List TitledStatement → List (TheoremView × Script) → Type 0
AllProved known [] = Unit {0}
AllProved known (p ∷ ps) =
    IsProof (stated_by known) (as_view p.0.statement) p.1 × AllProved (with_theorem known p.0) ps

-- the text is the head line of its version, the spellings of this many theorems, each with a
-- derivation that proves it, and the line with their number
pub record SpellsProofs (n : ℕ) (text : List ℕ) : Type 0 where
  pub version : Version
  pub theorems : List (TheoremView × Script)
  pub count : length theorems ≡ n
  -- lines can spell the theorems and their derivations, each where those before it are known: so no
  -- other theorems and derivations have this text
  pub spelled : AllCanBeSpelled version [] theorems
  pub proved : AllProved [] theorems
  pub bytes : text ≡ derivation_text version theorems
