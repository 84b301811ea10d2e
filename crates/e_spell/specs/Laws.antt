-- What a spelling has beside its certificates.
use Rattle.std.specs.Prelude.{◌≡◌, ℕ, Bool, true, not, ◌==◌, List, [], ◌∷◌, map, filter}
use Rattle.e_deriv.specs.Script.{Script, bare_script}
use Rattle.e_deriv.specs.Parts.{filled_by}
use Rattle.e_names.specs.TitledStatements.{TitledStatement}
use Rattle.e_book.specs.TheoremViews.{TheoremView}
use Rattle.e_line.specs.Canonical.{line_of}
use Rattle.e_book.specs.Canonical.{raw_lines_of}
use Rattle.e_spell.specs.Spelling.{spelled_lines}

-- a certificate's line begins with `|`
abbrev pub is_plain_line : List ℕ → Bool
is_plain_line [] = true
is_plain_line (b ∷ bs) = not (b == 124)

-- the theorem with the blanks of its script filled by the arguments that a derivation has in the
-- same places
abbrev pub filled_entry : TheoremView → Script → TheoremView
filled_entry t d = record t { script = filled_by t.script d }

-- without the lines of certificates the spelling is the theorem's own lines, with its blanks
-- filled, where the derivation is one of its script
abbrev pub LinesAreTheTheorem : Type 0
LinesAreTheTheorem =
    (known : List TitledStatement) (t : TheoremView) (d : Script)
    → bare_script d ≡ filled_by t.script d →
    filter is_plain_line (spelled_lines known t d)
    ≡ map line_of (raw_lines_of known (filled_entry t d))
