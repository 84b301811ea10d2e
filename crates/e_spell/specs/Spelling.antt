-- The one spelling of a derivation, and the last lines of a stop.
use Rattle.std.specs.Prelude.{ℕ, List, [], ◌∷◌, ◌++◌, map, codes, Option, Some, None}
use Rattle.std.specs.Option.{option_to_list}
use Rattle.std.specs.Fmt.{decimal}
use Rattle.e_literal.specs.declared.object.Term.{Term}
use Rattle.e_deriv.specs.declared.names.Names.{Names}
use Rattle.e_deriv.specs.declared.stop.Wanted.{Wanted}
use Rattle.e_deriv.specs.declared.stop.Wanted.TheVariants.{Literal, Match}
use Rattle.e_deriv.specs.declared.stop.Wanted.TheVariants.{Contradiction as AContradiction}
use Rattle.e_deriv.specs.declared.stop.Stop.{Stop}
use Rattle.e_deriv.specs.declared.stop.Stop.TheVariants.{Unlicensed, TooWide, NoMemory}
use Rattle.e_construct.specs.Construct.{sorts_made}
use Rattle.e_construct.specs.Superposing as superposing
use Rattle.e_deriv.specs.Naming.{with_new_names}
use Rattle.e_deriv.specs.Script.{Script, Cite, Hence, Make, Apply, Claim, Superposed, Qed}
use Rattle.e_deriv.specs.Script.{Contradiction, Cases}
use Rattle.e_names.specs.TitledStatements.{TitledStatement, theorem_of}
use Rattle.e_book.specs.TheoremViews.{TheoremView}
use Rattle.e_text.specs.Tokens.{joined_words}
use Rattle.e_line.specs.Canonical.{line_of, lit_words}
use Rattle.e_names.specs.Canonical.{raw_of, by_raw_line, hence_raw_line, let_raw_line}
use Rattle.e_names.specs.Canonical.{apply_raw_line, claim_raw_line, superpose_raw_line}
use Rattle.e_names.specs.Canonical.{qed_raw_line, contradiction_raw_line, cases_raw_line}
use Rattle.e_names.specs.Canonical.{else_raw_line, end_raw_line}
use Rattle.e_book.specs.Canonical.{head_raw_lines, names_of_proof, text_of}
use Rattle.e_spell.specs.Certificates.{named_term, certs_lines, contradiction_lines}

-- each line of a derivation, and below it one certificate for each literal that it needs, or that
-- of a contradiction, where these theorems are known and these names are in scope before the first:
-- those of new objects come into scope after the certificates of the line that makes them, and
-- those of an inner block are gone after it
unfoldable pub script_lines : List TitledStatement → Names → Script → List (List ℕ)
script_lines known ns (Cite by rest) = line_of (by_raw_line ns by) ∷ script_lines known ns rest
script_lines known ns (Hence lit cert rest) =
    line_of (hence_raw_line ns lit)
    ∷ (certs_lines ns (option_to_list cert) ++ script_lines known ns rest)
script_lines known ns (Make construction names certs rest) =
    line_of (let_raw_line ns construction names) ∷ (certs_lines ns certs
    ++ script_lines known (with_new_names ns (sorts_made construction) names) rest)
script_lines known ns (Apply theorem args names certs rest) =
    line_of (apply_raw_line known ns theorem args names) ∷ (certs_lines ns certs
    ++ script_lines known (with_new_names ns (theorem_of known theorem).made names) rest)
script_lines known ns (Claim shown inner rest) =
    line_of (claim_raw_line ns shown) ∷ (script_lines known ns inner ++ script_lines known ns rest)
script_lines known ns (Superposed superposition names shown certs inner rest) =
    line_of (superpose_raw_line ns superposition names shown) ∷ (certs_lines ns certs
    ++ (script_lines known (with_new_names ns superposing.sorts_copied names) inner
    ++ script_lines known ns rest))
script_lines known ns (Qed objects certs) = line_of (qed_raw_line ns objects) ∷ certs_lines ns certs
script_lines known ns (Contradiction against) =
    line_of contradiction_raw_line ∷ contradiction_lines ns against
script_lines known ns (Cases lit first second) =
    line_of (cases_raw_line ns lit)
    ∷ (script_lines known ns first ++ line_of else_raw_line ∷ script_lines known ns second)

-- the lines of a theorem after those that are known, with its derivation, in order
abbrev pub spelled_lines : List TitledStatement → TheoremView → Script → List (List ℕ)
spelled_lines known t d =
    map line_of (head_raw_lines t)
    ++ (script_lines known (names_of_proof t) d ++ line_of end_raw_line ∷ [])

abbrev pub spelling : List TitledStatement → TheoremView → Script → List ℕ
spelling known t d = text_of (spelled_lines known t d)

-- what a line lacks
abbrev pub wanted_words : Names → Wanted → List (List ℕ)
wanted_words ns (Literal l) = lit_words (raw_of ns l)
wanted_words ns Match = codes "match" ∷ []
wanted_words ns AContradiction = codes "contradiction" ∷ []

-- ---- the last lines of a stop

-- what happened at a line of a theorem
abbrev pub place_words : List ℕ → List ℕ → ℕ → List (List ℕ)
place_words what title step = what ∷ title ∷ decimal step ∷ []

abbrev pub wanted_line_words : Names → Wanted → List (List ℕ)
wanted_line_words ns wanted = codes "|" ∷ codes "wanted" ∷ wanted_words ns wanted

-- a term and its value
abbrev pub value_words : Names → Term × ℕ → List (List ℕ)
value_words ns v = codes "|" ∷ codes "value" ∷ (named_term ns v.0 ++ decimal v.1 ∷ [])

-- one line for each value, in order, where there are values
abbrev pub values_words : Names → Option (List (Term × ℕ)) → List (List (List ℕ))
values_words ns None = []
values_words ns (Some values) = map (value_words ns) values

-- the line that is not licensed, what it lacks, and the values that show it
abbrev pub unlicensed_words : List ℕ → ℕ → Wanted → Option (List (Term × ℕ)) → Names
    → List (List (List ℕ))
unlicensed_words title step wanted values ns =
    place_words (codes "unlicensed") title step ∷ wanted_line_words ns wanted
    ∷ values_words ns values

abbrev pub unlicensed_text : List ℕ → ℕ → Wanted → Option (List (Term × ℕ)) → Names → List ℕ
unlicensed_text title step wanted values ns =
    text_of (map joined_words (unlicensed_words title step wanted values ns))

-- the line that is too wide, what is wanted there, and the width
abbrev pub too_wide_words : List ℕ → ℕ → Wanted → ℕ → Names → List (List (List ℕ))
too_wide_words title step wanted width ns =
    place_words (codes "too-wide") title step ∷ wanted_line_words ns wanted
    ∷ (codes "|" ∷ codes "width" ∷ decimal width ∷ []) ∷ []

abbrev pub too_wide_text : List ℕ → ℕ → Wanted → ℕ → Names → List ℕ
too_wide_text title step wanted width ns =
    text_of (map joined_words (too_wide_words title step wanted width ns))

-- the last lines of a stop; out of memory has none here
abbrev pub stop_text : List ℕ → Stop → List ℕ
stop_text title (Unlicensed step wanted values ns) = unlicensed_text title step wanted values ns
stop_text title (TooWide step wanted width ns) = too_wide_text title step wanted width ns
stop_text title NoMemory = []

-- a stop at a line of the script
abbrev pub IsStop : Stop → Type 0
IsStop (Unlicensed step wanted values ns) = Unit {0}
IsStop (TooWide step wanted width ns) = Unit {0}
IsStop NoMemory = ⊥
