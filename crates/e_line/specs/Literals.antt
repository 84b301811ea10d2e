-- Literals as they are spelled, by their words alone.
use Rattle.std.specs.Prelude.{ℕ, Bool, true, false, ◌&&◌, ◌==◌, List, [], ◌∷◌, ◌++◌, length, take}
use Rattle.std.specs.Prelude.{drop, Option, Some, None, is_some, Result, Ok, Err, codes}
use Rattle.std.specs.Prelude.{if◌then◌else◌}
use Rattle.std.specs.List.{slice_split, position_or_len, list_all}
use Rattle.std.specs.Str.{bytes_eq}
use Rattle.e_text.specs.Names.{name_of}
use Rattle.e_line.specs.declared.fault.FaultKind.{FaultKind}
use Rattle.e_line.specs.declared.fault.FaultKind.TheVariants.{Malformed}
use Rattle.e_line.specs.declared.sum.RawMono.{RawMono}
use Rattle.e_line.specs.declared.literal.RawLit.{RawLit}
use Rattle.e_line.specs.declared.literal.RawAtom.{RawAtom}
use Rattle.e_line.specs.declared.literal.RawAtom.TheVariants.{On, Inside, Center, Between, Same}
use Rattle.e_line.specs.declared.literal.RawAtom.TheVariants.{Meets, Equal, SumsEqual, SumsLess}
use Rattle.e_line.specs.declared.literal.RawAtom.TheVariants.{SumsAtMost}
use Rattle.e_line.specs.declared.literal.Relation.{Relation}
use Rattle.e_line.specs.declared.literal.Relation.TheVariants as relations
use Rattle.e_line.specs.Reading.{◌>>=◌, each, or_malformed}
unfoldable pub use Rattle.e_line.specs.Reading.{two_names, three_names}
use Rattle.e_line.specs.Sums.{sum_of}

-- ---- comparisons

-- the relation that a word is
abbrev pub relation_of : List ℕ → Option Relation
relation_of w =
    if bytes_eq w (codes "=") then Some relations.Equal else
    if bytes_eq w (codes "!=") then Some relations.Differ else
    if bytes_eq w (codes "<") then Some relations.Less else
    if bytes_eq w (codes "<=") then Some relations.AtMost else None

abbrev pub is_relation : List ℕ → Bool
is_relation w = is_some (relation_of w)

-- a side that is one name
abbrev pub single_name : List (List ℕ) → Option (List ℕ)
single_name (w ∷ []) = name_of w
single_name (w ∷ v ∷ ws) = None
single_name [] = None

-- a sum on each side, and a term in one of them
unfoldable pub sums_of : List (List ℕ) → List (List ℕ)
    → Result (List RawMono × List RawMono) FaultKind
sums_of left right = do
  x ← sum_of left
  y ← sum_of right
  if length x == 0 && length y == 0 then Err Malformed else Ok (x, y)

-- two names are of equal objects, and else the sides are sums
abbrev pub equal_sides : Option (List ℕ) → Option (List ℕ)
    → Result (List RawMono × List RawMono) FaultKind → Result RawAtom FaultKind
equal_sides (Some x) (Some y) sums = Ok (Equal x y)
equal_sides (Some x) None sums = sums >>= λ p. Ok (SumsEqual p.0 p.1)
equal_sides None y sums = sums >>= λ p. Ok (SumsEqual p.0 p.1)

unfoldable pub sides_of : Relation → List (List ℕ) → List (List ℕ) → Result RawAtom FaultKind
sides_of relations.Equal left right =
    equal_sides (single_name left) (single_name right) (sums_of left right)
sides_of relations.Differ left right =
    equal_sides (single_name left) (single_name right) (sums_of left right)
sides_of relations.Less left right = sums_of left right >>= λ p. Ok (SumsLess p.0 p.1)
sides_of relations.AtMost left right = sums_of left right >>= λ p. Ok (SumsAtMost p.0 p.1)

-- != is a negation, and not may come before neither it nor <=
abbrev pub negation_of : Bool → Relation → Result Bool FaultKind
negation_of negated relations.Equal = Ok negated
negation_of true relations.Differ = Err Malformed
negation_of false relations.Differ = Ok true
negation_of negated relations.Less = Ok negated
negation_of true relations.AtMost = Err Malformed
negation_of false relations.AtMost = Ok false

-- the relation that comes first, and the words after it
abbrev pub relation_first : List (List ℕ) → Result (Relation × List (List ℕ)) FaultKind
relation_first [] = Err Malformed
relation_first (w ∷ ws) = or_malformed (relation_of w) >>= λ s. Ok (s, ws)

-- two sides with a relation between them
unfoldable pub lit_of_sides : Bool → List (List ℕ) → Result RawLit FaultKind
lit_of_sides negated words = do
  let n = position_or_len is_relation words
  s ← relation_first (drop n words)
  neg ← negation_of negated s.0
  a ← sides_of s.0 (take n words) s.1
  Ok (record { neg = neg; atom = a })

-- ---- literals

abbrev pub lit_with_neg : Bool → RawAtom → RawLit
lit_with_neg neg a = record { neg = neg; atom = a }

-- the first word says which relation it is; without such a word the literal compares
unfoldable pub lit_by_first_word : Bool → List ℕ → List (List ℕ) → Result RawLit FaultKind
lit_by_first_word negated w ws =
    if bytes_eq w (codes "on")
    then (two_names ws >>= λ p. Ok (lit_with_neg negated (On p.0 p.1))) else
    if bytes_eq w (codes "inside")
    then (two_names ws >>= λ p. Ok (lit_with_neg negated (Inside p.0 p.1))) else
    if bytes_eq w (codes "center")
    then (two_names ws >>= λ p. Ok (lit_with_neg negated (Center p.0 p.1))) else
    if bytes_eq w (codes "between")
    then (three_names ws >>= λ p. Ok (lit_with_neg negated (Between p.0 p.1 p.2))) else
    if bytes_eq w (codes "same-side")
    then (three_names ws >>= λ p. Ok (lit_with_neg negated (Same p.0 p.1 p.2))) else
    if bytes_eq w (codes "meets")
    then (two_names ws >>= λ p. Ok (lit_with_neg negated (Meets p.0 p.1)))
    else lit_of_sides negated (w ∷ ws)

unfoldable pub lit_after_not : List (List ℕ) → Result RawLit FaultKind
lit_after_not [] = Err Malformed
lit_after_not (w ∷ ws) = lit_by_first_word true w ws

-- a literal: not comes once before any form but those with != and <=
unfoldable pub lit_of : List (List ℕ) → Result RawLit FaultKind
lit_of [] = Err Malformed
lit_of (w ∷ ws) =
    if bytes_eq w (codes "not") then lit_after_not ws else lit_by_first_word false w ws

-- a literal of diagrams or of equal objects
abbrev pub is_diagram_raw : RawAtom → Bool
is_diagram_raw (SumsEqual x y) = false
is_diagram_raw (SumsLess x y) = false
is_diagram_raw (SumsAtMost x y) = false
is_diagram_raw a = true

unfoldable pub diagram_lit_of : List (List ℕ) → Result RawLit FaultKind
diagram_lit_of words = lit_of words >>= λ l. if is_diagram_raw l.atom then Ok l else Err Malformed

abbrev pub is_semicolon : List ℕ → Bool
is_semicolon word = bytes_eq word (codes ";")

-- one or more literals between semicolons
abbrev pub lits_of : List (List ℕ) → Result (List RawLit) FaultKind
lits_of words = each lit_of (slice_split is_semicolon words)

-- one or more diagram literals between semicolons
unfoldable pub diagram_lits_of : List (List ℕ) → Result (List RawLit) FaultKind
diagram_lits_of words =
    lits_of words
    >>= λ ls. if list_all (λ l. is_diagram_raw l.atom) ls then Ok ls else Err Malformed

-- the monomials of a literal, from left to right
abbrev pub monos_of : RawAtom → List RawMono
monos_of (SumsEqual x y) = x ++ y
monos_of (SumsLess x y) = x ++ y
monos_of (SumsAtMost x y) = x ++ y
monos_of a = []
