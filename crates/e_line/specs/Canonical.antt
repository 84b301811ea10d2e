-- The words of each raw line.
use Rattle.std.specs.Prelude.{ℕ, Bool, true, false, Option, Some, None, List, [], ◌∷◌, ◌++◌, map}
use Rattle.std.specs.Prelude.{codes, decimal, ◌==◌, if◌then◌else◌}
use Rattle.e_text.specs.Tokens.{joined_words}
use Rattle.e_literal.specs.declared.object.Sort.{Sort}
use Rattle.e_literal.specs.declared.object.Sort.TheVariants as sorts
use Rattle.e_construct.specs.declared.construction.Shape.{Shape}
use Rattle.e_construct.specs.Lines.{Piece, New, Argument, Word, pieces}
use Rattle.e_line.specs.declared.sum.RawTerm.{RawTerm}
use Rattle.e_line.specs.declared.sum.RawTerm.TheVariants as rawterms
use Rattle.e_line.specs.declared.sum.RawMono.{RawMono}
use Rattle.e_line.specs.declared.literal.RawLit.{RawLit}
use Rattle.e_line.specs.declared.literal.RawAtom.{RawAtom}
use Rattle.e_line.specs.declared.literal.RawAtom.TheVariants as raw
use Rattle.e_line.specs.declared.lets.RawLet.{RawLet}
use Rattle.e_line.specs.declared.superposes.RawSuperpose.{RawSuperpose}
use Rattle.e_line.specs.declared.applies.RawApply.{RawApply}
use Rattle.e_line.specs.declared.raw_line.RawLine.{RawLine}
use Rattle.e_line.specs.declared.raw_line.RawLine.TheVariants as rawlines
use Rattle.e_line.specs.Superposes.{superpose_pieces}

-- ---- sums

abbrev pub term_words : RawTerm → List (List ℕ)
term_words (rawterms.Seg x y) = codes "seg" ∷ x ∷ y ∷ []
term_words (rawterms.Ang x y z) = codes "ang" ∷ x ∷ y ∷ z ∷ []
term_words (rawterms.Area x y z) = codes "area" ∷ x ∷ y ∷ z ∷ []
term_words rawterms.Right = codes "right" ∷ []

-- the coefficient 1 is not written
abbrev pub coefficient_words : ℕ → List (List ℕ)
coefficient_words n = if n == 1 then [] else decimal n ∷ []

abbrev pub mono_words : RawMono → List (List ℕ)
mono_words m = coefficient_words m.coeff ++ term_words m.term

-- more monomials, each after a plus
abbrev pub more_monos : List RawMono → List (List ℕ)
more_monos [] = []
more_monos (m ∷ ms) = codes "+" ∷ (mono_words m ++ more_monos ms)

-- monomials with a plus between two, and 0 for none
abbrev pub sum_words : List RawMono → List (List ℕ)
sum_words [] = codes "0" ∷ []
sum_words (m ∷ ms) = mono_words m ++ more_monos ms

-- two sums with a sign between them
abbrev pub sums_words : List RawMono → List ℕ → List RawMono → List (List ℕ)
sums_words x sign y = sum_words x ++ sign ∷ sum_words y

-- ---- literals

abbrev pub atom_words : RawAtom → List (List ℕ)
atom_words (raw.On x y) = codes "on" ∷ x ∷ y ∷ []
atom_words (raw.Inside x y) = codes "inside" ∷ x ∷ y ∷ []
atom_words (raw.Center x y) = codes "center" ∷ x ∷ y ∷ []
atom_words (raw.Between x y z) = codes "between" ∷ x ∷ y ∷ z ∷ []
atom_words (raw.Same x y z) = codes "same-side" ∷ x ∷ y ∷ z ∷ []
atom_words (raw.Meets x y) = codes "meets" ∷ x ∷ y ∷ []
atom_words (raw.Equal x y) = x ∷ codes "=" ∷ y ∷ []
atom_words (raw.SumsEqual x y) = sums_words x (codes "=") y
atom_words (raw.SumsLess x y) = sums_words x (codes "<") y
atom_words (raw.SumsAtMost x y) = sums_words x (codes "<=") y

-- an equality is negated by its sign, and any other atom by a word before it
abbrev pub not_words : RawAtom → List (List ℕ)
not_words (raw.Equal x y) = x ∷ codes "!=" ∷ y ∷ []
not_words (raw.SumsEqual x y) = sums_words x (codes "!=") y
not_words (raw.On x y) = codes "not" ∷ atom_words (raw.On x y)
not_words (raw.Inside x y) = codes "not" ∷ atom_words (raw.Inside x y)
not_words (raw.Center x y) = codes "not" ∷ atom_words (raw.Center x y)
not_words (raw.Between x y z) = codes "not" ∷ atom_words (raw.Between x y z)
not_words (raw.Same x y z) = codes "not" ∷ atom_words (raw.Same x y z)
not_words (raw.Meets x y) = codes "not" ∷ atom_words (raw.Meets x y)
not_words (raw.SumsLess x y) = codes "not" ∷ atom_words (raw.SumsLess x y)
not_words (raw.SumsAtMost x y) = codes "not" ∷ atom_words (raw.SumsAtMost x y)

abbrev pub words_with_neg : Bool → RawAtom → List (List ℕ)
words_with_neg true a = not_words a
words_with_neg false a = atom_words a

abbrev pub lit_words : RawLit → List (List ℕ)
lit_words l = words_with_neg l.neg l.atom

-- more literals, each after a semicolon
abbrev pub more_words : List RawLit → List (List ℕ)
more_words [] = []
more_words (l ∷ ls) = codes ";" ∷ (lit_words l ++ more_words ls)

-- literals with a semicolon between two
abbrev pub lits_words : List RawLit → List (List ℕ)
lits_words [] = []
lits_words (l ∷ ls) = lit_words l ++ more_words ls

abbrev pub sort_word : Sort → List ℕ
sort_word sorts.Point = codes "points"
sort_word sorts.Line = codes "lines"
sort_word sorts.Circle = codes "circles"

-- the pieces of a line, with these names at the places of new objects and of arguments
abbrev pub filled_pieces : List Piece → (new args : List (List ℕ)) → List (List ℕ)
filled_pieces [] new args = []
filled_pieces (Word w ∷ ps) new args = w ∷ filled_pieces ps new args
filled_pieces (New ∷ ps) (n ∷ new) args = n ∷ filled_pieces ps new args
filled_pieces (New ∷ ps) [] args = filled_pieces ps [] args
filled_pieces (Argument ∷ ps) new (n ∷ args) = n ∷ filled_pieces ps new args
filled_pieces (Argument ∷ ps) new [] = filled_pieces ps new []

-- the pieces of a line: those of the first of its shapes, which all have the same
abbrev pub line_pieces : List Shape → List Piece
line_pieces [] = []
line_pieces (s ∷ ss) = pieces s

-- the objects that are avoided, if there are any
abbrev pub avoid_words : List (List ℕ) → List (List ℕ)
avoid_words [] = []
avoid_words (n ∷ ns) = codes "avoid" ∷ n ∷ ns

abbrev pub let_words : RawLet → List (List ℕ)
let_words l = filled_pieces (line_pieces l.shapes) l.new l.args ++ avoid_words l.avoid

abbrev pub superpose_words : RawSuperpose → List (List ℕ)
superpose_words s = filled_pieces superpose_pieces s.new s.args ++ lits_words s.shown

-- an argument: a name, or the blank
abbrev pub argument_word : Option (List ℕ) → List ℕ
argument_word None = codes "_"
argument_word (Some n) = n

-- the names of made objects, if there are any
abbrev pub made_words : List (List ℕ) → List (List ℕ)
made_words [] = []
made_words (n ∷ ns) = codes "as" ∷ n ∷ ns

abbrev pub apply_words : RawApply → List (List ℕ)
apply_words a = a.title ∷ (map argument_word a.args ++ made_words a.new)

abbrev pub raw_line_words : RawLine → List (List ℕ)
raw_line_words (rawlines.Theorem t) = codes "theorem" ∷ t ∷ []
raw_line_words (rawlines.Declare sort ns) = sort_word sort ∷ ns
raw_line_words (rawlines.Given ls) = codes "given" ∷ lits_words ls
raw_line_words (rawlines.Made sort ns) = codes "made" ∷ sort_word sort ∷ ns
raw_line_words (rawlines.Show ls) = codes "show" ∷ lits_words ls
raw_line_words rawlines.Proof = codes "proof" ∷ []
raw_line_words (rawlines.By r ns l) = codes "by" ∷ r ∷ (ns ++ codes ":" ∷ lit_words l)
raw_line_words (rawlines.Hence l) = codes "hence" ∷ lit_words l
raw_line_words (rawlines.Let l) = codes "let" ∷ let_words l
raw_line_words (rawlines.Apply a) = codes "apply" ∷ apply_words a
raw_line_words (rawlines.Qed ns) = codes "qed" ∷ ns
raw_line_words rawlines.Contradiction = codes "contradiction" ∷ []
raw_line_words (rawlines.Claim ls) = codes "claim" ∷ lits_words ls
raw_line_words (rawlines.Superpose s) = codes "superpose" ∷ superpose_words s
raw_line_words (rawlines.Cases l) = codes "cases" ∷ lit_words l
raw_line_words rawlines.Else = codes "else" ∷ []
raw_line_words rawlines.End = codes "end" ∷ []

-- a line without its end
abbrev pub line_of : RawLine → List ℕ
line_of raw_line = joined_words (raw_line_words raw_line)
