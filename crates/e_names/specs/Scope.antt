-- Names resolved to the objects in scope, from left to right.
use Rattle.std.specs.Prelude.{ℕ, ◌+◌, ◌<◌, ◌^◌, Bool, true, false, not, ◌||◌, ◌==◌, List, [], ◌∷◌}
use Rattle.std.specs.Prelude.{◌++◌, length, take, drop, Option, Some, None, Result, Ok, Err}
use Rattle.std.specs.Prelude.{if◌then◌else◌}
use Rattle.std.specs.List.{position, list_any}
use Rattle.std.specs.Str.{bytes_eq}
use Rattle.e_literal.specs.declared.object.Sort.{Sort}
use Rattle.e_literal.specs.declared.object.Sort.TheVariants as sorts
use Rattle.e_literal.specs.declared.object.Obj.{Obj}
use Rattle.e_literal.specs.declared.object.Scope.{Scope}
use Rattle.e_literal.specs.declared.object.Kind.{Kind as Magnitude}
use Rattle.e_literal.specs.declared.object.Kind.TheVariants as magnitudes
use Rattle.e_literal.specs.declared.object.Term.{Term}
use Rattle.e_literal.specs.declared.object.Term.TheVariants as terms
use Rattle.e_literal.specs.declared.object.Mono.{Mono}
use Rattle.e_literal.specs.declared.literal.Atom.{Atom}
use Rattle.e_literal.specs.declared.literal.Atom.TheVariants as atoms
use Rattle.e_literal.specs.declared.literal.Lit.{Lit}
use Rattle.e_literal.specs.Literal.{obj}
use Rattle.e_literal.specs.Scopes.{same_sort}
use Rattle.e_literal.specs.WellFormed.{same_kind}
use Rattle.e_clause.specs.declared.rule.Sig.{Sig}
use Rattle.e_clause.specs.declared.cert.By.{By}
use Rattle.e_clause.specs.Instance.{number_of_rule}
use Rattle.e_clause.specs.Sigs.{sig_of}
use Rattle.e_clause.specs.RuleKinds.{is_diagram_rule}
use Rattle.e_construct.specs.declared.construction.Shape.{Shape}
use Rattle.e_construct.specs.declared.construction.Construction.{Construction}
use Rattle.e_construct.specs.Construct.{fits_construction, sorts_made}
use Rattle.e_construct.specs.Lines.{takes}
use Rattle.e_deriv.specs.declared.names.Names.{Names}
pub use Rattle.e_deriv.specs.Naming.{names_of_sort, with_names}
use Rattle.e_line.specs.declared.fault.FaultKind.{FaultKind}
use Rattle.e_line.specs.declared.fault.FaultKind.TheVariants.{Malformed, UnknownName, NameTaken}
use Rattle.e_line.specs.declared.fault.FaultKind.TheVariants.{WrongSort}
use Rattle.e_line.specs.declared.sum.RawTerm.{RawTerm}
use Rattle.e_line.specs.declared.sum.RawTerm.TheVariants as rawterms
use Rattle.e_line.specs.declared.sum.RawMono.{RawMono}
use Rattle.e_line.specs.declared.literal.RawLit.{RawLit}
use Rattle.e_line.specs.declared.literal.RawAtom.{RawAtom}
use Rattle.e_line.specs.declared.literal.RawAtom.TheVariants as raw
use Rattle.e_line.specs.declared.lets.RawLet.{RawLet}
use Rattle.e_line.specs.Reading.{◌>>=◌, each}

-- a number of 16 bits is enough for each object
pub record FewNames (ns : Names) : Type 0 where
  pub points : length ns.points < 2 ^ 16
  pub lines : length ns.lines < 2 ^ 16
  pub circles : length ns.circles < 2 ^ 16

-- the scope of the objects that have these names
abbrev pub scope_of_names : Names → Scope
scope_of_names ns =
    record { points = length ns.points; lines = length ns.lines; circles = length ns.circles }

abbrev pub is_among_names : List (List ℕ) → List ℕ → Bool
is_among_names names name = list_any (λ n. bytes_eq n name) names

abbrev pub object_at : Sort → Option ℕ → Option Obj
object_at sort None = None
object_at sort (Some i) = Some (obj sort i)

abbrev pub or_else : Option Obj → Option Obj → Option Obj
or_else (Some o) other = Some o
or_else None other = other

abbrev pub object_in : Names → Sort → List ℕ → Option Obj
object_in ns sort name = object_at sort (position (λ n. bytes_eq n name) (names_of_sort ns sort))

-- the object with this name
abbrev pub object_of : Names → List ℕ → Option Obj
object_of ns name =
    or_else (object_in ns sorts.Point name)
    (or_else (object_in ns sorts.Line name) (object_in ns sorts.Circle name))

abbrev pub known_object : Option Obj → Result Obj FaultKind
known_object None = Err UnknownName
known_object (Some o) = Ok o

-- a name that is used
abbrev pub used_object : Names → List ℕ → Result Obj FaultKind
used_object ns name = known_object (object_of ns name)

abbrev pub number_of_sort : Sort → Obj → Result ℕ FaultKind
number_of_sort sort o = if same_sort o.sort sort then Ok o.num else Err WrongSort

-- the number of an object of this sort
unfoldable pub number_of_name : Names → Sort → List ℕ → Result ℕ FaultKind
number_of_name ns sort name = used_object ns name >>= λ o. number_of_sort sort o

-- ---- sums

unfoldable pub term_in : Names → RawTerm → Result Term FaultKind
term_in ns (rawterms.Seg x y) =
    number_of_name ns sorts.Point x >>= λ a. number_of_name ns sorts.Point y
    >>= λ b. Ok (terms.Seg a b)
term_in ns (rawterms.Ang x y z) =
    number_of_name ns sorts.Point x >>= λ a. number_of_name ns sorts.Point y
    >>= λ b. number_of_name ns sorts.Point z >>= λ c. Ok (terms.Ang a b c)
term_in ns (rawterms.Area x y z) =
    number_of_name ns sorts.Point x >>= λ a. number_of_name ns sorts.Point y
    >>= λ b. number_of_name ns sorts.Point z >>= λ c. Ok (terms.Area a b c)
term_in ns rawterms.Right = Ok terms.Right

abbrev pub kind_of_raw : RawTerm → Magnitude
kind_of_raw (rawterms.Seg x y) = magnitudes.Segment
kind_of_raw (rawterms.Ang x y z) = magnitudes.Angle
kind_of_raw (rawterms.Area x y z) = magnitudes.Area
kind_of_raw rawterms.Right = magnitudes.Angle

-- the kind of the first term, from left to right
abbrev pub first_kind : List RawMono → List RawMono → Magnitude
first_kind (m ∷ xs) ys = kind_of_raw m.term
first_kind [] (m ∷ ys) = kind_of_raw m.term
first_kind [] [] = magnitudes.Segment

-- a term of this kind, and then its points
unfoldable pub mono_in : Names → Magnitude → RawMono → Result Mono FaultKind
mono_in ns kind m =
    if same_kind (kind_of_raw m.term) kind
    then (term_in ns m.term >>= λ t. Ok (record { coeff = m.coeff; term = t }))
    else Err WrongSort

-- all terms have the kind of the first one
unfoldable pub sums_in : Names → List RawMono → List RawMono
    → Result (List Mono × List Mono) FaultKind
sums_in ns x y = do
  a ← each (mono_in ns (first_kind x y)) x
  b ← each (mono_in ns (first_kind x y)) y
  Ok (a, b)

-- ---- literals

-- a point on an object of this sort
abbrev pub on_sort : ℕ → Sort → ℕ → Result Atom FaultKind
on_sort a sorts.Point n = Err WrongSort
on_sort a sorts.Line n = Ok (atoms.On a n)
on_sort a sorts.Circle n = Ok (atoms.OnC a n)

-- a line that meets an object of this sort
abbrev pub line_meets : ℕ → Sort → ℕ → Result Atom FaultKind
line_meets l sorts.Point n = Err WrongSort
line_meets l sorts.Line n = Ok (atoms.MeetLL l n)
line_meets l sorts.Circle n = Ok (atoms.MeetLC l n)

-- what meets: after a line a line or a circle, after a circle a circle
abbrev pub meets_from : Names → Sort → ℕ → List ℕ → Result Atom FaultKind
meets_from ns sorts.Point n y = Err WrongSort
meets_from ns sorts.Line n y = used_object ns y >>= λ o. line_meets n o.sort o.num
meets_from ns sorts.Circle n y = number_of_name ns sorts.Circle y >>= λ k. Ok (atoms.MeetCC n k)

-- two equal objects of a sort
abbrev pub equal_at : Sort → ℕ → ℕ → Atom
equal_at sorts.Point a b = atoms.EqP a b
equal_at sorts.Line a b = atoms.EqL a b
equal_at sorts.Circle a b = atoms.EqC a b

unfoldable pub atom_in : Names → RawAtom → Result Atom FaultKind
atom_in ns (raw.On x y) =
    number_of_name ns sorts.Point x >>= λ a. used_object ns y >>= λ o. on_sort a o.sort o.num
atom_in ns (raw.Inside x y) =
    number_of_name ns sorts.Point x >>= λ a. number_of_name ns sorts.Circle y
    >>= λ c. Ok (atoms.Inside a c)
atom_in ns (raw.Center x y) =
    number_of_name ns sorts.Point x >>= λ a. number_of_name ns sorts.Circle y
    >>= λ c. Ok (atoms.Center a c)
atom_in ns (raw.Between x y z) =
    number_of_name ns sorts.Point x >>= λ a. number_of_name ns sorts.Point y
    >>= λ b. number_of_name ns sorts.Point z >>= λ c. Ok (atoms.Between a b c)
atom_in ns (raw.Same x y z) =
    number_of_name ns sorts.Point x >>= λ a. number_of_name ns sorts.Point y
    >>= λ b. number_of_name ns sorts.Line z >>= λ l. Ok (atoms.Same a b l)
atom_in ns (raw.Meets x y) = used_object ns x >>= λ o. meets_from ns o.sort o.num y
atom_in ns (raw.Equal x y) =
    used_object ns x >>= λ o. number_of_name ns o.sort y >>= λ n. Ok (equal_at o.sort o.num n)
atom_in ns (raw.SumsEqual x y) = sums_in ns x y >>= λ p. Ok (atoms.MagEq p.0 p.1)
atom_in ns (raw.SumsLess x y) = sums_in ns x y >>= λ p. Ok (atoms.MagLt p.0 p.1)
atom_in ns (raw.SumsAtMost x y) = sums_in ns x y >>= λ p. Ok (atoms.MagLt p.1 p.0)

-- a sum at most another is the negation of the other being less
abbrev pub negated_in : RawAtom → Bool → Bool
negated_in (raw.SumsAtMost x y) neg = not neg
negated_in a neg = neg

unfoldable pub lit_in : Names → RawLit → Result Lit FaultKind
lit_in ns l = atom_in ns l.atom >>= λ a. Ok (record { neg = negated_in l.atom l.neg; atom = a })

abbrev pub lits_in : Names → List RawLit → Result (List Lit) FaultKind
lits_in ns raws = each (lit_in ns) raws

-- an object of this sort
unfoldable pub object_as : Names → Sort → List ℕ → Result Obj FaultKind
object_as ns sort name = number_of_name ns sort name >>= λ n. Ok (obj sort n)

abbrev pub objects_as : Names → Sort → List (List ℕ) → Result (List Obj) FaultKind
objects_as ns sort names = each (object_as ns sort) names

-- a name is that of an object in scope, or one of those that are new on the line before it
abbrev pub is_taken : Names → List (List ℕ) → List ℕ → Bool
is_taken ns seen name =
    is_among_names ns.points name || (is_among_names ns.lines name
    || (is_among_names ns.circles name || is_among_names seen name))

-- none of the names is taken, and none is new twice
abbrev pub fresh : Names → List (List ℕ) → List (List ℕ) → Result (Unit {0}) FaultKind
fresh ns seen [] = Ok tt
fresh ns seen (name ∷ names) =
    if is_taken ns seen name then Err NameTaken else fresh ns (seen ++ name ∷ []) names

-- a citation is of a rule of diagrams and equality
abbrev pub known_rule : Option ℕ → Result ℕ FaultKind
known_rule None = Err UnknownName
known_rule (Some r) = if is_diagram_rule r then Ok r else Err UnknownName

abbrev pub variables_of : Option Sig → Result Sig FaultKind
variables_of None = Err UnknownName
variables_of (Some s) = Ok s

abbrev pub right_count : Bool → Result (Unit {0}) FaultKind
right_count true = Ok tt
right_count false = Err Malformed

-- a name for each variable of a rule: points, then lines, then circles
unfoldable pub args_in : Names → Sig → List (List ℕ) → Result (List Obj) FaultKind
args_in ns s names = do
  ps ← objects_as ns sorts.Point (take s.points names)
  ls ← objects_as ns sorts.Line (take s.lines (drop s.points names))
  cs ← objects_as ns sorts.Circle (drop s.lines (drop s.points names))
  Ok (ps ++ ls ++ cs)

-- the rule, then how many names it has, then the names, then the literal
unfoldable pub by_in : Names → List ℕ → List (List ℕ) → RawLit → Result By FaultKind
by_in ns rule names lit = do
  r ← known_rule (number_of_rule rule)
  s ← variables_of (sig_of r)
  right ← right_count (length names == s.points + s.lines + s.circles)
  args ← args_in ns s names
  l ← lit_in ns lit
  Ok (record { rule = r; args = args; lit = l })

-- ---- constructions

abbrev pub right_sort : Bool → Result (Unit {0}) FaultKind
right_sort true = Ok tt
right_sort false = Err WrongSort

-- the arguments, after those that were found: each has a sort that one of the shapes takes there,
-- after the earlier ones
abbrev pub arguments_in : Names → List Shape → List Obj → List (List ℕ)
    → Result (List Obj) FaultKind
arguments_in ns shapes found [] = Ok found
arguments_in ns shapes found (name ∷ names) =
    used_object ns name >>= λ o. right_sort (list_any (λ s. takes s (found ++ o ∷ [])) shapes)
    >>= λ right. arguments_in ns shapes (found ++ o ∷ []) names

abbrev pub construction : Shape → List Obj → List Obj → Construction
construction shape args avoid = record { shape = shape; args = args; avoid = avoid }

-- the construction of the first shape that fits the objects. A line of a book has one: its shapes
-- have as many arguments as the line, and the last argument has a sort that one of them takes after
-- the others.
abbrev pub first_fitting : Scope → List Obj → List Obj → List Shape → Result Construction FaultKind
first_fitting s args avoid [] = Err Malformed
first_fitting s args avoid (shape ∷ shapes) =
    if fits_construction (construction shape args avoid) s
    then Ok (construction shape args avoid)
    else first_fitting s args avoid shapes

-- the new names, then the arguments, then the avoided objects, from left to right. No line of
-- a book has another number of new names than objects that are made.
unfoldable pub let_in : Names → RawLet → Result Construction FaultKind
let_in ns l = do
  free ← fresh ns [] l.new
  args ← arguments_in ns l.shapes [] l.args
  avoid ← each (used_object ns) l.avoid
  construction ← first_fitting (scope_of_names ns) args avoid l.shapes
  right ← right_count (length l.new == length (sorts_made construction))
  Ok construction

-- ---- the close

-- an object for each sort, in order
abbrev pub objects_of_sorts : Names → List Sort → List (List ℕ) → Result (List Obj) FaultKind
objects_of_sorts ns (sort ∷ sorts) (name ∷ names) =
    object_as ns sort name >>= λ o. objects_of_sorts ns sorts names >>= λ os. Ok (o ∷ os)
objects_of_sorts ns _ _ = Ok []

-- the objects after qed: as many as the goal has made ones, and then each of the sort of its made
-- one
unfoldable pub qed_in : Names → List Sort → List (List ℕ) → Result (List Obj) FaultKind
qed_in ns made names = do
  right ← right_count (length names == length made)
  objects_of_sorts ns made names
