-- Worked values of the definitions.
use Rattle.std.proofs.Common.{◌≡◌, ℕ, List, [], ◌∷◌, map, true, refl}
use Rattle.std.specs.Prelude.{codes}
use Rattle.e_literal.specs.declared.object.Sort.TheVariants.{Point, Line, Circle}
use Rattle.e_literal.specs.declared.literal.Atom.TheVariants as atoms
use Rattle.e_literal.specs.declared.literal.Lit.{Lit}
use Rattle.e_literal.specs.Literal.{obj}
use Rattle.e_construct.specs.declared.construction.Shape.TheVariants.{Free, Within, LineThrough, MeetBoth}
use Rattle.e_construct.specs.declared.construction.Construction.{Construction}
use Rattle.e_construct.specs.Shapes.{shape_row}
use Rattle.e_construct.specs.Lines.{pieces}
use Rattle.e_theorem.specs.declared.statement.Statement.{Statement}
use Rattle.e_deriv.specs.declared.names.Names.{Names}
use Rattle.e_deriv.specs.Script.{Script, Make, Qed}
use Rattle.e_names.specs.Scope.{construction}
use Rattle.e_line.specs.Canonical.{line_of}
use Rattle.e_names.specs.Canonical.{given_raw_line, let_raw_line}
use Rattle.e_book.specs.Canonical.{given_raw_lines, shown_raw_lines, script_raw_lines}

-- points a and b, line L
abbrev names : Names
names = record { points = codes "a" ∷ codes "b" ∷ []; lines = codes "L" ∷ []; circles = [] }

abbrev differ : Lit
differ = record { neg = true; atom = atoms.EqP 0 1 }

abbrev not_on : Lit
not_on = record { neg = true; atom = atoms.On 1 0 }

differs_by_its_sign : line_of (given_raw_line names differ) ≡ codes "given a != b"
differs_by_its_sign = refl

not_stands_before : line_of (given_raw_line names not_on) ≡ codes "given not on b L"
not_stands_before = refl

-- two points and a line are declared, and two points and a circle are made
abbrev statement : Statement
statement = record { declared = Point ∷ Line ∷ Point ∷ []; given = []; made = Point ∷ Point ∷ Circle ∷ []; shown = differ ∷ [] }

abbrev all_names : Names
all_names = record { points = codes "a" ∷ codes "b" ∷ codes "c" ∷ codes "d" ∷ []; lines = codes "L" ∷ []; circles = codes "A" ∷ [] }

declared_lines : map line_of (given_raw_lines all_names statement) ≡ codes "points a" ∷ codes "lines L" ∷ codes "points b" ∷ []
declared_lines = refl

-- neighbouring objects of one sort are on one line
made_lines : map line_of (shown_raw_lines all_names statement) ≡ codes "made points c d" ∷ codes "made circles A" ∷ codes "show a != b" ∷ []
made_lines = refl

abbrev let_line : Construction → List (List ℕ) → List ℕ
let_line construction new = line_of (let_raw_line all_names construction new)

point_between : let_line (construction Within (obj Line 0 ∷ obj Point 0 ∷ obj Point 1 ∷ []) []) (codes "e" ∷ []) ≡ codes "let e on L between a b"
unfolding pieces
point_between = refl

point_avoiding : let_line (construction Free [] (obj Line 0 ∷ obj Point 1 ∷ [])) (codes "e" ∷ []) ≡ codes "let e point avoid L b"
unfolding pieces
point_avoiding = refl

two_points : let_line (construction MeetBoth (obj Line 0 ∷ obj Circle 0 ∷ []) []) (codes "e" ∷ codes "f" ∷ []) ≡ codes "let e f meet L A"
unfolding pieces
two_points = refl

-- a new object is in scope after its line
abbrev script : Script
script = Make (construction LineThrough (obj Point 0 ∷ obj Point 1 ∷ []) []) (codes "M" ∷ []) [] (Qed (obj Point 0 ∷ obj Line 1 ∷ []) [])

proof_lines : map line_of (script_raw_lines [] names script) ≡ codes "let M line a b" ∷ codes "qed a M" ∷ []
unfolding script_raw_lines pieces shape_row
proof_lines = refl
