-- The rows of a system, by hand.
use Rattle.std.proofs.Common.{◌≡◌, ℕ, List, [], ◌∷◌, refl, Some, true, false}
use Rattle.std.specs.Prelude.{pos, negsuc}
use Rattle.e_literal.specs.declared.literal.Atom.TheVariants.{EqP, MagEq, MagLt}
use Rattle.e_literal.specs.declared.literal.Lit.{Lit}
use Rattle.e_literal.specs.declared.object.Kind.TheVariants.{Segment, Angle}
use Rattle.e_literal.specs.declared.object.Mono.{Mono}
use Rattle.e_literal.specs.declared.object.Term.{Term}
use Rattle.e_literal.specs.declared.object.Term.TheVariants.{Seg, Ang, Right}
use Rattle.e_literal.specs.Rows.{row, times, AtLeast, More}
use Rattle.e_clause.specs.declared.cert.RowName.TheVariants.{Fact, Goal, Pos, Top}
use Rattle.e_clause.specs.declared.cert.RowName.TheVariants.{Right as RightRow}
use Rattle.e_clause.specs.System.{system, named_row}

abbrev one : Term → Mono
one t = record { coeff = 1; term = t }

abbrev sum_less : List Mono → List Mono → Lit
sum_less x y = record { neg = false; atom = MagLt x y }

abbrev ab : Term
ab = Seg 0 1

abbrev cd : Term
cd = Seg 2 3

abbrev ef : Term
ef = Seg 4 5

-- ab + cd < ef + cd, and cd < ef
abbrev longer : Lit
longer = sum_less (one ab ∷ one cd ∷ []) (one ef ∷ one cd ∷ [])

abbrev shorter : Lit
shorter = sum_less (one cd ∷ []) (one ef ∷ [])

abbrev right_angle : Lit
right_angle = record { neg = false; atom = MagEq (one (Ang 0 1 2) ∷ []) (one Right ∷ []) }

abbrev facts : List Lit
facts = record { neg = true; atom = EqP 1 0 } ∷ longer ∷ shorter ∷ right_angle ∷ []

-- the goal is ef < ab
abbrev goal : Lit
goal = sum_less (one ef ∷ []) (one ab ∷ [])

-- the facts of the kind, the negated goal, and the one segment whose ends differ
of_segments : system Segment facts (Some goal) ≡
    named_row (Fact longer) (row More (times (pos 1) ef ∷ times (pos 1) cd ∷ times (negsuc 0) ab ∷ times (negsuc 0) cd ∷ []))
    ∷ named_row (Fact shorter) (row More (times (pos 1) ef ∷ times (negsuc 0) cd ∷ []))
    ∷ named_row Goal (row AtLeast (times (pos 1) ef ∷ times (negsuc 0) ab ∷ []))
    ∷ named_row (Pos ab) (row More (times (pos 1) ab ∷ []))
    ∷ []
of_segments = refl
