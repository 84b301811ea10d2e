-- A scope of one point, and a literal of two.
use Rattle.std.specs.Prelude.{false}
use Rattle.e_literal.specs.declared.object.Scope.{Scope}
use Rattle.e_literal.specs.declared.literal.Lit.{Lit}
use Rattle.e_literal.specs.declared.literal.Atom.TheVariants.{EqP}

abbrev pub one_point : Scope
one_point = record { points = 1; lines = 0; circles = 0 }

-- the first point is the second
abbrev pub equal_points : Lit
equal_points = record { neg = false; atom = EqP 0 1 }
