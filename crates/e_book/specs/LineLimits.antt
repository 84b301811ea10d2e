-- The limits of objects in scope.
use Rattle.std.specs.Prelude.{◌≤◌, length, Result}
use Rattle.e_literal.specs.declared.object.Sort.TheVariants as sorts
use Rattle.e_deriv.specs.declared.names.Names.{Names}
use Rattle.e_line.specs.declared.fault.FaultKind.{FaultKind}
use Rattle.e_line.specs.declared.fault.What.TheVariants as limits
use Rattle.e_line.specs.Reading.{◌>>=◌}
use Rattle.e_line.specs.Limits.{most_of, within}

-- ---- objects

-- the limits of objects in scope: points, then lines, then circles
unfoldable pub few_objects : Names → Result (Unit {0}) FaultKind
few_objects ns = do
  points ← within (length ns.points) (most_of sorts.Point) limits.Points
  lines ← within (length ns.lines) (most_of sorts.Line) limits.Lines
  within (length ns.circles) (most_of sorts.Circle) limits.Circles

-- the objects with these names are within the limits
pub record FewNamed (ns : Names) : Type 0 where
  pub points : length ns.points ≤ most_of sorts.Point
  pub lines : length ns.lines ≤ most_of sorts.Line
  pub circles : length ns.circles ≤ most_of sorts.Circle
