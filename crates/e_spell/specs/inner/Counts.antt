-- How many objects of each sort come before, as a scope.
use Rattle.std.specs.Prelude.{ℕ, ◌+◌, ◌<◌, ◌≤◌}
use Rattle.e_literal.specs.declared.object.Scope.{Scope}
use Rattle.e_spell.specs.declared.declarations.Counts.{Counts}

abbrev pub scope_of_counts : Counts → Scope
scope_of_counts c = record { points = c.points; lines = c.lines; circles = c.circles }

pub record Below (c : Counts) (bound : ℕ) : Type 0 where
  pub points : c.points < bound
  pub lines : c.lines < bound
  pub circles : c.circles < bound

-- at most this many more than before
pub record AtMostMore (before after : Counts) (n : ℕ) : Type 0 where
  pub points : after.points ≤ before.points + n
  pub lines : after.lines ≤ before.lines + n
  pub circles : after.circles ≤ before.circles + n
