-- Weights of constraints that refute the rows which the constraints are of.
use Rattle.std.specs.Prelude.{ℕ, ◌+◌, ℤ, true, false, List, length}
use Rattle.e_literal.specs.declared.object.Term.{Term}
use Rattle.e_literal.specs.Rows.{Row}
use Rattle.e_simplex.specs.Constraints.{IsAbsurd}
use Rattle.e_simplex.specs.Naming.{AreOnce, AllNamed, named_constraints}
use Rattle.e_simplex.specs.inner.Disequalities.{AreBothRefuted}

pub record AreWeightsFor (rows : List Row) (weights : List ℤ) : Type 0 where
  pub terms : List Term
  pub once : AreOnce terms
  pub named : AllNamed terms rows
  pub absurd : IsAbsurd (length terms + 1) (named_constraints false terms rows) weights

-- both signs of the row at k, of those that say `not 0`
pub record AreWeightsForBoth (rows : List Row) (k : ℕ) (above below : List ℤ) : Type 0 where
  pub terms : List Term
  pub once : AreOnce terms
  pub named : AllNamed terms rows
  pub both : AreBothRefuted (length terms + 1) (named_constraints false terms rows)
      (named_constraints true terms rows) k above below
