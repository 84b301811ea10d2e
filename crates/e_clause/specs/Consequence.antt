-- What follows from facts in one step, and when facts contradict each other.
use Rattle.std.specs.Prelude.{◌⊎◌, List, IsTrue}
use Rattle.e_literal.specs.declared.object.Scope.{Scope}
use Rattle.e_literal.specs.declared.literal.Lit.{Lit}
use Rattle.e_literal.specs.Facts.{has}
use Rattle.e_clause.specs.Clash.{clash}
use Rattle.e_clause.specs.Metric.{MetricConsequence, Unsatisfiable}
use Rattle.e_clause.specs.Transfer.{TransferConsequence}

-- the literal is among the facts, or is a metric or a transfer consequence of them
abbrev pub Consequence : Scope → List Lit → Lit → Type 0
Consequence scope facts l =
    IsTrue (has facts l) ⊎ (MetricConsequence facts l ⊎ TransferConsequence scope facts l)

-- a diagram literal and its negation are facts, or no assignment makes the metric facts true
abbrev pub Contradictory : List Lit → Type 0
Contradictory facts = IsTrue (clash facts) ⊎ Unsatisfiable facts
