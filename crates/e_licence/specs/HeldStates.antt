-- What a context keeps: the checkpoints of its held states, and what is solved of its facts.
use Rattle.std.specs.Prelude.{ℕ, ◌≤◌, List, [], ◌∷◌, length, take, Option, IfSome, IsTrue}
use Rattle.e_literal.specs.declared.object.Scope.{Scope}
use Rattle.e_literal.specs.declared.literal.Lit.{Lit}
use Rattle.e_clause.specs.LimitedFacts.{are_limited_facts}
use Rattle.e_metric.specs.declared.metric_facts.MetricFacts.{MetricFacts}
use Rattle.e_metric.specs.Fronts.{AreFronts}
use Rattle.e_licence.specs.declared.held.Held.{Held}
use Rattle.e_licence.specs.Contexts.{State}

-- the state that is held
abbrev pub held_in : List Lit → Held → State
held_in facts h = record { scope = h.scope; facts = take h.facts facts }

-- its facts are in scope, well formed and not too many, and what is solved was solved of them
pub record IsHeldState (facts : List Lit) (h : Held) : Type 0 where
  pub good : IsTrue (are_limited_facts h.scope (take h.facts facts))
  pub metric_facts : IfSome h.solved (AreFronts (take h.facts facts))

-- their checkpoints are from `low` to `high`, none less than the one before it
abbrev pub AreHeld : ℕ → ℕ → List Lit → List Held → Type 0
AreHeld low high facts [] = low ≤ high
AreHeld low high facts (h ∷ hs) =
    (low ≤ h.facts) × IsHeldState facts h × AreHeld h.facts high facts hs

-- the facts are in scope, well formed and not too many, so are those of the held states, and what
-- is solved is that of the first of them
pub record IsHeldContext (scope : Scope) (facts : List Lit) (held : List Held)
    (solved : Option MetricFacts) : Type 0 where
  pub good : IsTrue (are_limited_facts scope facts)
  pub states : AreHeld 0 (length facts) facts held
  pub metric_facts : IfSome solved (AreFronts facts)
