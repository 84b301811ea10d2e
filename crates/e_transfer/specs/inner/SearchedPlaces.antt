-- The search at one place of a clause.
use Rattle.std.specs.Prelude.{◌≡◌, ℕ, ◌<◌, List, ◌++◌, Option, Some, None, IsTrue, slice_get}
use Rattle.std.specs.Prelude.{length, nat_lt}
use Rattle.std.specs.List.{list_all}
use Rattle.e_literal.specs.declared.object.Scope.{Scope}
use Rattle.e_literal.specs.declared.literal.Lit.{Lit}
use Rattle.e_clause.specs.declared.cert.TransferCert.{TransferCert}
use Rattle.e_clause.specs.Rows.{Row}
use Rattle.e_clause.specs.Table.{table}
use Rattle.e_transfer.specs.declared.plan.Plan.{Plan}
use Rattle.e_transfer.specs.declared.query.Strength.{Strength}
use Rattle.e_transfer.specs.inner.PartsOfChoices.{chosen_arguments, ready_at_of}
use Rattle.e_transfer.specs.GivenGoals.{GivesGoal, IsCertifyingTransfer}

-- the plan is one for the rule's clause, and the instance at the choice's arguments gives the goal
-- at the place
pub record Wanted (m : Strength) (scope : Scope) (facts : List Lit) (goal : Lit) (rule place : ℕ)
    (plan : Plan) (c : List ℕ) : Type 0 where
  pub row : Row
  pub of_table : slice_get table rule ≡ Some row
  pub ready_at : plan.ready_at.items ≡ ready_at_of row plan.positions.items
  pub below : IsTrue (list_all (λ p. nat_lt p (length plan.spans.items)) plan.positions.items)
  pub gives : GivesGoal m scope facts goal rule place (chosen_arguments row plan.positions.items c)

-- no choice that begins so is wanted
abbrev pub NoneFrom : Strength → Scope → List Lit → Lit → ℕ → ℕ → Plan → List ℕ → Type 0
NoneFrom m scope facts goal rule place plan part =
    (rest : List ℕ) → Wanted m scope facts goal rule place plan (part ++ rest) → ⊥

-- what is handed out: nothing for a part, and for a whole choice a certificate
abbrev pub Shown : Scope → List Lit → Lit → ℕ → List ℕ → Option TransferCert → Type 0
Shown scope facts goal total part None = length part < total
Shown scope facts goal total part (Some cert) = IsCertifyingTransfer scope facts goal cert
