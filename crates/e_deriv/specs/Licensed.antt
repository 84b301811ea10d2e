-- When a step is licensed, whatever the blocks inside it are; the first that is not, and what it
-- lacks.
use Rattle.std.specs.Prelude.{◌≡◌, ℕ, suc, List, [], ◌∷◌, ◌++◌, take, slice_get, IsTrue, IsFalse}
use Rattle.std.specs.Prelude.{Some}
use Rattle.e_literal.specs.declared.object.Obj.{Obj}
use Rattle.e_literal.specs.declared.object.Scope.{Scope}
use Rattle.e_literal.specs.declared.literal.Lit.{Lit}
use Rattle.e_literal.specs.Use.{StatementView}
use Rattle.e_clause.specs.Allowed.{Allowed, AllAllowed}
use Rattle.e_clause.specs.Consequence.{Contradictory}
use Rattle.e_theorem.specs.Choice.{IsLeastChoice, NoneIsAllowed}
use Rattle.e_deriv.specs.declared.stop.Wanted.{Wanted}
use Rattle.e_deriv.specs.declared.stop.Wanted.TheVariants.{Literal, Match}
use Rattle.e_deriv.specs.declared.stop.Wanted.TheVariants.{Contradiction as AContradiction}
use Rattle.e_deriv.specs.Script.{Script, Cite, Hence, Make, Apply, Superposed, Qed, Contradiction}
use Rattle.e_deriv.specs.Parts.{has_no_blank}
use Rattle.e_deriv.specs.PlacedSteps.{PlacedStep, theorem_at, proof_steps}
use Rattle.e_deriv.specs.Steps.{fits, needs, needs_as_written, is_cited}

-- beside that it fits, and its needs: a citation's instance gives the literal; the arguments of an
-- application are the least good choice for its blanks; at a contradiction the facts contradict
-- each other
abbrev pub OtherConditions : List StatementView → Script → Scope → List Lit → List Obj → Type 0
OtherConditions before (Cite by rest) s facts args = IsTrue (is_cited facts by)
OtherConditions before (Apply theorem pattern names certs rest) s facts args =
    IsLeastChoice (theorem_at before theorem) s facts pattern args
OtherConditions before (Contradiction against) s facts args = Contradictory facts
OtherConditions before _ s facts args = Unit {0}

pub record Licensed (before : List StatementView) (x : PlacedStep) : Type 0 where
  pub fits : IsTrue (fits before x)
  pub allowed : AllAllowed x.scope x.facts (needs before x)
  pub others : OtherConditions before x.here x.scope x.facts x.args

abbrev pub AllLicensed : List StatementView → List PlacedStep → Type 0
AllLicensed before [] = Unit {0}
AllLicensed before (x ∷ xs) = Licensed before x × AllLicensed before xs

-- the literal is the first of the list that is not allowed
pub record IsFirstNotAllowed (scope : Scope) (facts : List Lit) (ls : List Lit)
    (l : Lit) : Type 0 where
  pub earlier : List Lit
  pub later : List Lit
  pub split : ls ≡ earlier ++ l ∷ later
  pub allowed : AllAllowed scope facts earlier
  pub not_allowed : ¬ Allowed scope facts l

-- what a step that is not licensed lacks; an application with blanks lacks a choice for them that
-- is good
abbrev pub Lacks : List StatementView → PlacedStep → Script → Wanted → Type 0
Lacks before x (Cite by rest) (Literal l) = IsFalse (is_cited x.facts by) × (l ≡ by.lit)
Lacks before x (Hence lit cert rest) (Literal l) =
    IsFirstNotAllowed x.scope x.facts (needs_as_written before x) l
Lacks before x (Make construction names certs rest) (Literal l) =
    IsFirstNotAllowed x.scope x.facts (needs_as_written before x) l
Lacks before x (Apply theorem pattern names certs rest) (Literal l) =
    IsTrue (has_no_blank pattern) × IsFirstNotAllowed x.scope x.facts (needs_as_written before x) l
Lacks before x (Apply theorem pattern names certs rest) Match =
    IsFalse (has_no_blank pattern)
    × NoneIsAllowed (theorem_at before theorem) x.scope x.facts pattern
Lacks before x (Superposed superposition names shown certs inner rest) (Literal l) =
    IsFirstNotAllowed x.scope x.facts (needs_as_written before x) l
Lacks before x (Qed objects certs) (Literal l) =
    IsFirstNotAllowed x.scope x.facts (needs_as_written before x) l
Lacks before x (Contradiction against) AContradiction = ¬ Contradictory x.facts
Lacks before x _ _ = ⊥

-- the step has number n from 1 on, of the statement's script with its blanks filled, and all steps
-- before it are licensed
pub record IsContext (before : List StatementView) (t : StatementView) (script : Script) (n : ℕ)
    (x : PlacedStep) : Type 0 where
  pub filled : Script
  pub place : ℕ
  pub number : n ≡ suc place
  pub at : slice_get (proof_steps before t script filled) place ≡ Some x
  pub earlier : AllLicensed before (take place (proof_steps before t script filled))

-- step n is the first that is not licensed, and it lacks this
pub record IsFirstUnlicensed (before : List StatementView) (t : StatementView) (script : Script)
    (n : ℕ) (wanted : Wanted) : Type 0 where
  pub step : PlacedStep
  pub context : IsContext before t script n step
  pub lacks : Lacks before step step.here wanted
