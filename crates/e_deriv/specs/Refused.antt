-- Why a script is refused: its first step that is not licensed, with values that show it; or a step
-- that is too wide.
use Rattle.std.specs.Prelude.{◌≡◌, ℕ, List, IsTrue, IsFalse, Contains, MatchBool, Option, Some}
use Rattle.std.specs.Prelude.{None}
use Rattle.e_literal.specs.declared.object.Term.{Term}
use Rattle.e_literal.specs.declared.literal.Lit.{Lit}
use Rattle.e_literal.specs.Facts.{is_metric}
use Rattle.e_literal.specs.Use.{StatementView}
use Rattle.e_clause.specs.Counterexample.{ListsCounterexample}
use Rattle.e_clause.specs.Wide.{IsWideLit, IsWideContradiction, IsTooWideLit}
use Rattle.e_clause.specs.Wide.{IsTooWideContradiction}
use Rattle.e_deriv.specs.declared.stop.Wanted.{Wanted}
use Rattle.e_theorem.specs.WideChoice.{SomeChoiceIsWide, SomeChoiceIsTooWide}
use Rattle.e_deriv.specs.declared.stop.Wanted.TheVariants.{Literal, Match}
use Rattle.e_deriv.specs.declared.stop.Wanted.TheVariants.{Contradiction as AContradiction}
use Rattle.e_deriv.specs.Script.{Script, Cite, Apply, Contradiction}
use Rattle.e_deriv.specs.Parts.{has_no_blank}
use Rattle.e_deriv.specs.PlacedSteps.{PlacedStep, theorem_at}
use Rattle.e_deriv.specs.Steps.{needs_as_written}
use Rattle.e_deriv.specs.Licensed.{Lacks, IsContext}

-- ---- values

-- a metric literal that does not follow from the facts has values that show it; a diagram literal
-- has none
abbrev pub LiteralIsShown : List Lit → Lit → Option (List (Term × ℕ)) → Type 0
LiteralIsShown facts l (Some values) =
    IsTrue (is_metric l) × ListsCounterexample facts (Some l) values
LiteralIsShown facts l None = IsFalse (is_metric l)

-- facts that do not contradict each other have values that show it
abbrev pub AgreementIsShown : List Lit → Option (List (Term × ℕ)) → Type 0
AgreementIsShown facts (Some values) = ListsCounterexample facts None values
AgreementIsShown facts None = ⊥

-- what the step lacks is shown by these values; a citation has none, and so has a match
abbrev pub IsShown : Script → List Lit → Wanted → Option (List (Term × ℕ)) → Type 0
IsShown (Cite by rest) facts (Literal l) values = values ≡ None
IsShown here facts (Literal l) values = LiteralIsShown facts l values
IsShown here facts Match values = values ≡ None
IsShown here facts AContradiction values = AgreementIsShown facts values

-- step n is the first that is not licensed, it lacks this, and these values show it
pub record IsRefused (before : List StatementView) (t : StatementView) (script : Script) (n : ℕ)
    (wanted : Wanted) (values : Option (List (Term × ℕ))) : Type 0 where
  pub step : PlacedStep
  pub context : IsContext before t script n step
  pub lacks : Lacks before step step.here wanted
  pub shown : IsShown step.here step.facts wanted values

-- ---- wide steps

-- one of the literals is wide
pub record SomeIsWide (before : List StatementView) (x : PlacedStep) : Type 0 where
  pub lit : Lit
  pub is_one : Contains (needs_as_written before x) lit
  pub is_wide : IsWideLit x.scope x.facts lit

-- a literal that the step needs is wide, for an application with blanks under a choice that is not
-- above the least good one; or its contradiction is. A citation, a claim and a split need nothing
-- and are never wide.
abbrev pub IsWideAt : List StatementView → PlacedStep → Script → Type 0
IsWideAt before x (Contradiction against) = IsWideContradiction x.facts
IsWideAt before x (Apply theorem pattern names certs rest) =
    MatchBool (has_no_blank pattern) (SomeIsWide before x)
    (SomeChoiceIsWide (theorem_at before theorem) x.scope x.facts pattern)
IsWideAt before x _ = SomeIsWide before x

abbrev pub IsWideStep : List StatementView → PlacedStep → Type 0
IsWideStep before x = IsWideAt before x x.here

-- what is wanted at the step is wide, and w is the width of one of its wide systems
abbrev pub IsTooWide : List StatementView → PlacedStep → Script → Wanted → ℕ → Type 0
IsTooWide before x (Contradiction against) AContradiction w = IsTooWideContradiction x.facts w
IsTooWide before x (Contradiction against) _ w = ⊥
IsTooWide before x (Apply theorem pattern names certs rest) (Literal l) w =
    IsTrue (has_no_blank pattern) × Contains (needs_as_written before x) l
    × IsTooWideLit x.scope x.facts l w
IsTooWide before x (Apply theorem pattern names certs rest) Match w =
    IsFalse (has_no_blank pattern)
    × SomeChoiceIsTooWide (theorem_at before theorem) x.scope x.facts pattern w
IsTooWide before x _ (Literal l) w =
    Contains (needs_as_written before x) l × IsTooWideLit x.scope x.facts l w
IsTooWide before x _ _ w = ⊥

-- each step before step n is licensed, and step n is too wide at what is wanted there
pub record IsTooWideAt (before : List StatementView) (t : StatementView) (script : Script) (n : ℕ)
    (wanted : Wanted) (w : ℕ) : Type 0 where
  pub step : PlacedStep
  pub context : IsContext before t script n step
  pub too_wide : IsTooWide before step step.here wanted w
