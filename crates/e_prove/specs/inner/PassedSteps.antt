-- What it is to license the steps of a script one after another, with the blocks inside it.
use Rattle.std.specs.Prelude.{◌≡◌, ℕ, ◌+◌, ◌-◌, ◌<◌, ◌^◌, List, take, slice_get, IsTrue, Some}
use Rattle.std.specs.List.{list_all}
use Rattle.e_literal.specs.declared.object.Scope.{Scope}
use Rattle.e_literal.specs.declared.literal.Lit.{Lit}
use Rattle.e_literal.specs.Literal.{negation}
use Rattle.e_literal.specs.Use.{StatementView}
use Rattle.e_deriv.specs.declared.block.Step.{Step}
use Rattle.e_deriv.specs.declared.names.Names.{Names}
use Rattle.e_deriv.specs.declared.stop.Stop.{Stop}
use Rattle.e_deriv.specs.declared.stop.Stop.TheVariants as stop
use Rattle.e_deriv.specs.Script.{Script, step_script, size, bare_script}
use Rattle.e_deriv.specs.Parts.{filled_by}
use Rattle.e_deriv.specs.Goal.{Goal}
use Rattle.e_deriv.specs.PlacedSteps.{PlacedStep}
use Rattle.e_deriv.specs.Naming.{names_of_steps}
use Rattle.e_deriv.specs.Licensed.{AllLicensed}
use Rattle.e_deriv.specs.Certified.{is_certified}
use Rattle.e_deriv.specs.Fitting.{LitsFit, is_small, is_small_statement}
use Rattle.e_clause.specs.declared.cert.Version.TheVariants as version
use Rattle.e_deriv.specs.Versions.{has_certs_of}
use Rattle.e_prove.specs.declared.stop_reason.StopReason.{StopReason}
use Rattle.e_prove.specs.declared.stop_reason.StopReason.TheVariants.{Lacks, TooWide}
use Rattle.e_prove.specs.declared.state_before.StateBefore.{StateBefore}
use Rattle.e_prove.specs.Stops.{IsStopBefore}
use Rattle.e_prove.specs.inner.NextStates.{after_literal}
use Rattle.e_prove.specs.inner.StopsOfSteps.{StepStopsAt}
use Rattle.e_prove.specs.inner.LicensedSteps.{steps_from_basis, fits_here}

-- Where state `x` holds before the script, each of its steps fits in its place, and so do its
-- literals, however blanks are filled; there are numbers for all objects.
pub record IsReadyFor (before : List StatementView) (script : Script) (x : StateBefore)
    (goal : Goal) : Type 0 where
  pub forms :
      IsTrue (list_all (fits_here before) (steps_from_basis before script script x.context goal))
  pub lits : (filled : Script)
      → LitsFit before (steps_from_basis before script filled x.context goal)
  pub scopes :
      IsTrue
      (list_all (λ y. is_small y.scope) (steps_from_basis before script script x.context goal))
  pub statements : IsTrue (list_all is_small_statement before)

-- `whole` puts some steps before a rest. There are a rest and a goal for which the whole is ready
-- from state `x`, and the numbers of its steps, which begin with `first`, have 32 bits.
pub record AreReadyBeforeSome (before : List StatementView) (whole : Script → Script)
    (x : StateBefore) (first : ℕ) : Type 0 where
  pub rest : Script
  pub goal : Goal
  pub ready : IsReadyFor before (whole rest) x goal
  pub few : first + size (whole rest) < 2 ^ 32

-- the same of one step
abbrev pub IsReadyStep : List StatementView → Step → StateBefore → ℕ → Type 0
IsReadyStep before step x first = AreReadyBeforeSome before (step_script step) x first

-- From state `x` the script is licensed, with its blanks filled as in `derived`, and `derived` is
-- certified. Without certificates `derived` is the script with its blanks filled. Its certificates
-- cite facts by literals, which are well formed.
pub record IsDerivedFrom (before : List StatementView) (script : Script) (x : StateBefore)
    (goal : Goal) (derived : Script) : Type 0 where
  pub licensed : AllLicensed before (steps_from_basis before script derived x.context goal)
  pub certified :
      IsTrue
      (list_all (is_certified before) (steps_from_basis before derived derived x.context goal))
  pub erased : bare_script derived ≡ filled_by (bare_script script) derived
  pub version : IsTrue (has_certs_of version.One derived)

-- the states outside of the open blocks are the same in `x` and in `after`
abbrev pub KeepsHeld : StateBefore → StateBefore → Type 0
KeepsHeld x after = after.context.held ≡ x.context.held

-- ---- stops

-- what is found at a step: that licensing stops there, by `h`; or which objects are in scope before
-- the step, and which literals are facts
pub data Arrival : Type 0 where
  Halts : (h : StopReason) → Arrival
  Stands : (scope : Scope) (facts : List Lit) → Arrival

-- the arrival is found at the placed step `y`
abbrev pub ArrivesAt : List StatementView → PlacedStep → Arrival → Type 0
ArrivesAt before y (Halts h) = StepStopsAt before y h
ArrivesAt before y (Stands scope facts) = (y.scope ≡ scope) × (y.facts ≡ facts)

-- Arrival `a` is found at step `n` of the steps `xs`, the first of which has number `first`. All
-- steps before it are licensed, and `names` are those in scope before it.
pub record IsReachedIn (before : List StatementView) (xs : List PlacedStep) (ns : List Names)
    (first : ℕ) (a : Arrival) (n : ℕ) (names : Names) : Type 0 where
  pub place : ℕ
  pub number : n ≡ first + place
  pub step : PlacedStep
  pub at : slice_get xs place ≡ Some step
  pub earlier : AllLicensed before (take place xs)
  pub arrives : ArrivesAt before step a
  pub named : slice_get ns place ≡ Some names

-- licensing stops by the stop at one of the steps `xs`, the first of which has number `first`; `ns`
-- are the names in scope before each
abbrev pub StopsInList : List StatementView → List PlacedStep → List Names → ℕ → Stop → Type 0
StopsInList before xs ns first (stop.Unlicensed n wanted values names) =
    IsReachedIn before xs ns first (Halts (Lacks wanted values)) n names
StopsInList before xs ns first (stop.TooWide n wanted width names) =
    IsReachedIn before xs ns first (Halts (TooWide wanted width)) n names
StopsInList before xs ns first stop.NoMemory = Unit {0}

-- arrival `a` is found at step `n` of the script, from state `x`, with the blanks before it filled
-- as in `filled`
pub record ReachesWithin (before : List StatementView) (script : Script) (x : StateBefore)
    (goal : Goal) (first : ℕ) (a : Arrival) (n : ℕ) (names : Names) : Type 0 where
  pub filled : Script
  pub reached : IsReachedIn before (steps_from_basis before script filled x.context goal)
      (names_of_steps before x.names script) first a n names

-- before step `n` of the script the state is `y`, with the blanks before it filled somehow
abbrev pub ReachesStep : List StatementView → Script → StateBefore → Goal → ℕ → ℕ
    → StateBefore → Type 0
ReachesStep before script x goal first n y =
    ReachesWithin before script x goal first (Stands y.context.scope y.context.facts) n y.names

-- licensing stops by `s` at a step of the script, with the blanks before it filled as in `filled`
pub record StopsWithin (before : List StatementView) (script : Script) (x : StateBefore)
    (goal : Goal) (first : ℕ) (s : Stop) : Type 0 where
  pub filled : Script
  pub stops : StopsInList before (steps_from_basis before script filled x.context goal)
      (names_of_steps before x.names script) first s

-- ---- what has been licensed

-- `whole` puts some steps before a rest. Licensing these steps leads from state `x`, where the
-- first has number `first`, to state `after` and number `next`. So a derivation of a rest from
-- `after` is, by `derived`, one of the whole from `x`; and a stop or an arrival in the rest is one
-- in the whole.
pub record IsPassed (before : List StatementView) (whole : Script → Script) (x : StateBefore)
    (first : ℕ) (derived : Script → Script) (after : StateBefore) (next : ℕ) : Type 0 where
  pub ready : (rest : Script) (goal : Goal) → IsReadyFor before (whole rest) x goal
      → IsReadyFor before rest after goal
  pub derives : (rest more : Script) (goal : Goal) → IsReadyFor before (whole rest) x goal
      → IsDerivedFrom before rest after goal more
      → IsDerivedFrom before (whole rest) x goal (derived more)
  pub stops : (rest : Script) (goal : Goal) (s : Stop) → IsReadyFor before (whole rest) x goal
      → StopsWithin before rest after goal next s → StopsWithin before (whole rest) x goal first s
  pub reaches : (rest : Script) (goal : Goal) (a : Arrival) (n : ℕ) (names : Names)
      → IsReadyFor before (whole rest) x goal
      → ReachesWithin before rest after goal next a n names
      → ReachesWithin before (whole rest) x goal first a n names
  pub number : (rest : Script) → first + size (whole rest) ≡ next + size rest
  pub kept : KeepsHeld x after

-- licensing the steps that `whole` puts before a rest stops by `s` at one of them, whatever the
-- rest
abbrev pub StopsInSteps : List StatementView → (Script → Script) → StateBefore → ℕ → Stop → Type 0
StopsInSteps before whole x first s =
    (rest : Script) (goal : Goal) → IsReadyFor before (whole rest) x goal
    → StopsWithin before (whole rest) x goal first s
    × IsStopBefore (first + size (whole rest) - size rest) s

-- the same of one step
abbrev pub StopsInStep : List StatementView → Step → StateBefore → ℕ → Stop → Type 0
StopsInStep before step x first s = StopsInSteps before (step_script step) x first s

-- before step `n`, in the step's own block, the state is `y`, whatever comes after the step
abbrev pub ReachesInStep : List StatementView → Step → StateBefore → ℕ → ℕ → StateBefore → Type 0
ReachesInStep before step x first n y =
    (rest : Script) (goal : Goal) → IsReadyFor before (step_script step rest) x goal
    → ReachesStep before (step_script step rest) x goal first n y

-- The first block of a split has been licensed from `x` with its literal as a fact; in `after` the
-- negation of the literal is a fact.
pub record IsFirstPassed (before : List StatementView) (lit : Lit) (block : Script)
    (x : StateBefore) (goal : Goal) (after : StateBefore) : Type 0 where
  pub derived : Script
  pub is_derived : IsDerivedFrom before block (after_literal lit x) goal derived
  pub is_after : after ≡ after_literal (negation lit) x
