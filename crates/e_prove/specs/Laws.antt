-- What a stop of `prove`, or that it comes, says of a script.
use Rattle.std.specs.Prelude.{◌≡◌, ℕ, List, [], ◌∷◌, take}
use Rattle.e_literal.specs.Use.{StatementView}
use Rattle.e_deriv.specs.declared.stop.Wanted.{Wanted}
use Rattle.e_deriv.specs.declared.stop.Stop.{Stop}
use Rattle.e_deriv.specs.declared.stop.Stop.TheVariants.{Unlicensed, TooWide, NoMemory}
use Rattle.e_deriv.specs.Script.{Script}
use Rattle.e_deriv.specs.PlacedSteps.{PlacedStep, proof_steps}
use Rattle.e_deriv.specs.Licensed.{AllLicensed, IsFirstUnlicensed}
use Rattle.e_deriv.specs.Certified.{Certified, derivation_steps}
use Rattle.e_deriv.specs.Refused.{IsWideStep}
use Rattle.e_prove.specs.Stops.{StopIs}

-- none of the steps is wide
abbrev pub NoneWide : List StatementView → List PlacedStep → Type 0
NoneWide before [] = Unit {0}
NoneWide before (x ∷ xs) = (¬ IsWideStep before x) × NoneWide before xs

-- the stop is no refusal: a step is too wide to be decided, or memory ran out
abbrev pub IsNoRefusal : Stop → Type 0
IsNoRefusal (Unlicensed step wanted values names) = ⊥
IsNoRefusal _ = Unit {0}

-- where each step is licensed, with its blanks filled somehow, no stop is a refusal
abbrev pub LicensedIsNotRefused : Type 0
LicensedIsNotRefused =
    (before : List StatementView) (t : StatementView) (script filled : Script) (stop : Stop)
    → AllLicensed before (proof_steps before t script filled) →
    StopIs before t script stop → IsNoRefusal stop

-- and where no step is wide, each stop is out of memory
abbrev pub LicensedStopsForMemory : Type 0
LicensedStopsForMemory =
    (before : List StatementView) (t : StatementView) (script filled : Script) (stop : Stop)
    → AllLicensed before (proof_steps before t script filled) →
    NoneWide before (proof_steps before t script filled)
    → StopIs before t script stop → stop ≡ NoMemory

-- and so it is where the script is a derivation that is certified, and no step is wide
abbrev pub DerivedStopsForMemory : Type 0
DerivedStopsForMemory =
    (before : List StatementView) (t : StatementView) (d : Script) (stop : Stop)
    → Certified before t d → NoneWide before (derivation_steps before t d) →
    StopIs before t d stop → stop ≡ NoMemory

-- the stop is a refusal at step `n`, which lacks `wanted`; or memory ran out
abbrev pub IsRefusalAt : ℕ → Wanted → Stop → Type 0
IsRefusalAt n wanted (Unlicensed step lacked values names) = (step ≡ n) × (lacked ≡ wanted)
IsRefusalAt n wanted (TooWide step lacked width names) = ⊥
IsRefusalAt n wanted NoMemory = Unit {0}

-- where step `n` is the first that is not licensed, and no step up to it is wide, each stop is at
-- step `n`, which lacks `wanted`, or is out of memory
abbrev pub RefusedStopsThere : Type 0
RefusedStopsThere =
    (before : List StatementView) (t : StatementView) (script : Script) (n : ℕ) (wanted : Wanted)
    (stop : Stop) (first : IsFirstUnlicensed before t script n wanted) →
    NoneWide before (take n (proof_steps before t script first.context.filled))
    → StopIs before t script stop → IsRefusalAt n wanted stop
