-- Which stops `prove` may give, and with which names.
use Rattle.std.specs.Prelude.{◌≡◌, ℕ, ◌-◌, ◌<◌, List, Some, slice_get}
use Rattle.e_literal.specs.Use.{StatementView}
use Rattle.e_deriv.specs.declared.names.Names.{Names}
use Rattle.e_deriv.specs.declared.stop.Stop.{Stop}
use Rattle.e_deriv.specs.declared.stop.Stop.TheVariants.{Unlicensed, TooWide, NoMemory}
use Rattle.e_deriv.specs.Script.{Script}
use Rattle.e_deriv.specs.Naming.{names_of_steps, declared_names}
use Rattle.e_deriv.specs.Refused.{IsRefused, IsTooWideAt}

-- `step` is the first that is not licensed, it lacks `wanted`, and `values` show it; or each step
-- before `step` is licensed, and `step` is too wide at `wanted`; or memory ran out
abbrev pub StopIs : List StatementView → StatementView → Script → Stop → Type 0
StopIs before t script (Unlicensed step wanted values names) =
    IsRefused before t script step wanted values
StopIs before t script (TooWide step wanted width names) =
    IsTooWideAt before t script step wanted width
StopIs before t script NoMemory = Unit {0}

-- `seen` are the names in scope before `step`, where `names` are those of the statement's declared
-- and made objects
abbrev pub HasNames : List StatementView → StatementView → Names → Script → Stop → Type 0
HasNames before t names script (Unlicensed step wanted values seen) =
    Some seen ≡ slice_get (names_of_steps before (declared_names t names) script) (step - 1)
HasNames before t names script (TooWide step wanted width seen) =
    Some seen ≡ slice_get (names_of_steps before (declared_names t names) script) (step - 1)
HasNames before t names script NoMemory = Unit {0}

-- the stop is at a step before step `n`, or memory ran out
abbrev pub IsStopBefore : ℕ → Stop → Type 0
IsStopBefore n (Unlicensed step wanted values names) = step < n
IsStopBefore n (TooWide step wanted width names) = step < n
IsStopBefore n NoMemory = Unit {0}
