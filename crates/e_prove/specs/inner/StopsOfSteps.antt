-- Why licensing stops at a step. Where memory ran out nothing is said of the step.
use Rattle.std.specs.Prelude.{◌≡◌, ℕ, List, Contains, MatchBool, Option, Some, None, Result, Ok}
use Rattle.std.specs.Prelude.{Err}
use Rattle.e_literal.specs.declared.object.Obj.{Obj}
use Rattle.e_literal.specs.declared.literal.Lit.{Lit}
use Rattle.e_literal.specs.Use.{StatementView, needs_of_use}
use Rattle.e_clause.specs.Wide.{IsTooWideLit}
use Rattle.e_theorem.specs.Choice.{NoneIsAllowed}
use Rattle.e_theorem.specs.WideChoice.{SomeChoiceIsTooWide}
use Rattle.e_licence.specs.Contexts.{Basis}
use Rattle.e_licence.specs.declared.contradiction.Refuted.{Refuted}
use Rattle.e_licence.specs.declared.contradiction.Refuted.TheVariants as refuted
use Rattle.e_deriv.specs.declared.block.Close.{Close}
use Rattle.e_deriv.specs.declared.block.Close.TheVariants.{Contradiction as ContradictionClose}
use Rattle.e_deriv.specs.declared.names.Names.{Names}
use Rattle.e_deriv.specs.declared.stop.Wanted.TheVariants.{Literal, Match, Contradiction}
use Rattle.e_deriv.specs.declared.stop.Stop.{Stop}
use Rattle.e_deriv.specs.declared.stop.Stop.TheVariants as stop
use Rattle.e_deriv.specs.Parts.{args_written, has_no_blank}
use Rattle.e_deriv.specs.PlacedSteps.{PlacedStep}
use Rattle.e_deriv.specs.Licensed.{Lacks as LineLacks, IsFirstNotAllowed}
use Rattle.e_deriv.specs.Refused.{LiteralIsShown, IsShown, IsTooWide}
use Rattle.e_prove.specs.declared.stop_reason.StopReason.{StopReason}
use Rattle.e_prove.specs.declared.stop_reason.StopReason.TheVariants.{Lacks, TooWide, NoMemory}

-- the placed step `x` lacks `wanted`, and `values` show it; or `x` is too wide at `wanted`; or
-- memory ran out
abbrev pub StepStopsAt : List StatementView → PlacedStep → StopReason → Type 0
StepStopsAt before x (Lacks wanted values) =
    LineLacks before x x.here wanted × IsShown x.here x.facts wanted values
StepStopsAt before x (TooWide wanted width) = IsTooWide before x x.here wanted width
StepStopsAt before x NoMemory = Unit {0}

-- the first of the literals `ls` that is not allowed is lacked, or one of them is too wide; or
-- memory ran out
abbrev pub StepStopsAmong : Basis → List Lit → StopReason → Type 0
StepStopsAmong x ls (Lacks (Literal l) values) =
    IsFirstNotAllowed x.scope x.facts ls l × LiteralIsShown x.facts l values
StepStopsAmong x ls (TooWide (Literal l) width) =
    Contains ls l × IsTooWideLit x.scope x.facts l width
StepStopsAmong x ls (Lacks Match values) = ⊥
StepStopsAmong x ls (Lacks Contradiction values) = ⊥
StepStopsAmong x ls (TooWide Match width) = ⊥
StepStopsAmong x ls (TooWide Contradiction width) = ⊥
StepStopsAmong x ls NoMemory = Unit {0}

-- no choice for the blanks of `pattern` is good, or one that is not above the least good one is too
-- wide; or memory ran out
abbrev pub StepStopsFilling : StatementView → Basis → List (Option Obj) → StopReason → Type 0
StepStopsFilling t x pattern (Lacks Match values) =
    NoneIsAllowed t x.scope x.facts pattern × (values ≡ None)
StepStopsFilling t x pattern (TooWide Match width) =
    SomeChoiceIsTooWide t x.scope x.facts pattern width
StepStopsFilling t x pattern (Lacks (Literal l) values) = ⊥
StepStopsFilling t x pattern (Lacks Contradiction values) = ⊥
StepStopsFilling t x pattern (TooWide (Literal l) width) = ⊥
StepStopsFilling t x pattern (TooWide Contradiction width) = ⊥
StepStopsFilling t x pattern NoMemory = Unit {0}

-- why an application of the statement stops: without blanks at one of its given literals, with
-- blanks at their filling
abbrev pub StepStopsApplying : StatementView → Basis → List (Option Obj) → StopReason → Type 0
StepStopsApplying t x pattern h =
    MatchBool (has_no_blank pattern)
    (StepStopsAmong x (needs_of_use t (args_written pattern) x.scope) h)
    (StepStopsFilling t x pattern h)

-- the reason, where a literal that is too wide is answered as a match that is
abbrev pub match_stop : StopReason → StopReason
match_stop (TooWide wanted width) = TooWide Match width
match_stop h = h

-- what an answer on a contradiction makes of its close: the close with its certificate, or why it
-- stops
abbrev pub contradiction_by : Refuted → Result Close StopReason
contradiction_by (refuted.Yes against) = Ok (ContradictionClose (Some against))
contradiction_by (refuted.No values) = Err (Lacks Contradiction (Some values))
contradiction_by (refuted.TooWide width) = Err (TooWide Contradiction width)

-- `p` holds where memory did not run out
abbrev pub UnlessNoMemory : Type 0 → StopReason → Type 0
UnlessNoMemory p NoMemory = Unit {0}
UnlessNoMemory p h = p

-- the stop by `h` at step `n`, where `names` are in scope
abbrev pub stop_of : StopReason → ℕ → Names → Stop
stop_of (Lacks wanted values) n names = stop.Unlicensed n wanted values names
stop_of (TooWide wanted width) n names = stop.TooWide n wanted width names
stop_of NoMemory n names = stop.NoMemory

-- the stop by `h` at step `n`, or there was no memory for a copy of `names`
abbrev pub IsStopOrNoMemory : StopReason → ℕ → Names → Stop → Type 0
IsStopOrNoMemory h n names stop.NoMemory = Unit {0}
IsStopOrNoMemory h n names s = s ≡ stop_of h n names

-- the stop of an answer `Err` at step `n`; an answer `Ok` has none but for want of memory
abbrev pub IsStopOfAnswer : {A : Type 0} → Result A StopReason → ℕ → Names → Stop → Type 0
IsStopOfAnswer (Ok a) n names stop.NoMemory = Unit {0}
IsStopOfAnswer (Ok a) n names s = ⊥
IsStopOfAnswer (Err h) n names s = IsStopOrNoMemory h n names s
