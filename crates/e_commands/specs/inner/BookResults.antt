-- How the blocks of a book end, before the last lines are written.
use Rattle.std.specs.Prelude.{◌≡◌, ℕ, ◌≤◌, List, [], length, take, Option, Some, Result, Ok, Err}
use Rattle.e_io.specs.Bytes.{Grew}
use Rattle.e_deriv.specs.declared.stop.Stop.{Stop}
use Rattle.e_deriv.specs.declared.stop.Stop.TheVariants as stops
use Rattle.e_line.specs.declared.fault.BookFault.{BookFault}
use Rattle.e_line.specs.declared.fault.BookFault.TheVariants as faults
use Rattle.e_commands.specs.declared.blocks.BookResult.{BookResult}
use Rattle.e_commands.specs.declared.blocks.BookResult.TheVariants.{All, Stopped, Faulty}
use Rattle.e_commands.specs.declared.output.Failure.{Failure}
use Rattle.e_commands.specs.declared.output.Failure.TheVariants.{NoMemory, ReadFault, WriteFault}
use Rattle.e_spell.specs.Spelling.{stop_text, IsStop}
use Rattle.e_commands.specs.declared.status.Status.{Status}
use Rattle.e_commands.specs.declared.status.Status.TheVariants as status
use Rattle.e_commands.specs.LastLines.{fault_line}
use Rattle.e_names.specs.declared.known.Known.{Known}
use Rattle.e_commands.specs.Outcome.{Begins}
use Rattle.e_commands.specs.Outcome as outcome
use Rattle.e_commands.specs.Answers.{Derived, AllDerived, OutcomeAfter, Refuses, Widens}
use Rattle.e_commands.specs.Answers.{theorems_of, steps_of, blocks_of}
use Rattle.e_book.specs.Grammar.{Rest}
use Rattle.e_book.specs.TheoremViews.{TheoremView}
use Rattle.e_roundtrip.specs.Written.{accepted_blocks_line}

-- the blocks of these theorems with their derivations were written, and this holds after them
pub record BlocksUpTo (lines : Rest) (old new : Option (List ℕ))
    (Holds : Known → Rest → Type 0) : Type 0 where
  pub derived : List Derived
  pub sound : AllDerived [] derived
  pub known : Known
  pub rest : Rest
  pub begins : Begins lines (theorems_of derived) known rest
  pub holds : Holds known rest
  pub grew : Grew old new (blocks_of [] derived)

-- these are the first theorems of the lines, each licensed
pub record IsFront (lines : Rest) (theorems : List TheoremView) : Type 0 where
  pub known : Known
  pub rest : Rest
  pub begins : Begins lines theorems known rest

-- the blocks of some of the first theorems were written
pub record BreaksOff (lines : Rest) (old new : Option (List ℕ)) : Type 0 where
  pub derived : List Derived
  pub sound : AllDerived [] derived
  pub front : IsFront lines (theorems_of derived)
  pub grew : Grew old new (blocks_of [] derived)

-- a prefix of the blocks of some of the first theorems was written
pub record BreaksInside (lines : Rest) (old new : Option (List ℕ)) : Type 0 where
  pub derived : List Derived
  pub sound : AllDerived [] derived
  pub front : IsFront lines (theorems_of derived)
  pub count : ℕ
  pub short : count ≤ length (blocks_of [] derived)
  pub grew : Grew old new (take count (blocks_of [] derived))

-- a stop that is not out of memory
abbrev pub StopsWith : Rest → Option (List ℕ) → Option (List ℕ) → List ℕ → Stop → Type 0
StopsWith lines old new title (stops.Unlicensed step wanted values names) =
    BlocksUpTo lines old new (Refuses lines title step wanted values names)
StopsWith lines old new title (stops.TooWide step wanted width names) =
    BlocksUpTo lines old new (Widens lines title step wanted width names)
StopsWith lines old new title stops.NoMemory = ⊥

-- the blocks end so: those of the theorems before the end were written
abbrev pub BookResultIs : Rest → Option (List ℕ) → Option (List ℕ) → BookResult → Type 0
BookResultIs lines old new (All n s) =
    (e : BlocksUpTo lines old new (OutcomeAfter lines (outcome.Accepted n)))
    × (s ≡ steps_of e.derived)
BookResultIs lines old new (Stopped title stop) = StopsWith lines old new title stop
BookResultIs lines old new (Faulty f) =
    BlocksUpTo lines old new (OutcomeAfter lines (outcome.Faulty f))

-- the blocks end so, or memory ran out or the sink failed; no source was read
abbrev pub BlocksAre : Rest → Option (List ℕ) → Option (List ℕ)
    → Result BookResult Failure → Type 0
BlocksAre lines old new (Ok book_result) = BookResultIs lines old new book_result
BlocksAre lines old new (Err NoMemory) = BreaksOff lines old new
BlocksAre lines old new (Err ReadFault) = ⊥
BlocksAre lines old new (Err WriteFault) = BreaksInside lines old new

-- the same where a source was read, which may fail too
abbrev pub SourceResultIs : Rest → Option (List ℕ) → Option (List ℕ)
    → Result BookResult Failure → Type 0
SourceResultIs lines old new (Ok book_result) = BookResultIs lines old new book_result
SourceResultIs lines old new (Err NoMemory) = BreaksOff lines old new
SourceResultIs lines old new (Err ReadFault) = BreaksOff lines old new
SourceResultIs lines old new (Err WriteFault) = BreaksInside lines old new

-- all theorems were taken
abbrev pub IsAll : BookResult → Type 0
IsAll (All n s) = Unit {0}
IsAll book_result = ⊥

-- a stop ends the blocks, or memory ran out
abbrev pub result_of_stop : List ℕ → Stop → Result (Option BookResult) Failure
result_of_stop title (stops.Unlicensed step wanted values names) =
    Ok (Some (Stopped title (stops.Unlicensed step wanted values names)))
result_of_stop title (stops.TooWide step wanted width names) =
    Ok (Some (Stopped title (stops.TooWide step wanted width names)))
result_of_stop title stops.NoMemory = Err NoMemory

-- and so a fault
abbrev pub result_of_fault : BookFault → Result (Option BookResult) Failure
result_of_fault faults.NoMemory = Err NoMemory
result_of_fault (faults.Malformed line) = Ok (Some (Faulty (faults.Malformed line)))
result_of_fault (faults.UnknownName line) = Ok (Some (Faulty (faults.UnknownName line)))
result_of_fault (faults.NameTaken line) = Ok (Some (Faulty (faults.NameTaken line)))
result_of_fault (faults.WrongSort line) = Ok (Some (Faulty (faults.WrongSort line)))
result_of_fault (faults.Limit line what) = Ok (Some (Faulty (faults.Limit line what)))
result_of_fault (faults.Unended line) = Ok (Some (Faulty (faults.Unended line)))

-- the last lines of a book's result
abbrev pub last_lines : BookResult → List ℕ
last_lines (All n s) = accepted_blocks_line n
last_lines (Stopped title stop) = stop_text title stop
last_lines (Faulty f) = fault_line f

-- the answer of a stop
abbrev pub stop_answer : List ℕ → Stop → Status
stop_answer title (stops.Unlicensed step wanted values names) =
    status.Unlicensed title step wanted values
stop_answer title (stops.TooWide step wanted width names) = status.TooWide title step wanted width
stop_answer title stops.NoMemory = status.NoMemory

abbrev pub answer_of : BookResult → Status
answer_of (All n s) = status.Accepted n
answer_of (Stopped title stop) = stop_answer title stop
answer_of (Faulty f) = status.Fault f

-- a stop is not out of memory
abbrev pub HasLastLines : BookResult → Type 0
HasLastLines (All n s) = Unit {0}
HasLastLines (Stopped title stop) = IsStop stop
HasLastLines (Faulty f) = Unit {0}
