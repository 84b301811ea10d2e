-- What is written last, with an answer or where there is none.
use Rattle.std.specs.Prelude.{◌≡◌, ℕ, List, Option, Result, Ok, Err}
use Rattle.e_commands.specs.declared.output.Answer.{Answer}
use Rattle.e_commands.specs.declared.output.Failure.{Failure}
use Rattle.e_commands.specs.declared.output.Failure.TheVariants.{NoMemory, ReadFault, WriteFault}
use Rattle.e_commands.specs.declared.status.Status.{Status}
use Rattle.e_commands.specs.declared.status.Status.TheVariants as status
use Rattle.e_commands.specs.LastLines.{read_fault_line, no_memory_line}
use Rattle.e_commands.specs.Wrote.{ClosesWith}
use Rattle.e_commands.specs.Answers.{IsReadFault, IsWriteFault, IsAllOf}

-- the answer is that, or that memory ran out
abbrev pub IsOrNoMemory : {E : Type 0} → Result Answer E → Result Answer Failure → Type 0
IsOrNoMemory (Ok a) answer = answer ≡ Ok a
IsOrNoMemory (Err e) answer = answer ≡ Err NoMemory

-- an answer that is given is no fault of the sink
abbrev pub HasNoWriteFault : Result Answer Failure → Type 0
HasNoWriteFault (Ok a) = IsWriteFault a.status → ⊥
HasNoWriteFault (Err f) = Unit {0}

-- what is answered is a fault of the source
abbrev pub HasReadFault : Result Answer Failure → Type 0
HasReadFault (Ok a) = IsReadFault a.status
HasReadFault (Err ReadFault) = Unit {0}
HasReadFault (Err _) = ⊥

-- the last lines of the answer, or the line of the failure, were written, or a front of them and
-- the sink failed; where it had failed before, nothing was
abbrev pub Finishes : Option (List ℕ) → Option (List ℕ) → Result Answer Failure → Status → Type 0
Finishes old new (Ok a) result = ClosesWith old new a.line.items a.status result
Finishes old new (Err NoMemory) result =
    ClosesWith old new no_memory_line status.NoMemory result
Finishes old new (Err ReadFault) result =
    ClosesWith old new read_fault_line status.ReadFault result
Finishes old new (Err WriteFault) result = (result ≡ status.WriteFault) × (new ≡ old)

-- that is due with the answer, or with the failure; the sink has not failed
abbrev pub HasDue : (Status → List ℕ → Type 0) → Result Answer Failure → Type 0
HasDue Due (Ok a) = Due a.status a.line.items
HasDue Due (Err NoMemory) = Due status.NoMemory no_memory_line
HasDue Due (Err ReadFault) = Due status.ReadFault read_fault_line
HasDue Due (Err WriteFault) = ⊥

-- of a text that a source exposes
abbrev pub HasDueOfText : (List ℕ → Status → List ℕ → Type 0) → Option (List ℕ)
    → Result Answer Failure → Type 0
HasDueOfText Due left answer = (text : List ℕ) × IsAllOf left text × HasDue (Due text) answer
