-- What is written last, with an answer or where there is none.
use Rattle.std.proofs.Common.{◌≡◌, ◌⊎◌, inl, inr, ℕ, ◌≤◌, List, Option, Result, Ok, Err, refl, sym, subst, ◌∙◌, arith}
use Rattle.std.specs.Prelude.{IfOk, IsErrOf}
use Rattle.e_io.specs.Bytes.{Rose}
use Rattle.e_commands.specs.declared.output.Answer.{Answer}
use Rattle.e_commands.specs.declared.output.Failure.{Failure}
use Rattle.e_commands.specs.declared.output.Failure.TheVariants.{NoMemory, ReadFault, WriteFault}
use Rattle.e_commands.specs.declared.status.Status.{Status}
use Rattle.e_commands.specs.declared.status.Status.TheVariants as status
use Rattle.e_commands.specs.LastLines.{read_fault_line, no_memory_line}
use Rattle.e_commands.specs.Wrote.{Wrote}
use Rattle.e_commands.specs.Answers.{IsReadFault, IsWriteFault}
use Rattle.e_commands.specs.inner.Finished.{Finishes, HasNoWriteFault, HasReadFault, HasDue, HasDueOfText, IsOrNoMemory}
use Rattle.e_commands.proofs.answers.Wrote.{closed_wrote}
use Rattle.e_commands.proofs.answers.VerifierAnswers.{any_of}

-- ---- an answer that is due, or a failure

pub finished_wrote : (Due : Status → List ℕ → Type 0) (old new : Option (List ℕ)) (answer : Result Answer Failure) (result : Status) → HasDue Due answer → Finishes old new answer result → Wrote Due old new result
finished_wrote Due old new (Ok a) result d c = closed_wrote Due old new a.line.items a.status result d c
finished_wrote Due old new (Err NoMemory) result d c = closed_wrote Due old new no_memory_line status.NoMemory result d c
finished_wrote Due old new (Err ReadFault) result d c = closed_wrote Due old new read_fault_line status.ReadFault result d c
finished_wrote Due old new (Err WriteFault) result d c = absurd d

no_write : (Due : Status → List ℕ → Type 0) (answer : Status) (out : List ℕ) → (Due status.WriteFault out → ⊥) → Due answer out → IsWriteFault answer → ⊥
no_write Due status.WriteFault out never d h = never d
no_write Due answer out never d h = h

pub may_finish : (Due : Status → List ℕ → Type 0) (answer : Result Answer Failure) → ((out : List ℕ) → Due status.WriteFault out → ⊥) → HasDue Due answer → HasNoWriteFault answer
may_finish Due (Ok a) never d = no_write Due a.status a.line.items (never a.line.items) d
may_finish Due (Err f) never d = tt

-- where the sink has not failed before, it fails here
pub rose_here : (Due : Status → List ℕ → Type 0) (answer : Result Answer Failure) (before now : ℕ) → HasDue Due answer → IsErrOf answer WriteFault ⊎ Rose before now → Rose before now
rose_here Due answer before now d (inl e) = absurd (subst (HasDue Due) e d)
rose_here Due answer before now d (inr r) = r

-- what holds of an answer holds of what is given
pub finished_as : (P : Status → Type 0) (Q : Type 0) (old new : Option (List ℕ)) (answer : Result Answer Failure) (result : Status) → (P status.NoMemory → ⊥) → (P status.ReadFault → ⊥) → (P status.WriteFault → ⊥)
    → IfOk answer (λ a. P a.status → Q) → Finishes old new answer result → P result → Q
finished_as P Q old new (Ok a) result m r w h (inl c) p = h (subst P c.0 p)
finished_as P Q old new (Ok a) result m r w h (inr c) p = absurd (w (subst P c.0 p))
finished_as P Q old new (Err NoMemory) result m r w h (inl c) p = absurd (m (subst P c.0 p))
finished_as P Q old new (Err NoMemory) result m r w h (inr c) p = absurd (w (subst P c.0 p))
finished_as P Q old new (Err ReadFault) result m r w h (inl c) p = absurd (r (subst P c.0 p))
finished_as P Q old new (Err ReadFault) result m r w h (inr c) p = absurd (w (subst P c.0 p))
finished_as P Q old new (Err WriteFault) result m r w h c p = absurd (w (subst P c.0 p))

-- ---- an answer, or that memory ran out

pub or_due : {E : Type 0} (Due : Status → List ℕ → Type 0) (r : Result Answer E) (answer : Result Answer Failure) → Due status.NoMemory no_memory_line → IfOk r (λ a. Due a.status a.line.items) → IsOrNoMemory r answer → HasDue Due answer
or_due Due (Ok a) answer n d e = subst (HasDue Due) (sym e) d
or_due Due (Err x) answer n d e = subst (HasDue Due) (sym e) n

pub or_ended : {E : Type 0} (P : Status → Type 0) (Q : Type 0) (r : Result Answer E) (answer : Result Answer Failure) → IfOk r (λ a. P a.status → Q) → IsOrNoMemory r answer → IfOk answer (λ a. P a.status → Q)
or_ended P Q (Ok a) answer h e = subst (λ (x : Result Answer Failure). IfOk x (λ a. P a.status → Q)) (sym e) h
or_ended P Q (Err x) answer h e = subst (λ (x : Result Answer Failure). IfOk x (λ a. P a.status → Q)) (sym e) tt

pub or_no_read : {E : Type 0} (r : Result Answer E) (answer : Result Answer Failure) → IfOk r (λ a. IsReadFault a.status → ⊥) → IsOrNoMemory r answer → HasReadFault answer → ⊥
or_no_read (Ok a) answer h e f = h (subst HasReadFault e f)
or_no_read (Err x) answer h e f = subst HasReadFault e f

pub or_may_finish : {E : Type 0} (r : Result Answer E) (answer : Result Answer Failure) → IfOk r (λ a. IsWriteFault a.status → ⊥) → IsOrNoMemory r answer → HasNoWriteFault answer
or_may_finish (Ok a) answer h e = subst HasNoWriteFault (sym e) h
or_may_finish (Err x) answer h e = subst HasNoWriteFault (sym e) tt

pub or_never_failed : {E : Type 0} (r : Result Answer E) (answer : Result Answer Failure) → IsOrNoMemory r answer → IsErrOf answer WriteFault → ⊥
or_never_failed (Ok a) answer e f = never a (sym e ∙ f)
  where
    never : (a : Answer) → let x : Result Answer Failure = Ok a in x ≡ Err WriteFault → ⊥
    never a e = cc
or_never_failed (Err x) answer e f = never (sym e ∙ f)
  where
    never : let x : Result Answer Failure = Err NoMemory in x ≡ Err WriteFault → ⊥
    never e = cc

-- ---- a failure

pub read_failed : (f : Failure) → HasReadFault (Err f) → f ≡ ReadFault
read_failed NoMemory h = absurd h
read_failed ReadFault h = refl
read_failed WriteFault h = absurd h

-- no text was read
pub unread_due : (Due : List ℕ → Status → List ℕ → Type 0) (left : Option (List ℕ)) (f : Failure) → ((text : List ℕ) → Due text status.NoMemory no_memory_line) → ((text : List ℕ) → Due text status.ReadFault read_fault_line) → (f ≡ WriteFault → ⊥)
    → HasDueOfText Due left (Err f)
unread_due Due left NoMemory m r w = any_of left (λ text. HasDue (Due text) (Err NoMemory)) m
unread_due Due left ReadFault m r w = any_of left (λ text. HasDue (Due text) (Err ReadFault)) r
unread_due Due left WriteFault m r w = absurd (w refl)

-- ---- faults of the sink

rose_from : (a b c d : ℕ) → a ≤ b → Rose b c → c ≡ d → Rose a d
rose_from a b c d le (inl less) e = inl (omega (arith, le, less, e))
rose_from a b c d le (inr last) e = inr (sym e ∙ last)

-- the sink failed in the first call or in the last
pub rose_over : (E : Type 0) (a b c d : ℕ) → a ≤ b → b ≤ c → c ≤ d → (E → Rose b c) → (E → d ≡ c) → E ⊎ Rose c d → Rose a d
rose_over E a b c d p q r before still (inl e) = rose_from a b c d p (before e) (sym (still e))
rose_over E a b c d p q r before still (inr h) = rose_from a c d d (omega (arith, p, q)) h refl

-- it did not fail before
pub rose_after : (E : Type 0) (a c d : ℕ) → a ≤ c → (E → ⊥) → E ⊎ Rose c d → Rose a d
rose_after E a c d p never (inl e) = absurd (never e)
rose_after E a c d p never (inr h) = rose_from a c d d p h refl

pub same_failure : (f g : Failure) → let x : Result Answer Failure = Err f in x ≡ Err g → f ≡ g
same_failure f g e = cc
