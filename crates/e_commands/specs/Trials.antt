-- What the command `trial` answers: the generated book is checked, and what `check` would write of
-- it is verified, within one call.
use Rattle.std.specs.Prelude.{◌≡◌, ℕ, List, [], Option}
use Rattle.e_deriv.specs.declared.names.Names.{Names}
use Rattle.e_names.specs.declared.known.Known.{Known}
use Rattle.e_spell.specs.Spelling.{unlicensed_text, too_wide_text}
use Rattle.e_generate.specs.Generated.{generated_text}
use Rattle.e_judgement.specs.declared.judgement.Judgement.TheVariants as judgements
use Rattle.e_judgement.specs.Judged.{JudgesText}
use Rattle.e_commands.specs.declared.status.Status.{Status}
use Rattle.e_commands.specs.declared.status.Status.TheVariants as status
use Rattle.e_commands.specs.LastLines.{tried_line, fault_line, no_memory_line}
use Rattle.e_commands.specs.Wrote.{Wrote}
use Rattle.e_commands.specs.Outcome.{BookOutcome, Begins, IsOutcomeOf, lines_of_book}
use Rattle.e_commands.specs.Outcome.{Accepted as AcceptedBook, Faulty as FaultyBook}
use Rattle.e_commands.specs.Answers.{Derived, AllDerived, OutputUpTo, OutcomeAfter, Refuses, Widens}
use Rattle.e_commands.specs.Answers.{IsAnswer, theorems_of, steps_of}
use Rattle.e_book.specs.Grammar.{Rest}
use Rattle.e_roundtrip.specs.Written.{accepted_blocks_line}

-- its first theorems have derivations, and this holds after them
pub record IsStopped (lines : Rest) (Holds : Known → Rest → Type 0) : Type 0 where
  pub derived : List Derived
  pub sound : AllDerived [] derived
  pub known : Known
  pub rest : Rest
  pub begins : Begins lines (theorems_of derived) known rest
  pub holds : Holds known rest

-- a book of these lines is accepted with these numbers of theorems and steps, and what `check`
-- writes then is verified
pub record IsTrial (lines : Rest) (theorems steps : ℕ) : Type 0 where
  pub out : List ℕ
  pub ended : OutputUpTo lines (OutcomeAfter lines (AcceptedBook theorems))
      (accepted_blocks_line theorems) out
  pub steps_are : steps ≡ steps_of ended.derived
  pub verified : JudgesText out (judgements.Verified theorems)

-- the line that is due with an answer to a book of these lines
abbrev pub TrialAnswer : Rest → Status → List ℕ → Type 0
TrialAnswer lines (status.Tried n s) last = IsTrial lines n s × (last ≡ tried_line n s)
TrialAnswer lines (status.Unlicensed title step wanted values) last =
    (names : Names) × IsStopped lines (Refuses lines title step wanted values names)
    × (last ≡ unlicensed_text title step wanted values names)
TrialAnswer lines (status.TooWide title step wanted width) last =
    (names : Names) × IsStopped lines (Widens lines title step wanted width names)
    × (last ≡ too_wide_text title step wanted width names)
TrialAnswer lines (status.Fault f) last =
    IsStopped lines (OutcomeAfter lines (FaultyBook f)) × (last ≡ fault_line f)
TrialAnswer lines status.NoMemory last = last ≡ no_memory_line
TrialAnswer lines _ last = ⊥

-- the generated book of n theorems is answered so, and this was written
abbrev pub Tries : ℕ → Option (List ℕ) → Option (List ℕ) → Status → Type 0
Tries n old new answer = Wrote (TrialAnswer (lines_of_book (generated_text n))) old new answer

-- as many theorems were tried as were asked for
abbrev pub HasCount : ℕ → Status → Type 0
HasCount n (status.Tried m s) = m ≡ n
HasCount n _ = Unit {0}

-- the answer where that is the book's outcome: Tried with its number comes in the place of
-- Accepted, and else what `check` answers
abbrev pub IsTrialAnswer : Rest → BookOutcome → Status → Type 0
IsTrialAnswer lines (AcceptedBook n) (status.Tried m s) = m ≡ n
IsTrialAnswer lines end (status.Accepted m) = ⊥
IsTrialAnswer lines end answer = IsAnswer lines end answer

-- whatever the outcome of the generated book is, the answer is that
abbrev pub AnswersTrial : ℕ → Status → Type 0
AnswersTrial n answer =
    (end : BookOutcome) → IsOutcomeOf (generated_text n) end
    → IsTrialAnswer (lines_of_book (generated_text n)) end answer
