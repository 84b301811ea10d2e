-- What `check` answers to a book, and what it writes; the usage line, and the exit status of each
-- answer.
use Rattle.std.specs.Prelude.{◌≡◌, ℕ, ◌+◌, List, [], ◌∷◌, ◌++◌, map, Option, Some, None, IsTrue}
use Rattle.e_literal.specs.declared.object.Term.{Term}
use Rattle.e_clause.specs.declared.cert.Version.TheVariants.{One}
use Rattle.e_theorem.specs.Statements.{as_view}
use Rattle.e_deriv.specs.declared.stop.Wanted.{Wanted}
use Rattle.e_deriv.specs.declared.names.Names.{Names}
use Rattle.e_deriv.specs.Script.{Script, bare_script, size}
use Rattle.e_deriv.specs.Parts.{filled_by}
use Rattle.e_deriv.specs.PlacedSteps.{proof_steps}
use Rattle.e_deriv.specs.Licensed.{AllLicensed}
use Rattle.e_deriv.specs.Proves.{IsProof}
use Rattle.e_deriv.specs.Certified.{Certified}
use Rattle.e_deriv.specs.Written.{is_written_well}
use Rattle.e_deriv.specs.Versions.{has_certs_of}
use Rattle.e_names.specs.declared.known.Known.{Known}
use Rattle.e_names.specs.TitledStatements.{TitledStatement, stated_by}
use Rattle.e_book.specs.TheoremViews.{TheoremView}
use Rattle.e_book.specs.Grammar.{Rest}
use Rattle.e_spell.specs.Spelling.{spelling, unlicensed_text, too_wide_text}
use Rattle.e_judgement.specs.declared.judgement.Judgement.TheVariants as judgements
use Rattle.e_judgement.specs.Judged.{JudgesText, with_theorem}
use Rattle.e_commands.specs.declared.status.Status.{Status}
use Rattle.e_commands.specs.declared.status.Status.TheVariants as status
use Rattle.e_commands.specs.Outcome.{BookOutcome, OutcomeAt, NextIs, Begins, IsOutcomeOf, RefusedAt}
use Rattle.e_commands.specs.Outcome.{TooWideAt, HasWide, end_line_number, lines_of_book}
use Rattle.e_commands.specs.Outcome as outcome
use Rattle.e_commands.specs.Wrote.{Wrote}
use Rattle.e_commands.specs.LastLines.{fault_line, read_fault_line, no_memory_line, usage_line}
use Rattle.e_roundtrip.specs.Written.{accepted_blocks_line, version_line}

-- a theorem with a derivation of it
pub record Derived : Type 0 where
  pub theorem : TheoremView
  pub derivation : Script

-- The derivation proves the theorem's statement from those that are known, and each of its
-- certificates certifies at its own step. Without its certificates it is the theorem's own script,
-- with its blanks filled, and so filled each step of the script is licensed: the arguments of each
-- application are the least good choice. The literals that its certificates name are well formed,
-- and no fact is named by its place.
pub record IsDerived (known : List TitledStatement) (d : Derived) : Type 0 where
  pub proves : IsProof (stated_by known) (as_view d.theorem.statement) d.derivation
  pub certified : Certified (stated_by known) (as_view d.theorem.statement) d.derivation
  pub own : bare_script d.derivation ≡ filled_by (bare_script d.theorem.script) d.derivation
  pub licensed : AllLicensed (stated_by known)
      (proof_steps (stated_by known) (as_view d.theorem.statement) d.theorem.script d.derivation)
  pub written : IsTrue (is_written_well d.derivation)
  pub version : IsTrue (has_certs_of One d.derivation)

-- each by those before it
abbrev pub AllDerived : List TitledStatement → List Derived → Type 0
AllDerived known [] = Unit {0}
AllDerived known (d ∷ ds) = IsDerived known d × AllDerived (with_theorem known d.theorem) ds

abbrev pub theorems_of : List Derived → List TheoremView
theorems_of ds = map (λ d. d.theorem) ds

-- the steps of their theorems, closes too
abbrev pub steps_of : List Derived → ℕ
steps_of [] = 0
steps_of (d ∷ ds) = steps_of ds + size d.theorem.script

-- the blocks of derivations, one after the other
abbrev pub blocks_of : List TitledStatement → List Derived → List ℕ
blocks_of known [] = []
blocks_of known (d ∷ ds) =
    spelling known d.theorem d.derivation ++ blocks_of (with_theorem known d.theorem) ds

-- with this known, these bytes are the block of a derivation of the theorem
pub record HasBlock (known : List TitledStatement) (theorem : TheoremView)
    (bytes : List ℕ) : Type 0 where
  pub derivation : Script
  pub sound : IsDerived known (record { theorem = theorem; derivation = derivation })
  pub spells : bytes ≡ spelling known theorem derivation

-- the head line, the blocks, and the last lines
abbrev pub written_with : List Derived → List ℕ → List ℕ
written_with ds last = version_line One ++ (blocks_of [] ds ++ last)

-- theorems with their derivations, which are the first of the book, and what holds after them
pub record OutputUpTo (lines : Rest) (Holds : Known → Rest → Type 0)
    (last out : List ℕ) : Type 0 where
  pub derived : List Derived
  pub sound : AllDerived [] derived
  pub known : Known
  pub rest : Rest
  pub begins : Begins lines (theorems_of derived) known rest
  pub holds : Holds known rest
  pub bytes : out ≡ written_with derived last

-- after them the book ends so
abbrev pub OutcomeAfter : Rest → BookOutcome → Known → Rest → Type 0
OutcomeAfter lines end known rest = OutcomeAt (end_line_number lines) known rest end

-- the next theorem is refused at this step
abbrev pub Refuses : Rest → List ℕ → ℕ → Wanted → Option (List (Term × ℕ)) → Names
    → Known → Rest → Type 0
Refuses lines title step wanted values names known rest =
    NextIs (end_line_number lines) known rest
    (λ t. RefusedAt known.theorems t title step wanted values names)

-- a step of the next theorem is too wide
abbrev pub Widens : Rest → List ℕ → ℕ → Wanted → ℕ → Names → Known → Rest → Type 0
Widens lines title step wanted width names known rest =
    NextIs (end_line_number lines) known rest
    (λ t. TooWideAt known.theorems t title step wanted width names)

-- theorems with their derivations: some of the first ones of the book
abbrev pub CutOff : Rest → List ℕ → List ℕ → Type 0
CutOff lines last out = OutputUpTo lines (λ known rest. Unit {0}) last out

-- it is a derivation text, with n theorems, and each certificate certifies at its own step
abbrev pub IsVerifiedText : ℕ → List ℕ → Type 0
IsVerifiedText n out = JudgesText out (judgements.Verified n)

-- what is due in all with an answer to a book of these lines
abbrev pub Outputs : Rest → Status → List ℕ → Type 0
Outputs lines (status.Accepted n) out =
    OutputUpTo lines (OutcomeAfter lines (outcome.Accepted n)) (accepted_blocks_line n) out
    × IsVerifiedText n out
Outputs lines (status.Unlicensed title step wanted values) out =
    (names : Names) × OutputUpTo lines (Refuses lines title step wanted values names)
    (unlicensed_text title step wanted values names) out
Outputs lines (status.TooWide title step wanted width) out =
    (names : Names) × OutputUpTo lines (Widens lines title step wanted width names)
    (too_wide_text title step wanted width names) out
Outputs lines (status.Fault f) out =
    OutputUpTo lines (OutcomeAfter lines (outcome.Faulty f)) (fault_line f) out
Outputs lines status.ReadFault out = CutOff lines read_fault_line out
Outputs lines status.NoMemory out = CutOff lines no_memory_line out
Outputs lines _ out = ⊥

-- a fault of the source or the sink, or out of memory
abbrev pub IsFailure : Status → Type 0
IsFailure status.ReadFault = Unit {0}
IsFailure status.WriteFault = Unit {0}
IsFailure status.NoMemory = Unit {0}
IsFailure _ = ⊥

-- the answer of an outcome, or that a step is too wide where one is that is reached; a fault of the
-- source or the sink, and out of memory, can come in place of it
abbrev pub IsAnswer : Rest → BookOutcome → Status → Type 0
IsAnswer lines (outcome.Accepted n) (status.Accepted m) = m ≡ n
IsAnswer lines (outcome.Unlicensed title step wanted names) (status.Unlicensed p i w values) =
    (p ≡ title) × (i ≡ step) × (w ≡ wanted)
IsAnswer lines (outcome.Faulty f) (status.Fault g) = g ≡ f
IsAnswer lines end (status.TooWide title step wanted width) = HasWide lines
IsAnswer lines end other = IsFailure other

-- where a source exposes its bytes, whatever the outcome of that book is, the answer is that
abbrev pub Answers : Option (List ℕ) → Status → Type 0
Answers left answer =
    (text : List ℕ) (end : BookOutcome) → left ≡ Some text → IsOutcomeOf text end
    → IsAnswer (lines_of_book text) end answer

-- where a source exposes its bytes, the text is all of them
abbrev pub IsAllOf : Option (List ℕ) → List ℕ → Type 0
IsAllOf None text = Unit {0}
IsAllOf (Some bytes) text = text ≡ bytes

-- the text that a source exposes is answered so, and what is due was written
abbrev pub WroteOfText : (List ℕ → Status → List ℕ → Type 0) → Option (List ℕ) → Option (List ℕ)
    → Option (List ℕ) → Status → Type 0
WroteOfText Due left old new answer =
    (text : List ℕ) × IsAllOf left text × Wrote (Due text) old new answer

abbrev pub IsWriteFault : Status → Type 0
IsWriteFault status.WriteFault = Unit {0}
IsWriteFault _ = ⊥

abbrev pub IsReadFault : Status → Type 0
IsReadFault status.ReadFault = Unit {0}
IsReadFault _ = ⊥

abbrev pub IsAccepted : Status → Type 0
IsAccepted (status.Accepted n) = Unit {0}
IsAccepted _ = ⊥

abbrev pub IsDrawn : Status → Type 0
IsDrawn (status.Drawn n) = Unit {0}
IsDrawn _ = ⊥

abbrev pub IsVerified : Status → Type 0
IsVerified (status.Verified n) = Unit {0}
IsVerified _ = ⊥

-- the status with which the program exits
abbrev pub exit_of : Status → ℕ
exit_of (status.Accepted n) = 0
exit_of (status.Verified n) = 0
exit_of (status.Made n) = 0
exit_of (status.Tried n s) = 0
exit_of (status.Upgraded n) = 0
exit_of (status.Drawn n) = 0
exit_of (status.Suggested n more) = 0
exit_of (status.Trimmed n) = 0
exit_of (status.Listed n) = 0
exit_of (status.Bad title step) = 1
exit_of (status.Garbled line) = 2
exit_of status.TextLimit = 2
exit_of (status.Unlicensed title step wanted values) = 1
exit_of (status.TooWide title step wanted width) = 8
exit_of (status.Fault f) = 2
exit_of status.Usage = 3
exit_of status.ReadFault = 4
exit_of status.WriteFault = 5
exit_of status.NoMemory = 6
exit_of status.NoStep = 10

-- the usage line is due with its answer
abbrev pub UsageAnswer : Status → List ℕ → Type 0
UsageAnswer status.Usage out = out ≡ usage_line
UsageAnswer _ out = ⊥
