-- What the command `verify` answers to a derivation text, and what it writes.
use Rattle.std.specs.Prelude.{◌≡◌, ◌⊎◌, ℕ, ◌<◌, ◌≤◌, ◌^◌, List, length, Option, Some}
use Rattle.e_judgement.specs.declared.judgement.Judgement.{Judgement}
use Rattle.e_judgement.specs.declared.judgement.Judgement.TheVariants as judgements
use Rattle.e_judgement.specs.Judged.{JudgesText}
use Rattle.e_commands.specs.declared.status.Status.{Status}
use Rattle.e_commands.specs.declared.status.Status.TheVariants as status
use Rattle.e_commands.specs.LastLines.{verified_line, bad_line, garbled_line, text_limit_line}
use Rattle.e_commands.specs.LastLines.{read_fault_line, no_memory_line}
use Rattle.e_commands.specs.Answers.{IsFailure}

-- the answer of a judgement
abbrev pub answer_of : Judgement → Status
answer_of (judgements.Verified n) = status.Verified n
answer_of (judgements.Bad title step) = status.Bad title step
answer_of (judgements.Garbled line) = status.Garbled line

-- its line
abbrev pub judgement_line : Judgement → List ℕ
judgement_line (judgements.Verified n) = verified_line n
judgement_line (judgements.Bad title step) = bad_line title step
judgement_line (judgements.Garbled line) = garbled_line line

-- The line that is due with an answer. The text has this judgement, or has more bytes than `verify`
-- takes; a fault of the source and out of memory say nothing of it.
abbrev pub TextAnswer : List ℕ → Status → List ℕ → Type 0
TextAnswer text (status.Verified n) out =
    JudgesText text (judgements.Verified n) × (out ≡ verified_line n)
TextAnswer text (status.Bad title step) out =
    JudgesText text (judgements.Bad title step) × (out ≡ bad_line title step)
TextAnswer text (status.Garbled line) out =
    JudgesText text (judgements.Garbled line) × (out ≡ garbled_line line)
TextAnswer text status.TextLimit out = (2 ^ 60 < length text) × (out ≡ text_limit_line)
TextAnswer text status.ReadFault out = out ≡ read_fault_line
TextAnswer text status.NoMemory out = out ≡ no_memory_line
TextAnswer text _ out = ⊥

-- where a source exposes its bytes, and they are a text that has this judgement, the answer is
-- that, or the run failed
abbrev pub AnswersText : Option (List ℕ) → Status → Type 0
AnswersText left answer =
    (text : List ℕ) (j : Judgement) → left ≡ Some text → length text ≤ 2 ^ 60 → JudgesText text j
    → (answer ≡ answer_of j) ⊎ IsFailure answer
