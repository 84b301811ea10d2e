-- What is written of a judgement, and which answer a text can have.
use Rattle.std.proofs.Common.{◌≡◌, ◌⊎◌, inl, inr, ℕ, ◌+◌, ◌<◌, ◌≤◌, ◌^◌, List, [], length, Option, Some, None, Result, Ok, Err, refl, sym, ap, subst, ◌∙◌, arith, take, length-take-le}
use Rattle.std.specs.Prelude.{IfOk}
use Rattle.std.proofs.lemmas.List.{take_all}
use Rattle.std.proofs.lemmas.Bool.{cases_lt}
use Rattle.e_judgement.specs.declared.judgement.Judgement.{Judgement}
use Rattle.e_judgement.specs.declared.judgement.Judgement.TheVariants as judgements
use Rattle.e_judgement.specs.Judged.{JudgesText}
use Rattle.e_judgement.proofs.OneJudgement.{one_judgement}
use Rattle.e_commands.specs.declared.status.Status.{Status}
use Rattle.e_commands.specs.declared.status.Status.TheVariants as status
use Rattle.e_commands.specs.Answers.{IsAllOf, IsReadFault, IsVerified, IsFailure, WroteOfText}
use Rattle.e_commands.specs.LastLines.{text_limit_line}
use Rattle.e_commands.specs.declared.output.Answer.{Answer}
use Rattle.e_commands.specs.Input.{IsTextOf}
use Rattle.e_commands.specs.VerifierAnswers.{answer_of, judgement_line, TextAnswer, AnswersText}
use Rattle.e_commands.specs.Wrote.{Wrote}

judgement_answers : (text : List ℕ) (j : Judgement) → JudgesText text j → TextAnswer text (answer_of j) (judgement_line j)
judgement_answers text (judgements.Verified n) h = (h, refl)
judgement_answers text (judgements.Bad title step) h = (h, refl)
judgement_answers text (judgements.Garbled line) h = (h, refl)

-- a judgement is answered
pub judged_due : (text : List ℕ) (j : Judgement) (answer : Status) (line : List ℕ) → JudgesText text j → answer ≡ answer_of j → line ≡ judgement_line j → TextAnswer text answer line
judged_due text j answer line h a e = subst (λ (x : Status). TextAnswer text x line) (sym a) (subst (λ (l : List ℕ). TextAnswer text (answer_of j) l) (sym e) (judgement_answers text j h))

-- a text that is too long is answered
abbrev IsLimited : {E : Type 0} → Result Answer E → Type 0
IsLimited r = IfOk r (λ a. (a.status ≡ status.TextLimit) × (a.line.items ≡ text_limit_line))

pub limited_due : {E : Type 0} (r : Result Answer E) (text : List ℕ) → 2 ^ 60 < length text → IsLimited r → IfOk r (λ a. TextAnswer text a.status a.line.items)
limited_due (Ok a) text far h = subst (λ (x : Status). TextAnswer text x a.line.items) (sym h.0) (far, h.1)
limited_due (Err e) text far h = tt

pub limited_unverified : {E : Type 0} (r : Result Answer E) (Q : Type 0) → IsLimited r → IfOk r (λ a. IsVerified a.status → Q)
limited_unverified (Ok a) Q h = λ v. absurd (subst IsVerified h.0 v)
limited_unverified (Err e) Q h = tt

pub limited_unread : {E : Type 0} (r : Result Answer E) → IsLimited r → IfOk r (λ a. IsReadFault a.status → ⊥)
limited_unread (Ok a) h = λ f. subst IsReadFault h.0 f
limited_unread (Err e) h = tt

pub always_ended : {E : Type 0} (r : Result Answer E) (P : Status → Type 0) (Q : Type 0) → Q → IfOk r (λ a. P a.status → Q)
always_ended (Ok a) P Q q = λ p. q
always_ended (Err e) P Q q = tt

-- the answer of a judgement is no fault of the source or the sink
pub no_read_fault : (j : Judgement) (answer : Status) → answer ≡ answer_of j → IsReadFault answer → ⊥
no_read_fault (judgements.Verified n) answer e h = subst IsReadFault e h
no_read_fault (judgements.Bad title step) answer e h = subst IsReadFault e h
no_read_fault (judgements.Garbled line) answer e h = subst IsReadFault e h

-- some text is the source's, of which this holds
pub any_of : (left : Option (List ℕ)) (Holds : List ℕ → Type 0) → ((text : List ℕ) → Holds text) → (text : List ℕ) × IsAllOf left text × Holds text
any_of None Holds h = ([], tt, h [])
any_of (Some text) Holds h = (text, refl, h text)

-- where few bytes were taken of a list, they are all of it
all_taken : (n : ℕ) (text : List ℕ) → length (take (n + 1) text) ≤ n → take (n + 1) text ≡ text
all_taken n text few =
    elim (cases_lt n (length text)) [
      | inl more ↦ absurd (omega (arith, few, length-take-le (n + 1) text (omega (arith, more))))
      | inr le ↦ take_all (n + 1) text (omega (arith, le))
    ]

-- a text that is short enough was read whole
pub short_of : (left : Option (List ℕ)) (read : List ℕ) (Holds : List ℕ → Type 0) → IsTextOf (2 ^ 60 + 1) left read → length read ≤ 2 ^ 60 → Holds read → (text : List ℕ) × IsAllOf left text × Holds text
short_of None read Holds e few h = (read, tt, h)
short_of (Some text) read Holds e few h = (text, refl, subst Holds (e ∙ all_taken (2 ^ 60) text (subst (λ (t : List ℕ). length t ≤ 2 ^ 60) e few)) h)

-- and one of which more was read is too long
pub long_of : (left : Option (List ℕ)) (read : List ℕ) (Holds : List ℕ → Type 0) → IsTextOf (2 ^ 60 + 1) left read → 2 ^ 60 < length read → ((text : List ℕ) → 2 ^ 60 < length text → Holds text)
    → (text : List ℕ) × IsAllOf left text × Holds text
long_of None read Holds e far h = (read, tt, h read far)
long_of (Some text) read Holds e far h = (text, refl, h text (farther text read e far))
  where
    farther : (text read : List ℕ) → read ≡ take (2 ^ 60 + 1) text → 2 ^ 60 < length read → 2 ^ 60 < length text
    farther text read e far =
        elim (cases_lt (2 ^ 60) (length text)) [
          | inl more ↦ more
          | inr le ↦ subst (λ (t : List ℕ). 2 ^ 60 < length t) (e ∙ take_all (2 ^ 60 + 1) text (omega (arith, le))) far
        ]

-- where a text has a judgement, the answer is that
due_judged : (text : List ℕ) (j : Judgement) (answer : Status) (out : List ℕ) → length text ≤ 2 ^ 60 → JudgesText text j → TextAnswer text answer out → (answer ≡ answer_of j) ⊎ IsFailure answer
due_judged text j (status.Verified n) out few h t = inl (ap answer_of (one_judgement text (judgements.Verified n) j t.0 h))
due_judged text j (status.Bad title step) out few h t = inl (ap answer_of (one_judgement text (judgements.Bad title step) j t.0 h))
due_judged text j (status.Garbled line) out few h t = inl (ap answer_of (one_judgement text (judgements.Garbled line) j t.0 h))
due_judged text j status.TextLimit out few h t = absurd (omega (arith, few, t.0))
due_judged text j status.ReadFault out few h t = inr tt
due_judged text j status.NoMemory out few h t = inr tt
due_judged text j answer out few h t = absurd t

answered : (text : List ℕ) (j : Judgement) (old new : Option (List ℕ)) (answer : Status) → length text ≤ 2 ^ 60 → JudgesText text j → Wrote (TextAnswer text) old new answer → (answer ≡ answer_of j) ⊎ IsFailure answer
answered text j old new answer few h (inl w) = due_judged text j answer w.out few h w.due
answered text j old new answer few h (inr w) = inr (subst IsFailure (sym w.0) tt)

-- where the source exposes its bytes
pub answers_text : (left old new : Option (List ℕ)) (answer : Status) → WroteOfText TextAnswer left old new answer → AnswersText left answer
answers_text left old new answer c text j is_answer few h =
    let all = subst (λ (l : Option (List ℕ)). WroteOfText TextAnswer l old new answer) is_answer c in
    answered text j old new answer few h (subst (λ (t : List ℕ). Wrote (TextAnswer t) old new answer) all.1 all.2)
