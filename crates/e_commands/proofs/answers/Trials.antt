-- What is answered on a generated book.
use Rattle.std.proofs.Common.{◌≡◌, inl, inr, ℕ, ◌≤◌, List, [], Option, Some, Result, Ok, Err, refl, sym, ap, subst, ◌∙◌, arith}
use Rattle.e_io.specs.Bytes.{Grew}
use Rattle.e_text.proofs.LinesOfTexts.{lines_of-take}
use Rattle.e_deriv.specs.declared.stop.Stop.TheVariants as stops
use Rattle.e_names.specs.declared.known.Known.{Known}
use Rattle.e_generate.specs.Generated.{generated_text}
use Rattle.e_judgement.specs.declared.judgement.Judgement.TheVariants as judgements
use Rattle.e_judgement.specs.Judged.{JudgesText}
use Rattle.e_commands.specs.declared.status.Status.{Status}
use Rattle.e_commands.specs.declared.status.Status.TheVariants as status
use Rattle.e_commands.specs.declared.blocks.BookResult.{BookResult}
use Rattle.e_commands.specs.declared.output.Answer.{Answer}
use Rattle.e_commands.specs.declared.output.Failure.{Failure}
use Rattle.e_commands.specs.declared.output.Failure.TheVariants.{NoMemory, ReadFault, WriteFault}
use Rattle.e_commands.specs.inner.Finished.{HasDue, HasReadFault}
use Rattle.e_commands.specs.declared.blocks.BookResult.TheVariants.{All, Stopped, Faulty}
use Rattle.e_commands.specs.Input.{IsTextOf}
use Rattle.e_commands.specs.LastLines.{tried_line}
use Rattle.e_commands.specs.Outcome.{BookOutcome, IsOutcome, IsOutcomeOf, lines_of_book}
use Rattle.e_commands.specs.Outcome as outcome
use Rattle.e_commands.specs.Answers.{IsAnswer, IsReadFault, theorems_of, written_with}
use Rattle.e_commands.specs.inner.BookResults.{BlocksUpTo, BookResultIs, answer_of, last_lines}
use Rattle.e_commands.specs.Trials.{IsStopped, IsTrial, TrialAnswer, Tries, HasCount, IsTrialAnswer, AnswersTrial}
use Rattle.e_commands.proofs.outcomes.Completeness.{answered_so, stops_so, widens_so, is_answer_wide, write_fault_answers, no_memory_answers}
use Rattle.e_commands.proofs.written_texts.LastLinesWritten.{grew_all}
use Rattle.e_commands.proofs.written_texts.VerifiedText.{verified_text}
use Rattle.e_commands.proofs.outcomes.OneOutcome.{outcome_is_one}
use Rattle.e_commands.proofs.outcomes.AcceptedBooks.{good_accepted}
use Rattle.e_commands.proofs.title_counts.Titles.{accepted_titles}
use Rattle.e_commands.proofs.title_counts.GeneratedTitles.{generated_titles}
use Rattle.e_book.specs.Grammar.{Rest}
use Rattle.e_roundtrip.specs.Written.{accepted_blocks_line, version_line}
use Rattle.e_clause.specs.declared.cert.Version.TheVariants.{One}

-- ---- the source

-- no answer to a book in memory is a fault of the source
unread_as : (lines : Rest) (answer : Status) (line : List ℕ) → TrialAnswer lines answer line → IsReadFault answer → ⊥
unread_as lines status.ReadFault line t h = t
unread_as lines answer line t h = h

pub trial_unread : (lines : Rest) (answer : Result Answer Failure) → HasDue (TrialAnswer lines) answer → HasReadFault answer → ⊥
trial_unread lines (Ok a) d h = unread_as lines a.status a.line.items d h
trial_unread lines (Err NoMemory) d h = h
trial_unread lines (Err ReadFault) d h = d
trial_unread lines (Err WriteFault) d h = d

-- ---- the answer to an accepted book

inside : (a b : List ℕ) → let x : Option (List ℕ) = Some a in x ≡ Some b → a ≡ b
inside a b e = cc

-- the head line, the blocks and the line of an accepted book were written: then what was written is that of an accepted book, and is verified
-- verified
pub accepted_tried : (lines : Rest) (b c d : Option (List ℕ)) (n s : ℕ) (out last : List ℕ) → Grew (Some []) b (version_line One) → BookResultIs lines b c (All n s) → Grew c d last → last ≡ accepted_blocks_line n → d ≡ Some out
    → IsTrial lines n s
accepted_tried lines b c d n s out last h e g is whole =
    let all : Grew (Some []) d (written_with e.0.derived (accepted_blocks_line n)) =
    grew_all (Some []) b c d e.0.derived (accepted_blocks_line n) h e.0.grew (subst (Grew c d) is g) in
    let bytes : out ≡ written_with e.0.derived (accepted_blocks_line n) = inside _ _ (sym whole ∙ all) in
    record {
      out = out;
      ended = record { derived = e.0.derived; sound = e.0.sound; known = e.0.known; rest = e.0.rest; begins = e.0.begins; holds = e.0.holds; bytes = bytes };
      steps_are = e.1;
      verified = subst (λ (x : List ℕ). JudgesText x (judgements.Verified n)) (sym bytes) (verified_text lines n e.0.derived e.0.known e.0.rest e.0.sound e.0.begins e.0.holds);
    }

-- what was written of an accepted book is verified
pub accepted_verified : (lines : Rest) (b c d : Option (List ℕ)) (n s : ℕ) (out last : List ℕ) → Grew (Some []) b (version_line One) → BookResultIs lines b c (All n s) → Grew c d last → last ≡ accepted_blocks_line n → d ≡ Some out
    → JudgesText out (judgements.Verified n)
accepted_verified lines b c d n s out last h e g is whole =
    let all : Grew (Some []) d (written_with e.0.derived (accepted_blocks_line n)) =
    grew_all (Some []) b c d e.0.derived (accepted_blocks_line n) h e.0.grew (subst (Grew c d) is g) in
    let bytes : out ≡ written_with e.0.derived (accepted_blocks_line n) = inside _ _ (sym whole ∙ all) in
    subst (λ (x : List ℕ). JudgesText x (judgements.Verified n)) (sym bytes) (verified_text lines n e.0.derived e.0.known e.0.rest e.0.sound e.0.begins e.0.holds)

pub tried_answered : (lines : Rest) (n s : ℕ) (answer : Status) (line : List ℕ) → IsTrial lines n s → answer ≡ status.Tried n s → line ≡ tried_line n s → TrialAnswer lines answer line
tried_answered lines n s answer line h a l = subst (λ (x : Status). TrialAnswer lines x line) (sym a) (h, l)

-- ---- the answer to any other book

stopped_there : (lines : Rest) (s0 s1 : Option (List ℕ)) (Holds : Known → Rest → Type 0) → BlocksUpTo lines s0 s1 Holds → IsStopped lines Holds
stopped_there lines s0 s1 Holds e = record { derived = e.derived; sound = e.sound; known = e.known; rest = e.rest; begins = e.begins; holds = e.holds }

-- the blocks end in another way
abbrev pub IsOther : BookResult → Type 0
IsOther (All n s) = ⊥
IsOther (Stopped title stop) = Unit {0}
IsOther (Faulty f) = Unit {0}

pub is_other : (book_result : BookResult) → ((n s : ℕ) → book_result ≡ All n s → ⊥) → IsOther book_result
is_other (All n s) h = h n s refl
is_other (Stopped title stop) h = tt
is_other (Faulty f) h = tt

other_answered : (lines : Rest) (s0 s1 : Option (List ℕ)) (book_result : BookResult) → IsOther book_result → BookResultIs lines s0 s1 book_result → TrialAnswer lines (answer_of book_result) (last_lines book_result)
other_answered lines s0 s1 (All n s) o e = absurd o
other_answered lines s0 s1 (Stopped title (stops.Unlicensed step wanted values names)) o e = (names, stopped_there lines s0 s1 _ e, refl)
other_answered lines s0 s1 (Stopped title (stops.TooWide step wanted width names)) o e = (names, stopped_there lines s0 s1 _ e, refl)
other_answered lines s0 s1 (Stopped title stops.NoMemory) o e = absurd e
other_answered lines s0 s1 (Faulty f) o e = (stopped_there lines s0 s1 _ e, refl)

pub result_answered : (lines : Rest) (s0 s1 : Option (List ℕ)) (book_result : BookResult) (answer : Status) (line : List ℕ) → IsOther book_result → BookResultIs lines s0 s1 book_result
    → answer ≡ answer_of book_result → line ≡ last_lines book_result → TrialAnswer lines answer line
result_answered lines s0 s1 book_result answer line o e a l =
    subst (λ (x : List ℕ). TrialAnswer lines answer x) (sym l) (subst (λ (x : Status). TrialAnswer lines x (last_lines book_result)) (sym a) (other_answered lines s0 s1 book_result o e))

-- ---- the generated book

-- what was read of it has its lines
pub book_lines : (read book : List ℕ) → IsTextOf 4194305 (Some book) read → lines_of_book read ≡ lines_of_book book
book_lines read book e = ap lines_of_book e ∙ lines_of-take (record { longest = 1600; most = 4194304 }) (record { line = 1; before = 0 }) book (omega arith)

-- ---- a book with an outcome is answered so

-- the answers to a book that is not accepted, and those of the sink and of memory
abbrev IsOtherAnswer : Status → Type 0
IsOtherAnswer (status.Unlicensed title step wanted values) = Unit {0}
IsOtherAnswer (status.TooWide title step wanted width) = Unit {0}
IsOtherAnswer (status.Fault f) = Unit {0}
IsOtherAnswer status.NoMemory = Unit {0}
IsOtherAnswer status.WriteFault = Unit {0}
IsOtherAnswer _ = ⊥

-- where a book was tried, its outcome is that it is accepted
tried_answers : (text : List ℕ) (n s : ℕ) (end : BookOutcome) → IsTrial (lines_of_book text) n s → IsOutcomeOf text end → IsTrialAnswer (lines_of_book text) end (status.Tried n s)
tried_answers text n s end h k =
    let e = h.ended in
    let is : outcome.Accepted n ≡ end =
    outcome_is_one (lines_of_book text) (theorems_of e.derived) k.theorems (outcome.Accepted n) end (record { known = e.known; rest = e.rest; begins = e.begins; ends = e.holds }) k.outcome in
    subst (λ (x : BookOutcome). IsTrialAnswer (lines_of_book text) x (status.Tried n s)) is refl

-- an answer that `check` gives to a book that it does not accept
other_answers : (lines : Rest) (end : BookOutcome) (answer : Status) → IsOtherAnswer answer → IsAnswer lines end answer → IsTrialAnswer lines end answer
other_answers lines (outcome.Accepted n) (status.Unlicensed title step wanted values) o h = h
other_answers lines (outcome.Unlicensed a b c d) (status.Unlicensed title step wanted values) o h = h
other_answers lines (outcome.Faulty f) (status.Unlicensed title step wanted values) o h = h
other_answers lines (outcome.Accepted n) (status.TooWide title step wanted width) o h = h
other_answers lines (outcome.Unlicensed a b c d) (status.TooWide title step wanted width) o h = h
other_answers lines (outcome.Faulty f) (status.TooWide title step wanted width) o h = h
other_answers lines (outcome.Accepted n) (status.Fault g) o h = h
other_answers lines (outcome.Unlicensed a b c d) (status.Fault g) o h = h
other_answers lines (outcome.Faulty f) (status.Fault g) o h = h
other_answers lines (outcome.Accepted n) status.NoMemory o h = h
other_answers lines (outcome.Unlicensed a b c d) status.NoMemory o h = h
other_answers lines (outcome.Faulty f) status.NoMemory o h = h
other_answers lines (outcome.Accepted n) status.WriteFault o h = h
other_answers lines (outcome.Unlicensed a b c d) status.WriteFault o h = h
other_answers lines (outcome.Faulty f) status.WriteFault o h = h
other_answers lines end answer o h = absurd o

trial_answered : (text line : List ℕ) (answer : Status) (end : BookOutcome) → TrialAnswer (lines_of_book text) answer line → IsOutcomeOf text end → IsTrialAnswer (lines_of_book text) end answer
trial_answered text line (status.Tried n s) end t k = tried_answers text n s end t.0 k
trial_answered text line (status.Unlicensed title step wanted values) end t k =
    let o = t.1 in
    other_answers (lines_of_book text) end (status.Unlicensed title step wanted values) tt
    (answered_so text end (status.Unlicensed title step wanted values) (theorems_of o.derived) o.known o.rest (outcome.Unlicensed title step wanted t.0) k o.begins
    (stops_so (lines_of_book text) o.known o.rest title step wanted values t.0 o.holds) (refl, refl, refl))
trial_answered text line (status.TooWide title step wanted width) end t k =
    let o = t.1 in
    other_answers (lines_of_book text) end (status.TooWide title step wanted width) tt
    (is_answer_wide (lines_of_book text) end title step wanted width
    (widens_so (lines_of_book text) (theorems_of o.derived) o.known o.rest title step wanted width t.0 o.begins o.holds))
trial_answered text line (status.Fault f) end t k =
    let o = t.0 in
    other_answers (lines_of_book text) end (status.Fault f) tt
    (answered_so text end (status.Fault f) (theorems_of o.derived) o.known o.rest (outcome.Faulty f) k o.begins o.holds refl)
trial_answered text line status.NoMemory end t k = other_answers (lines_of_book text) end status.NoMemory tt (no_memory_answers (lines_of_book text) end)
trial_answered text line answer end t k = absurd t

-- the answer of a run, by what it wrote
pub answers_trial : (n : ℕ) (old new : Option (List ℕ)) (answer : Status) → Tries n old new answer → AnswersTrial n answer
answers_trial n old new answer (inl w) end k = trial_answered (generated_text n) w.out answer end w.due k
answers_trial n old new answer (inr w) end k =
    subst (λ (x : Status). IsTrialAnswer (lines_of_book (generated_text n)) end x) (sym w.0)
    (other_answers (lines_of_book (generated_text n)) end status.WriteFault tt (write_fault_answers (lines_of_book (generated_text n)) end))

-- ---- how many theorems were tried

-- an accepted book that was generated has as many theorems as it was asked for
count_is : (n m s : ℕ) → n ≤ 500 → IsTrial (lines_of_book (generated_text n)) m s → m ≡ n
count_is n m s few h =
    let e = h.ended in
    let lines = lines_of_book (generated_text n) in
    let outcome : IsOutcome lines (theorems_of e.derived) (outcome.Accepted m) = record { known = e.known; rest = e.rest; begins = e.begins; ends = e.holds } in
    sym (accepted_titles lines (theorems_of e.derived) m outcome) ∙ generated_titles n few (good_accepted lines (theorems_of e.derived) m outcome)

not_tried : (m s : ℕ) → status.Tried m s ≡ status.WriteFault → ⊥
not_tried m s e = absurd cc

pub tried_count : (n : ℕ) (old new : Option (List ℕ)) (answer : Status) → n ≤ 500 → Tries n old new answer → HasCount n answer
tried_count n old new (status.Tried m s) few (inl w) = count_is n m s few w.due.0
tried_count n old new (status.Tried m s) few (inr w) = absurd (not_tried m s w.0)
tried_count n old new answer few t = tt
