-- The last lines after the blocks.
use Rattle.std.proofs.Common.{◌≡◌, inl, inr, ℕ, ◌+◌, List, [], ◌++◌, length, Option, Some, None, Result, Ok, Err, refl, sym, ap, subst, ◌∙◌, arith, length-append, take}
use Rattle.std.specs.Prelude.{IfOk}
use Rattle.std.proofs.lemmas.List.{take-append-le}
use Rattle.std.proofs.Math.Seq.{take-append-add}
use Rattle.e_io.specs.Bytes.{Grew, GrewByFront}
use Rattle.e_io.proofs.Growth.{grown}
use Rattle.e_deriv.specs.declared.stop.Stop.TheVariants as stops
use Rattle.e_commands.specs.declared.status.Status.{Status}
use Rattle.e_commands.specs.declared.status.Status.TheVariants as status
use Rattle.e_commands.specs.declared.blocks.BookResult.{BookResult}
use Rattle.e_commands.specs.declared.blocks.BookResult.TheVariants.{All, Stopped, Faulty}
use Rattle.e_names.specs.declared.known.Known.{Known}
use Rattle.e_names.specs.Taken.{nothing_known}
use Rattle.e_commands.specs.Outcome.{lines_of_book}
use Rattle.e_commands.specs.Outcome as outcome
use Rattle.e_commands.specs.LastLines.{no_memory_line, read_fault_line}
use Rattle.e_commands.specs.Answers.{Derived, blocks_of, written_with, OutputUpTo, OutcomeAfter, Refuses, Widens, Outputs, IsAccepted, IsReadFault, IsWriteFault, WroteOfText}
use Rattle.e_commands.specs.Wrote.{ClosesWith, Wrote}
use Rattle.e_commands.specs.inner.BookResults.{BlocksUpTo, BreaksOff, BreaksInside, BookResultIs, SourceResultIs, IsAll, HasLastLines, last_lines, answer_of}
use Rattle.e_commands.specs.declared.output.Answer.{Answer}
use Rattle.e_commands.specs.declared.output.Failure.{Failure}
use Rattle.e_commands.specs.declared.output.Failure.TheVariants.{NoMemory, ReadFault, WriteFault}
use Rattle.e_commands.specs.inner.Finished.{Finishes, IsOrNoMemory}
use Rattle.e_commands.proofs.answers.Finished.{finished_as, or_ended}
use Rattle.e_commands.proofs.written_texts.VerifiedText.{verified_text}
use Rattle.e_book.specs.Grammar.{Rest}
use Rattle.e_roundtrip.specs.Written.{version_line}
use Rattle.e_clause.specs.declared.cert.Version.TheVariants.{One}

-- the head line, the blocks and the last lines, one after another
pub grew_all : (old s0 s1 s2 : Option (List ℕ)) (ds : List Derived) (last : List ℕ) → Grew old s0 (version_line One) → Grew s0 s1 (blocks_of [] ds) → Grew s1 s2 last → Grew old s2 (written_with ds last)
grew_all old s0 s1 s2 ds last h b l = grown old s0 s2 (version_line One) (blocks_of [] ds ++ last) h (grown s0 s1 s2 (blocks_of [] ds) last b l)

-- a front of the last lines, after all that came before
grew_front : (old s0 s1 s2 : Option (List ℕ)) (ds : List Derived) (last : List ℕ) → Grew old s0 (version_line One) → Grew s0 s1 (blocks_of [] ds) → GrewByFront s1 s2 last → GrewByFront old s2 (written_with ds last)
grew_front old s0 s1 s2 ds last h b l =
    let n = l.0 in
    let blocks = blocks_of [] ds in
    let size : length (written_with ds last) ≡ length (version_line One) + (length blocks + length last) = length-append (version_line One) (blocks ++ last) ∙ ap (λ (k : ℕ). length (version_line One) + k) (length-append blocks last) in (
      length (version_line One) + (length blocks + n),
      omega (arith, l.1, size),
      subst (λ (x : List ℕ). Grew old s2 x)
          (sym (take-append-add (version_line One) (blocks ++ last) (length blocks + n) ∙ ap (λ (x : List ℕ). (version_line One) ++ x) (take-append-add blocks last n)))
          (grown old s0 s2 (version_line One) (blocks ++ take n last) h (grown s0 s1 s2 blocks (take n last) b l.2)),
    )

-- the answer is right, by what its bytes are
pub closed : (lines : Rest) (old s0 s1 s2 : Option (List ℕ)) (ds : List Derived) (last : List ℕ) (answer result : Status)
    → Outputs lines answer (written_with ds last) → Grew old s0 (version_line One) → Grew s0 s1 (blocks_of [] ds) → ClosesWith s1 s2 last answer result → Wrote (Outputs lines) old s2 result
closed lines old s0 s1 s2 ds last answer result outputs h b (inl c) =
    subst (Wrote (Outputs lines) old s2) (sym c.0) (inl (record { out = written_with ds last; due = outputs; grew = grew_all old s0 s1 s2 ds last h b c.1 }))
closed lines old s0 s1 s2 ds last answer result outputs h b (inr c) =
    inr (c.0, record { answer = answer; out = written_with ds last; due = outputs; grew = grew_front old s0 s1 s2 ds last h b c.1 })

-- what ended so, with its last lines
ended : (lines : Rest) (s0 s1 : Option (List ℕ)) (Holds : Known → Rest → Type 0) (last : List ℕ) (e : BlocksUpTo lines s0 s1 Holds) → OutputUpTo lines Holds last (written_with e.derived last)
ended lines s0 s1 Holds last e =
    record { derived = e.derived; sound = e.sound; known = e.known; rest = e.rest; begins = e.begins; holds = e.holds; bytes = refl }

-- the lines ended so, and the last lines of that answer come
pub closed_result : (lines : Rest) (old s0 s1 s2 : Option (List ℕ)) (book_result : BookResult) (result : Status)
    → Grew old s0 (version_line One) → BookResultIs lines s0 s1 book_result → ClosesWith s1 s2 (last_lines book_result) (answer_of book_result) result → Wrote (Outputs lines) old s2 result
closed_result lines old s0 s1 s2 (All n s) result h e c =
    closed lines old s0 s1 s2 e.0.derived (last_lines (All n s)) (answer_of (All n s)) result
    (ended lines s0 s1 (OutcomeAfter lines (outcome.Accepted n)) (last_lines (All n s)) e.0, verified_text lines n e.0.derived e.0.known e.0.rest e.0.sound e.0.begins e.0.holds) h e.0.grew c
closed_result lines old s0 s1 s2 (Stopped title (stops.Unlicensed step wanted values names)) result h e c =
    let book_result = Stopped title (stops.Unlicensed step wanted values names) in
    closed lines old s0 s1 s2 e.derived (last_lines book_result) (answer_of book_result) result
    (names, ended lines s0 s1 (Refuses lines title step wanted values names) (last_lines book_result) e) h e.grew c
closed_result lines old s0 s1 s2 (Stopped title (stops.TooWide step wanted width names)) result h e c =
    let book_result = Stopped title (stops.TooWide step wanted width names) in
    closed lines old s0 s1 s2 e.derived (last_lines book_result) (answer_of book_result) result
    (names, ended lines s0 s1 (Widens lines title step wanted width names) (last_lines book_result) e) h e.grew c
closed_result lines old s0 s1 s2 (Stopped title stops.NoMemory) result h e c = absurd e
closed_result lines old s0 s1 s2 (Faulty f) result h e c =
    closed lines old s0 s1 s2 e.derived (last_lines (Faulty f)) (answer_of (Faulty f)) result
    (ended lines s0 s1 (OutcomeAfter lines (outcome.Faulty f)) (last_lines (Faulty f)) e) h e.grew c

-- memory gave out after some blocks
pub closed_error : (lines : Rest) (old s0 s1 s2 : Option (List ℕ)) (result : Status)
    → Grew old s0 (version_line One) → BreaksOff lines s0 s1 → ClosesWith s1 s2 no_memory_line status.NoMemory result → Wrote (Outputs lines) old s2 result
closed_error lines old s0 s1 s2 result h e c =
    closed lines old s0 s1 s2 e.derived no_memory_line status.NoMemory result
    (record { derived = e.derived; sound = e.sound; known = e.front.known; rest = e.front.rest; begins = e.front.begins; holds = tt; bytes = refl }) h e.grew c

-- what ended can be taken as broken off
pub off_of_outcome : (lines : Rest) (s0 s1 : Option (List ℕ)) (Holds : Known → Rest → Type 0) → BlocksUpTo lines s0 s1 Holds → BreaksOff lines s0 s1
off_of_outcome lines s0 s1 Holds e =
    record { derived = e.derived; sound = e.sound; front = record { known = e.known; rest = e.rest; begins = e.begins }; grew = e.grew }

pub off_of_result : (lines : Rest) (s0 s1 : Option (List ℕ)) (book_result : BookResult) → BookResultIs lines s0 s1 book_result → BreaksOff lines s0 s1
off_of_result lines s0 s1 (All n s) e = off_of_outcome lines s0 s1 _ e.0
off_of_result lines s0 s1 (Stopped title (stops.Unlicensed step wanted values names)) e = off_of_outcome lines s0 s1 _ e
off_of_result lines s0 s1 (Stopped title (stops.TooWide step wanted width names)) e = off_of_outcome lines s0 s1 _ e
off_of_result lines s0 s1 (Stopped title stops.NoMemory) e = absurd e
off_of_result lines s0 s1 (Faulty f) e = off_of_outcome lines s0 s1 _ e

-- the sink gave out inside a block
pub closed_inside : (lines : Rest) (old s0 s1 : Option (List ℕ)) → Grew old s0 (version_line One) → BreaksInside lines s0 s1 → Wrote (Outputs lines) old s1 status.WriteFault
closed_inside lines old s0 s1 h e =
    let blocks = blocks_of [] e.derived in
    let some : length no_memory_line ≡ 10 = refl in
    let size : length (written_with e.derived no_memory_line) ≡ length (version_line One) + (length blocks + length no_memory_line) =
    length-append (version_line One) (blocks ++ no_memory_line) ∙ ap (λ (k : ℕ). length (version_line One) + k) (length-append blocks no_memory_line) in
    let front : GrewByFront old s1 (written_with e.derived no_memory_line) = (
      length (version_line One) + e.count,
      omega (arith, e.short, some, size),
      subst (λ (x : List ℕ). Grew old s1 x)
          (sym (take-append-add (version_line One) (blocks ++ no_memory_line) e.count ∙ ap (λ (x : List ℕ). (version_line One) ++ x) (take-append-le e.count blocks no_memory_line e.short)))
          (grown old s0 s1 (version_line One) (take e.count blocks) h e.grew),
    ) in
    inr (
      refl,
      record {
        answer = status.NoMemory;
        out = written_with e.derived no_memory_line;
        due = record { derived = e.derived; sound = e.sound; known = e.front.known; rest = e.front.rest; begins = e.front.begins; holds = tt; bytes = refl };
        grew = front;
      },
    )

-- a front of the head line was written
pub closed_head : (lines : Rest) (old new : Option (List ℕ)) → GrewByFront old new (version_line One) → Wrote (Outputs lines) old new status.WriteFault
closed_head lines old new w =
    let size : length (written_with [] no_memory_line) ≡ length (version_line One) + length no_memory_line = length-append (version_line One) no_memory_line in
    let front : GrewByFront old new (written_with [] no_memory_line) = (
      w.0,
      omega (arith, w.1, size),
      subst (λ (x : List ℕ). Grew old new x) (sym (take-append-le w.0 (version_line One) no_memory_line (omega (arith, w.1)))) w.2,
    ) in
    inr (
      refl,
      record {
        answer = status.NoMemory;
        out = written_with [] no_memory_line;
        due = record { derived = []; sound = tt; known = nothing_known; rest = lines; begins = record { notions = []; defines = (refl, refl) }; holds = tt; bytes = refl };
        grew = front;
      },
    )

-- the source gave out after some blocks
pub closed_cut : (lines : Rest) (old s0 s1 s2 : Option (List ℕ)) (result : Status)
    → Grew old s0 (version_line One) → BreaksOff lines s0 s1 → ClosesWith s1 s2 read_fault_line status.ReadFault result → Wrote (Outputs lines) old s2 result
closed_cut lines old s0 s1 s2 result h e c =
    closed lines old s0 s1 s2 e.derived read_fault_line status.ReadFault result
    (record { derived = e.derived; sound = e.sound; known = e.front.known; rest = e.front.rest; begins = e.front.begins; holds = tt; bytes = refl }) h e.grew c

-- some text is the source's
pub any_book : (left : Option (List ℕ)) (old new : Option (List ℕ)) (answer : Status) → ((lines : Rest) → Wrote (Outputs lines) old new answer) → WroteOfText (λ text. Outputs (lines_of_book text)) left old new answer
any_book None old new answer h = ([], tt, h (lines_of_book []))
any_book (Some text) old new answer h = (text, refl, h (lines_of_book text))

-- a result that blocks have is not out of memory
pub has_last_lines : (lines : Rest) (old new : Option (List ℕ)) (book_result : BookResult) → BookResultIs lines old new book_result → HasLastLines book_result
has_last_lines lines old new (All n s) e = tt
has_last_lines lines old new (Stopped title (stops.Unlicensed step wanted values names)) e = tt
has_last_lines lines old new (Stopped title (stops.TooWide step wanted width names)) e = tt
has_last_lines lines old new (Stopped title stops.NoMemory) e = absurd e
has_last_lines lines old new (Faulty f) e = tt

-- ---- the answer of a result, with its last lines

abbrev pub IsAnswerOf : {E : Type 0} → Result Answer E → BookResult → Type 0
IsAnswerOf r book_result = IfOk r (λ a. (a.status ≡ answer_of book_result) × (a.line.items ≡ last_lines book_result))

pub finished_result : {E : Type 0} (lines : Rest) (old s0 s1 s2 : Option (List ℕ)) (book_result : BookResult) (r : Result Answer E) (answer : Result Answer Failure) (result : Status) → Grew old s0 (version_line One) → BookResultIs lines s0 s1 book_result → IsAnswerOf r book_result
    → IsOrNoMemory r answer → Finishes s1 s2 answer result → Wrote (Outputs lines) old s2 result
finished_result lines old s0 s1 s2 book_result (Ok a) answer result h e is or c =
    let own : ClosesWith s1 s2 a.line.items a.status result = subst (λ (x : Result Answer Failure). Finishes s1 s2 x result) or c in
    closed_result lines old s0 s1 s2 book_result result h e
    (subst (λ (l : List ℕ). ClosesWith s1 s2 l (answer_of book_result) result) is.1 (subst (λ (x : Status). ClosesWith s1 s2 a.line.items x result) is.0 own))
finished_result lines old s0 s1 s2 book_result (Err x) answer result h e is or c =
    closed_error lines old s0 s1 s2 result h (off_of_result lines s0 s1 book_result e) (subst (λ (x : Result Answer Failure). Finishes s1 s2 x result) or c)

-- where the blocks break off
pub finished_failure : (lines : Rest) (old s0 s1 s2 : Option (List ℕ)) (f : Failure) (result : Status) → Grew old s0 (version_line One) → SourceResultIs lines s0 s1 (Err f) → Finishes s1 s2 (Err f) result → Wrote (Outputs lines) old s2 result
finished_failure lines old s0 s1 s2 NoMemory result h e c = closed_error lines old s0 s1 s2 result h e c
finished_failure lines old s0 s1 s2 ReadFault result h e c = closed_cut lines old s0 s1 s2 result h e c
finished_failure lines old s0 s1 s2 WriteFault result h e c =
    subst (λ (x : Status). Wrote (Outputs lines) old s2 x) (sym c.0) (subst (λ (s : Option (List ℕ)). Wrote (Outputs lines) old s status.WriteFault) (sym c.1) (closed_inside lines old s0 s1 h e))

pub failed_accepted : (old new : Option (List ℕ)) (f : Failure) (result : Status) → Finishes old new (Err f) result → IsAccepted result → ⊥
failed_accepted old new f result c a = finished_as IsAccepted ⊥ old new (Err f) result (λ n. n) (λ n. n) (λ n. n) tt c a

-- no result is answered by a fault of the source or of the sink
no_fault : (book_result : BookResult) → (IsReadFault (answer_of book_result) → ⊥) × (IsWriteFault (answer_of book_result) → ⊥)
no_fault (All n s) = (λ h. h, λ h. h)
no_fault (Stopped title (stops.Unlicensed step wanted values names)) = (λ h. h, λ h. h)
no_fault (Stopped title (stops.TooWide step wanted width names)) = (λ h. h, λ h. h)
no_fault (Stopped title stops.NoMemory) = (λ h. h, λ h. h)
no_fault (Faulty f) = (λ h. h, λ h. h)

pub result_unread : {E : Type 0} (r : Result Answer E) (book_result : BookResult) → IsAnswerOf r book_result → IfOk r (λ a. IsReadFault a.status → ⊥)
result_unread (Ok a) book_result is = λ h. (no_fault book_result).0 (subst IsReadFault is.0 h)
result_unread (Err e) book_result is = tt

pub result_writes : {E : Type 0} (r : Result Answer E) (book_result : BookResult) → IsAnswerOf r book_result → IfOk r (λ a. IsWriteFault a.status → ⊥)
result_writes (Ok a) book_result is = λ h. (no_fault book_result).1 (subst IsWriteFault is.0 h)
result_writes (Err e) book_result is = tt

-- a book is accepted only where all its theorems were taken
accepted_is_all : (book_result : BookResult) (answer result : Status) → answer ≡ answer_of book_result → result ≡ answer → IsAccepted result → IsAll book_result
accepted_is_all (All n s) answer result e f a = tt
accepted_is_all (Stopped title (stops.Unlicensed step wanted values names)) answer result e f a = absurd (subst IsAccepted (f ∙ e) a)
accepted_is_all (Stopped title (stops.TooWide step wanted width names)) answer result e f a = absurd (subst IsAccepted (f ∙ e) a)
accepted_is_all (Stopped title stops.NoMemory) answer result e f a = absurd (subst IsAccepted (f ∙ e) a)
accepted_is_all (Faulty f') answer result e f a = absurd (subst IsAccepted (f ∙ e) a)

pub finished_all : {E : Type 0} (old new : Option (List ℕ)) (book_result : BookResult) (r : Result Answer E) (answer : Result Answer Failure) (result : Status) → IsAnswerOf r book_result → IsOrNoMemory r answer → Finishes old new answer result → IsAccepted result → IsAll book_result
finished_all old new book_result r answer result is or c a =
    finished_as IsAccepted (IsAll book_result) old new answer result (λ n. n) (λ n. n) (λ n. n) (or_ended IsAccepted (IsAll book_result) r answer (all r is) or) c a
  where
    all : {E : Type 0} (r : Result Answer E) → IsAnswerOf r book_result → IfOk r (λ a. IsAccepted a.status → IsAll book_result)
    all (Ok a) is = λ h. accepted_is_all book_result (answer_of book_result) a.status refl is.0 h
    all (Err e) is = tt
