-- What is written of a figure text, and which answer it can have.
use Rattle.std.proofs.Common.{◌≡◌, ◌⊎◌, inl, inr, ℕ, ◌+◌, ◌≤◌, false, true≢false, List, length, take, Option, Some, None, Result, Ok, Err, refl, sym, ap, subst, ◌∙◌, arith}
use Rattle.std.specs.Prelude.{IfOk}
use Rattle.e_text.specs.Lines.{LineView}
use Rattle.e_text.specs.declared.line.LineFault.{LineFault}
use Rattle.e_text.proofs.LinesOfTexts.{lines_of-take}
use Rattle.e_line.specs.declared.fault.BookFault.{BookFault}
use Rattle.e_line.specs.declared.fault.BookFault.TheVariants as faults
use Rattle.e_line.specs.Reading.{◌>>=◌}
use Rattle.e_book.specs.Grammar.{BookFails}
use Rattle.e_line.proofs.base.Bound.{bind_ok}
use Rattle.e_drawing.specs.Plans.{no_plan}
use Rattle.e_drawing.specs.Texts.{lines_of_figure_text, plan_from}
use Rattle.e_drawing.specs.Answers.{answer_text, drawn_of}
use Rattle.e_drawing.proofs.PlanLines.{good_plan}
use Rattle.e_commands.specs.declared.status.Status.{Status}
use Rattle.e_commands.specs.declared.status.Status.TheVariants as status
use Rattle.e_commands.specs.Answers.{IsDrawn, IsReadFault, IsFailure, WroteOfText}
use Rattle.e_commands.specs.LastLines.{fault_line}
use Rattle.e_commands.specs.declared.output.Answer.{Answer}
use Rattle.e_commands.specs.declared.output.Failure.{Failure}
use Rattle.e_commands.specs.declared.output.Failure.TheVariants.{NoMemory, ReadFault, WriteFault}
use Rattle.e_commands.specs.inner.Finished.{HasDue, HasDueOfText}
use Rattle.e_commands.specs.Input.{IsTextOf}
use Rattle.e_commands.specs.DrawerAnswers.{FigureAnswer, lacks_memory, figure_answer, AnswersFigure}
use Rattle.e_commands.proofs.outcomes.AcceptedBooks.{short_by_size}
use Rattle.e_commands.specs.Wrote.{Wrote}

-- what is written of these lines
abbrev drawn_by : List (Result LineView LineFault) → Result (ℕ × List ℕ) BookFault
drawn_by lines = plan_from (1 + length lines) no_plan lines >>= λ p. Ok (length p.shown, answer_text p)

-- one byte more than may count is enough
drawn_front : (text : List ℕ) → drawn_of (take 4194305 text) ≡ drawn_of text
drawn_front text = ap drawn_by (lines_of-take (record { longest = 1600; most = 4194304 }) (record { line = 1; before = 0 }) text (omega arith))

-- where two texts have one answer, what is due of the one is due of the other
due_alike : (read text : List ℕ) (answer : Status) (out : List ℕ) → drawn_of read ≡ drawn_of text → FigureAnswer read answer out → FigureAnswer text answer out
due_alike read text (status.Drawn n) out e t = sym e ∙ t
due_alike read text (status.Fault f) out e t = (sym e ∙ t.0, t.1)
due_alike read text status.ReadFault out e t = t
due_alike read text status.NoMemory out e t = t
due_alike read text answer out e t = absurd t

alike : (read text : List ℕ) (answer : Result Answer Failure) → drawn_of read ≡ drawn_of text → HasDue (FigureAnswer read) answer → HasDue (FigureAnswer text) answer
alike read text (Ok a) e d = due_alike read text a.status a.line.items e d
alike read text (Err NoMemory) e d = d
alike read text (Err ReadFault) e d = d
alike read text (Err WriteFault) e d = d

-- what was read answers as the whole does
pub read_figure : (left : Option (List ℕ)) (read : List ℕ) (answer : Result Answer Failure) → IsTextOf 4194305 left read → HasDue (FigureAnswer read) answer → HasDueOfText FigureAnswer left answer
read_figure None read answer e d = (read, tt, d)
read_figure (Some text) read answer e d = (text, refl, alike read text answer (ap drawn_of e ∙ drawn_front text) d)

-- ---- a figure was drawn only where the text was read to its end

short_figure : (text : List ℕ) (d : ℕ × List ℕ) → drawn_of text ≡ Ok d → length text ≤ 4194304
short_figure text d e =
    let lines = lines_of_figure_text text in
    let a = bind_ok (plan_from (1 + length lines) no_plan lines) (λ p. Ok (length p.shown, answer_text p)) d e in
    let good = good_plan (1 + length lines) no_plan a.0 lines a.1 in
    omega (arith, short_by_size (length text) (record { longest = 1600; most = 4194304 }) (record { line = 1; before = 0 }) text (omega arith) (omega arith) good)

drawn_is_short : (text : List ℕ) (answer : Status) (out : List ℕ) → FigureAnswer text answer out → IsDrawn answer → length text ≤ 4194304
drawn_is_short text (status.Drawn n) out t d = short_figure text (n, out) t
drawn_is_short text answer out t d = absurd d

pub drawn_ended : {E : Type 0} (r : Result Answer E) (text : List ℕ) (Q : Type 0) → IfOk r (λ a. FigureAnswer text a.status a.line.items) → (length text ≤ 4194304 → Q) → IfOk r (λ a. IsDrawn a.status → Q)
drawn_ended (Ok a) text Q t q = λ d. q (drawn_is_short text a.status a.line.items t d)
drawn_ended (Err e) text Q t q = tt

-- ---- the other way round

-- a fault that is no want of memory is the text's
fault_is : {A : Type 0} (f : BookFault) (q : Result A BookFault) → lacks_memory f ≡ false → BookFails f q → q ≡ Err f
fault_is faults.NoMemory q n h = absurd (true≢false n)
fault_is (faults.Malformed line) q n h = h
fault_is (faults.UnknownName line) q n h = h
fault_is (faults.NameTaken line) q n h = h
fault_is (faults.WrongSort line) q n h = h
fault_is (faults.Limit line what) q n h = h
fault_is (faults.Unended line) q n h = h

abbrev IsFaultAnswer : {E : Type 0} → Result Answer E → BookFault → Type 0
IsFaultAnswer r f = IfOk r (λ a. (lacks_memory f ≡ false) × (a.status ≡ status.Fault f) × (a.line.items ≡ fault_line f))

pub fault_due : {E : Type 0} (r : Result Answer E) (text : List ℕ) (f : BookFault) → BookFails f (drawn_of text) → IsFaultAnswer r f → IfOk r (λ a. FigureAnswer text a.status a.line.items)
fault_due (Ok a) text f fails h = subst (λ (s : Status). FigureAnswer text s a.line.items) (sym h.1) (fault_is f (drawn_of text) h.0 fails, h.2)
fault_due (Err e) text f fails h = tt

pub fault_unread : {E : Type 0} (r : Result Answer E) (f : BookFault) → IsFaultAnswer r f → IfOk r (λ a. IsReadFault a.status → ⊥)
fault_unread (Ok a) f h = λ x. subst IsReadFault h.1 x
fault_unread (Err e) f h = tt

-- the answer is that of the text, or the run failed
due_answered : (text : List ℕ) (answer : Status) (out : List ℕ) → FigureAnswer text answer out → (answer ≡ figure_answer (drawn_of text)) ⊎ IsFailure answer
due_answered text (status.Drawn n) out t = inl (sym (ap figure_answer t))
due_answered text (status.Fault f) out t = inl (sym (ap figure_answer t.0))
due_answered text status.ReadFault out t = inr tt
due_answered text status.NoMemory out t = inr tt
due_answered text answer out t = absurd t

answered_as : (text : List ℕ) (old new : Option (List ℕ)) (answer : Status) → Wrote (FigureAnswer text) old new answer → (answer ≡ figure_answer (drawn_of text)) ⊎ IsFailure answer
answered_as text old new answer (inl w) = due_answered text answer w.out w.due
answered_as text old new answer (inr w) = inr (subst IsFailure (sym w.0) tt)

-- where the source exposes its bytes
pub answers_figure : (left old new : Option (List ℕ)) (answer : Status) → WroteOfText FigureAnswer left old new answer → AnswersFigure left answer
answers_figure left old new answer c text is_text =
    let all = subst (λ (l : Option (List ℕ)). WroteOfText FigureAnswer l old new answer) is_text c in
    answered_as text old new answer (subst (λ (t : List ℕ). Wrote (FigureAnswer t) old new answer) all.1 all.2)
