-- A book that has an outcome is answered so.
use Rattle.std.proofs.Common.{◌≡◌, inl, inr, ℕ, List, Option, refl, sym, subst}
use Rattle.e_commands.specs.declared.status.Status.{Status}
use Rattle.e_commands.specs.declared.status.Status.TheVariants as status
use Rattle.std.specs.Prelude.{Contains, Bool, true, false, MatchBool}
use Rattle.e_literal.specs.declared.object.Term.{Term}
use Rattle.e_literal.specs.declared.literal.Lit.{Lit}
use Rattle.e_clause.specs.Wide.{IsTooWideLit}
use Rattle.e_deriv.specs.declared.stop.Wanted.{Wanted}
use Rattle.e_deriv.specs.declared.stop.Wanted.TheVariants.{Literal, Match, Contradiction as AContradiction}
use Rattle.e_deriv.specs.declared.names.Names.{Names}
use Rattle.e_deriv.specs.Script.{Script, Cite, Hence, Make, Apply, Claim, Superposed, Qed, Contradiction, Cases}
use Rattle.e_deriv.specs.PlacedSteps.{PlacedStep, theorem_at}
use Rattle.e_deriv.specs.Parts.{has_no_blank}
use Rattle.e_deriv.specs.Steps.{needs_as_written}
use Rattle.e_theorem.specs.WideChoice.{SomeChoiceIsWide}
use Rattle.e_literal.specs.Use.{StatementView}
use Rattle.e_deriv.specs.Refused.{SomeIsWide, IsWideAt, IsTooWide}
use Rattle.e_names.specs.declared.known.Known.{Known}
use Rattle.e_names.specs.TitledStatements.{TitledStatement, stated_by}
use Rattle.e_book.specs.TheoremViews.{TheoremView}
use Rattle.e_book.specs.Grammar.{Rest}
use Rattle.e_commands.specs.Outcome.{BookOutcome, IsOutcomeOf, Begins, StopsAt, RefusedAt, HasWide, lines_of_book}
use Rattle.e_commands.specs.Outcome as outcome
use Rattle.e_commands.specs.Answers.{Outputs, OutcomeAfter, Refuses, Widens, IsAnswer, Answers, UsageAnswer, theorems_of, WroteOfText}
use Rattle.e_commands.specs.Wrote.{ClosesWith, Wrote}
use Rattle.e_commands.specs.LastLines.{usage_line}
use Rattle.e_commands.proofs.answers.Wrote.{closed_wrote}
use Rattle.e_commands.proofs.outcomes.OneOutcome.{outcome_is_one}
use Rattle.e_prove.proofs.RightStops.{wide_choice, wide_lit}

answered_at : (lines : Rest) (end other : BookOutcome) (answer : Status) → other ≡ end → IsAnswer lines other answer → IsAnswer lines end answer
answered_at lines end other answer e h = subst (λ (x : BookOutcome). IsAnswer lines x answer) e h

-- where the book ends so after these theorems, an answer to that is one to its outcome
pub answered_so : (text : List ℕ) (end : BookOutcome) (answer : Status) (theorems : List TheoremView) (known : Known) (rest : Rest) (other : BookOutcome) → IsOutcomeOf text end
    → Begins (lines_of_book text) theorems known rest → OutcomeAfter (lines_of_book text) other known rest → IsAnswer (lines_of_book text) other answer → IsAnswer (lines_of_book text) end answer
answered_so text end answer theorems known rest other h b e k =
    answered_at (lines_of_book text) end other answer
    (outcome_is_one (lines_of_book text) theorems h.theorems other end (record { known = known; rest = rest; begins = b; ends = e }) h.outcome) k

pub stop_of_refusal : (known : List TitledStatement) (t : TheoremView) (title : List ℕ) (step : ℕ) (wanted : Wanted) (values : Option (List (Term × ℕ))) (names : Names)
    → RefusedAt known t title step wanted values names → StopsAt known t title step wanted names
stop_of_refusal known t title step wanted values names r =
    record { titled = r.titled; first = record { step = r.refused.step; context = r.refused.context; lacks = r.refused.lacks }; named = r.named }

-- where the next theorem is refused the book stops there
pub stops_so : (lines : Rest) (known : Known) (rest : Rest) (title : List ℕ) (step : ℕ) (wanted : Wanted) (values : Option (List (Term × ℕ))) (names : Names)
    → Refuses lines title step wanted values names known rest → OutcomeAfter lines (outcome.Unlicensed title step wanted names) known rest
stops_so lines known rest title step wanted values names r = (r.0, r.1, r.2, stop_of_refusal known.theorems r.0 title step wanted values names r.3)

some_wide : (before : List StatementView) (x : PlacedStep) (l : Lit) (w : ℕ) → Contains (needs_as_written before x) l × IsTooWideLit x.scope x.facts l w → SomeIsWide before x
some_wide before x l w h = record { lit = l; is_one = h.0; is_wide = wide_lit x.scope x.facts l w h.1 }

written_wide : (b : Bool) (A B : Type 0) → b ≡ true → A → MatchBool b A B
written_wide true A B e h = h
written_wide false A B e h = absurd cc

blank_wide : (b : Bool) (A B : Type 0) → b ≡ false → B → MatchBool b A B
blank_wide true A B e h = absurd cc
blank_wide false A B e h = h

-- a line that is too wide is wide
pub wide_line : (before : List StatementView) (x : PlacedStep) (here : Script) (wanted : Wanted) (w : ℕ) → IsTooWide before x here wanted w → IsWideAt before x here
wide_line before x (Contradiction against) AContradiction w h =
    record { no_clash = h.no_clash; rows = h.rows; is_system = h.is_system; is_wide = h.has_width.is_wide }
wide_line before x (Contradiction against) (Literal l) w h = absurd h
wide_line before x (Contradiction against) Match w h = absurd h
wide_line before x (Apply theorem pattern names certs rest) (Literal l) w h =
    written_wide (has_no_blank pattern) (SomeIsWide before x) (SomeChoiceIsWide (theorem_at before theorem) x.scope x.facts pattern) h.0 (some_wide before x l w (h.1, h.2))
wide_line before x (Apply theorem pattern names certs rest) Match w h =
    blank_wide (has_no_blank pattern) (SomeIsWide before x) (SomeChoiceIsWide (theorem_at before theorem) x.scope x.facts pattern) h.0
    (wide_choice (theorem_at before theorem) x.scope x.facts pattern w h.1)
wide_line before x (Cite by rest) (Literal l) w h = some_wide before x l w h
wide_line before x (Hence lit cert rest) (Literal l) w h = some_wide before x l w h
wide_line before x (Make construction names certs rest) (Literal l) w h = some_wide before x l w h
wide_line before x (Claim shown inner rest) (Literal l) w h = some_wide before x l w h
wide_line before x (Superposed superposition names shown certs inner rest) (Literal l) w h = some_wide before x l w h
wide_line before x (Qed objects certs) (Literal l) w h = some_wide before x l w h
wide_line before x (Cases lit first second) (Literal l) w h = some_wide before x l w h
wide_line before x here Match w h = absurd h
wide_line before x here AContradiction w h = absurd h

pub widens_so : (lines : Rest) (theorems : List TheoremView) (known : Known) (rest : Rest) (title : List ℕ) (step : ℕ) (wanted : Wanted) (width : ℕ) (names : Names)
    → Begins lines theorems known rest → Widens lines title step wanted width names known rest → HasWide lines
widens_so lines theorems known rest title step wanted width names b w =
    let at = w.3.too_wide in
    record {
      theorems = theorems;
      known = known;
      rest = rest;
      begins = b;
      wide = (w.0, w.1, w.2, record { step = step; placed = at.step; context = at.context; is_wide = wide_line (stated_by known.theorems) at.step at.step.here wanted width at.too_wide });
    }

pub is_answer_wide : (lines : Rest) (end : BookOutcome) (title : List ℕ) (step : ℕ) (wanted : Wanted) (width : ℕ) → HasWide lines → IsAnswer lines end (status.TooWide title step wanted width)
is_answer_wide lines (outcome.Accepted n) title step wanted width h = h
is_answer_wide lines (outcome.Unlicensed a b c d) title step wanted width h = h
is_answer_wide lines (outcome.Faulty f) title step wanted width h = h

-- a fault of the source or the sink, and out of memory, can come in place of any outcome
pub read_fault_answers : (lines : Rest) (end : BookOutcome) → IsAnswer lines end status.ReadFault
read_fault_answers lines (outcome.Accepted n) = tt
read_fault_answers lines (outcome.Unlicensed title step wanted names) = tt
read_fault_answers lines (outcome.Faulty f) = tt

pub write_fault_answers : (lines : Rest) (end : BookOutcome) → IsAnswer lines end status.WriteFault
write_fault_answers lines (outcome.Accepted n) = tt
write_fault_answers lines (outcome.Unlicensed title step wanted names) = tt
write_fault_answers lines (outcome.Faulty f) = tt

pub no_memory_answers : (lines : Rest) (end : BookOutcome) → IsAnswer lines end status.NoMemory
no_memory_answers lines (outcome.Accepted n) = tt
no_memory_answers lines (outcome.Unlicensed title step wanted names) = tt
no_memory_answers lines (outcome.Faulty f) = tt

-- by what is due with the answer
due_answers : (text : List ℕ) (end : BookOutcome) (answer : Status) (out : List ℕ) → IsOutcomeOf text end → Outputs (lines_of_book text) answer out → IsAnswer (lines_of_book text) end answer
due_answers text end (status.Accepted n) out h d =
    let o = d.0 in
    answered_so text end (status.Accepted n) (theorems_of o.derived) o.known o.rest (outcome.Accepted n) h o.begins o.holds refl
due_answers text end (status.Unlicensed title step wanted values) out h d =
    let o = d.1 in
    answered_so text end (status.Unlicensed title step wanted values) (theorems_of o.derived) o.known o.rest (outcome.Unlicensed title step wanted d.0) h o.begins
    (stops_so (lines_of_book text) o.known o.rest title step wanted values d.0 o.holds) (refl, refl, refl)
due_answers text end (status.TooWide title step wanted width) out h d =
    let o = d.1 in
    is_answer_wide (lines_of_book text) end title step wanted width
    (widens_so (lines_of_book text) (theorems_of o.derived) o.known o.rest title step wanted width d.0 o.begins o.holds)
due_answers text end (status.Fault f) out h d =
    answered_so text end (status.Fault f) (theorems_of d.derived) d.known d.rest (outcome.Faulty f) h d.begins d.holds refl
due_answers text end status.ReadFault out h d = read_fault_answers (lines_of_book text) end
due_answers text end status.NoMemory out h d = no_memory_answers (lines_of_book text) end
due_answers text end answer out h d = absurd d

pub answered : (text : List ℕ) (end : BookOutcome) (old new : Option (List ℕ)) (answer : Status) → IsOutcomeOf text end → Wrote (Outputs (lines_of_book text)) old new answer → IsAnswer (lines_of_book text) end answer
answered text end old new answer h (inl w) = due_answers text end answer w.out h w.due
answered text end old new answer h (inr w) =
    subst (λ (a : Status). IsAnswer (lines_of_book text) end a) (sym w.0) (write_fault_answers (lines_of_book text) end)

-- where the source exposes its bytes
pub answers : (left old new : Option (List ℕ)) (answer : Status) → WroteOfText (λ text. Outputs (lines_of_book text)) left old new answer → Answers left answer
answers left old new answer c text end is_answer h =
    let all = subst (λ (l : Option (List ℕ)). WroteOfText (λ text. Outputs (lines_of_book text)) l old new answer) is_answer c in
    answered text end old new answer h (subst (λ (t : List ℕ). Wrote (Outputs (lines_of_book t)) old new answer) all.1 all.2)

-- the usage line was written, or a front of it
pub answers_usage : (old new : Option (List ℕ)) (answer : Status) → ClosesWith old new usage_line status.Usage answer → Wrote UsageAnswer old new answer
answers_usage old new answer c = closed_wrote UsageAnswer old new usage_line status.Usage answer refl c
