-- A figure text line by line: what one line makes of a plan, and what all lines make of it.
use Rattle.std.proofs.Common.{◌≡◌, ℕ, Bool, true, false, cond, List, [], ◌∷◌, Result, Ok, Err, sym, ap, subst, ◌∙◌}
use Rattle.e_text.specs.Tokens.{tokens_of}
use Rattle.e_text.specs.Lines.{LineView, HaveNoFault}
use Rattle.e_text.specs.declared.line.LineFault.{LineFault}
use Rattle.e_line.specs.declared.fault.FaultKind.{FaultKind}
use Rattle.e_line.specs.declared.fault.FaultKind.TheVariants as kinds
use Rattle.e_line.specs.declared.fault.LineError.{LineError}
use Rattle.e_line.specs.declared.fault.LineError.TheVariants as line_errors
use Rattle.e_line.specs.declared.fault.BookFault.{BookFault}
use Rattle.e_line.specs.declared.fault.BookFault.TheVariants as faults
use Rattle.e_line.specs.Faults.{error_at, book_fault_of}
use Rattle.e_line.specs.Reading.{◌>>=◌, Fails}
use Rattle.e_book.specs.Grammar.{is_skipped, put_at, BookFails}
use Rattle.e_line.proofs.base.Bound.{bind_ok}
use Rattle.e_drawing.specs.declared.plan.Plan.{Plan}
use Rattle.e_drawing.specs.Texts.{words_step, plan_at_end, plan_from, PlanIs, TakesPlanLine}

abbrev Rest : Type 0
Rest = List (Result LineView LineFault)

-- ---- faults

-- a fault that is the answer
pub book_fails : {A : Type 0} (f : BookFault) (q : Result A BookFault) → q ≡ Err f → BookFails f q
book_fails faults.NoMemory q h = tt
book_fails (faults.Malformed line) q h = h
book_fails (faults.UnknownName line) q h = h
book_fails (faults.NameTaken line) q h = h
book_fails (faults.WrongSort line) q h = h
book_fails (faults.Limit line what) q h = h
book_fails (faults.Unended line) q h = h

-- an error, at its line
fails_at : {A : Type 0} (n : ℕ) (error : LineError) (r : Result A FaultKind) → Fails error r → BookFails (error_at n error) (put_at n r)
fails_at n line_errors.NoMemory r h = tt
fails_at {A} n (line_errors.Fault kinds.Malformed) r h = ap (λ (x : Result A FaultKind). put_at n x) h
fails_at {A} n (line_errors.Fault kinds.UnknownName) r h = ap (λ (x : Result A FaultKind). put_at n x) h
fails_at {A} n (line_errors.Fault kinds.NameTaken) r h = ap (λ (x : Result A FaultKind). put_at n x) h
fails_at {A} n (line_errors.Fault kinds.WrongSort) r h = ap (λ (x : Result A FaultKind). put_at n x) h
fails_at {A} n (line_errors.Fault (kinds.Limit what)) r h = ap (λ (x : Result A FaultKind). put_at n x) h
fails_at {A} n (line_errors.Fault kinds.Unended) r h = ap (λ (x : Result A FaultKind). put_at n x) h

-- what fails is not gone on with
pub fails_on : {A B : Type 0} (f : BookFault) (q : Result A BookFault) (then : A → Result B BookFault) → BookFails f q → BookFails f (q >>= then)
fails_on faults.NoMemory q then h = tt
fails_on {A} (faults.Malformed line) q then h = ap (λ (r : Result A BookFault). r >>= then) h
fails_on {A} (faults.UnknownName line) q then h = ap (λ (r : Result A BookFault). r >>= then) h
fails_on {A} (faults.NameTaken line) q then h = ap (λ (r : Result A BookFault). r >>= then) h
fails_on {A} (faults.WrongSort line) q then h = ap (λ (r : Result A BookFault). r >>= then) h
fails_on {A} (faults.Limit line what) q then h = ap (λ (r : Result A BookFault). r >>= then) h
fails_on {A} (faults.Unended line) q then h = ap (λ (r : Result A BookFault). r >>= then) h

-- ---- one line

pub takes_skipped : (old : Plan) (l : LineView) → is_skipped (tokens_of l.bytes) ≡ true → TakesPlanLine old l (Ok tt) old
takes_skipped old l h = λ last more. ap (λ b. cond b (plan_from last old more) (put_at l.number (words_step old (tokens_of l.bytes)) >>= (λ q. plan_from last q more))) h

pub worded : (old : Plan) (l : LineView) (last : ℕ) (more : Rest) → is_skipped (tokens_of l.bytes) ≡ false
    → plan_from last old (Ok l ∷ more) ≡ (put_at l.number (words_step old (tokens_of l.bytes)) >>= (λ q. plan_from last q more))
worded old l last more h = ap (λ b. cond b (plan_from last old more) (put_at l.number (words_step old (tokens_of l.bytes)) >>= (λ q. plan_from last q more))) h

pub takes_words : (old new : Plan) (l : LineView) → is_skipped (tokens_of l.bytes) ≡ false → words_step old (tokens_of l.bytes) ≡ Ok new → TakesPlanLine old l (Ok tt) new
takes_words old new l h e = λ last more. worded old l last more h ∙ ap (λ (r : Result Plan FaultKind). put_at l.number r >>= (λ q. plan_from last q more)) e

pub takes_error : (old new : Plan) (l : LineView) (t : LineError) → is_skipped (tokens_of l.bytes) ≡ false → Fails t (words_step old (tokens_of l.bytes))
    → TakesPlanLine old l (Err (error_at l.number t)) new
takes_error old new l t h e = λ last more.
    subst (BookFails (error_at l.number t)) (sym (worded old l last more h))
    (fails_on (error_at l.number t) (put_at l.number (words_step old (tokens_of l.bytes))) (λ q. plan_from last q more) (fails_at l.number t (words_step old (tokens_of l.bytes)) e))

pub takes_nothing : (old new : Plan) (l : LineView) (r : Result (Unit {0}) BookFault) → r ≡ Err faults.NoMemory → TakesPlanLine old l r new
takes_nothing old new l r e = subst (λ (x : Result (Unit {0}) BookFault). TakesPlanLine old l x new) (sym e) (λ last more. tt)

-- ---- all lines

-- to read on from here is to read on from there
abbrev pub Alike : ℕ → Plan → Rest → Plan → Rest → Type 0
Alike last old lines new left = plan_from last new left ≡ plan_from last old lines

pub alike_more : (last : ℕ) (old now new : Plan) (lines left after : Rest) (l : LineView) → left ≡ Ok l ∷ after → Alike last old lines now left → TakesPlanLine now l (Ok tt) new
    → Alike last old lines new after
alike_more last old now new lines left after l e h t = sym (t last after) ∙ (ap (plan_from last now) (sym e) ∙ h)

pub fails_in_line : (last : ℕ) (old now : Plan) (lines left after : Rest) (f : LineFault) → left ≡ Err f ∷ after → Alike last old lines now left
    → BookFails (book_fault_of f) (plan_from last old lines)
fails_in_line last old now lines left after f e h = book_fails (book_fault_of f) (plan_from last old lines) (sym h ∙ ap (plan_from last now) e)

pub fails_at_line : (last : ℕ) (old now new : Plan) (lines left after : Rest) (l : LineView) (f : BookFault) → left ≡ Ok l ∷ after → Alike last old lines now left
    → TakesPlanLine now l (Err f) new → BookFails f (plan_from last old lines)
fails_at_line last old now new lines left after l f e h t = subst (BookFails f) (ap (plan_from last now) (sym e) ∙ h) (t last after)

pub all_taken : (last line : ℕ) (old now : Plan) (lines left : Rest) (r : Result (Unit {0}) BookFault) → left ≡ [] → line ≡ last → Alike last old lines now left
    → PlanIs r now (plan_at_end line now) → PlanIs r now (plan_from last old lines)
all_taken last line old now lines left r e s h p =
    subst (PlanIs r now) (ap (λ n. plan_at_end n now) s ∙ (ap (plan_from last now) (sym e) ∙ h)) p

-- lines without a fault that no line may have
pub good_plan : (last : ℕ) (p q : Plan) (lines : Rest) → plan_from last p lines ≡ Ok q → HaveNoFault lines
good_plan last p q [] e = tt
good_plan last p q (Err f ∷ lines) e = absurd (cc)
good_plan last p q (Ok l ∷ lines) e = by (is_skipped (tokens_of l.bytes)) (λ x h. good_plan last x q lines h) e
  where
    by : (b : Bool) → ((x : Plan) → plan_from last x lines ≡ Ok q → HaveNoFault lines)
        → cond b (plan_from last p lines) (put_at l.number (words_step p (tokens_of l.bytes)) >>= (λ x. plan_from last x lines)) ≡ Ok q → HaveNoFault lines
    by true ih e = ih p e
    by false ih e = let a = bind_ok (put_at l.number (words_step p (tokens_of l.bytes))) (λ x. plan_from last x lines) q e in ih a.0 a.2
