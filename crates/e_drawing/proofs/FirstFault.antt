-- The fault of a figure text is the first, and what follows it is nothing to it.
use Rattle.std.proofs.Common.{◌≡◌, ℕ, Bool, true, false, cond, inl, inr, List, [], ◌∷◌, ◌++◌, Result, Ok, Err, refl, sym, ap, ◌∙◌}
use Rattle.std.specs.Prelude.{◌⊎◌}
use Rattle.e_text.specs.Tokens.{tokens_of}
use Rattle.e_text.specs.Lines.{LineView}
use Rattle.e_text.specs.declared.line.LineFault.{LineFault}
use Rattle.e_line.specs.declared.fault.FaultKind.{FaultKind}
use Rattle.e_line.specs.declared.fault.BookFault.{BookFault}
use Rattle.e_line.specs.declared.fault.BookFault.TheVariants as faults
use Rattle.e_line.specs.Faults.{at_line, book_fault_of}
use Rattle.e_line.specs.Reading.{◌>>=◌}
use Rattle.e_book.specs.Grammar.{is_skipped, put_at}
use Rattle.e_drawing.specs.declared.plan.Plan.{Plan}
use Rattle.e_drawing.specs.Plans.{no_plan, is_done_plan}
use Rattle.e_drawing.specs.Texts.{words_step, plan_from, TakesPlanLine}
use Rattle.e_drawing.specs.FirstFault.{FaultsAt, FigureFaultIsFirst}
use Rattle.e_drawing.proofs.PlanLines.{worded, takes_skipped, takes_words}

abbrev Rest : Type 0
Rest = List (Result LineView LineFault)

abbrev figure_is : Plan → Result Plan BookFault
figure_is p = Ok p

abbrev wrong_is : BookFault → Result Plan BookFault
wrong_is f = Err f

fault_is : (f g : BookFault) → wrong_is f ≡ wrong_is g → f ≡ g
fault_is f g e = cc

not_figure : (p : Plan) (f : BookFault) → figure_is p ≡ wrong_is f → ⊥
not_figure p f e = absurd cc

-- from what has come of a figure on
abbrev Taken : Plan → Rest → Type 0
Taken p lines = (last : ℕ) → ((q : Plan) × (plan_from last p lines ≡ figure_is q)) ⊎ (plan_from last p lines ≡ wrong_is (faults.Unended last))

abbrev TooSoon : Plan → Rest → BookFault → ℕ → Type 0
TooSoon p lines f last = ((n : ℕ) → plan_from n p lines ≡ wrong_is (faults.Unended n)) × (f ≡ faults.Unended last)

record From (p : Plan) (lines : Rest) (f : BookFault) : Type 0 where
  front : Rest
  line : Result LineView LineFault
  rest : Rest
  all : lines ≡ front ++ line ∷ rest
  before : Taken p front
  there : (last : ℕ) (other : Rest) → plan_from last p (front ++ line ∷ other) ≡ wrong_is f

taken_none : (p : Plan) → Taken p []
taken_none p last = by (is_done_plan p)
  where
    by : (b : Bool) → ((q : Plan) × (cond b (figure_is p) (wrong_is (faults.Unended last)) ≡ figure_is q)) ⊎ (cond b (figure_is p) (wrong_is (faults.Unended last)) ≡ wrong_is (faults.Unended last))
    by true = inl (p, refl)
    by false = inr refl

-- the first line has the fault
at_once : (p : Plan) (line : Result LineView LineFault) (rest : Rest) (f : BookFault) → ((last : ℕ) (other : Rest) → plan_from last p (line ∷ other) ≡ wrong_is f) → From p (line ∷ rest) f
at_once p line rest f h = record { front = []; line = line; rest = rest; all = refl; before = taken_none p; there = h }

-- a line that is taken comes before
longer : (p q : Plan) (l : LineView) (lines : Rest) (f : BookFault) (last : ℕ) → TakesPlanLine p l (Ok tt) q → From q lines f ⊎ TooSoon q lines f last → From p (Ok l ∷ lines) f ⊎ TooSoon p (Ok l ∷ lines) f last
longer p q l lines f last on (inl b) = inl (record {
  front = Ok l ∷ b.front;
  line = b.line;
  rest = b.rest;
  all = ap (λ (xs : Rest). Ok l ∷ xs) b.all;
  before = λ n. one_more n (b.before n);
  there = λ n other. on n (b.front ++ b.line ∷ other) ∙ b.there n other;
})
  where
    one_more : (n : ℕ) → ((x : Plan) × (plan_from n q b.front ≡ figure_is x)) ⊎ (plan_from n q b.front ≡ wrong_is (faults.Unended n))
        → ((x : Plan) × (plan_from n p (Ok l ∷ b.front) ≡ figure_is x)) ⊎ (plan_from n p (Ok l ∷ b.front) ≡ wrong_is (faults.Unended n))
    one_more n (inl x) = inl (x.0, on n b.front ∙ x.1)
    one_more n (inr e) = inr (on n b.front ∙ e)
longer p q l lines f last on (inr s) = inr ((λ n. on n lines ∙ s.0 n), s.1)

-- a line by its words
by_line : (p : Plan) (l : LineView) (lines : Rest) (f : BookFault) (last : ℕ) → ((q : Plan) → plan_from last q lines ≡ wrong_is f → From q lines f ⊎ TooSoon q lines f last) → plan_from last p (Ok l ∷ lines) ≡ wrong_is f
    → From p (Ok l ∷ lines) f ⊎ TooSoon p (Ok l ∷ lines) f last
by_line p l lines f last more e = by_skip (is_skipped (tokens_of l.bytes)) refl
  where
    wrong : is_skipped (tokens_of l.bytes) ≡ false → (k : FaultKind) → words_step p (tokens_of l.bytes) ≡ Err k → (n : ℕ) (other : Rest) → plan_from n p (Ok l ∷ other) ≡ wrong_is (at_line l.number k)
    wrong s k w n other = worded p l n other s ∙ ap (λ (r : Result Plan FaultKind). put_at l.number r >>= (λ q. plan_from n q other)) w

    by_words : is_skipped (tokens_of l.bytes) ≡ false → (r : Result Plan FaultKind) → words_step p (tokens_of l.bytes) ≡ r → From p (Ok l ∷ lines) f ⊎ TooSoon p (Ok l ∷ lines) f last
    by_words s (Ok q) w = let on = takes_words p q l s w in longer p q l lines f last on (more q (sym (on last lines) ∙ e))
    by_words s (Err k) w =
        let is : at_line l.number k ≡ f = fault_is (at_line l.number k) f (sym (wrong s k w last lines) ∙ e) in
        inl (at_once p (Ok l) lines f (λ n other. wrong s k w n other ∙ ap wrong_is is))

    by_skip : (b : Bool) → is_skipped (tokens_of l.bytes) ≡ b → From p (Ok l ∷ lines) f ⊎ TooSoon p (Ok l ∷ lines) f last
    by_skip true s = let on = takes_skipped p l s in longer p p l lines f last on (more p (sym (on last lines) ∙ e))
    by_skip false s = by_words s (words_step p (tokens_of l.bytes)) refl

first_from : (last : ℕ) (p : Plan) (lines : Rest) (f : BookFault) → plan_from last p lines ≡ wrong_is f → From p lines f ⊎ TooSoon p lines f last
first_from last p [] f e = by (is_done_plan p) refl e
  where
    by : (b : Bool) → is_done_plan p ≡ b → cond b (figure_is p) (wrong_is (faults.Unended last)) ≡ wrong_is f → From p [] f ⊎ TooSoon p [] f last
    by true h e = absurd (not_figure p f e)
    by false h e = inr ((λ n. ap (λ (b : Bool). cond b (figure_is p) (wrong_is (faults.Unended n))) h), sym (fault_is (faults.Unended last) f e))
first_from last p (Err x ∷ lines) f e = inl (at_once p (Err x) lines f (λ n other. ap wrong_is (fault_is (book_fault_of x) f e)))
first_from last p (Ok l ∷ lines) f e = by_line p l lines f last (λ q h. first_from last q lines f h) e

pub figure_fault_is_first : FigureFaultIsFirst
figure_fault_is_first last lines f e = to_law (first_from last no_plan lines f e)
  where
    to_law : From no_plan lines f ⊎ TooSoon no_plan lines f last → FaultsAt lines f ⊎ TooSoon no_plan lines f last
    to_law (inl b) = inl (record { front = b.front; line = b.line; rest = b.rest; all = b.all; before = b.before; there = b.there })
    to_law (inr s) = inr s
