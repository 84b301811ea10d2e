-- What is written of a plan is what is written of its text.
use Rattle.std.proofs.Common.{◌≡◌, ℕ, ◌+◌, ◌<◌, ◌^◌, List, length, take, Result, Ok, Err, ap, sym, subst, ◌∙◌, arith}
use Rattle.e_text.specs.Lines.{LineView}
use Rattle.e_text.specs.declared.line.LineFault.{LineFault}
use Rattle.e_text.proofs.LinesOfTexts.{length-lines_of, lines_of-take}
use Rattle.e_line.specs.declared.fault.BookFault.{BookFault}
use Rattle.e_line.specs.Reading.{◌>>=◌}
use Rattle.e_book.specs.Grammar.{BookFails}
use Rattle.e_drawing.specs.declared.plan.Plan.{Plan}
use Rattle.e_drawing.specs.declared.drawing.Drawing.{Drawing}
use Rattle.e_drawing.specs.Plans.{no_plan}
use Rattle.e_drawing.specs.Texts.{lines_of_figure_text, plan_from, plan_of}
use Rattle.e_drawing.specs.Answers.{answer_text, drawn_of, Draws}
use Rattle.e_drawing.proofs.PlanLines.{fails_on}

pub few_lines : (text : List ℕ) → length text < 2 ^ 31 → 1 + length (lines_of_figure_text text) < 2 ^ 32
few_lines text l = omega (arith, length-lines_of (record { longest = 1600; most = 4194304 }) (record { line = 1; before = 0 }) text, l)

pub drawn_faulty : (text : List ℕ) (f : BookFault) → BookFails f (plan_of text) → Draws text (Err f)
drawn_faulty text f h = fails_on f (plan_of text) (λ p. Ok (length p.shown, answer_text p)) h

pub drawn_whole : (text : List ℕ) (p : Plan) (d : Drawing) → plan_of text ≡ Ok p → d.shown ≡ length p.shown → d.bytes.items ≡ answer_text p → Draws text (Ok d)
drawn_whole text p d e s b =
    let whole : drawn_of text ≡ Ok (length p.shown, answer_text p) = ap (λ (r : Result Plan BookFault). r >>= (λ q. Ok (length q.shown, answer_text q))) e in
    whole ∙ (ap (λ n. Ok (n, answer_text p)) (sym s) ∙ ap (λ bs. Ok (d.shown, bs)) (sym b))

-- ---- one byte more than may count is enough

-- what is written of these lines
abbrev drawn_by : List (Result LineView LineFault) → Result (ℕ × List ℕ) BookFault
drawn_by lines = plan_from (1 + length lines) no_plan lines >>= λ p. Ok (length p.shown, answer_text p)

pub drawn_front : (text : List ℕ) → drawn_of (take 4194305 text) ≡ drawn_of text
drawn_front text = ap drawn_by (lines_of-take (record { longest = 1600; most = 4194304 }) (record { line = 1; before = 0 }) text (omega arith))

pub draws_front : (text front : List ℕ) (r : Result Drawing BookFault) → front ≡ take 4194305 text → Draws front r → Draws text r
draws_front text front (Ok d) e h = sym (drawn_front text) ∙ ap drawn_of (sym e) ∙ h
draws_front text front (Err f) e h = subst (λ (q : Result (ℕ × List ℕ) BookFault). BookFails f q) (ap drawn_of e ∙ drawn_front text) h
