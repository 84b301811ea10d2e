-- The canonical text of a figure is read as that figure.
use Rattle.std.proofs.Common.{◌≡◌, ℕ, ◌+◌, ◌≤◌, List, [], ◌∷◌, false, length, map, Result, Ok, refl, ap, ◌∙◌, arith}
use Rattle.e_text.specs.Lines.{LineView, lf_text, numbered_lines, AreShort}
use Rattle.e_text.specs.Tokens.{tokens_of, joined_words}
use Rattle.e_text.specs.declared.line.LineEnd.TheVariants.{Lf}
use Rattle.e_text.specs.declared.line.LineFault.{LineFault}
use Rattle.e_text.proofs.WrittenLines.{lines_of-lf_text}
use Rattle.e_line.specs.declared.fault.BookFault.{BookFault}
use Rattle.e_line.proofs.base.Bound.{bind_ok, ok_is}
use Rattle.e_book.specs.Grammar.{is_skipped}
use Rattle.e_drawing.specs.declared.plan.Plan.{Plan}
use Rattle.e_drawing.specs.declared.raw.RawLine.{RawLine}
use Rattle.e_drawing.specs.Plans.{no_plan, is_last_place, plan_after_line}
use Rattle.e_drawing.specs.Texts.{words_step, plan_at_end, plan_from}
use Rattle.e_drawing.specs.Spelled.{plan_line_words, lines_of_plan, HasCanonicalText, CanonicalFigureIsRead}
use Rattle.e_drawing.proofs.PlanLines.{takes_words}
use Rattle.e_drawing.proofs.spelled.LinesAgain.{LineDrawn, line_again, words_again, not_skipped}
use Rattle.e_drawing.proofs.spelled.ShortLines.{short_line}
use Rattle.e_drawing.proofs.spelled.ObjectsAgain.{after_lines, plan_is}
use Rattle.e_drawing.proofs.spelled.PlansAgain.{AllDrawn, plan_again, all_drawn}

abbrev line_text : RawLine → List ℕ
line_text f = joined_words (plan_line_words f)

-- ---- line by line

step_again : (p : Plan) (f : RawLine) → LineDrawn f → words_step p (tokens_of (line_text f)) ≡ plan_after_line p f
unfolding words_step
step_again p f h = ap (words_step p) (words_again f h) ∙ rw (line_again f h) refl

read_on : (last n : ℕ) (p q : Plan) (fs : List RawLine) → AllDrawn fs → after_lines p fs ≡ plan_is q → plan_from last p (numbered_lines n (map line_text fs)) ≡ plan_at_end last q
read_on last n p q [] h e = ap (plan_at_end last) (ok_is p q e)
read_on last n p q (f ∷ fs) h e =
    let a = bind_ok (plan_after_line p f) (λ x. after_lines x fs) q e in
    let l : LineView = record { number = n; bytes = line_text f; end = Lf } in
    let skipped : is_skipped (tokens_of (line_text f)) ≡ false = ap is_skipped (words_again f h.0) ∙ not_skipped f in
    takes_words p a.0 l skipped (step_again p f h.0 ∙ a.1) last (numbered_lines (n + 1) (map line_text fs)) ∙ read_on last (n + 1) a.0 q fs h.1 a.2

short_lines : (fs : List RawLine) → AllDrawn fs → AreShort 1600 (map line_text fs)
short_lines [] h = tt
short_lines (f ∷ fs) h = (short_line f h.0, short_lines fs h.1)

-- ---- the whole text

ended : (last : ℕ) (p : Plan) → HasCanonicalText p → plan_at_end last p ≡ Ok p
ended last p h = rw (ap is_last_place h.done) refl

abbrev read_lines : List (Result LineView LineFault) → Result Plan BookFault
read_lines lines = plan_from (1 + length lines) no_plan lines

pub canonical_figure_is_read : CanonicalFigureIsRead
canonical_figure_is_read p h =
    let fs = lines_of_plan p in
    let few : length (lf_text (map line_text fs)) ≤ 4194304 = h.few_bytes in
    let lines = lines_of-lf_text (record { longest = 1600; most = 4194304 }) (record { line = 1; before = 0 }) (map line_text fs) (short_lines fs (all_drawn p h)) (omega (arith, few)) in
    ap read_lines lines ∙ read_on (1 + length (numbered_lines 1 (map line_text fs))) 1 no_plan p fs (all_drawn p h) (plan_again p h) ∙ ended (1 + length (numbered_lines 1 (map line_text fs))) p h
