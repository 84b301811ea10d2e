-- A figure text, line by line.
use Rattle.std.specs.Prelude.{◌≡◌, ℕ, ◌+◌, List, [], ◌∷◌, length, Result, Ok, Err, if◌then◌else◌}
use Rattle.e_text.specs.Tokens.{tokens_of}
use Rattle.e_text.specs.Lines.{LineView, lines_of}
use Rattle.e_text.specs.declared.line.LineFault.{LineFault}
use Rattle.e_line.specs.declared.fault.FaultKind.{FaultKind}
use Rattle.e_line.specs.declared.fault.BookFault.{BookFault}
use Rattle.e_line.specs.declared.fault.BookFault.TheVariants as faults
use Rattle.e_line.specs.Faults.{book_fault_of}
use Rattle.e_line.specs.Reading.{◌>>=◌}
use Rattle.e_book.specs.Grammar.{is_skipped, put_at, BookFails}
use Rattle.e_drawing.specs.declared.plan.Plan.{Plan}
use Rattle.e_drawing.specs.Lines.{plan_line_of}
use Rattle.e_drawing.specs.Plans.{no_plan, plan_after_line, is_done_plan}

-- what the words of a line make of a plan
unfoldable pub words_step : Plan → List (List ℕ) → Result Plan FaultKind
words_step p words = plan_line_of words >>= λ l. plan_after_line p l

-- the lines end: after the last line of the figure, or before it
abbrev pub plan_at_end : ℕ → Plan → Result Plan BookFault
plan_at_end last p = if is_done_plan p then Ok p else Err (faults.Unended last)

-- the figure of these lines, or the first fault; last is the number after the last line. After the
-- last line of the figure only lines that say nothing may come.
abbrev pub plan_from : ℕ → Plan → List (Result LineView LineFault) → Result Plan BookFault
plan_from last p [] = plan_at_end last p
plan_from last p (Err f ∷ lines) = Err (book_fault_of f)
plan_from last p (Ok line ∷ lines) =
    if is_skipped (tokens_of line.bytes) then plan_from last p lines else
    (put_at line.number (words_step p (tokens_of line.bytes)) >>= λ q. plan_from last q lines)

-- the lines of a text, as those of a book
abbrev pub lines_of_figure_text : List ℕ → List (Result LineView LineFault)
lines_of_figure_text text =
    lines_of (record { longest = 1600; most = 4194304 }) (record { line = 1; before = 0 }) text

-- the figure of a text, or its first fault
abbrev pub plan_of : List ℕ → Result Plan BookFault
plan_of text =
    plan_from (1 + length (lines_of_figure_text text)) no_plan (lines_of_figure_text text)

-- what was answered is what the text says, unless memory ran out
abbrev pub PlanIs : Result (Unit {0}) BookFault → Plan → Result Plan BookFault → Type 0
PlanIs (Ok u) new read = read ≡ Ok new
PlanIs (Err f) new read = BookFails f read

-- what a line makes of a plan: to read on through the line is to read on from there, or it is the
-- first with a fault
abbrev pub TakesPlanLine : Plan → LineView → Result (Unit {0}) BookFault → Plan → Type 0
TakesPlanLine old l (Ok u) new =
    (last : ℕ) (more : List (Result LineView LineFault))
    → plan_from last old (Ok l ∷ more) ≡ plan_from last new more
TakesPlanLine old l (Err f) new =
    (last : ℕ) (more : List (Result LineView LineFault))
    → BookFails f (plan_from last old (Ok l ∷ more))
