-- A book has one outcome, and what is answered at a refusal and at a step that is too wide is its
-- own; and so has the way to a step, and what is suggested there.
use Rattle.std.specs.Prelude.{◌≡◌, ℕ, List, Bool, Option}
use Rattle.e_names.specs.declared.known.Known.{Known}
use Rattle.e_book.specs.TheoremViews.{TheoremView}
use Rattle.e_book.specs.Grammar.{Rest}
use Rattle.e_literal.specs.declared.object.Term.{Term}
use Rattle.e_deriv.specs.declared.stop.Wanted.{Wanted}
use Rattle.e_deriv.specs.declared.names.Names.{Names}
use Rattle.e_commands.specs.Outcome.{BookOutcome, Unlicensed, Begins, IsOutcome, IsOutcomeOf}
use Rattle.e_commands.specs.Outcome.{HasWide, lines_of_book}
use Rattle.e_commands.specs.Answers.{Refuses, Widens}
use Rattle.e_commands.specs.declared.status.Status.TheVariants as status
use Rattle.e_commands.specs.SuggesterAnswers.{WayOutcome, IsWayOf, SuggestAnswer}

-- where the next theorem is refused, the book's outcome is that stop
abbrev pub RefusalIsOutcome : Type 0
RefusalIsOutcome =
    (lines : Rest) (theorems : List TheoremView) (known : Known) (rest : Rest) (title : List ℕ)
    (step : ℕ) (wanted : Wanted) (values : Option (List (Term × ℕ))) (names : Names) →
    Begins lines theorems known rest → Refuses lines title step wanted values names known rest
    → IsOutcome lines theorems (Unlicensed title step wanted names)

-- where `check` may answer that a step is too wide, a step of these lines that is reached is wide
abbrev pub TooWideIsWide : Type 0
TooWideIsWide =
    (lines : Rest) (theorems : List TheoremView) (known : Known) (rest : Rest) (title : List ℕ)
    (step : ℕ) (wanted : Wanted) (width : ℕ) (names : Names) →
    Begins lines theorems known rest
    → Widens lines title step wanted width names known rest → HasWide lines

-- no book is accepted and stopped, stopped at two steps, or has two first faults
abbrev pub BooksHaveOneOutcome : Type 0
BooksHaveOneOutcome =
    (text : List ℕ) (a b : BookOutcome) → IsOutcomeOf text a → IsOutcomeOf text b → a ≡ b

-- no step is both reached and not there, or both reached and after a stop or a fault
abbrev pub WaysAreOne : Type 0
WaysAreOne =
    (text title : List ℕ) (step : ℕ) (a b : WayOutcome) → IsWayOf (lines_of_book text) title step a
    → IsWayOf (lines_of_book text) title step b → a ≡ b

-- no step has two lists of suggestions
abbrev pub SuggestionsAreOne : Type 0
SuggestionsAreOne =
    (text title : List ℕ) (step n m : ℕ) (more others : Bool) (out other : List ℕ)
    → SuggestAnswer (lines_of_book text) title step (status.Suggested n more) out
    → SuggestAnswer (lines_of_book text) title step (status.Suggested m others) other
    → (n ≡ m) × (more ≡ others) × (out ≡ other)
