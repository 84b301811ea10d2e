-- The outcome of a book: its theorems and definitions are taken one after another, up to the first
-- fault or the first unlicensed step.
use Rattle.std.specs.Prelude.{◌≡◌, ℕ, ◌+◌, ◌-◌, slice_get, List, [], ◌∷◌, ◌++◌, length, Option}
use Rattle.std.specs.Prelude.{Some, None, Ok, Err}
use Rattle.e_text.specs.Lines.{lines_of}
use Rattle.e_theorem.specs.Statements.{as_view}
use Rattle.e_deriv.specs.declared.stop.Wanted.{Wanted}
use Rattle.e_deriv.specs.declared.names.Names.{Names}
use Rattle.e_literal.specs.declared.object.Term.{Term}
use Rattle.e_deriv.specs.Script.{Script}
use Rattle.e_deriv.specs.PlacedSteps.{PlacedStep, proof_steps}
use Rattle.e_deriv.specs.Naming.{names_of_steps, declared_names}
use Rattle.e_deriv.specs.Licensed.{AllLicensed, IsContext, IsFirstUnlicensed}
use Rattle.e_deriv.specs.Refused.{IsRefused, IsWideStep, IsTooWideAt}
use Rattle.e_line.specs.declared.fault.BookFault.{BookFault}
use Rattle.e_names.specs.TitledStatements.{TitledStatement, stated_by}
use Rattle.e_book.specs.TheoremViews.{TheoremView}
use Rattle.e_names.specs.declared.known.Known.{Known}
use Rattle.e_names.specs.Taken.{nothing_known}
use Rattle.e_names.specs.Titled.{Titled}
use Rattle.e_book.specs.Definitions.{OfTheorem, OfNotion, item_from}
use Rattle.e_book.specs.Grammar.{Rest}
use Rattle.e_judgement.specs.Judged.{with_theorem}

-- with this known, each step of the theorem's script is licensed, with its blanks filled
pub record IsLicensed (known : List TitledStatement) (t : TheoremView) : Type 0 where
  pub filled : Script
  pub licensed : AllLicensed (stated_by known)
      (proof_steps (stated_by known) (as_view t.statement) t.script filled)

-- after a theorem, and after a definition, this is known
abbrev pub and_theorem : Known → TheoremView → Known
and_theorem known t = record known { theorems = with_theorem known.theorems t }

abbrev pub and_notion : Known → Titled → Known
and_notion known n = record known { notions = known.notions ++ n ∷ [] }

-- these definitions are read one after another; then this is known, and these lines are left
abbrev pub Defines : ℕ → Known → Rest → List Titled → Known → Rest → Type 0
Defines last known lines [] now rest = (known ≡ now) × (lines ≡ rest)
Defines last known lines (n ∷ ns) now rest =
    (after : Rest) × (item_from known last None lines ≡ Ok (Some (OfNotion n, after)))
    × Defines last (and_notion known n) after ns now rest

-- and some definitions are so
pub record AreDefined (last : ℕ) (known : Known) (lines : Rest) (now : Known)
    (rest : Rest) : Type 0 where
  pub notions : List Titled
  pub defines : Defines last known lines notions now rest

-- these theorems are read one after another, and definitions between them, and each theorem is
-- licensed by those before it; then this is known, and these lines are left
abbrev pub Takes : ℕ → Known → Rest → List TheoremView → Known → Rest → Type 0
Takes last known lines [] now rest = AreDefined last known lines now rest
Takes last known lines (t ∷ ts) now rest =
    (here : Known) × (before : Rest) × AreDefined last known lines here before
    × (after : Rest) × (item_from here last None before ≡ Ok (Some (OfTheorem t, after)))
    × IsLicensed here.theorems t
    × Takes last (and_theorem here t) after ts now rest

-- how a book ends: all its theorems are taken; a step is not licensed; a line has a fault
pub data BookOutcome : Type 0 where
  Accepted : (theorems : ℕ) → BookOutcome
  Unlicensed : (title : List ℕ) (step : ℕ) (wanted : Wanted) (names : Names) → BookOutcome
  Faulty : (fault : BookFault) → BookOutcome

-- these are the names of the objects in scope before the step
abbrev pub HasNamesAt : List TitledStatement → TheoremView → ℕ → Names → Type 0
HasNamesAt known t step names =
    Some names ≡ slice_get (names_of_steps (stated_by known)
    (declared_names (as_view t.statement) t.names) t.script) (step - 1)

-- with this known, the next theorem has this title, its step of this number is the first unlicensed
-- one and lacks this, and these are the names of the objects in scope before it
pub record StopsAt (known : List TitledStatement) (t : TheoremView) (title : List ℕ) (step : ℕ)
    (wanted : Wanted) (names : Names) : Type 0 where
  pub titled : t.title ≡ title
  pub first : IsFirstUnlicensed (stated_by known) (as_view t.statement) t.script step wanted
  pub named : HasNamesAt known t step names

-- with this known, the next theorem of these lines is one of which this holds
abbrev pub NextIs : ℕ → Known → Rest → (TheoremView → Type 0) → Type 0
NextIs last known lines P =
    (t : TheoremView) × (after : Rest)
    × (item_from known last None lines ≡ Ok (Some (OfTheorem t, after))) × P t

-- with this known, these lines end so
abbrev pub OutcomeAt : ℕ → Known → Rest → BookOutcome → Type 0
OutcomeAt last known lines (Accepted n) =
    (item_from known last None lines ≡ Ok None) × (length known.theorems ≡ n)
OutcomeAt last known lines (Unlicensed title step wanted names) =
    NextIs last known lines (λ t. StopsAt known.theorems t title step wanted names)
OutcomeAt last known lines (Faulty fault) = item_from known last None lines ≡ Err fault

-- the number after the last line
abbrev pub end_line_number : Rest → ℕ
end_line_number lines = 1 + length lines

-- these are the first theorems of the lines, each licensed, with definitions between them; then
-- this is known, and these lines are left
abbrev pub Begins : Rest → List TheoremView → Known → Rest → Type 0
Begins lines theorems known rest =
    Takes (end_line_number lines) nothing_known lines theorems known rest

-- the lines are these theorems, each licensed, and then end so
pub record IsOutcome (lines : Rest) (theorems : List TheoremView) (end : BookOutcome) : Type 0 where
  pub known : Known
  pub rest : Rest
  pub begins : Begins lines theorems known rest
  pub ends : OutcomeAt (end_line_number lines) known rest end

-- the lines of a book: a line has at most 1,600 bytes, and a book 4,194,304
abbrev pub lines_of_book : List ℕ → Rest
lines_of_book text =
    lines_of (record { longest = 1600; most = 4194304 }) (record { line = 1; before = 0 }) text

-- the outcome of a book is this
pub record IsOutcomeOf (text : List ℕ) (end : BookOutcome) : Type 0 where
  pub theorems : List TheoremView
  pub outcome : IsOutcome (lines_of_book text) theorems end

-- ---- how the check of a theorem breaks off

-- with this known, the theorem has this title, its step of this number is the first unlicensed one
-- and lacks this, these values show it, and these are the names of the objects in scope before it
pub record RefusedAt (known : List TitledStatement) (t : TheoremView) (title : List ℕ) (step : ℕ)
    (wanted : Wanted) (values : Option (List (Term × ℕ))) (names : Names) : Type 0 where
  pub titled : t.title ≡ title
  pub refused : IsRefused (stated_by known) (as_view t.statement) t.script step wanted values
  pub named : HasNamesAt known t step names

-- with this known, each step before is licensed, and this one is too wide at what is wanted there
pub record TooWideAt (known : List TitledStatement) (t : TheoremView) (title : List ℕ) (step : ℕ)
    (wanted : Wanted) (width : ℕ) (names : Names) : Type 0 where
  pub titled : t.title ≡ title
  pub too_wide : IsTooWideAt (stated_by known) (as_view t.statement) t.script step wanted width
  pub named : HasNamesAt known t step names

-- with this known, a step of the theorem is wide, and each step before it is licensed
pub record HasWideStep (known : List TitledStatement) (t : TheoremView) : Type 0 where
  pub step : ℕ
  pub placed : PlacedStep
  pub context : IsContext (stated_by known) (as_view t.statement) t.script step placed
  pub is_wide : IsWideStep (stated_by known) placed

-- in a theorem of these lines whose earlier ones are licensed, a step is wide, and each step before
-- it is licensed
pub record HasWide (lines : Rest) : Type 0 where
  pub theorems : List TheoremView
  pub known : Known
  pub rest : Rest
  pub begins : Begins lines theorems known rest
  pub wide : NextIs (end_line_number lines) known rest (HasWideStep known.theorems)
