-- What the command `suggest` answers to a book, a title and the number of a step, and what it
-- writes.
use Rattle.std.specs.Prelude.{◌≡◌, ◌⊎◌, ℕ, ◌<◌, ◌≤◌, List, [], ◌∷◌, ◌++◌, length, map, nat_lt, Bool}
use Rattle.std.specs.Prelude.{true, ◌&&◌, ◌||◌, ◌==◌, IsTrue, IsFalse, Contains, MatchBool, Option}
use Rattle.std.specs.Prelude.{Some, None, Ok, Err, codes, slice_get}
use Rattle.std.specs.List.{list_all}
use Rattle.std.specs.Str.{bytes_eq}
use Rattle.e_text.specs.Tokens.{with_spaces}
use Rattle.e_literal.specs.declared.object.Obj.{Obj}
use Rattle.e_literal.specs.declared.object.Scope.{Scope}
use Rattle.e_literal.specs.declared.literal.Lit.{Lit}
use Rattle.e_theorem.specs.Choice.{IsAllowedChoice, is_below}
use Rattle.e_theorem.specs.Statements.{as_view}
use Rattle.e_deriv.specs.declared.stop.Wanted.{Wanted}
use Rattle.e_deriv.specs.declared.stop.Wanted.TheVariants.{Match}
use Rattle.e_deriv.specs.declared.names.Names.{Names}
use Rattle.e_deriv.specs.Script.{size}
use Rattle.e_deriv.specs.PlacedSteps.{PlacedStep}
use Rattle.e_deriv.specs.Licensed.{IsContext}
use Rattle.e_deriv.specs.Refused.{IsWideStep}
use Rattle.e_line.specs.declared.fault.BookFault.{BookFault}
use Rattle.e_names.specs.TitledStatements.{TitledStatement, is_known, stated_by}
use Rattle.e_book.specs.TheoremViews.{TheoremView}
use Rattle.e_names.specs.declared.known.Known.{Known}
use Rattle.e_book.specs.Definitions.{item_from}
use Rattle.e_names.specs.Canonical.{name_of_object}
use Rattle.e_book.specs.Canonical.{text_of}
use Rattle.e_book.specs.Grammar.{Rest}
use Rattle.e_spell.specs.Spelling.{unlicensed_text, too_wide_text}
use Rattle.e_suggest.specs.Suggestions.{blanks, SomeArgsAreTooWide}
use Rattle.e_commands.specs.declared.status.Status.{Status}
use Rattle.e_commands.specs.declared.status.Status.TheVariants as status
use Rattle.e_commands.specs.Answers.{IsFailure}
use Rattle.e_commands.specs.Outcome.{NextIs, Begins, StopsAt, RefusedAt, TooWideAt, end_line_number}
use Rattle.e_commands.specs.Outcome.{lines_of_book, HasNamesAt}
use Rattle.e_commands.specs.LastLines.{fault_line, suggested_line, no_step_line, read_fault_line}
use Rattle.e_commands.specs.LastLines.{no_memory_line}

-- ---- the way to the step

-- the first theorems of the lines are licensed, with definitions between them and after them, and
-- no theorem has the title; then this is known, and this holds of what is left
pub record UpToTheorem (lines : Rest) (title : List ℕ)
    (Holds : Known → Rest → Type 0) : Type 0 where
  pub theorems : List TheoremView
  pub known : Known
  pub rest : Rest
  pub begins : Begins lines theorems known rest
  pub untitled : IsFalse (is_known known.theorems title)
  pub holds : Holds known rest

-- and this holds of the next theorem, with the theorems that are known before it
abbrev pub NextUpTo : Rest → List ℕ → (List TitledStatement → TheoremView → Type 0) → Type 0
NextUpTo lines title Holds =
    UpToTheorem lines title
    (λ known rest. NextIs (end_line_number lines) known rest (Holds known.theorems))

-- step n of the theorem comes before the step that is asked for: the theorem has another title; or
-- it has that step, and n is less
abbrev pub IsEarlier : List ℕ → ℕ → TheoremView → ℕ → Type 0
IsEarlier title step t n =
    MatchBool (bytes_eq t.title title) ((step ≤ size t.script) × (n < step)) (Unit {0})

-- the theorem has the title, and this is its step, before which all steps are licensed
pub record IsAsked (title : List ℕ) (step : ℕ) (known : List TitledStatement) (t : TheoremView)
    (x : PlacedStep) : Type 0 where
  pub titled : t.title ≡ title
  pub context : IsContext (stated_by known) (as_view t.statement) t.script step x

-- the theorem has the title, and fewer steps
pub record HasTooFewSteps (title : List ℕ) (step : ℕ) (t : TheoremView) : Type 0 where
  pub titled : t.title ≡ title
  pub short : size t.script < step

-- what is due before anything is suggested: the step is reached; there is no such step; an earlier
-- step is not licensed; a line has a fault up to the end of the theorem
pub data WayOutcome : Type 0 where
  AtStep : WayOutcome
  NoStep : WayOutcome
  Unlicensed : (title : List ℕ) (step : ℕ) (wanted : Wanted) (names : Names) → WayOutcome
  Faulty : (fault : BookFault) → WayOutcome

-- the way to the step in a book of these lines ends so
abbrev pub IsWayOf : Rest → List ℕ → ℕ → WayOutcome → Type 0
IsWayOf lines title step AtStep =
    NextUpTo lines title (λ known t. (x : PlacedStep) × IsAsked title step known t x)
IsWayOf lines title step NoStep =
    UpToTheorem lines title
    (λ known rest. (item_from known (end_line_number lines) None rest ≡ Ok None)
    ⊎ NextIs (end_line_number lines) known rest (HasTooFewSteps title step))
IsWayOf lines title step (Unlicensed p n wanted names) =
    NextUpTo lines title (λ known t. StopsAt known t p n wanted names × IsEarlier title step t n)
IsWayOf lines title step (Faulty fault) =
    UpToTheorem lines title
    (λ known rest. item_from known (end_line_number lines) None rest ≡ Err fault)

-- ---- what may be applied

-- a line that applies a theorem
abbrev pub apply_line : List ℕ → Names → List Obj → List ℕ
apply_line title names args = codes "apply" ++ with_spaces (title ∷ map (name_of_object names) args)

-- a theorem at this place among those that are known, with arguments
pub record Application : Type 0 where
  pub place : ℕ
  pub theorem : TitledStatement
  pub args : List Obj

abbrev pub line_of : Names → Application → List ℕ
line_of names a = apply_line a.theorem.title names a.args

-- the theorem has at most six declared objects, and each of its given literals is allowed at the
-- arguments
pub record MayApply (scope : Scope) (facts : List Lit) (known : List TitledStatement)
    (a : Application) : Type 0 where
  pub is_known : Some a.theorem ≡ slice_get known a.place
  pub is_asked_for : length a.theorem.statement.declared ≤ 6
  pub good : IsAllowedChoice (as_view a.theorem.statement) scope facts
      (blanks (as_view a.theorem.statement)) a.args

-- its theorem is earlier; or it is the same, and its arguments are below
abbrev pub precedes : Application → Application → Bool
precedes a b = nat_lt a.place b.place || (a.place == b.place && is_below a.args b.args)

-- each precedes all that come after it
abbrev pub is_in_order : List Application → Bool
is_in_order [] = true
is_in_order (a ∷ others) = list_all (precedes a) others && is_in_order others

-- all these precede it
abbrev pub is_later : List Application → Application → Bool
is_later applications a = list_all (λ b. precedes b a) applications

-- The first 1,000 of all that may be applied, in order, and whether there are others. None is
-- missing before the last of these, and where there are no others none is missing at all.
pub record AreFirstApplications (scope : Scope) (facts : List Lit) (known : List TitledStatement)
    (applications : List Application) (more : Bool) : Type 0 where
  pub good : (a : Application) → Contains applications a → MayApply scope facts known a
  pub in_order : IsTrue (is_in_order applications)
  pub few : length applications ≤ 1000
  pub none_missing : (a : Application) → MayApply scope facts known a
      → Contains applications a ⊎ (IsTrue more × IsTrue (is_later applications a))
  pub others : IsTrue more → (length applications ≡ 1000)
      × ((a : Application) × MayApply scope facts known a × IsTrue (is_later applications a))

-- ---- what is due

-- at the step the lines of the first applications are suggested, and this is written
pub record Suggests (title : List ℕ) (step n : ℕ) (more : Bool) (out : List ℕ)
    (known : List TitledStatement) (t : TheoremView) : Type 0 where
  pub placed : PlacedStep
  pub asked : IsAsked title step known t placed
  pub names : Names
  pub named : HasNamesAt known t step names
  pub applications : List Application
  pub first : AreFirstApplications placed.scope placed.facts known applications more
  pub count : n ≡ length applications
  pub bytes : out ≡ text_of (map (line_of names) applications) ++ suggested_line n more

-- at the step some choice of arguments is too wide, for a theorem with at most six declared objects
pub record WidensAtStep (title : List ℕ) (step width : ℕ) (names : Names)
    (known : List TitledStatement) (t : TheoremView) : Type 0 where
  pub placed : PlacedStep
  pub asked : IsAsked title step known t placed
  pub named : HasNamesAt known t step names
  pub theorem : TitledStatement
  pub is_one : Contains known theorem
  pub is_asked_for : length theorem.statement.declared ≤ 6
  pub too_wide : SomeArgsAreTooWide (as_view theorem.statement) placed.scope placed.facts width

-- an earlier step is too wide; or it is the step itself, where a match is wanted, and a choice
-- there is too wide
abbrev pub Widens : List ℕ → ℕ → List ℕ → ℕ → Wanted → ℕ → Names → List TitledStatement
    → TheoremView → Type 0
Widens title step p n wanted width names known t =
    (TooWideAt known t p n wanted width names × IsEarlier title step t n)
    ⊎ ((p ≡ title) × (n ≡ step) × (wanted ≡ Match) × WidensAtStep title step width names known t)

-- What is due in all with an answer to a book of these lines. Nothing is written before the last
-- lines but the lines that are suggested, and those only once all were found. A fault of the source
-- and out of memory say nothing of the book.
abbrev pub SuggestAnswer : Rest → List ℕ → ℕ → Status → List ℕ → Type 0
SuggestAnswer lines title step (status.Suggested n more) out =
    NextUpTo lines title (Suggests title step n more out)
SuggestAnswer lines title step status.NoStep out =
    IsWayOf lines title step NoStep × (out ≡ no_step_line)
SuggestAnswer lines title step (status.Fault f) out =
    IsWayOf lines title step (Faulty f) × (out ≡ fault_line f)
SuggestAnswer lines title step (status.Unlicensed p n wanted values) out =
    (names : Names) × NextUpTo lines title
    (λ known t. RefusedAt known t p n wanted values names × IsEarlier title step t n)
    × (out ≡ unlicensed_text p n wanted values names)
SuggestAnswer lines title step (status.TooWide p n wanted width) out =
    (names : Names) × NextUpTo lines title (Widens title step p n wanted width names)
    × (out ≡ too_wide_text p n wanted width names)
SuggestAnswer lines title step status.ReadFault out = out ≡ read_fault_line
SuggestAnswer lines title step status.NoMemory out = out ≡ no_memory_line
SuggestAnswer lines title step _ out = ⊥

-- ---- the answer, from how the way to the step ends

-- a step that comes before the one that is asked for is wide
pub record HasWideEarlier (title : List ℕ) (step : ℕ) (known : List TitledStatement)
    (t : TheoremView) : Type 0 where
  pub number : ℕ
  pub placed : PlacedStep
  pub earlier : IsEarlier title step t number
  pub context : IsContext (stated_by known) (as_view t.statement) t.script number placed
  pub is_wide : IsWideStep (stated_by known) placed

-- or that one is, under some choice of arguments for a theorem that may be suggested
abbrev pub HasWideOnWay : List ℕ → ℕ → List TitledStatement → TheoremView → Type 0
HasWideOnWay title step known t =
    HasWideEarlier title step known t
    ⊎ ((width : ℕ) × (names : Names) × WidensAtStep title step width names known t)

-- the answer of an outcome; or a step on the way is wide; a fault of the source or the sink, and
-- out of memory, can come in place of it
abbrev pub IsWayAnswer : Rest → List ℕ → ℕ → WayOutcome → Status → Type 0
IsWayAnswer lines title step AtStep (status.Suggested n more) = Unit {0}
IsWayAnswer lines title step NoStep status.NoStep = Unit {0}
IsWayAnswer lines title step (Unlicensed p n wanted names) (status.Unlicensed q m w values) =
    (q ≡ p) × (m ≡ n) × (w ≡ wanted)
IsWayAnswer lines title step (Faulty f) (status.Fault g) = g ≡ f
IsWayAnswer lines title step way (status.TooWide p n wanted width) =
    NextUpTo lines title (HasWideOnWay title step)
IsWayAnswer lines title step way other = IsFailure other

-- where a source exposes its bytes, whatever the way to the step ends with, the answer is that
abbrev pub AnswersSuggest : List ℕ → ℕ → Option (List ℕ) → Status → Type 0
AnswersSuggest title step left answer =
    (text : List ℕ) (way : WayOutcome) → left ≡ Some text
    → IsWayOf (lines_of_book text) title step way
    → IsWayAnswer (lines_of_book text) title step way answer
