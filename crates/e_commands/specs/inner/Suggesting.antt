-- What is suggested theorem by theorem, and what an answer says of a theorem that is next.
use Rattle.std.specs.Prelude.{◌≡◌, ◌⊎◌, ℕ, ◌<◌, ◌≤◌, List, [], ◌++◌, length, map, Bool, true, false}
use Rattle.std.specs.Prelude.{IsTrue, IsFalse, Contains, Option, None, Some, Ok}
use Rattle.std.specs.List.{list_all}
use Rattle.e_literal.specs.declared.object.Obj.{Obj}
use Rattle.e_literal.specs.declared.object.Scope.{Scope}
use Rattle.e_literal.specs.declared.literal.Lit.{Lit}
use Rattle.e_literal.specs.Use.{StatementView}
use Rattle.e_theorem.specs.Statements.{as_view}
use Rattle.e_deriv.specs.declared.names.Names.{Names}
use Rattle.e_deriv.specs.declared.stop.Stop.{Stop}
use Rattle.e_deriv.specs.declared.stop.Stop.TheVariants as stops
use Rattle.e_deriv.specs.declared.stop.Wanted.TheVariants.{Match}
use Rattle.e_deriv.specs.Fitting.{is_small_statement}
use Rattle.e_names.specs.TitledStatements.{TitledStatement, is_known, stated_by}
use Rattle.e_book.specs.TheoremViews.{TheoremView}
use Rattle.e_names.specs.declared.known.Known.{Known}
use Rattle.e_names.specs.Titled.{are_notions}
use Rattle.e_book.specs.Definitions.{BookItem, OfTheorem, item_from}
use Rattle.e_book.specs.Canonical.{text_of}
use Rattle.e_book.specs.Grammar.{Rest}
use Rattle.e_spell.specs.Spelling.{too_wide_text, stop_text, IsStop}
use Rattle.e_suggest.specs.Suggestions.{AreFirstChoices, SomeArgsAreTooWide}
use Rattle.e_commands.specs.declared.status.Status.{Status}
use Rattle.e_commands.specs.declared.status.Status.TheVariants as status
use Rattle.e_commands.specs.declared.output.Answer.{Answer}
use Rattle.e_commands.specs.declared.suggestions.Listed.{Listed}
use Rattle.e_commands.specs.declared.suggestions.Listed.TheVariants as listed
use Rattle.e_commands.specs.Answers.{IsReadFault}
use Rattle.e_commands.specs.LastLines.{suggested_line}
use Rattle.e_commands.specs.Outcome.{Begins, end_line_number}
use Rattle.e_commands.specs.SuggesterAnswers.{apply_line, line_of, Application, MayApply}
use Rattle.e_commands.specs.SuggesterAnswers.{is_in_order, AreFirstApplications, SuggestAnswer}
use Rattle.e_commands.specs.inner.BookResults.{stop_answer}

-- ---- one theorem

-- the lines of choices of arguments for a theorem
abbrev pub apply_lines : List ℕ → Names → List (List Obj) → List (List ℕ)
apply_lines title names choices = map (apply_line title names) choices

-- the theorem has more than six declared objects; or these are the first of its choices, and
-- whether there are more
abbrev pub AreChosen : StatementView → Scope → List Lit → ℕ → List (List Obj) → Bool → Type 0
AreChosen t scope facts left choices more =
    ((6 < length t.declared) × (choices ≡ []) × (more ≡ false))
    ⊎ ((length t.declared ≤ 6) × AreFirstChoices t scope facts left choices more)

-- what was written of one theorem
abbrev pub IsListedOne : Names → Scope → List Lit → List ℕ → StatementView → ℕ → List ℕ
    → List ℕ → Listed → Type 0
IsListedOne names scope facts title t left old new (listed.Found n more) =
    (choices : List (List Obj)) × (new ≡ old ++ text_of (apply_lines title names choices))
    × (n ≡ length choices) × (n ≤ left) × AreChosen t scope facts left choices more
IsListedOne names scope facts title t left old new (listed.TooWide w) =
    (length t.declared ≤ 6) × SomeArgsAreTooWide t scope facts w

-- ---- all theorems

-- a theorem is not passed over, and a choice for it is too wide
pub record SomeIsTooWide (scope : Scope) (facts : List Lit) (known : List TitledStatement)
    (w : ℕ) : Type 0 where
  pub theorem : TitledStatement
  pub is_one : Contains known theorem
  pub is_asked_for : length theorem.statement.declared ≤ 6
  pub too_wide : SomeArgsAreTooWide (as_view theorem.statement) scope facts w

-- these many lines, of the first applications, were written
pub record AreListed (names : Names) (scope : Scope) (facts : List Lit)
    (known : List TitledStatement) (out : List ℕ) (n : ℕ) (more : Bool) : Type 0 where
  pub applications : List Application
  pub bytes : out ≡ text_of (map (line_of names) applications)
  pub count : n ≡ length applications
  pub first : AreFirstApplications scope facts known applications more

abbrev pub IsListed : Names → Scope → List Lit → List TitledStatement → List ℕ → Listed → Type 0
IsListed names scope facts known out (listed.Found n more) =
    AreListed names scope facts known out n more
IsListed names scope facts known out (listed.TooWide w) = SomeIsTooWide scope facts known w

-- the theorems before this place were looked at, and the lines of all their applications written
pub record AreListedTo (names : Names) (scope : Scope) (facts : List Lit)
    (known : List TitledStatement) (place : ℕ) (out : List ℕ) (count : ℕ) : Type 0 where
  pub applications : List Application
  pub bytes : out ≡ text_of (map (line_of names) applications)
  pub counted : count ≡ length applications
  pub few : count ≤ 1000
  pub good : (a : Application) → Contains applications a
      → MayApply scope facts known a × (a.place < place)
  pub in_order : IsTrue (is_in_order applications)
  pub all : (a : Application) → MayApply scope facts known a → a.place < place
      → Contains applications a

-- ---- the answer at a place

abbrev pub AnswersAt : Names → Scope → List Lit → List TitledStatement → List ℕ → ℕ
    → Status → List ℕ → Type 0
AnswersAt names scope facts known title step (status.Suggested n more) out =
    (applications : List Application) × (n ≡ length applications)
    × AreFirstApplications scope facts known applications more
    × (out ≡ text_of (map (line_of names) applications) ++ suggested_line n more)
AnswersAt names scope facts known title step (status.TooWide p n wanted width) out =
    (p ≡ title) × (n ≡ step) × (wanted ≡ Match) × SomeIsTooWide scope facts known width
    × (out ≡ too_wide_text p n wanted width names)
AnswersAt names scope facts known title step _ out = ⊥

-- ---- the answer on a book

-- that is due, and it is no fault of the source
pub record IsBookAnswer (lines : Rest) (title : List ℕ) (step : ℕ) (answer : Status)
    (out : List ℕ) : Type 0 where
  pub due : SuggestAnswer lines title step answer out
  pub no_read : IsReadFault answer → ⊥

-- ---- on the way

-- theorems and definitions of these lines were taken, no theorem has the title, and these lines are
-- left
pub record IsOnWay (lines : Rest) (title : List ℕ) (known : Known) (rest : Rest) : Type 0 where
  pub theorems : List TheoremView
  pub begins : Begins lines theorems known rest
  pub untitled : IsFalse (is_known known.theorems title)
  pub small : IsTrue (list_all is_small_statement (stated_by known.theorems))
  pub notions : IsTrue (are_notions known.notions)

-- ---- the answer on the next theorem

-- the theorems before were taken, none of them has the title, and this is the next one
pub record IsNextTitled (lines : Rest) (title : List ℕ) (before : List TitledStatement)
    (t : TheoremView) : Type 0 where
  pub known : Known
  pub rest : Rest
  pub after : Rest
  pub same : known.theorems ≡ before
  pub way : IsOnWay lines title known rest
  pub read : item_from known (end_line_number lines) None rest ≡ Ok (Some (OfTheorem t, after))

-- where it is the next one, that is due
abbrev pub AnswersNext : List TitledStatement → TheoremView → List ℕ → ℕ → Status → List ℕ → Type 0
AnswersNext before t title step answer out =
    (lines : Rest) → IsNextTitled lines title before t → IsBookAnswer lines title step answer out

-- the stop is out of memory, which says nothing of the book
abbrev pub is_out_of_memory : Stop → Bool
is_out_of_memory stops.NoMemory = true
is_out_of_memory stop = false

-- a stop that is not out of memory is answered
pub record IsStopAnswer (title : List ℕ) (stop : Stop) (answer : Status)
    (out : List ℕ) : Type 0 where
  pub stops : IsStop stop
  pub is_answer : answer ≡ stop_answer title stop
  pub bytes : out ≡ stop_text title stop

-- ---- the answer on what comes next

-- that is due; or it was taken, and then this is known
abbrev pub PassesTitles : Rest → List ℕ → ℕ → Known → Rest → Option Answer → Type 0
PassesTitles lines title step now after (Some a) =
    IsBookAnswer lines title step a.status a.line.items
PassesTitles lines title step now after None = IsOnWay lines title now after

-- where it is the next one, it is taken, or that is due
abbrev pub PassesNext : Known → BookItem → List ℕ → ℕ → Known → Option Answer → Type 0
PassesNext known item title step now answer =
    (lines rest after : Rest) → IsOnWay lines title known rest
    → item_from known (end_line_number lines) None rest ≡ Ok (Some (item, after))
    → PassesTitles lines title step now after answer
