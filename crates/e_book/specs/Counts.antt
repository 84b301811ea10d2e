-- What limits count: functions of the lines so far.
use Rattle.std.specs.Prelude.{ℕ, ◌+◌, List, [], ◌∷◌, ◌++◌, length, nat_le, Bool, Result, Ok, Err}
use Rattle.std.specs.Prelude.{is_none, filter, if◌then◌else◌}
use Rattle.e_literal.specs.declared.object.Sort.TheVariants as sorts
use Rattle.e_literal.specs.declared.literal.Lit.{Lit}
use Rattle.e_literal.specs.declared.object.Scope.{Scope}
use Rattle.e_literal.specs.Literal.{negation}
use Rattle.e_construct.specs.Construct.{sorts_made, gives_of_construction}
use Rattle.e_construct.specs.Superposing as superposing
use Rattle.e_theorem.specs.Statements.{as_view}
use Rattle.e_deriv.specs.declared.names.Names.{Names}
use Rattle.e_deriv.specs.Naming.{with_new_names, declared_names}
use Rattle.e_deriv.specs.Script.{size}
use Rattle.e_deriv.specs.PlainStep.{PlainStep, Cited, Inferred, Made, Applied, Claimed, Copied}
use Rattle.e_line.specs.declared.fault.FaultKind.{FaultKind}
use Rattle.e_line.specs.declared.fault.FaultKind.TheVariants.{Limit}
use Rattle.e_line.specs.declared.fault.What.{What}
use Rattle.e_line.specs.declared.fault.What.TheVariants as limits
use Rattle.e_line.specs.declared.literal.RawLit.{RawLit}
use Rattle.e_line.specs.declared.raw_line.RawLine.{RawLine}
use Rattle.e_line.specs.declared.raw_line.RawLine.TheVariants as rawlines
use Rattle.e_names.specs.TitledStatements.{TitledStatement, theorem_of}
use Rattle.e_names.specs.Scope.{scope_of_names}
use Rattle.e_line.specs.Limits.{most_of, most_steps, most_depth, most_facts}
use Rattle.e_line.specs.Limits.{most_monomials_of_facts}
use Rattle.e_line.specs.Limits.{most_blanks, count_monomials}
use Rattle.e_line.specs.LineLimits.{have_few_monomials, have_low_coefficients}
use Rattle.e_book.specs.Open.{Head, Opener, ByClaim, BySuperposition, ByCase, ByElse, Enclosing}
use Rattle.e_book.specs.Open.{Open, Stating, Proving, Splitting, Proved, Ended}

-- ---- names and facts on the path to a place

-- the names in scope after a step
abbrev pub names_after_plain_step : List TitledStatement → Names → PlainStep → Names
names_after_plain_step known ns (Made construction names certs) =
    with_new_names ns (sorts_made construction) names
names_after_plain_step known ns (Applied theorem args names certs) =
    with_new_names ns (theorem_of known theorem).made names
names_after_plain_step known ns step = ns

-- what a step makes facts. A theorem that is applied gives as many literals as it shows, with as
-- many monomials
abbrev pub given_by : List TitledStatement → Scope → PlainStep → List Lit
given_by known s (Cited by) = by.lit ∷ []
given_by known s (Inferred lit cert) = lit ∷ []
given_by known s (Made construction names certs) = gives_of_construction construction s
given_by known s (Applied theorem args names certs) = (theorem_of known theorem).shown
given_by known s (Claimed shown inner) = shown
given_by known s (Copied superposition names shown certs inner) = shown

-- before a line: the names in scope, and the facts on the path to it, repeats counted
pub record LineContext : Type 0 where
  pub names : Names
  pub facts : List Lit

abbrev pub after_step : List TitledStatement → LineContext → PlainStep → LineContext
after_step known at step =
    record {
      names = names_after_plain_step known at.names step;
      facts = at.facts ++ given_by known (scope_of_names at.names) step;
    }

abbrev pub after_steps : List TitledStatement → LineContext → List PlainStep → LineContext
after_steps known at [] = at
after_steps known at (s ∷ steps) = after_steps known (after_step known at s) steps

-- where an inner block begins
abbrev pub context_inside : LineContext → Opener → LineContext
context_inside at (ByClaim shown) = at
context_inside at (BySuperposition superposition names shown) =
    record {
      names = with_new_names at.names superposing.sorts_copied names;
      facts = at.facts
          ++ superposing.gives_of_superposition superposition (scope_of_names at.names);
    }
context_inside at (ByCase lit) = record at { facts = at.facts ++ lit ∷ [] }
context_inside at (ByElse lit first) = record at { facts = at.facts ++ negation lit ∷ [] }

-- where the block inside these begins
abbrev pub first_context : List TitledStatement → Head → List Enclosing → LineContext
first_context known h [] =
    record { names = declared_names (as_view h.statement) h.names; facts = h.statement.given }
first_context known h (a ∷ around) =
    context_inside (after_steps known (first_context known h around) a.steps) a.opener

-- before the next line
abbrev pub context_at : List TitledStatement → Open → LineContext
context_at known (Stating h) = record { names = h.names; facts = h.statement.given }
context_at known (Proving h around steps) = after_steps known (first_context known h around) steps
context_at known (Splitting h around) = first_context known h around
context_at known (Proved h script) = record { names = h.names; facts = [] }
context_at known (Ended t) = record { names = t.names; facts = [] }

-- ---- step and close lines, and blocks

abbrev pub lines_of_step : PlainStep → ℕ
lines_of_step (Claimed shown inner) = 1 + size inner
lines_of_step (Copied superposition names shown certs inner) = 1 + size inner
lines_of_step step = 1

abbrev pub count_lines : List PlainStep → ℕ
count_lines [] = 0
count_lines (s ∷ steps) = lines_of_step s + count_lines steps

-- of a first block that is closed
abbrev pub lines_first : Opener → ℕ
lines_first (ByElse lit first) = size first
lines_first opener = 0

abbrev pub lines_around : List Enclosing → ℕ
lines_around [] = 0
lines_around (a ∷ around) = count_lines a.steps + (1 + lines_first a.opener) + lines_around around

abbrev pub steps_so_far : Open → ℕ
steps_so_far (Stating h) = 0
steps_so_far (Proving h around steps) = count_lines steps + lines_around around
steps_so_far (Splitting h around) = lines_around around
steps_so_far (Proved h script) = size script
steps_so_far (Ended t) = size t.script

abbrev pub depth_there : Open → ℕ
depth_there (Proving h around steps) = length around + 1
depth_there o = 0

-- ---- what is on the line itself

-- the literals that are written on it
abbrev pub literals_on : RawLine → List RawLit
literals_on (rawlines.Given raws) = raws
literals_on (rawlines.Show raws) = raws
literals_on (rawlines.By rule names raw) = raw ∷ []
literals_on (rawlines.Hence raw) = raw ∷ []
literals_on (rawlines.Claim raws) = raws
literals_on (rawlines.Superpose s) = s.shown
literals_on (rawlines.Cases raw) = raw ∷ []
literals_on raw_line = []

abbrev pub blanks_on : RawLine → ℕ
blanks_on (rawlines.Apply a) = length (filter is_none a.args)
blanks_on raw_line = 0

-- ---- the limits, in the order of their table: whether a line and what comes after it keep each

abbrev pub limits_at : RawLine → LineContext → (steps depth : ℕ) → List (Bool × What)
limits_at f at steps depth =
    (nat_le (length at.names.points) (most_of sorts.Point), limits.Points)
    ∷ (nat_le (length at.names.lines) (most_of sorts.Line), limits.Lines)
    ∷ (nat_le (length at.names.circles) (most_of sorts.Circle), limits.Circles)
    ∷ (nat_le steps most_steps, limits.Steps)
    ∷ (nat_le depth most_depth, limits.Depth)
    ∷ (nat_le (length at.facts) most_facts, limits.Facts)
    ∷ (have_few_monomials (literals_on f), limits.Monomials)
    ∷ (have_low_coefficients (literals_on f), limits.Coefficient)
    ∷ (nat_le (count_monomials at.facts) most_monomials_of_facts, limits.Terms)
    ∷ (nat_le (blanks_on f) most_blanks, limits.Blanks) ∷ []

abbrev pub limits_kept : List TitledStatement → RawLine → Open → List (Bool × What)
limits_kept known f o = limits_at f (context_at known o) (steps_so_far o) (depth_there o)

-- the first that is not kept
abbrev pub all_kept : List (Bool × What) → Result (Unit {0}) FaultKind
all_kept [] = Ok tt
all_kept (p ∷ ps) = if p.0 then all_kept ps else Err (Limit p.1)
