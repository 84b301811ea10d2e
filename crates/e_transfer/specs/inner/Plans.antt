-- In which order the variables of a rule are chosen, and from which numbers.
use Rattle.std.specs.Prelude.{◌≡◌, ℕ, ◌+◌, ◌<◌, List, map, if◌then◌else◌, slice_index, length, Bool}
use Rattle.std.specs.Prelude.{nat_lt, ◌==◌, IsTrue}
use Rattle.std.specs.List.{list_any, list_all}
use Rattle.e_literal.specs.declared.object.Obj.{Obj}
use Rattle.e_literal.specs.declared.object.Scope.{Scope}
use Rattle.e_literal.specs.Literal.{count_of, is_in_scope}
use Rattle.e_clause.specs.Rows.{Row}
use Rattle.e_clause.specs.Instance.{arguments_fit, number}
use Rattle.e_transfer.specs.declared.plan.Plan.{Plan}
use Rattle.e_transfer.specs.declared.unify.Binding.{Binding}
use Rattle.e_transfer.specs.declared.unify.Binding.TheVariants as binding
use Rattle.e_transfer.specs.declared.walk.Span.{Span}
use Rattle.e_transfer.specs.Choice.{FitsSpans}
use Rattle.e_transfer.specs.inner.Bindings.{binding_at, BindingsAgree}
use Rattle.e_transfer.specs.inner.PartsOfChoices.{variable_sort, chosen_arguments, ready_at_of}

-- how many variables a row has
abbrev pub total_of : Row → ℕ
total_of r = r.points + r.lines + r.circles

-- for each variable one that represents it, and has its number
pub record RepresentativesAre (bindings : List Binding) (representatives : List ℕ) : Type 0 where
  pub many : length representatives ≡ length bindings
  pub below : (v : ℕ) → v < length bindings → slice_index representatives v < length bindings
  pub hold : (f : ℕ → ℕ) → BindingsAgree f bindings → (v : ℕ) → v < length bindings
      → f (slice_index representatives v) ≡ f v

-- the variable is in the order
abbrev pub has_variable : List ℕ → ℕ → Bool
has_variable order v = list_any (λ u. u == v) order

-- the order keeps its variables, and has only variables below the total if it had
pub record Grows (total : ℕ) (old new : List ℕ) : Type 0 where
  pub keeps : (v : ℕ) → IsTrue (has_variable old v) → IsTrue (has_variable new v)
  pub below : IsTrue (list_all (λ v. nat_lt v total) old)
      → IsTrue (list_all (λ v. nat_lt v total) new)

-- the order has variables below the total, and each representative
pub record OrderIs (total : ℕ) (representatives order : List ℕ) : Type 0 where
  pub below : IsTrue (list_all (λ v. nat_lt v total) order)
  pub all : (v : ℕ) → v < length representatives
      → IsTrue (has_variable order (slice_index representatives v))

-- for each variable the place of its representative in the order
pub record PositionsAre (representatives order positions : List ℕ) : Type 0 where
  pub many : length positions ≡ length representatives
  pub below : (v : ℕ) → v < length representatives → slice_index positions v < length order
  pub at : (v : ℕ) → v < length representatives
      → slice_index order (slice_index positions v) ≡ slice_index representatives v

-- the known number alone, or none if no object has it; or the numbers of all objects
abbrev pub variable_span : ℕ → Binding → Span
variable_span count (binding.Is n) =
    (if nat_lt n count then record { from = n; to = n + 1 } else record { from = 0; to = 0 })
variable_span count _ = record { from = 0; to = count }

abbrev pub plan_spans : Row → Scope → List Binding → List ℕ → List Span
plan_spans r scope bindings order =
    map (λ v. variable_span (count_of scope (variable_sort r v)) (binding_at bindings v)) order

-- the last places are those of the literals of the clause, the places are those of the spans, and
-- each instance over the scope whose arguments agree with the bindings is that of some choice
pub record IsPlanFor (r : Row) (scope : Scope) (bindings : List Binding)
    (plan : Plan) : Type 0 where
  pub ready_at : plan.ready_at.items ≡ ready_at_of r plan.positions.items
  pub below : IsTrue (list_all (λ p. nat_lt p (length plan.spans.items)) plan.positions.items)
  pub reaches : (args : List Obj) → IsTrue (arguments_fit r args)
      → IsTrue (list_all (is_in_scope scope) args) → BindingsAgree (number args) bindings
      → (c : List ℕ) × FitsSpans plan.spans.items c
      × (chosen_arguments r plan.positions.items c ≡ args)
