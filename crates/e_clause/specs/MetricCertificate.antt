-- What a metric certificate certifies: a literal, or that the facts contradict each other.
use Rattle.std.specs.Prelude.{List, Bool, true, false, ◌&&◌, if◌then◌else◌, ℤ, Option, Some, None}
use Rattle.std.specs.Prelude.{option_and_then}
use Rattle.std.specs.Option.{option_map_or}
use Rattle.std.specs.List.{list_all}
use Rattle.e_literal.specs.declared.object.Scope.{Scope}
use Rattle.e_literal.specs.declared.literal.Lit.{Lit}
use Rattle.e_literal.specs.Literal.{is_in_scope, all_in_scope, objects_of_term}
use Rattle.e_literal.specs.Facts.{is_metric}
use Rattle.e_literal.specs.Rows.{Row, More, negative}
use Rattle.e_clause.specs.declared.cert.RowName.{RowName}
use Rattle.e_clause.specs.declared.cert.RowName.TheVariants.{Fact, Goal, Pos, Top, Least, FactAt}
use Rattle.e_clause.specs.declared.cert.Sums.{Sums}
use Rattle.e_clause.specs.declared.cert.Sums.TheVariants.{One, Two}
use Rattle.e_clause.specs.declared.cert.MetricCert.{MetricCert}
use Rattle.e_clause.specs.Sum.{refutes, fact_row, row_at, goal_row, says_differ}

-- ---- two sums, where a row says that its form is not 0

-- the row that a `differs` line names, which says that its form is not 0: that of the negated goal
-- or of a fact
abbrev pub differing_of : List Lit → Option Lit → RowName → Option Row
differing_of facts wanted (Fact l) = fact_row facts l
differing_of facts wanted Goal = goal_row wanted
differing_of facts wanted (FactAt k) = row_at facts k
differing_of facts wanted _ = None

abbrev pub differing_row : List Lit → Option Lit → RowName → Option Row
differing_row facts wanted name =
    option_and_then (λ r. if says_differ r.sense then Some r else None)
    (differing_of facts wanted name)

-- the row that says that the form is more than 0, and the one that says that it is less
abbrev pub above_row : Row → Row
above_row r = record { sense = More; form = r.form }

abbrev pub below_row : Row → Row
below_row r = record { sense = More; form = negative r.form }

-- the form is not more than 0 by the first sum, and not less by the second
abbrev pub both_refute : List Lit → Option Lit → Row → List (ℤ × RowName)
    → List (ℤ × RowName) → Bool
both_refute facts wanted r first second =
    refutes
    (record { facts = facts; wanted = wanted; above = Some (above_row r); below = None }) first
    && refutes
    (record { facts = facts; wanted = wanted; above = None; below = Some (below_row r) }) second

-- ---- the sums of a certificate

-- the facts and the negation of the wanted literal, where one is wanted, cannot all be true, by
-- these sums
abbrev pub sums_refute : List Lit → Option Lit → Sums → Bool
sums_refute facts wanted (One sum) =
    refutes (record { facts = facts; wanted = wanted; above = None; below = None }) sum
sums_refute facts wanted (Two differs first second) =
    option_map_or (λ r. both_refute facts wanted r first second)
    (differing_row facts wanted differs) false

-- ---- the objects that a certificate names are in the scope before its step

abbrev pub row_name_in : Scope → RowName → Bool
row_name_in s (Fact l) = all_in_scope s l
row_name_in s (Pos t) = list_all (is_in_scope s) (objects_of_term t)
row_name_in s (Top t) = list_all (is_in_scope s) (objects_of_term t)
row_name_in s (Least t) = list_all (is_in_scope s) (objects_of_term t)
row_name_in s _ = true

abbrev pub sum_in : Scope → List (ℤ × RowName) → Bool
sum_in s xs = list_all (λ x. row_name_in s x.1) xs

abbrev pub are_sums_in : Scope → Sums → Bool
are_sums_in s (One sum) = sum_in s sum
are_sums_in s (Two differs first second) =
    row_name_in s differs && (sum_in s first && sum_in s second)

-- ---- what it certifies

-- the metric literal follows from the facts
abbrev pub metric_certifies : List Lit → Lit → MetricCert → Bool
metric_certifies facts l m = is_metric l && sums_refute facts (Some l) m.sums

-- the metric facts cannot all be true
abbrev pub metric_contradicts : List Lit → MetricCert → Bool
metric_contradicts facts m = sums_refute facts None m.sums
