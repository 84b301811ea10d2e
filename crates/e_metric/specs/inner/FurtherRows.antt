-- What a goal, or further facts, bring to the system of the facts of their kind.
use Rattle.std.specs.Prelude.{ℕ, List, [], ◌∷◌, ◌++◌, map, flat_map, take, drop, if◌then◌else◌}
use Rattle.std.specs.Prelude.{Some, None}
use Rattle.e_literal.specs.declared.object.Kind.{Kind}
use Rattle.e_literal.specs.declared.object.Term.{Term}
use Rattle.e_literal.specs.declared.object.Term.TheVariants.{Seg}
use Rattle.e_literal.specs.declared.literal.Lit.{Lit}
use Rattle.e_literal.specs.Facts.{are_apart}
use Rattle.e_literal.specs.Rows.{first_terms}
use Rattle.e_literal.specs.Same.{canonical}
use Rattle.e_clause.specs.declared.cert.RowName.TheVariants.{Fact, Goal}
use Rattle.e_clause.specs.Assignment.{terms_of_lits}
use Rattle.e_clause.specs.System.{NamedRow, of_kind, against_goal, rows_named, rows_of_term}
use Rattle.e_metric.specs.ListedTerms.{distinct_terms}

-- the terms of the literals of the kind that are none of these, each once
abbrev pub terms_added : Kind → List Term → List Lit → List Term
terms_added which terms lits = first_terms terms (terms_of_lits (of_kind which lits))

-- ---- a goal

-- the row of its negation, and those of its fresh terms
abbrev pub rows_added_by_goal : Kind → List Lit → List Term → Lit → List NamedRow
rows_added_by_goal which facts fresh goal =
    rows_named (λ l. Goal) (of_kind which (against_goal (Some goal)))
    ++ flat_map (rows_of_term facts) fresh

-- the rows that occur in the system of the facts and the goal, and not in that of the facts
abbrev pub rows_brought_by_goal : Kind → List Lit → Lit → List NamedRow
rows_brought_by_goal which facts goal =
    rows_added_by_goal which facts
    (terms_added which (distinct_terms which facts None) (goal ∷ [])) goal

-- a value that a term may have of which no fact speaks
abbrev pub value_of_fresh : List Lit → Term → ℕ
value_of_fresh facts (Seg a b) = if are_apart facts a b then 1 else 0
value_of_fresh facts _ = 0

-- the values, and those of more terms
abbrev pub values_extended : List Lit → List (Term × ℕ) → List Term → List (Term × ℕ)
values_extended facts values fresh =
    values ++ map (λ t. (canonical t, value_of_fresh facts t)) fresh

-- ---- facts from a place on

-- the rows of further facts, and those of their fresh terms by all facts
abbrev pub rows_added_by_facts : Kind → List Lit → List Lit → List Term → List NamedRow
rows_added_by_facts which facts more fresh =
    rows_named Fact (of_kind which more) ++ flat_map (rows_of_term facts) fresh

-- the rows that the facts from a place on bring to the system of those before them
abbrev pub rows_brought_by_facts : Kind → List Lit → ℕ → List NamedRow
rows_brought_by_facts which facts from =
    rows_added_by_facts which facts (drop from facts)
    (terms_added which (distinct_terms which (take from facts) None) (drop from facts))
