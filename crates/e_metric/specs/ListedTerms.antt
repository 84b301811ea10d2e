-- Terms in the order in which they occur first.
use Rattle.std.specs.Prelude.{List, [], ◌∷◌, ◌++◌, if◌then◌else◌, Option}
use Rattle.e_literal.specs.declared.object.Kind.{Kind}
use Rattle.e_literal.specs.declared.object.Term.{Term}
use Rattle.e_literal.specs.declared.literal.Lit.{Lit}
use Rattle.e_literal.specs.Rows.{has_term, first_terms}
use Rattle.e_clause.specs.Assignment.{terms_of_lits}
use Rattle.e_clause.specs.System.{of_kind, against_goal}

-- the terms, and those of the second list that are none of them, each once
abbrev pub with_listed : List Term → List Term → List Term
with_listed seen [] = seen
with_listed seen (t ∷ ts) = with_listed (if has_term seen t then seen else seen ++ t ∷ []) ts

-- the terms of the facts of a kind and of the wanted literal, if it is of the kind, each once, as
-- it is written first
abbrev pub distinct_terms : Kind → List Lit → Option Lit → List Term
distinct_terms which facts wanted =
    first_terms []
    (terms_of_lits (of_kind which facts) ++ terms_of_lits (of_kind which (against_goal wanted)))
