-- What the literals and facts are by which a step is licensed: in scope, well formed, and not too
-- many.
use Rattle.std.specs.Prelude.{ℕ, List, length, Bool, ◌&&◌, nat_le}
use Rattle.std.specs.List.{list_all}
use Rattle.e_literal.specs.declared.object.Scope.{Scope}
use Rattle.e_literal.specs.declared.literal.Lit.{Lit}
use Rattle.e_literal.specs.Literal.{all_in_scope}
use Rattle.e_literal.specs.WellFormed.{is_well_formed}
use Rattle.e_clause.specs.Assignment.{terms_of_lits}

-- the literal is in scope and well formed
abbrev pub is_well_formed_in : Scope → Lit → Bool
is_well_formed_in s l = all_in_scope s l && is_well_formed l

abbrev pub are_well_formed_in : Scope → List Lit → Bool
are_well_formed_in s ls = list_all (is_well_formed_in s) ls

-- this many terms may be in the facts of a step
abbrev pub most_terms_of_step : ℕ
most_terms_of_step = 1100

abbrev pub are_few : List Lit → Bool
are_few facts = nat_le (length (terms_of_lits facts)) most_terms_of_step

-- the facts are in scope and well formed, and their terms are few
abbrev pub are_limited_facts : Scope → List Lit → Bool
are_limited_facts s facts = are_well_formed_in s facts && are_few facts
