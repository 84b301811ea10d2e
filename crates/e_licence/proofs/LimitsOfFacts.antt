-- Facts that are in scope, well formed and not too many, part by part.
use Rattle.std.proofs.Common.{◌≡◌, ℕ, ◌≤◌, List, length, true, arith}
use Rattle.std.specs.Prelude.{nat_le}
use Rattle.std.specs.List.{list_all}
use Rattle.std.proofs.lemmas.Bool.Decides.{nat_tests}
use Rattle.e_literal.specs.declared.object.Scope.{Scope}
use Rattle.e_literal.specs.declared.literal.Lit.{Lit}
use Rattle.e_literal.specs.Literal.{all_in_scope}
use Rattle.e_literal.specs.WellFormed.{is_well_formed}
use Rattle.e_literal.proofs.Booleans.{and_left, and_right}
use Rattle.e_clause.specs.Assignment.{terms_of_lits}
use Rattle.e_clause.specs.LimitedFacts.{are_well_formed_in, are_few, most_terms_of_step, are_limited_facts}
use Rattle.e_transfer.proofs.Needs.{facts_well, facts_over}

-- good facts are well formed
pub well_formed : (s : Scope) (facts : List Lit) → are_limited_facts s facts ≡ true → list_all is_well_formed facts ≡ true
well_formed s facts h = facts_well s facts (and_left (are_well_formed_in s facts) (are_few facts) h)

-- and in scope
pub in_scope : (s : Scope) (facts : List Lit) → are_limited_facts s facts ≡ true → list_all (all_in_scope s) facts ≡ true
in_scope s facts h = facts_over s facts (and_left (are_well_formed_in s facts) (are_few facts) h)

-- and have few terms
at_most : (n m : ℕ) → nat_le n m ≡ true → n ≤ m
at_most n m h = grind (arith, nat_tests)

pub few_terms : (s : Scope) (facts : List Lit) → are_limited_facts s facts ≡ true → length (terms_of_lits facts) ≤ 1100
few_terms s facts h = at_most (length (terms_of_lits facts)) most_terms_of_step (and_right (are_well_formed_in s facts) (are_few facts) h)
