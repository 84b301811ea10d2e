-- Facts that are in scope, well formed and not too many, test by test.
use Rattle.std.proofs.Common.{◌≡◌, List, [], ◌∷◌, refl, ap, ◌∙◌, Bool, true, false, ◌&&◌}
use Rattle.std.specs.List.{list_all}
use mathlib.Core.Bool.{and_assoc}
use Rattle.e_literal.specs.declared.object.Scope.{Scope}
use Rattle.e_literal.specs.declared.literal.Lit.{Lit}
use Rattle.e_literal.specs.Literal.{all_in_scope}
use Rattle.e_literal.specs.WellFormed.{is_well_formed}
use Rattle.e_clause.specs.LimitedFacts.{is_well_formed_in, are_well_formed_in, are_few, are_limited_facts}

mixed : (a b c d : Bool) → ((a && b) && (c && d)) ≡ ((a && c) && (b && d))
mixed true true c d = refl
mixed true false true d = refl
mixed true false false d = refl
mixed false b c d = refl

each_good : (s : Scope) (ls : List Lit) → are_well_formed_in s ls ≡ (list_all (all_in_scope s) ls && list_all is_well_formed ls)
each_good s [] = refl
each_good s (l ∷ ls) =
    ap (λ b. is_well_formed_in s l && b) (each_good s ls)
    ∙ mixed (all_in_scope s l) (is_well_formed l) (list_all (all_in_scope s) ls) (list_all is_well_formed ls)

pub good_parts : (s : Scope) (facts : List Lit) → are_limited_facts s facts ≡ (list_all (all_in_scope s) facts && (list_all is_well_formed facts && are_few facts))
good_parts s facts =
    ap (λ b. b && are_few facts) (each_good s facts) ∙ and_assoc (list_all (all_in_scope s) facts) (list_all is_well_formed facts) (are_few facts)
