-- The terms of a step: right, and those of the facts and of the wanted literal.
use Rattle.std.proofs.Common.{◌≡◌, List, ◌∷◌, ◌++◌, ap, ◌∙◌, Bool, ◌||◌}
use Rattle.std.specs.List.{list_any}
use Rattle.std.proofs.lemmas.List.Folds.{list_any-append}
use Rattle.std.proofs.lemmas.Grind.{common_steps}
use Rattle.e_literal.specs.declared.object.Term.{Term}
use Rattle.e_literal.specs.declared.object.Term.TheVariants.{Right}
use Rattle.e_literal.specs.declared.literal.Lit.{Lit}
use Rattle.e_literal.specs.Same.{term_eq}
use Rattle.e_clause.specs.Assignment.{terms_of_lits}

pub of_wanted : (t : Term) (facts : List Lit) (wanted : List Term) (b : Bool) → list_any (term_eq t) (terms_of_lits facts) ≡ b → list_any (term_eq t) (Right ∷ (terms_of_lits facts ++ wanted)) ≡ (term_eq t Right || (b || list_any (term_eq t) wanted))
of_wanted t facts wanted b e = ap (λ c. term_eq t Right || c) (list_any-append (term_eq t) (terms_of_lits facts) wanted ∙ ap (λ c. c || list_any (term_eq t) wanted) e)

pub ruleset of_step = (common_steps, of_wanted)
