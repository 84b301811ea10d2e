-- Where a term is written in a literal, and in a list of them.
use Rattle.std.proofs.Common.{◌≡◌, List, [], ◌∷◌, ◌++◌, map, refl, ap, ◌∙◌, ◌||◌}
use Rattle.std.specs.List.{list_any}
use Rattle.std.proofs.lemmas.List.Folds.{list_any-append}
use Rattle.std.proofs.lemmas.Grind.{common_steps}
use Rattle.e_literal.specs.declared.object.Term.{Term}
use Rattle.e_literal.specs.declared.object.Mono.{Mono}
use Rattle.e_literal.specs.declared.literal.Lit.{Lit}
use Rattle.e_literal.specs.Same.{term_eq}
use Rattle.e_clause.specs.Assignment.{terms_of_atom, terms_of_lits, lit_has_term}

any_term : (t : Term) (ms : List Mono) → list_any (term_eq t) (map (λ m. m.term) ms) ≡ list_any (λ (m : Mono). term_eq t m.term) ms
any_term t [] = refl
any_term t (m ∷ ms) = ap (λ b. term_eq t m.term || b) (any_term t ms)

pub in_sums : (t : Term) (x y : List Mono) → list_any (term_eq t) (map (λ m. m.term) (x ++ y)) ≡ (list_any (λ (m : Mono). term_eq t m.term) x || list_any (λ (m : Mono). term_eq t m.term) y)
in_sums t x y = any_term t (x ++ y) ∙ list_any-append (λ (m : Mono). term_eq t m.term) x y

pub in_lits : (t : Term) (ls : List Lit) → list_any (term_eq t) (terms_of_lits ls) ≡ list_any (lit_has_term t) ls
in_lits t [] = refl
in_lits t (l ∷ ls) = list_any-append (term_eq t) (terms_of_atom l.atom) (terms_of_lits ls) ∙ ap (λ b. lit_has_term t l || b) (in_lits t ls)

pub ruleset in_literals = (common_steps, in_sums, in_lits)
