-- Facts stay in scope where no count is less.
use Rattle.std.proofs.Common.{◌≡◌, ℕ, ◌≤◌, List, [], ◌∷◌, refl, Bool, true, Option, arith}
use Rattle.std.specs.Prelude.{nat_lt}
use Rattle.std.specs.List.{list_all}
use Rattle.std.proofs.lemmas.Bool.{and_from}
use Rattle.std.proofs.lemmas.Bool.Decides.{nat_tests}
use Rattle.e_literal.specs.declared.object.Scope.{Scope}
use Rattle.e_literal.specs.declared.object.Sort.{Sort}
use Rattle.e_literal.specs.declared.object.Sort.TheVariants.{Point, Line, Circle}
use Rattle.e_literal.specs.declared.object.Obj.{Obj}
use Rattle.e_literal.specs.declared.literal.Lit.{Lit}
use Rattle.e_literal.specs.Literal.{count_of, is_in_scope, objects_of_atom, all_in_scope}
use Rattle.e_literal.specs.WellFormed.{is_well_formed}
use Rattle.e_literal.proofs.Booleans.{and_left, and_right}
use Rattle.e_clause.specs.LimitedFacts.{is_well_formed_in, are_well_formed_in, are_few, are_limited_facts}
use Rattle.e_metric.specs.declared.metric_facts.MetricFacts.{MetricFacts}
use Rattle.e_licence.specs.declared.held.Held.{Held}
use Rattle.e_licence.specs.Contexts.{IsWithin}
use Rattle.e_licence.specs.HeldStates.{IsHeldContext}

every : {X : Type 0} (p q : X → Bool) → ((x : X) → p x ≡ true → q x ≡ true) → (xs : List X) → list_all p xs ≡ true → list_all q xs ≡ true
every p q f [] h = refl
every p q f (x ∷ xs) h = and_from (q x) (list_all q xs) (f x (and_left (p x) (list_all p xs) h)) (every p q f xs (and_right (p x) (list_all p xs) h))

as_many : (s t : Scope) (sort : Sort) → IsWithin s t → count_of s sort ≤ count_of t sort
as_many s t Point h = h.points
as_many s t Line h = h.lines
as_many s t Circle h = h.circles

below : (n m k : ℕ) → m ≤ k → nat_lt n m ≡ true → nat_lt n k ≡ true
below n m k le h = grind (arith, nat_tests)

object_stays : (s t : Scope) → IsWithin s t → (o : Obj) → is_in_scope s o ≡ true → is_in_scope t o ≡ true
object_stays s t h o e = below o.num (count_of s o.sort) (count_of t o.sort) (as_many s t o.sort h) e

lit_stays : (s t : Scope) → IsWithin s t → (l : Lit) → is_well_formed_in s l ≡ true → is_well_formed_in t l ≡ true
lit_stays s t h l e =
    and_from (all_in_scope t l) (is_well_formed l)
    (every (is_in_scope s) (is_in_scope t) (object_stays s t h) (objects_of_atom l.atom) (and_left (all_in_scope s l) (is_well_formed l) e))
    (and_right (all_in_scope s l) (is_well_formed l) e)

pub facts_stay : (s t : Scope) (facts : List Lit) → IsWithin s t → are_limited_facts s facts ≡ true → are_limited_facts t facts ≡ true
facts_stay s t facts h e =
    and_from (are_well_formed_in t facts) (are_few facts)
    (every (is_well_formed_in s) (is_well_formed_in t) (lit_stays s t h) facts (and_left (are_well_formed_in s facts) (are_few facts) e))
    (and_right (are_well_formed_in s facts) (are_few facts) e)

pub after_widen : (s t : Scope) (facts : List Lit) (held : List Held) (metric_facts : Option MetricFacts) → IsWithin s t → IsHeldContext s facts held metric_facts → IsHeldContext t facts held metric_facts
after_widen s t facts held metric_facts w h = record { good = facts_stay s t facts w h.good; states = h.states; metric_facts = h.metric_facts }
