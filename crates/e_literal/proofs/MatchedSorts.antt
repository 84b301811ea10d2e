-- Lists of objects of which one is empty.
use Rattle.std.proofs.Common.{◌≡◌, ◌≤◌, List, [], ◌∷◌, length, map, refl, arith, false}
use Rattle.std.proofs.lemmas.Grind.{common_steps}
use Rattle.e_literal.specs.declared.object.Obj.{Obj}
use Rattle.e_literal.specs.declared.object.Scope.{Scope}
use Rattle.e_literal.specs.Scopes.{are_of_sorts}

pub no_models : (s : Scope) (ms os : List Obj) → length ms ≡ 0 → 1 ≤ length os → are_of_sorts s (map (λ o. o.sort) ms) os ≡ false
no_models s [] [] h k = absurd (omega (arith, k))
no_models s [] (o ∷ os) h k = refl
no_models s (m ∷ ms) os h k = absurd (omega (arith, h))

pub no_objects : (s : Scope) (ms os : List Obj) → 1 ≤ length ms → length os ≡ 0 → are_of_sorts s (map (λ o. o.sort) ms) os ≡ false
no_objects s [] os h k = absurd (omega arith)
no_objects s (m ∷ ms) [] h k = refl
no_objects s (m ∷ ms) (o ∷ os) h k = absurd (omega (arith, k))

pub ruleset matching = (common_steps, no_models, no_objects)
