-- The sorts of objects that fit.
use Rattle.std.proofs.Common.{◌≡◌, List, [], ◌∷◌, map, refl, sym, ap, ◌∙◌, ◌&&◌, true, true≢false}
use Rattle.e_literal.specs.declared.object.Sort.{Sort}
use Rattle.e_literal.specs.declared.object.Obj.{Obj}
use Rattle.e_literal.specs.declared.object.Scope.{Scope}
use Rattle.e_literal.specs.Literal.{is_in_scope}
use Rattle.e_literal.specs.Scopes.{same_sort, are_of_sorts}
use Rattle.e_literal.proofs.Sorts.{same_sort_is}
use Rattle.e_literal.proofs.Booleans.{and_left, and_right}

-- objects that fit have the sorts asked for
pub sorts_agree : (s : Scope) (sorts : List Sort) (os : List Obj) → are_of_sorts s sorts os ≡ true → sorts ≡ map (λ o. o.sort) os
sorts_agree s [] [] h = refl
sorts_agree s [] (o ∷ os) h = absurd (true≢false (sym h))
sorts_agree s (sort ∷ sorts) [] h = absurd (true≢false (sym h))
sorts_agree s (sort ∷ sorts) (o ∷ os) h =
    let a = same_sort sort o.sort in
    let b = is_in_scope s o in
    let c = are_of_sorts s sorts os in
    let rest = and_right b c (and_right a (b && c) h) in
    ap (λ k. k ∷ sorts) (same_sort_is sort o.sort (and_left a (b && c) h)) ∙ ap (λ ks. o.sort ∷ ks) (sorts_agree s sorts os rest)
