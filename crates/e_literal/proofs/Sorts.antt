-- Sorts, objects and kinds that a test finds the same are equal.
use Rattle.std.proofs.Common.{◌≡◌, List, [], ◌∷◌, map, refl, ap, ◌∙◌, Bool, true, ◌&&◌, eqb, eqb-true}
use Rattle.std.proofs.lemmas.Bool.{and_parts}
use Rattle.e_literal.specs.declared.object.Sort.{Sort}
use Rattle.e_literal.specs.declared.object.Sort.TheVariants.{Point, Line, Circle}
use Rattle.e_literal.specs.declared.object.Kind.{Kind}
use Rattle.e_literal.specs.declared.object.Kind.TheVariants.{Segment, Angle, Area as AreaKind}
use Rattle.e_literal.specs.declared.object.Obj.{Obj}
use Rattle.e_literal.specs.declared.object.Scope.{Scope}
use Rattle.e_literal.specs.Literal.{obj, is_in_scope}
use Rattle.e_literal.specs.Scopes.{same_sort, are_of_sorts}
use Rattle.e_literal.specs.Rename.{same_obj}
use Rattle.e_literal.specs.WellFormed.{same_kind}
use Rattle.e_literal.proofs.Booleans.{and_left, and_right, eqb_self}

pub same_sort_is : (a b : Sort) → same_sort a b ≡ true → a ≡ b
same_sort_is Point Point h = refl
same_sort_is Line Line h = refl
same_sort_is Circle Circle h = refl
same_sort_is a b h = absurd cc

pub same_sort_self : (a : Sort) → same_sort a a ≡ true
same_sort_self Point = refl
same_sort_self Line = refl
same_sort_self Circle = refl

pub same_obj_is : (a b : Obj) → same_obj a b ≡ true → a ≡ b
same_obj_is a b h =
    let sorts = same_sort_is a.sort b.sort (and_left (same_sort a.sort b.sort) _ h) in
    let nums = eqb-true a.num b.num (and_right (same_sort a.sort b.sort) _ h) in
    ap (λ x. obj x a.num) sorts ∙ ap (λ n. obj b.sort n) nums

pub same_obj_self : (a : Obj) → same_obj a a ≡ true
same_obj_self a = ap (λ b. b && eqb a.num a.num) (same_sort_self a.sort) ∙ eqb_self a.num

pub same_kind_is : (a b : Kind) → same_kind a b ≡ true → a ≡ b
same_kind_is Segment Segment h = refl
same_kind_is Angle Angle h = refl
same_kind_is AreaKind AreaKind h = refl
same_kind_is a b h = absurd cc

pub same_kind_self : (a : Kind) → same_kind a a ≡ true
same_kind_self Segment = refl
same_kind_self Angle = refl
same_kind_self AreaKind = refl

-- the sorts of objects that are of these sorts
pub sorts_of_objects : (s : Scope) (sorts : List Sort) (os : List Obj) → are_of_sorts s sorts os ≡ true → map (λ (o : Obj). o.sort) os ≡ sorts
sorts_of_objects s [] [] h = refl
sorts_of_objects s [] (o ∷ os) h = absurd cc
sorts_of_objects s (sort ∷ sorts) [] h = absurd cc
sorts_of_objects s (sort ∷ sorts) (o ∷ os) h =
    let p = and_parts (same_sort sort o.sort) (is_in_scope s o && are_of_sorts s sorts os) h in
    let q = and_parts (is_in_scope s o) (are_of_sorts s sorts os) p.1 in
    rw (same_sort_is sort o.sort p.0, sorts_of_objects s sorts os q.1) refl
