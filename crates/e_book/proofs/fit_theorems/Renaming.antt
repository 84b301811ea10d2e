-- Literals with other objects in the place of theirs are as well formed as they were; those for made objects are in scope.
use Rattle.std.proofs.Common.{◌≡◌, ℕ, ◌+◌, Bool, true, false, cond, ltb, eqb, ◌&&◌, List, [], ◌∷◌, Option, Some, refl, sym, subst, ◌∙◌, arith}
use Rattle.std.specs.Option.{option_map_or}
use Rattle.std.proofs.lemmas.Bool.{ltb-true, ltb-false, eqb-false, and_parts}
use Rattle.e_literal.specs.declared.object.Sort.{Sort}
use Rattle.e_literal.specs.declared.object.Sort.TheVariants.{Point, Line, Circle}
use Rattle.e_literal.specs.declared.object.Obj.{Obj}
use Rattle.e_literal.specs.declared.object.Scope.{Scope}
use Rattle.e_literal.specs.declared.literal.Lit.{Lit}
use Rattle.e_literal.specs.Literal.{obj, count_of, is_in_scope}
use Rattle.e_literal.specs.Scopes.{same_sort, with_one, with_sorts, next_objects, are_of_sorts}
use Rattle.e_literal.specs.WellFormed.{is_well_formed}
use Rattle.e_literal.specs.Rename.{with_images, same_obj, image_in, pairs_of}
use Rattle.e_literal.proofs.WithImages.{is_moved_in, renamed_well_formed}
use Rattle.e_literal.proofs.Sorts.{same_sort_is}

-- ---- well formed

pub renamed_good : (image : Obj → Option Obj) (l : Lit) → is_well_formed l ≡ true → is_well_formed (with_images image l) ≡ true
renamed_good image l h = renamed_well_formed image l ∙ h

-- ---- made objects

older_by : (c n : ℕ) (b : Bool) → ltb n c ≡ b → eqb c n ≡ false → ltb n (c + 1) ≡ true → b ≡ true
older_by c n true l e i = refl
older_by c n false l e i = absurd (eqb-false c n e (omega (arith, ltb-false n c l, ltb-true n (c + 1) i)))

older : (c n : ℕ) → eqb c n ≡ false → ltb n (c + 1) ≡ true → ltb n c ≡ true
older c n e i = older_by c n (ltb n c) refl e i

-- an object other than the new one was in scope before it
not_new : (s : Scope) (x sort : Sort) (n : ℕ) → same_obj (obj x (count_of s x)) (obj sort n) ≡ false → is_in_scope (with_one s x) (obj sort n) ≡ true → is_in_scope s (obj sort n) ≡ true
not_new s Point Point n e i = older s.points n e i
not_new s Line Line n e i = older s.lines n e i
not_new s Circle Circle n e i = older s.circles n e i
not_new s Point Line n e i = i
not_new s Point Circle n e i = i
not_new s Line Point n e i = i
not_new s Line Circle n e i = i
not_new s Circle Point n e i = i
not_new s Circle Line n e i = i

first_or : (c n : ℕ) (t : Obj) (rest : Option Obj) (b : Bool) → (b ≡ true → ltb t.num c ≡ true) → (b ≡ false → ltb (option_map_or (λ (i : Obj). i.num) rest n) c ≡ true)
    → ltb (option_map_or (λ (i : Obj). i.num) (cond b (Some t) rest) n) c ≡ true
first_or c n t rest true h k = h refl
first_or c n t rest false h k = k refl

-- with objects in scope for the made ones, where all others are in scope
pub made_moved : (before s : Scope) (sorts : List Sort) (os : List Obj) (o : Obj) → are_of_sorts s sorts os ≡ true → is_in_scope (with_sorts before sorts) o ≡ true → (is_in_scope before o ≡ true → is_in_scope s o ≡ true)
    → is_moved_in s (image_in (pairs_of (next_objects before sorts) os)) o ≡ true
made_moved before s [] [] o f i w = w i
made_moved before s [] (t ∷ os) o f i w = absurd cc
made_moved before s (x ∷ sorts) [] o f i w = absurd cc
made_moved before s (x ∷ sorts) (t ∷ os) o f i w =
    let p = and_parts (same_sort x t.sort) (is_in_scope s t && are_of_sorts s sorts os) f in
    let q = and_parts (is_in_scope s t) (are_of_sorts s sorts os) p.1 in
    let new : Obj = obj x (count_of before x) in
    let image : same_obj new o ≡ true → ltb t.num (count_of s o.sort) ≡ true = λ e.
    subst (λ (y : Sort). ltb t.num (count_of s y) ≡ true) (sym (same_sort_is x t.sort p.0) ∙ same_sort_is x o.sort (and_parts (same_sort x o.sort) (eqb (count_of before x) o.num) e).0) q.0 in
    first_or (count_of s o.sort) o.num t (image_in (pairs_of (next_objects (with_one before x) sorts) os) o) (same_obj new o) image
    (λ e. made_moved (with_one before x) s sorts os o q.1 i (λ j. w (not_new before x o.sort o.num e j)))
