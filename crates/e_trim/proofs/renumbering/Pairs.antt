-- Literals whose objects have images by pairs, over the kept objects: constructions, superpositions, uses and goals alike.
use Rattle.std.proofs.Common.{◌≡◌, List, [], ◌∷◌, map, refl, sym, ap, ◌∙◌, Bool, true, false, cond, true≢false, Option, Some, None}
use Rattle.std.specs.Prelude.{is_some}
use Rattle.std.specs.Option.{option_map, option_map_or}
use Rattle.std.specs.List.{list_all}
use Rattle.std.proofs.lemmas.Bool.{and_parts}
use Rattle.e_literal.specs.declared.object.Obj.{Obj}
use Rattle.e_literal.specs.declared.object.Sort.{Sort}
use Rattle.e_literal.specs.declared.literal.Lit.{Lit}
use Rattle.e_literal.specs.Literal.{objects_of_atom}
use Rattle.e_literal.specs.Rename.{with_images, number_at, same_obj, image_in, pairs_of, has_images}
use Rattle.e_literal.proofs.Sorts.{same_obj_is}
use Rattle.e_trim.specs.Trimmed.{kept_before, obj_at, lit_among_kept}
use Rattle.e_trim.proofs.renumbering.Members.{all_in}
use Rattle.e_trim.proofs.renumbering.MovedLits.{moved_atom}

some_is : {X : Type 0} (x y : X) → Some x ≡ Some y → x ≡ y
some_is x y e = cc

image_step : (kept : List Obj) (b : Bool) (o : Obj) (more : Option Obj) → cond b (Some (obj_at kept o)) (option_map (obj_at kept) more) ≡ option_map (obj_at kept) (cond b (Some o) more)
image_step kept true o more = refl
image_step kept false o more = refl

-- the images over the kept objects
pub image_at : (kept vars args : List Obj) (o : Obj) → image_in (pairs_of vars (map (obj_at kept) args)) o ≡ option_map (obj_at kept) (image_in (pairs_of vars args) o)
image_at kept [] args o = refl
image_at kept (v ∷ vars) [] o = refl
image_at kept (v ∷ vars) (a ∷ args) o =
    ap (cond (same_obj v o) (Some (obj_at kept a))) (image_at kept vars args o) ∙ image_step kept (same_obj v o) a (image_in (pairs_of vars args) o)

abbrev pub sorts : List Obj → List Sort
sorts os = map (λ (o : Obj). o.sort) os

head_sort : (v a : Obj) (xs ys : List Sort) → (v.sort ∷ xs) ≡ (a.sort ∷ ys) → v.sort ≡ a.sort
head_sort v a xs ys k = cc

tail_sorts : (v a : Obj) (xs ys : List Sort) → (v.sort ∷ xs) ≡ (a.sort ∷ ys) → xs ≡ ys
tail_sorts v a xs ys k = cc

-- an image has the sort of its object
pub image_sort : (vars args : List Obj) (o x : Obj) → sorts vars ≡ sorts args → image_in (pairs_of vars args) o ≡ Some x → x.sort ≡ o.sort
image_sort [] args o x s e = absurd cc
image_sort (v ∷ vars) [] o x s e = absurd cc
image_sort (v ∷ vars) (a ∷ args) o x s e = by (same_obj v o) refl (image_sort vars args o x (tail_sorts v a (sorts vars) (sorts args) s)) e
  where
    by : (b : Bool) → same_obj v o ≡ b → (image_in (pairs_of vars args) o ≡ Some x → x.sort ≡ o.sort) → cond b (Some a) (image_in (pairs_of vars args) o) ≡ Some x → x.sort ≡ o.sort
    by true t more k = ap (λ (y : Obj). y.sort) (sym (some_is a x k)) ∙ sym (head_sort v a (sorts vars) (sorts args) s) ∙ ap (λ (y : Obj). y.sort) (same_obj_is v o t)
    by false t more k = more k

is_there : {X : Type 0} (o : Option X) → is_some o ≡ true → (x : X) × (o ≡ Some x)
is_there None h = absurd (true≢false (sym h))
is_there (Some x) h = (x, refl)

pub number_moves : (kept vars args : List Obj) (o : Obj) → sorts vars ≡ sorts args → is_some (image_in (pairs_of vars args) o) ≡ true
    → number_at (image_in (pairs_of vars (map (obj_at kept) args))) o.sort o.num ≡ kept_before kept o.sort (number_at (image_in (pairs_of vars args)) o.sort o.num)
number_moves kept vars args o s h =
    let i = is_there (image_in (pairs_of vars args) o) h in
    let sort = image_sort vars args o i.0 s i.1 in
    ap (λ x. option_map_or (λ (y : Obj). y.num) x o.num) (image_at kept vars args o ∙ ap (option_map (obj_at kept)) i.1)
    ∙ ap (λ y. kept_before kept y i.0.num) sort
    ∙ sym (ap (λ x. kept_before kept o.sort (option_map_or (λ (y : Obj). y.num) x o.num)) i.1)

-- the literal at the images over the kept objects is the literal at the images, over them
pub through_pairs : (kept vars args : List Obj) (l : Lit) → sorts vars ≡ sorts args → has_images (image_in (pairs_of vars args)) l ≡ true
    → with_images (image_in (pairs_of vars (map (obj_at kept) args))) l ≡ lit_among_kept kept (with_images (image_in (pairs_of vars args)) l)
through_pairs kept vars args l s h =
    ap (λ a. record { neg = l.neg; atom = a })
    (moved_atom kept (number_at (image_in (pairs_of vars args))) (number_at (image_in (pairs_of vars (map (obj_at kept) args)))) l.atom
    (λ o i. number_moves kept vars args o s (all_in (λ (x : Obj). is_some (image_in (pairs_of vars args) x)) (objects_of_atom l.atom) o h i)))

pub all_through : (kept vars args : List Obj) (ls : List Lit) → sorts vars ≡ sorts args → list_all (has_images (image_in (pairs_of vars args))) ls ≡ true
    → map (with_images (image_in (pairs_of vars (map (obj_at kept) args)))) ls ≡ map (lit_among_kept kept) (map (with_images (image_in (pairs_of vars args))) ls)
all_through kept vars args [] s h = refl
all_through kept vars args (l ∷ ls) s h =
    let p = and_parts (has_images (image_in (pairs_of vars args)) l) (list_all (has_images (image_in (pairs_of vars args))) ls) h in
    ap (λ x. x ∷ map (with_images (image_in (pairs_of vars (map (obj_at kept) args)))) ls) (through_pairs kept vars args l s p.0)
    ∙ ap (λ xs. lit_among_kept kept (with_images (image_in (pairs_of vars args)) l) ∷ xs) (all_through kept vars args ls s p.1)
