-- Constructions, superpositions, uses of theorems and goals over the kept objects.
use Rattle.std.proofs.Common.{◌≡◌, ℕ, ◌<◌, ◌≤◌, List, [], ◌∷◌, ◌++◌, map, length, refl, sym, ap, ◌∙◌, subst, arith, Bool, true, false, ◌&&◌, ◌||◌, cond, true≢false, inl, inr, ◌⊎◌, eqb, Option, Some, None}
use Rattle.std.specs.Prelude.{is_some, unwrap_or}
use Rattle.std.specs.Option.{option_map, option_map_or}
use Rattle.std.specs.List.{list_all, list_any}
use Rattle.std.proofs.lemmas.Bool.{and_parts, and_from, or_left, or_right, or_cases, cases_lt, ltb-true, eqb-true}
use Rattle.e_trim.proofs.renumbering.MovedLits.{object_from}
use Rattle.std.proofs.lemmas.List.{length-map, map-append}
use Rattle.std.proofs.lemmas.List.Folds.{list_any-append}
use Rattle.e_literal.specs.declared.object.Obj.{Obj}
use Rattle.e_literal.specs.declared.object.Scope.{Scope}
use Rattle.e_literal.specs.declared.object.Sort.{Sort}
use Rattle.e_literal.specs.declared.object.Sort.TheVariants.{Point, Line, Circle}
use Rattle.e_literal.specs.declared.object.Mono.{Mono}
use Rattle.e_literal.specs.declared.object.Term.{Term}
use Rattle.e_literal.specs.declared.object.Term.TheVariants as terms
use Rattle.e_literal.specs.declared.literal.Atom.{Atom}
use Rattle.e_literal.specs.declared.literal.Atom.TheVariants as atoms
use Rattle.e_literal.specs.declared.literal.Lit.{Lit}
use Rattle.e_literal.specs.Literal.{obj, count_of, is_in_scope, objects_of_atom, all_in_scope}
use Rattle.e_literal.specs.Scopes.{same_sort, nothing, with_one, with_sorts, next_objects, are_of_sorts}
use Rattle.e_literal.specs.Rename.{with_images, term_at, mono_at, atom_at, number_at, same_obj, image_in, pairs_of, has_images}
use Rattle.e_literal.specs.Use.{StatementView, scope_of, image_in_use, are_arguments}
use Rattle.e_literal.proofs.Sorts.{same_sort_is, same_obj_is}
use Rattle.e_construct.specs.declared.construction.Construction.{Construction}
use Rattle.e_construct.specs.declared.construction.Shape.{Shape}
use Rattle.e_construct.specs.declared.construction.Shape.TheVariants.{Free, OnLine, Within, Beyond, SideOf, Opposite, OnCircle, Inside, Outside, LineThrough, CircleAt, MeetLines, MeetOne, MeetBoth, MeetWithin, MeetBeyond, CirclesOne, CirclesBoth, CirclesSide, CirclesOpposite}
use Rattle.e_construct.specs.declared.superpose.Superpose.{Superpose}
use Rattle.e_construct.specs.Shapes.{ShapeRow, Avoids, NoObject, AnyObject, AnyApartFrom, shape_row}
use Rattle.e_construct.specs.Construct.{row_of_construction, sorts_of, inequality, argument, of_sort, needs_of_avoided, sorts_made, avoidance, made_by_row, gives_of_avoided, gives_of_construction, needs_of_construction, fits_construction, avoids_well}
use Rattle.e_construct.specs.Superposing as superposing
use Rattle.e_literal.proofs.GrownScopes.{sorts_next, counts_nothing}
use Rattle.e_theorem.proofs.Imaging.{counted_here, counted_other, this_one, sources, targets, imaged, sorts_agree, same_images}
use Rattle.e_trim.specs.Trimmed.{kept_before, obj_at, lit_among_kept, construction_among_kept, superpose_at}
use Rattle.e_trim.proofs.renumbering.Members.{In, in_left, in_right, in_either, all_in}
use Rattle.e_trim.proofs.renumbering.Counting.{Bound, scope_kept, in_scope_kept, next_at, next_above, number_stays}
use Rattle.e_trim.proofs.renumbering.LitsAt.{AllKept, OverLit, OverLits, objects_scope}
use Rattle.e_trim.proofs.renumbering.Pairs.{sorts, all_through, image_at, image_sort}

-- ---- objects of sorts

pub of_sorts_at : (kept : List Obj) (s : Scope) (xs : List Sort) (os : List Obj) → are_of_sorts s xs os ≡ true → AllKept kept os → are_of_sorts (scope_kept kept) xs (map (obj_at kept) os) ≡ true
of_sorts_at kept s [] [] h k = refl
of_sorts_at kept s [] (o ∷ os) h k = absurd cc
of_sorts_at kept s (x ∷ xs) [] h k = absurd cc
of_sorts_at kept s (x ∷ xs) (o ∷ os) h k =
    let p = and_parts (same_sort x o.sort) (is_in_scope s o && are_of_sorts s xs os) h in
    let q = and_parts (is_in_scope s o) (are_of_sorts s xs os) p.1 in
    and_from (same_sort x o.sort) (is_in_scope (scope_kept kept) (obj_at kept o) && are_of_sorts (scope_kept kept) xs (map (obj_at kept) os)) p.0
    (and_from (is_in_scope (scope_kept kept) (obj_at kept o)) (are_of_sorts (scope_kept kept) xs (map (obj_at kept) os)) (in_scope_kept kept o (k o (inl refl)))
    (of_sorts_at kept s xs os q.1 (λ y i. k y (inr i))))

-- the sorts of objects that are of sorts
pub sorts_are : (s : Scope) (xs : List Sort) (os : List Obj) → are_of_sorts s xs os ≡ true → xs ≡ sorts os
sorts_are s [] [] h = refl
sorts_are s [] (o ∷ os) h = absurd cc
sorts_are s (x ∷ xs) [] h = absurd cc
sorts_are s (x ∷ xs) (o ∷ os) h =
    let p = and_parts (same_sort x o.sort) (is_in_scope s o && are_of_sorts s xs os) h in
    let q = and_parts (is_in_scope s o) (are_of_sorts s xs os) p.1 in
    ap (λ y. y ∷ xs) (same_sort_is x o.sort p.0) ∙ ap (λ ys. o.sort ∷ ys) (sorts_are s xs os q.1)

-- ---- images by pairs

tail_sorts : (v a : Obj) (xs ys : List Sort) → (v.sort ∷ xs) ≡ (a.sort ∷ ys) → xs ≡ ys
tail_sorts v a xs ys k = cc

-- the object is one of the variables
abbrev pub is_var : List Obj → Obj → Bool
is_var vars o = list_any (λ v. same_obj v o) vars

abbrev pub speaks_of : List Obj → Lit → Bool
speaks_of vars l = list_all (is_var vars) (objects_of_atom l.atom)

pub var_image : (vars args : List Obj) (o : Obj) → sorts vars ≡ sorts args → is_var vars o ≡ true → is_some (image_in (pairs_of vars args) o) ≡ true
var_image [] args o s h = absurd (true≢false (sym h))
var_image (v ∷ vars) [] o s h = absurd cc
var_image (v ∷ vars) (a ∷ args) o s h = by (same_obj v o) (var_image vars args o (tail_sorts v a (sorts vars) (sorts args) s)) h
  where
    by : (b : Bool) → (is_var vars o ≡ true → is_some (image_in (pairs_of vars args) o) ≡ true) → (b || is_var vars o) ≡ true → is_some (cond b (Some a) (image_in (pairs_of vars args) o)) ≡ true
    by true more k = refl
    by false more k = more k

vars_images : (vars args os : List Obj) → sorts vars ≡ sorts args → list_all (is_var vars) os ≡ true → list_all (λ (o : Obj). is_some (image_in (pairs_of vars args) o)) os ≡ true
vars_images vars args [] s h = refl
vars_images vars args (o ∷ os) s h =
    let p = and_parts (is_var vars o) (list_all (is_var vars) os) h in
    and_from (is_some (image_in (pairs_of vars args) o)) (list_all (λ (x : Obj). is_some (image_in (pairs_of vars args) x)) os) (var_image vars args o s p.0) (vars_images vars args os s p.1)

lits_images : (vars args : List Obj) (ls : List Lit) → sorts vars ≡ sorts args → list_all (speaks_of vars) ls ≡ true → list_all (has_images (image_in (pairs_of vars args))) ls ≡ true
lits_images vars args [] s h = refl
lits_images vars args (l ∷ ls) s h =
    let p = and_parts (speaks_of vars l) (list_all (speaks_of vars) ls) h in
    and_from (has_images (image_in (pairs_of vars args)) l) (list_all (has_images (image_in (pairs_of vars args))) ls) (vars_images vars args (objects_of_atom l.atom) s p.0) (lits_images vars args ls s p.1)

-- literals that speak of variables, at arguments over the kept objects
pub at_vars : (kept vars args : List Obj) (ls : List Lit) → sorts vars ≡ sorts args → list_all (speaks_of vars) ls ≡ true
    → map (with_images (image_in (pairs_of vars (map (obj_at kept) args)))) ls ≡ map (lit_among_kept kept) (map (with_images (image_in (pairs_of vars args))) ls)
at_vars kept vars args ls s h = all_through kept vars args ls s (lits_images vars args ls s h)

-- ---- the twenty constructions

-- what a row needs speaks of its arguments, what it gives of those and of what is made; what has to be apart is an argument; and a row that
-- avoids objects makes a point first
abbrev begins_with_point : List Obj → Bool
begins_with_point [] = false
begins_with_point (o ∷ os) = same_sort o.sort Point

abbrev avoids_closed : ShapeRow → Avoids → Bool
avoids_closed r NoObject = true
avoids_closed r AnyObject = begins_with_point r.made
avoids_closed r (AnyApartFrom o) = begins_with_point r.made && is_var r.args o

abbrev is_closed : ShapeRow → Bool
is_closed r = list_all (speaks_of r.args) r.needs && (list_all (speaks_of (r.args ++ r.made)) r.gives && avoids_closed r r.avoids)

pub closed : (s : Shape) → is_closed (shape_row s) ≡ true
unfolding shape_row
closed Free = refl
closed OnLine = refl
closed Within = refl
closed Beyond = refl
closed SideOf = refl
closed Opposite = refl
closed OnCircle = refl
closed Inside = refl
closed Outside = refl
closed LineThrough = refl
closed CircleAt = refl
closed MeetLines = refl
closed MeetOne = refl
closed MeetBoth = refl
closed MeetWithin = refl
closed MeetBeyond = refl
closed CirclesOne = refl
closed CirclesBoth = refl
closed CirclesSide = refl
closed CirclesOpposite = refl

avoids_at : (kept : List Obj) (s : Scope) (a : Avoids) (os : List Obj) → avoids_well s a os ≡ true → AllKept kept os → avoids_well (scope_kept kept) a (map (obj_at kept) os) ≡ true
avoids_at kept s NoObject os h k = ap (λ n. eqb n 0) (length-map os (obj_at kept)) ∙ h
avoids_at kept s AnyObject os h k = objects_scope kept os k
avoids_at kept s (AnyApartFrom o) os h k = objects_scope kept os k

pub fits_at : (kept : List Obj) (s : Scope) (construction : Construction) → fits_construction construction s ≡ true → AllKept kept (construction.args ++ construction.avoid) → fits_construction (construction_among_kept kept construction) (scope_kept kept) ≡ true
fits_at kept s construction h k =
    let r = row_of_construction construction in
    let p = and_parts (are_of_sorts s (sorts_of r.args) construction.args) (avoids_well s r.avoids construction.avoid) h in
    and_from (are_of_sorts (scope_kept kept) (sorts_of r.args) (map (obj_at kept) construction.args)) (avoids_well (scope_kept kept) r.avoids (map (obj_at kept) construction.avoid))
    (of_sorts_at kept s (sorts_of r.args) construction.args p.0 (λ o i. k o (in_left o construction.args construction.avoid i))) (avoids_at kept s r.avoids construction.avoid p.1 (λ o i. k o (in_right o construction.args construction.avoid i)))

sort_stays : (kept : List Obj) (s : Sort) (os : List Obj) → of_sort s (map (obj_at kept) os) ≡ map (obj_at kept) (of_sort s os)
sort_stays kept s [] = refl
sort_stays kept s (o ∷ os) =
    ap (λ ys. cond (same_sort s o.sort) (obj_at kept o ∷ ys) ys) (sort_stays kept s os) ∙ by (same_sort s o.sort)
  where
    by : (b : Bool) → cond b (obj_at kept o ∷ map (obj_at kept) (of_sort s os)) (map (obj_at kept) (of_sort s os)) ≡ map (obj_at kept) (cond b (o ∷ of_sort s os) (of_sort s os))
    by true = refl
    by false = refl

-- those of the sort have it
are_of_sort : (s : Sort) (os : List Obj) (y : Obj) → In y (of_sort s os) → s ≡ y.sort
are_of_sort s [] y i = absurd i
are_of_sort s (o ∷ os) y i = by (same_sort s o.sort) refl (are_of_sort s os y) i
  where
    by : (b : Bool) → same_sort s o.sort ≡ b → (In y (of_sort s os) → s ≡ y.sort) → In y (cond b (o ∷ of_sort s os) (of_sort s os)) → s ≡ y.sort
    by true e more (inl f) = same_sort_is s o.sort e ∙ ap (λ (x : Obj). x.sort) f
    by true e more (inr j) = more j
    by false e more j = more j

unequal_at : (kept : List Obj) (x y : Obj) → x.sort ≡ y.sort → inequality (obj_at kept x) (obj_at kept y) ≡ lit_among_kept kept (inequality x y)
unequal_at kept x y e = ap (λ s. inequality (obj_at kept x) (obj s (kept_before kept s y.num))) (sym e) ∙ by x.sort x.num y.num
  where
    by : (s : Sort) (m n : ℕ) → inequality (obj s (kept_before kept s m)) (obj s (kept_before kept s n)) ≡ lit_among_kept kept (inequality (obj s m) (obj s n))
    by Point m n = refl
    by Line m n = refl
    by Circle m n = refl

unequals_at : (kept : List Obj) (x : Obj) (os : List Obj) → ((y : Obj) → In y os → x.sort ≡ y.sort) → map (inequality (obj_at kept x)) (map (obj_at kept) os) ≡ map (lit_among_kept kept) (map (inequality x) os)
unequals_at kept x [] h = refl
unequals_at kept x (o ∷ os) h = ap (λ l. l ∷ map (inequality (obj_at kept x)) (map (obj_at kept) os)) (unequal_at kept x o (h o (inl refl))) ∙ ap (λ ls. lit_among_kept kept (inequality x o) ∷ ls) (unequals_at kept x os (λ y i. h y (inr i)))

avoiding_at : (kept : List Obj) (p y : Obj) → p.sort ≡ Point → avoidance (obj_at kept p) (obj_at kept y) ≡ lit_among_kept kept (avoidance p y)
avoiding_at kept p y e = ap (λ s. avoidance (obj s (kept_before kept s p.num)) (obj_at kept y)) e ∙ by y.sort p.num y.num
  where
    by : (s : Sort) (m n : ℕ) → avoidance (obj Point (kept_before kept Point m)) (obj s (kept_before kept s n)) ≡ lit_among_kept kept (avoidance (obj Point m) (obj s n))
    by Point m n = refl
    by Line m n = refl
    by Circle m n = refl

avoidings_at : (kept : List Obj) (p : Obj) (os : List Obj) → p.sort ≡ Point → map (avoidance (obj_at kept p)) (map (obj_at kept) os) ≡ map (lit_among_kept kept) (map (avoidance p) os)
avoidings_at kept p [] e = refl
avoidings_at kept p (o ∷ os) e = ap (λ l. l ∷ map (avoidance (obj_at kept p)) (map (obj_at kept) os)) (avoiding_at kept p o e) ∙ ap (λ ls. lit_among_kept kept (avoidance p o) ∷ ls) (avoidings_at kept p os e)

-- the argument for a variable has its sort, and is the argument over the kept objects
argument_at : (kept : List Obj) (r : ShapeRow) (args : List Obj) (o : Obj) → sorts r.args ≡ sorts args → is_var r.args o ≡ true
    → (argument r (map (obj_at kept) args) o ≡ obj_at kept (argument r args o)) × ((argument r args o).sort ≡ o.sort)
argument_at kept r args o s h =
    let i = there (image_in (pairs_of r.args args) o) (var_image r.args args o s h) in
    let is = ap (λ x. unwrap_or x o) i.1 in (
      ap (λ x. unwrap_or x o) (image_at kept r.args args o ∙ ap (option_map (obj_at kept)) i.1) ∙ ap (obj_at kept) (sym is),
      ap (λ (x : Obj). x.sort) is ∙ image_sort r.args args o i.0 s i.1,
    )
  where
    there : (x : Option Obj) → is_some x ≡ true → (y : Obj) × (x ≡ Some y)
    there None k = absurd (true≢false (sym k))
    there (Some y) k = (y, refl)

apart_at : (kept : List Obj) (r : ShapeRow) (a : Avoids) (args os : List Obj) → sorts r.args ≡ sorts args → avoids_closed r a ≡ true
    → needs_of_avoided a (argument r (map (obj_at kept) args)) (map (obj_at kept) os) ≡ map (lit_among_kept kept) (needs_of_avoided a (argument r args) os)
apart_at kept r NoObject args os s h = refl
apart_at kept r AnyObject args os s h = refl
apart_at kept r (AnyApartFrom o) args os s h =
    let q = argument_at kept r args o s (and_parts (begins_with_point r.made) (is_var r.args o) h).1 in
    ap (λ x. map (inequality x) (of_sort o.sort (map (obj_at kept) os))) q.0
    ∙ ap (map (inequality (obj_at kept (argument r args o)))) (sort_stays kept o.sort os)
    ∙ unequals_at kept (argument r args o) (of_sort o.sort os) (λ y i. q.1 ∙ are_of_sort o.sort os y i)

-- what it needs, over the kept objects
pub needs_at : (kept : List Obj) (s : Scope) (construction : Construction) → fits_construction construction s ≡ true → needs_of_construction (construction_among_kept kept construction) ≡ map (lit_among_kept kept) (needs_of_construction construction)
needs_at kept s construction h =
    let r = row_of_construction construction in
    let p = and_parts (are_of_sorts s (sorts_of r.args) construction.args) (avoids_well s r.avoids construction.avoid) h in
    let z = sorts_are s (sorts_of r.args) construction.args p.0 in
    let q = and_parts (list_all (speaks_of r.args) r.needs) (list_all (speaks_of (r.args ++ r.made)) r.gives && avoids_closed r r.avoids) (closed construction.shape) in
    let w = and_parts (list_all (speaks_of (r.args ++ r.made)) r.gives) (avoids_closed r r.avoids) q.1 in
    ap (λ ls. ls ++ needs_of_avoided r.avoids (argument r (map (obj_at kept) construction.args)) (map (obj_at kept) construction.avoid)) (at_vars kept r.args construction.args r.needs z q.0)
    ∙ ap (λ ls. map (lit_among_kept kept) (map (with_images (image_in (pairs_of r.args construction.args))) r.needs) ++ ls) (apart_at kept r r.avoids construction.args construction.avoid z w.1)
    ∙ sym (map-append (lit_among_kept kept) (map (with_images (image_in (pairs_of r.args construction.args))) r.needs) (needs_of_avoided r.avoids (argument r construction.args) construction.avoid))

-- old objects keep their numbers
pub object_stays : (kept : List Obj) (s : Scope) (made : List Sort) (o : Obj) → Bound s kept → In o kept → obj_at (kept ++ next_objects s made) o ≡ obj_at kept o
object_stays kept s made o b i =
    ap (obj o.sort) (number_stays kept (next_objects s made) o.sort o.num (λ k j e.
    let above = next_above s made k j in
    let here = b o i in
    let same = ap (count_of s) e in
    omega (arith, above, here, same)))

pub old_objects : (kept : List Obj) (s : Scope) (made : List Sort) (os : List Obj) → Bound s kept → AllKept kept os → map (obj_at (kept ++ next_objects s made)) os ≡ map (obj_at kept) os
old_objects kept s made [] b k = refl
old_objects kept s made (o ∷ os) b k =
    ap (λ x. x ∷ map (obj_at (kept ++ next_objects s made)) os) (object_stays kept s made o b (k o (inl refl)))
    ∙ ap (λ xs. obj_at kept o ∷ xs) (old_objects kept s made os b (λ x i. k x (inr i)))

sorts_stay : (kept : List Obj) (os : List Obj) → sorts os ≡ sorts (map (obj_at kept) os)
sorts_stay kept [] = refl
sorts_stay kept (o ∷ os) = ap (λ xs. o.sort ∷ xs) (sorts_stay kept os)

-- pairs of lists that are put together
pairs_both : (xs ys : List Obj) (as' bs : List Obj) → sorts xs ≡ sorts as' → pairs_of (xs ++ ys) (as' ++ bs) ≡ pairs_of xs as' ++ pairs_of ys bs
pairs_both [] ys [] bs s = refl
pairs_both [] ys (a ∷ as') bs s = absurd cc
pairs_both (x ∷ xs) ys [] bs s = absurd cc
pairs_both (x ∷ xs) ys (a ∷ as') bs s = ap (λ ps. record { source = x; target = a } ∷ ps) (pairs_both xs ys as' bs (tail_sorts x a (sorts xs) (sorts as') s))

-- literals that speak of arguments and of new objects, over more kept objects
pub at_new_vars : (kept : List Obj) (s : Scope) (vars new args : List Obj) (ls : List Lit) → Bound s kept → AllKept kept args → sorts vars ≡ sorts args → list_all (speaks_of (vars ++ new)) ls ≡ true
    → map (with_images (image_in (pairs_of vars (map (obj_at kept) args) ++ pairs_of new (next_objects (scope_kept kept) (sorts new))))) ls
    ≡ map (lit_among_kept (kept ++ next_objects s (sorts new))) (map (with_images (image_in (pairs_of vars args ++ pairs_of new (next_objects s (sorts new))))) ls)
at_new_vars kept s vars new args ls b k z h =
    let next = next_objects s (sorts new) in
    let more = kept ++ next in
    let moved : map (obj_at more) (args ++ next) ≡ map (obj_at kept) args ++ next_objects (scope_kept kept) (sorts new)
    = map-append (obj_at more) args next ∙ ap (λ xs. xs ++ map (obj_at more) next) (old_objects kept s (sorts new) args b k) ∙ ap (λ xs. map (obj_at kept) args ++ xs) (next_at kept s (sorts new) b) in
    let same_sorts : sorts (vars ++ new) ≡ sorts (args ++ next)
    = map-append (λ (o : Obj). o.sort) vars new ∙ ap (λ xs. xs ++ sorts new) z ∙ ap (λ xs. sorts args ++ xs) (sym (sorts_next s (sorts new))) ∙ sym (map-append (λ (o : Obj). o.sort) args next) in
    let kept_sorts : sorts vars ≡ sorts (map (obj_at kept) args) = z ∙ sorts_stay kept args in
    ap (λ ps. map (with_images (image_in ps)) ls) (sym (pairs_both vars new (map (obj_at kept) args) (next_objects (scope_kept kept) (sorts new)) kept_sorts) ∙ ap (pairs_of (vars ++ new)) (sym moved))
    ∙ at_vars more (vars ++ new) (args ++ next) ls same_sorts h
    ∙ ap (λ ps. map (lit_among_kept more) (map (with_images (image_in ps)) ls)) (pairs_both vars new args next z)

kept_avoided : (kept : List Obj) (s : Scope) (new os : List Obj) → Bound s kept → AllKept kept os → begins_with_point new ≡ true
    → gives_of_avoided (next_objects (scope_kept kept) (sorts new)) (map (obj_at kept) os) ≡ map (lit_among_kept (kept ++ next_objects s (sorts new))) (gives_of_avoided (next_objects s (sorts new)) os)
kept_avoided kept s [] os b k h = absurd (true≢false (sym h))
kept_avoided kept s (p ∷ new) os b k h =
    let more = kept ++ next_objects s (sorts (p ∷ new)) in
    let first = obj p.sort (count_of s p.sort) in
    let point : p.sort ≡ Point = same_sort_is p.sort Point h in
    let head : obj p.sort (count_of (scope_kept kept) p.sort) ≡ obj_at more first = sym (first_of (obj_at more first) (obj p.sort (count_of (scope_kept kept) p.sort)) _ _ (next_at kept s (sorts (p ∷ new)) b)) in
    ap (λ x. map (avoidance x) (map (obj_at kept) os)) head
    ∙ ap (map (avoidance (obj_at more first))) (sym (old_objects kept s (sorts (p ∷ new)) os b k))
    ∙ avoidings_at more first os point
  where
    first_of : (x y : Obj) (xs ys : List Obj) → (x ∷ xs) ≡ (y ∷ ys) → x ≡ y
    first_of x y xs ys e = cc

-- without avoided objects nothing is given of them
none_avoided : (new : List Obj) → gives_of_avoided new [] ≡ []
none_avoided [] = refl
none_avoided (p ∷ new) = refl

no_objects : (os : List Obj) → eqb (length os) 0 ≡ true → os ≡ []
no_objects [] h = refl
no_objects (o ∷ os) h = let n = eqb-true (length (o ∷ os)) 0 h in absurd (omega (arith, n))

avoided_at : (kept : List Obj) (s : Scope) (r : ShapeRow) (a : Avoids) (os : List Obj) → Bound s kept → AllKept kept os → avoids_closed r a ≡ true → avoids_well s a os ≡ true
    → gives_of_avoided (next_objects (scope_kept kept) (sorts r.made)) (map (obj_at kept) os) ≡ map (lit_among_kept (kept ++ next_objects s (sorts r.made))) (gives_of_avoided (next_objects s (sorts r.made)) os)
avoided_at kept s r NoObject os b k h w =
    let e = no_objects os w in
    ap (λ xs. gives_of_avoided (next_objects (scope_kept kept) (sorts r.made)) (map (obj_at kept) xs)) e ∙ none_avoided (next_objects (scope_kept kept) (sorts r.made))
    ∙ sym (ap (λ xs. map (lit_among_kept (kept ++ next_objects s (sorts r.made))) (gives_of_avoided (next_objects s (sorts r.made)) xs)) e ∙ ap (map (lit_among_kept (kept ++ next_objects s (sorts r.made)))) (none_avoided (next_objects s (sorts r.made))))
avoided_at kept s r AnyObject os b k h w = kept_avoided kept s r.made os b k h
avoided_at kept s r (AnyApartFrom o) os b k h w = kept_avoided kept s r.made os b k (and_parts (begins_with_point r.made) (is_var r.args o) h).0

-- what it gives, over the kept objects and the new ones
pub gives_at : (kept : List Obj) (s : Scope) (construction : Construction) → Bound s kept → AllKept kept (construction.args ++ construction.avoid) → fits_construction construction s ≡ true
    → gives_of_construction (construction_among_kept kept construction) (scope_kept kept) ≡ map (lit_among_kept (kept ++ next_objects s (sorts_made construction))) (gives_of_construction construction s)
gives_at kept s construction b k h =
    let r = row_of_construction construction in
    let more = kept ++ next_objects s (sorts_made construction) in
    let p = and_parts (are_of_sorts s (sorts_of r.args) construction.args) (avoids_well s r.avoids construction.avoid) h in
    let z = sorts_are s (sorts_of r.args) construction.args p.0 in
    let q = and_parts (list_all (speaks_of r.args) r.needs) (list_all (speaks_of (r.args ++ r.made)) r.gives && avoids_closed r r.avoids) (closed construction.shape) in
    let w = and_parts (list_all (speaks_of (r.args ++ r.made)) r.gives) (avoids_closed r r.avoids) q.1 in
    let own = at_new_vars kept s r.args r.made construction.args r.gives b (λ o i. k o (in_left o construction.args construction.avoid i)) z w.0 in
    ap (λ ls. ls ++ gives_of_avoided (next_objects (scope_kept kept) (sorts r.made)) (map (obj_at kept) construction.avoid)) own
    ∙ ap (λ ls. map (lit_among_kept more) (map (with_images (image_in (pairs_of r.args construction.args ++ pairs_of r.made (made_by_row r s)))) r.gives) ++ ls)
    (avoided_at kept s r r.avoids construction.avoid b (λ o i. k o (in_right o construction.args construction.avoid i)) w.1 p.1)
    ∙ sym (map-append (lit_among_kept more) (map (with_images (image_in (pairs_of r.args construction.args ++ pairs_of r.made (made_by_row r s)))) r.gives) (gives_of_avoided (made_by_row r s) construction.avoid))

-- ---- superposition

numbers_at : (kept : List Obj) (sort : Sort) (ns : List ℕ) → map (obj sort) (map (kept_before kept sort) ns) ≡ map (obj_at kept) (map (obj sort) ns)
numbers_at kept sort [] = refl
numbers_at kept sort (n ∷ ns) = ap (λ os. obj sort (kept_before kept sort n) ∷ os) (numbers_at kept sort ns)

pub superposed_objects : (kept : List Obj) (x : Superpose) → superposing.objects_of (superpose_at kept x) ≡ map (obj_at kept) (superposing.objects_of x)
superposed_objects kept x =
    ap (λ os. os ++ map (obj Line) (map (kept_before kept Line) x.lines)) (numbers_at kept Point x.points) ∙ ap (λ os. map (obj_at kept) (map (obj Point) x.points) ++ os) (numbers_at kept Line x.lines)
    ∙ sym (map-append (obj_at kept) (map (obj Point) x.points) (map (obj Line) x.lines))

closed_needs : list_all (speaks_of superposing.superposed_args) superposing.superposed_needs ≡ true
closed_needs = refl

closed_gives : list_all (speaks_of (superposing.superposed_args ++ superposing.copies)) superposing.superposed_gives ≡ true
closed_gives = refl

pub superposition_fits : (kept : List Obj) (s : Scope) (x : Superpose) → superposing.fits_superposition x s ≡ true → AllKept kept (superposing.objects_of x) → superposing.fits_superposition (superpose_at kept x) (scope_kept kept) ≡ true
superposition_fits kept s x h k =
    ap (are_of_sorts (scope_kept kept) (sorts_of superposing.superposed_args)) (superposed_objects kept x) ∙ of_sorts_at kept s (sorts_of superposing.superposed_args) (superposing.objects_of x) h k

pub superposition_needs : (kept : List Obj) (s : Scope) (x : Superpose) → superposing.fits_superposition x s ≡ true → superposing.needs_of_superposition (superpose_at kept x) ≡ map (lit_among_kept kept) (superposing.needs_of_superposition x)
superposition_needs kept s x h =
    ap (λ os. map (with_images (image_in (pairs_of superposing.superposed_args os))) superposing.superposed_needs) (superposed_objects kept x)
    ∙ at_vars kept superposing.superposed_args (superposing.objects_of x) superposing.superposed_needs (sorts_are s (sorts_of superposing.superposed_args) (superposing.objects_of x) h) closed_needs

pub superposition_gives : (kept : List Obj) (s : Scope) (x : Superpose) → Bound s kept → AllKept kept (superposing.objects_of x) → superposing.fits_superposition x s ≡ true
    → superposing.gives_of_superposition (superpose_at kept x) (scope_kept kept) ≡ map (lit_among_kept (kept ++ next_objects s superposing.sorts_copied)) (superposing.gives_of_superposition x s)
superposition_gives kept s x b k h =
    ap (λ os. map (with_images (image_in (pairs_of superposing.superposed_args os ++ pairs_of superposing.copies (next_objects (scope_kept kept) superposing.sorts_copied)))) superposing.superposed_gives) (superposed_objects kept x)
    ∙ at_new_vars kept s superposing.superposed_args superposing.copies (superposing.objects_of x) superposing.superposed_gives b k (sorts_are s (sorts_of superposing.superposed_args) (superposing.objects_of x) h) closed_gives

-- ---- uses

-- the images of a use are pairs
pub use_pairs : (t : StatementView) (args : List Obj) (s : Scope) (ls : List Lit) → are_arguments t s args ≡ true → map (with_images (image_in_use t args s)) ls ≡ map (with_images (image_in (pairs_of (sources t) (targets t args s)))) ls
use_pairs t args s ls h = same_images (image_in_use t args s) (image_in (pairs_of (sources t) (targets t args s))) ls (λ o. sym (imaged t args s o h))

pub map_targets : (kept : List Obj) (t : StatementView) (args : List Obj) (s : Scope) → Bound s kept → AllKept kept args
    → map (obj_at (kept ++ next_objects s t.made)) (targets t args s) ≡ targets t (map (obj_at kept) args) (scope_kept kept)
map_targets kept t args s b k =
    map-append (obj_at (kept ++ next_objects s t.made)) args (next_objects s t.made)
    ∙ ap (λ xs. xs ++ map (obj_at (kept ++ next_objects s t.made)) (next_objects s t.made)) (old_objects kept s t.made args b k)
    ∙ ap (λ xs. map (obj_at kept) args ++ xs) (next_at kept s t.made b)

-- an object in the scope of a list of sorts is one of the next objects
pub next_member : (b : Scope) (xs : List Sort) (o : Obj) → count_of b o.sort ≤ o.num → o.num < count_of (with_sorts b xs) o.sort → is_var (next_objects b xs) o ≡ true
next_member b [] o h k = absurd (omega (arith, h, k))
next_member b (x ∷ xs) o h k = elim (or_known (same_obj (obj x (count_of b x)) o)) [
  | inl e ↦ or_left (same_obj (obj x (count_of b x)) o) (is_var (next_objects (with_one b x) xs) o) e
  | inr e ↦ or_right (same_obj (obj x (count_of b x)) o) (is_var (next_objects (with_one b x) xs) o) (next_member (with_one b x) xs o (later b x o h e) k)
]
  where
    or_known : (b : Bool) → (b ≡ true) ⊎ (b ≡ false)
    or_known true = inl refl
    or_known false = inr refl

    other_number : (b : Scope) (x : Sort) (o : Obj) → same_sort x o.sort ≡ true → same_obj (obj x (count_of b x)) o ≡ false → o.num ≡ count_of b o.sort → ⊥
    other_number b x o t e n = true≢false (sym (this_one b x o t n) ∙ e)

    -- another object of the sort has a greater number
    later : (b : Scope) (x : Sort) (o : Obj) → count_of b o.sort ≤ o.num → same_obj (obj x (count_of b x)) o ≡ false → count_of (with_one b x) o.sort ≤ o.num
    later b x o h e = elim (or_known (same_sort x o.sort)) [
      | inl t ↦ (let same = counted_here b x o.sort t in let n = other_number b x o t e in omega (arith, same, n, h))
      | inr f ↦ (let same = counted_other b x o.sort f in omega (arith, same, h))
    ]

any_left : (p : Obj → Bool) (xs ys : List Obj) → list_any p xs ≡ true → list_any p (xs ++ ys) ≡ true
any_left p xs ys h = list_any-append p xs ys ∙ or_left (list_any p xs) (list_any p ys) h

any_right : (p : Obj → Bool) (xs ys : List Obj) → list_any p ys ≡ true → list_any p (xs ++ ys) ≡ true
any_right p xs ys h = list_any-append p xs ys ∙ or_right (list_any p xs) (list_any p ys) h

-- the objects of a statement are its sources
source_of : (t : StatementView) (o : Obj) → is_in_scope (with_sorts (scope_of t) t.made) o ≡ true → is_var (sources t) o ≡ true
source_of t o h = elim (cases_lt o.num (count_of (scope_of t) o.sort)) [
  | inl l ↦ any_left (λ v. same_obj v o) (next_objects nothing t.declared) (next_objects (scope_of t) t.made) (next_member nothing t.declared o (no_less o) l)
  | inr l ↦ any_right (λ v. same_obj v o) (next_objects nothing t.declared) (next_objects (scope_of t) t.made) (next_member (scope_of t) t.made o l (ltb-true o.num (count_of (with_sorts (scope_of t) t.made) o.sort) h))
]
  where
    no_less : (o : Obj) → count_of nothing o.sort ≤ o.num
    no_less o = omega (arith, counts_nothing o.sort)

sources_all : (t : StatementView) (os : List Obj) → list_all (is_in_scope (with_sorts (scope_of t) t.made)) os ≡ true → list_all (is_var (sources t)) os ≡ true
sources_all t [] h = refl
sources_all t (o ∷ os) h =
    let p = and_parts (is_in_scope (with_sorts (scope_of t) t.made) o) (list_all (is_in_scope (with_sorts (scope_of t) t.made)) os) h in
    and_from (is_var (sources t) o) (list_all (is_var (sources t)) os) (source_of t o p.0) (sources_all t os p.1)

pub speak_all : (t : StatementView) (ls : List Lit) → list_all (all_in_scope (with_sorts (scope_of t) t.made)) ls ≡ true → list_all (speaks_of (sources t)) ls ≡ true
speak_all t [] h = refl
speak_all t (l ∷ ls) h =
    let p = and_parts (all_in_scope (with_sorts (scope_of t) t.made) l) (list_all (all_in_scope (with_sorts (scope_of t) t.made)) ls) h in
    and_from (speaks_of (sources t) l) (list_all (speaks_of (sources t)) ls) (sources_all t (objects_of_atom l.atom) p.0) (speak_all t ls p.1)

-- the arguments still fit
pub arguments_at : (kept : List Obj) (t : StatementView) (s : Scope) (args : List Obj) → are_arguments t s args ≡ true → AllKept kept args → are_arguments t (scope_kept kept) (map (obj_at kept) args) ≡ true
arguments_at kept t s args h k = of_sorts_at kept s t.declared args h k

-- literals of a statement at a use, over the kept objects and the new ones
pub use_at : (kept : List Obj) (t : StatementView) (s : Scope) (args : List Obj) (ls : List Lit) → Bound s kept → AllKept kept args → are_arguments t s args ≡ true → list_all (all_in_scope (with_sorts (scope_of t) t.made)) ls ≡ true
    → map (with_images (image_in_use t (map (obj_at kept) args) (scope_kept kept))) ls ≡ map (lit_among_kept (kept ++ next_objects s t.made)) (map (with_images (image_in_use t args s)) ls)
use_at kept t s args ls b k h spoken =
    let more = kept ++ next_objects s t.made in
    use_pairs t (map (obj_at kept) args) (scope_kept kept) ls (arguments_at kept t s args h k)
    ∙ ap (λ os. map (with_images (image_in (pairs_of (sources t) os))) ls) (sym (map_targets kept t args s b k))
    ∙ at_vars more (sources t) (targets t args s) ls (sorts_agree t args s h) (speak_all t ls spoken)
    ∙ ap (map (lit_among_kept more)) (sym (use_pairs t args s ls h))

-- ---- goals

-- without images a literal stays
unmoved_term : (t : Term) → term_at (number_at (image_in []) Point) t ≡ t
unmoved_term (terms.Seg a b) = refl
unmoved_term (terms.Ang a b c) = refl
unmoved_term (terms.Area a b c) = refl
unmoved_term terms.Right = refl

unmoved_sum : (ms : List Mono) → map (mono_at (number_at (image_in []) Point)) ms ≡ ms
unmoved_sum [] = refl
unmoved_sum (m ∷ ms) = ap (λ t. record { coeff = m.coeff; term = t } ∷ map (mono_at (number_at (image_in []) Point)) ms) (unmoved_term m.term) ∙ ap (λ xs. m ∷ xs) (unmoved_sum ms)

unmoved_atom : (a : Atom) → atom_at (number_at (image_in []) Point) (number_at (image_in []) Line) (number_at (image_in []) Circle) a ≡ a
unmoved_atom (atoms.MagEq x y) = ap (λ n. atoms.MagEq n (map (mono_at (number_at (image_in []) Point)) y)) (unmoved_sum x) ∙ ap (atoms.MagEq x) (unmoved_sum y)
unmoved_atom (atoms.MagLt x y) = ap (λ n. atoms.MagLt n (map (mono_at (number_at (image_in []) Point)) y)) (unmoved_sum x) ∙ ap (atoms.MagLt x) (unmoved_sum y)
unmoved_atom a = refl

pub unmoved : (ls : List Lit) → map (with_images (image_in [])) ls ≡ ls
unmoved [] = refl
unmoved (l ∷ ls) = ap (λ a. record { neg = l.neg; atom = a } ∷ map (with_images (image_in [])) ls) (unmoved_atom l.atom) ∙ ap (λ xs. l ∷ xs) (unmoved ls)

-- the literals of a goal without made objects
pub goal_plain : (kept : List Obj) (shown : List Lit) → map (with_images (image_in [])) (map (lit_among_kept kept) shown) ≡ map (lit_among_kept kept) (map (with_images (image_in [])) shown)
goal_plain kept shown = unmoved (map (lit_among_kept kept) shown) ∙ ap (map (lit_among_kept kept)) (sym (unmoved shown))

-- ---- what literals at images speak of

pub image_member : (vars args : List Obj) (o x : Obj) → image_in (pairs_of vars args) o ≡ Some x → In x args
image_member [] args o x e = absurd cc
image_member (v ∷ vars) [] o x e = absurd cc
image_member (v ∷ vars) (a ∷ args) o x e = by (same_obj v o) (image_member vars args o x) e
  where
    some_is : (y z : Obj) → Some y ≡ Some z → y ≡ z
    some_is y z k = cc

    by : (b : Bool) → (image_in (pairs_of vars args) o ≡ Some x → In x args) → cond b (Some a) (image_in (pairs_of vars args) o) ≡ Some x → In x (a ∷ args)
    by true more k = inl (some_is a x k)
    by false more k = inr (more k)

-- a literal that speaks of variables is, at arguments that are kept, over the kept objects
pub vars_over : (kept vars args : List Obj) (ls : List Lit) → sorts vars ≡ sorts args → list_all (speaks_of vars) ls ≡ true → AllKept kept args → OverLits kept (map (with_images (image_in (pairs_of vars args))) ls)
vars_over kept vars args [] z h k m i = absurd i
vars_over kept vars args (l ∷ ls) z h k m (inr i) = vars_over kept vars args ls z (and_parts (speaks_of vars l) (list_all (speaks_of vars) ls) h).1 k m i
vars_over kept vars args (l ∷ ls) z h k m (inl e) = subst (OverLit kept) e one
  where
    there : (x : Option Obj) → is_some x ≡ true → (y : Obj) × (x ≡ Some y)
    there None n = absurd (true≢false (sym n))
    there (Some y) n = (y, refl)

    spoken : speaks_of vars l ≡ true
    spoken = (and_parts (speaks_of vars l) (list_all (speaks_of vars) ls) h).0

    one : OverLit kept (with_images (image_in (pairs_of vars args)) l)
    one x i =
        let o = object_from (number_at (image_in (pairs_of vars args))) l.atom x i in
        let y = there (image_in (pairs_of vars args) o.0) (var_image vars args o.0 z (all_in (is_var vars) (objects_of_atom l.atom) o.0 spoken o.1)) in
        let sort = image_sort vars args o.0 y.0 z y.1 in
        let num = ap (λ w. option_map_or (λ (v : Obj). v.num) w o.0.num) y.1 in
        let is : y.0 ≡ x = ap (λ s. obj s y.0.num) sort ∙ ap (obj o.0.sort) (sym num) ∙ o.2 in
        k x (subst (λ w. In w args) is (image_member vars args o.0 y.0 y.1))

-- a new object is one of the next ones
pub next_in : (b : Scope) (xs : List Sort) (o : Obj) → count_of b o.sort ≤ o.num → o.num < count_of (with_sorts b xs) o.sort → In o (next_objects b xs)
next_in b xs o h k = of_vars (next_objects b xs) o (next_member b xs o h k)
  where
    of_vars : (vs : List Obj) (o : Obj) → is_var vs o ≡ true → In o vs
    of_vars [] o e = absurd (true≢false (sym e))
    of_vars (v ∷ vs) o e = elim (or_cases (same_obj v o) (is_var vs o) e) [
      | inl f ↦ inl (same_obj_is v o f)
      | inr f ↦ inr (of_vars vs o f)
    ]

-- ---- what a construction needs and gives speaks of its arguments, and of what it makes

over_append : (kept : List Obj) (xs ys : List Lit) → OverLits kept xs → OverLits kept ys → OverLits kept (xs ++ ys)
over_append kept xs ys h k l i = elim (in_either l xs ys i) [
  | inl j ↦ h l j
  | inr j ↦ k l j
]

over_map : (kept : List Obj) (f : Obj → Lit) (os : List Obj) → ((y : Obj) → In y os → OverLit kept (f y)) → OverLits kept (map f os)
over_map kept f [] h l i = absurd i
over_map kept f (o ∷ os) h l (inl e) = subst (OverLit kept) e (h o (inl refl))
over_map kept f (o ∷ os) h l (inr i) = over_map kept f os (λ y j. h y (inr j)) l i

unequal_over : (kept : List Obj) (x y : Obj) → In x kept → In y kept → x.sort ≡ y.sort → OverLit kept (inequality x y)
unequal_over kept x y h k e = by x.sort x.num y.num h (subst (λ s. In (obj s y.num) kept) (sym e) k)
  where
    by : (s : Sort) (m n : ℕ) → In (obj s m) kept → In (obj s n) kept → OverLit kept (inequality (obj s m) (obj s n))
    by Point m n h k o i = elim i [ inl f ↦ subst (λ z. In z kept) f h | inr j ↦ elim j [ inl f ↦ subst (λ z. In z kept) f k | inr f ↦ absurd f ] ]
    by Line m n h k o i = elim i [ inl f ↦ subst (λ z. In z kept) f h | inr j ↦ elim j [ inl f ↦ subst (λ z. In z kept) f k | inr f ↦ absurd f ] ]
    by Circle m n h k o i = elim i [ inl f ↦ subst (λ z. In z kept) f h | inr j ↦ elim j [ inl f ↦ subst (λ z. In z kept) f k | inr f ↦ absurd f ] ]

avoiding_over : (kept : List Obj) (p y : Obj) → In p kept → In y kept → p.sort ≡ Point → OverLit kept (avoidance p y)
avoiding_over kept p y h k e = by y.sort p.num y.num (subst (λ s. In (obj s p.num) kept) e h) k
  where
    by : (s : Sort) (m n : ℕ) → In (obj Point m) kept → In (obj s n) kept → OverLit kept (avoidance (obj Point m) (obj s n))
    by Point m n h k o i = elim i [ inl f ↦ subst (λ z. In z kept) f h | inr j ↦ elim j [ inl f ↦ subst (λ z. In z kept) f k | inr f ↦ absurd f ] ]
    by Line m n h k o i = elim i [ inl f ↦ subst (λ z. In z kept) f h | inr j ↦ elim j [ inl f ↦ subst (λ z. In z kept) f k | inr f ↦ absurd f ] ]
    by Circle m n h k o i = elim i [ inl f ↦ subst (λ z. In z kept) f h | inr j ↦ elim j [ inl f ↦ subst (λ z. In z kept) f k | inr f ↦ absurd f ] ]

in_sorted : (s : Sort) (os : List Obj) (y : Obj) → In y (of_sort s os) → In y os
in_sorted s [] y i = absurd i
in_sorted s (o ∷ os) y i = by (same_sort s o.sort) (in_sorted s os y) i
  where
    by : (b : Bool) → (In y (of_sort s os) → In y os) → In y (cond b (o ∷ of_sort s os) (of_sort s os)) → In y (o ∷ os)
    by true more (inl f) = inl f
    by true more (inr j) = inr (more j)
    by false more j = inr (more j)

argument_in : (r : ShapeRow) (args : List Obj) (o : Obj) → sorts r.args ≡ sorts args → is_var r.args o ≡ true → In (argument r args o) args
argument_in r args o s h = by (image_in (pairs_of r.args args) o) refl (var_image r.args args o s h)
  where
    by : (x : Option Obj) → image_in (pairs_of r.args args) o ≡ x → is_some x ≡ true → In (unwrap_or x o) args
    by None e k = absurd (true≢false (sym k))
    by (Some y) e k = image_member r.args args o y e

apart_over : (kept : List Obj) (r : ShapeRow) (a : Avoids) (args os : List Obj) → sorts r.args ≡ sorts args → avoids_closed r a ≡ true → AllKept kept args → AllKept kept os → OverLits kept (needs_of_avoided a (argument r args) os)
apart_over kept r NoObject args os z h k j = λ l i. absurd i
apart_over kept r AnyObject args os z h k j = λ l i. absurd i
apart_over kept r (AnyApartFrom o) args os z h k j =
    let v = (and_parts (begins_with_point r.made) (is_var r.args o) h).1 in
    let q = argument_at kept r args o z v in
    over_map kept (inequality (argument r args o)) (of_sort o.sort os) (λ y i. unequal_over kept (argument r args o) y (k (argument r args o) (argument_in r args o z v)) (j y (in_sorted o.sort os y i)) (q.1 ∙ are_of_sort o.sort os y i))

pub needs_over : (kept : List Obj) (s : Scope) (construction : Construction) → fits_construction construction s ≡ true → AllKept kept (construction.args ++ construction.avoid) → OverLits kept (needs_of_construction construction)
needs_over kept s construction h k =
    let r = row_of_construction construction in
    let p = and_parts (are_of_sorts s (sorts_of r.args) construction.args) (avoids_well s r.avoids construction.avoid) h in
    let z = sorts_are s (sorts_of r.args) construction.args p.0 in
    let q = and_parts (list_all (speaks_of r.args) r.needs) (list_all (speaks_of (r.args ++ r.made)) r.gives && avoids_closed r r.avoids) (closed construction.shape) in
    let w = and_parts (list_all (speaks_of (r.args ++ r.made)) r.gives) (avoids_closed r r.avoids) q.1 in
    over_append kept (map (with_images (image_in (pairs_of r.args construction.args))) r.needs) (needs_of_avoided r.avoids (argument r construction.args) construction.avoid)
    (vars_over kept r.args construction.args r.needs z q.0 (λ o i. k o (in_left o construction.args construction.avoid i)))
    (apart_over kept r r.avoids construction.args construction.avoid z w.1 (λ o i. k o (in_left o construction.args construction.avoid i)) (λ o i. k o (in_right o construction.args construction.avoid i)))

off_over : (kept : List Obj) (s : Scope) (new os : List Obj) → AllKept kept os → begins_with_point new ≡ true → OverLits (kept ++ next_objects s (sorts new)) (gives_of_avoided (next_objects s (sorts new)) os)
off_over kept s [] os k h = absurd (true≢false (sym h))
off_over kept s (p ∷ new) os k h =
    let next = next_objects s (sorts (p ∷ new)) in
    let head = obj p.sort (count_of s p.sort) in
    over_map (kept ++ next) (avoidance head) os (λ y i. avoiding_over (kept ++ next) head y (in_right head kept next (inl refl)) (in_left y kept next (k y i)) (same_sort_is p.sort Point h))

avoided_over : (kept : List Obj) (s : Scope) (r : ShapeRow) (a : Avoids) (os : List Obj) → AllKept kept os → avoids_closed r a ≡ true → avoids_well s a os ≡ true → OverLits (kept ++ next_objects s (sorts r.made)) (gives_of_avoided (next_objects s (sorts r.made)) os)
avoided_over kept s r NoObject os k h w =
    let e = no_objects os w in
    subst (λ xs. OverLits (kept ++ next_objects s (sorts r.made)) (gives_of_avoided (next_objects s (sorts r.made)) xs)) (sym e)
    (subst (OverLits (kept ++ next_objects s (sorts r.made))) (sym (none_avoided (next_objects s (sorts r.made)))) (λ l i. absurd i))
avoided_over kept s r AnyObject os k h w = off_over kept s r.made os k h
avoided_over kept s r (AnyApartFrom o) os k h w = off_over kept s r.made os k (and_parts (begins_with_point r.made) (is_var r.args o) h).0

-- literals of arguments and new objects are over the kept ones and the new ones
pub new_vars_over : (kept : List Obj) (s : Scope) (vars new args : List Obj) (ls : List Lit) → AllKept kept args → sorts vars ≡ sorts args → list_all (speaks_of (vars ++ new)) ls ≡ true
    → OverLits (kept ++ next_objects s (sorts new)) (map (with_images (image_in (pairs_of vars args ++ pairs_of new (next_objects s (sorts new))))) ls)
new_vars_over kept s vars new args ls k z h =
    let next = next_objects s (sorts new) in
    let same_sorts : sorts (vars ++ new) ≡ sorts (args ++ next)
    = map-append (λ (o : Obj). o.sort) vars new ∙ ap (λ xs. xs ++ sorts new) z ∙ ap (λ xs. sorts args ++ xs) (sym (sorts_next s (sorts new))) ∙ sym (map-append (λ (o : Obj). o.sort) args next) in
    let over : AllKept (kept ++ next) (args ++ next)
    = λ o i. elim (in_either o args next i) [ inl j ↦ in_left o kept next (k o j) | inr j ↦ in_right o kept next j ] in
    subst (λ ps. OverLits (kept ++ next) (map (with_images (image_in ps)) ls)) (pairs_both vars new args next z) (vars_over (kept ++ next) (vars ++ new) (args ++ next) ls same_sorts h over)

pub gives_over : (kept : List Obj) (s : Scope) (construction : Construction) → fits_construction construction s ≡ true → AllKept kept (construction.args ++ construction.avoid) → OverLits (kept ++ next_objects s (sorts_made construction)) (gives_of_construction construction s)
gives_over kept s construction h k =
    let r = row_of_construction construction in
    let p = and_parts (are_of_sorts s (sorts_of r.args) construction.args) (avoids_well s r.avoids construction.avoid) h in
    let z = sorts_are s (sorts_of r.args) construction.args p.0 in
    let q = and_parts (list_all (speaks_of r.args) r.needs) (list_all (speaks_of (r.args ++ r.made)) r.gives && avoids_closed r r.avoids) (closed construction.shape) in
    let w = and_parts (list_all (speaks_of (r.args ++ r.made)) r.gives) (avoids_closed r r.avoids) q.1 in
    over_append (kept ++ next_objects s (sorts_made construction)) (map (with_images (image_in (pairs_of r.args construction.args ++ pairs_of r.made (made_by_row r s)))) r.gives) (gives_of_avoided (made_by_row r s) construction.avoid)
    (new_vars_over kept s r.args r.made construction.args r.gives (λ o i. k o (in_left o construction.args construction.avoid i)) z w.0)
    (avoided_over kept s r r.avoids construction.avoid (λ o i. k o (in_right o construction.args construction.avoid i)) w.1 p.1)

pub superposition_needs_over : (kept : List Obj) (s : Scope) (x : Superpose) → superposing.fits_superposition x s ≡ true → AllKept kept (superposing.objects_of x) → OverLits kept (superposing.needs_of_superposition x)
superposition_needs_over kept s x h k =
    vars_over kept superposing.superposed_args (superposing.objects_of x) superposing.superposed_needs (sorts_are s (sorts_of superposing.superposed_args) (superposing.objects_of x) h) closed_needs k

pub superposition_gives_over : (kept : List Obj) (s : Scope) (x : Superpose) → superposing.fits_superposition x s ≡ true → AllKept kept (superposing.objects_of x) → OverLits (kept ++ next_objects s superposing.sorts_copied) (superposing.gives_of_superposition x s)
superposition_gives_over kept s x h k =
    new_vars_over kept s superposing.superposed_args superposing.copies (superposing.objects_of x) superposing.superposed_gives k (sorts_are s (sorts_of superposing.superposed_args) (superposing.objects_of x) h) closed_gives
