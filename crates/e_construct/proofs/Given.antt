-- What a construction or a superposition needs and gives is in scope. What a construction needs and
-- gives, and what a superposition needs, compares no magnitudes; what a superposition gives is well
-- formed.
use Rattle.std.proofs.Common.{◌≡◌, ℕ, ◌+◌, ◌<◌, Bool, true, false, cond, ltb, eqb, ◌&&◌, ◌||◌, List, [], ◌∷◌, ◌++◌, length, map, Option, Some, None, refl, sym, subst, ◌∙◌, arith}
use Rattle.std.specs.Prelude.{unwrap_or}
use Rattle.std.specs.Option.{option_map_or}
use Rattle.std.specs.List.{list_all, list_any}
use Rattle.std.proofs.lemmas.Bool.{lt-ltb, eqb-true, and_parts}
use Rattle.std.proofs.lemmas.List.{append-nil}
use Rattle.std.proofs.lemmas.List.Folds.{list_all-append}
use Rattle.e_literal.specs.declared.object.Sort.{Sort}
use Rattle.e_literal.specs.declared.object.Sort.TheVariants.{Point, Line, Circle}
use Rattle.e_literal.specs.declared.object.Obj.{Obj}
use Rattle.e_literal.specs.declared.object.Scope.{Scope}
use Rattle.e_literal.specs.declared.literal.Lit.{Lit}
use Rattle.e_literal.specs.Literal.{obj, count_of, is_in_scope, objects_of_atom, all_in_scope}
use Rattle.e_literal.specs.Scopes.{same_sort, with_one, with_sorts, next_objects, are_of_sorts}
use Rattle.e_literal.specs.declared.map.Entry.{Entry}
use Rattle.e_literal.specs.Rename.{with_images, same_obj, image_in, pairs_of}
use Rattle.e_construct.specs.declared.construction.Shape.{Shape}
use Rattle.e_construct.specs.declared.construction.Shape.TheVariants.{Free}
use Rattle.e_construct.specs.declared.construction.Construction.{Construction}
use Rattle.e_construct.specs.Shapes.{ShapeRow, Avoids, NoObject, AnyObject, AnyApartFrom, shape_row}
use Rattle.e_construct.specs.Construct.{row_of_construction, sorts_of, avoids_well, fits_construction, equation, inequality, argument, of_sort, needs_of_avoided, needs_of_construction, sorts_made, incidence_atom, avoidance, gives_of_avoided, gives_of_construction}
use Rattle.e_construct.specs.declared.superpose.Superpose.{Superpose}
use Rattle.e_construct.specs.Superposing as superposing
use Rattle.e_literal.specs.WellFormed.{is_well_formed_atom, is_well_formed}
use Rattle.e_literal.specs.declared.literal.Atom.{Atom}
use Rattle.e_literal.specs.declared.literal.Atom.TheVariants as atoms
use Rattle.e_literal.proofs.WithImages.{is_moved_in}
use Rattle.e_literal.proofs.Sorts.{same_sort_is, same_sort_self}
use Rattle.e_literal.proofs.GrownScopes.{count_one}
use Rattle.e_construct.proofs.Moving.{every, moved_lit, is_plain, renamed_plain, Within, in_more, of_sorts_more, grows}

-- in scope, and no comparison of magnitudes
abbrev pub is_fine : Scope → Lit → Bool
is_fine s l = all_in_scope s l && is_plain l

-- ---- the table

abbrev is_letter : List Obj → Obj → Bool
is_letter ls o = list_any (λ l. same_obj l o) ls

-- the literal is over these letters
abbrev is_over : List Obj → List Obj → Lit → Bool
is_over args made l = list_all (λ o. is_letter args o || is_letter made o) (objects_of_atom l.atom)

abbrev is_point_first : List Obj → Bool
is_point_first [] = false
is_point_first (o ∷ os) = same_sort Point o.sort

-- where objects are avoided a point is made
abbrev avoids_by_point : Avoids → List Obj → List Obj → Bool
avoids_by_point NoObject args made = true
avoids_by_point AnyObject args made = is_point_first made
avoids_by_point (AnyApartFrom o) args made = is_letter args o && is_point_first made

record GoodRow (r : ShapeRow) : Type 0 where
  needs : list_all (is_over r.args []) r.needs ≡ true
  gives : list_all (is_over r.args r.made) r.gives ≡ true
  needs_plain : list_all is_plain r.needs ≡ true
  gives_plain : list_all is_plain r.gives ≡ true
  avoids : avoids_by_point r.avoids r.args r.made ≡ true

good_row : (sh : Shape) → GoodRow (shape_row sh)
unfolding shape_row
good_row Free = record { needs = refl; gives = refl; needs_plain = refl; gives_plain = refl; avoids = refl }
good_row sh = record { needs = refl; gives = refl; needs_plain = refl; gives_plain = refl; avoids = refl }

-- ---- objects for letters

abbrev suits : Scope → Obj → Obj → Bool
suits s o i = same_sort o.sort i.sort && is_in_scope s i

-- the object has an image, of its sort and in scope
abbrev lands : Scope → List Entry → Obj → Bool
lands s es o = option_map_or (suits s o) (image_in es o) false

first_or : (s : Scope) (o t : Obj) (rest : Option Obj) (b : Bool) → (b ≡ true → suits s o t ≡ true) → (b ≡ false → option_map_or (suits s o) rest false ≡ true)
    → option_map_or (suits s o) (cond b (Some t) rest) false ≡ true
first_or s o t rest true h k = h refl
first_or s o t rest false h k = k refl

other : (x y b : Bool) → x ≡ false → ((x || y) || b) ≡ true → (y || b) ≡ true
other true y b e h = absurd cc
other false y b e h = h

lands_after : (s : Scope) (ls os : List Obj) (es : List Entry) (o : Obj) (b : Bool) → are_of_sorts s (sorts_of ls) os ≡ true → (is_letter ls o || b) ≡ true → (b ≡ true → lands s es o ≡ true)
    → lands s (pairs_of ls os ++ es) o ≡ true
lands_after s [] [] es o b f h k = k h
lands_after s [] (t ∷ os) es o b f h k = absurd cc
lands_after s (l ∷ ls) [] es o b f h k = absurd cc
lands_after s (l ∷ ls) (t ∷ os) es o b f h k =
    let p = and_parts (same_sort l.sort t.sort) (is_in_scope s t && are_of_sorts s (sorts_of ls) os) f in
    let q = and_parts (is_in_scope s t) (are_of_sorts s (sorts_of ls) os) p.1 in
    let here : same_obj l o ≡ true → suits s o t ≡ true = λ e.
    rw (subst (λ (y : Sort). same_sort y t.sort ≡ true) (same_sort_is l.sort o.sort (and_parts (same_sort l.sort o.sort) (eqb l.num o.num) e).0) p.0, q.0) refl in
    first_or s o t (image_in (pairs_of ls os ++ es) o) (same_obj l o) here
    (λ e. lands_after s ls os es o b q.1 (other (same_obj l o) (is_letter ls o) b e h) k)

none_else : {X : Type 0} → false ≡ true → X
none_else e = absurd cc

lands_paired : (s : Scope) (ls os : List Obj) (o : Obj) → are_of_sorts s (sorts_of ls) os ≡ true → (is_letter ls o || false) ≡ true → lands s (pairs_of ls os) o ≡ true
lands_paired s ls os o f h =
    subst (λ (es : List Entry). lands s es o ≡ true) (append-nil (pairs_of ls os)) (lands_after s ls os [] o false f h (λ e. none_else e))

number_lands : (s : Scope) (sort : Sort) (n : ℕ) (v : Option Obj) → option_map_or (suits s (obj sort n)) v false ≡ true → ltb (option_map_or (λ (i : Obj). i.num) v n) (count_of s sort) ≡ true
number_lands s sort n None h = absurd cc
number_lands s sort n (Some i) h =
    let p = and_parts (same_sort sort i.sort) (is_in_scope s i) h in
    subst (λ (y : Sort). ltb i.num (count_of s y) ≡ true) (sym (same_sort_is sort i.sort p.0)) p.1

lands_moved : (s : Scope) (es : List Entry) (o : Obj) → lands s es o ≡ true → is_moved_in s (image_in es) o ≡ true
lands_moved s es o h = number_lands s o.sort o.num (image_in es o) h

-- literals over letters that have images in scope
fine_renamed : (s : Scope) (es : List Entry) (args made : List Obj) → ((o : Obj) → (is_letter args o || is_letter made o) ≡ true → lands s es o ≡ true)
    → (ls : List Lit) → list_all (is_over args made) ls ≡ true → list_all is_plain ls ≡ true → list_all (is_fine s) (map (with_images (image_in es)) ls) ≡ true
fine_renamed s es args made land [] h d = refl
fine_renamed s es args made land (l ∷ ls) h d =
    let p = and_parts (is_over args made l) (list_all (is_over args made) ls) h in
    let q = and_parts (is_plain l) (list_all is_plain ls) d in
    let here = moved_lit s (image_in es) l (every (λ (o : Obj). is_letter args o || is_letter made o) (is_moved_in s (image_in es)) (λ o i. lands_moved s es o (land o i)) (objects_of_atom l.atom) p.0) in
    rw (here, renamed_plain (image_in es) l q.0, fine_renamed s es args made land ls p.1 q.1) refl

-- ---- avoided objects

fine_equation : (s : Scope) (sort : Sort) (m n : ℕ) → ltb m (count_of s sort) ≡ true → ltb n (count_of s sort) ≡ true → (list_all (is_in_scope s) (objects_of_atom (equation sort m n)) && is_plain (record { neg = true; atom = equation sort m n })) ≡ true
fine_equation s Point m n h k = rw (h, k) refl
fine_equation s Line m n h k = rw (h, k) refl
fine_equation s Circle m n h k = rw (h, k) refl

fine_meeting : (s : Scope) (sort : Sort) (m n : ℕ) → ltb m s.points ≡ true → ltb n (count_of s sort) ≡ true → (list_all (is_in_scope s) (objects_of_atom (incidence_atom sort m n)) && is_plain (record { neg = true; atom = incidence_atom sort m n })) ≡ true
fine_meeting s Point m n h k = rw (h, k) refl
fine_meeting s Line m n h k = rw (h, k) refl
fine_meeting s Circle m n h k = rw (h, k) refl

fine_next : (s : Scope) (x y : Obj) (rest : List Obj) (b : Bool) → (b ≡ true → is_fine s (inequality x y) ≡ true) → list_all (is_fine s) (map (inequality x) rest) ≡ true
    → list_all (is_fine s) (map (inequality x) (cond b (y ∷ rest) rest)) ≡ true
fine_next s x y rest true h k = rw (h refl, k) refl
fine_next s x y rest false h k = k

fine_inequality : (s : Scope) (x : Obj) (sort : Sort) (os : List Obj) → suits s (obj sort 0) x ≡ true → list_all (is_in_scope s) os ≡ true → list_all (is_fine s) (map (inequality x) (of_sort sort os)) ≡ true
fine_inequality s x sort [] h k = refl
fine_inequality s x sort (y ∷ os) h k =
    let p = and_parts (same_sort sort x.sort) (is_in_scope s x) h in
    let q = and_parts (is_in_scope s y) (list_all (is_in_scope s) os) k in
    fine_next s x y (of_sort sort os) (same_sort sort y.sort)
    (λ e. fine_equation s x.sort x.num y.num p.1 (subst (λ (z : Sort). ltb y.num (count_of s z) ≡ true) (sym (same_sort_is sort y.sort e) ∙ same_sort_is sort x.sort p.0) q.0))
    (fine_inequality s x sort os h q.1)

found : (s : Scope) (o : Obj) (v : Option Obj) → option_map_or (suits s o) v false ≡ true → suits s o (unwrap_or v o) ≡ true
found s o None h = absurd cc
found s o (Some i) h = h

or_none : (b : Bool) → b ≡ true → (b || false) ≡ true
or_none true e = refl
or_none false e = e

fine_needs_avoided : (s : Scope) (r : ShapeRow) (a : Avoids) (args avoid : List Obj) → are_of_sorts s (sorts_of r.args) args ≡ true → avoids_by_point a r.args r.made ≡ true → avoids_well s a avoid ≡ true
    → list_all (is_fine s) (needs_of_avoided a (argument r args) avoid) ≡ true
fine_needs_avoided s r NoObject args avoid f h k = refl
fine_needs_avoided s r AnyObject args avoid f h k = refl
fine_needs_avoided s r (AnyApartFrom o) args avoid f h k =
    let p = and_parts (is_letter r.args o) (is_point_first r.made) h in
    fine_inequality s (argument r args o) o.sort avoid (found s o (image_in (pairs_of r.args args) o) (lands_paired s r.args args o f (or_none (is_letter r.args o) p.0))) k

fine_avoidance : (t : Scope) (p : Obj) (os : List Obj) → p.sort ≡ Point → is_in_scope t p ≡ true → list_all (is_in_scope t) os ≡ true → list_all (is_fine t) (map (avoidance p) os) ≡ true
fine_avoidance t p [] e h k = refl
fine_avoidance t p (y ∷ os) e h k =
    let q = and_parts (is_in_scope t y) (list_all (is_in_scope t) os) k in
    let point : ltb p.num t.points ≡ true = subst (λ (z : Sort). ltb p.num (count_of t z) ≡ true) e h in
    rw (fine_meeting t y.sort p.num y.num point q.0, fine_avoidance t p os e h q.1) refl

-- ---- new objects

new_of_sorts : (s t : Scope) (sorts : List Sort) → Within (with_sorts s sorts) t → are_of_sorts t sorts (next_objects s sorts) ≡ true
new_of_sorts s t [] w = refl
new_of_sorts s t (x ∷ sorts) w =
    let here : count_of s x < count_of t x = omega (arith, count_one s x, grows (with_one s x) sorts x, w x) in
    rw (same_sort_self x, lt-ltb (count_of s x) (count_of t x) here, new_of_sorts (with_one s x) t sorts w) refl

fine_points : (s t : Scope) (made avoid : List Obj) → is_point_first made ≡ true → are_of_sorts t (sorts_of made) (next_objects s (sorts_of made)) ≡ true → list_all (is_in_scope t) avoid ≡ true
    → list_all (is_fine t) (gives_of_avoided (next_objects s (sorts_of made)) avoid) ≡ true
fine_points s t [] avoid h f k = absurd cc
fine_points s t (o ∷ made) avoid h f k =
    let new : Obj = obj o.sort (count_of s o.sort) in
    let rest = next_objects (with_one s o.sort) (sorts_of made) in
    let p = and_parts (same_sort o.sort o.sort) (is_in_scope t new && are_of_sorts t (sorts_of made) rest) f in
    let q = and_parts (is_in_scope t new) (are_of_sorts t (sorts_of made) rest) p.1 in
    fine_avoidance t new avoid (sym (same_sort_is Point o.sort h)) q.0 k

none_avoided : (t : Scope) (ps : List Obj) → list_all (is_fine t) (gives_of_avoided ps []) ≡ true
none_avoided t [] = refl
none_avoided t (p ∷ ps) = refl

fine_gives_avoided : (s t : Scope) (r : ShapeRow) (a : Avoids) (avoid : List Obj) → Within s t → avoids_by_point a r.args r.made ≡ true → avoids_well s a avoid ≡ true
    → are_of_sorts t (sorts_of r.made) (next_objects s (sorts_of r.made)) ≡ true → list_all (is_fine t) (gives_of_avoided (next_objects s (sorts_of r.made)) avoid) ≡ true
fine_gives_avoided s t r NoObject [] w h k f = none_avoided t (next_objects s (sorts_of r.made))
fine_gives_avoided s t r NoObject (o ∷ avoid) w h k f = let n = eqb-true (length (o ∷ avoid)) 0 k in absurd (omega (arith, n))
fine_gives_avoided s t r AnyObject avoid w h k f = fine_points s t r.made avoid h f (every (is_in_scope s) (is_in_scope t) (in_more s t w) avoid k)
fine_gives_avoided s t r (AnyApartFrom o) avoid w h k f =
    fine_points s t r.made avoid (and_parts (is_letter r.args o) (is_point_first r.made) h).1 f (every (is_in_scope s) (is_in_scope t) (in_more s t w) avoid k)

-- ---- the whole

pub fine_needs : (form : Construction) (s : Scope) → fits_construction form s ≡ true → list_all (is_fine s) (needs_of_construction form) ≡ true
fine_needs form s h =
    let r = row_of_construction form in
    let g = good_row form.shape in
    let p = and_parts (are_of_sorts s (sorts_of r.args) form.args) (avoids_well s r.avoids form.avoid) h in
    let es = pairs_of r.args form.args in
    let first = fine_renamed s es r.args [] (λ o i. lands_paired s r.args form.args o p.0 i) r.needs g.needs g.needs_plain in
    list_all-append (is_fine s) (map (with_images (image_in es)) r.needs) (needs_of_avoided r.avoids (argument r form.args) form.avoid)
    ∙ rw (first, fine_needs_avoided s r r.avoids form.args form.avoid p.0 g.avoids p.1) refl

pub fine_gives : (form : Construction) (s : Scope) → fits_construction form s ≡ true → list_all (is_fine (with_sorts s (sorts_made form))) (gives_of_construction form s) ≡ true
fine_gives form s h =
    let r = row_of_construction form in
    let g = good_row form.shape in
    let t = with_sorts s (sorts_made form) in
    let w : Within s t = grows s (sorts_made form) in
    let p = and_parts (are_of_sorts s (sorts_of r.args) form.args) (avoids_well s r.avoids form.avoid) h in
    let args = of_sorts_more s t w (sorts_of r.args) form.args p.0 in
    let new = next_objects s (sorts_of r.made) in
    let made_are : are_of_sorts t (sorts_of r.made) new ≡ true = new_of_sorts s t (sorts_of r.made) (λ sort. omega arith) in
    let es = pairs_of r.args form.args ++ pairs_of r.made new in
    let land : (o : Obj) → (is_letter r.args o || is_letter r.made o) ≡ true → lands t es o ≡ true = λ o i.
    lands_after t r.args form.args (pairs_of r.made new) o (is_letter r.made o) args i (λ e. lands_paired t r.made new o made_are (or_none (is_letter r.made o) e)) in
    let first = fine_renamed t es r.args r.made land r.gives g.gives g.gives_plain in
    list_all-append (is_fine t) (map (with_images (image_in es)) r.gives) (gives_of_avoided new form.avoid)
    ∙ rw (first, fine_gives_avoided s t r r.avoids form.avoid w g.avoids p.1 made_are) refl

pub needs_in_scope : (form : Construction) (s : Scope) → fits_construction form s ≡ true → list_all (all_in_scope s) (needs_of_construction form) ≡ true
needs_in_scope form s h = every (is_fine s) (all_in_scope s) (λ l k. (and_parts (all_in_scope s l) (is_plain l) k).0) (needs_of_construction form) (fine_needs form s h)

pub needs_plain : (form : Construction) (s : Scope) → fits_construction form s ≡ true → list_all is_plain (needs_of_construction form) ≡ true
needs_plain form s h = every (is_fine s) is_plain (λ l k. (and_parts (all_in_scope s l) (is_plain l) k).1) (needs_of_construction form) (fine_needs form s h)

pub gives_in_scope : (form : Construction) (s : Scope) → fits_construction form s ≡ true → list_all (all_in_scope (with_sorts s (sorts_made form))) (gives_of_construction form s) ≡ true
gives_in_scope form s h =
    let t = with_sorts s (sorts_made form) in
    every (is_fine t) (all_in_scope t) (λ l k. (and_parts (all_in_scope t l) (is_plain l) k).0) (gives_of_construction form s) (fine_gives form s h)

pub gives_plain : (form : Construction) (s : Scope) → fits_construction form s ≡ true → list_all is_plain (gives_of_construction form s) ≡ true
gives_plain form s h =
    let t = with_sorts s (sorts_made form) in
    every (is_fine t) is_plain (λ l k. (and_parts (all_in_scope t l) (is_plain l) k).1) (gives_of_construction form s) (fine_gives form s h)

-- ---- well formed

-- in scope, and well formed
abbrev pub is_well_formed_in : Scope → Lit → Bool
is_well_formed_in s l = all_in_scope s l && is_well_formed l

plain_atom_good : (n : Bool) (a : Atom) → is_plain (record { neg = n; atom = a }) ≡ true → is_well_formed_atom a ≡ true
plain_atom_good n (atoms.MagEq x y) h = absurd cc
plain_atom_good n (atoms.MagLt x y) h = absurd cc
plain_atom_good n a h = refl

fine_is_well_formed : (s : Scope) (l : Lit) → is_fine s l ≡ true → is_well_formed_in s l ≡ true
fine_is_well_formed s l h = let p = and_parts (all_in_scope s l) (is_plain l) h in rw (p.0, plain_atom_good l.neg l.atom p.1) refl

pub needs_good : (form : Construction) (s : Scope) → fits_construction form s ≡ true → list_all (is_well_formed_in s) (needs_of_construction form) ≡ true
needs_good form s h = every (is_fine s) (is_well_formed_in s) (fine_is_well_formed s) (needs_of_construction form) (fine_needs form s h)

pub gives_good : (form : Construction) (s : Scope) → fits_construction form s ≡ true → list_all (is_well_formed_in (with_sorts s (sorts_made form))) (gives_of_construction form s) ≡ true
gives_good form s h =
    let t = with_sorts s (sorts_made form) in
    every (is_fine t) (is_well_formed_in t) (fine_is_well_formed t) (gives_of_construction form s) (fine_gives form s h)

-- ---- a superposition

good_renamed : (s : Scope) (es : List Entry) (args made : List Obj) → ((o : Obj) → (is_letter args o || is_letter made o) ≡ true → lands s es o ≡ true)
    → (ls : List Lit) → list_all (is_over args made) ls ≡ true → list_all (λ l. is_well_formed (with_images (image_in es) l)) ls ≡ true
    → list_all (is_well_formed_in s) (map (with_images (image_in es)) ls) ≡ true
good_renamed s es args made land [] h d = refl
good_renamed s es args made land (l ∷ ls) h d =
    let p = and_parts (is_over args made l) (list_all (is_over args made) ls) h in
    let q = and_parts (is_well_formed (with_images (image_in es) l)) (list_all (λ l. is_well_formed (with_images (image_in es) l)) ls) d in
    let here = moved_lit s (image_in es) l (every (λ (o : Obj). is_letter args o || is_letter made o) (is_moved_in s (image_in es)) (λ o i. lands_moved s es o (land o i)) (objects_of_atom l.atom) p.0) in
    rw (here, q.0, good_renamed s es args made land ls p.1 q.1) refl

pub superposition_needs : (x : Superpose) (s : Scope) → superposing.fits_superposition x s ≡ true → list_all (is_fine s) (superposing.needs_of_superposition x) ≡ true
superposition_needs x s h =
    let os = superposing.objects_of x in
    fine_renamed s (pairs_of superposing.superposed_args os) superposing.superposed_args [] (λ o i. lands_paired s superposing.superposed_args os o h i) superposing.superposed_needs refl refl

pub superposition_gives : (x : Superpose) (s : Scope) → superposing.fits_superposition x s ≡ true → list_all (is_well_formed_in (with_sorts s superposing.sorts_copied)) (superposing.gives_of_superposition x s) ≡ true
superposition_gives x s h =
    let ls = superposing.superposed_args in
    let os = superposing.objects_of x in
    let t = with_sorts s superposing.sorts_copied in
    let w : Within s t = grows s superposing.sorts_copied in
    let new = next_objects s superposing.sorts_copied in
    let made_are : are_of_sorts t superposing.sorts_copied new ≡ true = new_of_sorts s t superposing.sorts_copied (λ sort. omega arith) in
    let es = pairs_of ls os ++ pairs_of superposing.copies new in
    let land : (o : Obj) → (is_letter ls o || is_letter superposing.copies o) ≡ true → lands t es o ≡ true = λ o i.
    lands_after t ls os (pairs_of superposing.copies new) o (is_letter superposing.copies o) (of_sorts_more s t w (sorts_of ls) os h) i
    (λ e. lands_paired t superposing.copies new o made_are (or_none (is_letter superposing.copies o) e)) in
    good_renamed t es ls superposing.copies land superposing.superposed_gives refl refl

pub superposition_needs_good : (x : Superpose) (s : Scope) → superposing.fits_superposition x s ≡ true → list_all (is_well_formed_in s) (superposing.needs_of_superposition x) ≡ true
superposition_needs_good x s h = every (is_fine s) (is_well_formed_in s) (fine_is_well_formed s) (superposing.needs_of_superposition x) (superposition_needs x s h)
