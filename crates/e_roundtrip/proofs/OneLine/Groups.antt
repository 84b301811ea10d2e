-- The lines of objects of which more are declared.
use Rattle.std.proofs.Common.{◌≡◌, ℕ, zero, suc, ◌<◌, Bool, true, false, cond, List, [], ◌∷◌, ◌++◌, length, map, get_or, refl, sym, ap, subst, ◌∙◌, arith, append_assoc, length-append}
use Rattle.std.specs.Prelude.{replicate}
use Rattle.std.proofs.lemmas.List.{get_or_append_left, get_or-append-add}
use Rattle.e_literal.specs.declared.object.Sort.{Sort}
use Rattle.e_literal.specs.declared.object.Sort.TheVariants.{Point, Line, Circle}
use Rattle.e_literal.specs.declared.object.Obj.{Obj}
use Rattle.e_literal.specs.declared.object.Scope.{Scope}
use Rattle.e_literal.specs.Literal.{obj, count_of}
use Rattle.e_literal.specs.Scopes.{same_sort, with_one, with_sorts, next_objects}
use Rattle.e_literal.proofs.Sorts.{same_sort_self}
use Rattle.e_literal.proofs.GrownScopes.{count_one}
use Rattle.e_deriv.specs.declared.names.Names.{Names}
use Rattle.e_deriv.specs.Naming.{names_of_sort, with_names}
use Rattle.e_names.specs.Scope.{scope_of_names}
use Rattle.e_names.specs.Canonical.{missing_name, name_at, name_of_object}
use Rattle.e_book.specs.Canonical.{Group, group, grouped_before, sort_groups}
use Rattle.e_read.specs.Owing.{ends_with}
use Rattle.e_roundtrip.proofs.OneLine.NamesSpelled.{Holds, Keeps}

-- ---- objects

next_append : (s : Scope) (xs ys : List Sort) → next_objects s (xs ++ ys) ≡ next_objects s xs ++ next_objects (with_sorts s xs) ys
next_append s [] ys = refl
next_append s (x ∷ xs) ys = ap (λ (l : List Obj). obj x (count_of s x) ∷ l) (next_append (with_one s x) xs ys)

here : (xs ys new : List (List ℕ)) (n : List ℕ) → Holds (xs ++ n ∷ new) ys → name_at ys (length xs) ≡ n
here xs ys new n h =
    h (length xs) (omega (arith, length-append xs (n ∷ new))) ∙ ap (λ (i : ℕ). get_or (xs ++ n ∷ new) i missing_name) (omega arith) ∙ get_or-append-add xs (n ∷ new) 0 missing_name

-- the next objects of a sort have the names that stand next
names_next : (more : Names) (sort : Sort) (xs new : List (List ℕ)) (s : Scope) → count_of s sort ≡ length xs → Holds (xs ++ new) (names_of_sort more sort)
    → map (name_of_object more) (next_objects s (replicate (length new) sort)) ≡ new
names_next more sort xs [] s c h = refl
names_next more sort xs (n ∷ new) s c h =
    let ys = names_of_sort more sort in
    let first : name_at ys (count_of s sort) ≡ n = ap (λ (i : ℕ). name_at ys i) c ∙ here xs ys new n h in
    let longer : count_of (with_one s sort) sort ≡ length (xs ++ n ∷ []) = omega (arith, count_one s sort, c, length-append xs (n ∷ [])) in
    let rest = names_next more sort (xs ++ n ∷ []) new (with_one s sort) longer (subst (λ (l : List (List ℕ)). Holds l ys) (sym (append_assoc xs (n ∷ []) new)) h) in
    ap (λ (x : List ℕ). x ∷ map (name_of_object more) (next_objects (with_one s sort) (replicate (length new) sort))) first ∙ ap (λ (l : List (List ℕ)). n ∷ l) rest

-- ---- groups

joins : (sort : Sort) (name : List ℕ) (names : List (List ℕ)) → grouped_before sort name (group sort names ∷ []) ≡ group sort (name ∷ names) ∷ []
joins sort name names = rw (same_sort_self sort) refl

-- objects of one sort are one group
one_group : (ns : Names) (sort : Sort) (n : ℕ) (s : Scope) → sort_groups ns (next_objects s (replicate (suc n) sort)) ≡ group sort (map (name_of_object ns) (next_objects s (replicate (suc n) sort))) ∷ []
one_group ns sort zero s = refl
one_group ns sort (suc n) s =
    let rest = next_objects (with_one s sort) (replicate (suc n) sort) in
    let name = name_of_object ns (obj sort (count_of s sort)) in
    ap (grouped_before sort name) (one_group ns sort n (with_one s sort)) ∙ joins sort name (map (name_of_object ns) rest)

-- the group of an object, and the others
record First (u : Sort) (name : List ℕ) (gs : List Group) : Type 0 where
  first : Group
  rest : List Group
  is : grouped_before u name gs ≡ first ∷ rest

first_by : (b : Bool) (u : Sort) (name : List ℕ) (g : Group) (gs : List Group) → same_sort u g.sort ≡ b → First u name (g ∷ gs)
first_by true u name g gs e = record { first = group g.sort (name ∷ g.names); rest = gs; is = rw e refl }
first_by false u name g gs e = record { first = group u (name ∷ []); rest = g ∷ gs; is = rw e refl }

first_group : (u : Sort) (name : List ℕ) (gs : List Group) → First u name gs
first_group u name [] = record { first = group u (name ∷ []); rest = []; is = refl }
first_group u name (g ∷ gs) = first_by (same_sort u g.sort) u name g gs refl

-- groups after a first one stay where an object comes before them
before_more : (u : Sort) (name : List ℕ) (g : Group) (gs hs : List Group) → grouped_before u name ((g ∷ gs) ++ hs) ≡ grouped_before u name (g ∷ gs) ++ hs
before_more u name g gs hs = by_test (same_sort u g.sort)
  where
    by_test : (b : Bool) → cond b (group g.sort (name ∷ g.names) ∷ (gs ++ hs)) (group u (name ∷ []) ∷ g ∷ (gs ++ hs)) ≡ cond b (group g.sort (name ∷ g.names) ∷ gs) (group u (name ∷ []) ∷ g ∷ gs) ++ hs
    by_test true = refl
    by_test false = refl

other_first : (u : Sort) (name : List ℕ) (g : Group) → same_sort u g.sort ≡ false → grouped_before u name (g ∷ []) ≡ group u (name ∷ []) ∷ g ∷ []
other_first u name g h = rw h refl

-- a group of another sort than the last object stands after the groups before it
apart : (ns : Names) (s : Scope) (sorts : List Sort) (os : List Obj) (g : Group) → ends_with sorts g.sort ≡ false → sort_groups ns os ≡ g ∷ [] → sort_groups ns (next_objects s sorts ++ os) ≡ sort_groups ns (next_objects s sorts) ++ g ∷ []
apart ns s [] os g h e = e
apart ns s (x ∷ []) os g h e =
    let name = name_of_object ns (obj x (count_of s x)) in
    ap (grouped_before x name) e ∙ other_first x name g h
apart ns s (x ∷ y ∷ sorts) os g h e =
    let name = name_of_object ns (obj x (count_of s x)) in
    let t = with_one s x in
    let rest = sort_groups ns (next_objects (with_one t y) sorts) in
    let f = first_group y (name_of_object ns (obj y (count_of t y))) rest in
    ap (grouped_before x name) (apart ns t (y ∷ sorts) os g h e ∙ ap (λ (l : List Group). l ++ g ∷ []) f.is) ∙ before_more x name f.first f.rest (g ∷ []) ∙ ap (λ (l : List Group). grouped_before x name l ++ g ∷ []) (sym f.is)

-- objects that are declared on a line of their own are one more group
pub more_groups : (more : Names) (s : Scope) (sorts : List Sort) (sort : Sort) (xs new : List (List ℕ)) → ends_with sorts sort ≡ false → 0 < length new → count_of (with_sorts s sorts) sort ≡ length xs → Holds (xs ++ new) (names_of_sort more sort)
    → sort_groups more (next_objects s (sorts ++ replicate (length new) sort)) ≡ sort_groups more (next_objects s sorts) ++ group sort new ∷ []
more_groups more s sorts sort xs [] h lt c k = absurd (omega (arith, lt))
more_groups more s sorts sort xs (n ∷ new) h lt c k =
    let os = next_objects (with_sorts s sorts) (replicate (length (n ∷ new)) sort) in
    let run : sort_groups more os ≡ group sort (n ∷ new) ∷ [] = one_group more sort (length new) (with_sorts s sorts) ∙ ap (λ (l : List (List ℕ)). group sort l ∷ []) (names_next more sort xs (n ∷ new) (with_sorts s sorts) c k) in
    ap (sort_groups more) (next_append s sorts (replicate (length (n ∷ new)) sort)) ∙ apart more s sorts os (group sort (n ∷ new)) h run

-- ---- names

pub count_is : (ns : Names) (sort : Sort) → count_of (scope_of_names ns) sort ≡ length (names_of_sort ns sort)
count_is ns Point = refl
count_is ns Line = refl
count_is ns Circle = refl

abbrev pub with_more : Names → Sort → List (List ℕ) → Names
with_more ns sort new = with_names ns sort (names_of_sort ns sort ++ new)

one_named : (ns : Names) (sort : Sort) (n : List ℕ) → scope_of_names (with_more ns sort (n ∷ [])) ≡ with_one (scope_of_names ns) sort
one_named ns Point n = ap (λ k. record { points = k; lines = length ns.lines; circles = length ns.circles }) (length-append ns.points (n ∷ []))
one_named ns Line n = ap (λ k. record { points = length ns.points; lines = k; circles = length ns.circles }) (length-append ns.lines (n ∷ []))
one_named ns Circle n = ap (λ k. record { points = length ns.points; lines = length ns.lines; circles = k }) (length-append ns.circles (n ∷ []))

one_then : (ns : Names) (sort : Sort) (n : List ℕ) (new : List (List ℕ)) → with_more ns sort (n ∷ new) ≡ with_more (with_more ns sort (n ∷ [])) sort new
one_then ns Point n new = ap (λ (l : List (List ℕ)). record ns { points = l }) (sym (append_assoc ns.points (n ∷ []) new))
one_then ns Line n new = ap (λ (l : List (List ℕ)). record ns { lines = l }) (sym (append_assoc ns.lines (n ∷ []) new))
one_then ns Circle n new = ap (λ (l : List (List ℕ)). record ns { circles = l }) (sym (append_assoc ns.circles (n ∷ []) new))

none_more : (ns : Names) (sort : Sort) → scope_of_names (with_more ns sort []) ≡ scope_of_names ns
none_more ns Point = ap (λ k. record { points = k; lines = length ns.lines; circles = length ns.circles }) (omega (arith, length-append ns.points []))
none_more ns Line = ap (λ k. record { points = length ns.points; lines = k; circles = length ns.circles }) (omega (arith, length-append ns.lines []))
none_more ns Circle = ap (λ k. record { points = length ns.points; lines = length ns.lines; circles = k }) (omega (arith, length-append ns.circles []))

-- the scope grows with the names
pub scope_more : (ns : Names) (sort : Sort) (new : List (List ℕ)) → scope_of_names (with_names ns sort (names_of_sort ns sort ++ new)) ≡ with_sorts (scope_of_names ns) (replicate (length new) sort)
scope_more ns sort [] = none_more ns sort
scope_more ns sort (n ∷ new) =
    ap scope_of_names (one_then ns sort n new) ∙ scope_more (with_more ns sort (n ∷ [])) sort new ∙ ap (λ (s : Scope). with_sorts s (replicate (length new) sort)) (one_named ns sort n)

holds_before : (xs new ys : List (List ℕ)) → Holds (xs ++ new) ys → Holds xs ys
holds_before xs new ys h i lt = h i (omega (arith, lt, length-append xs new)) ∙ get_or_append_left xs new missing_name i lt

-- the names that were there are kept
pub keeps_before : (ns more : Names) (sort : Sort) (new : List (List ℕ)) → Keeps (with_names ns sort (names_of_sort ns sort ++ new)) more → Keeps ns more
keeps_before ns more Point new k = record { points = holds_before ns.points new more.points k.points; lines = k.lines; circles = k.circles }
keeps_before ns more Line new k = record { points = k.points; lines = holds_before ns.lines new more.lines k.lines; circles = k.circles }
keeps_before ns more Circle new k = record { points = k.points; lines = k.lines; circles = holds_before ns.circles new more.circles k.circles }

-- and the new ones stand after them
pub keeps_new : (ns more : Names) (sort : Sort) (new : List (List ℕ)) → Keeps (with_names ns sort (names_of_sort ns sort ++ new)) more → Holds (names_of_sort ns sort ++ new) (names_of_sort more sort)
keeps_new ns more Point new k = k.points
keeps_new ns more Line new k = k.lines
keeps_new ns more Circle new k = k.circles
