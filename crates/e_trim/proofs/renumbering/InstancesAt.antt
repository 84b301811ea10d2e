-- The instance of a rule over the kept objects.
use Rattle.std.proofs.Common.{◌≡◌, ℕ, zero, suc, ◌+◌, ◌<◌, List, [], ◌∷◌, ◌++◌, map, length, take, drop, refl, sym, ap, ◌∙◌, subst, arith, Bool, true, false, ◌&&◌, cond, eqb, inl, inr, Option, Some, None}
use Rattle.std.specs.Prelude.{slice_get, option_and_then}
use Rattle.std.specs.Option.{option_map, option_map_or}
use Rattle.std.specs.List.{list_all}
use Rattle.std.proofs.lemmas.Bool.{and_parts, and_from, ltb-true, eqb-true}
use Rattle.std.proofs.lemmas.List.{length-map, length-take, length-drop, take-map, drop-map}
use Rattle.std.proofs.lemmas.List.Folds.{list_all-append}
use Rattle.e_literal.specs.declared.object.Obj.{Obj}
use Rattle.e_literal.specs.declared.object.Scope.{Scope}
use Rattle.e_literal.specs.declared.object.Sort.{Sort}
use Rattle.e_literal.specs.declared.object.Sort.TheVariants.{Point, Line, Circle}
use Rattle.e_literal.specs.declared.literal.Lit.{Lit}
use Rattle.e_literal.specs.Literal.{obj, count_of, is_in_scope, all_in_scope, objects_of_atom}
use Rattle.e_literal.specs.Scopes.{same_sort}
use Rattle.e_literal.proofs.Sorts.{same_sort_is}
use Rattle.e_clause.specs.Rows.{Row}
use Rattle.e_clause.specs.Table.{table}
use Rattle.e_clause.specs.Table.Incidence.{incidence}
use Rattle.e_clause.specs.Table.Sides.{sides}
use Rattle.e_clause.specs.Table.Circles.{circles}
use Rattle.e_clause.specs.Table.Equality.{equality}
use Rattle.e_clause.specs.Table.Lengths.{lengths}
use Rattle.e_clause.specs.Table.Angles.{angles}
use Rattle.e_clause.specs.Instance as instances
use Rattle.e_clause.specs.Instance.{all_of, arguments_fit, lit_at, clause_of, instance_of_row, Inst}
use Rattle.e_trim.specs.Trimmed as trimmed
use Rattle.e_trim.specs.Trimmed.{obj_at}
use Rattle.e_trim.proofs.renumbering.Members.{In, all_in}
use Rattle.e_trim.proofs.renumbering.LitsAt.{AllKept, OverLit, OverLits}
use Rattle.e_trim.proofs.renumbering.MovedLits.{Numbers, moved_atom, object_from}

-- ---- each variable of a row is one of its own

-- the variables of a row
abbrev range : Row → Scope
range r = record { points = r.points; lines = r.lines; circles = r.circles }

abbrev is_closed : Row → Bool
is_closed r = list_all (all_in_scope (range r)) (clause_of r)

closed_incidence : list_all is_closed incidence ≡ true
unfolding incidence
closed_incidence = refl

closed_sides : list_all is_closed sides ≡ true
unfolding sides
closed_sides = refl

closed_circles : list_all is_closed circles ≡ true
unfolding circles
closed_circles = refl

closed_equality : list_all is_closed equality ≡ true
unfolding equality
closed_equality = refl

closed_lengths : list_all is_closed lengths ≡ true
unfolding lengths
closed_lengths = refl

closed_angles : list_all is_closed angles ≡ true
unfolding angles
closed_angles = refl

closed_table : list_all is_closed table ≡ true
unfolding table
closed_table =
    list_all-append is_closed incidence (sides ++ (circles ++ (equality ++ (lengths ++ angles))))
    ∙ and_from (list_all is_closed incidence) (list_all is_closed (sides ++ (circles ++ (equality ++ (lengths ++ angles))))) closed_incidence
    (list_all-append is_closed sides (circles ++ (equality ++ (lengths ++ angles)))
    ∙ and_from (list_all is_closed sides) (list_all is_closed (circles ++ (equality ++ (lengths ++ angles)))) closed_sides
    (list_all-append is_closed circles (equality ++ (lengths ++ angles))
    ∙ and_from (list_all is_closed circles) (list_all is_closed (equality ++ (lengths ++ angles))) closed_circles
    (list_all-append is_closed equality (lengths ++ angles)
    ∙ and_from (list_all is_closed equality) (list_all is_closed (lengths ++ angles)) closed_equality
    (list_all-append is_closed lengths angles ∙ and_from (list_all is_closed lengths) (list_all is_closed angles) closed_lengths closed_angles))))

slice_member : {X : Type 0} (xs : List X) (n : ℕ) (x : X) → slice_get xs n ≡ Some x → In x xs
slice_member [] n x e = absurd cc
slice_member (y ∷ xs) zero x e = inl (some_is y x e)
  where
    some_is : {X : Type 0} (a b : X) → Some a ≡ Some b → a ≡ b
    some_is a b e = cc
slice_member (y ∷ xs) (suc n) x e = inr (slice_member xs n x e)

closed_row : (rule : ℕ) (r : Row) → slice_get table rule ≡ Some r → is_closed r ≡ true
closed_row rule r e = all_in is_closed table r closed_table (slice_member table rule r e)

-- ---- the arguments

slice_map : {X Y : Type 0} (f : X → Y) (xs : List X) (n : ℕ) → slice_get (map f xs) n ≡ option_map f (slice_get xs n)
slice_map f [] n = refl
slice_map f (x ∷ xs) zero = refl
slice_map f (x ∷ xs) (suc n) = slice_map f xs n

slice_take : {X : Type 0} (xs : List X) (n k : ℕ) → k < n → slice_get (take n xs) k ≡ slice_get xs k
slice_take xs zero k h = absurd (omega arith)
slice_take [] (suc n) k h = refl
slice_take (x ∷ xs) (suc n) zero h = refl
slice_take (x ∷ xs) (suc n) (suc k) h = slice_take xs n k (omega arith)

slice_drop : {X : Type 0} (xs : List X) (m k : ℕ) → slice_get (drop m xs) k ≡ slice_get xs (m + k)
slice_drop xs zero k = ap (slice_get xs) (the_same k (0 + k) (omega arith))
  where
    the_same : (m n : ℕ) → m ≡ n → m ≡ n
    the_same m n e = e
slice_drop [] (suc m) k = refl
slice_drop (x ∷ xs) (suc m) k = slice_drop xs m k ∙ ap (slice_get (x ∷ xs)) (next m k)
  where
    next : (m k : ℕ) → suc (m + k) ≡ suc m + k
    next m k = omega arith

-- a place in a list all of whose objects have the sort
of_sort_at : (s : Sort) (os : List Obj) (k : ℕ) → all_of s os ≡ true → k < length os → (o : Obj) × (slice_get os k ≡ Some o) × (o.sort ≡ s)
of_sort_at s [] k h l = absurd (omega arith)
of_sort_at s (o ∷ os) zero h l = (o, refl, same_sort_is o.sort s (and_parts (same_sort o.sort s) (all_of s os) h).0)
of_sort_at s (o ∷ os) (suc k) h l = of_sort_at s os k (and_parts (same_sort o.sort s) (all_of s os) h).1 (omega arith)

-- the number that takes the place of a variable
abbrev numbers : Row → List Obj → Numbers
numbers r args Point k = instances.number args k
numbers r args Line k = instances.line_arg r args k
numbers r args Circle k = instances.circle_arg r args k

-- the argument for a variable
abbrev place : Row → Sort → ℕ → ℕ
place r Point k = k
place r Line k = r.points + k
place r Circle k = r.points + r.lines + k

at_place : (r : Row) (args : List Obj) (s : Sort) (k : ℕ) → numbers r args s k ≡ option_map_or (λ (o : Obj). o.num) (slice_get args (place r s k)) 0
at_place r args Point k = refl
at_place r args Line k = refl
at_place r args Circle k = refl

fit_parts : (r : Row) (args : List Obj) → arguments_fit r args ≡ true
    → (length args ≡ r.points + r.lines + r.circles) × (all_of Point (take r.points args) ≡ true) × (all_of Line (take r.lines (drop r.points args)) ≡ true) × (all_of Circle (drop (r.points + r.lines) args) ≡ true)
fit_parts r args h =
    let a = and_parts (eqb (length args) (r.points + r.lines + r.circles)) (all_of Point (take r.points args) && (all_of Line (take r.lines (drop r.points args)) && all_of Circle (drop (r.points + r.lines) args))) h in
    let b = and_parts (all_of Point (take r.points args)) (all_of Line (take r.lines (drop r.points args)) && all_of Circle (drop (r.points + r.lines) args)) a.1 in
    let c = and_parts (all_of Line (take r.lines (drop r.points args))) (all_of Circle (drop (r.points + r.lines) args)) b.1 in
    (eqb-true (length args) (r.points + r.lines + r.circles) a.0, b.0, c.0, c.1)

-- a variable of the row has an argument of its sort
argument_at : (r : Row) (args : List Obj) (s : Sort) (k : ℕ) → arguments_fit r args ≡ true → k < count_of (range r) s → (o : Obj) × (slice_get args (place r s k) ≡ Some o) × (o.sort ≡ s)
argument_at r args Point k h l =
    let f = fit_parts r args h in
    let n = length-take r.points args in
    let a = of_sort_at Point (take r.points args) k f.1 (omega (arith, n, f.0, l)) in
    (a.0, sym (slice_take args r.points k l) ∙ a.1, a.2)
argument_at r args Line k h l =
    let f = fit_parts r args h in
    let n = length-take r.lines (drop r.points args) in
    let m = length-drop r.points args in
    let a = of_sort_at Line (take r.lines (drop r.points args)) k f.2 (omega (arith, n, m, f.0, l)) in
    (a.0, sym (slice_take (drop r.points args) r.lines k l ∙ slice_drop args r.points k) ∙ a.1, a.2)
argument_at r args Circle k h l =
    let f = fit_parts r args h in
    let m = length-drop (r.points + r.lines) args in
    let a = of_sort_at Circle (drop (r.points + r.lines) args) k f.3 (omega (arith, m, f.0, l)) in
    (a.0, sym (slice_drop args (r.points + r.lines) k) ∙ a.1, a.2)

number_moves : (kept : List Obj) (r : Row) (args : List Obj) (s : Sort) (k : ℕ) → arguments_fit r args ≡ true → k < count_of (range r) s
    → numbers r (map (obj_at kept) args) s k ≡ trimmed.kept_before kept s (numbers r args s k)
number_moves kept r args s k h l =
    let a = argument_at r args s k h l in
    let is = ap (option_map_or (λ (o : Obj). o.num)) a.1 in
    at_place r (map (obj_at kept) args) s k
    ∙ ap (λ x. option_map_or (λ (o : Obj). o.num) x 0) (slice_map (obj_at kept) args (place r s k) ∙ ap (option_map (obj_at kept)) a.1)
    ∙ ap (λ y. trimmed.kept_before kept y a.0.num) a.2
    ∙ ap (trimmed.kept_before kept s) (sym (at_place r args s k ∙ ap (λ x. option_map_or (λ (o : Obj). o.num) x 0) a.1))

all_of_moves : (kept : List Obj) (s : Sort) (os : List Obj) → all_of s (map (obj_at kept) os) ≡ all_of s os
all_of_moves kept s [] = refl
all_of_moves kept s (o ∷ os) = ap (λ b. same_sort o.sort s && b) (all_of_moves kept s os)

fits_moves : (kept : List Obj) (r : Row) (args : List Obj) → arguments_fit r (map (obj_at kept) args) ≡ arguments_fit r args
fits_moves kept r args =
    let n = length-map args (obj_at kept) in
    let a = ap (all_of Point) (take-map (obj_at kept) r.points args) ∙ all_of_moves kept Point (take r.points args) in
    let b = ap (λ os. all_of Line (take r.lines os)) (drop-map (obj_at kept) r.points args) ∙ ap (all_of Line) (take-map (obj_at kept) r.lines (drop r.points args)) ∙ all_of_moves kept Line (take r.lines (drop r.points args)) in
    let c = ap (all_of Circle) (drop-map (obj_at kept) (r.points + r.lines) args) ∙ all_of_moves kept Circle (drop (r.points + r.lines) args) in
    rw (n, a, b, c) refl

-- ---- literals

in_range : (r : Row) (l : Lit) (o : Obj) → all_in_scope (range r) l ≡ true → In o (objects_of_atom l.atom) → o.num < count_of (range r) o.sort
in_range r l o h i = ltb-true o.num (count_of (range r) o.sort) (all_in (is_in_scope (range r)) (objects_of_atom l.atom) o h i)

lit_moves : (kept : List Obj) (r : Row) (args : List Obj) (l : Lit) → arguments_fit r args ≡ true → all_in_scope (range r) l ≡ true → lit_at r (map (obj_at kept) args) l ≡ trimmed.lit_among_kept kept (lit_at r args l)
lit_moves kept r args l f h =
    ap (λ a. record { neg = l.neg; atom = a })
    (moved_atom kept (numbers r args) (numbers r (map (obj_at kept) args)) l.atom (λ o i. number_moves kept r args o.sort o.num f (in_range r l o h i)))

lits_move : (kept : List Obj) (r : Row) (args : List Obj) (ls : List Lit) → arguments_fit r args ≡ true → list_all (all_in_scope (range r)) ls ≡ true
    → map (lit_at r (map (obj_at kept) args)) ls ≡ map (trimmed.lit_among_kept kept) (map (lit_at r args) ls)
lits_move kept r args [] f h = refl
lits_move kept r args (l ∷ ls) f h =
    let p = and_parts (all_in_scope (range r) l) (list_all (all_in_scope (range r)) ls) h in
    ap (λ x. x ∷ map (lit_at r (map (obj_at kept) args)) ls) (lit_moves kept r args l f p.0) ∙ ap (λ xs. trimmed.lit_among_kept kept (lit_at r args l) ∷ xs) (lits_move kept r args ls f p.1)

lit_over : (kept : List Obj) (r : Row) (args : List Obj) (l : Lit) → arguments_fit r args ≡ true → all_in_scope (range r) l ≡ true → AllKept kept args → OverLit kept (lit_at r args l)
lit_over kept r args l f h k x i =
    let o = object_from (numbers r args) l.atom x i in
    let a = argument_at r args o.0.sort o.0.num f (in_range r l o.0 h o.1) in
    let num = at_place r args o.0.sort o.0.num ∙ ap (λ y. option_map_or (λ (z : Obj). z.num) y 0) a.1 in
    let is : a.0 ≡ x = ap (λ s. obj s a.0.num) a.2 ∙ ap (obj o.0.sort) (sym num) ∙ o.2 in
    k x (subst (λ y. In y args) is (slice_member args (place r o.0.sort o.0.num) a.0 a.1))

lits_over : (kept : List Obj) (r : Row) (args : List Obj) (ls : List Lit) → arguments_fit r args ≡ true → list_all (all_in_scope (range r)) ls ≡ true → AllKept kept args → OverLits kept (map (lit_at r args) ls)
lits_over kept r args [] f h k x i = absurd i
lits_over kept r args (l ∷ ls) f h k x (inl e) =
    let p = and_parts (all_in_scope (range r) l) (list_all (all_in_scope (range r)) ls) h in subst (OverLit kept) e (lit_over kept r args l f p.0 k)
lits_over kept r args (l ∷ ls) f h k x (inr i) =
    let p = and_parts (all_in_scope (range r) l) (list_all (all_in_scope (range r)) ls) h in lits_over kept r args ls f p.1 k x i

-- ---- instances

and_then_is : {X Y : Type 0} (f : X → Option Y) (o : Option X) (y : Y) → option_and_then f o ≡ Some y → (x : X) × (o ≡ Some x) × (f x ≡ Some y)
and_then_is f None y e = absurd cc
and_then_is f (Some x) y e = (x, refl, e)

if_fits : (b : Bool) (ls ms : List Lit) → cond b (Some ls) None ≡ Some ms → (b ≡ true) × (ls ≡ ms)
if_fits true ls ms e = (refl, cc)
if_fits false ls ms e = absurd cc

-- the row of an instance
row_of : (rule : ℕ) (args : List Obj) (lits : List Lit) → Inst rule args ≡ Some lits → (r : Row) × (slice_get table rule ≡ Some r) × (arguments_fit r args ≡ true) × (map (lit_at r args) (clause_of r) ≡ lits)
unfolding Inst
row_of rule args lits e =
    let a = and_then_is (λ r. instance_of_row r args) (slice_get table rule) lits e in
    let b = if_fits (arguments_fit a.0 args) (map (lit_at a.0 args) (clause_of a.0)) lits a.2 in
    (a.0, a.1, b.0, b.1)

-- the instance at the arguments over the kept objects
pub inst_at : (kept : List Obj) (rule : ℕ) (args : List Obj) (lits : List Lit) → AllKept kept args → Inst rule args ≡ Some lits → Inst rule (map (obj_at kept) args) ≡ Some (map (trimmed.lit_among_kept kept) lits)
unfolding Inst
inst_at kept rule args lits k e =
    let r = row_of rule args lits e in
    let args' = map (obj_at kept) args in
    ap (option_and_then (λ x. instance_of_row x args')) r.1
    ∙ ap (λ b. cond b (Some (map (lit_at r.0 args') (clause_of r.0))) None) (fits_moves kept r.0 args ∙ r.2)
    ∙ ap Some (lits_move kept r.0 args (clause_of r.0) r.2 (closed_row rule r.0 r.1) ∙ ap (map (trimmed.lit_among_kept kept)) r.3)

-- its literals are over the kept objects where the arguments are
pub inst_over : (kept : List Obj) (rule : ℕ) (args : List Obj) (lits : List Lit) → AllKept kept args → Inst rule args ≡ Some lits → OverLits kept lits
inst_over kept rule args lits k e =
    let r = row_of rule args lits e in
    subst (OverLits kept) r.3 (lits_over kept r.0 args (clause_of r.0) r.2 (closed_row rule r.0 r.1) k)
