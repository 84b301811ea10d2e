-- The words of a construction in scope are read as that construction.
use Rattle.std.proofs.Common.{◌≡◌, ℕ, Bool, true, false, eqb, ◌&&◌, ◌||◌, List, [], ◌∷◌, ◌++◌, length, map, Ok, refl, sym, ap, ◌∙◌, arith, append_assoc}
use Rattle.std.specs.List.{list_all, list_any}
use Rattle.std.proofs.lemmas.Bool.{eqb-true, eq-eqb, and_parts}
use Rattle.std.proofs.lemmas.List.{length-map, append-nil}
use mathlib.Core.Bool.{or-true, and-false}
use Rattle.e_literal.specs.declared.object.Sort.{Sort}
use Rattle.e_literal.specs.declared.object.Sort.TheVariants.{Point, Line, Circle}
use Rattle.e_literal.specs.declared.object.Obj.{Obj}
use Rattle.e_literal.specs.declared.object.Scope.{Scope}
use Rattle.e_literal.specs.Literal.{is_in_scope}
use Rattle.e_literal.specs.Scopes.{same_sort, are_of_sorts}
use Rattle.e_construct.specs.declared.construction.Shape.{Shape}
use Rattle.e_construct.specs.declared.construction.Shape.TheVariants.{OnLine, OnCircle, MeetLines, MeetOne, MeetBoth, CirclesOne, CirclesBoth}
use Rattle.e_construct.specs.declared.construction.Construction.{Construction}
use Rattle.e_construct.specs.Shapes.{Avoids, NoObject, AnyObject, AnyApartFrom, shape_row}
use Rattle.e_construct.specs.Construct.{sorts_of, avoids_well, fits_construction, sorts_made}
use Rattle.e_construct.specs.Lines.{are_avoided, begin_with, takes}
use Rattle.e_deriv.specs.declared.names.Names.{Names}
use Rattle.e_line.specs.declared.lets.RawLet.{RawLet}
use Rattle.e_line.specs.Reading.{each}
use Rattle.e_names.specs.Scope.{scope_of_names, used_object, arguments_in, construction, first_fitting, let_in}
use Rattle.e_names.specs.Canonical.{name_of_object}
use Rattle.e_line.specs.Names.{AreNames}
use Rattle.e_names.proofs.read_lines.Building.{GoodLet}
use Rattle.e_names.proofs.resolution.Lookups.{InOrder, object_used, objects_named}
use Rattle.e_construct.proofs.Sorts.{names_all_objects}
use Rattle.e_line.proofs.read_again.Pieces.{alike}
use Rattle.e_line.proofs.read_again.LetsAgain.{may_have, LetNamed, as_read}

-- ---- what the arguments of a shape are

of_sorts_begin : (s : Scope) (sorts : List Sort) (os : List Obj) → are_of_sorts s sorts os ≡ true → begin_with sorts os ≡ true
of_sorts_begin s [] [] h = refl
of_sorts_begin s [] (o ∷ os) h = absurd cc
of_sorts_begin s (sort ∷ sorts) [] h = refl
of_sorts_begin s (sort ∷ sorts) (o ∷ os) h =
    let p = and_parts (same_sort sort o.sort) (is_in_scope s o && are_of_sorts s sorts os) h in
    let q = and_parts (is_in_scope s o) (are_of_sorts s sorts os) p.1 in
    rw (p.0, of_sorts_begin s sorts os q.1) refl

pub of_sorts_in_scope : (s : Scope) (sorts : List Sort) (os : List Obj) → are_of_sorts s sorts os ≡ true → list_all (is_in_scope s) os ≡ true
of_sorts_in_scope s [] [] h = refl
of_sorts_in_scope s [] (o ∷ os) h = absurd cc
of_sorts_in_scope s (sort ∷ sorts) [] h = refl
of_sorts_in_scope s (sort ∷ sorts) (o ∷ os) h =
    let p = and_parts (same_sort sort o.sort) (is_in_scope s o && are_of_sorts s sorts os) h in
    let q = and_parts (is_in_scope s o) (are_of_sorts s sorts os) p.1 in
    rw (q.0, of_sorts_in_scope s sorts os q.1) refl

pub of_sorts_length : (s : Scope) (sorts : List Sort) (os : List Obj) → are_of_sorts s sorts os ≡ true → length os ≡ length sorts
of_sorts_length s [] [] h = refl
of_sorts_length s [] (o ∷ os) h = absurd cc
of_sorts_length s (sort ∷ sorts) [] h = absurd cc
of_sorts_length s (sort ∷ sorts) (o ∷ os) h =
    let p = and_parts (same_sort sort o.sort) (is_in_scope s o && are_of_sorts s sorts os) h in
    let n = of_sorts_length s sorts os (and_parts (is_in_scope s o) (are_of_sorts s sorts os) p.1).1 in
    omega (arith, n)

begin_front : (sorts : List Sort) (os more : List Obj) → begin_with sorts (os ++ more) ≡ true → begin_with sorts os ≡ true
begin_front sorts [] more h = refl
begin_front [] (o ∷ os) more h = absurd cc
begin_front (sort ∷ sorts) (o ∷ os) more h =
    let p = and_parts (same_sort sort o.sort) (begin_with sorts (os ++ more)) h in
    rw (p.0, begin_front sorts os more p.1) refl

-- ---- the arguments leave the shape

-- a shape is among those that have its line
among : (s : Shape) (p : Shape → Bool) → p s ≡ true → list_any p (alike s) ≡ true
among OnLine p h = rw h refl
among OnCircle p h = rw h (or-true (p OnLine))
among MeetLines p h = rw h refl
among MeetOne p h = rw h (or-true (p MeetLines))
among CirclesOne p h = rw h (ap (λ b. p MeetLines || b) (or-true (p MeetOne)) ∙ or-true (p MeetLines))
among MeetBoth p h = rw h refl
among CirclesBoth p h = rw h (or-true (p MeetBoth))
among s p h = rw h refl

arguments_read : (ns : Names) (s : Shape) (found more : List Obj) → InOrder ns → list_all (is_in_scope (scope_of_names ns)) more ≡ true → takes s (found ++ more) ≡ true
    → arguments_in ns (alike s) found (map (name_of_object ns) more) ≡ Ok (found ++ more)
arguments_read ns s found [] o h t = ap (λ (os : List Obj). Ok os) (sym (append-nil found))
arguments_read ns s found (x ∷ more) o h t =
    let p = and_parts (is_in_scope (scope_of_names ns) x) (list_all (is_in_scope (scope_of_names ns)) more) h in
    let regrouped : found ++ x ∷ more ≡ (found ++ x ∷ []) ++ more = sym (append_assoc found (x ∷ []) more) in
    let whole : takes s ((found ++ x ∷ []) ++ more) ≡ true = ap (takes s) (sym regrouped) ∙ t in
    let here : takes s (found ++ x ∷ []) ≡ true = begin_front (sorts_of (shape_row s).args) (found ++ x ∷ []) more whole in
    let any : list_any (λ t. takes t (found ++ x ∷ [])) (alike s) ≡ true = among s (λ t. takes t (found ++ x ∷ [])) here in
    rw (object_used ns x o p.0, any) (arguments_read ns s (found ++ x ∷ []) more o p.1 whole ∙ ap (λ (os : List Obj). Ok os) (sym regrouped))

avoided_read : (ns : Names) (os : List Obj) → InOrder ns → list_all (is_in_scope (scope_of_names ns)) os ≡ true → each (used_object ns) (map (name_of_object ns) os) ≡ Ok os
avoided_read ns [] o h = refl
avoided_read ns (x ∷ os) o h =
    let p = and_parts (is_in_scope (scope_of_names ns) x) (list_all (is_in_scope (scope_of_names ns)) os) h in
    rw (object_used ns x o p.0, avoided_read ns os o p.1) refl

-- ---- the other shapes with the line do not fit

no_line : (t : Sort) (a b : Bool) → (same_sort Circle t && a) ≡ true → (same_sort Line t && b) ≡ false
no_line Point a b h = absurd cc
no_line Line a b h = absurd cc
no_line Circle a b h = refl

-- a circle where a line would stand
first_differs : (s : Scope) (xs ys : List Sort) (os : List Obj) → are_of_sorts s (Circle ∷ xs) os ≡ true → are_of_sorts s (Line ∷ ys) os ≡ false
first_differs s xs ys [] h = absurd cc
first_differs s xs ys (o ∷ os) h = no_line o.sort (is_in_scope s o && are_of_sorts s xs os) (is_in_scope s o && are_of_sorts s ys os) h

second_differs : (s : Scope) (sort : Sort) (xs ys : List Sort) (os : List Obj) → are_of_sorts s (sort ∷ Circle ∷ xs) os ≡ true → are_of_sorts s (sort ∷ Line ∷ ys) os ≡ false
second_differs s sort xs ys [] h = absurd cc
second_differs s sort xs ys (o ∷ os) h =
    let p = and_parts (same_sort sort o.sort) (is_in_scope s o && are_of_sorts s (Circle ∷ xs) os) h in
    let q = and_parts (is_in_scope s o) (are_of_sorts s (Circle ∷ xs) os) p.1 in
    rw (first_differs s xs ys os q.1, and-false (is_in_scope s o)) (and-false (same_sort sort o.sort))

first_read : (sh : Shape) (s : Scope) (args avoid : List Obj) → fits_construction (construction sh args avoid) s ≡ true → first_fitting s args avoid (alike sh) ≡ Ok (construction sh args avoid)
unfolding shape_row
first_read OnLine s args avoid h = rw h refl
first_read OnCircle s args avoid h =
    let p = and_parts (are_of_sorts s (Circle ∷ []) args) _ h in
    let a = first_differs s [] [] args p.0 in
    rw (a, h) refl
first_read MeetLines s args avoid h = rw h refl
first_read MeetOne s args avoid h =
    let p = and_parts (are_of_sorts s (Line ∷ Circle ∷ []) args) _ h in
    let a = second_differs s Line [] [] args p.0 in
    rw (a, h) refl
first_read CirclesOne s args avoid h =
    let p = and_parts (are_of_sorts s (Circle ∷ Circle ∷ []) args) _ h in
    let a = first_differs s (Circle ∷ []) (Line ∷ []) args p.0 in
    let b = first_differs s (Circle ∷ []) (Circle ∷ []) args p.0 in
    rw (a, b, h) refl
first_read MeetBoth s args avoid h = rw h refl
first_read CirclesBoth s args avoid h =
    let p = and_parts (are_of_sorts s (Circle ∷ Circle ∷ []) args) _ h in
    let a = first_differs s (Circle ∷ []) (Circle ∷ []) args p.0 in
    rw (a, h) refl
first_read sh s args avoid h = rw h refl

-- ---- the whole

avoided_in_scope : (s : Scope) (a : Avoids) (os : List Obj) → avoids_well s a os ≡ true → list_all (is_in_scope s) os ≡ true
avoided_in_scope s NoObject [] h = refl
avoided_in_scope s NoObject (o ∷ os) h = let n = eqb-true (length (o ∷ os)) 0 h in absurd (omega (arith, n))
avoided_in_scope s AnyObject os h = h
avoided_in_scope s (AnyApartFrom x) os h = h

may_have_after : (s : Scope) (sh : Shape) (names : Obj → List ℕ) (os : List Obj) → avoids_well s (shape_row sh).avoids os ≡ true → may_have (map names os) sh ≡ true
may_have_after s sh names [] h = refl
may_have_after s sh names (o ∷ os) h = by_avoids (shape_row sh).avoids h where
  by_avoids : (a : Avoids) → avoids_well s a (o ∷ os) ≡ true → are_avoided a ≡ true
  by_avoids NoObject h = let n = eqb-true (length (o ∷ os)) 0 h in absurd (omega (arith, n))
  by_avoids AnyObject h = refl
  by_avoids (AnyApartFrom x) h = refl

-- the line of a construction, as it is written
abbrev pub raw_let : Names → Construction → List (List ℕ) → RawLet
raw_let ns construction names = record { shapes = construction.shape ∷ []; new = names; args = map (name_of_object ns) construction.args; avoid = map (name_of_object ns) construction.avoid }

pub let_number_again : (ns : Names) (construction : Construction) (names : List (List ℕ)) → InOrder ns → GoodLet ns construction names → let_in ns (as_read (raw_let ns construction names)) ≡ Ok construction
unfolding let_in
let_number_again ns construction names o h =
    let s = scope_of_names ns in
    let p = and_parts (are_of_sorts s (sorts_of (shape_row construction.shape).args) construction.args) (avoids_well s (shape_row construction.shape).avoids construction.avoid) h.fits in
    let args = arguments_read ns construction.shape [] construction.args o (of_sorts_in_scope s (sorts_of (shape_row construction.shape).args) construction.args p.0) (of_sorts_begin s (sorts_of (shape_row construction.shape).args) construction.args p.0) in
    let avoid = avoided_read ns construction.avoid o (avoided_in_scope s (shape_row construction.shape).avoids construction.avoid p.1) in
    let first = first_read construction.shape s construction.args construction.avoid h.fits in
    let count : eqb (length names) (length (sorts_made construction)) ≡ true = eq-eqb _ _ h.count in
    rw (h.free, args, avoid, first, count) refl

pub let_named : (ns : Names) (construction : Construction) (names : List (List ℕ)) → InOrder ns → GoodLet ns construction names → AreNames names → LetNamed (raw_let ns construction names)
let_named ns construction names o h a =
    let s = scope_of_names ns in
    let p = and_parts (are_of_sorts s (sorts_of (shape_row construction.shape).args) construction.args) (avoids_well s (shape_row construction.shape).avoids construction.avoid) h.fits in
    record {
      shape = construction.shape;
      alone = refl;
      names = record {
        new_names = a;
        argument_names = objects_named ns construction.args o (of_sorts_in_scope s (sorts_of (shape_row construction.shape).args) construction.args p.0);
        made = h.count ∙ length-map (shape_row construction.shape).made (λ o. o.sort) ∙ sym (names_all_objects construction.shape).0;
        arguments = length-map construction.args (name_of_object ns) ∙ of_sorts_length s (sorts_of (shape_row construction.shape).args) construction.args p.0 ∙ length-map (shape_row construction.shape).args (λ o. o.sort) ∙ sym (names_all_objects construction.shape).1;
      };
      avoided = objects_named ns construction.avoid o (avoided_in_scope s (shape_row construction.shape).avoids construction.avoid p.1);
      may = may_have_after s construction.shape (name_of_object ns) construction.avoid p.1;
    }
