-- The name of an object in scope is read as that object.
use Rattle.std.proofs.Common.{◌≡◌, ℕ, Bool, true, ltb, List, [], ◌∷◌, length, map, Result, Ok, refl, ap, subst, ◌∙◌}
use Rattle.std.specs.List.{list_all}
use Rattle.std.proofs.lemmas.Bool.{ltb-true, and_parts}
use Rattle.e_text.specs.Names.{is_name}
use Rattle.e_literal.specs.declared.object.Sort.{Sort}
use Rattle.e_literal.specs.declared.object.Sort.TheVariants.{Point, Line, Circle}
use Rattle.e_literal.specs.declared.object.Obj.{Obj}
use Rattle.e_literal.specs.Literal.{obj, count_of, is_in_scope}
use Rattle.e_literal.specs.Scopes.{same_sort}
use Rattle.e_literal.proofs.Sorts.{same_sort_is}
use Rattle.e_deriv.specs.declared.names.Names.{Names}
use Rattle.e_line.specs.declared.fault.FaultKind.{FaultKind}
use Rattle.e_line.specs.Reading.{◌>>=◌}
use Rattle.e_deriv.specs.Naming.{names_of_sort}
use Rattle.e_names.specs.Scope.{scope_of_names, used_object, number_of_sort, number_of_name, object_as, objects_as}
use Rattle.e_names.specs.Canonical.{name_at, name_of_object}
use Rattle.e_names.specs.Fits.{are_distinct, NamesDiffer}
use Rattle.e_line.specs.Names.{AreNames}
use Rattle.e_names.proofs.distinct_names.Differ.{Apart, Apart-sym, apart, apart_at, there, not_there, name_there}

-- the names in scope are names, and each stands once
pub record InOrder (ns : Names) : Type 0 where
  pub point_names : AreNames ns.points
  pub line_names : AreNames ns.lines
  pub circle_names : AreNames ns.circles
  pub points : are_distinct ns.points ≡ true
  pub lines : are_distinct ns.lines ≡ true
  pub circles : are_distinct ns.circles ≡ true
  pub no_point_line : Apart ns.points ns.lines
  pub no_point_circle : Apart ns.points ns.circles
  pub no_line_circle : Apart ns.lines ns.circles
  pub no_line_point : Apart ns.lines ns.points
  pub no_circle_point : Apart ns.circles ns.points
  pub no_circle_line : Apart ns.circles ns.lines

pub ordered : (ns : Names) → AreNames ns.points → AreNames ns.lines → AreNames ns.circles → are_distinct ns.points ≡ true → are_distinct ns.lines ≡ true → are_distinct ns.circles ≡ true
    → Apart ns.points ns.lines → Apart ns.points ns.circles → Apart ns.lines ns.circles → InOrder ns
ordered ns hp hl hc dp dl dc pl pc lc = record {
  point_names = hp;
  line_names = hl;
  circle_names = hc;
  points = dp;
  lines = dl;
  circles = dc;
  no_point_line = pl;
  no_point_circle = pc;
  no_line_circle = lc;
  no_line_point = Apart-sym ns.points ns.lines pl;
  no_circle_point = Apart-sym ns.points ns.circles pc;
  no_circle_line = Apart-sym ns.lines ns.circles lc;
}

pub in_order : (ns : Names) → AreNames ns.points → AreNames ns.lines → AreNames ns.circles → NamesDiffer ns → InOrder ns
in_order ns hp hl hc d =
    ordered ns hp hl hc d.points d.lines d.circles (apart ns.points ns.lines d.points_lines) (apart ns.points ns.circles d.points_circles) (apart ns.lines ns.circles d.lines_circles)

abbrev pub Within : Names → Sort → ℕ → Type 0
Within ns sort n = ltb n (count_of (scope_of_names ns) sort) ≡ true

pub used_again : (ns : Names) (sort : Sort) (i : ℕ) → InOrder ns → Within ns sort i → used_object ns (name_at (names_of_sort ns sort) i) ≡ Ok (obj sort i)
used_again ns Point i s h = rw (there ns.points i s.points (ltb-true i (length ns.points) h)) refl
used_again ns Line i s h =
    let lt = ltb-true i (length ns.lines) h in
    rw (not_there ns.points (name_at ns.lines i) (apart_at ns.points ns.lines i s.no_point_line lt), there ns.lines i s.lines lt) refl
used_again ns Circle i s h =
    let lt = ltb-true i (length ns.circles) h in
    rw (not_there ns.points (name_at ns.circles i) (apart_at ns.points ns.circles i s.no_point_circle lt), not_there ns.lines (name_at ns.circles i) (apart_at ns.lines ns.circles i s.no_line_circle lt), there ns.circles i s.circles lt) refl

same_number : (sort : Sort) (i : ℕ) → number_of_sort sort (obj sort i) ≡ Ok i
same_number Point i = refl
same_number Line i = refl
same_number Circle i = refl

pub number_again : (ns : Names) (sort : Sort) (i : ℕ) → InOrder ns → Within ns sort i → number_of_name ns sort (name_at (names_of_sort ns sort) i) ≡ Ok i
unfolding number_of_name
number_again ns sort i s h = ap (λ (r : Result Obj FaultKind). r >>= λ o. number_of_sort sort o) (used_again ns sort i s h) ∙ same_number sort i

pub named_at : (ns : Names) (sort : Sort) (i : ℕ) → InOrder ns → Within ns sort i → is_name (name_at (names_of_sort ns sort) i) ≡ true
named_at ns Point i s h = name_there ns.points i s.point_names (ltb-true i (length ns.points) h)
named_at ns Line i s h = name_there ns.lines i s.line_names (ltb-true i (length ns.lines) h)
named_at ns Circle i s h = name_there ns.circles i s.circle_names (ltb-true i (length ns.circles) h)

-- ---- objects

pub object_used : (ns : Names) (o : Obj) → InOrder ns → is_in_scope (scope_of_names ns) o ≡ true → used_object ns (name_of_object ns o) ≡ Ok o
object_used ns o s h = used_again ns o.sort o.num s h

pub object_again : (ns : Names) (o : Obj) → InOrder ns → is_in_scope (scope_of_names ns) o ≡ true → object_as ns o.sort (name_of_object ns o) ≡ Ok o
unfolding object_as
object_again ns o s h = rw (number_again ns o.sort o.num s h) refl

abbrev all_of_sort : Sort → List Obj → Bool
all_of_sort sort os = list_all (λ o. same_sort o.sort sort) os

pub objects_again : (ns : Names) (sort : Sort) (os : List Obj) → InOrder ns → list_all (is_in_scope (scope_of_names ns)) os ≡ true → all_of_sort sort os ≡ true → objects_as ns sort (map (name_of_object ns) os) ≡ Ok os
objects_again ns sort [] s h k = refl
objects_again ns sort (o ∷ os) s h k =
    let p = and_parts (is_in_scope (scope_of_names ns) o) (list_all (is_in_scope (scope_of_names ns)) os) h in
    let q = and_parts (same_sort o.sort sort) (all_of_sort sort os) k in
    let one : object_as ns sort (name_of_object ns o) ≡ Ok o = subst (λ (t : Sort). object_as ns t (name_of_object ns o) ≡ Ok o) (same_sort_is o.sort sort q.0) (object_again ns o s p.0) in
    rw (one, objects_again ns sort os s p.1 q.1) refl

pub objects_named : (ns : Names) (os : List Obj) → InOrder ns → list_all (is_in_scope (scope_of_names ns)) os ≡ true → AreNames (map (name_of_object ns) os)
objects_named ns [] s h = tt
objects_named ns (o ∷ os) s h =
    let p = and_parts (is_in_scope (scope_of_names ns) o) (list_all (is_in_scope (scope_of_names ns)) os) h in
    (named_at ns o.sort o.num s p.0, objects_named ns os s p.1)
