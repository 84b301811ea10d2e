-- A name that is read stands at the place of its object.
use Rattle.std.proofs.Common.{◌≡◌, ℕ, ◌<◌, List, length, Option, Some, None, Ok, refl, subst, ◌∙◌}
use Rattle.std.specs.List.{position}
use Rattle.std.specs.Str.{bytes_eq}
use Rattle.std.proofs.lemmas.List.Quantifiers.{position-Some}
use Rattle.std.proofs.lemmas.Slice.Eq.{bytes_eq-Decides}
use Rattle.e_literal.specs.declared.object.Sort.{Sort}
use Rattle.e_literal.specs.declared.object.Sort.TheVariants.{Point, Line, Circle}
use Rattle.e_literal.specs.declared.object.Obj.{Obj}
use Rattle.e_literal.specs.Literal.{obj}
use Rattle.e_deriv.specs.declared.names.Names.{Names}
use Rattle.e_deriv.specs.Naming.{names_of_sort}
use Rattle.e_names.specs.Scope.{object_at, or_else, object_in, object_of, used_object, number_of_sort, number_of_name, object_as}
use Rattle.e_names.specs.Canonical.{missing_name, name_at, name_of_object}
use Rattle.e_line.proofs.base.Bound.{bind_ok, ok_is, read_ok}
use Rattle.e_names.proofs.read_lines.InScope.{known_is}

-- each name of the first list stands at its place in the second, which may be longer
abbrev pub Holds : List (List ℕ) → List (List ℕ) → Type 0
Holds xs ys = (i : ℕ) → i < length xs → name_at ys i ≡ name_at xs i

-- the same of the names of each sort
pub record Keeps (ns more : Names) : Type 0 where
  pub points : Holds ns.points more.points
  pub lines : Holds ns.lines more.lines
  pub circles : Holds ns.circles more.circles

pub keeps_all : (ns : Names) → Keeps ns ns
keeps_all ns = record { points = λ i lt. refl; lines = λ i lt. refl; circles = λ i lt. refl }

-- a name that is found
found_name : (xs ys : List (List ℕ)) (name : List ℕ) (i : ℕ) → Holds xs ys → position (λ n. bytes_eq n name) xs ≡ Some i → name_at ys i ≡ name
found_name xs ys name i h e =
    let p = position-Some (λ n. bytes_eq n name) xs i missing_name e in
    h i p.0 ∙ (bytes_eq-Decides (name_at xs i) name).0 p.1

-- an object with its name among more names
abbrev Named : Names → List ℕ → Obj → Type 0
Named more name o = name_of_object more o ≡ name

some_is : (x y : Obj) → Some x ≡ Some y → x ≡ y
some_is x y e = cc

at_found : (more : Names) (name : List ℕ) (sort : Sort) (p : Option ℕ) (o : Obj) → ((i : ℕ) → p ≡ Some i → Named more name (obj sort i)) → object_at sort p ≡ Some o → Named more name o
at_found more name sort None o h e = absurd cc
at_found more name sort (Some i) o h e = subst (λ (x : Obj). Named more name x) (some_is (obj sort i) o e) (h i refl)

in_found : (ns more : Names) (sort : Sort) (name : List ℕ) (o : Obj) → Keeps ns more → object_in ns sort name ≡ Some o → Named more name o
in_found ns more Point name o k e = at_found more name Point (position (λ n. bytes_eq n name) ns.points) o (λ i h. found_name ns.points more.points name i k.points h) e
in_found ns more Line name o k e = at_found more name Line (position (λ n. bytes_eq n name) ns.lines) o (λ i h. found_name ns.lines more.lines name i k.lines h) e
in_found ns more Circle name o k e = at_found more name Circle (position (λ n. bytes_eq n name) ns.circles) o (λ i h. found_name ns.circles more.circles name i k.circles h) e

either_found : (more : Names) (name : List ℕ) (a b : Option Obj) (o : Obj) → (a ≡ Some o → Named more name o) → (b ≡ Some o → Named more name o) → or_else a b ≡ Some o → Named more name o
either_found more name (Some x) b o ha hb e = ha e
either_found more name None b o ha hb e = hb e

pub used_named : (ns more : Names) (name : List ℕ) (o : Obj) → Keeps ns more → used_object ns name ≡ Ok o → name_of_object more o ≡ name
used_named ns more name o k e =
    let p = object_in ns Point name in
    let l = object_in ns Line name in
    let c = object_in ns Circle name in
    either_found more name p (or_else l c) o (in_found ns more Point name o k) (either_found more name l c o (in_found ns more Line name o k) (in_found ns more Circle name o k)) (known_is (object_of ns name) o e)

of_sort : (more : Names) (name : List ℕ) (t sort : Sort) (m n : ℕ) → Named more name (obj t m) → number_of_sort sort (obj t m) ≡ Ok n → Named more name (obj sort n)
of_sort more name Point Point m n h e = subst (λ (k : ℕ). Named more name (obj Point k)) (ok_is m n e) h
of_sort more name Line Line m n h e = subst (λ (k : ℕ). Named more name (obj Line k)) (ok_is m n e) h
of_sort more name Circle Circle m n h e = subst (λ (k : ℕ). Named more name (obj Circle k)) (ok_is m n e) h
of_sort more name t sort m n h e = absurd cc

-- the number of an object of a sort
pub number_named : (ns more : Names) (sort : Sort) (name : List ℕ) (n : ℕ) → Keeps ns more → number_of_name ns sort name ≡ Ok n → name_at (names_of_sort more sort) n ≡ name
unfolding number_of_name
number_named ns more sort name n k e =
    let a = bind_ok (used_object ns name) (λ o. number_of_sort sort o) n e in
    of_sort more name a.0.sort sort a.0.num n (used_named ns more name a.0 k a.1) a.2

pub object_named : (ns more : Names) (sort : Sort) (name : List ℕ) (o : Obj) → Keeps ns more → object_as ns sort name ≡ Ok o → name_of_object more o ≡ name
unfolding object_as
object_named ns more sort name o k e =
    let a = bind_ok (number_of_name ns sort name) (λ n. read_ok (obj sort n)) o e in
    subst (λ (x : Obj). Named more name x) (ok_is (obj sort a.0) o a.2) (number_named ns more sort name a.0 k a.1)
