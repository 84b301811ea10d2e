-- Literals with other objects in the place of theirs, and scopes with more objects.
use Rattle.std.proofs.Common.{◌≡◌, ℕ, ◌≤◌, Bool, true, not, ◌&&◌, List, [], ◌∷◌, Option, refl, ◌∙◌, arith}
use Rattle.std.specs.List.{list_all}
use Rattle.std.proofs.lemmas.Bool.{ltb-true, lt-ltb, and_parts}
use Rattle.e_literal.specs.declared.object.Sort.{Sort}
use Rattle.e_literal.specs.declared.object.Sort.TheVariants.{Point, Line, Circle}
use Rattle.e_literal.specs.declared.object.Obj.{Obj}
use Rattle.e_literal.specs.declared.object.Scope.{Scope}
use Rattle.e_literal.specs.declared.literal.Atom.{Atom}
use Rattle.e_literal.specs.declared.literal.Atom.TheVariants as atoms
use Rattle.e_literal.specs.declared.literal.Lit.{Lit}
use Rattle.e_literal.specs.Literal.{count_of, is_in_scope, objects_of_atom, all_in_scope}
use Rattle.e_literal.specs.Facts.{is_metric}
use Rattle.e_literal.specs.Scopes.{same_sort, with_one, with_sorts, are_of_sorts}
use Rattle.e_literal.specs.Rename.{atom_at, number_at, with_images}
use Rattle.e_literal.proofs.WithImages.{is_moved_in, renamed_scope}

-- ---- tests that hold together

pub every : {X : Type 0} (p q : X → Bool) → ((x : X) → p x ≡ true → q x ≡ true) → (xs : List X) → list_all p xs ≡ true → list_all q xs ≡ true
every p q f [] h = refl
every p q f (x ∷ xs) h = let a = and_parts (p x) (list_all p xs) h in rw (f x a.0, every p q f xs a.1) refl

-- ---- in scope

pub moved_lit : (s : Scope) (image : Obj → Option Obj) (l : Lit) → list_all (is_moved_in s image) (objects_of_atom l.atom) ≡ true → all_in_scope s (with_images image l) ≡ true
moved_lit s image l h = renamed_scope s image l ∙ h

-- ---- no magnitudes

-- the literal does not compare magnitudes
abbrev pub is_plain : Lit → Bool
is_plain l = not (is_metric l)

plain_moved : (p l c : ℕ → ℕ) (n : Bool) (a : Atom) → is_plain (record { neg = n; atom = a }) ≡ true → is_plain (record { neg = n; atom = atom_at p l c a }) ≡ true
plain_moved p l c n (atoms.MagEq x y) h = absurd cc
plain_moved p l c n (atoms.MagLt x y) h = absurd cc
plain_moved p l c n a h = refl

pub renamed_plain : (image : Obj → Option Obj) (l : Lit) → is_plain l ≡ true → is_plain (with_images image l) ≡ true
renamed_plain image l h = plain_moved (number_at image Point) (number_at image Line) (number_at image Circle) l.neg l.atom h

-- ---- larger scopes

abbrev pub Within : Scope → Scope → Type 0
Within s t = (sort : Sort) → count_of s sort ≤ count_of t sort

pub in_more : (s t : Scope) → Within s t → (o : Obj) → is_in_scope s o ≡ true → is_in_scope t o ≡ true
in_more s t w o h = lt-ltb o.num (count_of t o.sort) (omega (arith, ltb-true o.num (count_of s o.sort) h, w o.sort))

pub of_sorts_more : (s t : Scope) → Within s t → (sorts : List Sort) (os : List Obj) → are_of_sorts s sorts os ≡ true → are_of_sorts t sorts os ≡ true
of_sorts_more s t w [] [] h = refl
of_sorts_more s t w [] (o ∷ os) h = absurd cc
of_sorts_more s t w (x ∷ sorts) [] h = absurd cc
of_sorts_more s t w (x ∷ sorts) (o ∷ os) h =
    let p = and_parts (same_sort x o.sort) (is_in_scope s o && are_of_sorts s sorts os) h in
    let q = and_parts (is_in_scope s o) (are_of_sorts s sorts os) p.1 in
    rw (p.0, in_more s t w o q.0, of_sorts_more s t w sorts os q.1) refl

pub grows : (s : Scope) (sorts : List Sort) → Within s (with_sorts s sorts)
grows s [] sort = omega arith
grows s (x ∷ sorts) sort = let a = grows (with_one s x) sorts sort in let b = one s x sort in omega (arith, a, b)
  where
    one : (s : Scope) (x : Sort) → Within s (with_one s x)
    one s Point Point = omega arith
    one s Point Line = omega arith
    one s Point Circle = omega arith
    one s Line Point = omega arith
    one s Line Line = omega arith
    one s Line Circle = omega arith
    one s Circle Point = omega arith
    one s Circle Line = omega arith
    one s Circle Circle = omega arith
