-- Literals with other objects in the place of theirs: where they are in scope, and that they are as
-- well formed as before.
use Rattle.std.proofs.Common.{◌≡◌, ℕ, Bool, true, false, cond, ◌&&◌, List, [], ◌∷◌, ◌++◌, map, length, Option, Some, None, refl, sym, ap, ◌∙◌}
use Rattle.std.specs.Prelude.{nat_le}
use Rattle.std.specs.List.{list_all}
use Rattle.std.proofs.lemmas.List.{map-append, length-map}
use Rattle.std.proofs.lemmas.List.Folds.{list_all-append}
use Rattle.e_literal.specs.declared.object.Kind.{Kind}
use Rattle.e_literal.specs.declared.object.Sort.TheVariants.{Point, Line, Circle}
use Rattle.e_literal.specs.declared.object.Obj.{Obj}
use Rattle.e_literal.specs.declared.object.Scope.{Scope}
use Rattle.e_literal.specs.declared.object.Term.{Term}
use Rattle.e_literal.specs.declared.object.Term.TheVariants as terms
use Rattle.e_literal.specs.declared.object.Mono.{Mono}
use Rattle.e_literal.specs.declared.literal.Atom.{Atom}
use Rattle.e_literal.specs.declared.literal.Atom.TheVariants as atoms
use Rattle.e_literal.specs.declared.literal.Lit.{Lit}
use Rattle.e_literal.specs.declared.map.Entry.{Entry}
use Rattle.e_literal.specs.Literal.{obj, is_in_scope, objects_of_term, objects_of_sum, objects_of_atom, all_in_scope, kind_of_term, kind_of_sums}
use Rattle.e_literal.specs.WellFormed.{same_kind, is_bounded_coefficient, are_well_formed_sums, is_well_formed_atom, is_well_formed}
use Rattle.e_literal.specs.Rename.{term_at, mono_at, atom_at, number_at, with_images, same_obj, image_in}

-- ---- in scope

-- what stands for the object is in scope
abbrev pub is_moved_in : Scope → (Obj → Option Obj) → Obj → Bool
is_moved_in s f o = is_in_scope s (obj o.sort (number_at f o.sort o.num))

term_scope : (s : Scope) (f : Obj → Option Obj) (t : Term) → list_all (is_in_scope s) (objects_of_term (term_at (number_at f Point) t)) ≡ list_all (is_moved_in s f) (objects_of_term t)
term_scope s f (terms.Seg a b) = refl
term_scope s f (terms.Ang a b c) = refl
term_scope s f (terms.Area a b c) = refl
term_scope s f terms.Right = refl

sum_scope : (s : Scope) (f : Obj → Option Obj) (ms : List Mono) → list_all (is_in_scope s) (objects_of_sum (map (mono_at (number_at f Point)) ms)) ≡ list_all (is_moved_in s f) (objects_of_sum ms)
sum_scope s f [] = refl
sum_scope s f (m ∷ ms) =
    list_all-append (is_in_scope s) (objects_of_term (term_at (number_at f Point) m.term)) (objects_of_sum (map (mono_at (number_at f Point)) ms))
    ∙ ap (λ b. b && list_all (is_in_scope s) (objects_of_sum (map (mono_at (number_at f Point)) ms))) (term_scope s f m.term)
    ∙ ap (λ b. list_all (is_moved_in s f) (objects_of_term m.term) && b) (sum_scope s f ms)
    ∙ sym (list_all-append (is_moved_in s f) (objects_of_term m.term) (objects_of_sum ms))

sums_scope : (s : Scope) (f : Obj → Option Obj) (x y : List Mono)
    → list_all (is_in_scope s) (objects_of_sum (map (mono_at (number_at f Point)) x) ++ objects_of_sum (map (mono_at (number_at f Point)) y))
    ≡ list_all (is_moved_in s f) (objects_of_sum x ++ objects_of_sum y)
sums_scope s f x y =
    list_all-append (is_in_scope s) (objects_of_sum (map (mono_at (number_at f Point)) x)) (objects_of_sum (map (mono_at (number_at f Point)) y))
    ∙ ap (λ b. b && list_all (is_in_scope s) (objects_of_sum (map (mono_at (number_at f Point)) y))) (sum_scope s f x)
    ∙ ap (λ b. list_all (is_moved_in s f) (objects_of_sum x) && b) (sum_scope s f y)
    ∙ sym (list_all-append (is_moved_in s f) (objects_of_sum x) (objects_of_sum y))

atom_scope : (s : Scope) (f : Obj → Option Obj) (a : Atom)
    → list_all (is_in_scope s) (objects_of_atom (atom_at (number_at f Point) (number_at f Line) (number_at f Circle) a)) ≡ list_all (is_moved_in s f) (objects_of_atom a)
atom_scope s f (atoms.MagEq x y) = sums_scope s f x y
atom_scope s f (atoms.MagLt x y) = sums_scope s f x y
atom_scope s f a = refl

pub renamed_scope : (s : Scope) (f : Obj → Option Obj) (l : Lit) → all_in_scope s (with_images f l) ≡ list_all (is_moved_in s f) (objects_of_atom l.atom)
renamed_scope s f l = atom_scope s f l.atom

-- ---- well formed

pub kind_stays : (p : ℕ → ℕ) (t : Term) → kind_of_term (term_at p t) ≡ kind_of_term t
kind_stays p (terms.Seg a b) = refl
kind_stays p (terms.Ang a b c) = refl
kind_stays p (terms.Area a b c) = refl
kind_stays p terms.Right = refl

kinds_stay : (p : ℕ → ℕ) (x y : List Mono) → kind_of_sums (map (mono_at p) x) (map (mono_at p) y) ≡ kind_of_sums x y
kinds_stay p (m ∷ x) y = kind_stays p m.term
kinds_stay p [] (m ∷ y) = kind_stays p m.term
kinds_stay p [] [] = refl

-- monomials of this kind, with good coefficients
abbrev fits_kind : Kind → Mono → Bool
fits_kind k m = same_kind (kind_of_term m.term) k && is_bounded_coefficient m.coeff

each_fits : (p : ℕ → ℕ) (k : Kind) (ms : List Mono) → list_all (fits_kind k) (map (mono_at p) ms) ≡ list_all (fits_kind k) ms
each_fits p k [] = refl
each_fits p k (m ∷ ms) =
    ap (λ t. (same_kind t k && is_bounded_coefficient m.coeff) && list_all (fits_kind k) (map (mono_at p) ms)) (kind_stays p m.term)
    ∙ ap (λ b. fits_kind k m && b) (each_fits p k ms)

abbrev good_list : Kind → List Mono → Bool
good_list k ms = nat_le 1 (length ms) && (nat_le (length ms) 32 && list_all (fits_kind k) ms)

good_list_stays : (p : ℕ → ℕ) (k : Kind) (ms : List Mono) → good_list k (map (mono_at p) ms) ≡ good_list k ms
good_list_stays p k ms =
    ap (λ n. nat_le 1 n && (nat_le n 32 && list_all (fits_kind k) (map (mono_at p) ms))) (length-map ms (mono_at p))
    ∙ ap (λ b. nat_le 1 (length ms) && (nat_le (length ms) 32 && b)) (each_fits p k ms)

good_sums_stay : (p : ℕ → ℕ) (x y : List Mono) → are_well_formed_sums (map (mono_at p) x) (map (mono_at p) y) ≡ are_well_formed_sums x y
good_sums_stay p x y =
    ap (λ k. good_list k (map (mono_at p) x ++ map (mono_at p) y)) (kinds_stay p x y)
    ∙ ap (good_list (kind_of_sums x y)) (sym (map-append (mono_at p) x y))
    ∙ good_list_stays p (kind_of_sums x y) (x ++ y)

pub good_atom_stays : (p l c : ℕ → ℕ) (a : Atom) → is_well_formed_atom (atom_at p l c a) ≡ is_well_formed_atom a
good_atom_stays p l c (atoms.MagEq x y) = good_sums_stay p x y
good_atom_stays p l c (atoms.MagLt x y) = good_sums_stay p x y
good_atom_stays p l c a = refl

pub renamed_well_formed : (f : Obj → Option Obj) (l : Lit) → is_well_formed (with_images f l) ≡ is_well_formed l
renamed_well_formed f l = good_atom_stays (number_at f Point) (number_at f Line) (number_at f Circle) l.atom

-- ---- images in two lists, one after the other

in_first : (b : Bool) (t i : Obj) (u v : Option Obj) → (u ≡ Some i → v ≡ Some i) → cond b (Some t) u ≡ Some i → cond b (Some t) v ≡ Some i
in_first true t i u v k h = h
in_first false t i u v k h = k h

in_second : (b : Bool) (t : Obj) (u v w : Option Obj) → (u ≡ None → v ≡ w) → cond b (Some t) u ≡ None → cond b (Some t) v ≡ w
in_second true t u v w k h = absurd (some_none h)
  where
    some_none : Some t ≡ None → ⊥
    some_none e = cc
in_second false t u v w k h = k h

-- where the first list has an image it counts
pub image_in_first : (xs ys : List Entry) (o i : Obj) → image_in xs o ≡ Some i → image_in (xs ++ ys) o ≡ Some i
image_in_first [] ys o i h = absurd (none_some h)
  where
    none_some : None ≡ Some i → ⊥
    none_some e = cc
image_in_first (x ∷ xs) ys o i h =
    in_first (same_obj x.source o) x.target i (image_in xs o) (image_in (xs ++ ys) o) (image_in_first xs ys o i) h

-- else the second does
pub image_in_second : (xs ys : List Entry) (o : Obj) → image_in xs o ≡ None → image_in (xs ++ ys) o ≡ image_in ys o
image_in_second [] ys o h = refl
image_in_second (x ∷ xs) ys o h =
    in_second (same_obj x.source o) x.target (image_in xs o) (image_in (xs ++ ys) o) (image_in ys o) (image_in_second xs ys o) h
