-- Tests of the elements of lists.
use Rattle.std.proofs.Common.{◌≡◌, List, [], ◌∷◌, ◌++◌, refl, ap, ◌∙◌, Bool, true, ◌||◌, inl, inr, map}
use Rattle.std.specs.Prelude.{flat_map}
use Rattle.std.specs.List.{list_any}
use Rattle.std.proofs.lemmas.List.Folds.{list_any-append}
use Rattle.std.proofs.lemmas.Bool.{or_left, or_right, or_cases}

pub list_any-map : {X Y : Type 0} (p : Y → Bool) (h : X → Y) (xs : List X) → list_any p (map h xs) ≡ list_any (λ x. p (h x)) xs
list_any-map p h [] = refl
list_any-map p h (x ∷ xs) = ap (λ b. p (h x) || b) (list_any-map p h xs)

pub list_any-flat_map : {X Y : Type 0} (p : Y → Bool) (g : X → List Y) (xs : List X) → list_any p (flat_map g xs) ≡ list_any (λ x. list_any p (g x)) xs
list_any-flat_map p g [] = refl
list_any-flat_map p g (x ∷ xs) = list_any-append p (g x) (flat_map g xs) ∙ ap (λ b. list_any p (g x) || b) (list_any-flat_map p g xs)

-- a weaker test is passed too
pub weaker : {X : Type 0} (p q : X → Bool) → ((x : X) → p x ≡ true → q x ≡ true) → (xs : List X) → list_any p xs ≡ true → list_any q xs ≡ true
weaker p q h [] e = e
weaker p q h (x ∷ xs) e = elim (or_cases (p x) (list_any p xs) e) [
  | inl here ↦ or_left (q x) (list_any q xs) (h x here)
  | inr later ↦ or_right (q x) (list_any q xs) (weaker p q h xs later)
]

pub any_left : {X : Type 0} (p : X → Bool) (xs ys : List X) → list_any p xs ≡ true → list_any p (xs ++ ys) ≡ true
any_left p xs ys e = list_any-append p xs ys ∙ or_left (list_any p xs) (list_any p ys) e

pub any_right : {X : Type 0} (p : X → Bool) (xs ys : List X) → list_any p ys ≡ true → list_any p (xs ++ ys) ≡ true
any_right p xs ys e = list_any-append p xs ys ∙ or_right (list_any p xs) (list_any p ys) e

-- what an element that passes gives: found by its place in the list
pub Passing : {X : Type 0} → (X → Bool) → List X → Type 0
Passing p xs = list_any p xs ≡ true
