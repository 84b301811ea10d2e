-- What a test of two parts says of each of them, and what they say of it.
use Rattle.std.proofs.Common.{◌≡◌, ℕ, List, [], ◌∷◌, ◌++◌, refl, sym, ◌∙◌, Bool, true, false, ◌&&◌, ◌||◌, true≢false, eqb, eq-eqb}
use Rattle.std.specs.List.{list_all}
use Rattle.std.proofs.lemmas.Bool.{and_from}
use Rattle.std.proofs.lemmas.List.Folds.{list_all-append}
use Rattle.e_literal.specs.Same.{same_neg}

pub and_left : (a b : Bool) → (a && b) ≡ true → a ≡ true
and_left true b h = refl
and_left false b h = h

pub and_right : (a b : Bool) → (a && b) ≡ true → b ≡ true
and_right true b h = h
and_right false b h = absurd (true≢false (sym h))

pub or_not_left : (a b : Bool) → (a || b) ≡ false → a ≡ false
or_not_left true b h = h
or_not_left false b h = refl

pub or_not_right : (a b : Bool) → (a || b) ≡ false → b ≡ false
or_not_right true b h = absurd (true≢false h)
or_not_right false b h = h

pub same_bool : (a b : Bool) → (a ≡ true → b ≡ true) → (b ≡ true → a ≡ true) → a ≡ b
same_bool true b h g = sym (h refl)
same_bool false true h g = g refl
same_bool false false h g = refl

-- ---- the same sign, and the same number

pub same_neg_is : (a b : Bool) → same_neg a b ≡ true → a ≡ b
same_neg_is true true h = refl
same_neg_is true false h = sym h
same_neg_is false true h = h
same_neg_is false false h = refl

pub same_neg_self : (a : Bool) → same_neg a a ≡ true
same_neg_self true = refl
same_neg_self false = refl

pub eqb_self : (a : ℕ) → eqb a a ≡ true
eqb_self a = eq-eqb a a refl

-- ---- tests of all in a list

pub all_hold : {X : Type 0} (p : X → Bool) (xs : List X) → ((x : X) → p x ≡ true) → list_all p xs ≡ true
all_hold p [] h = refl
all_hold p (x ∷ xs) h = and_from (p x) (list_all p xs) (h x) (all_hold p xs h)

pub all_left : {X : Type 0} (p : X → Bool) (xs ys : List X) → list_all p (xs ++ ys) ≡ true → list_all p xs ≡ true
all_left p xs ys h = and_left (list_all p xs) (list_all p ys) (sym (list_all-append p xs ys) ∙ h)

pub all_right : {X : Type 0} (p : X → Bool) (xs ys : List X) → list_all p (xs ++ ys) ≡ true → list_all p ys ≡ true
all_right p xs ys h = and_right (list_all p xs) (list_all p ys) (sym (list_all-append p xs ys) ∙ h)

pub all_both : {X : Type 0} (p : X → Bool) (xs ys : List X) → list_all p xs ≡ true → list_all p ys ≡ true → list_all p (xs ++ ys) ≡ true
all_both p xs ys h k = list_all-append p xs ys ∙ and_from (list_all p xs) (list_all p ys) h k
