-- What scans of bytes find, by recursion.
use Rattle.std.proofs.Common.{◌≡◌, ℕ, suc, ◌+◌, ◌≤◌, Bool, true, false, cond, not, ltb, ◌&&◌, List, [], ◌∷◌, length, Option, None, Some, refl, sym, ◌∙◌, arith}
use Rattle.std.specs.List.{fold, list_all, position, position_or_len}
use Rattle.std.specs.Option.{unwrap_or}
use Rattle.std.proofs.lemmas.List.Sums.{position_or_len_is}
use Rattle.std.proofs.lemmas.Bool.{ltb-false}
use mathlib.Core.Bool.{and_assoc}
use Rattle.memchr.specs.Find.{is_byte, IsFirstByte}

and_true : (a : Bool) → a ≡ (a && true)
and_true true = refl
and_true false = refl

-- a test of each element, without an early end
pub fold_all : {X : Type 0} (p : X → Bool) (a : Bool) (xs : List X) → fold (λ all x. all && p x) a xs ≡ (a && list_all p xs)
fold_all p a [] = and_true a
fold_all p a (x ∷ xs) = fold_all p (a && p x) xs ∙ and_assoc a (p x) (list_all p xs)

pub false_unless_true : (b : Bool) → ¬ (b ≡ true) → b ≡ false
false_unless_true true never = absurd (never refl)
false_unless_true false never = refl

one_further : (b : Bool) (n m : ℕ) → n ≤ m → cond b (1 + n) 0 ≤ suc m
one_further true n m h = omega (arith, h)
one_further false n m h = omega arith

first_within : {X : Type 0} (p : X → Bool) (xs : List X) → position_or_len p xs ≤ length xs
first_within p [] = omega arith
first_within p (x ∷ xs) = one_further (not (p x)) (position_or_len p xs) (length xs) (first_within p xs)

-- the place of the first element that passes, or the number of elements
pub place_or_len : {X : Type 0} (p : X → Bool) (xs : List X) → (unwrap_or (position p xs) (length xs) ≡ position_or_len p xs) × (position_or_len p xs ≤ length xs)
place_or_len p xs = (by (ltb (position_or_len p xs) (length xs)) refl, first_within p xs)
  where
    by : (b : Bool) → ltb (position_or_len p xs) (length xs) ≡ b → unwrap_or (cond b (Some (position_or_len p xs)) None) (length xs) ≡ position_or_len p xs
    by true e = refl
    by false e = omega (arith, ltb-false (position_or_len p xs) (length xs) e, first_within p xs)

-- the first place of a byte, or the number of bytes
pub first_or_len : (byte : ℕ) (bytes : List ℕ) (place : Option ℕ) → IsFirstByte (is_byte byte) bytes place → unwrap_or place (length bytes) ≡ position_or_len (is_byte byte) bytes
first_or_len byte bytes None never = sym (position_or_len_is (is_byte byte) bytes (length bytes) 0 (omega arith) (λ k lt. false_unless_true _ (never k (omega arith) lt)) (λ lt. absurd (omega arith)))
first_or_len byte bytes (Some k) first = sym (position_or_len_is (is_byte byte) bytes k 0 (omega (arith, first.0.high)) (λ j lt. false_unless_true _ (first.0.before j (omega arith) lt)) (λ lt. first.1))
