-- A number that is printed is read as itself.
use Rattle.std.proofs.Common.{◌≡◌, ℕ, ◌+◌, ◌-◌, ◌*◌, ◌/◌, ◌%◌, ◌^◌, ◌<◌, ◌≤◌, true, ltb, eqb, not, ◌||◌, List, [], ◌∷◌, ◌++◌, length, get_or, Some, refl, ap, ◌∙◌, arith, rules, tests, length-append, inl, inr}
use Rattle.std.specs.Prelude.{decimal}
use Rattle.std.specs.List.{list_all}
use Rattle.std.proofs.lemmas.Bool.{lt-ltb, cases_lt, and_parts}
use Rattle.std.proofs.lemmas.Fmt.{decimal_by_steps_wide}
use Rattle.std.proofs.Math.ListN.{get_or-append}
use Rattle.std.proofs.lemmas.List.Folds.{list_all-append}
use mathlib.Core.Bool.{or-true}
use Rattle.e_text.specs.Names.{is_digit}
use Rattle.e_text.specs.Numerals.{is_numeral, value_from, number_of}
use Rattle.e_text.specs.Tokens.{is_blank, is_token}
use Rattle.e_text.proofs.TokenWords.{some_bytes}

digit : (d : ℕ) → d < 10 → is_digit (48 + d) ≡ true
digit d lt = search (rules, tests)

-- one digit more
value_from-append : (n : ℕ) (ds : List ℕ) (b : ℕ) → value_from n (ds ++ b ∷ []) ≡ 10 * value_from n ds + (b - 48)
value_from-append n [] b = refl
value_from-append n (d ∷ ds) b = value_from-append (10 * n + (d - 48)) ds b

-- what the digits of a number are
record Spells (n : ℕ) (ds : List ℕ) : Type 0 where
  pub digits : list_all is_digit ds ≡ true
  pub some : 0 < length ds
  pub value : value_from 0 ds ≡ n
  pub first : 0 < n → 48 < get_or ds 0 0
  pub alone : n ≡ 0 → length ds ≡ 1

one_digit : (n : ℕ) → n < 10 → Spells n ((48 + n) ∷ [])
one_digit n lt = record {
  digits = rw (digit n lt) refl;
  some = omega arith;
  value = omega arith;
  first = λ h. omega arith;
  alone = λ h. refl;
}

digit_more : (n : ℕ) (ds : List ℕ) → 10 ≤ n → Spells (n / 10) ds → Spells n (ds ++ (48 + n % 10) ∷ [])
digit_more n ds le h =
    let d = n % 10 in
    record {
      digits = list_all-append is_digit ds ((48 + d) ∷ []) ∙ rw (h.digits, digit d (omega arith)) refl;
      some = omega (arith, length-append ds ((48 + d) ∷ []));
      value = value_from-append 0 ds (48 + d) ∙ ap (λ v. 10 * v + (48 + d - 48)) h.value ∙ omega arith;
      first = λ s. omega (arith, get_or-append ds ((48 + d) ∷ []) 0 0 h.some, h.first (omega arith));
      alone = λ z. absurd (omega arith);
    }

spelled : (n : ℕ) → n < 10 ^ 64 → Spells n (decimal n)
spelled n lt = decimal_by_steps_wide Spells one_digit digit_more n lt

numeral_by : (n : ℕ) (ds : List ℕ) → Spells n ds → is_numeral ds ≡ true
numeral_by n [] h = absurd (omega (arith, h.some))
numeral_by n (b ∷ bs) h =
    elim (cases_lt 0 n) [
      | inl lt ↦ let t : ltb 48 b ≡ true = lt-ltb _ _ (h.first lt) in rw (h.digits, t) (or-true (eqb (length bs) 0))
      | inr le ↦ let z : length bs ≡ 0 = omega (arith, h.alone (omega arith)) in rw (h.digits, z) refl
    ]

-- a number that is printed is a numeral
pub is_numeral-decimal : (n : ℕ) → n < 10 ^ 64 → is_numeral (decimal n) ≡ true
is_numeral-decimal n lt = numeral_by n (decimal n) (spelled n lt)

-- it is read as this number
pub number_of-decimal : (n : ℕ) → n < 2 ^ 128 → number_of (decimal n) ≡ Some n
number_of-decimal n lt =
    let small : n < 10 ^ 64 = omega arith in
    let is = is_numeral-decimal n small in
    let value : value_from 0 (decimal n) ≡ n = (spelled n small).value in
    let t : ltb n (2 ^ 128) ≡ true = lt-ltb _ _ lt in
    rw (is, value, t) refl

digit_is_no_blank : (b : ℕ) → is_digit b ≡ true → not (is_blank b) ≡ true
digit_is_no_blank b e = search (rules, tests)

digit_bytes : (w : List ℕ) → list_all is_digit w ≡ true → list_all (λ b. not (is_blank b)) w ≡ true
digit_bytes [] e = refl
digit_bytes (b ∷ bs) e = let p = and_parts (is_digit b) (list_all is_digit bs) e in rw (digit_is_no_blank b p.0, digit_bytes bs p.1) refl

-- no blank cuts a numeral
pub is_token-numeral : (w : List ℕ) → is_numeral w ≡ true → is_token w ≡ true
is_token-numeral [] e = absurd cc
is_token-numeral (b ∷ bs) e = let p = and_parts (list_all is_digit (b ∷ bs)) (eqb (length bs) 0 || ltb 48 b) e in some_bytes b bs (digit_bytes (b ∷ bs) p.0)
