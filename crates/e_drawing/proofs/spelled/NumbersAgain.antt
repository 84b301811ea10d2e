-- The decimal spelling of a number is read as that number.
use Rattle.std.proofs.Common.{◌≡◌, ℕ, suc, ◌+◌, ◌≤◌, ◌^◌, ℤ, pos, negsuc, Bool, true, false, cond, ltb, eqb, not, ◌||◌, List, [], ◌∷◌, length, Option, Some, None, Ok, refl, ap, ◌∙◌, arith, rules, tests}
use Rattle.std.specs.Prelude.{min}
use Rattle.std.specs.Fmt.{decimal, signed_decimal}
use Rattle.std.specs.List.{list_all}
use Rattle.std.proofs.lemmas.Bool.{leb-true, lt-ltb, and_parts}
use Rattle.e_text.specs.Names.{is_digit}
use Rattle.e_text.specs.Numerals.{is_numeral, value_from}
use Rattle.e_text.specs.Tokens.{has_bytes, is_blank, is_token}
use Rattle.e_text.proofs.NumeralWords.{is_numeral-decimal, number_of-decimal, is_token-numeral}
use Rattle.e_text.proofs.TokenWords.{some_bytes}
use Rattle.e_figure.specs.Figure.{is_small_number}
use Rattle.e_line.specs.Reading.{first_word}
use Rattle.e_drawing.specs.Numbers.{most_size, most_square, value_to, unsigned_of, negative_of, coordinate_of, square_of, coordinate_at, square_at}

abbrev some : ℕ → Option ℕ
some n = Some n

value_in : (b : Bool) (v n : ℕ) → cond b (Some v) None ≡ some n → v ≡ n
value_in true v n e = cc
value_in false v n e = absurd cc

-- a numeral within a bound
value_again : (most n : ℕ) → n ≤ most → most ≤ 2 ^ 64 → value_to most (decimal n) ≡ n
value_again most n h k =
    let v : value_from 0 (decimal n) ≡ n = value_in _ (value_from 0 (decimal n)) n (number_of-decimal n (omega (arith, h, k))) in
    ap (λ m. min m (most + 1)) v ∙ omega (arith, h)

numeral : (n : ℕ) → n ≤ 2 ^ 64 → is_numeral (decimal n) ≡ true
numeral n h = is_numeral-decimal n (omega (arith, h))

-- ---- signs

digits : (b : ℕ) (bs : List ℕ) → is_numeral (b ∷ bs) ≡ true → is_digit b ≡ true
digits b bs h = (and_parts (is_digit b) (list_all is_digit bs) (and_parts (list_all is_digit (b ∷ bs)) (eqb (length bs) 0 || ltb 48 b) h).0).0

not_minus : (b : ℕ) → is_digit b ≡ true → eqb b 45 ≡ false
not_minus b h = search (rules, tests)

-- no sign stands before a numeral
unsigned : (ds : List ℕ) → is_numeral ds ≡ true → coordinate_of ds ≡ unsigned_of ds
unsigned [] h = absurd cc
unsigned (b ∷ bs) h = rw (not_minus b (digits b bs h)) refl

unsigned_again : (n : ℕ) → n ≤ most_size → unsigned_of (decimal n) ≡ Ok (pos n)
unsigned_again n h = rw (numeral n (omega (arith, h)), value_again most_size n h (omega arith)) refl

negative_again : (n : ℕ) → suc n ≤ most_size → negative_of (decimal (suc n)) ≡ Ok (negsuc n)
negative_again n h =
    let t : ltb 0 (suc n) ≡ true = lt-ltb _ _ (omega arith) in
    rw (numeral (suc n) (omega (arith, h)), value_again most_size (suc n) h (omega arith), t) refl

coordinate_again : (z : ℤ) → is_small_number z ≡ true → coordinate_of (signed_decimal z) ≡ Ok z
coordinate_again (pos n) h =
    let few = leb-true n 1000000 h in
    unsigned (decimal n) (numeral n (omega (arith, few))) ∙ unsigned_again n few
coordinate_again (negsuc n) h = negative_again n (leb-true (suc n) 1000000 h)

square_again : (n : ℕ) → n ≤ most_square → square_of (decimal n) ≡ Ok n
square_again n h = rw (numeral n (omega (arith, h)), value_again most_square n h (omega arith)) refl

-- ---- as the next word

pub next_coordinate : (z : ℤ) (ws : List (List ℕ)) → is_small_number z ≡ true → coordinate_at (signed_decimal z ∷ ws) ≡ Ok (z, ws)
unfolding coordinate_at first_word
next_coordinate z ws h = rw (coordinate_again z h) refl

pub next_square : (n : ℕ) (ws : List (List ℕ)) → n ≤ most_square → square_at (decimal n ∷ ws) ≡ Ok (n, ws)
unfolding square_at first_word
next_square n ws h = rw (square_again n h) refl

-- ---- tokens

after_minus : (ds : List ℕ) → is_token ds ≡ true → is_token (45 ∷ ds) ≡ true
after_minus ds h = some_bytes 45 ds (and_parts (has_bytes ds) (list_all (λ b. not (is_blank b)) ds) h).1

pub coordinate_token : (z : ℤ) → is_small_number z ≡ true → is_token (signed_decimal z) ≡ true
coordinate_token (pos n) h = is_token-numeral (decimal n) (numeral n (omega (arith, leb-true n 1000000 h)))
coordinate_token (negsuc n) h = after_minus (decimal (suc n)) (is_token-numeral (decimal (suc n)) (numeral (suc n) (omega (arith, leb-true (suc n) 1000000 h))))

pub square_token : (n : ℕ) → n ≤ most_square → is_token (decimal n) ≡ true
square_token n h = is_token-numeral (decimal n) (numeral n (omega (arith, h)))
