-- Words of allowed bytes, and how many bytes they take on a line.
use Rattle.std.proofs.Common.{◌≡◌, ℕ, ◌+◌, ◌^◌, ◌<◌, ◌≤◌, Bool, true, leb, ltb, eqb, not, ◌&&◌, ◌||◌, List, [], ◌∷◌, ◌++◌, length, refl, ap, ◌∙◌, arith, rules, tests, length-append}
use Rattle.std.specs.Prelude.{decimal}
use Rattle.std.specs.List.{list_all}
use Rattle.std.proofs.lemmas.Bool.{leb-true, le-leb, and_parts}
use Rattle.std.proofs.lemmas.Fmt.{length-decimal-le_wide}
use Rattle.std.proofs.lemmas.List.Folds.{list_all-append}
use Rattle.e_text.specs.Lines.{is_allowed, AreShort}
use Rattle.e_text.specs.Names.{is_letter, is_digit, is_name_byte, is_title_byte, is_reserved, is_name, is_title}
use Rattle.e_text.specs.Numerals.{is_numeral}
use Rattle.e_text.specs.Tokens.{with_spaces, joined_words}
use Rattle.e_text.proofs.NumeralWords.{is_numeral-decimal}
use Rattle.e_text.proofs.Spaced.{spaced_append}

-- ---- words

-- a word of allowed bytes, at most this many
abbrev pub is_short : ℕ → List ℕ → Bool
is_short k w = list_all is_allowed w && leb (length w) k

-- by its bytes and their number
pub short_word : (k : ℕ) (w : List ℕ) → list_all is_allowed w ≡ true → length w ≤ k → is_short k w ≡ true
short_word k w h le = rw (h, le-leb (length w) k le) refl

-- ---- words on a line

-- each with a space before it, they take at most this many bytes
pub record Room (n : ℕ) (ws : List (List ℕ)) : Type 0 where
  pub allowed : list_all is_allowed (with_spaces ws) ≡ true
  pub few : length (with_spaces ws) ≤ n

-- no words
pub room_none : Room 0 []
room_none = record { allowed = refl; few = omega arith }

-- more room
pub room_more : (m n : ℕ) (ws : List (List ℕ)) → m ≤ n → Room m ws → Room n ws
room_more m n ws le r = record { allowed = r.allowed; few = omega (arith, r.few, le) }

-- one more word
pub room_word : (k n : ℕ) (w : List ℕ) (ws : List (List ℕ)) → is_short k w ≡ true → Room n ws → Room (k + 1 + n) (w ∷ ws)
room_word k n w ws h r =
    let p = and_parts (list_all is_allowed w) (leb (length w) k) h in
    record {
      allowed = list_all-append is_allowed w (with_spaces ws) ∙ rw (p.0, r.allowed) refl;
      few = omega (arith, r.few, leb-true (length w) k p.1, length-append w (with_spaces ws));
    }

-- the room of words after words
pub room_append : (m n : ℕ) (xs ys : List (List ℕ)) → Room m xs → Room n ys → Room (m + n) (xs ++ ys)
room_append m n xs ys r s =
    let e = spaced_append xs ys in
    record {
      allowed = ap (list_all is_allowed) e ∙ (list_all-append is_allowed (with_spaces xs) (with_spaces ys) ∙ rw (r.allowed, s.allowed) refl);
      few = omega (arith, r.few, s.few, ap length e, length-append (with_spaces xs) (with_spaces ys));
    }

-- a line of these words
abbrev pub IsShortLine : List ℕ → Type 0
IsShortLine bytes = (list_all is_allowed bytes ≡ true) × (length bytes ≤ 262144)

-- words that have room for a line
pub room_line : (n : ℕ) (ws : List (List ℕ)) → n ≤ 262144 → Room n ws → IsShortLine (joined_words ws)
room_line n [] le r = (refl, omega arith)
room_line n (w ∷ ws) le r = (r.allowed, omega (arith, le, r.few))

-- lines after one another
pub short_append : (xs ys : List (List ℕ)) → AreShort 262144 xs → AreShort 262144 ys → AreShort 262144 (xs ++ ys)
short_append [] ys h k = k
short_append (x ∷ xs) ys h k = (h.0, short_append xs ys h.1 k)

-- ---- names and titles

-- the bytes of names, titles and numbers are allowed
name_byte_allowed : (b : ℕ) → is_name_byte b ≡ true → is_allowed b ≡ true
name_byte_allowed b e = search (rules, tests)

title_byte_allowed : (b : ℕ) → is_title_byte b ≡ true → is_allowed b ≡ true
title_byte_allowed b e = search (rules, tests)

digit_allowed : (b : ℕ) → is_digit b ≡ true → is_allowed b ≡ true
digit_allowed b e = search (rules, tests)

-- bytes that pass a test that only allowed ones pass
all_allowed : (p : ℕ → Bool) → ((b : ℕ) → p b ≡ true → is_allowed b ≡ true) → (w : List ℕ) → list_all p w ≡ true → list_all is_allowed w ≡ true
all_allowed p f [] e = refl
all_allowed p f (b ∷ bs) e = let q = and_parts (p b) (list_all p bs) e in rw (f b q.0, all_allowed p f bs q.1) refl

-- a name has at most 16 bytes
pub short_name : (w : List ℕ) → is_name w ≡ true → is_short 16 w ≡ true
short_name [] e = absurd cc
short_name (b ∷ bs) e =
    let w : List ℕ = b ∷ bs in
    let p = and_parts (is_letter b) (leb (length w) 16 && (list_all is_name_byte w && not (is_reserved w))) e in
    let q = and_parts (leb (length w) 16) (list_all is_name_byte w && not (is_reserved w)) p.1 in
    let r = and_parts (list_all is_name_byte w) (not (is_reserved w)) q.1 in
    short_word 16 w (all_allowed is_name_byte name_byte_allowed w r.0) (leb-true (length w) 16 q.0)

-- a title has at most 24
pub short_title : (w : List ℕ) → is_title w ≡ true → is_short 24 w ≡ true
short_title [] e = absurd cc
short_title (b ∷ bs) e =
    let w : List ℕ = b ∷ bs in
    let p = and_parts (is_letter b) (leb (length w) 24 && list_all is_title_byte w) e in
    let q = and_parts (leb (length w) 24) (list_all is_title_byte w) p.1 in
    short_word 24 w (all_allowed is_title_byte title_byte_allowed w q.1) (leb-true (length w) 24 q.0)

-- ---- numbers

-- digits are allowed
numeral_allowed : (w : List ℕ) → is_numeral w ≡ true → list_all is_allowed w ≡ true
numeral_allowed [] e = absurd cc
numeral_allowed (b ∷ bs) e = all_allowed is_digit digit_allowed (b ∷ bs) (and_parts (list_all is_digit (b ∷ bs)) (eqb (length bs) 0 || ltb 48 b) e).0

-- a number below a power of ten
pub short_number : (k n : ℕ) → 0 < k → n < 10 ^ k → n < 10 ^ 64 → is_short k (decimal n) ≡ true
short_number k n some lt wide = short_word k (decimal n) (numeral_allowed (decimal n) (is_numeral-decimal n wide)) (length-decimal-le_wide k n some lt wide)
