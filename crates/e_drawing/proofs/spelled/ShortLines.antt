-- The lines of a canonical text are short, and have no byte that no text may have.
use Rattle.std.proofs.Common.{◌≡◌, ℕ, suc, ◌*◌, ◌≤◌, ◌<◌, ◌^◌, ℤ, pos, negsuc, Bool, true, false, leb, ltb, eqb, not, ◌&&◌, ◌||◌, List, [], ◌∷◌, ◌++◌, length, refl, ap, ◌∙◌, arith, rules, tests, length-append}
use Rattle.std.specs.Prelude.{codes, decimal}
use Rattle.std.specs.Fmt.{signed_decimal}
use Rattle.std.specs.List.{list_all}
use Rattle.std.proofs.lemmas.Bool.{leb-true, le-leb, and_parts}
use Rattle.std.proofs.lemmas.Fmt.{length-decimal-le_wide}
use Rattle.std.proofs.lemmas.List.{append-nil}
use Rattle.std.proofs.lemmas.List.Folds.{list_all-append}
use Rattle.e_text.specs.Lines.{is_allowed}
use Rattle.e_text.specs.Names.{is_letter, is_digit, is_name_byte, is_reserved, is_name}
use Rattle.e_text.specs.Numerals.{is_numeral}
use Rattle.e_text.specs.Tokens.{with_spaces, joined_words}
use Rattle.e_text.proofs.NumeralWords.{is_numeral-decimal}
use Rattle.e_figure.specs.Figure.{is_small_number}
use Rattle.e_line.specs.declared.literal.RawAtom.{RawAtom}
use Rattle.e_line.specs.declared.literal.RawAtom.TheVariants as atoms
use Rattle.e_line.specs.Canonical.{words_with_neg}
use Rattle.e_line.specs.Literals.{is_diagram_raw}
use Rattle.e_line.proofs.read_again.LitsAgain.{AtomNamed}
use Rattle.e_drawing.specs.declared.raw.RawLine.{RawLine}
use Rattle.e_drawing.specs.declared.raw.RawLine.TheVariants as raw
use Rattle.e_drawing.specs.Spelled.{plan_line_words}
use Rattle.e_drawing.proofs.spelled.LinesAgain.{LineDrawn, point_parts, line_parts, circle_parts}

-- ---- words

-- a word of allowed bytes, at most 16
abbrev is_short : List ℕ → Bool
is_short w = list_all is_allowed w && leb (length w) 16

-- at most seven such words
abbrev are_few : List (List ℕ) → Bool
are_few ws = list_all is_short ws && leb (length ws) 7

name_byte_allowed : (b : ℕ) → is_name_byte b ≡ true → is_allowed b ≡ true
name_byte_allowed b e = search (rules, tests)

digit_allowed : (b : ℕ) → is_digit b ≡ true → is_allowed b ≡ true
digit_allowed b e = search (rules, tests)

all_allowed : (p : ℕ → Bool) → ((b : ℕ) → p b ≡ true → is_allowed b ≡ true) → (w : List ℕ) → list_all p w ≡ true → list_all is_allowed w ≡ true
all_allowed p f [] e = refl
all_allowed p f (b ∷ bs) e = let q = and_parts (p b) (list_all p bs) e in rw (f b q.0, all_allowed p f bs q.1) refl

short_name : (w : List ℕ) → is_name w ≡ true → is_short w ≡ true
short_name [] e = absurd cc
short_name (b ∷ bs) e =
    let w : List ℕ = b ∷ bs in
    let p = and_parts (is_letter b) (leb (length w) 16 && (list_all is_name_byte w && not (is_reserved w))) e in
    let q = and_parts (leb (length w) 16) (list_all is_name_byte w && not (is_reserved w)) p.1 in
    let r = and_parts (list_all is_name_byte w) (not (is_reserved w)) q.1 in
    rw (all_allowed is_name_byte name_byte_allowed w r.0, q.0) refl

digits_allowed : (w : List ℕ) → is_numeral w ≡ true → list_all is_allowed w ≡ true
digits_allowed [] e = absurd cc
digits_allowed (b ∷ bs) e = all_allowed is_digit digit_allowed (b ∷ bs) (and_parts (list_all is_digit (b ∷ bs)) (eqb (length bs) 0 || ltb 48 b) e).0

number_allowed : (n : ℕ) → n < 10 ^ 15 → list_all is_allowed (decimal n) ≡ true
number_allowed n lt = digits_allowed (decimal n) (is_numeral-decimal n (omega (arith, lt)))

number_length : (n : ℕ) → n < 10 ^ 15 → length (decimal n) ≤ 15
number_length n lt = length-decimal-le_wide 15 n (omega arith) lt (omega (arith, lt))

short_square : (n : ℕ) → n ≤ 1000000000000 → is_short (decimal n) ≡ true
short_square n h =
    let lt : n < 10 ^ 15 = omega (arith, h) in
    rw (number_allowed n lt, le-leb (length (decimal n)) 16 (omega (arith, number_length n lt))) refl

short_coordinate : (z : ℤ) → is_small_number z ≡ true → is_short (signed_decimal z) ≡ true
short_coordinate (pos n) h = short_square n (omega (arith, leb-true n 1000000 h))
short_coordinate (negsuc n) h =
    let lt : suc n < 10 ^ 15 = omega (arith, leb-true (suc n) 1000000 h) in
    let few : leb (length (45 ∷ decimal (suc n))) 16 ≡ true = le-leb _ _ (omega (arith, number_length (suc n) lt)) in
    rw (number_allowed (suc n) lt, few) refl

-- ---- lines

-- a literal after a word
few_signed : (word : List ℕ) (neg : Bool) (a : RawAtom) → is_short word ≡ true → AtomNamed a → is_diagram_raw a ≡ true → are_few (word ∷ words_with_neg neg a) ≡ true
few_signed word true (atoms.On x y) s h d = rw (s, short_name x h.0, short_name y h.1) refl
few_signed word false (atoms.On x y) s h d = rw (s, short_name x h.0, short_name y h.1) refl
few_signed word true (atoms.Inside x y) s h d = rw (s, short_name x h.0, short_name y h.1) refl
few_signed word false (atoms.Inside x y) s h d = rw (s, short_name x h.0, short_name y h.1) refl
few_signed word true (atoms.Center x y) s h d = rw (s, short_name x h.0, short_name y h.1) refl
few_signed word false (atoms.Center x y) s h d = rw (s, short_name x h.0, short_name y h.1) refl
few_signed word true (atoms.Between x y z) s h d = rw (s, short_name x h.0, short_name y h.1, short_name z h.2) refl
few_signed word false (atoms.Between x y z) s h d = rw (s, short_name x h.0, short_name y h.1, short_name z h.2) refl
few_signed word true (atoms.Same x y z) s h d = rw (s, short_name x h.0, short_name y h.1, short_name z h.2) refl
few_signed word false (atoms.Same x y z) s h d = rw (s, short_name x h.0, short_name y h.1, short_name z h.2) refl
few_signed word true (atoms.Meets x y) s h d = rw (s, short_name x h.0, short_name y h.1) refl
few_signed word false (atoms.Meets x y) s h d = rw (s, short_name x h.0, short_name y h.1) refl
few_signed word true (atoms.Equal x y) s h d = rw (s, short_name x h.0, short_name y h.1) refl
few_signed word false (atoms.Equal x y) s h d = rw (s, short_name x h.0, short_name y h.1) refl
few_signed word neg (atoms.SumsEqual x y) s h d = absurd cc
few_signed word neg (atoms.SumsLess x y) s h d = absurd cc
few_signed word neg (atoms.SumsAtMost x y) s h d = absurd cc

-- the words of one literal are those of a list of it alone
one_literal : (word : List ℕ) (neg : Bool) (a : RawAtom) → is_short word ≡ true → AtomNamed a → is_diagram_raw a ≡ true → are_few (word ∷ (words_with_neg neg a ++ [])) ≡ true
one_literal word neg a s h d = ap (λ (ws : List (List ℕ)). are_few (word ∷ ws)) (append-nil (words_with_neg neg a)) ∙ few_signed word neg a s h d

few_words : (f : RawLine) → LineDrawn f → are_few (plan_line_words f) ≡ true
few_words raw.Figure h = refl
few_words (raw.Point name a) h = let p = point_parts a h.1 in rw (short_name name h.0, short_coordinate a.x p.0, short_coordinate a.y p.1) refl
few_words (raw.Line name l) h =
    let p = line_parts l h.1 in
    rw (short_name name h.0, short_coordinate l.x p.0, short_coordinate l.y p.1, short_coordinate l.dx p.2, short_coordinate l.dy p.3) refl
few_words (raw.Circle name c) h = let p = circle_parts c h.1 in rw (short_name name h.0, short_coordinate c.x p.0, short_coordinate c.y p.1, short_square c.square p.2) refl
few_words (raw.Given []) h = absurd h
few_words (raw.Given (l ∷ [])) h = one_literal (codes "given") l.neg l.atom refl h.0.atom h.1
few_words (raw.Given (l ∷ m ∷ ls)) h = absurd h
few_words (raw.Show []) h = absurd h
few_words (raw.Show (l ∷ [])) h = one_literal (codes "show") l.neg l.atom refl h.0.atom h.1
few_words (raw.Show (l ∷ m ∷ ls)) h = absurd h
few_words raw.End h = refl

-- ---- their bytes

spaced_bytes : (ws : List (List ℕ)) → list_all is_short ws ≡ true → (list_all is_allowed (with_spaces ws) ≡ true) × (length (with_spaces ws) ≤ 17 * length ws)
spaced_bytes [] h = (refl, omega arith)
spaced_bytes (w ∷ ws) h =
    let p = and_parts (is_short w) (list_all is_short ws) h in
    let q = and_parts (list_all is_allowed w) (leb (length w) 16) p.0 in
    let r = spaced_bytes ws p.1 in
    (list_all-append is_allowed w (with_spaces ws) ∙ rw (q.0, r.0) refl, omega (arith, r.1, leb-true (length w) 16 q.1, length-append w (with_spaces ws)))

joined_bytes : (ws : List (List ℕ)) → are_few ws ≡ true → (list_all is_allowed (joined_words ws) ≡ true) × (length (joined_words ws) ≤ 1600)
joined_bytes [] h = (refl, omega arith)
joined_bytes (w ∷ ws) h =
    let p = and_parts (list_all is_short (w ∷ ws)) (leb (length (w ∷ ws)) 7) h in
    let r = spaced_bytes (w ∷ ws) p.0 in
    (r.0, omega (arith, r.1, leb-true (length (w ∷ ws)) 7 p.1))

pub short_line : (f : RawLine) → LineDrawn f → (list_all is_allowed (joined_words (plan_line_words f)) ≡ true) × (length (joined_words (plan_line_words f)) ≤ 1600)
short_line f h = joined_bytes (plan_line_words f) (few_words f h)
