-- The words of a sum are read as that sum.
use Rattle.std.proofs.Common.{◌≡◌, ℕ, ◌+◌, ◌≤◌, Bool, true, false, cond, ◌||◌, List, [], ◌∷◌, ◌++◌, map, Option, Some, None, Ok, refl, sym, ap, ◌∙◌, arith}
use Rattle.std.specs.Prelude.{codes, decimal, min, ◌==◌}
use Rattle.std.specs.List.{slice_split, list_any, AllByRecursion}
use Rattle.std.specs.Str.{bytes_eq}
use Rattle.std.proofs.lemmas.List.{append-nil}
use Rattle.std.proofs.lemmas.List.Elements.{All-from_recursion}
use Rattle.std.proofs.lemmas.List.Splits.{slice_split_at, slice_split_none}
use Rattle.std.proofs.lemmas.Bool.Decides.{nat_tests}
use Rattle.std.proofs.lemmas.Slice.Eq.{bytes_eq-Decides}
use Rattle.e_text.specs.Names.{is_name, reserved_words}
use Rattle.e_text.specs.Numerals.{is_numeral, value_from}
use Rattle.e_text.specs.Tokens.{AreTokens}
use Rattle.e_text.proofs.TokenWords.{is_token-name}
use Rattle.e_text.proofs.NumeralWords.{is_numeral-decimal, number_of-decimal, is_token-numeral}
use Rattle.e_line.specs.declared.sum.RawTerm.{RawTerm}
use Rattle.e_line.specs.declared.sum.RawTerm.TheVariants.{Seg, Ang, Area, Right}
use Rattle.e_line.specs.declared.sum.RawMono.{RawMono}
use Rattle.e_line.specs.Limits.{most_coefficient}
use Rattle.e_line.specs.Reading.{each, two_names, three_names, first_word, first_name, no_word_left}
use Rattle.e_line.specs.Sums.{term_named, term_of, coefficient_of, counted_term, mono_of, is_plus, is_zero, sum_of}
use Rattle.e_line.specs.Literals.{single_name}
use Rattle.e_line.specs.Canonical.{term_words, coefficient_words, mono_words, more_monos, sum_words}
use Rattle.e_line.proofs.read_again.NamesAgain.{Without, named}
use Rattle.e_line.proofs.read_again.LetsAgain.{append_tokens}

-- ---- what the words of sums are

-- the words of magnitudes
abbrev pub is_magnitude_word : List ℕ → Bool
is_magnitude_word w = list_any (bytes_eq w) (codes "seg" ∷ codes "ang" ∷ codes "area" ∷ codes "right" ∷ [])

-- the words of a monomial
abbrev pub is_mono_word : List ℕ → Bool
is_mono_word w = is_name w || (is_numeral w || is_magnitude_word w)

pub name_word : (w : List ℕ) → is_name w ≡ true → is_mono_word w ≡ true
name_word w h = rw h refl

numeral_word : (w : List ℕ) → is_numeral w ≡ true → is_mono_word w ≡ true
numeral_word w h = by (is_name w)
  where
    by : (b : Bool) → (b || (is_numeral w || is_magnitude_word w)) ≡ true
    by true = refl
    by false = rw h refl

word_differs_by : (t : Bool) (w c : List ℕ) → bytes_eq w c ≡ t → is_mono_word w ≡ true → is_mono_word c ≡ false → t ≡ false
word_differs_by false w c e h n = refl
word_differs_by true w c e h n =
    let s : w ≡ c = (bytes_eq-Decides w c).0 e in
    sym h ∙ ap is_mono_word s ∙ n

-- a word of a monomial is no other word
pub mono_word_differs : (w c : List ℕ) → is_mono_word w ≡ true → is_mono_word c ≡ false → bytes_eq w c ≡ false
mono_word_differs w c h n = word_differs_by (bytes_eq w c) w c refl h n

abbrev pub AreMonoWords : List (List ℕ) → Type 0
AreMonoWords ws = AllByRecursion (λ w. is_mono_word w ≡ true) ws

append_words : (xs ys : List (List ℕ)) → AreMonoWords xs → AreMonoWords ys → AreMonoWords (xs ++ ys)
append_words [] ys h k = k
append_words (x ∷ xs) ys h k = (h.0, append_words xs ys h.1 k)

without_word : (c : List ℕ) (ws : List (List ℕ)) → is_mono_word c ≡ false → AreMonoWords ws → Without c ws
without_word c [] n h = tt
without_word c (w ∷ ws) n h = (mono_word_differs w c h.0 n, without_word c ws n h.1)

-- terms with names where names stand
abbrev pub TermNamed : RawTerm → Type 0
TermNamed (Seg x y) = (is_name x ≡ true) × (is_name y ≡ true)
TermNamed (Ang x y z) = (is_name x ≡ true) × (is_name y ≡ true) × (is_name z ≡ true)
TermNamed (Area x y z) = (is_name x ≡ true) × (is_name y ≡ true) × (is_name z ≡ true)
TermNamed Right = Unit {0}

-- and coefficients that they may have
pub record MonoNamed (m : RawMono) : Type 0 where
  pub term : TermNamed m.term
  pub some : 1 ≤ m.coeff
  pub small : m.coeff ≤ most_coefficient

abbrev pub SumNamed : List RawMono → Type 0
SumNamed ms = AllByRecursion MonoNamed ms

seg_word : is_mono_word (codes "seg") ≡ true
unfolding reserved_words
seg_word = refl

ang_word : is_mono_word (codes "ang") ≡ true
unfolding reserved_words
ang_word = refl

area_word : is_mono_word (codes "area") ≡ true
unfolding reserved_words
area_word = refl

right_word : is_mono_word (codes "right") ≡ true
unfolding reserved_words
right_word = refl

no_plus : is_mono_word (codes "+") ≡ false
no_plus = refl

term_words_are : (t : RawTerm) → TermNamed t → AreMonoWords (term_words t)
term_words_are (Seg x y) h = (seg_word, (name_word x h.0, (name_word y h.1, tt)))
term_words_are (Ang x y z) h = (ang_word, (name_word x h.0, (name_word y h.1, (name_word z h.2, tt))))
term_words_are (Area x y z) h = (area_word, (name_word x h.0, (name_word y h.1, (name_word z h.2, tt))))
term_words_are Right h = (right_word, tt)

decimal_numeral : (n : ℕ) → n ≤ most_coefficient → is_numeral (decimal n) ≡ true
decimal_numeral n h = is_numeral-decimal n (omega arith)

coefficient_words_are : (b : Bool) (n : ℕ) → n ≤ most_coefficient → AreMonoWords (cond b [] (decimal n ∷ []))
coefficient_words_are true n h = tt
coefficient_words_are false n h = (numeral_word (decimal n) (decimal_numeral n h), tt)

pub mono_words_are : (m : RawMono) → MonoNamed m → AreMonoWords (mono_words m)
mono_words_are m h = append_words (coefficient_words m.coeff) (term_words m.term) (coefficient_words_are (m.coeff == 1) m.coeff h.small) (term_words_are m.term h.term)

-- ---- tokens

pub term_tokens : (t : RawTerm) → TermNamed t → AreTokens (term_words t)
term_tokens (Seg x y) h = (refl, (is_token-name x h.0, (is_token-name y h.1, tt)))
term_tokens (Ang x y z) h = (refl, (is_token-name x h.0, (is_token-name y h.1, (is_token-name z h.2, tt))))
term_tokens (Area x y z) h = (refl, (is_token-name x h.0, (is_token-name y h.1, (is_token-name z h.2, tt))))
term_tokens Right h = (refl, tt)

coefficient_tokens : (b : Bool) (n : ℕ) → n ≤ most_coefficient → AreTokens (cond b [] (decimal n ∷ []))
coefficient_tokens true n h = tt
coefficient_tokens false n h = (is_token-numeral (decimal n) (decimal_numeral n h), tt)

mono_tokens : (m : RawMono) → MonoNamed m → AreTokens (mono_words m)
mono_tokens m h = append_tokens (coefficient_words m.coeff) (term_words m.term) (coefficient_tokens (m.coeff == 1) m.coeff h.small) (term_tokens m.term h.term)

more_tokens : (ms : List RawMono) → SumNamed ms → AreTokens (more_monos ms)
more_tokens [] h = tt
more_tokens (m ∷ ms) h = (refl, append_tokens (mono_words m) (more_monos ms) (mono_tokens m h.0) (more_tokens ms h.1))

pub sum_tokens : (ms : List RawMono) → SumNamed ms → AreTokens (sum_words ms)
sum_tokens [] h = (refl, tt)
sum_tokens (m ∷ ms) h = append_tokens (mono_words m) (more_monos ms) (mono_tokens m h.0) (more_tokens ms h.1)

-- ---- terms and monomials are read again

pub two_again : (x y : List ℕ) → is_name x ≡ true → is_name y ≡ true → two_names (x ∷ y ∷ []) ≡ Ok (x, y)
unfolding two_names first_word first_name no_word_left
two_again x y hx hy = rw (named x hx, named y hy) refl

pub three_again : (x y z : List ℕ) → is_name x ≡ true → is_name y ≡ true → is_name z ≡ true → three_names (x ∷ y ∷ z ∷ []) ≡ Ok (x, y, z)
unfolding three_names first_word first_name no_word_left
three_again x y z hx hy hz = rw (named x hx, named y hy, named z hz) refl

pub term_again : (t : RawTerm) → TermNamed t → term_of (term_words t) ≡ Ok t
unfolding term_of term_named no_word_left
term_again (Seg x y) h = rw (two_again x y h.0 h.1) refl
term_again (Ang x y z) h = rw (three_again x y z h.0 h.1 h.2) refl
term_again (Area x y z) h = rw (three_again x y z h.0 h.1 h.2) refl
term_again Right h = refl

abbrev mono : ℕ → RawTerm → RawMono
mono n t = record { coeff = n; term = t }

-- without a numeral before it
bare_again : (t : RawTerm) → TermNamed t → mono_of (term_words t) ≡ Ok (mono 1 t)
unfolding mono_of term_named no_word_left
bare_again (Seg x y) h = rw (two_again x y h.0 h.1) refl
bare_again (Ang x y z) h = rw (three_again x y z h.0 h.1 h.2) refl
bare_again (Area x y z) h = rw (three_again x y z h.0 h.1 h.2) refl
bare_again Right h = refl

abbrev some : ℕ → Option ℕ
some n = Some n

value_in : (b : Bool) (v n : ℕ) → cond b (Some v) None ≡ some n → v ≡ n
value_in true v n e = cc
value_in false v n e = absurd cc

decimal_value : (n : ℕ) → n ≤ most_coefficient → value_from 0 (decimal n) ≡ n
decimal_value n h = value_in _ (value_from 0 (decimal n)) n (number_of-decimal n (omega arith))

not_zero_by : (t : Bool) (n : ℕ) → 1 ≤ n → n ≤ most_coefficient → bytes_eq (decimal n) (codes "0") ≡ t → t ≡ false
not_zero_by false n s h e = refl
not_zero_by true n s h e =
    let is : decimal n ≡ codes "0" = (bytes_eq-Decides (decimal n) (codes "0")).0 e in
    let v : value_from 0 (codes "0") ≡ n = ap (value_from 0) (sym is) ∙ decimal_value n h in
    absurd (omega (arith, v))

counted_again : (n : ℕ) (t : RawTerm) → TermNamed t → 1 ≤ n → n ≤ most_coefficient → mono_of (decimal n ∷ term_words t) ≡ Ok (mono n t)
unfolding mono_of counted_term
counted_again n t h s k =
    let c : coefficient_of (decimal n) ≡ n = ap (λ v. min v (most_coefficient + 1)) (decimal_value n k) ∙ omega arith in
    rw (decimal_numeral n k, not_zero_by (bytes_eq (decimal n) (codes "0")) n s k refl, term_again t h, c) refl

coefficient_again : (b : Bool) (n : ℕ) (t : RawTerm) → (n == 1) ≡ b → TermNamed t → 1 ≤ n → n ≤ most_coefficient → mono_of (cond b [] (decimal n ∷ []) ++ term_words t) ≡ Ok (mono n t)
coefficient_again true n t e h s k = let is : n ≡ 1 = grind (arith, nat_tests) in bare_again t h ∙ ap (λ c. Ok (mono c t)) (sym is)
coefficient_again false n t e h s k = counted_again n t h s k

mono_again : (m : RawMono) → MonoNamed m → mono_of (mono_words m) ≡ Ok m
mono_again m h = coefficient_again (m.coeff == 1) m.coeff m.term refl h.term h.some h.small

monos_again : (ms : List RawMono) → SumNamed ms → each mono_of (map mono_words ms) ≡ Ok ms
monos_again [] h = refl
monos_again (m ∷ ms) h = rw (mono_again m h.0, monos_again ms h.1) refl

-- ---- sums are read again

no_plus_in : (m : RawMono) → MonoNamed m → Without (codes "+") (mono_words m)
no_plus_in m h = without_word (codes "+") (mono_words m) no_plus (mono_words_are m h)

pub split_again : (m : RawMono) (ms : List RawMono) → MonoNamed m → SumNamed ms → slice_split is_plus (mono_words m ++ more_monos ms) ≡ map mono_words (m ∷ ms)
split_again m [] h k =
    ap (slice_split is_plus) (append-nil (mono_words m)) ∙ slice_split_none is_plus (mono_words m) (All-from_recursion (λ w. is_plus w ≡ false) (mono_words m) (no_plus_in m h))
split_again m (n ∷ ms) h k =
    slice_split_at is_plus (mono_words m) (codes "+") (mono_words n ++ more_monos ms) (All-from_recursion (λ w. is_plus w ≡ false) (mono_words m) (no_plus_in m h)) refl
    ∙ ap (λ (ws : List (List (List ℕ))). mono_words m ∷ ws) (split_again n ms k.0 k.1)

-- a sum of monomials is not the word 0, and no name
term_not_zero : (t : RawTerm) (ws : List (List ℕ)) → is_zero (term_words t ++ ws) ≡ false
term_not_zero (Seg x y) ws = refl
term_not_zero (Ang x y z) ws = refl
term_not_zero (Area x y z) ws = refl
term_not_zero Right [] = refl
term_not_zero Right (w ∷ ws) = refl

counted_not_zero : (n : List ℕ) (t : RawTerm) (ws : List (List ℕ)) → is_zero (n ∷ term_words t ++ ws) ≡ false
counted_not_zero n (Seg x y) ws = refl
counted_not_zero n (Ang x y z) ws = refl
counted_not_zero n (Area x y z) ws = refl
counted_not_zero n Right ws = refl

mono_not_zero : (b : Bool) (n : List ℕ) (t : RawTerm) (ws : List (List ℕ)) → is_zero ((cond b [] (n ∷ []) ++ term_words t) ++ ws) ≡ false
mono_not_zero true n t ws = term_not_zero t ws
mono_not_zero false n t ws = counted_not_zero n t ws

pub sum_again : (ms : List RawMono) → SumNamed ms → sum_of (sum_words ms) ≡ Ok ms
unfolding sum_of
sum_again [] h = refl
sum_again (m ∷ ms) h =
    rw (mono_not_zero (m.coeff == 1) (decimal m.coeff) m.term (more_monos ms)) (ap (each mono_of) (split_again m ms h.0 h.1) ∙ monos_again (m ∷ ms) h)

right_no_name : is_name (codes "right") ≡ false
unfolding reserved_words
right_no_name = refl

term_no_object : (t : RawTerm) (ws : List (List ℕ)) → single_name (term_words t ++ ws) ≡ None
term_no_object (Seg x y) ws = refl
term_no_object (Ang x y z) ws = refl
term_no_object (Area x y z) ws = refl
term_no_object Right [] = rw right_no_name refl
term_no_object Right (w ∷ ws) = refl

counted_no_object : (n : List ℕ) (t : RawTerm) (ws : List (List ℕ)) → single_name (n ∷ term_words t ++ ws) ≡ None
counted_no_object n (Seg x y) ws = refl
counted_no_object n (Ang x y z) ws = refl
counted_no_object n (Area x y z) ws = refl
counted_no_object n Right ws = refl

mono_no_object : (b : Bool) (n : List ℕ) (t : RawTerm) (ws : List (List ℕ)) → single_name ((cond b [] (n ∷ []) ++ term_words t) ++ ws) ≡ None
mono_no_object true n t ws = term_no_object t ws
mono_no_object false n t ws = counted_no_object n t ws

pub sum_no_object : (ms : List RawMono) → single_name (sum_words ms) ≡ None
sum_no_object [] = refl
sum_no_object (m ∷ ms) = mono_no_object (m.coeff == 1) (decimal m.coeff) m.term (more_monos ms)

-- ---- the first word of a sum, and all of its words

-- what is said of the words before others
pub record Begins (words : List (List ℕ)) : Type 0 where
  pub first : List ℕ
  pub rest : List (List ℕ)
  pub is : words ≡ first ∷ rest
  pub word : is_mono_word first ≡ true

begins_with : (first : List ℕ) (rest : List (List ℕ)) → is_mono_word first ≡ true → Begins (first ∷ rest)
begins_with first rest h = record { first = first; rest = rest; is = refl; word = h }

term_begins : (t : RawTerm) (ws : List (List ℕ)) → Begins (term_words t ++ ws)
term_begins (Seg x y) ws = begins_with (codes "seg") (x ∷ y ∷ ws) seg_word
term_begins (Ang x y z) ws = begins_with (codes "ang") (x ∷ y ∷ z ∷ ws) ang_word
term_begins (Area x y z) ws = begins_with (codes "area") (x ∷ y ∷ z ∷ ws) area_word
term_begins Right ws = begins_with (codes "right") ws right_word

mono_begins : (b : Bool) (n : ℕ) (t : RawTerm) (ws : List (List ℕ)) → n ≤ most_coefficient → Begins ((cond b [] (decimal n ∷ []) ++ term_words t) ++ ws)
mono_begins true n t ws h = term_begins t ws
mono_begins false n t ws h = begins_with (decimal n) (term_words t ++ ws) (numeral_word (decimal n) (decimal_numeral n h))

assoc : (xs ys zs : List (List ℕ)) → (xs ++ ys) ++ zs ≡ xs ++ (ys ++ zs)
assoc [] ys zs = refl
assoc (x ∷ xs) ys zs = ap (λ (l : List (List ℕ)). x ∷ l) (assoc xs ys zs)

zero_word : is_mono_word (codes "0") ≡ true
zero_word = refl

pub sum_begins : (ms : List RawMono) (ws : List (List ℕ)) → SumNamed ms → Begins (sum_words ms ++ ws)
sum_begins [] ws h = begins_with (codes "0") ws zero_word
sum_begins (m ∷ ms) ws h =
    let b = mono_begins (m.coeff == 1) m.coeff m.term (more_monos ms ++ ws) h.0.small in
    record { first = b.first; rest = b.rest; is = assoc (mono_words m) (more_monos ms) ws ∙ b.is; word = b.word }

append_all : (P : List ℕ → Type 0) (xs ys : List (List ℕ)) → AllByRecursion P xs → AllByRecursion P ys → AllByRecursion P (xs ++ ys)
append_all P [] ys h k = k
append_all P (x ∷ xs) ys h k = (h.0, append_all P xs ys h.1 k)

mono_all : (P : List ℕ → Type 0) → ((w : List ℕ) → is_mono_word w ≡ true → P w) → (ws : List (List ℕ)) → AreMonoWords ws → AllByRecursion P ws
mono_all P f [] h = tt
mono_all P f (w ∷ ws) h = (f w h.0, mono_all P f ws h.1)

more_all : (P : List ℕ → Type 0) → ((w : List ℕ) → is_mono_word w ≡ true → P w) → P (codes "+") → (ms : List RawMono) → SumNamed ms → AllByRecursion P (more_monos ms)
more_all P f p [] h = tt
more_all P f p (m ∷ ms) h = (p, append_all P (mono_words m) (more_monos ms) (mono_all P f (mono_words m) (mono_words_are m h.0)) (more_all P f p ms h.1))

-- what holds of the words of monomials and of the plus holds of each word of a sum
pub sum_all : (P : List ℕ → Type 0) → ((w : List ℕ) → is_mono_word w ≡ true → P w) → P (codes "+") → (ms : List RawMono) → SumNamed ms → AllByRecursion P (sum_words ms)
sum_all P f p [] h = (f (codes "0") zero_word, tt)
sum_all P f p (m ∷ ms) h = append_all P (mono_words m) (more_monos ms) (mono_all P f (mono_words m) (mono_words_are m h.0)) (more_all P f p ms h.1)
