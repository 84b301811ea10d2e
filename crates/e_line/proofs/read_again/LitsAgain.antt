-- The words of a literal are read as that literal.
use Rattle.std.proofs.Common.{◌≡◌, ℕ, Bool, true, false, ◌&&◌, List, [], ◌∷◌, ◌++◌, length, map, Some, is_some, Ok, refl, sym, ap, ◌∙◌}
use Rattle.std.specs.Prelude.{codes, ◌==◌}
use Rattle.std.specs.List.{position_or_len, slice_split, AllByRecursion}
use Rattle.std.specs.Str.{bytes_eq}
use Rattle.std.proofs.lemmas.List.{take_at, drop_at, append-nil}
use Rattle.std.proofs.lemmas.List.Elements.{All-from_recursion}
use Rattle.std.proofs.lemmas.List.Splits.{slice_split_at, slice_split_none}
use Rattle.e_text.specs.Names.{is_name, reserved_words}
use Rattle.e_text.specs.Tokens.{AreTokens}
use Rattle.e_text.proofs.TokenWords.{is_token-name}
use Rattle.e_line.specs.declared.sum.RawMono.{RawMono}
use Rattle.e_line.specs.declared.literal.Relation.{Relation}
use Rattle.e_line.specs.declared.literal.Relation.TheVariants as signs
use Rattle.e_line.specs.declared.literal.RawLit.{RawLit}
use Rattle.e_line.specs.declared.literal.RawAtom.{RawAtom}
use Rattle.e_line.specs.declared.literal.RawAtom.TheVariants as raw
use Rattle.e_line.specs.Reading.{each}
use Rattle.e_line.specs.Literals.{relation_of, is_relation, single_name, sums_of, equal_sides, sides_of, negation_of, lit_of_sides, lit_with_neg, lit_by_first_word, lit_after_not, lit_of, is_diagram_raw, diagram_lit_of, is_semicolon, lits_of}
use Rattle.e_line.specs.Canonical.{sum_words, sums_words, atom_words, words_with_neg, lit_words, more_words, lits_words}
use Rattle.e_line.proofs.read_again.NamesAgain.{Without, named, first_place}
use Rattle.e_line.proofs.read_again.LetsAgain.{append_tokens}
use Rattle.e_line.proofs.read_again.SumsAgain.{is_mono_word, mono_word_differs, SumNamed, sum_tokens, two_again, three_again, sum_again, sum_no_object, Begins, sum_begins, sum_all, name_word}

-- ---- what is known of the literals of canonical lines

-- two sums, with a term in one of them
pub record SidesNamed (x y : List RawMono) : Type 0 where
  pub left : SumNamed x
  pub right : SumNamed y
  pub some : (length x == 0 && length y == 0) ≡ false

-- names where names stand
abbrev pub AtomNamed : RawAtom → Type 0
AtomNamed (raw.On x y) = (is_name x ≡ true) × (is_name y ≡ true)
AtomNamed (raw.Inside x y) = (is_name x ≡ true) × (is_name y ≡ true)
AtomNamed (raw.Center x y) = (is_name x ≡ true) × (is_name y ≡ true)
AtomNamed (raw.Between x y z) = (is_name x ≡ true) × (is_name y ≡ true) × (is_name z ≡ true)
AtomNamed (raw.Same x y z) = (is_name x ≡ true) × (is_name y ≡ true) × (is_name z ≡ true)
AtomNamed (raw.Meets x y) = (is_name x ≡ true) × (is_name y ≡ true)
AtomNamed (raw.Equal x y) = (is_name x ≡ true) × (is_name y ≡ true)
AtomNamed (raw.SumsEqual x y) = SidesNamed x y
AtomNamed (raw.SumsLess x y) = SidesNamed x y
AtomNamed (raw.SumsAtMost x y) = SidesNamed x y

-- not stands before no <=
abbrev pub MaySign : Bool → RawAtom → Type 0
MaySign true (raw.SumsAtMost x y) = ⊥
MaySign neg a = Unit {0}

pub record LitNamed (l : RawLit) : Type 0 where
  pub atom : AtomNamed l.atom
  pub sign : MaySign l.neg l.atom

-- ---- signs

no_on : is_mono_word (codes "on") ≡ false
unfolding reserved_words
no_on = refl

no_inside : is_mono_word (codes "inside") ≡ false
unfolding reserved_words
no_inside = refl

no_center : is_mono_word (codes "center") ≡ false
unfolding reserved_words
no_center = refl

no_between : is_mono_word (codes "between") ≡ false
unfolding reserved_words
no_between = refl

no_side : is_mono_word (codes "same-side") ≡ false
unfolding reserved_words
no_side = refl

no_meets : is_mono_word (codes "meets") ≡ false
unfolding reserved_words
no_meets = refl

no_not : is_mono_word (codes "not") ≡ false
unfolding reserved_words
no_not = refl

no_equal : is_mono_word (codes "=") ≡ false
unfolding reserved_words
no_equal = refl

no_differ : is_mono_word (codes "!=") ≡ false
unfolding reserved_words
no_differ = refl

no_less : is_mono_word (codes "<") ≡ false
unfolding reserved_words
no_less = refl

no_at_most : is_mono_word (codes "<=") ≡ false
unfolding reserved_words
no_at_most = refl

no_semicolon : is_mono_word (codes ";") ≡ false
unfolding reserved_words
no_semicolon = refl

no_sign : (w : List ℕ) → is_mono_word w ≡ true → is_relation w ≡ false
no_sign w h =
    let a = mono_word_differs w (codes "=") h no_equal in
    let b = mono_word_differs w (codes "!=") h no_differ in
    let c = mono_word_differs w (codes "<") h no_less in
    let d = mono_word_differs w (codes "<=") h no_at_most in
    rw (a, b, c, d) refl

no_signs : (ms : List RawMono) → SumNamed ms → AllByRecursion (λ w. is_relation w ≡ false) (sum_words ms)
no_signs ms h = sum_all (λ w. is_relation w ≡ false) no_sign refl ms h

-- ---- comparisons are read again

comparison : (negated neg : Bool) (w : List ℕ) (s : Relation) (left right : List (List ℕ)) (a : RawAtom) → AllByRecursion (λ v. is_relation v ≡ false) left → relation_of w ≡ Some s
    → negation_of negated s ≡ Ok neg → sides_of s left right ≡ Ok a → lit_of_sides negated (left ++ w ∷ right) ≡ Ok (lit_with_neg neg a)
unfolding lit_of_sides
comparison negated neg w s left right a none is n sides =
    let all = left ++ w ∷ right in
    let sign : is_relation w ≡ true = ap is_some is in
    let at : position_or_len is_relation all ≡ length left = first_place is_relation left w right none sign in
    let front = take_at left (w ∷ right) (length left) refl in
    let back = drop_at left (w ∷ right) (length left) refl in
    rw (at, front, back, is, n, sides) refl

sides_again : (x y : List RawMono) → SidesNamed x y → sums_of (sum_words x) (sum_words y) ≡ Ok (x, y)
unfolding sums_of
sides_again x y h = rw (sum_again x h.left, sum_again y h.right, h.some) refl

equal_again : (x y : List RawMono) → SidesNamed x y → equal_sides (single_name (sum_words x)) (single_name (sum_words y)) (sums_of (sum_words x) (sum_words y)) ≡ Ok (raw.SumsEqual x y)
equal_again x y h = rw (sum_no_object x, sides_again x y h) refl

sums_equal : (x y : List RawMono) → SidesNamed x y → lit_of_sides false (sums_words x (codes "=") y) ≡ Ok (lit_with_neg false (raw.SumsEqual x y))
unfolding sides_of
sums_equal x y h = comparison false false (codes "=") signs.Equal (sum_words x) (sum_words y) (raw.SumsEqual x y) (no_signs x h.left) refl refl (equal_again x y h)

sums_differ : (x y : List RawMono) → SidesNamed x y → lit_of_sides false (sums_words x (codes "!=") y) ≡ Ok (lit_with_neg true (raw.SumsEqual x y))
unfolding sides_of
sums_differ x y h = comparison false true (codes "!=") signs.Differ (sum_words x) (sum_words y) (raw.SumsEqual x y) (no_signs x h.left) refl refl (equal_again x y h)

sums_less : (neg : Bool) (x y : List RawMono) → SidesNamed x y → lit_of_sides neg (sums_words x (codes "<") y) ≡ Ok (lit_with_neg neg (raw.SumsLess x y))
unfolding sides_of
sums_less neg x y h = comparison neg neg (codes "<") signs.Less (sum_words x) (sum_words y) (raw.SumsLess x y) (no_signs x h.left) refl refl (rw (sides_again x y h) refl)

sums_at_most : (x y : List RawMono) → SidesNamed x y → lit_of_sides false (sums_words x (codes "<=") y) ≡ Ok (lit_with_neg false (raw.SumsAtMost x y))
unfolding sides_of
sums_at_most x y h = comparison false false (codes "<=") signs.AtMost (sum_words x) (sum_words y) (raw.SumsAtMost x y) (no_signs x h.left) refl refl (rw (sides_again x y h) refl)

objects_again : (neg : Bool) (w : List ℕ) (s : Relation) (x y : List ℕ) → is_name x ≡ true → is_name y ≡ true → relation_of w ≡ Some s → negation_of false s ≡ Ok neg
    → sides_of s (x ∷ []) (y ∷ []) ≡ Ok (raw.Equal x y) → lit_of_sides false (x ∷ w ∷ y ∷ []) ≡ Ok (lit_with_neg neg (raw.Equal x y))
objects_again neg w s x y hx hy is n sides = comparison false neg w s (x ∷ []) (y ∷ []) (raw.Equal x y) (no_sign x (name_word x hx), tt) is n sides

objects_equal : (x y : List ℕ) → is_name x ≡ true → is_name y ≡ true → lit_of_sides false (x ∷ codes "=" ∷ y ∷ []) ≡ Ok (lit_with_neg false (raw.Equal x y))
unfolding sides_of
objects_equal x y hx hy = objects_again false (codes "=") signs.Equal x y hx hy refl refl (rw (named x hx, named y hy) refl)

objects_differ : (x y : List ℕ) → is_name x ≡ true → is_name y ≡ true → lit_of_sides false (x ∷ codes "!=" ∷ y ∷ []) ≡ Ok (lit_with_neg true (raw.Equal x y))
unfolding sides_of
objects_differ x y hx hy = objects_again true (codes "!=") signs.Differ x y hx hy refl refl (rw (named x hx, named y hy) refl)

-- ---- literals are read again

related_compared : (neg : Bool) (w : List ℕ) (ws : List (List ℕ)) → is_mono_word w ≡ true → lit_by_first_word neg w ws ≡ lit_of_sides neg (w ∷ ws)
unfolding lit_by_first_word
related_compared neg w ws h =
    let a = mono_word_differs w (codes "on") h no_on in
    let b = mono_word_differs w (codes "inside") h no_inside in
    let c = mono_word_differs w (codes "center") h no_center in
    let d = mono_word_differs w (codes "between") h no_between in
    let e = mono_word_differs w (codes "same-side") h no_side in
    let f = mono_word_differs w (codes "meets") h no_meets in
    rw (a, b, c, d, e, f) refl

plain_first : (w : List ℕ) (ws : List (List ℕ)) (l : RawLit) → is_mono_word w ≡ true → lit_of_sides false (w ∷ ws) ≡ Ok l → lit_of (w ∷ ws) ≡ Ok l
unfolding lit_of
plain_first w ws l h e = rw (mono_word_differs w (codes "not") h no_not, related_compared false w ws h) e

plain_again : (ws : List (List ℕ)) (l : RawLit) → Begins ws → lit_of_sides false ws ≡ Ok l → lit_of ws ≡ Ok l
plain_again ws l b e =
    ap lit_of b.is ∙ plain_first b.first b.rest l b.word (sym (ap (lit_of_sides false) b.is) ∙ e)

not_first : (w : List ℕ) (ws : List (List ℕ)) (l : RawLit) → is_mono_word w ≡ true → lit_of_sides true (w ∷ ws) ≡ Ok l → lit_of (codes "not" ∷ w ∷ ws) ≡ Ok l
unfolding lit_of lit_after_not
not_first w ws l h e = related_compared true w ws h ∙ e

not_again : (ws : List (List ℕ)) (l : RawLit) → Begins ws → lit_of_sides true ws ≡ Ok l → lit_of (codes "not" ∷ ws) ≡ Ok l
not_again ws l b e =
    ap (λ (v : List (List ℕ)). lit_of (codes "not" ∷ v)) b.is ∙ not_first b.first b.rest l b.word (sym (ap (lit_of_sides true) b.is) ∙ e)

signed_again : (neg : Bool) (a : RawAtom) → AtomNamed a → MaySign neg a → lit_of (words_with_neg neg a) ≡ Ok (lit_with_neg neg a)
unfolding lit_of lit_after_not lit_by_first_word
signed_again false (raw.On x y) h s = rw (two_again x y h.0 h.1) refl
signed_again false (raw.Inside x y) h s = rw (two_again x y h.0 h.1) refl
signed_again false (raw.Center x y) h s = rw (two_again x y h.0 h.1) refl
signed_again false (raw.Between x y z) h s = rw (three_again x y z h.0 h.1 h.2) refl
signed_again false (raw.Same x y z) h s = rw (three_again x y z h.0 h.1 h.2) refl
signed_again false (raw.Meets x y) h s = rw (two_again x y h.0 h.1) refl
signed_again false (raw.Equal x y) h s = plain_first x (codes "=" ∷ y ∷ []) (lit_with_neg false (raw.Equal x y)) (name_word x h.0) (objects_equal x y h.0 h.1)
signed_again false (raw.SumsEqual x y) h s = plain_again (sums_words x (codes "=") y) (lit_with_neg false (raw.SumsEqual x y)) (sum_begins x (codes "=" ∷ sum_words y) h.left) (sums_equal x y h)
signed_again false (raw.SumsLess x y) h s = plain_again (sums_words x (codes "<") y) (lit_with_neg false (raw.SumsLess x y)) (sum_begins x (codes "<" ∷ sum_words y) h.left) (sums_less false x y h)
signed_again false (raw.SumsAtMost x y) h s = plain_again (sums_words x (codes "<=") y) (lit_with_neg false (raw.SumsAtMost x y)) (sum_begins x (codes "<=" ∷ sum_words y) h.left) (sums_at_most x y h)
signed_again true (raw.On x y) h s = rw (two_again x y h.0 h.1) refl
signed_again true (raw.Inside x y) h s = rw (two_again x y h.0 h.1) refl
signed_again true (raw.Center x y) h s = rw (two_again x y h.0 h.1) refl
signed_again true (raw.Between x y z) h s = rw (three_again x y z h.0 h.1 h.2) refl
signed_again true (raw.Same x y z) h s = rw (three_again x y z h.0 h.1 h.2) refl
signed_again true (raw.Meets x y) h s = rw (two_again x y h.0 h.1) refl
signed_again true (raw.Equal x y) h s = plain_first x (codes "!=" ∷ y ∷ []) (lit_with_neg true (raw.Equal x y)) (name_word x h.0) (objects_differ x y h.0 h.1)
signed_again true (raw.SumsEqual x y) h s = plain_again (sums_words x (codes "!=") y) (lit_with_neg true (raw.SumsEqual x y)) (sum_begins x (codes "!=" ∷ sum_words y) h.left) (sums_differ x y h)
signed_again true (raw.SumsLess x y) h s = not_again (sums_words x (codes "<") y) (lit_with_neg true (raw.SumsLess x y)) (sum_begins x (codes "<" ∷ sum_words y) h.left) (sums_less true x y h)
signed_again true (raw.SumsAtMost x y) h s = absurd s

pub lit_again : (l : RawLit) → LitNamed l → lit_of (lit_words l) ≡ Ok l
lit_again l h = signed_again l.neg l.atom h.atom h.sign

pub diagram_again : (l : RawLit) → LitNamed l → is_diagram_raw l.atom ≡ true → diagram_lit_of (lit_words l) ≡ Ok l
unfolding diagram_lit_of
diagram_again l h d = rw (lit_again l h, d) refl

-- ---- no word of a literal is a semicolon

no_part : (w : List ℕ) → is_mono_word w ≡ true → bytes_eq w (codes ";") ≡ false
no_part w h = mono_word_differs w (codes ";") h no_semicolon

name_no_part : (w : List ℕ) → is_name w ≡ true → bytes_eq w (codes ";") ≡ false
name_no_part w h = no_part w (name_word w h)

append_without : (c : List ℕ) (xs ys : List (List ℕ)) → Without c xs → Without c ys → Without c (xs ++ ys)
append_without c [] ys h k = k
append_without c (x ∷ xs) ys h k = (h.0, append_without c xs ys h.1 k)

sum_without : (ms : List RawMono) → SumNamed ms → Without (codes ";") (sum_words ms)
sum_without ms h = sum_all (λ w. bytes_eq w (codes ";") ≡ false) no_part refl ms h

sums_without : (x y : List RawMono) (sign : List ℕ) → bytes_eq sign (codes ";") ≡ false → SidesNamed x y → Without (codes ";") (sums_words x sign y)
sums_without x y sign n h = append_without (codes ";") (sum_words x) (sign ∷ sum_words y) (sum_without x h.left) (n, sum_without y h.right)

atom_without : (a : RawAtom) → AtomNamed a → Without (codes ";") (atom_words a)
atom_without (raw.On x y) h = (refl, (name_no_part x h.0, (name_no_part y h.1, tt)))
atom_without (raw.Inside x y) h = (refl, (name_no_part x h.0, (name_no_part y h.1, tt)))
atom_without (raw.Center x y) h = (refl, (name_no_part x h.0, (name_no_part y h.1, tt)))
atom_without (raw.Between x y z) h = (refl, (name_no_part x h.0, (name_no_part y h.1, (name_no_part z h.2, tt))))
atom_without (raw.Same x y z) h = (refl, (name_no_part x h.0, (name_no_part y h.1, (name_no_part z h.2, tt))))
atom_without (raw.Meets x y) h = (refl, (name_no_part x h.0, (name_no_part y h.1, tt)))
atom_without (raw.Equal x y) h = (name_no_part x h.0, (refl, (name_no_part y h.1, tt)))
atom_without (raw.SumsEqual x y) h = sums_without x y (codes "=") refl h
atom_without (raw.SumsLess x y) h = sums_without x y (codes "<") refl h
atom_without (raw.SumsAtMost x y) h = sums_without x y (codes "<=") refl h

signed_without : (neg : Bool) (a : RawAtom) → AtomNamed a → Without (codes ";") (words_with_neg neg a)
signed_without false a h = atom_without a h
signed_without true (raw.Equal x y) h = (name_no_part x h.0, (refl, (name_no_part y h.1, tt)))
signed_without true (raw.SumsEqual x y) h = sums_without x y (codes "!=") refl h
signed_without true (raw.On x y) h = (refl, atom_without (raw.On x y) h)
signed_without true (raw.Inside x y) h = (refl, atom_without (raw.Inside x y) h)
signed_without true (raw.Center x y) h = (refl, atom_without (raw.Center x y) h)
signed_without true (raw.Between x y z) h = (refl, atom_without (raw.Between x y z) h)
signed_without true (raw.Same x y z) h = (refl, atom_without (raw.Same x y z) h)
signed_without true (raw.Meets x y) h = (refl, atom_without (raw.Meets x y) h)
signed_without true (raw.SumsLess x y) h = (refl, atom_without (raw.SumsLess x y) h)
signed_without true (raw.SumsAtMost x y) h = (refl, atom_without (raw.SumsAtMost x y) h)

-- at least one literal
abbrev pub LitsNamed : List RawLit → Type 0
LitsNamed [] = ⊥
LitsNamed (l ∷ ls) = AllByRecursion LitNamed (l ∷ ls)

pub split_again : (l : RawLit) (ls : List RawLit) → LitNamed l → AllByRecursion LitNamed ls → slice_split is_semicolon (lit_words l ++ more_words ls) ≡ map lit_words (l ∷ ls)
split_again l [] h k = ap (slice_split is_semicolon) (append-nil (lit_words l)) ∙ slice_split_none is_semicolon (lit_words l) (All-from_recursion (λ w. is_semicolon w ≡ false) (lit_words l) (signed_without l.neg l.atom h.atom))
split_again l (m ∷ ls) h k =
    slice_split_at is_semicolon (lit_words l) (codes ";") (lit_words m ++ more_words ls) (All-from_recursion (λ w. is_semicolon w ≡ false) (lit_words l) (signed_without l.neg l.atom h.atom)) refl
    ∙ ap (λ (ws : List (List (List ℕ))). lit_words l ∷ ws) (split_again m ls k.0 k.1)

each_again : (ls : List RawLit) → AllByRecursion LitNamed ls → each lit_of (map lit_words ls) ≡ Ok ls
each_again [] h = refl
each_again (l ∷ ls) h = rw (lit_again l h.0, each_again ls h.1) refl

pub lits_again : (ls : List RawLit) → LitsNamed ls → lits_of (lits_words ls) ≡ Ok ls
lits_again [] h = absurd h
lits_again (l ∷ ls) h = ap (each lit_of) (split_again l ls h.0 h.1) ∙ each_again (l ∷ ls) h

-- ---- tokens

sums_tokens : (x y : List RawMono) (sign : List ℕ) → AreTokens (sign ∷ []) → SidesNamed x y → AreTokens (sums_words x sign y)
sums_tokens x y sign t h = append_tokens (sum_words x) (sign ∷ sum_words y) (sum_tokens x h.left) (t.0, sum_tokens y h.right)

atom_tokens : (a : RawAtom) → AtomNamed a → AreTokens (atom_words a)
atom_tokens (raw.On x y) h = (refl, (is_token-name x h.0, (is_token-name y h.1, tt)))
atom_tokens (raw.Inside x y) h = (refl, (is_token-name x h.0, (is_token-name y h.1, tt)))
atom_tokens (raw.Center x y) h = (refl, (is_token-name x h.0, (is_token-name y h.1, tt)))
atom_tokens (raw.Between x y z) h = (refl, (is_token-name x h.0, (is_token-name y h.1, (is_token-name z h.2, tt))))
atom_tokens (raw.Same x y z) h = (refl, (is_token-name x h.0, (is_token-name y h.1, (is_token-name z h.2, tt))))
atom_tokens (raw.Meets x y) h = (refl, (is_token-name x h.0, (is_token-name y h.1, tt)))
atom_tokens (raw.Equal x y) h = (is_token-name x h.0, (refl, (is_token-name y h.1, tt)))
atom_tokens (raw.SumsEqual x y) h = sums_tokens x y (codes "=") (refl, tt) h
atom_tokens (raw.SumsLess x y) h = sums_tokens x y (codes "<") (refl, tt) h
atom_tokens (raw.SumsAtMost x y) h = sums_tokens x y (codes "<=") (refl, tt) h

signed_tokens : (neg : Bool) (a : RawAtom) → AtomNamed a → AreTokens (words_with_neg neg a)
signed_tokens false a h = atom_tokens a h
signed_tokens true (raw.Equal x y) h = (is_token-name x h.0, (refl, (is_token-name y h.1, tt)))
signed_tokens true (raw.SumsEqual x y) h = sums_tokens x y (codes "!=") (refl, tt) h
signed_tokens true (raw.On x y) h = (refl, atom_tokens (raw.On x y) h)
signed_tokens true (raw.Inside x y) h = (refl, atom_tokens (raw.Inside x y) h)
signed_tokens true (raw.Center x y) h = (refl, atom_tokens (raw.Center x y) h)
signed_tokens true (raw.Between x y z) h = (refl, atom_tokens (raw.Between x y z) h)
signed_tokens true (raw.Same x y z) h = (refl, atom_tokens (raw.Same x y z) h)
signed_tokens true (raw.Meets x y) h = (refl, atom_tokens (raw.Meets x y) h)
signed_tokens true (raw.SumsLess x y) h = (refl, atom_tokens (raw.SumsLess x y) h)
signed_tokens true (raw.SumsAtMost x y) h = (refl, atom_tokens (raw.SumsAtMost x y) h)

pub lit_tokens : (l : RawLit) → LitNamed l → AreTokens (lit_words l)
lit_tokens l h = signed_tokens l.neg l.atom h.atom

more_tokens : (ls : List RawLit) → AllByRecursion LitNamed ls → AreTokens (more_words ls)
more_tokens [] h = tt
more_tokens (l ∷ ls) h = (refl, append_tokens (lit_words l) (more_words ls) (lit_tokens l h.0) (more_tokens ls h.1))

pub lits_tokens : (ls : List RawLit) → LitsNamed ls → AreTokens (lits_words ls)
lits_tokens [] h = absurd h
lits_tokens (l ∷ ls) h = append_tokens (lit_words l) (more_words ls) (lit_tokens l h.0) (more_tokens ls h.1)
