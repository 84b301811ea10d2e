-- All shapes whose line some words are have the same pieces.
use Rattle.std.proofs.Common.{◌≡◌, ℕ, Bool, true, false, cond, not, ◌&&◌, ◌||◌, List, [], ◌∷◌, filter, Ok, true≢false, refl, sym, ap, subst, ◌∙◌}
use Rattle.std.specs.Prelude.{codes}
use Rattle.std.specs.List.{list_all, AllByRecursion}
use Rattle.std.specs.Str.{bytes_eq}
use Rattle.std.proofs.lemmas.Bool.{not-true, and_parts}
use Rattle.std.proofs.lemmas.Slice.Eq.{bytes_eq-Decides}
use Rattle.e_text.specs.Names.{is_name}
use Rattle.e_construct.specs.declared.construction.Shape.{Shape}
use Rattle.e_construct.specs.Lines.{Piece, New, Argument, Word, pieces, all_shapes, may_avoid}
use Rattle.e_line.specs.declared.lets.RawLet.{RawLet}
use Rattle.e_line.specs.Reading.{◌>>=◌, cut_at, names_of, names_after}
use Rattle.e_line.specs.Lets.{are_words_of, new_words, argument_words, is_line_of, shapes_of, let_named, let_of}
use Rattle.e_line.specs.Canonical.{line_pieces}
use Rattle.e_line.proofs.base.Bound.{bind_ok, ok_is, read_ok}
use Rattle.e_line.proofs.read_again.Pieces.{is_own_word, own_words, own_words_of, similar}

-- ---- pieces that have words in common

-- the same piece
abbrev same : Piece → Piece → Bool
same New New = true
same Argument Argument = true
same (Word v) (Word w) = bytes_eq v w
same p q = false

abbrev all_same : List Piece → List Piece → Bool
all_same [] [] = true
all_same (p ∷ ps) (q ∷ qs) = same p q && all_same ps qs
all_same ps qs = false

no_name : (v w : List ℕ) → is_own_word v ≡ true → is_name w ≡ true → bytes_eq w v ≡ true → ⊥
no_name v w o n e =
    let is : w ≡ v = (bytes_eq-Decides w v).0 e in
    true≢false (sym n ∙ ap is_name is ∙ not-true (is_name v) (and_parts _ _ o).0)

one_word : (u v w : List ℕ) → bytes_eq u v ≡ true → bytes_eq u w ≡ true → bytes_eq v w ≡ true
one_word u v w a b =
    let x : u ≡ v = (bytes_eq-Decides u v).0 a in
    let y : u ≡ w = (bytes_eq-Decides u w).0 b in
    (bytes_eq-Decides v w).1 (sym x ∙ y)

shared : (ps qs : List Piece) (ws : List (List ℕ)) → own_words ps ≡ true → own_words qs ≡ true → are_words_of ps ws ≡ true → are_words_of qs ws ≡ true → similar ps qs ≡ true
shared [] [] ws hp hq p q = refl
shared [] (y ∷ qs) [] hp hq p q = absurd cc
shared [] (y ∷ qs) (w ∷ ws) hp hq p q = absurd cc
shared (x ∷ ps) [] [] hp hq p q = absurd cc
shared (x ∷ ps) [] (w ∷ ws) hp hq p q = absurd cc
shared (x ∷ ps) (y ∷ qs) [] hp hq p q = absurd cc
shared (New ∷ ps) (New ∷ qs) (w ∷ ws) hp hq p q = shared ps qs ws hp hq (and_parts _ _ p).1 (and_parts _ _ q).1
shared (New ∷ ps) (Argument ∷ qs) (w ∷ ws) hp hq p q = shared ps qs ws hp hq (and_parts _ _ p).1 (and_parts _ _ q).1
shared (Argument ∷ ps) (New ∷ qs) (w ∷ ws) hp hq p q = shared ps qs ws hp hq (and_parts _ _ p).1 (and_parts _ _ q).1
shared (Argument ∷ ps) (Argument ∷ qs) (w ∷ ws) hp hq p q = shared ps qs ws hp hq (and_parts _ _ p).1 (and_parts _ _ q).1
shared (New ∷ ps) (Word v ∷ qs) (w ∷ ws) hp hq p q = absurd (no_name v w (and_parts _ _ hq).0 (and_parts _ _ p).0 (and_parts _ _ q).0)
shared (Argument ∷ ps) (Word v ∷ qs) (w ∷ ws) hp hq p q = absurd (no_name v w (and_parts _ _ hq).0 (and_parts _ _ p).0 (and_parts _ _ q).0)
shared (Word v ∷ ps) (New ∷ qs) (w ∷ ws) hp hq p q = absurd (no_name v w (and_parts _ _ hp).0 (and_parts _ _ q).0 (and_parts _ _ p).0)
shared (Word v ∷ ps) (Argument ∷ qs) (w ∷ ws) hp hq p q = absurd (no_name v w (and_parts _ _ hp).0 (and_parts _ _ q).0 (and_parts _ _ p).0)
shared (Word u ∷ ps) (Word v ∷ qs) (w ∷ ws) hp hq p q =
    let a = and_parts (bytes_eq w u) (are_words_of ps ws) p in
    let b = and_parts (bytes_eq w v) (are_words_of qs ws) q in
    let c = and_parts (is_own_word u) (own_words ps) hp in
    let d = and_parts (is_own_word v) (own_words qs) hq in
    rw (one_word w v u b.0 a.0, shared ps qs ws c.1 d.1 a.1 b.1) refl

pieces_same : (ps qs : List Piece) → all_same ps qs ≡ true → ps ≡ qs
pieces_same [] [] h = refl
pieces_same [] (q ∷ qs) h = absurd cc
pieces_same (p ∷ ps) [] h = absurd cc
pieces_same (p ∷ ps) (q ∷ qs) h = let b = and_parts (same p q) (all_same ps qs) h in first p q b.0 (pieces_same ps qs b.1)
  where
    first : (p q : Piece) → same p q ≡ true → ps ≡ qs → p ∷ ps ≡ q ∷ qs
    first New New h e = ap (λ (l : List Piece). New ∷ l) e
    first Argument Argument h e = ap (λ (l : List Piece). Argument ∷ l) e
    first (Word v) (Word w) h e = ap (λ (x : List ℕ). Word x ∷ ps) ((bytes_eq-Decides v w).0 h) ∙ ap (λ (l : List Piece). Word w ∷ l) e
    first p q h e = absurd cc

-- ---- the table

abbrev distinguished : Shape → Shape → Bool
distinguished s t = not (similar (pieces s) (pieces t)) || all_same (pieces s) (pieces t)

abbrev from_all : List Shape → Shape → Bool
from_all ts s = list_all (λ t. distinguished s t) ts

-- lines that have words in common have the same pieces
all_distinguished : list_all (from_all all_shapes) all_shapes ≡ true
unfolding pieces
all_distinguished = refl

-- what holds of all holds of those that pass a test
of_these : (p f : Shape → Bool) (xs : List Shape) → list_all p xs ≡ true → list_all p (filter f xs) ≡ true
of_these p f [] h = refl
of_these p f (x ∷ xs) h = let b = and_parts (p x) (list_all p xs) h in by_test (f x) b.0 (of_these p f xs b.1)
  where
    by_test : (t : Bool) → p x ≡ true → list_all p (filter f xs) ≡ true → list_all p (cond t (x ∷ filter f xs) (filter f xs)) ≡ true
    by_test true a h = rw (a, h) refl
    by_test false a h = h

-- and they pass it
pass : (f : Shape → Bool) (xs : List Shape) → list_all f (filter f xs) ≡ true
pass f [] = refl
pass f (x ∷ xs) = by_test (f x) refl (pass f xs)
  where
    by_test : (t : Bool) → f x ≡ t → list_all f (filter f xs) ≡ true → list_all f (cond t (x ∷ filter f xs) (filter f xs)) ≡ true
    by_test true a h = rw (a, h) refl
    by_test false a h = h

-- ---- the shapes of a line

abbrev have_words : List (List ℕ) → List Shape → Bool
have_words words ss = list_all (λ s. are_words_of (pieces s) words) ss

lines_have_words : (avoiding : Bool) (words : List (List ℕ)) (ss : List Shape) → list_all (is_line_of avoiding words) ss ≡ true → have_words words ss ≡ true
lines_have_words avoiding words [] h = refl
lines_have_words avoiding words (s ∷ ss) h =
    let b = and_parts (is_line_of avoiding words s) (list_all (is_line_of avoiding words) ss) h in
    rw ((and_parts (are_words_of (pieces s) words) (not avoiding || may_avoid s) b.0).0, lines_have_words avoiding words ss b.1) refl

-- each has the pieces of this one
abbrev pub AllHave : List Piece → List Shape → Type 0
AllHave ps ss = AllByRecursion (λ s. pieces s ≡ ps) ss

have_pieces : (words : List (List ℕ)) (s : Shape) (ss : List Shape) → are_words_of (pieces s) words ≡ true → have_words words ss ≡ true → from_all ss s ≡ true → AllHave (pieces s) ss
have_pieces words s [] h hs d = tt
have_pieces words s (t ∷ ss) h hs d =
    let b = and_parts (are_words_of (pieces t) words) (have_words words ss) hs in
    let c = and_parts (distinguished s t) (from_all ss s) d in
    let near = shared (pieces s) (pieces t) words (own_words_of s) (own_words_of t) h b.0 in
    let one : all_same (pieces s) (pieces t) ≡ true = implied (similar (pieces s) (pieces t)) (all_same (pieces s) (pieces t)) near c.0 in
    (sym (pieces_same (pieces s) (pieces t) one), have_pieces words s ss h b.1 c.1)
  where
    implied : (a b : Bool) → a ≡ true → (not a || b) ≡ true → b ≡ true
    implied true b e h = h
    implied false b e h = absurd cc

abbrev paired : List Shape → Bool
paired ss = list_all (from_all ss) ss

-- of pairs to pairs of those that pass a test
pairs_of_these : (f : Shape → Bool) (xs ys : List Shape) → list_all (from_all xs) ys ≡ true → list_all (from_all (filter f xs)) ys ≡ true
pairs_of_these f xs [] h = refl
pairs_of_these f xs (y ∷ ys) h =
    let b = and_parts (from_all xs y) (list_all (from_all xs) ys) h in
    rw (of_these (λ t. distinguished y t) f xs b.0, pairs_of_these f xs ys b.1) refl

shapes_alike : (words : List (List ℕ)) (ss : List Shape) → have_words words ss ≡ true → paired ss ≡ true → AllHave (line_pieces ss) ss
shapes_alike words [] h d = tt
shapes_alike words (s ∷ ss) h d =
    have_pieces words s (s ∷ ss) (and_parts (are_words_of (pieces s) words) (have_words words ss) h).0 h (and_parts (from_all (s ∷ ss) s) (list_all (from_all (s ∷ ss)) ss) d).0

-- the shapes whose line the words are
pub shapes_of_line : (avoiding : Bool) (words : List (List ℕ)) → AllHave (line_pieces (shapes_of avoiding words)) (shapes_of avoiding words)
unfolding shapes_of
shapes_of_line avoiding words =
    let f = is_line_of avoiding words in
    shapes_alike words (filter f all_shapes) (lines_have_words avoiding words (filter f all_shapes) (pass f all_shapes))
    (of_these (from_all (filter f all_shapes)) f all_shapes (pairs_of_these f all_shapes all_shapes all_distinguished))

-- ---- the line of a construction

-- the shapes of a construction that is read have the same line
abbrev pub OneLine : RawLet → Type 0
OneLine l = AllHave (line_pieces l.shapes) l.shapes

named_line : (ss : List Shape) (words avoid : List (List ℕ)) (l : RawLet) → AllHave (line_pieces ss) ss → let_named ss words avoid ≡ Ok l → OneLine l
unfolding let_named
named_line [] words avoid l h e = absurd cc
named_line (s ∷ ss) words avoid l h e =
    let made : List (List ℕ) → List (List ℕ) → RawLet = λ new args. record { shapes = s ∷ ss; new = new; args = args; avoid = avoid } in
    let a = bind_ok (names_of (new_words (pieces s) words)) (λ new. names_of (argument_words (pieces s) words) >>= λ args. read_ok (made new args)) l e in
    let b = bind_ok (names_of (argument_words (pieces s) words)) (λ args. read_ok (made a.0 args)) l a.2 in
    subst OneLine (ok_is (made a.0 b.0) l b.2) h

pub let_line : (ws : List (List ℕ)) (l : RawLet) → let_of ws ≡ Ok l → OneLine l
unfolding let_of
let_line ws l e =
    let parts = cut_at (codes "avoid") ws in
    let b = bind_ok (names_after parts.2 parts.1) (λ avoid. let_named (shapes_of parts.2 parts.0) parts.0 avoid) l e in
    named_line (shapes_of parts.2 parts.0) parts.0 b.0 l (shapes_of_line parts.2 parts.0) b.2
