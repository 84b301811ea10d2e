-- Names are read again, and words are cut where they were put together.
use Rattle.std.proofs.Common.{◌≡◌, ℕ, zero, suc, ◌+◌, ◌<◌, Bool, true, false, ltb, List, [], ◌∷◌, ◌++◌, length, get_or, drop, Some, Ok, refl, sym, ap, ◌∙◌, arith, length-append}
use Rattle.std.specs.List.{position_or_len, AllByRecursion}
use Rattle.std.specs.Str.{bytes_eq}
use Rattle.std.proofs.lemmas.Bool.{lt-ltb, le-ltb}
use Rattle.std.proofs.lemmas.List.{take_at, drop_at, drop-drop, take_all, drop_all}
use Rattle.std.proofs.lemmas.List.Sums.{position_or_len_is}
use Rattle.e_text.specs.Names.{is_name, is_title, name_of, title_of}
use Rattle.e_line.specs.Reading.{cut_at, names_of, some_names}
use Rattle.e_line.specs.Names.{AreNames}
use Rattle.e_line.proofs.base.Bound.{same_bytes}

pub named : (w : List ℕ) → is_name w ≡ true → name_of w ≡ Some w
named w e = rw e refl

pub titled : (w : List ℕ) → is_title w ≡ true → title_of w ≡ Some w
titled w e = rw e refl

pub names_again : (ns : List (List ℕ)) → AreNames ns → names_of ns ≡ Ok ns
names_again [] h = refl
names_again (n ∷ ns) h = rw (named n h.0, names_again ns h.1) refl

pub some_names_again : (n : List ℕ) (ns : List (List ℕ)) → AreNames (n ∷ ns) → some_names (n ∷ ns) ≡ Ok (n ∷ ns)
unfolding some_names
some_names_again n ns h = rw (names_again (n ∷ ns) h) refl

-- ---- cuts

-- no word is this one
abbrev pub Without : List ℕ → List (List ℕ) → Type 0
Without word ws = AllByRecursion (λ w. bytes_eq w word ≡ false) ws

no_word_at : (word : List ℕ) (ws : List (List ℕ)) (k : ℕ) → Without word ws → k < length ws → bytes_eq (get_or ws k []) word ≡ false
no_word_at word [] k h lt = absurd (omega arith)
no_word_at word (w ∷ ws) zero h lt = h.0
no_word_at word (w ∷ ws) (suc k) h lt = no_word_at word ws k h.1 (omega arith)

get_front : (xs ys : List (List ℕ)) (k : ℕ) → k < length xs → get_or (xs ++ ys) k [] ≡ get_or xs k []
get_front [] ys k lt = absurd (omega arith)
get_front (x ∷ xs) ys zero lt = refl
get_front (x ∷ xs) ys (suc k) lt = get_front xs ys k (omega arith)

get_after : (xs : List (List ℕ)) (y : List ℕ) (ys : List (List ℕ)) → get_or (xs ++ y ∷ ys) (length xs) [] ≡ y
get_after [] y ys = refl
get_after (x ∷ xs) y ys = get_after xs y ys

-- where the first word stands that passes
none_at : (p : List ℕ → Bool) (ws : List (List ℕ)) (k : ℕ) → AllByRecursion (λ w. p w ≡ false) ws → k < length ws → p (get_or ws k []) ≡ false
none_at p [] k h lt = absurd (omega arith)
none_at p (w ∷ ws) zero h lt = h.0
none_at p (w ∷ ws) (suc k) h lt = none_at p ws k h.1 (omega arith)

pub first_place : (p : List ℕ → Bool) (front : List (List ℕ)) (word : List ℕ) (ws : List (List ℕ)) → AllByRecursion (λ w. p w ≡ false) front → p word ≡ true
    → position_or_len p (front ++ word ∷ ws) ≡ length front
first_place p front word ws h is =
    let len : length (front ++ word ∷ ws) ≡ length front + suc (length ws) = length-append front (word ∷ ws) in
    position_or_len_is p (front ++ word ∷ ws) (length front) [] (omega arith) (λ k lt. ap p (get_front front (word ∷ ws) k lt) ∙ none_at p front k h lt) (λ lt. ap p (get_after front word ws) ∙ is)

-- a cut at a word that stands once
pub cut_again : (word : List ℕ) (front ws : List (List ℕ)) → Without word front → cut_at word (front ++ word ∷ ws) ≡ (front, ws, true)
cut_again word front ws h =
    let all = front ++ word ∷ ws in
    let len : length all ≡ length front + suc (length ws) = length-append front (word ∷ ws) in
    let at : position_or_len (λ w. bytes_eq w word) all ≡ length front = position_or_len_is (λ w. bytes_eq w word) all (length front) [] (omega arith)
    (λ k lt. ap (λ w. bytes_eq w word) (get_front front (word ∷ ws) k lt) ∙ no_word_at word front k h lt) (λ lt. ap (λ w. bytes_eq w word) (get_after front word ws) ∙ same_bytes word) in
    let test : ltb (length front) (length all) ≡ true = lt-ltb _ _ (omega arith) in
    let first = take_at front (word ∷ ws) (length front) refl in
    let back : drop (length front + 1) all ≡ ws = sym (drop-drop 1 (length front) all) ∙ ap (λ (xs : List (List ℕ)). drop 1 xs) (drop_at front (word ∷ ws) (length front) refl) in
    rw (at, test, first, back) refl

-- a cut at a word that does not stand there
pub uncut_again : (word : List ℕ) (ws : List (List ℕ)) → Without word ws → cut_at word ws ≡ (ws, [], false)
uncut_again word ws h =
    let at : position_or_len (λ w. bytes_eq w word) ws ≡ length ws = position_or_len_is (λ w. bytes_eq w word) ws (length ws) [] (omega arith) (λ k lt. no_word_at word ws k h lt) (λ lt. absurd (omega arith)) in
    let test : ltb (length ws) (length ws) ≡ false = le-ltb _ _ (omega arith) in
    let first = take_all (length ws) ws (omega arith) in
    let back : drop (length ws + 1) ws ≡ [] = drop_all (length ws + 1) ws (omega arith) in
    rw (at, test, first, back) refl
