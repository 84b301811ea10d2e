-- A text compared with words, and whether it is they.
use Rattle.std.proofs.Common.{◌≡◌, ℕ, Bool, true, false, cond, List, [], ◌∷◌, ◌++◌, length, Option, Some, None, refl, sym, ap, ◌∙◌}
use Rattle.std.specs.Prelude.{◌==◌, ◌&&◌, ◌+◌, take, drop, MatchOption, if◌then◌else◌}
use Rattle.std.specs.Borrow.{Bor}
use Rattle.std.specs.Str.{bytes_eq}
use Rattle.e_text.specs.Tokens.{with_spaces}
use Rattle.e_line.specs.SpellingCheck.{past_bytes, past_word, past, is_spelled, IsAfter}

pub past_append : (text : Option (List ℕ)) (xs ys : List (List ℕ)) → past text (xs ++ ys) ≡ past (past text xs) ys
past_append text [] ys = refl
past_append text (x ∷ xs) ys = past_append (past_word text x) xs ys

-- nothing is past words in a text that was not as it should be
none : (ws : List (List ℕ)) → past None ws ≡ None
none [] = refl
none (w ∷ ws) = none ws

-- one byte more
chosen : (same : Bool) (x : Option (List ℕ)) (a : Bool) → is_spelled x ≡ a → is_spelled (if same then x else None) ≡ (same && a)
chosen true x a e = e
chosen false x a e = refl

pub bytes_are_spelled : (bytes text : List ℕ) → is_spelled (past_bytes bytes text) ≡ bytes_eq text bytes
bytes_are_spelled [] [] = refl
bytes_are_spelled [] (c ∷ text) = refl
bytes_are_spelled (b ∷ bytes) [] = refl
bytes_are_spelled (b ∷ bytes) (c ∷ text) = chosen (c == b) (past_bytes bytes text) (bytes_eq text bytes) (bytes_are_spelled bytes text)

-- past some bytes and then others
abbrev both : Option (List ℕ) → List ℕ → Option (List ℕ)
both None bytes = None
both (Some text) bytes = past_bytes bytes text

chosen_both : (same : Bool) (x : Option (List ℕ)) (y : Option (List ℕ)) (bytes : List ℕ) → y ≡ both x bytes → (if same then y else None) ≡ both (if same then x else None) bytes
chosen_both true x y bytes e = e
chosen_both false x y bytes e = refl

both_bytes : (xs ys text : List ℕ) → past_bytes (xs ++ ys) text ≡ both (past_bytes xs text) ys
both_bytes [] ys text = refl
both_bytes (x ∷ xs) ys [] = refl
both_bytes (x ∷ xs) ys (c ∷ text) = chosen_both (c == x) (past_bytes xs text) (past_bytes (xs ++ ys) text) ys (both_bytes xs ys text)

words_both : (found : Option (List ℕ)) (ws : List (List ℕ)) → ((text : List ℕ) → past (Some text) ws ≡ past_bytes (with_spaces ws) text) → past found ws ≡ both found (with_spaces ws)
words_both None ws h = none ws
words_both (Some text) ws h = h text

words_are_bytes : (ws : List (List ℕ)) (text : List ℕ) → past (Some text) ws ≡ past_bytes (with_spaces ws) text
words_are_bytes [] text = refl
words_are_bytes (w ∷ ws) text = words_both (past_bytes (32 ∷ w) text) ws (words_are_bytes ws) ∙ sym (both_bytes (32 ∷ w) (with_spaces ws) text)

-- a text is as it should be where it is these words, each after a space
pub words_are_spelled : (ws : List (List ℕ)) (text : List ℕ) → is_spelled (past (Some text) ws) ≡ bytes_eq text (with_spaces ws)
words_are_spelled ws text = ap is_spelled (words_are_bytes ws text) ∙ bytes_are_spelled (with_spaces ws) text

-- what is past bytes comes after a front of the text that is they
abbrev after_front : Bool → List ℕ → List ℕ → Option (List ℕ)
after_front is_front bytes text = cond is_front (Some (drop (length bytes) text)) None

front_chosen : (same is_front : Bool) (b c : ℕ) (bytes text : List ℕ) → past_bytes bytes text ≡ after_front is_front bytes text → (if same then past_bytes bytes text else None) ≡ after_front (same && is_front) (b ∷ bytes) (c ∷ text)
front_chosen true is_front b c bytes text e = e
front_chosen false is_front b c bytes text e = refl

past_front : (bytes text : List ℕ) → past_bytes bytes text ≡ after_front (bytes_eq (take (length bytes) text) bytes) bytes text
past_front [] text = refl
past_front (b ∷ bytes) [] = refl
past_front (b ∷ bytes) (c ∷ text) = front_chosen (c == b) (bytes_eq (take (length bytes) text) bytes) b c bytes text (past_front bytes text)

pub past_stripped : (bytes text : List ℕ) (found : Option (Bor (List ℕ)))
    → MatchOption found (bytes_eq (take (length bytes) text) bytes ≡ false) (λ x. (bytes_eq (take (length bytes) text) bytes ≡ true) × (x.now ≡ drop (length bytes) text) × (length x.now + length bytes ≡ length text))
    → IsAfter found (past_bytes bytes text)
past_stripped bytes text None h = past_front bytes text ∙ ap (λ (f : Bool). after_front f bytes text) h
past_stripped bytes text (Some rest) h = past_front bytes text ∙ ap (λ (f : Bool). after_front f bytes text) h.0 ∙ ap (λ (t : List ℕ). Some t) (sym h.1)
