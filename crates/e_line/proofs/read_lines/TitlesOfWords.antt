-- Titles and names that are read from words.
use Rattle.std.proofs.Common.{◌≡◌, ℕ, ◌+◌, Bool, true, false, cond, List, [], ◌∷◌, length, Some, None, Ok, refl, subst, arith}
use Rattle.std.proofs.lemmas.Bool.{and_parts}
use Rattle.e_text.specs.Names.{is_name, is_title, name_of, title_of}
use Rattle.e_construct.specs.Lines.{Piece}
use Rattle.e_line.specs.Reading.{◌>>=◌, or_malformed, first_word, first_title, names_of}
use Rattle.e_line.specs.declared.lets.Slot.{Slot}
use Rattle.e_line.specs.declared.lets.Slot.TheVariants as slots
use Rattle.e_line.specs.Lets.{is_word_of, are_words_of, is_slot, words_in_slots, new_words}
use Rattle.e_line.specs.Names.{AreNames}
use Rattle.e_line.proofs.base.Bound.{bind_ok, ok_is, read_ok}

-- ---- forms

kept : (b : Bool) (w n : List ℕ) → or_malformed (cond b (Some w) None) ≡ read_ok n → (b ≡ true) × (w ≡ n)
kept true w n e = (refl, ok_is w n e)
kept false w n e = absurd cc

abbrev pair : List ℕ → List (List ℕ) → List ℕ × List (List ℕ)
pair w ws = (w, ws)

pub title_said : (ws : List (List ℕ)) (p : List ℕ × List (List ℕ)) → first_title ws ≡ Ok p → is_title p.0 ≡ true
unfolding first_title first_word
title_said [] p e = absurd cc
title_said (w ∷ ws) p e =
    let a = bind_ok (or_malformed (title_of w)) (λ n. read_ok (pair n ws)) p e in
    let k = kept (is_title w) w a.0 a.1 in
    let t : is_title a.0 ≡ true = subst (λ (x : List ℕ). is_title x ≡ true) k.1 k.0 in
    subst (λ (q : List ℕ × List (List ℕ)). is_title q.0 ≡ true) (ok_is (pair a.0 ws) p a.2) t

pub names_said : (ws ns : List (List ℕ)) → names_of ws ≡ Ok ns → AreNames ns
names_said [] ns e = subst AreNames (ok_is [] ns e) tt
names_said (w ∷ ws) ns e =
    let a = bind_ok (or_malformed (name_of w)) (λ y. names_of ws >>= λ ys. read_ok (y ∷ ys)) ns e in
    let b = bind_ok (names_of ws) (λ ys. read_ok (a.0 ∷ ys)) ns a.2 in
    let k = kept (is_name w) w a.0 a.1 in
    let n : is_name a.0 ≡ true = subst (λ (x : List ℕ). is_name x ≡ true) k.1 k.0 in
    subst AreNames (ok_is (a.0 ∷ b.0) ns b.2) (n, names_said ws b.0 b.1)

-- how many words a line has in the slots of a kind
abbrev slots_of : Slot → List Piece → ℕ
slots_of slot [] = 0
slots_of slot (p ∷ ps) = cond (is_slot slot p) 1 0 + slots_of slot ps

place_taken : (b : Bool) (w : List ℕ) (ws : List (List ℕ)) (n : ℕ) → length ws ≡ n → length (cond b (w ∷ ws) ws) ≡ cond b 1 0 + n
place_taken true w ws n e = omega (arith, e)
place_taken false w ws n e = omega (arith, e)

words_count : (slot : Slot) (ps : List Piece) (ws : List (List ℕ)) → are_words_of ps ws ≡ true → length (words_in_slots slot ps ws) ≡ slots_of slot ps
words_count slot [] [] h = refl
words_count slot [] (w ∷ ws) h = absurd cc
words_count slot (p ∷ ps) [] h = absurd cc
words_count slot (p ∷ ps) (w ∷ ws) h =
    place_taken (is_slot slot p) w (words_in_slots slot ps ws) (slots_of slot ps) (words_count slot ps ws (and_parts (is_word_of p w) (are_words_of ps ws) h).1)

-- the words in the slots of the new objects
pub new_count : (ps : List Piece) (ws : List (List ℕ)) → are_words_of ps ws ≡ true → length (new_words ps ws) ≡ slots_of slots.New ps
new_count ps ws h = words_count slots.New ps ws h
