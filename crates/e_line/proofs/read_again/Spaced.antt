-- Words after spaces.
use Rattle.std.proofs.Common.{◌≡◌, ℕ, ◌+◌, ◌<◌, add-one, List, [], ◌∷◌, ◌++◌, length, drop, get_or, drop-cons, refl, sym, ap, subst, ◌∙◌, append_assoc, arith}
use Rattle.std.proofs.lemmas.List.{append-nil}
use Rattle.e_text.specs.Tokens.{with_spaces}
use Rattle.e_text.proofs.Spaced.{spaced_append}
use Rattle.e_line.specs.declared.literal.RawLit.{RawLit}
use Rattle.e_line.specs.Canonical.{lit_words, more_words, lits_words}

-- words are written, and then more words
pub after : (a b c : List ℕ) (xs ys : List (List ℕ)) → b ≡ a ++ with_spaces xs → c ≡ b ++ with_spaces ys → c ≡ a ++ with_spaces (xs ++ ys)
after a b c xs ys e h =
    h ∙ ap (λ (l : List ℕ). l ++ with_spaces ys) e ∙ append_assoc a (with_spaces xs) (with_spaces ys) ∙ ap (λ (l : List ℕ). a ++ l) (sym (spaced_append xs ys))

-- one word is written
pub word : (a b w : List ℕ) → b ≡ a ++ 32 ∷ w → b ≡ a ++ with_spaces (w ∷ [])
word a b w e = e ∙ ap (λ (l : List ℕ). a ++ 32 ∷ l) (sym (append-nil w))

-- a word is written, and then more words
pub word_after : (a b c w : List ℕ) (ys : List (List ℕ)) → b ≡ a ++ 32 ∷ w → c ≡ b ++ with_spaces ys → c ≡ a ++ with_spaces (w ∷ ys)
word_after a b c w ys e h = after a b c (w ∷ []) ys (word a b w e) h

-- a literal is written after its semicolon, and the rest is still to be written
pub more_after : (a b c : List ℕ) (lits : List RawLit) (i : ℕ) (lit : RawLit) → i < length lits → lit ≡ get_or lits i lit → b ≡ a ++ 32 ∷ 59 ∷ [] → c ≡ b ++ with_spaces (lit_words lit)
    → c ++ with_spaces (more_words (drop (i + 1) lits)) ≡ a ++ with_spaces (more_words (drop i lits))
more_after a b c lits i lit lt is e h =
    let rest : drop i lits ≡ get_or lits i lit ∷ drop (i + 1) lits = rw (add-one, drop-cons lits i lit) refl in
    let first : drop i lits ≡ lit ∷ drop (i + 1) lits = rest ∙ ap (λ (l : RawLit). l ∷ drop (i + 1) lits) (sym is) in
    after a c (c ++ with_spaces (more_words (drop (i + 1) lits))) ((59 ∷ []) ∷ lit_words lit) (more_words (drop (i + 1) lits)) (word_after a b c (59 ∷ []) (lit_words lit) e h) refl
    ∙ ap (λ (ls : List RawLit). a ++ with_spaces (more_words ls)) (sym first)

-- the first literal is written, and then those after it
pub first_after : (a b c : List ℕ) (lits : List RawLit) (lit : RawLit) → 0 < length lits → lit ≡ get_or lits 0 lit → b ≡ a ++ with_spaces (lit_words lit) → c ≡ b ++ with_spaces (more_words (drop 1 lits))
    → c ≡ a ++ with_spaces (lits_words lits)
first_after a b c [] lit lt is e h = absurd (omega (arith, lt))
first_after a b c (x ∷ lits) lit lt is e h = after a b c (lit_words x) (more_words lits) (subst (λ (l : RawLit). b ≡ a ++ with_spaces (lit_words l)) is e) h
