-- What all reserved words have, and how a token is looked up among them.
use Rattle.std.proofs.Common.{◌≡◌, ℕ, Bool, true, false, ◌||◌, List, [], ◌∷◌, map, refl, sym, ap, ◌∙◌, subst, true≢false}
use Rattle.std.specs.List.{list_all, list_any}
use Rattle.std.specs.Str.{bytes_eq}
use Rattle.std.proofs.lemmas.Slice.Eq.{bytes_eq-Decides}
use Rattle.std.proofs.lemmas.Bool.{and_parts}
use Rattle.e_text.specs.Names.{reserved_words, is_reserved}
use Rattle.e_text.specs.inner.Words.{has_small_second}

-- ---- the second byte

either : (a b small : Bool) → (a ≡ true → small ≡ true) → (b ≡ true → small ≡ true) → (a || b) ≡ true → small ≡ true
either true b small f g h = f refl
either false b small f g h = g h

-- a token that is one of some words is as they all are
one_of : (token : List ℕ) (words : List (List ℕ)) → list_all has_small_second words ≡ true → list_any (bytes_eq token) words ≡ true → has_small_second token ≡ true
one_of token [] all h = absurd (true≢false (sym h))
one_of token (word ∷ words) all h =
    let p = and_parts (has_small_second word) (list_all has_small_second words) all in
    either (bytes_eq token word) (list_any (bytes_eq token) words) (has_small_second token)
    (λ k. subst (λ w. has_small_second w ≡ true) (sym ((bytes_eq-Decides token word).0 k)) p.0) (one_of token words p.1) h

all_small : list_all has_small_second reserved_words ≡ true
unfolding reserved_words
all_small = refl

pub not_reserved : (token : List ℕ) → has_small_second token ≡ false → is_reserved token ≡ false
not_reserved token h = by (is_reserved token) refl
  where
    by : (reserved : Bool) → is_reserved token ≡ reserved → reserved ≡ false
    by true e = absurd (true≢false (sym (one_of token reserved_words all_small e) ∙ h))
    by false e = refl

-- ---- looked up

-- a test of words, where they are kept as something else
pub any_of_map : {W : Type 0} (p : List ℕ → Bool) (of : W → List ℕ) (ws : List W) → list_any (λ w. p (of w)) ws ≡ list_any p (map of ws)
any_of_map p of [] = refl
any_of_map p of (w ∷ ws) = ap (λ b. p (of w) || b) (any_of_map p of ws)
