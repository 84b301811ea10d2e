-- The texts of words.
use Rattle.std.proofs.Common.{◌≡◌, ℕ, ◌+◌, ◌-◌, ◌<◌, ◌≤◌, Bool, true, List, [], ◌∷◌, length, get_or, take, drop, refl, sym, ap, ◌∙◌, arith, length-drop, Bor}
use Rattle.std.specs.List.{position_or_len}
use Rattle.std.specs.Str.{bytes_eq}
use Rattle.std.proofs.Math.ListN.{get_or-map}
use Rattle.std.proofs.lemmas.Bool.{lt-ltb}
use Rattle.std.proofs.lemmas.List.{length-map, take-map, drop-map, drop-drop, take_all, take_min, drop_min}
use Rattle.std.specs.Prelude.{codes, min}
use Rattle.e_line.specs.Reading.{texts, cut_at}
use Rattle.e_line.specs.Literals.{is_semicolon}
use Rattle.e_line.proofs.base.Loops.{parts_at, parts_from}

pub text_at : (words : List (Bor (List ℕ))) (i : ℕ) (d : Bor (List ℕ)) → (get_or words i d).now ≡ get_or (texts words) i d.now
text_at words i d = sym (get_or-map (λ w. w.now) words i d)

pub length-texts : (words : List (Bor (List ℕ))) → length (texts words) ≡ length words
length-texts words = length-map words (λ w. w.now)

-- the texts of a front, and of what is after it
pub front_texts : (words front : List (Bor (List ℕ))) (n k : ℕ) → k ≡ min n (length words) → front ≡ take k words → texts front ≡ take n (texts words)
front_texts words front n k e f = ap texts (f ∙ ap (λ j. take j words) e ∙ take_min n words) ∙ sym (take-map (λ (w : Bor (List ℕ)). w.now) n words)

pub back_texts : (words back : List (Bor (List ℕ))) (n k : ℕ) → k ≡ min n (length words) → back ≡ drop k words → texts back ≡ drop n (texts words)
back_texts words back n k e f = ap texts (f ∙ ap (λ j. drop j words) e ∙ drop_min n words) ∙ sym (drop-map (λ (w : Bor (List ℕ)). w.now) n words)

pub cut_at-found : (word : List ℕ) (words part rest : List (Bor (List ℕ))) (end : ℕ) → end ≡ position_or_len (λ w. bytes_eq w word) (texts words) → end < length words → part ≡ take end words → rest ≡ drop end words
    → cut_at word (texts words) ≡ (texts part, texts (take (length rest - 1) (drop 1 rest)), true)
cut_at-found word words part rest end at lt part-is rest-is =
    let test = lt-ltb end (length (texts words)) (omega (arith, length-texts words)) in
    let whole : take (length rest - 1) (drop 1 rest) ≡ drop 1 rest = take_all _ _ (omega (arith, length-drop 1 rest)) in
    let e : take (length rest - 1) (drop 1 rest) ≡ drop (end + 1) words = whole ∙ ap (λ (xs : List (Bor (List ℕ))). drop 1 xs) rest-is ∙ drop-drop 1 end words in
    rw (e, part-is, ← at, test, take-map (λ (w : Bor (List ℕ)). w.now) end words, drop-map (λ (w : Bor (List ℕ)). w.now) (end + 1) words) refl

-- the words up to the next one of this word are the first of the parts that are left
pub part_at : (c : List ℕ) (words : List (Bor (List ℕ))) (at n : ℕ) → at ≤ length words → n ≡ position_or_len (λ w. bytes_eq w c) (texts (take (length words - at) (drop at words)))
    → parts_from (λ w. bytes_eq w c) at (texts words) ≡ texts (take (at + n - at) (drop at words)) ∷ parts_from (λ w. bytes_eq w c) (at + n + 1) (texts words)
part_at c words at n le n-is =
    let is_it : List ℕ → Bool = λ w. bytes_eq w c in
    let whole : take (length words - at) (drop at words) ≡ drop at words = take_all _ _ (omega (arith, length-drop at words)) in
    let e : n ≡ position_or_len is_it (drop at (texts words)) = n-is ∙ ap (λ (xs : List (Bor (List ℕ))). position_or_len is_it (texts xs)) whole ∙ ap (position_or_len is_it) (sym (drop-map (λ (w : Bor (List ℕ)). w.now) at words)) in
    let p = parts_at is_it (texts words) [] at (at + n) (omega (arith, length-texts words)) (ap (λ k. at + k) e) in
    p ∙ rw (drop-map (λ (w : Bor (List ℕ)). w.now) at words, take-map (λ (w : Bor (List ℕ)). w.now) (at + n - at) (drop at words)) refl

-- the words up to the next semicolon are the first of the parts that are left
pub part_of : (words : List (Bor (List ℕ))) (at n : ℕ) → at ≤ length words → n ≡ position_or_len (λ w. bytes_eq w (codes ";")) (texts (take (length words - at) (drop at words)))
    → parts_from is_semicolon at (texts words) ≡ texts (take (at + n - at) (drop at words)) ∷ parts_from is_semicolon (at + n + 1) (texts words)
part_of words at n le n-is = part_at (codes ";") words at n le n-is
