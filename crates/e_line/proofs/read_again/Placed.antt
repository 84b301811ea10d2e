-- The names of a construction's line.
use Rattle.std.proofs.Common.{◌≡◌, ℕ, ◌+◌, ◌<◌, ◌≤◌, Bool, true, false, cond, List, [], ◌∷◌, length, drop, get_or, map, Result, Ok, refl, sym, ap, ◌∙◌, arith, add-one, zero, suc, Bor}
use Rattle.std.proofs.lemmas.Grind.{common_steps}
use Rattle.std.proofs.lemmas.List.{drop_all}
use Rattle.std.specs.Prelude.{slice_get, codes}
use Rattle.std.specs.Option.{option_map_or}
use Rattle.e_construct.specs.declared.lines.Piece.{Piece as CodePiece}
use Rattle.e_construct.specs.Views.{piece_view}
use Rattle.e_construct.specs.Lines.{Piece}
use Rattle.e_construct.specs.declared.construction.Shape.{Shape}
use Rattle.e_line.specs.declared.fault.FaultKind.{FaultKind}
use Rattle.e_line.specs.declared.lets.RawLet.{RawLet}
use Rattle.e_line.specs.declared.lets.Slot.{Slot}
use Rattle.e_line.specs.Reading.{◌>>=◌, texts, cut_at, names_after}
use Rattle.e_line.specs.Lets.{is_slot, words_in_slots, are_words_of, shapes_of, let_named, let_of}

-- whether such a slot is there
abbrev pub is_there : Slot → List CodePiece → ℕ → Bool
is_there slot ps i = option_map_or (λ (p : CodePiece). is_slot slot (piece_view p)) (slice_get ps i) false

abbrev Rest : Slot → List CodePiece → List (List ℕ) → ℕ → List (List ℕ)
Rest slot ps ws i = words_in_slots slot (map piece_view (drop i ps)) (drop i ws)

choose : (b : Bool) (w : List ℕ) (ws : List (List ℕ)) → b ≡ true → cond b (w ∷ ws) ws ≡ w ∷ ws
choose b w ws e = rw e refl

leave : (b : Bool) (w : List ℕ) (ws : List (List ℕ)) → b ≡ false → cond b (w ∷ ws) ws ≡ ws
leave b w ws e = rw e refl

no_slot : (slot : Slot) (ws : List (List ℕ)) (i : ℕ) → Rest slot [] ws i ≡ []
no_slot slot ws i = ap (λ (ps : List CodePiece). words_in_slots slot (map piece_view ps) (drop i ws)) (drop_all i [] (omega arith))

-- a word in such a slot is the next
pub word_taken : (slot : Slot) (ps : List CodePiece) (ws : List (List ℕ)) (i : ℕ) → i < length ws → is_there slot ps i ≡ true → Rest slot ps ws i ≡ get_or ws i [] ∷ Rest slot ps ws (i + 1)
word_taken slot [] ws i lt e = absurd cc
word_taken slot (p ∷ ps) [] i lt e = absurd (omega arith)
word_taken slot (p ∷ ps) (w ∷ ws) zero lt e = choose (is_slot slot (piece_view p)) w (words_in_slots slot (map piece_view ps) ws) e
word_taken slot (p ∷ ps) (w ∷ ws) (suc i) lt e = rw add-one (rw add-one at (word_taken slot ps ws i (omega arith) e))

-- another word is none
pub word_left : (slot : Slot) (ps : List CodePiece) (ws : List (List ℕ)) (i : ℕ) → i < length ws → is_there slot ps i ≡ false → Rest slot ps ws i ≡ Rest slot ps ws (i + 1)
word_left slot [] ws i lt e = no_slot slot ws i ∙ sym (no_slot slot ws (i + 1))
word_left slot (p ∷ ps) [] i lt e = absurd (omega arith)
word_left slot (p ∷ ps) (w ∷ ws) zero lt e = leave (is_slot slot (piece_view p)) w (words_in_slots slot (map piece_view ps) ws) e
word_left slot (p ∷ ps) (w ∷ ws) (suc i) lt e = rw add-one (rw add-one at (word_left slot ps ws i (omega arith) e))

-- without words no piece has one
pub no_words : (ps : List CodePiece) (ws : List (Bor (List ℕ))) → 1 ≤ length ps → length ws ≡ 0 → are_words_of (map piece_view ps) (texts ws) ≡ false
no_words [] ws h k = absurd (omega arith)
no_words (p ∷ ps) [] h k = refl
no_words (p ∷ ps) (w ∷ ws) h k = absurd (omega (arith, k))

-- and without pieces no word is one
pub no_pieces : (ps : List CodePiece) (ws : List (Bor (List ℕ))) → length ps ≡ 0 → 1 ≤ length ws → are_words_of (map piece_view ps) (texts ws) ≡ false
no_pieces [] [] h k = absurd (omega arith)
no_pieces [] (w ∷ ws) h k = refl
no_pieces (p ∷ ps) ws h k = absurd (omega (arith, h))

pub ruleset counting = (common_steps, no_words, no_pieces)

-- at the end of the words
pub none_left : (slot : Slot) (ps : List CodePiece) (ws : List (List ℕ)) (i : ℕ) → length ws ≤ i → Rest slot ps ws i ≡ []
none_left slot ps ws i le = ap (λ (vs : List (List ℕ)). words_in_slots slot (map piece_view (drop i ps)) vs) (drop_all i ws le) ∙ nothing (map piece_view (drop i ps))
  where
    nothing : (qs : List Piece) → words_in_slots slot qs [] ≡ []
    nothing [] = refl
    nothing (q ∷ qs) = refl

abbrev after_let : List (List ℕ) × List (List ℕ) × Bool → Result RawLet FaultKind
after_let p = names_after p.2 p.1 >>= λ avoid. let_named (shapes_of p.2 p.0) p.0 avoid

-- a line with the word avoid, or without it
pub let_parts : (words line after : List (List ℕ)) (avoiding : Bool) (avoid : List (List ℕ)) (shapes : List Shape) → cut_at (codes "avoid") words ≡ (line, after, avoiding) → names_after avoiding after ≡ Ok avoid
    → shapes ≡ shapes_of avoiding line → let_of words ≡ let_named shapes line avoid
unfolding let_of
let_parts words line after avoiding avoid shapes cut av ss =
    ap after_let cut ∙ ap (λ (r : Result (List (List ℕ)) FaultKind). r >>= λ avoid. let_named (shapes_of avoiding line) line avoid) av ∙ ap (λ (xs : List Shape). let_named xs line avoid) (sym ss)
