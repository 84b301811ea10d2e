-- Lines that are spelled as what they say is.
use Rattle.std.proofs.Common.{◌≡◌, ℕ, ◌-◌, ◌≤◌, List, [], ◌∷◌, Some, length, take, drop, get_or, sym, ap, ◌∙◌, arith}
use Rattle.std.proofs.lemmas.List.{take_all}
use Rattle.std.specs.Str.{bytes_eq}
use Rattle.e_text.specs.Tokens.{with_spaces}
use Rattle.e_line.specs.SpellingCheck.{past, is_spelled}
use Rattle.e_line.proofs.base.Past.{words_are_spelled}

-- the words after the bar are these
pub is_line : (line : List ℕ) (ws : List (List ℕ)) → 1 ≤ length line → get_or line 0 0 ≡ 124
    → is_spelled (past (Some (take (length line - 1) (drop 1 line))) ws) ≡ bytes_eq line (124 ∷ with_spaces ws)
is_line [] ws n sign = absurd (omega (arith, n))
is_line (first ∷ text) ws n sign =
    let all : take (length (first ∷ text) - 1) text ≡ text = take_all (length (first ∷ text) - 1) text (omega arith) in
    ap (λ (x : List ℕ). is_spelled (past (Some x) ws)) all ∙ words_are_spelled ws text ∙ ap (λ (b : ℕ). bytes_eq (b ∷ text) (124 ∷ with_spaces ws)) (sym sign)
