-- The lines of a text whose front ends in a line feed.
use Rattle.std.proofs.Common.{◌≡◌, ℕ, zero, suc, ◌+◌, ◌-◌, ◌<◌, ◌≤◌, List, [], ◌∷◌, ◌++◌, length, take, drop, get_or, false, inl, inr, Result, Ok, Err, refl, sym, ap, ap₂, ◌∙◌, subst, arith, length-drop, length-append, length-take-le}
use Rattle.std.specs.List.{position_or_len}
use Rattle.std.proofs.lemmas.Bool.{cases_lt}
use Rattle.std.proofs.lemmas.Grind.{common_steps}
use Rattle.std.proofs.lemmas.List.Sums.{position_or_len_is, fails_before_first, passes_at_first}
use Rattle.e_text.specs.declared.line.LineFault.{LineFault}
use Rattle.e_text.specs.Lines.{is_lf, Bounds, Spot, LineView, line_before_lf, lines_of, IsClosed, then_more, spot_after}
use Rattle.e_text.proofs.FirstLine.{then_lines}
use Rattle.e_text.proofs.LinesOfTexts.{next_spot, lines_of-closed}

abbrev Rest : Type 0
Rest = List (Result LineView LineFault)

abbrev spot : ℕ → ℕ → Spot
spot a b = record { line = a; before = b }

-- the first line feed is in a closed text
lf_within : (b : ℕ) (bs : List ℕ) → IsClosed (b ∷ bs) → position_or_len is_lf (b ∷ bs) < length (b ∷ bs)
lf_within b bs h =
    let text : List ℕ = b ∷ bs in
    elim (cases_lt (position_or_len is_lf text) (length text)) [
      | inl lt ↦ lt
      | inr le ↦
          let no = fails_before_first is_lf text (length text - 1) 10 (omega arith) in
          absurd (let e : is_lf 10 ≡ false = ap is_lf (sym h) ∙ no in cc)
    ]

place_in_front : (front more : List ℕ) → position_or_len is_lf front < length front → position_or_len is_lf (front ++ more) ≡ position_or_len is_lf front
place_in_front front more lt =
    let n = position_or_len is_lf front in
    position_or_len_is is_lf (front ++ more) n 10 (omega (arith, length-append front more))
    (λ k lk. let e : get_or (front ++ more) k 10 ≡ get_or front k 10 = grind (arith, common_steps) in ap is_lf e ∙ fails_before_first is_lf front k 10 lk)
    (λ _. let e : get_or (front ++ more) n 10 ≡ get_or front n 10 = grind (arith, common_steps) in ap is_lf e ∙ passes_at_first is_lf front 10 lt)

drop_closed : (text : List ℕ) (k : ℕ) → k ≤ length text → IsClosed text → IsClosed (drop k text)
drop_closed text k le h =
    let len : length (drop k text) ≡ length text - k = length-drop k text in
    elim (cases_lt k (length text)) [
      | inl lt ↦
          let e : get_or (drop k text) (length (drop k text) - 1) 10 ≡ get_or text (k + (length (drop k text) - 1)) 10 = grind (arith, common_steps) in
          let i : k + (length (drop k text) - 1) ≡ length text - 1 = omega arith in
          e ∙ ap (λ j. get_or text j 10) i ∙ h
      | inr ge ↦
          let z : drop k text ≡ [] = grind (arith, common_steps) in
          subst (λ (xs : List ℕ). get_or xs (length xs - 1) 10 ≡ 10) (sym z) refl
    ]

take_in_front : (n : ℕ) (xs ys : List ℕ) → n ≤ length xs → take n (xs ++ ys) ≡ take n xs
take_in_front n xs ys le = grind (arith, common_steps)

drop_in_front : (n : ℕ) (xs ys : List ℕ) → n ≤ length xs → drop n (xs ++ ys) ≡ drop n xs ++ ys
drop_in_front n xs ys le = grind (arith, common_steps)

-- a line in front of lines that are known
by_line : (r : Result LineView LineFault) (w : Bounds) (at next : Spot) (front after more : List ℕ) → next.line ≡ at.line + 1 → next.before + length after ≡ at.before + length front
    → lines_of w at front ≡ then_lines r (lines_of w next after)
    → then_lines r (then_more (lines_of w next after) (lines_of w (spot_after w next after) more)) ≡ then_more (lines_of w at front) (lines_of w (spot_after w at front) more)
by_line (Ok l) w at next front after more line before e =
    let s : spot_after w next after ≡ spot_after w at front =
    ap₂ (λ (a b : ℕ). spot a b) (omega (arith, ap length e, line)) before in
    ap (λ (p : Spot). Ok l ∷ then_more (lines_of w next after) (lines_of w p more)) s
    ∙ ap (λ (ls : Rest). then_more ls (lines_of w (spot_after w at front) more)) (sym e)
by_line (Err f) w at next front after more line before e =
    ap (λ (ls : Rest). then_more ls (lines_of w (spot_after w at front) more)) (sym e)

front_by_size : (size : ℕ) (w : Bounds) (at : Spot) (front more : List ℕ) → length front ≤ size → IsClosed front
    → lines_of w at (front ++ more) ≡ then_more (lines_of w at front) (lines_of w (spot_after w at front) more)
front_by_size size w at [] more le h =
    ap (λ (p : Spot). lines_of w p more) (ap₂ (λ (a b : ℕ). spot a b) (omega arith) (omega arith))
front_by_size zero w at (b ∷ bs) more le h = absurd (omega arith)
front_by_size (suc size) w at (b ∷ bs) more le h =
    let front : List ℕ = b ∷ bs in
    let n = position_or_len is_lf front in
    let lt : n < length front = lf_within b bs h in
    let same : position_or_len is_lf (front ++ more) ≡ n = place_in_front front more lt in
    let part : take (position_or_len is_lf (front ++ more)) (front ++ more) ≡ take n front = ap (λ m. take m (front ++ more)) same ∙ take_in_front n front more (omega arith) in
    let after : drop (position_or_len is_lf (front ++ more) + 1) (front ++ more) ≡ drop (n + 1) front ++ more = ap (λ m. drop (m + 1) (front ++ more)) same ∙ drop_in_front (n + 1) front more (omega arith) in
    let len : length (take n front) ≡ n = length-take-le n front (omega arith) in
    let next = next_spot at (length (take n front)) in
    let left = length-drop (n + 1) front in
    let ih = front_by_size size w next (drop (n + 1) front) more (omega (arith, left)) (drop_closed front (n + 1) (omega arith) h) in
    lines_of-closed w at (front ++ more) (omega (arith, same, length-append front more))
    ∙ ap (λ (p : List ℕ). then_lines (line_before_lf w at p) (lines_of w (next_spot at (length p)) (drop (position_or_len is_lf (front ++ more) + 1) (front ++ more)))) part
    ∙ ap (λ (t : List ℕ). then_lines (line_before_lf w at (take n front)) (lines_of w next t)) after
    ∙ ap (λ (ls : Rest). then_lines (line_before_lf w at (take n front)) ls) ih
    ∙ by_line (line_before_lf w at (take n front)) w at next front (drop (n + 1) front) more refl (omega (arith, left)) (lines_of-closed w at front lt)

-- the lines of a text whose front is closed: those of the front, and those after it
pub lines_of-front : (w : Bounds) (at : Spot) (front more : List ℕ) → IsClosed front
    → lines_of w at (front ++ more) ≡ then_more (lines_of w at front) (lines_of w (spot_after w at front) more)
lines_of-front w at front more h = front_by_size (length front) w at front more (omega arith) h
