-- The lines of a text, one line at a time: how many they are, and those of a text that is cut.
use Rattle.std.proofs.Common.{◌≡◌, ℕ, zero, suc, ◌+◌, ◌-◌, ◌<◌, ◌≤◌, true, false, ltb, eqb, List, [], ◌∷◌, length, take, drop, get_or, not, inl, inr, Result, Ok, Err, refl, sym, ap, ◌∙◌, arith, length-drop, length-take-le}
use Rattle.std.specs.List.{slice_split, position_or_len}
use Rattle.std.proofs.lemmas.Bool.{lt-ltb, not-true, not-false, cases_lt, ne_eqb}
use Rattle.std.proofs.lemmas.List.{take_all, get_or-take, drop-take}
use Rattle.std.proofs.lemmas.List.Elements.{All-from_get_or}
use Rattle.std.proofs.lemmas.List.Splits.{slice_split_first, slice_split_none}
use Rattle.std.proofs.lemmas.Grind.{common_steps}
use Rattle.std.proofs.lemmas.List.Sums.{prefix_len_passes, prefix_len_stops, position_or_len_is}
use Rattle.e_text.specs.declared.line.LineEnd.TheVariants.{TextEnd}
use Rattle.e_text.specs.declared.line.LineFault.{LineFault}
use Rattle.e_text.specs.declared.line.LineFault.TheVariants.{Bytes}
use Rattle.e_text.specs.Lines.{is_lf, Bounds, Spot, LineView, line_or_fault, line_before_lf, lines_of, lines_of_parts}
use Rattle.e_text.proofs.FirstLine.{then_lines, split_more, parts_of}

-- no line feed stands before the first
before_lf : (text : List ℕ) (i : ℕ) → i < position_or_len is_lf text → is_lf (get_or text i 0) ≡ false
before_lf text i lt = not-true (is_lf (get_or text i 0)) (prefix_len_passes (λ x. not (is_lf x)) text i 0 lt)

pub at_lf : (text : List ℕ) → position_or_len is_lf text < length text → is_lf (get_or text (position_or_len is_lf text) 0) ≡ true
at_lf text lt = not-false (is_lf (get_or text (position_or_len is_lf text) 0)) (prefix_len_stops (λ x. not (is_lf x)) text 0 lt)

-- where the line that begins after a part of this many bytes stands
abbrev pub next_spot : Spot → ℕ → Spot
next_spot at n = record { line = at.line + 1; before = at.before + n + 1 }

-- a line that has a line feed, and the lines after it
pub lines_of-closed : (w : Bounds) (at : Spot) (text : List ℕ) → position_or_len is_lf text < length text
    → lines_of w at text ≡ then_lines (line_before_lf w at (take (position_or_len is_lf text) text)) (lines_of w (next_spot at (length (take (position_or_len is_lf text) text))) (drop (position_or_len is_lf text + 1) text))
lines_of-closed w at text lt =
    let part = take (position_or_len is_lf text) text in
    let more = parts_of (drop (position_or_len is_lf text + 1) text) in
    ap (λ ps. lines_of_parts w at ps) (slice_split_first is_lf text 0 lt) ∙ split_more w at part more.0 more.1 (slice_split is_lf (drop (position_or_len is_lf text + 1) text)) more.2

-- a line that the text ends
pub lines_of-open : (w : Bounds) (at : Spot) (text : List ℕ) → 0 < length text → length text ≤ position_or_len is_lf text
    → lines_of w at text ≡ line_or_fault w at text TextEnd (at.before + length text) ∷ []
lines_of-open w at text some le =
    let none = slice_split_none is_lf text (All-from_get_or (λ b. is_lf b ≡ false) text 0 (λ i lt. before_lf text i (omega arith))) in
    let nonzero : eqb (length text) 0 ≡ false = ne_eqb (length text) 0 (λ z. omega arith) in
    ap (λ ps. lines_of_parts w at ps) none ∙ rw nonzero refl

length-then_lines : (r : Result LineView LineFault) (rest : List (Result LineView LineFault)) → length (then_lines r rest) ≤ length rest + 1
length-then_lines (Ok l) rest = omega arith
length-then_lines (Err f) rest = omega arith

count_by_size : (size : ℕ) (w : Bounds) (at : Spot) (text : List ℕ) → length text ≤ size → length (lines_of w at text) ≤ length text
count_by_size zero w at [] le = omega arith
count_by_size zero w at (b ∷ bs) le = absurd (omega arith)
count_by_size (suc size) w at [] le = omega arith
count_by_size (suc size) w at (b ∷ bs) le =
    let text : List ℕ = b ∷ bs in
    let n = position_or_len is_lf text in
    elim (cases_lt n (length text)) [
      | inl lt ↦
          let after = drop (n + 1) text in
          let part = take n text in
          let rest = count_by_size size w (next_spot at (length part)) after (omega (arith, length-drop (n + 1) text)) in
          let e = lines_of-closed w at text lt in
          omega (arith, ap length e, length-then_lines (line_before_lf w at part) (lines_of w (next_spot at (length part)) after), rest, length-drop (n + 1) text)
      | inr le' ↦ omega (arith, ap length (lines_of-open w at text (omega arith) le'))
    ]

-- a text has no more lines than bytes
pub length-lines_of : (w : Bounds) (at : Spot) (text : List ℕ) → length (lines_of w at text) ≤ length text
length-lines_of w at text = count_by_size (length text) w at text (omega arith)

-- a first line that passes the last byte that counts
passed : (w : Bounds) (at : Spot) (text : List ℕ) → 0 < length text → w.most < at.before + position_or_len is_lf text + 1 → w.most < at.before + length text
    → lines_of w at text ≡ Err (Bytes at.line) ∷ []
passed w at text some far whole =
    let n = position_or_len is_lf text in
    elim (cases_lt n (length text)) [
      | inl lt ↦
          let len : length (take n text) ≡ n = length-take-le n text (omega arith) in
          let test : ltb w.most (at.before + length (take n text) + 1) ≡ true = lt-ltb _ _ (omega arith) in
          lines_of-closed w at text lt ∙ rw test refl
      | inr le ↦
          let test : ltb w.most (at.before + length text) ≡ true = lt-ltb _ _ whole in
          lines_of-open w at text some le ∙ rw test refl
    ]

-- the first line feed of a front is that of the whole, where the front has it
place_within : (text : List ℕ) (k : ℕ) → k ≤ length text → position_or_len is_lf text < k → position_or_len is_lf (take k text) ≡ position_or_len is_lf text
place_within text k le lt =
    let n = position_or_len is_lf text in
    let len : length (take k text) ≡ k = length-take-le k text le in
    position_or_len_is is_lf (take k text) n 0 (omega arith) (λ i li. ap is_lf (get_or-take k text i 0 (omega arith)) ∙ before_lf text i li) (λ _. ap is_lf (get_or-take k text n 0 lt) ∙ at_lf text (omega arith))

place_after : (text : List ℕ) (k : ℕ) → k ≤ length text → k ≤ position_or_len is_lf text → position_or_len is_lf (take k text) ≡ k
place_after text k le far =
    let len : length (take k text) ≡ k = length-take-le k text le in
    position_or_len_is is_lf (take k text) k 0 (omega arith) (λ i li. ap is_lf (get_or-take k text i 0 li) ∙ before_lf text i (omega arith)) (λ lt. absurd (omega arith))

-- a front of a front
take-front : (n k : ℕ) (xs : List ℕ) → n ≤ k → take n (take k xs) ≡ take n xs
take-front n k xs le = grind (arith, common_steps)

cut_by_size : (size : ℕ) (w : Bounds) (at : Spot) (text : List ℕ) → length text ≤ size → at.before ≤ w.most → lines_of w at (take (w.most + 1 - at.before) text) ≡ lines_of w at text
cut_by_size zero w at text le within = ap (λ (t : List ℕ). lines_of w at t) (take_all (w.most + 1 - at.before) text (omega arith))
cut_by_size (suc size) w at text le within =
    let k = w.most + 1 - at.before in
    let n = position_or_len is_lf text in
    elim (cases_lt k (length text)) [
      | inr short ↦ ap (λ (t : List ℕ). lines_of w at t) (take_all k text short)
      | inl long ↦
          let len : length (take k text) ≡ k = length-take-le k text (omega arith) in
          elim (cases_lt (n + 1) k) [
            | inl fits ↦
                let same : position_or_len is_lf (take k text) ≡ n = place_within text k (omega arith) (omega arith) in
                let part : take (position_or_len is_lf (take k text)) (take k text) ≡ take n text = ap (λ m. take m (take k text)) same ∙ take-front n k text (omega arith) in
                let width : length (take n text) ≡ n = length-take-le n text (omega arith) in
                let next = next_spot at (length (take n text)) in
                let left : n + 1 + (w.most + 1 - next.before) ≡ k = omega arith in
                let after : drop (position_or_len is_lf (take k text) + 1) (take k text) ≡ take (w.most + 1 - next.before) (drop (n + 1) text) = ap (λ m. drop (m + 1) (take k text)) same ∙ ap (λ m. drop (n + 1) (take m text)) (sym left) ∙ drop-take (n + 1) (w.most + 1 - next.before) text in
                let rest = cut_by_size size w next (drop (n + 1) text) (omega (arith, length-drop (n + 1) text)) (omega arith) in
                lines_of-closed w at (take k text) (omega arith) ∙ ap (λ (p : List ℕ). then_lines (line_before_lf w at p) (lines_of w (next_spot at (length p)) (drop (position_or_len is_lf (take k text) + 1) (take k text)))) part ∙ ap (λ (t : List ℕ). then_lines (line_before_lf w at (take n text)) (lines_of w next t)) after ∙ ap (λ ls. then_lines (line_before_lf w at (take n text)) ls) rest ∙ sym (lines_of-closed w at text (omega arith))
            | inr far ↦
                let whole = passed w at text (omega arith) (omega arith) (omega arith) in
                elim (cases_lt n k) [
                  | inl within_cut ↦
                      let same : position_or_len is_lf (take k text) ≡ n = place_within text k (omega arith) within_cut in
                      passed w at (take k text) (omega arith) (omega arith) (omega arith) ∙ sym whole
                  | inr after_cut ↦
                      let none : position_or_len is_lf (take k text) ≡ k = place_after text k (omega arith) after_cut in
                      passed w at (take k text) (omega arith) (omega arith) (omega arith) ∙ sym whole
                ]
          ]
    ]

-- the lines of a text that is cut one byte after the last that counts are those of the whole text
pub lines_of-take : (w : Bounds) (at : Spot) (text : List ℕ) → at.before ≤ w.most → lines_of w at (take (w.most + 1 - at.before) text) ≡ lines_of w at text
lines_of-take w at text within = cut_by_size (length text) w at text (omega arith) within
