-- Lines put together are the text, and lines that are written are read.
use Rattle.std.proofs.Common.{◌≡◌, ℕ, zero, suc, ◌+◌, ◌-◌, ◌≤◌, Bool, true, false, ltb, eqb, List, [], ◌∷◌, ◌++◌, length, take, drop, get_or, inl, inr, Result, Ok, Err, refl, sym, ap, subst, ◌∙◌, arith, append_assoc, length-append, length-drop}
use Rattle.std.specs.List.{slice_split, position_or_len, list_all, AllByRecursion}
use Rattle.std.proofs.lemmas.Bool.{le-ltb, cases_lt, eqb-true, and_parts}
use Rattle.std.proofs.lemmas.List.{append-nil, take_all}
use Rattle.std.proofs.Math.Seq.{take-suc}
use Rattle.std.proofs.lemmas.List.Elements.{All-from_recursion}
use Rattle.std.proofs.lemmas.List.Splits.{slice_split_at}
use Rattle.std.proofs.lemmas.List.Sums.{split_at_first}
use Rattle.e_text.specs.declared.line.LineEnd.TheVariants.{Lf, TextEnd}
use Rattle.e_text.specs.declared.line.LineFault.{LineFault}
use Rattle.e_text.specs.Lines.{is_lf, is_allowed, ends_in_cr, Bounds, Spot, LineView, line_or_fault, line_before_lf, split_line_end, lines_of, lines_of_parts, end_bytes, HaveNoFault, AreShort, text_of_lines, lf_text, numbered_lines}
use Rattle.e_text.proofs.FirstLine.{then_lines, split_more, parts_of, seen-line_or_fault}
use Rattle.e_text.proofs.LinesOfTexts.{at_lf, next_spot, lines_of-closed, lines_of-open}

-- ---- put together

-- a part that ends in a carriage return
cr_part : (part : List ℕ) → eqb (get_or part (length part - 1) 0) 13 ≡ true → take (length part - 1) part ++ 13 ∷ [] ≡ part
cr_part [] e = absurd cc
cr_part (b ∷ bs) e =
    let part : List ℕ = b ∷ bs in
    let last : get_or part (length part - 1) 0 ≡ 13 = eqb-true _ 13 e in
    let one : suc (length part - 1) ≡ length part = omega arith in
    ap (λ (x : ℕ). take (length part - 1) part ++ x ∷ []) (sym last) ∙ sym (take-suc part (length part - 1) 0 (omega arith)) ∙ take_all (suc (length part - 1)) part (omega arith)

-- what stands before a line feed, with its end
ended_bytes : (part : List ℕ) (t : Bool) → ends_in_cr part ≡ t → (split_line_end part []).0 ++ end_bytes (split_line_end part []).1 ≡ part ++ 10 ∷ []
ended_bytes part true e = rw e (sym (append_assoc (take (length part - 1) part) (13 ∷ []) (10 ∷ [])) ∙ ap (λ (l : List ℕ). l ++ 10 ∷ []) (cr_part part e))
ended_bytes part false e = rw e refl

closed_bytes : (w : Bounds) (at : Spot) (part : List ℕ) (l : LineView) → line_before_lf w at part ≡ Ok l → l.bytes ++ end_bytes l.end ≡ part ++ 10 ∷ []
closed_bytes w at part l e =
    let is = seen-line_or_fault w at (split_line_end part []).0 (split_line_end part []).1 (at.before + length part + 1) l e in
    ap (λ (k : LineView). k.bytes ++ end_bytes k.end) (sym is) ∙ ended_bytes part (ends_in_cr part) refl

put_closed : (r : Result LineView LineFault) (rest : List (Result LineView LineFault)) (part after : List ℕ) → ((l : LineView) → r ≡ Ok l → l.bytes ++ end_bytes l.end ≡ part ++ 10 ∷ []) → (HaveNoFault rest → text_of_lines rest ≡ after)
    → HaveNoFault (then_lines r rest) → text_of_lines (then_lines r rest) ≡ part ++ 10 ∷ after
put_closed (Ok l) rest part after bytes more good =
    ap (λ (t : List ℕ). l.bytes ++ (end_bytes l.end ++ t)) (more good) ∙ sym (append_assoc l.bytes (end_bytes l.end) after) ∙ ap (λ (t : List ℕ). t ++ after) (bytes l refl) ∙ append_assoc part (10 ∷ []) after
put_closed (Err f) rest part after bytes more good = absurd good

put_open : (r : Result LineView LineFault) (text : List ℕ) → ((l : LineView) → r ≡ Ok l → l.bytes ++ end_bytes l.end ≡ text) → HaveNoFault (r ∷ []) → text_of_lines (r ∷ []) ≡ text
put_open (Ok l) text bytes good = ap (λ (t : List ℕ). l.bytes ++ t) (append-nil (end_bytes l.end)) ∙ bytes l refl
put_open (Err f) text bytes good = absurd good

whole_by_size : (size : ℕ) (w : Bounds) (at : Spot) (text : List ℕ) → length text ≤ size → HaveNoFault (lines_of w at text) → text_of_lines (lines_of w at text) ≡ text
whole_by_size size w at [] le good = refl
whole_by_size zero w at (b ∷ bs) le good = absurd (omega arith)
whole_by_size (suc size) w at (b ∷ bs) le good =
    let text : List ℕ = b ∷ bs in
    let n = position_or_len is_lf text in
    elim (cases_lt n (length text)) [
      | inl lt ↦
          let part = take n text in
          let after = drop (n + 1) text in
          let rest = lines_of w (next_spot at (length part)) after in
          let e = lines_of-closed w at text lt in
          let good' : HaveNoFault (then_lines (line_before_lf w at part) rest) = subst HaveNoFault e good in
          let feed : get_or text n 0 ≡ 10 = eqb-true _ 10 (at_lf text lt) in
          let cut : part ++ 10 ∷ after ≡ text = ap (λ (x : ℕ). part ++ x ∷ after) (sym feed) ∙ sym (split_at_first is_lf text 0 lt) in
          ap text_of_lines e ∙ put_closed (line_before_lf w at part) rest part after (closed_bytes w at part) (λ g. whole_by_size size w (next_spot at (length part)) after (omega (arith, length-drop (n + 1) text)) g) good' ∙ cut
      | inr le' ↦
          let e = lines_of-open w at text (omega arith) le' in
          let good' : HaveNoFault (line_or_fault w at text TextEnd (at.before + length text) ∷ []) = subst HaveNoFault e good in
          ap text_of_lines e ∙ put_open (line_or_fault w at text TextEnd (at.before + length text)) text (λ l o. ap (λ (k : LineView). k.bytes ++ end_bytes k.end) (sym (seen-line_or_fault w at text TextEnd (at.before + length text) l o)) ∙ append-nil text) good'
    ]

-- the lines with their ends, put together, are the text
pub text_of_lines-lines_of : (w : Bounds) (at : Spot) (text : List ℕ) → HaveNoFault (lines_of w at text) → text_of_lines (lines_of w at text) ≡ text
text_of_lines-lines_of w at text good = whole_by_size (length text) w at text (omega arith) good

-- ---- written and read

by_mark : (t : Bool) (b mark : ℕ) → eqb b mark ≡ t → is_allowed b ≡ true → is_allowed mark ≡ false → t ≡ false
by_mark true b mark e good bad = let s = ap is_allowed (eqb-true b mark e) in absurd cc
by_mark false b mark e good bad = refl

no_feeds : (bytes : List ℕ) → list_all is_allowed bytes ≡ true → AllByRecursion (λ b. is_lf b ≡ false) bytes
no_feeds [] e = tt
no_feeds (b ∷ bs) e = let p = and_parts (is_allowed b) (list_all is_allowed bs) e in (by_mark (eqb b 10) b 10 refl p.0 refl, no_feeds bs p.1)

last_allowed : (b : ℕ) (bs : List ℕ) → is_allowed b ≡ true → list_all is_allowed bs ≡ true → is_allowed (get_or (b ∷ bs) (length bs) 0) ≡ true
last_allowed b [] h e = h
last_allowed b (c ∷ cs) h e = let p = and_parts (is_allowed c) (list_all is_allowed cs) e in last_allowed c cs p.0 p.1

no_cr : (bytes : List ℕ) → list_all is_allowed bytes ≡ true → ends_in_cr bytes ≡ false
no_cr [] e = refl
no_cr (b ∷ bs) e =
    let p = and_parts (is_allowed b) (list_all is_allowed bs) e in
    let at : length (b ∷ bs) - 1 ≡ length bs = omega arith in
    let last : is_allowed (get_or (b ∷ bs) (length (b ∷ bs) - 1) 0) ≡ true = ap (λ i. is_allowed (get_or (b ∷ bs) i 0)) at ∙ last_allowed b bs p.0 p.1 in
    by_mark (ends_in_cr (b ∷ bs)) (get_or (b ∷ bs) (length (b ∷ bs) - 1) 0) 13 refl last refl

-- a line of allowed bytes with a line feed after it
pub lines_of-line : (w : Bounds) (at : Spot) (bytes rest : List ℕ) → list_all is_allowed bytes ≡ true → length bytes ≤ w.longest → at.before + length bytes + 1 ≤ w.most
    → lines_of w at (bytes ++ 10 ∷ rest) ≡ Ok (record { number = at.line; bytes = bytes; end = Lf }) ∷ lines_of w (next_spot at (length bytes)) rest
lines_of-line w at bytes rest good short within =
    let more = parts_of rest in
    let split : slice_split is_lf (bytes ++ 10 ∷ rest) ≡ bytes ∷ slice_split is_lf rest = slice_split_at is_lf bytes 10 rest (All-from_recursion (λ b. is_lf b ≡ false) bytes (no_feeds bytes good)) refl in
    let cr = no_cr bytes good in
    let place : ltb w.most (at.before + length bytes + 1) ≡ false = le-ltb _ _ within in
    let width : ltb w.longest (length bytes) ≡ false = le-ltb _ _ short in
    ap (λ ps. lines_of_parts w at ps) split ∙ split_more w at bytes more.0 more.1 (slice_split is_lf rest) more.2 ∙ rw (cr, place, width, good) refl

-- lines that are written are read
pub lines_of-lf_text : (w : Bounds) (at : Spot) (lines : List (List ℕ)) → AreShort w.longest lines → at.before + length (lf_text lines) ≤ w.most → lines_of w at (lf_text lines) ≡ numbered_lines at.line lines
lines_of-lf_text w at [] h within = refl
lines_of-lf_text w at (bytes ∷ lines) h within =
    let len = length-append bytes (10 ∷ lf_text lines) in
    lines_of-line w at bytes (lf_text lines) h.0.0 h.0.1 (omega arith) ∙ ap (λ ls. Ok (record { number = at.line; bytes = bytes; end = Lf }) ∷ ls) (lines_of-lf_text w (next_spot at (length bytes)) lines h.1 (omega arith))
