-- The generated book of n theorems has as many lines that begin with the word theorem.
use Rattle.std.proofs.Common.{◌≡◌, ℕ, zero, suc, ◌+◌, ◌-◌, ◌%◌, ◌<◌, ◌≤◌, Bool, true, false, cond, eqb, ltb, not, ◌||◌, List, [], ◌∷◌, ◌++◌, length, take, drop, get_or, filter, Result, Ok, Err, refl, sym, ap, subst, ◌∙◌, arith, rules, tests, append_assoc, length-append}
use Rattle.std.specs.Prelude.{codes, decimal, flat_map}
use Rattle.std.specs.Str.{bytes_eq}
use Rattle.std.specs.List.{slice_split, list_all, AllByRecursion}
use Rattle.std.proofs.lemmas.Bool.{not-true, and_parts}
use Rattle.std.proofs.lemmas.List.{append-nil}
use Rattle.std.proofs.lemmas.List.Elements.{All-from_recursion}
use Rattle.std.proofs.lemmas.List.Folds.{list_all-append}
use Rattle.std.proofs.lemmas.List.Splits.{slice_split_at}
use Rattle.std.proofs.Math.Seq.{take-append-add}
use Rattle.e_text.specs.declared.line.LineEnd.{LineEnd}
use Rattle.e_text.specs.declared.line.LineEnd.TheVariants.{Lf, CrLf}
use Rattle.e_text.specs.declared.line.LineFault.{LineFault}
use Rattle.e_text.specs.Lines.{is_lf, IsOpen, ends_in_cr, Bounds, Spot, LineView, HaveNoFault, split_line_end, line_before_lf, lines_of, lines_of_parts}
use Rattle.e_text.specs.Names.{is_digit}
use Rattle.e_text.specs.Numerals.{is_numeral}
use Rattle.e_text.specs.Tokens.{is_blank, has_bytes, is_token, tokens_of}
use Rattle.e_text.proofs.FirstLine.{then_lines, split_more, parts_of, seen-line_or_fault}
use Rattle.e_text.proofs.LinesOfTexts.{next_spot}
use Rattle.e_text.proofs.TokenWords.{tokens_of-spaced}
use Rattle.e_text.proofs.NumeralWords.{is_numeral-decimal}
use Rattle.e_generate.specs.Generated.{numbers, point, segment, between, points_to, points_line, given_between_line, plus_segment, show_sum, show_less, apply_previous_line, line_before, turned_line, run, cites, hence_line, last, statement, proof, generated_theorem_text, generated_text}
use Rattle.e_commands.specs.Outcome.{lines_of_book}
use Rattle.e_commands.proofs.title_counts.Titles.{has_title, one_if, titles}
use Rattle.e_commands.proofs.outcomes.AcceptedBooks.{good_rest}
use Rattle.e_book.specs.Grammar.{Rest}

-- ---- the first word of a line

-- the words of these bytes begin with this one
abbrev Starts : List ℕ → List ℕ → Type 0
Starts w bytes = (ws : List (List ℕ)) × (tokens_of bytes ≡ w ∷ ws)

unblank : (w : List ℕ) → list_all (λ b. not (is_blank b)) w ≡ true → AllByRecursion (λ b. is_blank b ≡ false) w
unblank [] e = tt
unblank (b ∷ bs) e = let p = and_parts (not (is_blank b)) (list_all (λ x. not (is_blank x)) bs) e in (not-true (is_blank b) p.0, unblank bs p.1)

-- a word is kept
kept : (w : List ℕ) (ws : List (List ℕ)) → is_token w ≡ true → filter has_bytes (w ∷ ws) ≡ w ∷ filter has_bytes ws
kept w ws e = let h : has_bytes w ≡ true = (and_parts (has_bytes w) (list_all (λ b. not (is_blank b)) w) e).0 in rw h refl

starts : (w rest : List ℕ) → is_token w ≡ true → Starts w (w ++ 32 ∷ rest)
starts w rest e =
    let open_word = All-from_recursion (λ b. is_blank b ≡ false) w (unblank w (and_parts (has_bytes w) (list_all (λ b. not (is_blank b)) w) e).1) in
    (tokens_of rest, ap (filter has_bytes) (slice_split_at is_blank w 32 rest open_word refl) ∙ kept w (slice_split is_blank rest) e)

-- so it is where the line is cut off after it
starts_cut : (w : List ℕ) (n : ℕ) (rest : List ℕ) → is_token w ≡ true → Starts w (w ++ take n (32 ∷ rest))
starts_cut w zero rest e = ([], tokens_of-spaced w [] e tt)
starts_cut w (suc n) rest e = starts w (take n rest) e

abbrev made : List ℕ → LineEnd → List ℕ × LineEnd × List ℕ
made bytes end = (bytes, end, [])

-- and where it is what stands before a line feed
starts_ended : (w rest : List ℕ) → is_token w ≡ true → Starts w (split_line_end (w ++ 32 ∷ rest) []).0
starts_ended w rest e =
    let part : List ℕ = w ++ 32 ∷ rest in
    let count : length part - 1 ≡ length w + length rest = omega (arith, length-append w (32 ∷ rest)) in
    let cut : take (length part - 1) part ≡ w ++ take (length rest) (32 ∷ rest) =
    ap (λ (n : ℕ). take n part) count ∙ take-append-add w (32 ∷ rest) (length rest) in
    elim (ends_in_cr part) as (λ b. Starts w (cond b (made (take (length part - 1) part) CrLf) (made part Lf)).0) [
      | true ↦ subst (λ (x : List ℕ). Starts w x) (sym cut) (starts_cut w (length rest) rest e)
      | false ↦ starts w rest e
    ]

-- ---- bytes without a line feed

open_append : (xs ys : List ℕ) → IsOpen xs → IsOpen ys → IsOpen (xs ++ ys)
open_append xs ys h k = list_all-append (λ b. not (is_lf b)) xs ys ∙ rw (h, k) refl

digit_open : (b : ℕ) → is_digit b ≡ true → not (is_lf b) ≡ true
digit_open b e = search (rules, tests)

digits_open : (w : List ℕ) → list_all is_digit w ≡ true → IsOpen w
digits_open [] e = refl
digits_open (b ∷ bs) e = let p = and_parts (is_digit b) (list_all is_digit bs) e in rw (digit_open b p.0, digits_open bs p.1) refl

numeral_open : (w : List ℕ) → is_numeral w ≡ true → IsOpen w
numeral_open [] e = refl
numeral_open (b ∷ bs) e = digits_open (b ∷ bs) (and_parts (list_all is_digit (b ∷ bs)) (eqb (length bs) 0 || ltb 48 b) e).0

open_number : (n : ℕ) → n < 1000 → IsOpen (decimal n)
open_number n lt = numeral_open (decimal n) (is_numeral-decimal n (omega (arith, lt)))

open_point : (i : ℕ) → i < 1000 → IsOpen (point i)
open_point i lt = open_append (codes " p") (decimal i) refl (open_number i lt)

open_points : (from n : ℕ) → from + n ≤ 1000 → IsOpen (flat_map point (numbers from n))
open_points from zero le = refl
open_points from (suc n) le =
    open_append (point from) (flat_map point (numbers (from + 1) n)) (open_point from (omega (arith, le))) (open_points (from + 1) n (omega (arith, le)))

open_segment : (i j : ℕ) → i < 1000 → j < 1000 → IsOpen (segment i j)
open_segment i j a b = open_append (codes " seg") (point i ++ point j) refl (open_append (point i) (point j) (open_point i a) (open_point j b))

open_between : (i j k : ℕ) → i < 1000 → j < 1000 → k < 1000 → IsOpen (between i j k)
open_between i j k a b c =
    open_append (codes " between") (point i ++ (point j ++ point k)) refl
    (open_append (point i) (point j ++ point k) (open_point i a) (open_append (point j) (point k) (open_point j b) (open_point k c)))

open_added : (i : ℕ) → i < 999 → IsOpen (plus_segment i)
open_added i lt = open_append (codes " +") (segment i (i + 1)) refl (open_segment i (i + 1) (omega (arith, lt)) (omega (arith, lt)))

open_sum : (from n : ℕ) → from + n ≤ 999 → IsOpen (flat_map plus_segment (numbers from n))
open_sum from zero le = refl
open_sum from (suc n) le =
    open_append (plus_segment from) (flat_map plus_segment (numbers (from + 1) n)) (open_added from (omega (arith, le))) (open_sum (from + 1) n (omega (arith, le)))

-- ---- lines with this many titles

-- where these bytes come before others, and no line has a fault, their lines have this many titles, and the other lines come after them
abbrev Adds : ℕ → List ℕ → Type 0
Adds n text =
    (w : Bounds) (at : Spot) (rest : List ℕ) → HaveNoFault (lines_of w at (text ++ rest)) →
    (next : Spot) × HaveNoFault (lines_of w next rest) × (titles (lines_of w at (text ++ rest)) ≡ n + titles (lines_of w next rest))

adds_none : Adds 0 []
adds_none = λ w at rest good.
    let count : titles (lines_of w at rest) ≡ 0 + titles (lines_of w at rest) = omega arith in
    (at, good, count)

adds_append : (m n : ℕ) (xs ys : List ℕ) → Adds m xs → Adds n ys → Adds (m + n) (xs ++ ys)
adds_append m n xs ys h k = λ w at rest good.
    let e = append_assoc xs ys rest in
    let a = h w at (ys ++ rest) (subst (λ (t : List ℕ). HaveNoFault (lines_of w at t)) e good) in
    let b = k w a.0 rest a.1 in
    let same : titles (lines_of w at ((xs ++ ys) ++ rest)) ≡ titles (lines_of w at (xs ++ (ys ++ rest))) = ap (λ (t : List ℕ). titles (lines_of w at t)) e in
    let count : m + (n + titles (lines_of w b.0 rest)) ≡ m + n + titles (lines_of w b.0 rest) = omega arith in
    (b.0, b.1, same ∙ a.2 ∙ ap (λ (x : ℕ). m + x) b.2 ∙ count)

feeds_open : (part : List ℕ) → IsOpen part → AllByRecursion (λ b. is_lf b ≡ false) part
feeds_open [] e = tt
feeds_open (b ∷ bs) e = let p = and_parts (not (is_lf b)) (list_all (λ x. not (is_lf x)) bs) e in (not-true (is_lf b) p.0, feeds_open bs p.1)

-- the first line of bytes that have a line feed
lines_front : (w : Bounds) (at : Spot) (part rest : List ℕ) → IsOpen part → lines_of w at (part ++ 10 ∷ rest) ≡ then_lines (line_before_lf w at part) (lines_of w (next_spot at (length part)) rest)
lines_front w at part rest h =
    let more = parts_of rest in
    let split : slice_split is_lf (part ++ 10 ∷ rest) ≡ part ∷ slice_split is_lf rest = slice_split_at is_lf part 10 rest (All-from_recursion (λ b. is_lf b ≡ false) part (feeds_open part h)) refl in
    ap (λ ps. lines_of_parts w at ps) split ∙ split_more w at part more.0 more.1 (slice_split is_lf rest) more.2

titles_by : (r : Result LineView LineFault) (more : Rest) (bytes : List ℕ) (k : ℕ) → ((l : LineView) → r ≡ Ok l → l.bytes ≡ bytes) → one_if (has_title (tokens_of bytes)) ≡ k → HaveNoFault (then_lines r more)
    → titles (then_lines r more) ≡ k + titles more
titles_by (Ok l) more bytes k same c good = ap (λ (x : ℕ). x + titles more) (ap (λ (b : List ℕ). one_if (has_title (tokens_of b))) (same l refl) ∙ c)
titles_by (Err f) more bytes k same c good = absurd good

closed_bytes : (w : Bounds) (at : Spot) (part : List ℕ) (l : LineView) → line_before_lf w at part ≡ Ok l → l.bytes ≡ (split_line_end part []).0
closed_bytes w at part l e = ap (λ (x : LineView). x.bytes) (sym (seen-line_or_fault w at (split_line_end part []).0 (split_line_end part []).1 (at.before + length part + 1) l e))

adds_line : (part : List ℕ) (k : ℕ) → IsOpen part → one_if (has_title (tokens_of (split_line_end part []).0)) ≡ k → Adds k (part ++ 10 ∷ [])
adds_line part k h c = λ w at rest good.
    let next = next_spot at (length part) in
    let e = ap (λ (t : List ℕ). lines_of w at t) (append_assoc part (10 ∷ []) rest) ∙ lines_front w at part rest h in
    let split : HaveNoFault (then_lines (line_before_lf w at part) (lines_of w next rest)) = subst HaveNoFault e good in
    (next, good_rest (line_before_lf w at part) (lines_of w next rest) split, ap titles e ∙ titles_by (line_before_lf w at part) (lines_of w next rest) (split_line_end part []).0 k (closed_bytes w at part) c split)

-- ---- a line by its first word

-- bytes without a line feed, and one after them
abbrev OpenLine : List ℕ → Type 0
OpenLine text = (part : List ℕ) × IsOpen part × (text ≡ part ++ 10 ∷ [])

line_end : OpenLine (codes "\n")
line_end = ([], refl, refl)

line_more : (xs text : List ℕ) → IsOpen xs → OpenLine text → OpenLine (xs ++ text)
line_more xs text h o = (xs ++ o.0, open_append xs o.0 h o.1, ap (λ (t : List ℕ). xs ++ t) o.2 ∙ sym (append_assoc xs o.0 (10 ∷ [])))

-- the bytes begin with a space
abbrev IsSpaced : List ℕ → Type 0
IsSpaced text = text ≡ 32 ∷ drop 1 text

spaced_part : (part text : List ℕ) → IsSpaced text → text ≡ part ++ 10 ∷ [] → (body : List ℕ) × (part ≡ 32 ∷ body)
spaced_part [] text s e =
    let h : 32 ≡ 10 = ap (λ (t : List ℕ). get_or t 0 0) (sym s ∙ e) in
    absurd (omega (arith, h))
spaced_part (b ∷ bs) text s e =
    let h : 32 ≡ b = ap (λ (t : List ℕ). get_or t 0 0) (sym s ∙ e) in
    (bs, ap (λ (x : ℕ). x ∷ bs) (sym h))

adds_word : (w text : List ℕ) (k : ℕ) → is_token w ≡ true → IsOpen w → one_if (bytes_eq w (codes "theorem")) ≡ k → OpenLine text → IsSpaced text → Adds k (w ++ text)
adds_word w text k token h c o s =
    let part = o.0 in
    let p = spaced_part part text s o.2 in
    let first : Starts w (split_line_end (w ++ part) []).0 = subst (λ (q : List ℕ). Starts w (split_line_end (w ++ q) []).0) (sym p.1) (starts_ended w p.0 token) in
    let count : one_if (has_title (tokens_of (split_line_end (w ++ part) []).0)) ≡ k = ap (λ (ws : List (List ℕ)). one_if (has_title ws)) first.1 ∙ c in
    let line : Adds k ((w ++ part) ++ 10 ∷ []) = adds_line (w ++ part) k (open_append w part h o.1) count in
    subst (λ (t : List ℕ). Adds k t) (append_assoc w part (10 ∷ []) ∙ ap (λ (t : List ℕ). w ++ t) (sym o.2)) line

-- ---- the statement of a theorem

-- some points begin with a space
spaced_points : (from n : ℕ) (text : List ℕ) → 0 < n → IsSpaced (flat_map point (numbers from n) ++ text)
spaced_points from zero text lt = absurd (omega (arith, lt))
spaced_points from (suc n) text lt = refl

adds_points : (m : ℕ) → m < 900 → Adds 0 (points_line m)
adds_points m lt =
    adds_word (codes "points") (points_to (m + 1) ++ codes "\n") 0 refl refl refl
    (line_more (points_to (m + 1)) (codes "\n") (open_points 0 (m + 1) (omega (arith, lt))) line_end) (spaced_points 0 (m + 1) (codes "\n") (omega arith))

adds_given : (i : ℕ) → i < 900 → Adds 0 (given_between_line i)
adds_given i lt =
    adds_word (codes "given") (between i (i + 1) (i + 2) ++ codes "\n") 0 refl refl refl
    (line_more (between i (i + 1) (i + 2)) (codes "\n") (open_between i (i + 1) (i + 2) (omega (arith, lt)) (omega (arith, lt)) (omega (arith, lt))) line_end) refl

adds_show_sum : (m : ℕ) → m < 900 → Adds 0 (show_sum m)
adds_show_sum m lt =
    let end : List ℕ = segment 0 m ++ codes "\n" in
    let sign : List ℕ = codes " =" ++ end in
    let sum : List ℕ = flat_map plus_segment (numbers 1 (m - 1)) ++ sign in
    let o1 : OpenLine end = line_more (segment 0 m) (codes "\n") (open_segment 0 m (omega arith) (omega (arith, lt))) line_end in
    let o2 : OpenLine sign = line_more (codes " =") end refl o1 in
    let o3 : OpenLine sum = line_more (flat_map plus_segment (numbers 1 (m - 1))) sign (open_sum 1 (m - 1) (omega (arith, lt))) o2 in
    adds_word (codes "show") (segment 0 1 ++ sum) 0 refl refl refl (line_more (segment 0 1) sum (open_segment 0 1 (omega arith) (omega arith)) o3) refl

adds_show_less : (m : ℕ) → m < 900 → Adds 0 (show_less m)
adds_show_less m lt =
    let end : List ℕ = segment 0 m ++ codes "\n" in
    let sign : List ℕ = codes " <" ++ end in
    let o1 : OpenLine end = line_more (segment 0 m) (codes "\n") (open_segment 0 m (omega arith) (omega (arith, lt))) line_end in
    let o2 : OpenLine sign = line_more (codes " <") end refl o1 in
    adds_word (codes "show") (segment 0 1 ++ sign) 0 refl refl refl (line_more (segment 0 1) sign (open_segment 0 1 (omega arith) (omega arith)) o2) refl

-- this many lines, one for each number
adds_flat : (f : ℕ → List ℕ) (from n : ℕ) → ((i : ℕ) → i < from + n → Adds 0 (f i)) → Adds 0 (flat_map f (numbers from n))
adds_flat f from zero h = adds_none
adds_flat f from (suc n) h =
    adds_append 0 0 (f from) (flat_map f (numbers (from + 1) n)) (h from (omega arith)) (adds_flat f (from + 1) n (λ i lt. h i (omega (arith, lt))))

-- the title's line
adds_title : (k : ℕ) → k < 1000 → Adds 1 (codes "theorem" ++ (codes " G" ++ (decimal k ++ codes "\n")))
adds_title k lt =
    let end : List ℕ = decimal k ++ codes "\n" in
    let o1 : OpenLine end = line_more (decimal k) (codes "\n") (open_number k lt) line_end in
    adds_word (codes "theorem") (codes " G" ++ end) 1 refl refl refl (line_more (codes " G") end refl o1) refl

adds_statement : (k m : ℕ) → k < 1000 → m < 900 → Adds 1 (statement k m)
adds_statement k m small lt =
    let shown : List ℕ = show_sum m ++ show_less m in
    let given : List ℕ = flat_map given_between_line (numbers 0 (m - 1)) ++ shown in
    let later : List ℕ = points_line m ++ given in
    let a1 : Adds 0 shown = adds_append 0 0 (show_sum m) (show_less m) (adds_show_sum m lt) (adds_show_less m lt) in
    let a2 : Adds 0 given = adds_append 0 0 (flat_map given_between_line (numbers 0 (m - 1))) shown (adds_flat given_between_line 0 (m - 1) (λ i le. adds_given i (omega (arith, lt, le)))) a1 in
    let a3 : Adds 0 later = adds_append 0 0 (points_line m) given (adds_points m lt) a2 in
    let whole = adds_append 1 0 (codes "theorem" ++ (codes " G" ++ (decimal k ++ codes "\n"))) later (adds_title k small) a3 in
    subst (λ (t : List ℕ). Adds 1 t) (ap (λ (t : List ℕ). codes "theorem G" ++ t) (append_assoc (decimal k) (codes "\n") later)) whole

-- ---- its proof

adds_apply : (k m : ℕ) → k < 1000 → m < 900 → Adds 0 (apply_previous_line k m)
adds_apply k m small lt =
    let end : List ℕ = points_to m ++ codes "\n" in
    let named : List ℕ = decimal (k - 1) ++ end in
    let o1 : OpenLine end = line_more (points_to m) (codes "\n") (open_points 0 m (omega (arith, lt))) line_end in
    let o2 : OpenLine named = line_more (decimal (k - 1)) end (open_number (k - 1) (omega (arith, small))) o1 in
    adds_word (codes "apply") (codes " G" ++ named) 0 refl refl refl (line_more (codes " G") named refl o2) refl

earlier_by : (b : Bool) (k m : ℕ) → k < 1000 → m < 900 → Adds 0 (cond b (apply_previous_line k m) [])
earlier_by true k m small lt = adds_apply k m small lt
earlier_by false k m small lt = adds_none

adds_turned : (i j k : ℕ) → i < 1000 → j < 1000 → k < 1000 → Adds 0 (turned_line i j k)
adds_turned i j k a b c =
    let end : List ℕ = between k j i ++ codes "\n" in
    let colon : List ℕ = codes " :" ++ end in
    let third : List ℕ = point k ++ colon in
    let middle : List ℕ = point j ++ third in
    let first : List ℕ = point i ++ middle in
    let o1 : OpenLine end = line_more (between k j i) (codes "\n") (open_between k j i c b a) line_end in
    let o2 : OpenLine colon = line_more (codes " :") end refl o1 in
    let o3 : OpenLine third = line_more (point k) colon (open_point k c) o2 in
    let o4 : OpenLine middle = line_more (point j) third (open_point j b) o3 in
    let o5 : OpenLine first = line_more (point i) middle (open_point i a) o4 in
    adds_word (codes "by") (codes " b1a" ++ first) 0 refl refl refl (line_more (codes " b1a") first refl o5) refl

adds_run : (i : ℕ) → i < 900 → Adds 0 (run i)
adds_run i lt =
    let end : List ℕ = between (i + 1) i 0 ++ codes "\n" in
    let colon : List ℕ = codes " p0 :" ++ end in
    let third : List ℕ = point (i - 1) ++ colon in
    let middle : List ℕ = point i ++ third in
    let first : List ℕ = point (i + 1) ++ middle in
    let o1 : OpenLine end = line_more (between (i + 1) i 0) (codes "\n") (open_between (i + 1) i 0 (omega (arith, lt)) (omega (arith, lt)) (omega arith)) line_end in
    let o2 : OpenLine colon = line_more (codes " p0 :") end refl o1 in
    let o3 : OpenLine third = line_more (point (i - 1)) colon (open_point (i - 1) (omega (arith, lt))) o2 in
    let o4 : OpenLine middle = line_more (point i) third (open_point i (omega (arith, lt))) o3 in
    let o5 : OpenLine first = line_more (point (i + 1)) middle (open_point (i + 1) (omega (arith, lt))) o4 in
    adds_word (codes "by") (codes " b5" ++ first) 0 refl refl refl (line_more (codes " b5") first refl o5) refl

adds_cites : (i : ℕ) → i < 900 → Adds 0 (cites i)
adds_cites i lt =
    adds_append 0 0 (turned_line (i - 1) i (i + 1)) (run i ++ turned_line (i + 1) i 0) (adds_turned (i - 1) i (i + 1) (omega (arith, lt)) (omega (arith, lt)) (omega (arith, lt)))
    (adds_append 0 0 (run i) (turned_line (i + 1) i 0) (adds_run i lt) (adds_turned (i + 1) i 0 (omega (arith, lt)) (omega (arith, lt)) (omega arith)))

adds_hence : (i : ℕ) → i < 900 → Adds 0 (hence_line i)
adds_hence i lt =
    let end : List ℕ = segment 0 (i + 1) ++ codes "\n" in
    let sign : List ℕ = codes " =" ++ end in
    let more : List ℕ = plus_segment i ++ sign in
    let o1 : OpenLine end = line_more (segment 0 (i + 1)) (codes "\n") (open_segment 0 (i + 1) (omega arith) (omega (arith, lt))) line_end in
    let o2 : OpenLine sign = line_more (codes " =") end refl o1 in
    let o3 : OpenLine more = line_more (plus_segment i) sign (open_added i (omega (arith, lt))) o2 in
    adds_word (codes "hence") (segment 0 i ++ more) 0 refl refl refl (line_more (segment 0 i) more (open_segment 0 i (omega arith) (omega (arith, lt))) o3) refl

adds_last : Adds 0 (codes "qed\nend\n")
adds_last = adds_append 0 0 (codes "qed\n") (codes "end\n") (adds_line (codes "qed") 0 refl refl) (adds_line (codes "end") 0 refl refl)

adds_proof : (k m : ℕ) → k < 1000 → m < 900 → Adds 0 (proof k m)
adds_proof k m small lt =
    let first : List ℕ = codes "by b1b p1 p2 p3 : p1 != p2\n" in
    let lengths : List ℕ = flat_map hence_line (numbers 1 (m - 1)) ++ codes "qed\nend\n" in
    let steps : List ℕ = flat_map cites (numbers 2 (m - 2)) ++ lengths in
    let cited : List ℕ = turned_line 0 1 2 ++ steps in
    let a1 : Adds 0 lengths = adds_append 0 0 (flat_map hence_line (numbers 1 (m - 1))) (codes "qed\nend\n") (adds_flat hence_line 1 (m - 1) (λ i le. adds_hence i (omega (arith, lt, le)))) adds_last in
    let a2 : Adds 0 steps = adds_append 0 0 (flat_map cites (numbers 2 (m - 2))) lengths (adds_flat cites 2 (m - 2) (λ i le. adds_cites i (omega (arith, lt, le)))) a1 in
    let a3 : Adds 0 cited = adds_append 0 0 (turned_line 0 1 2) steps (adds_turned 0 1 2 (omega arith) (omega arith) (omega arith)) a2 in
    let a4 : Adds 0 (first ++ cited) = adds_append 0 0 first cited (adds_line (codes "by b1b p1 p2 p3 : p1 != p2") 0 refl refl) a3 in
    let a5 : Adds 0 (line_before k m ++ (first ++ cited)) = adds_append 0 0 (line_before k m) (first ++ cited) (earlier_by (ltb 3 m) k m small lt) a4 in
    adds_append 0 0 (codes "proof\n") (line_before k m ++ (first ++ cited)) (adds_line (codes "proof") 0 refl refl) a5

-- ---- the whole

few_points : (k : ℕ) → last k < 900
few_points k = let e : last k ≡ 3 + (k - 1) % 6 = refl in omega (arith, e)

adds_theorem : (k : ℕ) → k < 1000 → Adds 1 (generated_theorem_text k)
adds_theorem k small =
    adds_append 1 0 (statement k (last k)) (proof k (last k)) (adds_statement k (last k) small (few_points k)) (adds_proof k (last k) small (few_points k))

adds_theorems : (from n : ℕ) → from + n ≤ 1000 → Adds n (flat_map generated_theorem_text (numbers from n))
adds_theorems from zero le = adds_none
adds_theorems from (suc n) le =
    let one_more : 1 + n ≡ suc n = omega arith in
    subst (λ (k : ℕ). Adds k (generated_theorem_text from ++ flat_map generated_theorem_text (numbers (from + 1) n))) one_more
    (adds_append 1 n (generated_theorem_text from) (flat_map generated_theorem_text (numbers (from + 1) n)) (adds_theorem from (omega (arith, le))) (adds_theorems (from + 1) n (omega (arith, le))))

-- the lines of the generated book have as many titles as it was asked for theorems
pub generated_titles : (n : ℕ) → n ≤ 500 → HaveNoFault (lines_of_book (generated_text n)) → titles (lines_of_book (generated_text n)) ≡ n
generated_titles n few good =
    let w : Bounds = record { longest = 1600; most = 4194304 } in
    let at : Spot = record { line = 1; before = 0 } in
    let text = generated_text n in
    let same : text ++ [] ≡ text = append-nil text in
    let a = adds_theorems 1 n (omega (arith, few)) w at [] (subst (λ (t : List ℕ). HaveNoFault (lines_of w at t)) (sym same) good) in
    let count : titles (lines_of w at (text ++ [])) ≡ n + 0 = a.2 in
    sym (ap (λ (t : List ℕ). titles (lines_of w at t)) same) ∙ count ∙ omega arith
