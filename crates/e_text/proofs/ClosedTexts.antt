-- Texts whose last line has its end, and the lines after them.
use Rattle.std.proofs.Common.{◌≡◌, ℕ, suc, ◌+◌, ◌-◌, ◌<◌, Bool, true, false, not, cond, eqb, List, [], ◌∷◌, ◌++◌, length, take, drop, get_or, Result, Ok, Err, refl, sym, ap, subst, ◌∙◌, arith, length-append, length-drop, length-take-le, get_or-append-add}
use Rattle.std.specs.List.{slice_split}
use Rattle.std.proofs.lemmas.Bool.{eqb-true, and_from}
use Rattle.std.proofs.lemmas.List.{append-nil, get_or-take, get_or-drop, get_or_default}
use Rattle.std.proofs.lemmas.List.Folds.{list_all-append}
use Rattle.memchr.specs.Find.{is_byte, Passes, Nowhere}
use Rattle.e_text.specs.declared.line.LineEnd.TheVariants.{TextEnd}
use Rattle.e_text.specs.declared.line.LineFault.{LineFault}
use Rattle.e_text.specs.Lines.{is_lf, Bounds, Spot, LineView, HaveNoFault, line_or_fault, line_before_lf, lines_of, lines_of_parts, IsClosed, IsOpen, then_more}
use Rattle.e_text.proofs.FirstLine.{then_lines}
use Rattle.e_text.proofs.Scans.{false_unless_true}

abbrev Rest : Type 0
Rest = List (Result LineView LineFault)

-- ---- ends of lines

-- a text with an end of a line last
pub closed_after : (xs ys : List ℕ) → 0 < length ys → IsClosed ys → IsClosed (xs ++ ys)
closed_after xs ys some h =
    let i : length (xs ++ ys) - 1 ≡ length xs + (length ys - 1) = omega (arith, length-append xs ys) in
    ap (λ (k : ℕ). get_or (xs ++ ys) k 10) i ∙ get_or-append-add xs ys (length ys - 1) 10 ∙ h

pub closed_both : (xs ys : List ℕ) → IsClosed xs → IsClosed ys → IsClosed (xs ++ ys)
closed_both xs [] h k = subst IsClosed (sym (append-nil xs)) h
closed_both xs (y ∷ ys) h k = closed_after xs (y ∷ ys) (omega arith) k

-- the last line feed closes what stands up to it
pub closed_at : (bytes : List ℕ) (last : ℕ) → last < length bytes → Passes (is_byte 10) bytes last → IsClosed (take (last + 1) bytes)
closed_at bytes last lt h =
    let len : length (take (last + 1) bytes) ≡ last + 1 = length-take-le (last + 1) bytes (omega (arith, lt)) in
    let i : length (take (last + 1) bytes) - 1 ≡ last = omega (arith, len) in
    ap (λ (k : ℕ). get_or (take (last + 1) bytes) k 10) i ∙ get_or-take (last + 1) bytes last 10 (omega arith) ∙ get_or_default bytes last 10 0 lt ∙ eqb-true (get_or bytes last 0) 10 h

-- bytes without a line feed
open_from : (bytes : List ℕ) → ((k : ℕ) → k < length bytes → is_lf (get_or bytes k 0) ≡ false) → IsOpen bytes
open_from [] h = refl
open_from (b ∷ bs) h = and_from _ _ (ap not (h 0 (omega arith))) (open_from bs (λ k lt. h (suc k) (omega (arith, lt))))

-- after the last line feed there is none
pub open_after : (bytes : List ℕ) (last : ℕ) → Nowhere (Passes (is_byte 10) bytes) (last + 1) (length bytes) → IsOpen (drop (last + 1) bytes)
open_after bytes last h =
    open_from (drop (last + 1) bytes)
    (λ k lt. ap is_lf (get_or-drop (last + 1) bytes k 0) ∙ false_unless_true _ (h (last + 1 + k) (omega arith) (omega (arith, length-drop (last + 1) bytes, lt))))

-- where there is none at all
pub open_all : (bytes : List ℕ) → Nowhere (Passes (is_byte 10) bytes) 0 (length bytes) → IsOpen bytes
open_all bytes h = open_from bytes (λ k lt. false_unless_true _ (h k (omega arith) lt))

pub open_both : (xs ys : List ℕ) → IsOpen xs → IsOpen ys → IsOpen (xs ++ ys)
open_both xs ys h k = list_all-append (λ b. not (is_lf b)) xs ys ∙ and_from _ _ h k

-- ---- more lines

-- more lines after good ones
pub then_good : (xs ys : Rest) → HaveNoFault xs → then_more xs ys ≡ xs ++ ys
then_good [] ys h = refl
then_good (Ok l ∷ xs) ys h = ap (λ (ls : Rest). Ok l ∷ ls) (then_good xs ys h)
then_good (Err f ∷ xs) ys h = absurd h

pub good_both : (xs ys : Rest) → HaveNoFault xs → HaveNoFault ys → HaveNoFault (xs ++ ys)
good_both [] ys h k = k
good_both (Ok l ∷ xs) ys h k = good_both xs ys h k
good_both (Err f ∷ xs) ys h k = absurd h

-- no line stands after one with a fault
abbrev pub EndsAtFault : Rest → Type 0
EndsAtFault [] = Unit {0}
EndsAtFault (Ok l ∷ lines) = EndsAtFault lines
EndsAtFault (Err f ∷ lines) = lines ≡ []

one_or_none : (b : Bool) (r : Result LineView LineFault) → EndsAtFault (cond b [] (r ∷ []))
one_or_none true r = tt
one_or_none false (Ok l) = tt
one_or_none false (Err f) = refl

then_last : (r : Result LineView LineFault) (rest : Rest) → EndsAtFault rest → EndsAtFault (then_lines r rest)
then_last (Ok l) rest h = h
then_last (Err f) rest h = refl

last_of_parts : (w : Bounds) (at : Spot) (parts : List (List ℕ)) → EndsAtFault (lines_of_parts w at parts)
last_of_parts w at [] = tt
last_of_parts w at (part ∷ []) = one_or_none (eqb (length part) 0) (line_or_fault w at part TextEnd (at.before + length part))
last_of_parts w at (part ∷ next ∷ parts) =
    let after : Spot = record { line = at.line + 1; before = at.before + length part + 1 } in
    then_last (line_before_lf w at part) (lines_of_parts w after (next ∷ parts)) (last_of_parts w after (next ∷ parts))

-- the lines of a text end at the first fault
pub fault_is_last : (w : Bounds) (at : Spot) (text : List ℕ) → EndsAtFault (lines_of w at text)
fault_is_last w at text = last_of_parts w at (slice_split is_lf text)

-- so whatever comes after them, they are the first
pub then_some : (xs ys : Rest) → EndsAtFault xs → (more : Rest) × (then_more xs ys ≡ xs ++ more)
then_some [] ys h = (ys, refl)
then_some (Ok l ∷ xs) ys h = let r = then_some xs ys h in (r.0, ap (λ (ls : Rest). Ok l ∷ ls) r.1)
then_some (Err f ∷ xs) ys h = ([], ap (λ (ls : Rest). Err f ∷ (ls ++ [])) (sym h))
