-- How many lines a text has.
use Rattle.std.proofs.Common.{ℕ, ◌+◌, ◌≤◌, Bool, true, false, cond, List, [], ◌∷◌, length, Result, arith}
use Rattle.std.specs.Prelude.{is_ok}
use Rattle.std.specs.List.{slice_split}
use Rattle.std.proofs.lemmas.List.Splits.{length-slice_split}
use Rattle.std.proofs.lemmas.List.Sums.{count_by-le-length}
use Rattle.e_text.specs.Lines.{is_lf, Bounds, Spot, LineView, line_before_lf, lines_of_parts, lines_of}
use Rattle.e_text.specs.declared.line.LineFault.{LineFault}

abbrev Checked : Type 0
Checked = Result LineView LineFault

one_or_none : (b : Bool) (x : Checked) → length (cond b [] (x ∷ [])) ≤ 1
one_or_none true x = omega arith
one_or_none false x = omega arith

at_most : (b : Bool) (x : Checked) (xs : List Checked) (n : ℕ) → length xs ≤ n → length (x ∷ cond b xs []) ≤ n + 1
at_most true x xs n le = omega (arith, le)
at_most false x xs n le = omega arith

few_parts : (w : Bounds) (at : Spot) (parts : List (List ℕ)) → length (lines_of_parts w at parts) ≤ length parts
few_parts w at [] = omega arith
few_parts w at (part ∷ []) = one_or_none _ _
few_parts w at (part ∷ next ∷ parts) =
    let first = line_before_lf w at part in
    let after : Spot = record { line = at.line + 1; before = at.before + length part + 1 } in
    let h = at_most (is_ok first) first (lines_of_parts w after (next ∷ parts)) (length (next ∷ parts)) (few_parts w after (next ∷ parts)) in
    omega (arith, h)

-- at most one more than bytes
pub few_lines : (w : Bounds) (at : Spot) (text : List ℕ) → length (lines_of w at text) ≤ length text + 1
few_lines w at text =
    let h = few_parts w at (slice_split is_lf text) in
    omega (arith, h, length-slice_split is_lf text, count_by-le-length is_lf text)
