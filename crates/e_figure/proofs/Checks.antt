-- Worked values: three points of a line, a circle about the first through the second, and what touches it.
use Rattle.std.proofs.Common.{◌≡◌, [], ◌∷◌, true, false, None, refl}
use lib.IntN.{pos, negsuc}
use Rattle.e_clause.specs.Rows.{isnt, on, onc, inside, between, same_side, meets_ll, meets_lc, meets_cc, eq_l, a, b, c, d, L, M, N, A, B}
use Rattle.e_figure.specs.Figure.{FigureView, figure_of, can_be_drawn}
use Rattle.e_figure.specs.Truth.{is_true}
use Rattle.e_figure.specs.Cite.{is_refuted}

-- a, b and c on L, and d off it; M touches A, and N is L, written otherwise; B touches A from outside
abbrev worked : FigureView
worked = record {
  points = record { x = pos 0; y = pos 0 } ∷ record { x = pos 2; y = pos 0 } ∷ record { x = pos 4; y = pos 0 } ∷ record { x = pos 1; y = pos 1 } ∷ [];
  lines = record { x = pos 0; y = pos 0; dx = pos 1; dy = pos 0 } ∷ record { x = pos 0; y = pos 2; dx = pos 1; dy = pos 0 } ∷ record { x = pos 3; y = pos 0; dx = negsuc 1; dy = pos 0 } ∷ [];
  circles = record { x = pos 0; y = pos 0; square = 4 } ∷ record { x = pos 4; y = pos 0; square = 4 } ∷ [];
}

check-drawn : can_be_drawn worked ≡ true
check-drawn = refl

check-between : is_true worked (between a b c) ≡ true
check-between = refl

check-not_between : is_true worked (between b a c) ≡ false
check-not_between = refl

check-off_the_line : is_true worked (isnt (on d L)) ≡ true
check-off_the_line = refl

check-on_the_circle : is_true worked (onc b A) ≡ true
check-on_the_circle = refl

check-not_inside : is_true worked (inside b A) ≡ false
check-not_inside = refl

check-inside : is_true worked (inside d A) ≡ true
check-inside = refl

check-sides : is_true worked (same_side a d M) ≡ true
check-sides = refl

check-line_touches : is_true worked (meets_lc M A) ≡ false
check-line_touches = refl

check-line_crosses : is_true worked (meets_lc L A) ≡ true
check-line_crosses = refl

check-circles_touch : is_true worked (meets_cc A B) ≡ false
check-circles_touch = refl

check-one_line : is_true worked (eq_l L N) ≡ true
check-one_line = refl

check-parallel : is_true worked (meets_ll L M) ≡ false
check-parallel = refl

-- what touches is refuted by what is so
check-refuted : is_refuted worked (between a b c ∷ onc b A ∷ []) (inside b A) ≡ true
check-refuted = refl

-- a false fact refutes nothing
check-not_refuted : is_refuted worked (between b a c ∷ []) (inside b A) ≡ false
check-not_refuted = refl

-- a number past its bound, and a direction of two zeros
check-past : figure_of (record { x = pos 1000001; y = pos 0 } ∷ []) [] [] ≡ None
check-past = refl

check-no_direction : figure_of [] (record { x = pos 0; y = pos 0; dx = pos 0; dy = pos 0 } ∷ []) [] ≡ None
check-no_direction = refl
