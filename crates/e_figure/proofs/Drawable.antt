-- What a figure keeps of its objects, and what one more has to bring.
use Rattle.std.proofs.Common.{◌≡◌, ℕ, ◌<◌, List, [], ◌∷◌, ◌++◌, length, ◌&&◌, true, refl, arith, leb-true, nat_le, ◌≤◌}
use Rattle.std.specs.List.{list_all}
use Rattle.std.proofs.lemmas.Bool.{and_parts, and_from}
use Rattle.std.proofs.lemmas.List.{length-append}
use Rattle.e_literal.proofs.Booleans.{all_both}
use Rattle.e_figure.specs.declared.figure.Point.{Point}
use Rattle.e_figure.specs.declared.figure.Straight.{Straight}
use Rattle.e_figure.specs.declared.figure.Round.{Round}
use Rattle.e_figure.specs.Figure.{FigureView, has_direction, has_inside, is_figure, is_small_number, is_small_point, is_small_line, is_small_circle, is_bounded, has_few_objects, HasFewObjects, can_be_drawn, with_point, with_line, with_circle}

-- what holds of each figure
abbrev pub Keeps : FigureView → Type 0
Keeps d = (is_figure d ≡ true) × ((is_bounded d ≡ true) × HasFewObjects d)

few_objects : (d : FigureView) → has_few_objects d ≡ true → HasFewObjects d
few_objects d e =
    let h = and_parts (nat_le (length d.points) 40) (nat_le (length d.lines) 24 && nat_le (length d.circles) 16) e in
    let k = and_parts (nat_le (length d.lines) 24) (nat_le (length d.circles) 16) h.1 in
    (leb-true (length d.points) 40 h.0, (leb-true (length d.lines) 24 k.0, leb-true (length d.circles) 16 k.1))

pub drawable_keeps : (d : FigureView) → can_be_drawn d ≡ true → Keeps d
drawable_keeps d e =
    let h = and_parts (has_few_objects d) (is_bounded d && is_figure d) e in
    let k = and_parts (is_bounded d) (is_figure d) h.1 in
    (k.1, (k.0, few_objects d h.0))

pub square_small : (c : Round) → is_small_circle c ≡ true → c.square ≤ 1000000000000
square_small c e =
    let h = and_parts (is_small_number c.x) (is_small_number c.y && nat_le c.square 1000000000000) e in
    let k = and_parts (is_small_number c.y) (nat_le c.square 1000000000000) h.1 in
    leb-true c.square 1000000000000 k.1

-- ---- one object more

one_more : {X : Type 0} (xs : List X) (x : X) (n : ℕ) → length xs < n → length (xs ++ x ∷ []) ≤ n
one_more xs x n l = omega (arith, length-append xs (x ∷ []))

pub point_added : (d : FigureView) (a : Point) → length d.points < 40 → is_small_point a ≡ true → Keeps d → Keeps (with_point d a)
point_added d a few small h =
    let b = and_parts (list_all is_small_point d.points) (list_all is_small_line d.lines && list_all is_small_circle d.circles) h.1.0 in (
      h.0,
      (
        and_from (list_all is_small_point (d.points ++ a ∷ [])) (list_all is_small_line d.lines && list_all is_small_circle d.circles)
            (all_both is_small_point d.points (a ∷ []) b.0 (and_from (is_small_point a) true small refl)) b.1,
        (one_more d.points a 40 few, h.1.1.1),
      ),
    )

pub line_added : (d : FigureView) (l : Straight) → length d.lines < 24 → is_small_line l ≡ true → has_direction l ≡ true → Keeps d → Keeps (with_line d l)
line_added d l few small direction h =
    let g = and_parts (list_all has_direction d.lines) (list_all has_inside d.circles) h.0 in
    let b = and_parts (list_all is_small_point d.points) (list_all is_small_line d.lines && list_all is_small_circle d.circles) h.1.0 in
    let k = and_parts (list_all is_small_line d.lines) (list_all is_small_circle d.circles) b.1 in (
      and_from (list_all has_direction (d.lines ++ l ∷ [])) (list_all has_inside d.circles)
          (all_both has_direction d.lines (l ∷ []) g.0 (and_from (has_direction l) true direction refl)) g.1,
      (
        and_from (list_all is_small_point d.points) (list_all is_small_line (d.lines ++ l ∷ []) && list_all is_small_circle d.circles) b.0
            (and_from (list_all is_small_line (d.lines ++ l ∷ [])) (list_all is_small_circle d.circles)
            (all_both is_small_line d.lines (l ∷ []) k.0 (and_from (is_small_line l) true small refl)) k.1),
        (h.1.1.0, (one_more d.lines l 24 few, h.1.1.1.1)),
      ),
    )

pub circle_added : (d : FigureView) (c : Round) → length d.circles < 16 → is_small_circle c ≡ true → has_inside c ≡ true → Keeps d → Keeps (with_circle d c)
circle_added d c few small inside h =
    let g = and_parts (list_all has_direction d.lines) (list_all has_inside d.circles) h.0 in
    let b = and_parts (list_all is_small_point d.points) (list_all is_small_line d.lines && list_all is_small_circle d.circles) h.1.0 in
    let k = and_parts (list_all is_small_line d.lines) (list_all is_small_circle d.circles) b.1 in (
      and_from (list_all has_direction d.lines) (list_all has_inside (d.circles ++ c ∷ [])) g.0
          (all_both has_inside d.circles (c ∷ []) g.1 (and_from (has_inside c) true inside refl)),
      (
        and_from (list_all is_small_point d.points) (list_all is_small_line d.lines && list_all is_small_circle (d.circles ++ c ∷ [])) b.0
            (and_from (list_all is_small_line d.lines) (list_all is_small_circle (d.circles ++ c ∷ [])) k.0
            (all_both is_small_circle d.circles (c ∷ []) k.1 (and_from (is_small_circle c) true small refl))),
        (h.1.1.0, (h.1.1.1.0, one_more d.circles c 16 few)),
      ),
    )
