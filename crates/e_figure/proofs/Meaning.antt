-- Literals that are not true in a figure, as signs of polynomials in its coordinates.
use Rattle.std.proofs.Common.{◌≡◌, ℕ, List, [], ◌∷◌, ◌++◌, map, get_or, arith, sym, ◌∙◌, Bool, true, false, ◌&&◌, cond, inl, inr}
use Rattle.std.specs.Prelude.{int_lt}
use Rattle.std.specs.List.{list_any}
use Rattle.std.specs.Ordering.{int_eq}
use Rattle.std.proofs.lemmas.Bool.{true≢false, and_parts, and_cases, or_parts, not-true, not-false}
use Rattle.std.proofs.lemmas.Bool.Decides.{Decides-int_eq}
use Rattle.std.proofs.lemmas.Int.{ints}
use lib.IntN.{ℤ, pos, ◌+ℤ◌, ◌-ℤ◌, ◌*ℤ◌}
use lib.Signed.{◌≤ℤ◌, ◌<ℤ◌}
use Rattle.e_literal.specs.declared.literal.Atom.{Atom}
use Rattle.e_literal.specs.declared.literal.Atom.TheVariants.{On, OnC, Inside, Center, Between, Same, MeetLL, MeetLC, MeetCC, EqP, EqL, EqC, MagEq, MagLt}
use Rattle.e_literal.specs.declared.literal.Lit.{Lit}
use Rattle.e_literal.specs.Rename.{atom_at}
use Rattle.e_literal.proofs.Arith.{sums}
use Rattle.e_plane.proofs.Squares.{square-not_negative, square-positive}
use Rattle.e_plane.proofs.Cone.{Fact, Hold}
use Rattle.e_figure.specs.Figure.{FigureView, point_of, line_of_figure, circle_of}
use Rattle.e_figure.specs.Truth.{cross, dot, side_of_line, dist, atom_holds, is_true}
use Rattle.e_figure.proofs.Facts.{when_true, when_false, none_true}

-- the coordinates of what stands for a rule's variables
abbrev pub coordinates : FigureView → (p l c : ℕ → ℕ) → ℕ → ℕ → ℤ
coordinates d p l c n k =
    get_or (
    (point_of d (p n)).x ∷ (point_of d (p n)).y
    ∷ (line_of_figure d (l n)).x ∷ (line_of_figure d (l n)).y ∷ (line_of_figure d (l n)).dx ∷ (line_of_figure d (l n)).dy
    ∷ (circle_of d (c n)).x ∷ (circle_of d (c n)).y ∷ pos (circle_of d (c n)).square ∷ []
    ) k (pos 0)

-- ---- tests

equal : (x y : ℤ) → int_eq x y ≡ true → x ≡ y
equal x y e = (Decides-int_eq x y).0 e

equal_zero : (x y : ℤ) → int_eq x y ≡ true → y -ℤ x ≡ pos 0
equal_zero x y e = omega (arith, sums, equal x y e)

equal_less : (x y : ℤ) → int_eq x y ≡ true → x -ℤ y ≡ pos 0
equal_less x y e = omega (arith, sums, equal x y e)

unequal : (x y : ℤ) → int_eq x y ≡ false → x ≡ y → ⊥
unequal x y e s = true≢false (sym ((Decides-int_eq x y).1 s) ∙ e)

unequal_square : (x y : ℤ) → int_eq x y ≡ false → pos 0 <ℤ ((y -ℤ x) *ℤ (y -ℤ x))
unequal_square x y e = square-positive (y -ℤ x) (λ z. unequal x y e (omega (arith, sums, z)))

unequal_square_less : (x y : ℤ) → int_eq x y ≡ false → pos 0 <ℤ ((x -ℤ y) *ℤ (x -ℤ y))
unequal_square_less x y e = square-positive (x -ℤ y) (λ z. unequal x y e (omega (arith, sums, z)))

pub not_zero_square : (x : ℤ) → int_eq x (pos 0) ≡ false → pos 0 <ℤ (x *ℤ x)
not_zero_square x e = square-positive x (λ z. unequal x (pos 0) e z)

less : (x y : ℤ) → int_lt x y ≡ true → pos 0 <ℤ (y -ℤ x)
less x y e = omega (arith, ints)

not_less : (x y : ℤ) → int_lt x y ≡ false → pos 0 ≤ℤ (pos 0 -ℤ (y -ℤ x))
not_less x y e = omega (arith, ints)

sum_left : (x y : ℤ) → pos 0 <ℤ x → pos 0 ≤ℤ y → pos 0 <ℤ (x +ℤ y)
sum_left x y h g = omega (arith, sums, h, g)

sum_right : (x y : ℤ) → pos 0 ≤ℤ x → pos 0 <ℤ y → pos 0 <ℤ (x +ℤ y)
sum_right x y h g = omega (arith, sums, h, g)

unequal_two : (x y u v : ℤ) → (int_eq x u && int_eq y v) ≡ false → pos 0 <ℤ ((u -ℤ x) *ℤ (u -ℤ x) +ℤ (v -ℤ y) *ℤ (v -ℤ y))
unequal_two x y u v e =
    elim (and_cases (int_eq x u) (int_eq y v) e) [
      | inl n ↦ sum_left ((u -ℤ x) *ℤ (u -ℤ x)) ((v -ℤ y) *ℤ (v -ℤ y)) (unequal_square x u n) (square-not_negative (v -ℤ y))
      | inr n ↦ sum_right ((u -ℤ x) *ℤ (u -ℤ x)) ((v -ℤ y) *ℤ (v -ℤ y)) (square-not_negative (u -ℤ x)) (unequal_square y v n)
    ]

unequal_two_less : (x y u v : ℤ) → (int_eq x u && int_eq y v) ≡ false → pos 0 <ℤ ((x -ℤ u) *ℤ (x -ℤ u) +ℤ (y -ℤ v) *ℤ (y -ℤ v))
unequal_two_less x y u v e =
    elim (and_cases (int_eq x u) (int_eq y v) e) [
      | inl n ↦ sum_left ((x -ℤ u) *ℤ (x -ℤ u)) ((y -ℤ v) *ℤ (y -ℤ v)) (unequal_square_less x u n) (square-not_negative (y -ℤ v))
      | inr n ↦ sum_right ((x -ℤ u) *ℤ (x -ℤ u)) ((y -ℤ v) *ℤ (y -ℤ v)) (square-not_negative (x -ℤ u)) (unequal_square_less y v n)
    ]

pub not_both_zero : (x y : ℤ) → (int_eq x (pos 0) && int_eq y (pos 0)) ≡ false → pos 0 <ℤ (x *ℤ x +ℤ y *ℤ y)
not_both_zero x y e =
    elim (and_cases (int_eq x (pos 0)) (int_eq y (pos 0)) e) [
      | inl n ↦ sum_left (x *ℤ x) (y *ℤ y) (not_zero_square x n) (square-not_negative y)
      | inr n ↦ sum_right (x *ℤ x) (y *ℤ y) (square-not_negative x) (not_zero_square y n)
    ]

unequal_circles : (x y s u v t : ℤ) → (int_eq x u && (int_eq y v && int_eq s t)) ≡ false
    → pos 0 <ℤ ((u -ℤ x) *ℤ (u -ℤ x) +ℤ (v -ℤ y) *ℤ (v -ℤ y) +ℤ (t -ℤ s) *ℤ (t -ℤ s))
unequal_circles x y s u v t e =
    elim (and_cases (int_eq x u) (int_eq y v && int_eq s t) e) [
      | inl n ↦ omega (arith, sums, unequal_square x u n, square-not_negative (v -ℤ y), square-not_negative (t -ℤ s))
      | inr n ↦ omega (arith, sums, unequal_two y s v t n, square-not_negative (u -ℤ x))
    ]

positive_is : (x : ℤ) → int_lt (pos 0) x ≡ true → pos 0 <ℤ x
positive_is x e = omega (arith, ints)

not_positive_is : (x : ℤ) → int_lt (pos 0) x ≡ false → pos 0 ≤ℤ (pos 0 -ℤ x)
not_positive_is x e = omega (arith, ints)

below_zero : (x : ℤ) → int_lt x (pos 0) ≡ true → pos 0 <ℤ (pos 0 -ℤ x)
below_zero x e = omega (arith, ints)

not_between : (x y : ℤ) → (int_eq x (pos 0) && int_lt y (pos 0)) ≡ false → x ≡ pos 0 → pos 0 ≤ℤ y
not_between x y e z =
    elim (and_cases (int_eq x (pos 0)) (int_lt y (pos 0)) e) [
      | inl n ↦ absurd (unequal x (pos 0) n z)
      | inr n ↦ omega (arith, ints)
    ]

-- ---- atoms

pub when_true_holds : (d : FigureView) (p l c : ℕ → ℕ) (t : Atom) → atom_holds d (atom_at p l c t) ≡ true → Hold (coordinates d p l c) (when_true t)
when_true_holds d p l c (On a L) e =
    let one = point_of d (p a) in
    let first = line_of_figure d (l L) in
    (equal (side_of_line one.x one.y first) (pos 0) e, tt)
when_true_holds d p l c (OnC a A) e =
    let one = point_of d (p a) in
    let inner = circle_of d (c A) in
    (equal_zero (dist one.x one.y inner.x inner.y) (pos inner.square) e, tt)
when_true_holds d p l c (Inside a A) e =
    let one = point_of d (p a) in
    let inner = circle_of d (c A) in
    (less (dist one.x one.y inner.x inner.y) (pos inner.square) e, tt)
when_true_holds d p l c (Center a A) e =
    let one = point_of d (p a) in
    let inner = circle_of d (c A) in
    let h = and_parts (int_eq one.x inner.x) (int_eq one.y inner.y) e in
    (equal_less one.x inner.x h.0, (equal_less one.y inner.y h.1, tt))
when_true_holds d p l c (Between a b g) e =
    let one = point_of d (p a) in
    let two = point_of d (p b) in
    let three = point_of d (p g) in
    let h = and_parts (int_eq (cross (two.x -ℤ one.x) (two.y -ℤ one.y) (three.x -ℤ one.x) (three.y -ℤ one.y)) (pos 0)) (int_lt (dot (one.x -ℤ two.x) (one.y -ℤ two.y) (three.x -ℤ two.x) (three.y -ℤ two.y)) (pos 0)) e in
    (equal (cross (two.x -ℤ one.x) (two.y -ℤ one.y) (three.x -ℤ one.x) (three.y -ℤ one.y)) (pos 0) h.0, (below_zero (dot (one.x -ℤ two.x) (one.y -ℤ two.y) (three.x -ℤ two.x) (three.y -ℤ two.y)) h.1, tt))
when_true_holds d p l c (Same a b L) e =
    let one = point_of d (p a) in
    let two = point_of d (p b) in
    let first = line_of_figure d (l L) in
    (positive_is ((side_of_line one.x one.y first) *ℤ (side_of_line two.x two.y first)) e, tt)
when_true_holds d p l c (MeetLL L M) e =
    let first = line_of_figure d (l L) in
    let second = line_of_figure d (l M) in
    (not_zero_square (cross first.dx first.dy second.dx second.dy) (not-true (int_eq (cross first.dx first.dy second.dx second.dy) (pos 0)) e), tt)
when_true_holds d p l c (MeetLC L A) e =
    let first = line_of_figure d (l L) in
    let inner = circle_of d (c A) in
    (less ((side_of_line inner.x inner.y first) *ℤ (side_of_line inner.x inner.y first)) (pos inner.square *ℤ dot first.dx first.dy first.dx first.dy) e, tt)
when_true_holds d p l c (MeetCC A B) e =
    let inner = circle_of d (c A) in
    let outer = circle_of d (c B) in
    (less ((dist outer.x outer.y inner.x inner.y -ℤ pos inner.square -ℤ pos outer.square) *ℤ (dist outer.x outer.y inner.x inner.y -ℤ pos inner.square -ℤ pos outer.square)) (pos 4 *ℤ (pos inner.square *ℤ pos outer.square)) e, tt)
when_true_holds d p l c (EqP a b) e =
    let one = point_of d (p a) in
    let two = point_of d (p b) in
    let h = and_parts (int_eq one.x two.x) (int_eq one.y two.y) e in
    (equal_zero one.x two.x h.0, (equal_zero one.y two.y h.1, tt))
when_true_holds d p l c (EqL L M) e =
    let first = line_of_figure d (l L) in
    let second = line_of_figure d (l M) in
    let h = and_parts (int_eq (cross first.dx first.dy second.dx second.dy) (pos 0)) (int_eq (side_of_line second.x second.y first) (pos 0)) e in
    (equal (cross first.dx first.dy second.dx second.dy) (pos 0) h.0, (equal (side_of_line second.x second.y first) (pos 0) h.1, tt))
when_true_holds d p l c (EqC A B) e =
    let inner = circle_of d (c A) in
    let outer = circle_of d (c B) in
    let h = and_parts (int_eq inner.x outer.x) (int_eq inner.y outer.y && int_eq (pos inner.square) (pos outer.square)) e in
    let k = and_parts (int_eq inner.y outer.y) (int_eq (pos inner.square) (pos outer.square)) h.1 in
    (equal_zero inner.x outer.x h.0, (equal_zero inner.y outer.y k.0, (equal_zero (pos inner.square) (pos outer.square) k.1, tt)))
when_true_holds d p l c (MagEq x y) e = tt
when_true_holds d p l c (MagLt x y) e = tt

pub when_false_holds : (d : FigureView) (p l c : ℕ → ℕ) (t : Atom) → atom_holds d (atom_at p l c t) ≡ false → Hold (coordinates d p l c) (when_false t)
when_false_holds d p l c (On a L) e =
    let one = point_of d (p a) in
    let first = line_of_figure d (l L) in
    (not_zero_square (side_of_line one.x one.y first) e, tt)
when_false_holds d p l c (OnC a A) e =
    let one = point_of d (p a) in
    let inner = circle_of d (c A) in
    (unequal_square (dist one.x one.y inner.x inner.y) (pos inner.square) e, tt)
when_false_holds d p l c (Inside a A) e =
    let one = point_of d (p a) in
    let inner = circle_of d (c A) in
    (not_less (dist one.x one.y inner.x inner.y) (pos inner.square) e, tt)
when_false_holds d p l c (Center a A) e =
    let one = point_of d (p a) in
    let inner = circle_of d (c A) in
    (unequal_two_less one.x one.y inner.x inner.y e, tt)
when_false_holds d p l c (Between a b g) e =
    let one = point_of d (p a) in
    let two = point_of d (p b) in
    let three = point_of d (p g) in
    (not_between (cross (two.x -ℤ one.x) (two.y -ℤ one.y) (three.x -ℤ one.x) (three.y -ℤ one.y)) (dot (one.x -ℤ two.x) (one.y -ℤ two.y) (three.x -ℤ two.x) (three.y -ℤ two.y)) e, tt)
when_false_holds d p l c (Same a b L) e =
    let one = point_of d (p a) in
    let two = point_of d (p b) in
    let first = line_of_figure d (l L) in
    (not_positive_is ((side_of_line one.x one.y first) *ℤ (side_of_line two.x two.y first)) e, tt)
when_false_holds d p l c (MeetLL L M) e =
    let first = line_of_figure d (l L) in
    let second = line_of_figure d (l M) in
    (equal (cross first.dx first.dy second.dx second.dy) (pos 0) (not-false (int_eq (cross first.dx first.dy second.dx second.dy) (pos 0)) e), tt)
when_false_holds d p l c (MeetLC L A) e =
    let first = line_of_figure d (l L) in
    let inner = circle_of d (c A) in
    (not_less ((side_of_line inner.x inner.y first) *ℤ (side_of_line inner.x inner.y first)) (pos inner.square *ℤ dot first.dx first.dy first.dx first.dy) e, tt)
when_false_holds d p l c (MeetCC A B) e =
    let inner = circle_of d (c A) in
    let outer = circle_of d (c B) in
    (not_less ((dist outer.x outer.y inner.x inner.y -ℤ pos inner.square -ℤ pos outer.square) *ℤ (dist outer.x outer.y inner.x inner.y -ℤ pos inner.square -ℤ pos outer.square)) (pos 4 *ℤ (pos inner.square *ℤ pos outer.square)) e, tt)
when_false_holds d p l c (EqP a b) e =
    let one = point_of d (p a) in
    let two = point_of d (p b) in
    (unequal_two one.x one.y two.x two.y e, tt)
when_false_holds d p l c (EqL L M) e =
    let first = line_of_figure d (l L) in
    let second = line_of_figure d (l M) in
    (not_both_zero (cross first.dx first.dy second.dx second.dy) (side_of_line second.x second.y first) e, tt)
when_false_holds d p l c (EqC A B) e =
    let inner = circle_of d (c A) in
    let outer = circle_of d (c B) in
    (unequal_circles inner.x inner.y (pos inner.square) outer.x outer.y (pos outer.square) e, tt)
when_false_holds d p l c (MagEq x y) e = tt
when_false_holds d p l c (MagLt x y) e = tt

-- ---- lists

pub joined : (env : ℕ → ℕ → ℤ) (fs gs : List Fact) → Hold env fs → Hold env gs → Hold env (fs ++ gs)
joined env [] gs h k = k
joined env (f ∷ fs) gs h k = (h.0, joined env fs gs h.1 k)

untrue_holds : (d : FigureView) (p l c : ℕ → ℕ) (b : Bool) (t : Atom) → is_true d (record { neg = b; atom = atom_at p l c t }) ≡ false
    → Hold (coordinates d p l c) (cond b (when_true t) (when_false t))
untrue_holds d p l c true t e = when_true_holds d p l c t (not-false (atom_holds d (atom_at p l c t)) e)
untrue_holds d p l c false t e = when_false_holds d p l c t e

pub none_true_holds : (d : FigureView) (p l c : ℕ → ℕ) (ls : List Lit)
    → list_any (is_true d) (map (λ (t : Lit). record { neg = t.neg; atom = atom_at p l c t.atom }) ls) ≡ false → Hold (coordinates d p l c) (none_true ls)
none_true_holds d p l c [] e = tt
none_true_holds d p l c (t ∷ ts) e =
    let h = or_parts (is_true d (record { neg = t.neg; atom = atom_at p l c t.atom }))
    (list_any (is_true d) (map (λ (t : Lit). record { neg = t.neg; atom = atom_at p l c t.atom }) ts)) e in
    joined (coordinates d p l c) (cond t.neg (when_true t.atom) (when_false t.atom)) (none_true ts)
    (untrue_holds d p l c t.neg t.atom h.0) (none_true_holds d p l c ts h.1)
