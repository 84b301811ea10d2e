-- Some literal of each instance is true: the facts that say that none is contradict each other.
use Rattle.std.proofs.Common.{◌≡◌, ℕ, zero, suc, ◌<◌, List, [], ◌∷◌, ◌++◌, map, get_or, length, refl, ap, arith, sym, ◌∙◌, subst, Bool, true, false, cond, append_assoc, Option, Some, None, slice_get, inl, inr}
use Rattle.std.specs.Prelude.{IsTrue, nat_lt}
use Rattle.std.specs.List.{list_any, list_all}
use Rattle.std.proofs.lemmas.Bool.{cases_Bool, and_parts, not-true}
use Rattle.std.proofs.lemmas.Int.{ints}
use lib.IntN.{pos}
use lib.Signed.{◌<ℤ◌}
use Rattle.e_literal.specs.declared.literal.Lit.{Lit}
use Rattle.e_literal.specs.declared.object.Obj.{Obj}
use Rattle.e_clause.specs.Rows.{Row}
use Rattle.e_clause.specs.Table.{table}
use Rattle.e_clause.specs.Table.Incidence.{incidence}
use Rattle.e_clause.specs.Table.Sides.{sides}
use Rattle.e_clause.specs.Table.Circles.{circles}
use Rattle.e_clause.specs.Table.Equality.{equality}
use Rattle.e_clause.specs.Table.Lengths.{lengths}
use Rattle.e_clause.specs.Table.Angles.{angles}
use Rattle.e_clause.specs.Instance.{Inst, instance_of_row, arguments_fit, lit_at, number, line_arg, circle_arg, clause_of}
use Rattle.e_plane.proofs.Cone.{Hold}
use Rattle.e_plane.proofs.Steps.{Refutation, leads, refuted_by}
use Rattle.e_figure.specs.declared.figure.Straight.{Straight}
use Rattle.e_figure.specs.declared.figure.Round.{Round}
use Rattle.e_figure.specs.Figure.{FigureView, line_of_figure, circle_of, has_direction, has_inside, is_figure}
use Rattle.e_figure.specs.Truth.{is_true}
use Rattle.e_figure.specs.Law.{EveryInstanceIsTrue}
use Rattle.e_figure.proofs.Facts.{none_true, directions, insides, row_facts, all_refuted}
use Rattle.e_figure.proofs.Meaning.{coordinates, none_true_holds, joined, not_both_zero}
use Rattle.e_figure.proofs.refutations.Incidence.{incidence_refutations, incidence_refuted}
use Rattle.e_figure.proofs.refutations.Sides.{sides_refutations, sides_refuted}
use Rattle.e_figure.proofs.refutations.Circles.{circles_refutations, circles_refuted}
use Rattle.e_figure.proofs.refutations.Equality.{equality_refutations, equality_refuted}

-- ---- directions and insides

line_has : (ls : List Straight) (n : ℕ) → list_all has_direction ls ≡ true → has_direction (get_or ls n (record { x = pos 0; y = pos 0; dx = pos 1; dy = pos 0 })) ≡ true
line_has [] n e = refl
line_has (x ∷ xs) zero e = (and_parts (has_direction x) (list_all has_direction xs) e).0
line_has (x ∷ xs) (suc n) e = line_has xs n (and_parts (has_direction x) (list_all has_direction xs) e).1

circle_has : (cs : List Round) (n : ℕ) → list_all has_inside cs ≡ true → has_inside (get_or cs n (record { x = pos 0; y = pos 0; square = 1 })) ≡ true
circle_has [] n e = refl
circle_has (x ∷ xs) zero e = (and_parts (has_inside x) (list_all has_inside xs) e).0
circle_has (x ∷ xs) (suc n) e = circle_has xs n (and_parts (has_inside x) (list_all has_inside xs) e).1

directions_hold : (d : FigureView) (p l c : ℕ → ℕ) → list_all has_direction d.lines ≡ true → (k n : ℕ) → Hold (coordinates d p l c) (directions k n)
directions_hold d p l c e k zero = tt
directions_hold d p l c e k (suc n) =
    (not_both_zero (line_of_figure d (l k)).dx (line_of_figure d (l k)).dy (not-true _ (line_has d.lines (l k) e)), directions_hold d p l c e (suc k) n)

positive_number : (n : ℕ) → nat_lt 0 n ≡ true → pos 0 <ℤ pos n
positive_number n e = grind (arith, ints, e)

insides_hold : (d : FigureView) (p l c : ℕ → ℕ) → list_all has_inside d.circles ≡ true → (k n : ℕ) → Hold (coordinates d p l c) (insides k n)
insides_hold d p l c e k zero = tt
insides_hold d p l c e k (suc n) = (positive_number (circle_of d (c k)).square (circle_has d.circles (c k) e), insides_hold d p l c e (suc k) n)

-- ---- one row

row_clause : (d : FigureView) (r : Row) (args : List Obj) (q : Refutation) → leads (row_facts r) q.steps q.last ≡ true → IsTrue (is_figure d)
    → list_any (is_true d) (map (lit_at r args) (clause_of r)) ≡ false → ⊥
row_clause d r args q e g n =
    let h = and_parts (list_all has_direction d.lines) (list_all has_inside d.circles) g in
    let p = number args in
    let l = line_arg r args in
    let c = circle_arg r args in
    refuted_by (coordinates d p l c) (row_facts r) q.steps q.last
    (joined (coordinates d p l c) (none_true (clause_of r)) (directions 0 r.lines ++ insides 0 r.circles)
    (none_true_holds d p l c (clause_of r) n)
    (joined (coordinates d p l c) (directions 0 r.lines) (insides 0 r.circles) (directions_hold d p l c h.0 0 r.lines) (insides_hold d p l c h.1 0 r.circles)))
    e

of_some : (b : Bool) (xs ys : List Lit) → cond b (Some xs) None ≡ Some ys → xs ≡ ys
of_some true xs ys e = cc
of_some false xs ys e = absurd (cc)

row_true : (d : FigureView) (r : Row) (args : List Obj) (lits : List Lit) (q : Refutation) → leads (row_facts r) q.steps q.last ≡ true → IsTrue (is_figure d)
    → instance_of_row r args ≡ Some lits → IsTrue (list_any (is_true d) lits)
row_true d r args lits q e g i =
    let same : map (lit_at r args) (clause_of r) ≡ lits = of_some (arguments_fit r args) (map (lit_at r args) (clause_of r)) lits i in
    elim (cases_Bool (list_any (is_true d) (map (lit_at r args) (clause_of r)))) [
      | inl y ↦ ap (list_any (is_true d)) (sym same) ∙ y
      | inr n ↦ absurd (row_clause d r args q e g n)
    ]

-- ---- the table

record Refuted (r : Row) : Type 0 where
  by : Refutation
  leads_there : leads (row_facts r) by.steps by.last ≡ true

abbrev Each : List Row → Type 0
Each [] = Unit {0}
Each (r ∷ rs) = Refuted r × Each rs

each : (rs : List Row) (qs : List Refutation) → all_refuted rs qs ≡ true → Each rs
each [] qs e = tt
each (r ∷ rs) [] e = cc
each (r ∷ rs) (q ∷ qs) e =
    let h = and_parts (leads (row_facts r) q.steps q.last) (all_refuted rs qs) e in
    (record { by = q; leads_there = h.0 }, each rs qs h.1)

each_joined : (rs ss : List Row) → Each rs → Each ss → Each (rs ++ ss)
each_joined [] ss h k = k
each_joined (r ∷ rs) ss h k = (h.0, each_joined rs ss h.1 k)

each_at : (rs ss : List Row) (n : ℕ) (r : Row) → Each rs → n < length rs → slice_get (rs ++ ss) n ≡ Some r → Refuted r
each_at [] ss n r h l e = absurd (omega arith)
each_at (x ∷ xs) ss zero r h l e = subst Refuted (cc) h.0
each_at (x ∷ xs) ss (suc n) r h l e = each_at xs ss n r h.1 (omega arith) e

abbrev diagrams : List Row
diagrams = incidence ++ (sides ++ (circles ++ equality))

all_diagrams : Each diagrams
all_diagrams =
    each_joined incidence (sides ++ (circles ++ equality)) (each incidence incidence_refutations incidence_refuted)
    (each_joined sides (circles ++ equality) (each sides sides_refutations sides_refuted)
    (each_joined circles equality (each circles circles_refutations circles_refuted) (each equality equality_refutations equality_refuted)))

diagrams_are : length diagrams ≡ 76
unfolding incidence sides circles equality
diagrams_are = refl

table_is : table ≡ diagrams ++ (lengths ++ angles)
unfolding table
table_is =
    sym (append_assoc incidence (sides ++ (circles ++ equality)) (lengths ++ angles)
    ∙ ap (λ x. incidence ++ x) (append_assoc sides (circles ++ equality) (lengths ++ angles)
    ∙ ap (λ x. sides ++ x) (append_assoc circles equality (lengths ++ angles))))

refuted_row : (rule : ℕ) (r : Row) → rule < 76 → slice_get table rule ≡ Some r → Refuted r
refuted_row rule r l e = each_at diagrams (lengths ++ angles) rule r all_diagrams (omega (arith, diagrams_are)) (ap (λ x. slice_get x rule) (sym table_is) ∙ e)

pub every_instance : EveryInstanceIsTrue
unfolding Inst
every_instance d rule args lits g l i = by (slice_get table rule) refl i
  where
    by : (o : Option Row) → slice_get table rule ≡ o → elim o [ None ↦ None | Some r ↦ instance_of_row r args ] ≡ Some lits → IsTrue (list_any (is_true d) lits)
    by None e i = absurd (cc)
    by (Some r) e i = let q = refuted_row rule r l e in row_true d r args lits q.by q.leads_there g i
