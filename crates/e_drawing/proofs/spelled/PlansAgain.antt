-- The lines of a figure put its objects and literals into a plan, and each of them is read.
use Rattle.std.proofs.Common.{◌≡◌, ℕ, ◌<◌, Bool, true, false, ◌&&◌, List, [], ◌∷◌, ◌++◌, length, refl, sym, ap, ◌∙◌, arith}
use Rattle.std.specs.List.{list_all, AllByRecursion}
use Rattle.std.proofs.lemmas.Bool.{and_parts}
use Rattle.e_text.specs.Names.{is_name}
use Rattle.e_literal.specs.declared.literal.Lit.{Lit}
use Rattle.e_literal.specs.declared.object.Scope.{Scope}
use Rattle.e_literal.specs.Literal.{all_in_scope}
use Rattle.e_deriv.specs.declared.names.Names.{Names}
use Rattle.e_figure.specs.declared.figure.Point.{Point}
use Rattle.e_figure.specs.declared.figure.Straight.{Straight}
use Rattle.e_figure.specs.declared.figure.Round.{Round}
use Rattle.e_figure.specs.Figure.{FigureView, view_of_figure, has_direction, has_inside, is_small_point, is_small_line, is_small_circle}
use Rattle.e_line.specs.Names.{AreNames}
use Rattle.e_names.specs.Scope.{is_among_names, scope_of_names}
use Rattle.e_names.specs.Fits.{is_diagram_lit}
use Rattle.e_names.specs.Canonical.{raw_of}
use Rattle.e_names.proofs.distinct_names.Differ.{Apart, apart}
use Rattle.e_names.proofs.resolution.Lookups.{InOrder, in_order}
use Rattle.e_names.proofs.resolution.LitLookups.{lit_number_again, lit_named, diagram_is_well_formed, diagram_is_raw}
use Rattle.e_drawing.specs.declared.plan.Place.{Place}
use Rattle.e_drawing.specs.declared.plan.Place.TheVariants.{Done}
use Rattle.e_drawing.specs.declared.plan.Plan.{Plan}
use Rattle.e_drawing.specs.declared.raw.RawLine.{RawLine}
use Rattle.e_drawing.specs.declared.raw.RawLine.TheVariants as raw
use Rattle.e_drawing.specs.Plans.{no_plan}
use Rattle.e_drawing.specs.Spelled.{named_lines, object_lines, given_lines, shown_lines, lines_of_plan, is_literal_of, HasCanonicalText}
use Rattle.e_drawing.proofs.spelled.LinesAgain.{LineDrawn}
use Rattle.e_drawing.proofs.spelled.ObjectsAgain.{after_lines, plan_is, after_front, after_one, PutsOne, all_put, placing, point_put, line_put, circle_put, plan_at, IsReadLit, literals_put, begun}

-- ---- objects

abbrev names_are : (points lines circles : List (List ℕ)) → Names
names_are points lines circles = record { points = points; lines = lines; circles = circles }

abbrev with_points : List (List ℕ) → List Point → Plan
with_points names os = placing (names_are names [] []) (view_of_figure os [] [])

abbrev with_lines : List (List ℕ) → List Point → List (List ℕ) → List Straight → Plan
with_lines points os names ls = placing (names_are points names []) (view_of_figure os ls [])

abbrev with_circles : (points lines : List (List ℕ)) → List Point → List Straight → List (List ℕ) → List Round → Plan
with_circles points lines os ls names cs = placing (names_are points lines names) (view_of_figure os ls cs)

points_put : PutsOne raw.Point with_points is_small_point (λ n. Unit {0}) 40
points_put names os n a new other few s = point_put (names_are names [] []) (view_of_figure os [] []) n a (new, refl, refl) few s

lines_put : (points : List (List ℕ)) (os : List Point) → PutsOne raw.Line (with_lines points os) is_small_line (λ n. is_among_names points n ≡ false) 24
lines_put points os names ls n l new other few s = line_put (names_are points names []) (view_of_figure os ls []) n l (other, new, refl) few s

circles_put : (points lines : List (List ℕ)) (os : List Point) (ls : List Straight)
    → PutsOne raw.Circle (with_circles points lines os ls) is_small_circle (λ n. (is_among_names points n ≡ false) × (is_among_names lines n ≡ false)) 16
circles_put points lines os ls names cs n c new other few s = circle_put (names_are points lines names) (view_of_figure os ls cs) n c (other.0, other.1, new) few s

both_apart : (points lines names : List (List ℕ)) → Apart points names → Apart lines names → AllByRecursion (λ n. (is_among_names points n ≡ false) × (is_among_names lines n ≡ false)) names
both_apart points lines [] h k = tt
both_apart points lines (n ∷ names) h k = ((h.0, k.0), both_apart points lines names h.1 k.1)

any_others : (names : List (List ℕ)) → AllByRecursion (λ (n : List ℕ). Unit {0}) names
any_others [] = tt
any_others (n ∷ names) = (tt, any_others names)

-- the bounds of each sort
record InBounds (d : FigureView) : Type 0 where
  points : list_all is_small_point d.points ≡ true
  lines : list_all is_small_line d.lines ≡ true
  circles : list_all is_small_circle d.circles ≡ true
  directed : list_all has_direction d.lines ≡ true
  inside : list_all has_inside d.circles ≡ true

in_bounds : (p : Plan) → HasCanonicalText p → InBounds p.figure
in_bounds p h =
    let d = p.figure in
    let b = and_parts (list_all is_small_point d.points) (list_all is_small_line d.lines && list_all is_small_circle d.circles) h.bounded in
    let c = and_parts (list_all is_small_line d.lines) (list_all is_small_circle d.circles) b.1 in
    let f = and_parts (list_all has_direction d.lines) (list_all has_inside d.circles) h.figure in
    record { points = b.0; lines = c.0; circles = c.1; directed = f.0; inside = f.1 }

objects_put : (p : Plan) → HasCanonicalText p → after_lines (with_points [] []) (object_lines p.names p.figure) ≡ plan_is (placing p.names p.figure)
objects_put p h =
    let ns = p.names in
    let d = p.figure in
    let b = in_bounds p h in
    let few = h.fits.few in
    let differ = h.names_differ in
    let line_lines : List RawLine = named_lines raw.Line ns.lines d.lines in
    let circle_lines : List RawLine = named_lines raw.Circle ns.circles d.circles in
    let same_points : length d.points ≡ length ns.points = ap (λ (s : Scope). s.points) h.fits.named in
    let same_lines : length d.lines ≡ length ns.lines = ap (λ (s : Scope). s.lines) h.fits.named in
    let same_circles : length d.circles ≡ length ns.circles = ap (λ (s : Scope). s.circles) h.fits.named in
    let points = all_put raw.Point with_points is_small_point (λ n. Unit {0}) 40 points_put [] ns.points [] d.points differ.points (any_others ns.points) (omega (arith, few.points)) b.points same_points in
    let lines = all_put raw.Line (with_lines ns.points d.points) is_small_line (λ n. is_among_names ns.points n ≡ false) 24 (lines_put ns.points d.points) [] ns.lines [] d.lines differ.lines
    (apart ns.points ns.lines differ.points_lines) (omega (arith, few.lines)) b.lines same_lines in
    let circles = all_put raw.Circle (with_circles ns.points ns.lines d.points d.lines) is_small_circle (λ n. (is_among_names ns.points n ≡ false) × (is_among_names ns.lines n ≡ false)) 16
    (circles_put ns.points ns.lines d.points d.lines) [] ns.circles [] d.circles differ.circles
    (both_apart ns.points ns.lines ns.circles (apart ns.points ns.circles differ.points_circles) (apart ns.lines ns.circles differ.lines_circles)) (omega (arith, few.circles)) b.circles same_circles in
    after_front (with_points [] []) (with_points ns.points d.points) (named_lines raw.Point ns.points d.points) (line_lines ++ circle_lines) points
    ∙ after_front (with_lines ns.points d.points [] []) (with_lines ns.points d.points ns.lines d.lines) line_lines circle_lines lines ∙ circles

-- ---- literals

-- a literal is read, and from its own words
record ReadLit (ns : Names) (l : Lit) : Type 0 where
  read : IsReadLit ns l
  drawn : LineDrawn (raw.Given (raw_of ns l ∷ []))

read_lit : (ns : Names) (l : Lit) → InOrder ns → is_literal_of ns l ≡ true → ReadLit ns l
read_lit ns l o h =
    let p = and_parts (all_in_scope (scope_of_names ns) l) (is_diagram_lit l) h in
    let good = diagram_is_well_formed l p.1 in
    record { read = lit_number_again ns l o p.0 good; drawn = (lit_named ns l o p.0 good, diagram_is_raw ns l p.1) }

all_read : (ns : Names) (ls : List Lit) → InOrder ns → list_all (is_literal_of ns) ls ≡ true → AllByRecursion (IsReadLit ns) ls
all_read ns [] o h = tt
all_read ns (l ∷ ls) o h = let p = and_parts (is_literal_of ns l) (list_all (is_literal_of ns) ls) h in ((read_lit ns l o p.0).read, all_read ns ls o p.1)

-- ---- all lines

names_in_order : (p : Plan) → HasCanonicalText p → InOrder p.names
names_in_order p h = in_order p.names h.point_names h.line_names h.circle_names h.names_differ

literals_after : (p : Plan) (shown : List Lit) → HasCanonicalText p → list_all (is_literal_of p.names) shown ≡ true → 0 < length shown
    → after_lines (placing p.names p.figure) (given_lines p.names p.given ++ (shown_lines p.names shown ++ raw.End ∷ [])) ≡ plan_is (plan_at p.names p.figure p.given shown Done)
literals_after p [] h k some = absurd (omega (arith, some))
literals_after p (l ∷ ls) h k some =
    let o = names_in_order p h in
    literals_put p.names p.figure p.given l ls (all_read p.names p.given o h.given) (all_read p.names (l ∷ ls) o k)

pub plan_again : (p : Plan) → HasCanonicalText p → after_lines no_plan (lines_of_plan p) ≡ plan_is p
plan_again p h =
    let literal_lines : List RawLine = given_lines p.names p.given ++ (shown_lines p.names p.shown ++ raw.End ∷ []) in
    after_one no_plan (with_points [] []) raw.Figure (object_lines p.names p.figure ++ literal_lines) (begun (names_are [] [] []) (view_of_figure [] [] []))
    ∙ after_front (with_points [] []) (placing p.names p.figure) (object_lines p.names p.figure) literal_lines (objects_put p h)
    ∙ literals_after p p.shown h h.shown h.some_shown ∙ ap (λ (place : Place). plan_is (plan_at p.names p.figure p.given p.shown place)) (sym h.done)

-- ---- each of them is read

abbrev pub AllDrawn : List RawLine → Type 0
AllDrawn fs = AllByRecursion LineDrawn fs

drawn_append : (fs gs : List RawLine) → AllDrawn fs → AllDrawn gs → AllDrawn (fs ++ gs)
drawn_append [] gs h k = k
drawn_append (f ∷ fs) gs h k = (h.0, drawn_append fs gs h.1 k)

objects_drawn : {A : Type 0} (line : List ℕ → A → RawLine) (small whole : A → Bool) → ((n : List ℕ) (a : A) → is_name n ≡ true → small a ≡ true → whole a ≡ true → LineDrawn (line n a))
    → (names : List (List ℕ)) (os : List A) → AreNames names → list_all small os ≡ true → list_all whole os ≡ true → AllDrawn (named_lines line names os)
objects_drawn line small whole one [] os n s w = tt
objects_drawn line small whole one (m ∷ names) [] n s w = tt
objects_drawn line small whole one (m ∷ names) (a ∷ os) n s w =
    let p = and_parts (small a) (list_all small os) s in
    let q = and_parts (whole a) (list_all whole os) w in
    (one m a n.0 p.0 q.0, objects_drawn line small whole one names os n.1 p.1 q.1)

given_drawn : (ns : Names) (ls : List Lit) → InOrder ns → list_all (is_literal_of ns) ls ≡ true → AllDrawn (given_lines ns ls)
given_drawn ns [] o h = tt
given_drawn ns (l ∷ ls) o h = let p = and_parts (is_literal_of ns l) (list_all (is_literal_of ns) ls) h in ((read_lit ns l o p.0).drawn, given_drawn ns ls o p.1)

shown_drawn : (ns : Names) (ls : List Lit) → InOrder ns → list_all (is_literal_of ns) ls ≡ true → AllDrawn (shown_lines ns ls)
shown_drawn ns [] o h = tt
shown_drawn ns (l ∷ ls) o h = let p = and_parts (is_literal_of ns l) (list_all (is_literal_of ns) ls) h in ((read_lit ns l o p.0).drawn, shown_drawn ns ls o p.1)

pub all_drawn : (p : Plan) → HasCanonicalText p → AllDrawn (lines_of_plan p)
all_drawn p h =
    let ns = p.names in
    let d = p.figure in
    let b = in_bounds p h in
    let o = names_in_order p h in
    let points = objects_drawn raw.Point is_small_point is_small_point (λ n a e s w. (e, s)) ns.points d.points h.point_names b.points b.points in
    let lines = objects_drawn raw.Line is_small_line has_direction (λ n l e s w. (e, s, w)) ns.lines d.lines h.line_names b.lines b.directed in
    let circles = objects_drawn raw.Circle is_small_circle has_inside (λ n c e s w. (e, s, w)) ns.circles d.circles h.circle_names b.circles b.inside in
    let line_lines : List RawLine = named_lines raw.Line ns.lines d.lines in
    let circle_lines : List RawLine = named_lines raw.Circle ns.circles d.circles in
    let objects = drawn_append (named_lines raw.Point ns.points d.points) (line_lines ++ circle_lines) points (drawn_append line_lines circle_lines lines circles) in
    let shown : AllDrawn (shown_lines ns p.shown ++ raw.End ∷ []) = drawn_append (shown_lines ns p.shown) (raw.End ∷ []) (shown_drawn ns p.shown o h.shown) (tt, tt) in
    let literals = drawn_append (given_lines ns p.given) (shown_lines ns p.shown ++ raw.End ∷ []) (given_drawn ns p.given o h.given) shown in
    (tt, drawn_append (object_lines ns d) (given_lines ns p.given ++ (shown_lines ns p.shown ++ raw.End ∷ [])) objects literals)
