-- The lines of objects and of literals put them into the plan, one after another.
use Rattle.std.proofs.Common.{◌≡◌, ℕ, ◌+◌, ◌≤◌, Bool, true, false, not, ◌||◌, List, [], ◌∷◌, ◌++◌, length, Result, Ok, refl, sym, ap, ap₂, ◌∙◌, append_assoc, arith, length-append}
use Rattle.std.specs.List.{list_all, AllByRecursion}
use Rattle.std.specs.Str.{bytes_eq}
use Rattle.std.proofs.lemmas.Bool.{not-true, and_parts, or_parts}
use Rattle.std.proofs.lemmas.List.{append-nil}
use Rattle.std.proofs.lemmas.List.Folds.{list_any-append}
use Rattle.std.proofs.lemmas.Slice.Eq.{bytes_eq-Decides}
use Rattle.e_literal.specs.declared.object.Sort.TheVariants as sorts
use Rattle.e_literal.specs.declared.literal.Lit.{Lit}
use Rattle.e_deriv.specs.declared.names.Names.{Names}
use Rattle.e_figure.specs.declared.figure.Point.{Point}
use Rattle.e_figure.specs.declared.figure.Straight.{Straight}
use Rattle.e_figure.specs.declared.figure.Round.{Round}
use Rattle.e_figure.specs.Figure.{FigureView, is_small_point, is_small_line, is_small_circle, with_point, with_line, with_circle}
use Rattle.e_line.specs.declared.fault.FaultKind.{FaultKind}
use Rattle.e_line.specs.Reading.{◌>>=◌}
use Rattle.e_line.proofs.base.Bound.{bind_ok, ok_is}
use Rattle.e_names.specs.Scope.{is_among_names, lit_in}
use Rattle.e_names.specs.Fits.{are_distinct}
use Rattle.e_names.specs.Canonical.{raw_of}
use Rattle.e_names.proofs.distinct_names.NewNames.{Free, plus}
use Rattle.e_book.proofs.canonical.Declared.{declared_one}
use Rattle.e_drawing.specs.declared.plan.Place.{Place}
use Rattle.e_drawing.specs.declared.plan.Place.TheVariants.{Start, Placing, Giving, Showing, Done}
use Rattle.e_drawing.specs.declared.plan.Plan.{Plan}
use Rattle.e_drawing.specs.declared.raw.RawLine.{RawLine}
use Rattle.e_drawing.specs.declared.raw.RawLine.TheVariants as raw
use Rattle.e_drawing.specs.Plans.{with_named_point, with_named_line, with_named_circle, plan_after_line}
use Rattle.e_drawing.specs.Spelled.{named_lines, given_lines, shown_lines}

-- ---- lines one after another

abbrev pub after_lines : Plan → List RawLine → Result Plan FaultKind
after_lines p [] = Ok p
after_lines p (f ∷ fs) = plan_after_line p f >>= λ q. after_lines q fs

abbrev pub plan_is : Plan → Result Plan FaultKind
plan_is p = Ok p

pub after_front : (p q : Plan) (fs gs : List RawLine) → after_lines p fs ≡ plan_is q → after_lines p (fs ++ gs) ≡ after_lines q gs
after_front p q [] gs e = ap (λ (x : Plan). after_lines x gs) (ok_is p q e)
after_front p q (f ∷ fs) gs e =
    let a = bind_ok (plan_after_line p f) (λ x. after_lines x fs) q e in
    ap (λ (r : Result Plan FaultKind). r >>= (λ x. after_lines x (fs ++ gs))) a.1 ∙ after_front a.0 q fs gs a.2

pub after_one : (p q : Plan) (f : RawLine) (fs : List RawLine) → plan_after_line p f ≡ plan_is q → after_lines p (f ∷ fs) ≡ after_lines q fs
after_one p q f fs e = ap (λ (r : Result Plan FaultKind). r >>= (λ x. after_lines x fs)) e

-- ---- names that stand once

turned : (t : Bool) (a b : List ℕ) → bytes_eq b a ≡ t → bytes_eq a b ≡ false → t ≡ false
turned false a b e h = refl
turned true a b e h = sym ((bytes_eq-Decides a b).1 (sym ((bytes_eq-Decides b a).0 e))) ∙ h

-- a name is not among those before it
new_name : (names more : List (List ℕ)) (n : List ℕ) → are_distinct (names ++ n ∷ more) ≡ true → is_among_names names n ≡ false
new_name [] more n d = refl
new_name (m ∷ names) more n d =
    let p = and_parts (not (is_among_names (names ++ n ∷ more) m)) (are_distinct (names ++ n ∷ more)) d in
    let q = sym (list_any-append (λ k. bytes_eq k m) names (n ∷ more)) ∙ not-true (is_among_names (names ++ n ∷ more) m) p.0 in
    let r = or_parts (is_among_names names m) (bytes_eq n m || is_among_names more m) q in
    let s = or_parts (bytes_eq n m) (is_among_names more m) r.1 in
    rw (turned (bytes_eq m n) n m refl s.0, new_name names more n p.1) refl

-- ---- objects of one sort

-- a line puts an object with a new name after the others
abbrev pub PutsOne : {A : Type 0} → (List ℕ → A → RawLine) → (List (List ℕ) → List A → Plan) → (A → Bool) → (List ℕ → Type 0) → ℕ → Type 0
PutsOne {A} line at small Other most =
    (names : List (List ℕ)) (os : List A) (n : List ℕ) (a : A) → is_among_names names n ≡ false → Other n → length names + 1 ≤ most → small a ≡ true
    → plan_after_line (at names os) (line n a) ≡ plan_is (at (names ++ n ∷ []) (os ++ a ∷ []))

pub all_put : {A : Type 0} (line : List ℕ → A → RawLine) (at : List (List ℕ) → List A → Plan) (small : A → Bool) (Other : List ℕ → Type 0) (most : ℕ) → PutsOne line at small Other most
    → (names more : List (List ℕ)) (os bs : List A) → are_distinct (names ++ more) ≡ true → AllByRecursion Other more → length names + length more ≤ most → list_all small bs ≡ true → length bs ≡ length more
    → after_lines (at names os) (named_lines line more bs) ≡ plan_is (at (names ++ more) (os ++ bs))
all_put line at small Other most one names [] os [] d o few s e = ap₂ (λ ns bs. plan_is (at ns bs)) (sym (append-nil names)) (sym (append-nil os))
all_put line at small Other most one names [] os (b ∷ bs) d o few s e = absurd (omega (arith, e))
all_put line at small Other most one names (n ∷ more) os [] d o few s e = absurd (omega (arith, e))
all_put line at small Other most one names (n ∷ more) os (b ∷ bs) d o few s e =
    let p = and_parts (small b) (list_all small bs) s in
    let first = one names os n b (new_name names more n d) o.0 (omega (arith, few)) p.0 in
    let distinct : are_distinct ((names ++ n ∷ []) ++ more) ≡ true = ap are_distinct (append_assoc names (n ∷ []) more) ∙ d in
    let rest = all_put line at small Other most one (names ++ n ∷ []) more (os ++ b ∷ []) bs distinct o.1 (omega (arith, few, length-append names (n ∷ []))) p.1 (omega (arith, e)) in
    after_one (at names os) (at (names ++ n ∷ []) (os ++ b ∷ [])) (line n b) (named_lines line more bs) first ∙ rest
    ∙ ap₂ (λ ns cs. plan_is (at ns cs)) (append_assoc names (n ∷ []) more) (append_assoc os (b ∷ []) bs)

-- a plan while its objects come
abbrev pub placing : Names → FigureView → Plan
placing ns d = record { names = ns; figure = d; given = []; shown = []; place = Placing }

pub point_put : (ns : Names) (d : FigureView) (n : List ℕ) (a : Point) → Free ns n → length ns.points + 1 ≤ 40 → is_small_point a ≡ true
    → plan_after_line (placing ns d) (raw.Point n a) ≡ plan_is (placing (plus ns sorts.Point n) (with_point d a))
unfolding plan_after_line with_named_point
point_put ns d n a f few s = rw (declared_one ns sorts.Point n f few, s) refl

pub line_put : (ns : Names) (d : FigureView) (n : List ℕ) (l : Straight) → Free ns n → length ns.lines + 1 ≤ 24 → is_small_line l ≡ true
    → plan_after_line (placing ns d) (raw.Line n l) ≡ plan_is (placing (plus ns sorts.Line n) (with_line d l))
unfolding plan_after_line with_named_line
line_put ns d n l f few s = rw (declared_one ns sorts.Line n f few, s) refl

pub circle_put : (ns : Names) (d : FigureView) (n : List ℕ) (c : Round) → Free ns n → length ns.circles + 1 ≤ 16 → is_small_circle c ≡ true
    → plan_after_line (placing ns d) (raw.Circle n c) ≡ plan_is (placing (plus ns sorts.Circle n) (with_circle d c))
unfolding plan_after_line with_named_circle
circle_put ns d n c f few s = rw (declared_one ns sorts.Circle n f few, s) refl

-- ---- literals

abbrev pub plan_at : Names → FigureView → List Lit → List Lit → Place → Plan
plan_at ns d given shown place = record { names = ns; figure = d; given = given; shown = shown; place = place }

-- a literal that its words give
abbrev pub IsReadLit : Names → Lit → Type 0
IsReadLit ns l = lit_in ns (raw_of ns l) ≡ Ok l

given_put : (ns : Names) (d : FigureView) (given : List Lit) (l : Lit) → IsReadLit ns l
    → (plan_after_line (plan_at ns d given [] Placing) (raw.Given (raw_of ns l ∷ [])) ≡ plan_is (plan_at ns d (given ++ l ∷ []) [] Giving))
    × (plan_after_line (plan_at ns d given [] Giving) (raw.Given (raw_of ns l ∷ [])) ≡ plan_is (plan_at ns d (given ++ l ∷ []) [] Giving))
unfolding plan_after_line
given_put ns d given l e = (rw e refl, rw e refl)

shown_put : (ns : Names) (d : FigureView) (given shown : List Lit) (l : Lit) → IsReadLit ns l
    → (plan_after_line (plan_at ns d given shown Placing) (raw.Show (raw_of ns l ∷ [])) ≡ plan_is (plan_at ns d given (shown ++ l ∷ []) Showing))
    × (plan_after_line (plan_at ns d given shown Giving) (raw.Show (raw_of ns l ∷ [])) ≡ plan_is (plan_at ns d given (shown ++ l ∷ []) Showing))
    × (plan_after_line (plan_at ns d given shown Showing) (raw.Show (raw_of ns l ∷ [])) ≡ plan_is (plan_at ns d given (shown ++ l ∷ []) Showing))
unfolding plan_after_line
shown_put ns d given shown l e = (rw e refl, rw e refl, rw e refl)

more_given : (ns : Names) (d : FigureView) (given ls : List Lit) → AllByRecursion (IsReadLit ns) ls
    → after_lines (plan_at ns d given [] Giving) (given_lines ns ls) ≡ plan_is (plan_at ns d (given ++ ls) [] Giving)
more_given ns d given [] h = ap (λ (ls : List Lit). plan_is (plan_at ns d ls [] Giving)) (sym (append-nil given))
more_given ns d given (l ∷ ls) h =
    after_one (plan_at ns d given [] Giving) (plan_at ns d (given ++ l ∷ []) [] Giving) (raw.Given (raw_of ns l ∷ [])) (given_lines ns ls) (given_put ns d given l h.0).1
    ∙ more_given ns d (given ++ l ∷ []) ls h.1 ∙ ap (λ (ks : List Lit). plan_is (plan_at ns d ks [] Giving)) (append_assoc given (l ∷ []) ls)

more_shown : (ns : Names) (d : FigureView) (given shown ls : List Lit) → AllByRecursion (IsReadLit ns) ls
    → after_lines (plan_at ns d given shown Showing) (shown_lines ns ls) ≡ plan_is (plan_at ns d given (shown ++ ls) Showing)
more_shown ns d given shown [] h = ap (λ (ls : List Lit). plan_is (plan_at ns d given ls Showing)) (sym (append-nil shown))
more_shown ns d given shown (l ∷ ls) h =
    after_one (plan_at ns d given shown Showing) (plan_at ns d given (shown ++ l ∷ []) Showing) (raw.Show (raw_of ns l ∷ [])) (shown_lines ns ls) (shown_put ns d given shown l h.0).2
    ∙ more_shown ns d given (shown ++ l ∷ []) ls h.1 ∙ ap (λ (ks : List Lit). plan_is (plan_at ns d given ks Showing)) (append_assoc shown (l ∷ []) ls)

-- where the given literals end: none came, or some
abbrev place_after : List Lit → Place
place_after [] = Placing
place_after (l ∷ ls) = Giving

all_given : (ns : Names) (d : FigureView) (ls : List Lit) → AllByRecursion (IsReadLit ns) ls
    → after_lines (placing ns d) (given_lines ns ls) ≡ plan_is (plan_at ns d ls [] (place_after ls))
all_given ns d [] h = refl
all_given ns d (l ∷ ls) h =
    after_one (placing ns d) (plan_at ns d (l ∷ []) [] Giving) (raw.Given (raw_of ns l ∷ [])) (given_lines ns ls) (given_put ns d [] l h.0).0 ∙ more_given ns d (l ∷ []) ls h.1

first_shown : (ns : Names) (d : FigureView) (given : List Lit) (l : Lit) → IsReadLit ns l
    → plan_after_line (plan_at ns d given [] (place_after given)) (raw.Show (raw_of ns l ∷ [])) ≡ plan_is (plan_at ns d given (l ∷ []) Showing)
first_shown ns d [] l e = (shown_put ns d [] [] l e).0
first_shown ns d (g ∷ given) l e = (shown_put ns d (g ∷ given) [] l e).1

ends : (ns : Names) (d : FigureView) (given shown : List Lit) → plan_after_line (plan_at ns d given shown Showing) raw.End ≡ plan_is (plan_at ns d given shown Done)
unfolding plan_after_line
ends ns d given shown = refl

-- all literals, and the last line
pub literals_put : (ns : Names) (d : FigureView) (given : List Lit) (l : Lit) (ls : List Lit) → AllByRecursion (IsReadLit ns) given → AllByRecursion (IsReadLit ns) (l ∷ ls)
    → after_lines (placing ns d) (given_lines ns given ++ (shown_lines ns (l ∷ ls) ++ raw.End ∷ [])) ≡ plan_is (plan_at ns d given (l ∷ ls) Done)
literals_put ns d given l ls g h =
    let at = plan_at ns d given [] (place_after given) in
    let last = raw.End ∷ [] in
    after_front (placing ns d) at (given_lines ns given) (shown_lines ns (l ∷ ls) ++ last) (all_given ns d given g)
    ∙ after_one at (plan_at ns d given (l ∷ []) Showing) (raw.Show (raw_of ns l ∷ [])) (shown_lines ns ls ++ last) (first_shown ns d given l h.0)
    ∙ after_front (plan_at ns d given (l ∷ []) Showing) (plan_at ns d given (l ∷ ls) Showing) (shown_lines ns ls) last (more_shown ns d given (l ∷ []) ls h.1)
    ∙ after_one (plan_at ns d given (l ∷ ls) Showing) (plan_at ns d given (l ∷ ls) Done) raw.End [] (ends ns d given (l ∷ ls))

-- ---- the first line

pub begun : (ns : Names) (d : FigureView) → plan_after_line (plan_at ns d [] [] Start) raw.Figure ≡ plan_is (placing ns d)
unfolding plan_after_line
begun ns d = refl
