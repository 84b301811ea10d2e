-- Each object of a figure has a name, and there is room for one more where a name was declared.
use Rattle.std.proofs.Common.{◌≡◌, ℕ, ◌+◌, ◌<◌, List, [], ◌∷◌, ◌++◌, length, Ok, ap, sym, ◌∙◌, arith, length-append}
use Rattle.e_literal.specs.declared.object.Scope.{Scope}
use Rattle.e_literal.specs.declared.object.Sort.{Sort}
use Rattle.e_literal.specs.declared.object.Sort.TheVariants as sorts
use Rattle.e_deriv.specs.declared.names.Names.{Names}
use Rattle.e_deriv.specs.Naming.{names_of_sort, with_names}
use Rattle.e_figure.specs.declared.figure.Point.{Point}
use Rattle.e_figure.specs.declared.figure.Straight.{Straight}
use Rattle.e_figure.specs.declared.figure.Round.{Round}
use Rattle.e_figure.specs.Figure.{with_point, with_line, with_circle}
use Rattle.e_line.specs.Limits.{most_of, what_of, within}
use Rattle.e_line.specs.Reading.{◌>>=◌}
use Rattle.e_names.specs.Scope.{fresh}
use Rattle.e_book.specs.LineLimits.{FewNamed}
use Rattle.e_book.specs.Steps.{with_declared}
use Rattle.e_line.proofs.base.Bound.{bind_ok, ok_is}
use Rattle.e_drawing.specs.declared.plan.Plan.{Plan}
use Rattle.e_drawing.specs.Plans.{FitsPlan}

declared_is : (ns after : Names) (sort : Sort) (new : List (List ℕ)) → with_declared ns sort new ≡ Ok after → after ≡ with_names ns sort (names_of_sort ns sort ++ new)
unfolding with_declared
declared_is ns after sort new e =
    let rest = within (length (names_of_sort ns sort) + length new) (most_of sort) (what_of sort) >>= (λ few. Ok (with_names ns sort (names_of_sort ns sort ++ new))) in
    let a = bind_ok (fresh ns [] new) (λ free. rest) after e in
    let b = bind_ok (within (length (names_of_sort ns sort) + length new) (most_of sort) (what_of sort)) (λ few. Ok (with_names ns sort (names_of_sort ns sort ++ new))) after a.2 in
    sym (ok_is (with_names ns sort (names_of_sort ns sort ++ new)) after b.2)

abbrev same_scope : ℕ → ℕ → ℕ → Scope
same_scope a b c = record { points = a; lines = b; circles = c }

scopes_alike : (a b c x y z : ℕ) → a ≡ x → b ≡ y → c ≡ z → same_scope a b c ≡ same_scope x y z
scopes_alike a b c x y z p q r = ap (λ n. same_scope n b c) p ∙ (ap (λ n. same_scope x n c) q ∙ ap (same_scope x y) r)

pub point_named : (p : Plan) (name : List ℕ) (ns : Names) (a : Point) → FitsPlan p → with_declared p.names sorts.Point (name ∷ []) ≡ Ok ns → FewNamed ns
    → (length p.figure.points < 40) × FitsPlan (record p { names = ns; figure = with_point p.figure a })
point_named p name ns a fit e few =
    let is = declared_is p.names ns sorts.Point (name ∷ []) e in
    let points = ap (λ (s : Scope). s.points) fit.named in
    let lines = ap (λ (s : Scope). s.lines) fit.named in
    let circles = ap (λ (s : Scope). s.circles) fit.named in
    let more : length ns.points ≡ length p.names.points + 1 = ap (λ (n : Names). length n.points) is ∙ length-append p.names.points (name ∷ []) in
    let s = scopes_alike (length (p.figure.points ++ a ∷ [])) (length p.figure.lines) (length p.figure.circles) (length ns.points) (length ns.lines) (length ns.circles)
    (omega (arith, length-append p.figure.points (a ∷ []), points, more)) (lines ∙ sym (ap (λ (n : Names). length n.lines) is)) (circles ∙ sym (ap (λ (n : Names). length n.circles) is)) in
    (omega (arith, points, more, few.points), record { few = few; named = s })

pub line_named : (p : Plan) (name : List ℕ) (ns : Names) (l : Straight) → FitsPlan p → with_declared p.names sorts.Line (name ∷ []) ≡ Ok ns → FewNamed ns
    → (length p.figure.lines < 24) × FitsPlan (record p { names = ns; figure = with_line p.figure l })
line_named p name ns l fit e few =
    let is = declared_is p.names ns sorts.Line (name ∷ []) e in
    let points = ap (λ (s : Scope). s.points) fit.named in
    let lines = ap (λ (s : Scope). s.lines) fit.named in
    let circles = ap (λ (s : Scope). s.circles) fit.named in
    let more : length ns.lines ≡ length p.names.lines + 1 = ap (λ (n : Names). length n.lines) is ∙ length-append p.names.lines (name ∷ []) in
    let s = scopes_alike (length p.figure.points) (length (p.figure.lines ++ l ∷ [])) (length p.figure.circles) (length ns.points) (length ns.lines) (length ns.circles)
    (points ∙ sym (ap (λ (n : Names). length n.points) is)) (omega (arith, length-append p.figure.lines (l ∷ []), lines, more)) (circles ∙ sym (ap (λ (n : Names). length n.circles) is)) in
    (omega (arith, lines, more, few.lines), record { few = few; named = s })

pub circle_named : (p : Plan) (name : List ℕ) (ns : Names) (c : Round) → FitsPlan p → with_declared p.names sorts.Circle (name ∷ []) ≡ Ok ns → FewNamed ns
    → (length p.figure.circles < 16) × FitsPlan (record p { names = ns; figure = with_circle p.figure c })
circle_named p name ns c fit e few =
    let is = declared_is p.names ns sorts.Circle (name ∷ []) e in
    let points = ap (λ (s : Scope). s.points) fit.named in
    let lines = ap (λ (s : Scope). s.lines) fit.named in
    let circles = ap (λ (s : Scope). s.circles) fit.named in
    let more : length ns.circles ≡ length p.names.circles + 1 = ap (λ (n : Names). length n.circles) is ∙ length-append p.names.circles (name ∷ []) in
    let s = scopes_alike (length p.figure.points) (length p.figure.lines) (length (p.figure.circles ++ c ∷ [])) (length ns.points) (length ns.lines) (length ns.circles)
    (points ∙ sym (ap (λ (n : Names). length n.points) is)) (lines ∙ sym (ap (λ (n : Names). length n.lines) is)) (omega (arith, length-append p.figure.circles (c ∷ []), circles, more)) in
    (omega (arith, circles, more, few.circles), record { few = few; named = s })
