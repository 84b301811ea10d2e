-- The new names of what is left of a script fit: fewer names are in scope before a line, and none that was not there.
use Rattle.std.proofs.Common.{◌≡◌, ℕ, ◌+◌, ◌≤◌, List, [], ◌∷◌, ◌++◌, length, refl, sym, subst, ◌∙◌, arith, Bool, true, false, cond, Ok, Err, length-append, Result, ap}
use Rattle.std.proofs.lemmas.Bool.{or_parts, le-ltb}
use Rattle.std.proofs.lemmas.List.Folds.{list_any-append}
use Rattle.std.specs.Str.{bytes_eq}
use Rattle.e_literal.specs.declared.object.Sort.{Sort}
use Rattle.e_literal.specs.declared.object.Sort.TheVariants.{Point, Line, Circle}
use Rattle.e_literal.specs.declared.object.Obj.{Obj}
use Rattle.e_literal.specs.declared.object.Scope.{Scope}
use Rattle.e_literal.specs.declared.literal.Lit.{Lit}
use Rattle.e_literal.specs.Literal.{negation}
use Rattle.e_literal.specs.Facts.{with_fact, with_facts}
use Rattle.e_literal.specs.Scopes.{with_sorts, next_objects}
use Rattle.e_literal.specs.Use.{StatementView}
use Rattle.e_construct.specs.Construct.{sorts_made, gives_of_construction}
use Rattle.e_construct.specs.Superposing as superposing
use Rattle.e_deriv.specs.declared.names.Names.{Names}
use Rattle.e_deriv.specs.Naming.{with_names, with_new_names}
use Rattle.e_deriv.specs.Script.{Script, Cite, Hence, Make, Apply, Claim, Superposed, Qed, Contradiction, Cases, bare_script}
use Rattle.e_deriv.specs.Goal.{Goal, goal_of}
use Rattle.e_deriv.specs.PlacedSteps.{theorem_at}
use Rattle.e_line.specs.declared.fault.FaultKind.{FaultKind}
use Rattle.e_line.specs.declared.fault.FaultKind.TheVariants.{NameTaken}
use Rattle.e_line.specs.declared.fault.What.{What}
use Rattle.e_line.specs.declared.fault.What.TheVariants as limits
use Rattle.e_line.specs.Limits.{most_of, within}
use Rattle.e_book.specs.LineLimits.{few_objects}
use Rattle.e_line.specs.Reading.{◌>>=◌}
use Rattle.e_names.specs.Scope.{is_among_names, is_taken, fresh}
use Rattle.e_book.specs.Fits.{NewNamesFit}
use Rattle.e_book.proofs.parsers.Answered.{within_ok}
use Rattle.e_names.proofs.distinct_names.Distinct.{passed, untaken}
use Rattle.e_line.proofs.base.Bound.{bind_ok}
use Rattle.e_trim.specs.Trimmed.{joins_at, is_kept, wants, trimmed_from}

-- ---- fewer names

-- the first names are no more, and none that is not among the second
pub record Part (xs ys : List (List ℕ)) : Type 0 where
  without : (n : List ℕ) → is_among_names ys n ≡ false → is_among_names xs n ≡ false
  short : length xs ≤ length ys

part_own : (xs : List (List ℕ)) → Part xs xs
part_own xs = record { without = λ n h. h; short = omega arith }

-- one name more is there
part_wide : (xs ys : List (List ℕ)) (n : List ℕ) → Part xs ys → Part xs (ys ++ n ∷ [])
part_wide xs ys n p = record {
  without = λ m h. p.without m (or_parts (is_among_names ys m) (is_among_names (n ∷ []) m) (sym (list_any-append (λ x. bytes_eq x m) ys (n ∷ [])) ∙ h)).0;
  short = omega (arith, p.short, length-append ys (n ∷ []));
}

-- the same comes to both
part_both : (xs ys : List (List ℕ)) (n : List ℕ) → Part xs ys → Part (xs ++ n ∷ []) (ys ++ n ∷ [])
part_both xs ys n p = record {
  without = λ m h.
      let q = or_parts (is_among_names ys m) (is_among_names (n ∷ []) m) (sym (list_any-append (λ x. bytes_eq x m) ys (n ∷ [])) ∙ h) in
      list_any-append (λ x. bytes_eq x m) xs (n ∷ []) ∙ rw (p.without m q.0, q.1) refl;
  short = omega (arith, p.short, length-append xs (n ∷ []), length-append ys (n ∷ []));
}

pub record Fewer (less ns : Names) : Type 0 where
  points : Part less.points ns.points
  lines : Part less.lines ns.lines
  circles : Part less.circles ns.circles

pub fewer_own : (ns : Names) → Fewer ns ns
fewer_own ns = record { points = part_own ns.points; lines = part_own ns.lines; circles = part_own ns.circles }

-- the names of a step that is not kept
wider : (less ns : Names) (sorts : List Sort) (names : List (List ℕ)) → Fewer less ns → Fewer less (with_new_names ns sorts names)
wider less ns [] names f = f
wider less ns (x ∷ sorts) [] f = f
wider less ns (Point ∷ sorts) (n ∷ names) f = wider less (with_names ns Point (ns.points ++ n ∷ [])) sorts names (record { points = part_wide less.points ns.points n f.points; lines = f.lines; circles = f.circles })
wider less ns (Line ∷ sorts) (n ∷ names) f = wider less (with_names ns Line (ns.lines ++ n ∷ [])) sorts names (record { points = f.points; lines = part_wide less.lines ns.lines n f.lines; circles = f.circles })
wider less ns (Circle ∷ sorts) (n ∷ names) f = wider less (with_names ns Circle (ns.circles ++ n ∷ [])) sorts names (record { points = f.points; lines = f.lines; circles = part_wide less.circles ns.circles n f.circles })

-- and those of one that is
both_named : (less ns : Names) (sorts : List Sort) (names : List (List ℕ)) → Fewer less ns → Fewer (with_new_names less sorts names) (with_new_names ns sorts names)
both_named less ns [] names f = f
both_named less ns (x ∷ sorts) [] f = f
both_named less ns (Point ∷ sorts) (n ∷ names) f =
    both_named (with_names less Point (less.points ++ n ∷ [])) (with_names ns Point (ns.points ++ n ∷ [])) sorts names (record { points = part_both less.points ns.points n f.points; lines = f.lines; circles = f.circles })
both_named less ns (Line ∷ sorts) (n ∷ names) f =
    both_named (with_names less Line (less.lines ++ n ∷ [])) (with_names ns Line (ns.lines ++ n ∷ [])) sorts names (record { points = f.points; lines = part_both less.lines ns.lines n f.lines; circles = f.circles })
both_named less ns (Circle ∷ sorts) (n ∷ names) f =
    both_named (with_names less Circle (less.circles ++ n ∷ [])) (with_names ns Circle (ns.circles ++ n ∷ [])) sorts names (record { points = f.points; lines = f.lines; circles = part_both less.circles ns.circles n f.circles })

-- ---- what is free among more names is free among fewer

still_fresh : (less ns : Names) (seen names : List (List ℕ)) → Fewer less ns → fresh ns seen names ≡ Ok tt → fresh less seen names ≡ Ok tt
still_fresh less ns seen [] f h = refl
still_fresh less ns seen (n ∷ names) f h =
    let p = passed (is_taken ns seen n) (fresh ns (seen ++ n ∷ []) names) tt h in
    let t = untaken ns seen n p.0 in
    let free : is_taken less seen n ≡ false = rw (f.points.without n t.points, f.lines.without n t.lines, f.circles.without n t.circles, t.among) refl in
    let later = still_fresh less ns (seen ++ n ∷ []) names f p.1 in
    subst (λ (b : Bool). cond b (Err NameTaken) (fresh less (seen ++ n ∷ []) names) ≡ Ok tt) (sym free) later

-- ---- fewer objects are few

still_within : (m n most : ℕ) (what : What) (u : Unit {0}) → m ≤ n → within n most what ≡ Ok u → within m most what ≡ Ok tt
still_within m n most what u le h = rw (le-ltb most m (omega (arith, le, within_ok n most what u h))) refl

still_few : (less ns : Names) → Fewer less ns → few_objects ns ≡ Ok tt → few_objects less ≡ Ok tt
unfolding few_objects
still_few less ns f h =
    let p = bind_ok (within (length ns.points) (most_of Point) limits.Points) (λ points. within (length ns.lines) (most_of Line) limits.Lines >>= λ lines. within (length ns.circles) (most_of Circle) limits.Circles) tt h in
    let l = bind_ok (within (length ns.lines) (most_of Line) limits.Lines) (λ lines. within (length ns.circles) (most_of Circle) limits.Circles) tt p.2 in
    let a = still_within (length less.points) (length ns.points) (most_of Point) limits.Points p.0 f.points.short p.1 in
    let b = still_within (length less.lines) (length ns.lines) (most_of Line) limits.Lines l.0 f.lines.short l.1 in
    let c = still_within (length less.circles) (length ns.circles) (most_of Circle) limits.Circles tt f.circles.short l.2 in
    ap (λ (r : Result (Unit {0}) FaultKind). r >>= λ points. within (length less.lines) (most_of Line) limits.Lines >>= λ lines. within (length less.circles) (most_of Circle) limits.Circles) a
    ∙ ap (λ (r : Result (Unit {0}) FaultKind). r >>= λ lines. within (length less.circles) (most_of Circle) limits.Circles) b ∙ c

-- ---- the script

-- whichever of the two is left
either : (P : Script → Type 0) (b : Bool) (x y : Script) → P x → P y → P (cond b x y)
either P true x y h k = h
either P false x y h k = k

pub names_left : (before : List StatementView) (d : Script) (kept : List Obj) (s : Scope) (facts : List Lit) (goal : Goal) (less ns : Names) → Fewer less ns
    → NewNamesFit before ns (bare_script d) → NewNamesFit before less (bare_script (trimmed_from before kept d s facts goal))
unfolding trimmed_from bare_script NewNamesFit
names_left before (Cite by rest) kept s facts goal less ns f h =
    let r = names_left before rest kept s (with_fact facts by.lit) goal less ns f h in
    either (λ x. NewNamesFit before less (bare_script x)) (is_kept before (Cite by rest) s facts (wants before rest s (with_fact facts by.lit) goal)) _ _ r r
names_left before (Hence lit cert rest) kept s facts goal less ns f h =
    let r = names_left before rest kept s (with_fact facts lit) goal less ns f h in
    either (λ x. NewNamesFit before less (bare_script x)) (is_kept before (Hence lit cert rest) s facts (wants before rest s (with_fact facts lit) goal)) _ _ r r
names_left before (Make construction names certs rest) kept s facts goal less ns f h =
    let after = with_facts facts (gives_of_construction construction s) in
    let wide = with_sorts s (sorts_made construction) in
    let both = both_named less ns (sorts_made construction) names f in
    either (λ x. NewNamesFit before less (bare_script x)) (is_kept before (Make construction names certs rest) s facts (wants before rest wide after goal)) _ _
    (still_fresh less ns [] names f h.0, h.1, still_few (with_new_names less (sorts_made construction) names) (with_new_names ns (sorts_made construction) names) both h.2, names_left before rest (kept ++ next_objects s (sorts_made construction)) wide after goal (with_new_names less (sorts_made construction) names) (with_new_names ns (sorts_made construction) names) both h.3)
    (names_left before rest kept wide after goal less (with_new_names ns (sorts_made construction) names) (wider less ns (sorts_made construction) names f) h.3)
names_left before (Apply theorem args names certs rest) kept s facts goal less ns f h =
    let here = Apply theorem args names certs rest in
    let new = (theorem_at before theorem).made in
    let after = with_facts facts (joins_at before here s) in
    let wide = with_sorts s new in
    let both = both_named less ns new names f in
    either (λ x. NewNamesFit before less (bare_script x)) (is_kept before here s facts (wants before rest wide after goal)) _ _
    (still_fresh less ns [] names f h.0, h.1, still_few (with_new_names less new names) (with_new_names ns new names) both h.2, names_left before rest (kept ++ next_objects s new) wide after goal (with_new_names less new names) (with_new_names ns new names) both h.3)
    (names_left before rest kept wide after goal less (with_new_names ns new names) (wider less ns new names f) h.3)
names_left before (Claim shown inner rest) kept s facts goal less ns f h =
    let r = names_left before rest kept s (with_facts facts shown) goal less ns f h.1 in
    either (λ x. NewNamesFit before less (bare_script x)) (is_kept before (Claim shown inner rest) s facts (wants before rest s (with_facts facts shown) goal)) _ _ (names_left before inner kept s facts (goal_of shown) less ns f h.0, r) r
names_left before (Superposed superposition names shown certs inner rest) kept s facts goal less ns f h =
    let r = names_left before rest kept s (with_facts facts shown) goal less ns f h.4 in
    let kind = with_facts facts (superposing.gives_of_superposition superposition s) in
    let both = both_named less ns superposing.sorts_copied names f in
    either (λ x. NewNamesFit before less (bare_script x)) (is_kept before (Superposed superposition names shown certs inner rest) s facts (wants before rest s (with_facts facts shown) goal)) _ _ (
      still_fresh less ns [] names f h.0,
      h.1,
      still_few (with_new_names less superposing.sorts_copied names) (with_new_names ns superposing.sorts_copied names) both h.2,
      names_left before inner (kept ++ next_objects s superposing.sorts_copied) (with_sorts s superposing.sorts_copied) kind (goal_of shown) (with_new_names less superposing.sorts_copied names) (with_new_names ns superposing.sorts_copied names) both h.3,
      r,
    )
    r
names_left before (Qed objects certs) kept s facts goal less ns f h = tt
names_left before (Contradiction against) kept s facts goal less ns f h = tt
names_left before (Cases lit first second) kept s facts goal less ns f h =
    (names_left before first kept s (with_fact facts lit) goal less ns f h.0, names_left before second kept s (with_fact facts (negation lit)) goal less ns f h.1)
