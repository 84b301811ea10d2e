-- Names that are free.
use Rattle.std.proofs.Common.{◌≡◌, ℕ, ◌+◌, Bool, true, false, cond, ◌||◌, List, [], ◌∷◌, ◌++◌, Result, Err, refl, sym, ap, ◌∙◌}
use Rattle.std.specs.Str.{bytes_eq}
use mathlib.Core.Bool.{or-false}
use Rattle.e_literal.specs.declared.object.Sort.{Sort}
use Rattle.e_literal.specs.declared.object.Sort.TheVariants.{Point, Line, Circle}
use Rattle.e_deriv.specs.declared.names.Names.{Names}
use Rattle.e_line.specs.declared.fault.FaultKind.{FaultKind}
use Rattle.e_line.specs.declared.fault.FaultKind.TheVariants.{NameTaken}
use Rattle.e_deriv.specs.Naming.{names_of_sort, with_names}
use Rattle.e_names.specs.Scope.{is_among_names, is_taken, fresh}

-- with one name more
abbrev pub plus : Names → Sort → List ℕ → Names
plus ns sort name = with_names ns sort (names_of_sort ns sort ++ name ∷ [])

-- no object has this name
abbrev pub Free : Names → List ℕ → Type 0
Free ns n = (is_among_names ns.points n ≡ false) × (is_among_names ns.lines n ≡ false) × (is_among_names ns.circles n ≡ false)

-- ---- a name on a line of its own, or on the next line

or_assoc : (a b c : Bool) → (a || (b || c)) ≡ ((a || b) || c)
or_assoc true b c = refl
or_assoc false b c = refl

has_push : (xs : List (List ℕ)) (n m : List ℕ) → is_among_names (xs ++ n ∷ []) m ≡ (is_among_names xs m || bytes_eq n m)
has_push [] n m = or-false (bytes_eq n m)
has_push (x ∷ xs) n m = ap (λ b. bytes_eq x m || b) (has_push xs n m) ∙ or_assoc (bytes_eq x m) (is_among_names xs m) (bytes_eq n m)

in_points : (p l c q s : Bool) → (p || (l || (c || (q || s)))) ≡ ((p || q) || (l || (c || s)))
in_points true l c q s = refl
in_points false true c true s = refl
in_points false true c false s = refl
in_points false false true true s = refl
in_points false false true false s = refl
in_points false false false q s = refl

in_lines : (p l c q s : Bool) → (p || (l || (c || (q || s)))) ≡ (p || ((l || q) || (c || s)))
in_lines true l c q s = refl
in_lines false true c q s = refl
in_lines false false true true s = refl
in_lines false false true false s = refl
in_lines false false false q s = refl

in_circles : (p l c q s : Bool) → (p || (l || (c || (q || s)))) ≡ (p || (l || ((c || q) || s)))
in_circles p l c q s = ap (λ b. p || (l || b)) (or_assoc c q s)

same_taken : (ns : Names) (sort : Sort) (name : List ℕ) (seen : List (List ℕ)) (m : List ℕ) → is_taken ns (name ∷ seen) m ≡ is_taken (plus ns sort name) seen m
same_taken ns Point name seen m =
    in_points (is_among_names ns.points m) (is_among_names ns.lines m) (is_among_names ns.circles m) (bytes_eq name m) (is_among_names seen m) ∙ ap (λ b. b || (is_among_names ns.lines m || (is_among_names ns.circles m || is_among_names seen m))) (sym (has_push ns.points name m))
same_taken ns Line name seen m =
    in_lines (is_among_names ns.points m) (is_among_names ns.lines m) (is_among_names ns.circles m) (bytes_eq name m) (is_among_names seen m) ∙ ap (λ b. is_among_names ns.points m || (b || (is_among_names ns.circles m || is_among_names seen m))) (sym (has_push ns.lines name m))
same_taken ns Circle name seen m =
    in_circles (is_among_names ns.points m) (is_among_names ns.lines m) (is_among_names ns.circles m) (bytes_eq name m) (is_among_names seen m) ∙ ap (λ b. is_among_names ns.points m || (is_among_names ns.lines m || (b || is_among_names seen m))) (sym (has_push ns.circles name m))

abbrev taken_or : Bool → Result (Unit {0}) FaultKind → Result (Unit {0}) FaultKind
taken_or b r = cond b (Err NameTaken) r

pub same_fresh : (ns : Names) (sort : Sort) (name : List ℕ) (seen more : List (List ℕ)) → fresh ns (name ∷ seen) more ≡ fresh (plus ns sort name) seen more
same_fresh ns sort name seen [] = refl
same_fresh ns sort name seen (m ∷ more) =
    ap (λ (b : Bool). taken_or b (fresh ns (name ∷ (seen ++ m ∷ [])) more)) (same_taken ns sort name seen m)
    ∙ ap (λ (r : Result (Unit {0}) FaultKind). taken_or (is_taken (plus ns sort name) seen m) r) (same_fresh ns sort name (seen ++ m ∷ []) more)
