-- The lines that declare objects or made ones, one name after another.
use Rattle.std.proofs.Common.{◌≡◌, ℕ, zero, suc, ◌+◌, ◌<◌, ◌≤◌, Bool, true, false, cond, ltb, List, [], ◌∷◌, ◌++◌, length, take, map, Option, Some, None, Result, Ok, refl, sym, ap, subst, ◌∙◌, arith, append_assoc, length-append, length-take-le}
use Rattle.std.proofs.lemmas.Bool.{le-ltb, lt-ltb}
use Rattle.std.proofs.lemmas.List.{append-nil, take_all}
use Rattle.e_text.specs.Names.{is_name}
use Rattle.e_literal.specs.declared.object.Sort.{Sort}
use Rattle.e_literal.specs.declared.object.Sort.TheVariants.{Point, Line, Circle}
use Rattle.e_literal.specs.declared.object.Scope.{Scope}
use Rattle.e_literal.specs.Literal.{count_of}
use Rattle.e_literal.specs.Scopes.{same_sort, with_one, with_sorts, next_objects}
use Rattle.e_literal.proofs.Sorts.{same_sort_is}
use Rattle.e_literal.proofs.GrownScopes.{count_one}
use Rattle.e_deriv.specs.declared.names.Names.{Names}
use Rattle.e_line.specs.declared.fault.FaultKind.{FaultKind}
use Rattle.e_line.specs.declared.raw_line.RawLine.{RawLine}
use Rattle.e_book.specs.declared.parser.TheoremParser.{TheoremParser}
use Rattle.e_line.specs.Reading.{◌>>=◌}
use Rattle.e_line.specs.Limits.{most_of, what_of, within}
use Rattle.e_names.specs.TitledStatements.{TitledStatement}
use Rattle.e_deriv.specs.Naming.{names_of_sort, first_names}
use Rattle.e_names.specs.Scope.{scope_of_names, fresh}
use Rattle.e_book.specs.Steps.{with_declared, step, begin}
use Rattle.e_book.specs.Book.{is_done}
use Rattle.e_names.specs.Canonical.{name_at}
use Rattle.e_book.specs.Canonical.{Group, group, grouped_before, sort_groups}
use Rattle.e_line.specs.Names.{AreNames}
use Rattle.e_names.proofs.distinct_names.Differ.{apart_at, has_not_in_front, not_before}
use Rattle.e_names.proofs.read_lines.Building.{grows}
use Rattle.e_line.proofs.read_again.Respelled.{GoodForm, as_read}
use Rattle.e_names.proofs.resolution.Lookups.{InOrder, named_at}
use Rattle.e_names.proofs.distinct_names.NewNames.{same_fresh, plus, Free}

-- a form at its place: the first of a theorem, or one more
abbrev pub form_step : List TitledStatement → Option TheoremParser → RawLine → Result TheoremParser FaultKind
form_step known None f = begin known f
form_step known (Some d) f = step known d f

-- forms whose words are taken one after another
abbrev pub Runs : List TitledStatement → Option TheoremParser → List RawLine → Option TheoremParser → Type 0
Runs known s [] u = s ≡ u
Runs known s (f ∷ fs) u = (e : TheoremParser) × GoodForm f × (form_step known s (as_read f) ≡ Ok e) × (is_done e ≡ false) × Runs known (Some e) fs u

pub runs_append : (known : List TitledStatement) (s m u : Option TheoremParser) (fs gs : List RawLine) → Runs known s fs m → Runs known m gs u → Runs known s (fs ++ gs) u
runs_append known s m u [] gs a b = subst (λ (x : Option TheoremParser). Runs known x gs u) (sym a) b
runs_append known s m u (f ∷ fs) gs a b = (a.0, a.1, a.2, a.3, runs_append known (Some a.0) m u fs gs a.4 b)

-- ---- a name on a line of its own, or on the next line

fresh_joined : (ns : Names) (sort : Sort) (name : List ℕ) (more : List (List ℕ)) → Free ns name → fresh ns [] (name ∷ more) ≡ fresh (plus ns sort name) [] more
fresh_joined ns sort name more f =
    let one : fresh ns [] (name ∷ more) ≡ fresh ns (name ∷ []) more = rw (f.0, f.1, f.2) refl in
    one ∙ same_fresh ns sort name [] more

pub declared_one : (ns : Names) (sort : Sort) (name : List ℕ) → Free ns name → length (names_of_sort ns sort) + 1 ≤ most_of sort → with_declared ns sort (name ∷ []) ≡ Ok (plus ns sort name)
unfolding with_declared
declared_one ns sort name f few =
    let room : ltb (most_of sort) (length (names_of_sort ns sort) + length (name ∷ [])) ≡ false = le-ltb _ _ (omega (arith, few)) in
    rw (f.0, f.1, f.2, room) refl

abbrev answer : Result (Unit {0}) FaultKind → ℕ → Names → Sort → Result Names FaultKind
answer f n new sort = f >>= λ free. within n (most_of sort) (what_of sort) >>= λ few. Ok new

same_answer : (f g : Result (Unit {0}) FaultKind) (m n : ℕ) (v w : Names) (sort : Sort) → f ≡ g → m ≡ n → v ≡ w → answer f m v sort ≡ answer g n w sort
same_answer f g m n v w sort a b c =
    ap (λ (x : Result (Unit {0}) FaultKind). answer x m v sort) a ∙ ap (λ (k : ℕ). answer g k v sort) b ∙ ap (λ (x : Names). answer g n x sort) c

one_less : (xs more : List (List ℕ)) (name : List ℕ) → length xs + length (name ∷ more) ≡ length (xs ++ name ∷ []) + length more
one_less xs more name = omega (arith, length-append xs (name ∷ []))

pub declared_joined : (ns : Names) (sort : Sort) (name : List ℕ) (more : List (List ℕ)) → Free ns name → with_declared ns sort (name ∷ more) ≡ with_declared (plus ns sort name) sort more
unfolding with_declared
declared_joined ns Point name more f =
    same_answer (fresh ns [] (name ∷ more)) (fresh (plus ns Point name) [] more) (length ns.points + length (name ∷ more)) (length (ns.points ++ name ∷ []) + length more)
    (record ns { points = ns.points ++ name ∷ more }) (record ns { points = (ns.points ++ name ∷ []) ++ more }) Point (fresh_joined ns Point name more f) (one_less ns.points more name)
    (ap (λ (l : List (List ℕ)). record ns { points = l }) (sym (append_assoc ns.points (name ∷ []) more)))
declared_joined ns Line name more f =
    same_answer (fresh ns [] (name ∷ more)) (fresh (plus ns Line name) [] more) (length ns.lines + length (name ∷ more)) (length (ns.lines ++ name ∷ []) + length more)
    (record ns { lines = ns.lines ++ name ∷ more }) (record ns { lines = (ns.lines ++ name ∷ []) ++ more }) Line (fresh_joined ns Line name more f) (one_less ns.lines more name)
    (ap (λ (l : List (List ℕ)). record ns { lines = l }) (sym (append_assoc ns.lines (name ∷ []) more)))
declared_joined ns Circle name more f =
    same_answer (fresh ns [] (name ∷ more)) (fresh (plus ns Circle name) [] more) (length ns.circles + length (name ∷ more)) (length (ns.circles ++ name ∷ []) + length more)
    (record ns { circles = ns.circles ++ name ∷ more }) (record ns { circles = (ns.circles ++ name ∷ []) ++ more }) Circle (fresh_joined ns Circle name more f) (one_less ns.circles more name)
    (ap (λ (l : List (List ℕ)). record ns { circles = l }) (sym (append_assoc ns.circles (name ∷ []) more)))

-- ---- lines of names

-- a line with a name puts it after those of its sort, and a line with more names does what a name and the others do
pub record LinesOfNames (known : List TitledStatement) (say : Sort → List (List ℕ) → RawLine) (at : Names → List Sort → TheoremParser) : Type 0 where
  pub good : (sort : Sort) (n : List ℕ) (more : List (List ℕ)) → AreNames (n ∷ more) → GoodForm (say sort (n ∷ more))
  pub said : (sort : Sort) (names : List (List ℕ)) → GoodForm (say sort names) → AreNames names
  pub read : (sort : Sort) (names : List (List ℕ)) → as_read (say sort names) ≡ say sort names
  pub one : (ns : Names) (sorts : List Sort) (sort : Sort) (name : List ℕ) → Free ns name → length (names_of_sort ns sort) + 1 ≤ most_of sort
      → step known (at ns sorts) (say sort (name ∷ [])) ≡ Ok (at (plus ns sort name) (sorts ++ sort ∷ []))
  pub split : (ns : Names) (sorts : List Sort) (sort : Sort) (name : List ℕ) (more : List (List ℕ)) → Free ns name
      → step known (at ns sorts) (say sort (name ∷ more)) ≡ step known (at (plus ns sort name) (sorts ++ sort ∷ [])) (say sort more)
  pub going : (ns : Names) (sorts : List Sort) → is_done (at ns sorts) ≡ false

-- ---- one more name before the lines

-- what is known of a name that comes next
record Next (ns : Names) (sort : Sort) (name : List ℕ) : Type 0 where
  named : is_name name ≡ true
  free : Free ns name
  few : length (names_of_sort ns sort) + 1 ≤ most_of sort

abbrev pub says : (Sort → List (List ℕ) → RawLine) → Group → RawLine
says say g = say g.sort g.names

alone : (known : List TitledStatement) (say : Sort → List (List ℕ) → RawLine) (at : Names → List Sort → TheoremParser) (l : LinesOfNames known say at) (ns : Names) (sorts : List Sort) (sort : Sort) (name : List ℕ) (fs : List RawLine) (u : Option TheoremParser)
    → Next ns sort name → Runs known (Some (at (plus ns sort name) (sorts ++ sort ∷ []))) fs u → Runs known (Some (at ns sorts)) (say sort (name ∷ []) ∷ fs) u
alone known say at l ns sorts sort name fs u n r =
    let now = at (plus ns sort name) (sorts ++ sort ∷ []) in
    let taken : step known (at ns sorts) (as_read (say sort (name ∷ []))) ≡ Ok now = ap (step known (at ns sorts)) (l.read sort (name ∷ [])) ∙ l.one ns sorts sort name n.free n.few in
    (now, l.good sort name [] (n.named, tt), taken, l.going (plus ns sort name) (sorts ++ sort ∷ []), r)

together : (known : List TitledStatement) (say : Sort → List (List ℕ) → RawLine) (at : Names → List Sort → TheoremParser) (l : LinesOfNames known say at) (ns : Names) (sorts : List Sort) (sort s : Sort) (name : List ℕ) (more : List (List ℕ)) (fs : List RawLine) (u : Option TheoremParser)
    → Next ns sort name → sort ≡ s → Runs known (Some (at (plus ns sort name) (sorts ++ sort ∷ []))) (say s more ∷ fs) u → Runs known (Some (at ns sorts)) (say s (name ∷ more) ∷ fs) u
together known say at l ns sorts sort s name more fs u n e r =
    let now = at (plus ns sort name) (sorts ++ sort ∷ []) in
    let same : step known (at ns sorts) (say s (name ∷ more)) ≡ step known now (say s more) =
    subst (λ (x : Sort). step known (at ns sorts) (say x (name ∷ more)) ≡ step known now (say x more)) e (l.split ns sorts sort name more n.free) in
    let taken : step known (at ns sorts) (as_read (say s (name ∷ more))) ≡ Ok r.0 = ap (step known (at ns sorts)) (l.read s (name ∷ more)) ∙ same ∙ ap (step known now) (sym (l.read s more)) ∙ r.2 in
    (r.0, l.good s name more (n.named, l.said s more r.1), taken, r.3, r.4)

by_sort : (b : Bool) (known : List TitledStatement) (say : Sort → List (List ℕ) → RawLine) (at : Names → List Sort → TheoremParser) (l : LinesOfNames known say at) (ns : Names) (sorts : List Sort) (sort : Sort) (name : List ℕ) (g : Group) (gs : List Group) (u : Option TheoremParser)
    → Next ns sort name → same_sort sort g.sort ≡ b → Runs known (Some (at (plus ns sort name) (sorts ++ sort ∷ []))) (map (says say) (g ∷ gs)) u
    → Runs known (Some (at ns sorts)) (map (says say) (cond b (group g.sort (name ∷ g.names) ∷ gs) (group sort (name ∷ []) ∷ g ∷ gs))) u
by_sort true known say at l ns sorts sort name g gs u n e r = together known say at l ns sorts sort g.sort name g.names (map (says say) gs) u n (same_sort_is sort g.sort e) r
by_sort false known say at l ns sorts sort name g gs u n e r = alone known say at l ns sorts sort name (map (says say) (g ∷ gs)) u n r

run_before : (known : List TitledStatement) (say : Sort → List (List ℕ) → RawLine) (at : Names → List Sort → TheoremParser) (l : LinesOfNames known say at) (ns : Names) (sorts : List Sort) (sort : Sort) (name : List ℕ) (gs : List Group) (u : Option TheoremParser)
    → Next ns sort name → Runs known (Some (at (plus ns sort name) (sorts ++ sort ∷ []))) (map (says say) gs) u → Runs known (Some (at ns sorts)) (map (says say) (grouped_before sort name gs)) u
run_before known say at l ns sorts sort name [] u n r = alone known say at l ns sorts sort name [] u n r
run_before known say at l ns sorts sort name (g ∷ gs) u n r = by_sort (same_sort sort g.sort) known say at l ns sorts sort name g gs u n refl r

-- ---- all names

take_next : (xs : List (List ℕ)) (n : ℕ) → n < length xs → take n xs ++ name_at xs n ∷ [] ≡ take (suc n) xs
take_next [] n lt = absurd (omega arith)
take_next (x ∷ xs) zero lt = refl
take_next (x ∷ xs) (suc n) lt = ap (λ (l : List (List ℕ)). x ∷ l) (take_next xs n (omega arith))

take_one : (xs : List (List ℕ)) (n : ℕ) → n < length xs → take n xs ++ name_at xs n ∷ [] ≡ take (n + 1) xs
take_one xs n lt = let k : suc n ≡ n + 1 = omega arith in take_next xs n lt ∙ ap (λ (i : ℕ). take i xs) k

plus_first : (ns : Names) (s : Scope) (sort : Sort) → count_of s sort < count_of (scope_of_names ns) sort → plus (first_names s ns) sort (name_at (names_of_sort ns sort) (count_of s sort)) ≡ first_names (with_one s sort) ns
plus_first ns s Point lt = ap (λ (l : List (List ℕ)). record { points = l; lines = take s.lines ns.lines; circles = take s.circles ns.circles }) (take_one ns.points s.points lt)
plus_first ns s Line lt = ap (λ (l : List (List ℕ)). record { points = take s.points ns.points; lines = l; circles = take s.circles ns.circles }) (take_one ns.lines s.lines lt)
plus_first ns s Circle lt = ap (λ (l : List (List ℕ)). record { points = take s.points ns.points; lines = take s.lines ns.lines; circles = l }) (take_one ns.circles s.circles lt)

free_next : (ns : Names) (s : Scope) (sort : Sort) → InOrder ns → count_of s sort < count_of (scope_of_names ns) sort → Free (first_names s ns) (name_at (names_of_sort ns sort) (count_of s sort))
free_next ns s Point o lt =
    let name = name_at ns.points s.points in
    (not_before ns.points s.points o.points lt, has_not_in_front ns.lines s.lines name (apart_at ns.lines ns.points s.points o.no_line_point lt), has_not_in_front ns.circles s.circles name (apart_at ns.circles ns.points s.points o.no_circle_point lt))
free_next ns s Line o lt =
    let name = name_at ns.lines s.lines in
    (has_not_in_front ns.points s.points name (apart_at ns.points ns.lines s.lines o.no_point_line lt), not_before ns.lines s.lines o.lines lt, has_not_in_front ns.circles s.circles name (apart_at ns.circles ns.lines s.lines o.no_circle_line lt))
free_next ns s Circle o lt =
    let name = name_at ns.circles s.circles in
    (has_not_in_front ns.points s.points name (apart_at ns.points ns.circles s.circles o.no_point_circle lt), has_not_in_front ns.lines s.lines name (apart_at ns.lines ns.circles s.circles o.no_line_circle lt), not_before ns.circles s.circles o.circles lt)

-- the objects are within the limits
pub record Few (ns : Names) : Type 0 where
  pub points : length ns.points ≤ most_of Point
  pub lines : length ns.lines ≤ most_of Line
  pub circles : length ns.circles ≤ most_of Circle

room_next : (ns : Names) (s : Scope) (sort : Sort) → Few ns → count_of s sort < count_of (scope_of_names ns) sort → length (names_of_sort (first_names s ns) sort) + 1 ≤ most_of sort
room_next ns s Point f lt = omega (arith, lt, f.points, length-take-le s.points ns.points (omega (arith, lt)))
room_next ns s Line f lt = omega (arith, lt, f.lines, length-take-le s.lines ns.lines (omega (arith, lt)))
room_next ns s Circle f lt = omega (arith, lt, f.circles, length-take-le s.circles ns.circles (omega (arith, lt)))

next : (ns : Names) (s : Scope) (sort : Sort) → InOrder ns → Few ns → count_of s sort < count_of (scope_of_names ns) sort → Next (first_names s ns) sort (name_at (names_of_sort ns sort) (count_of s sort))
next ns s sort o f lt = record { named = named_at ns sort (count_of s sort) o (lt-ltb _ _ lt); free = free_next ns s sort o lt; few = room_next ns s sort f lt }

-- the lines of the objects from some scope on, after which more objects come
pub run_from : (known : List TitledStatement) (say : Sort → List (List ℕ) → RawLine) (at : Names → List Sort → TheoremParser) (l : LinesOfNames known say at) (ns : Names) (s : Scope) (before more after : List Sort) → InOrder ns → Few ns
    → with_sorts (with_sorts s more) after ≡ scope_of_names ns → Runs known (Some (at (first_names s ns) before)) (map (says say) (sort_groups ns (next_objects s more))) (Some (at (first_names (with_sorts s more) ns) (before ++ more)))
run_from known say at l ns s before [] after o f e = ap (λ (x : List Sort). Some (at (first_names s ns) x)) (sym (append-nil before))
run_from known say at l ns s before (sort ∷ more) after o f e =
    let first_grows = grows (with_one s sort) more sort in
    let more_grows = grows (with_sorts (with_one s sort) more) after sort in
    let final : count_of (with_sorts (with_sorts (with_one s sort) more) after) sort ≡ count_of (scope_of_names ns) sort = ap (λ (x : Scope). count_of x sort) e in
    let lt : count_of s sort < count_of (scope_of_names ns) sort = omega (arith, first_grows, more_grows, final, count_one s sort) in
    let name : List ℕ = name_at (names_of_sort ns sort) (count_of s sort) in
    let gs : List Group = sort_groups ns (next_objects (with_one s sort) more) in
    let u : Option TheoremParser = Some (at (first_names (with_sorts (with_one s sort) more) ns) (before ++ sort ∷ more)) in
    let rest = run_from known say at l ns (with_one s sort) (before ++ sort ∷ []) more after o f e in
    let last : Runs known (Some (at (first_names (with_one s sort) ns) (before ++ sort ∷ []))) (map (says say) gs) u =
    subst (λ (x : List Sort). Runs known (Some (at (first_names (with_one s sort) ns) (before ++ sort ∷ []))) (map (says say) gs) (Some (at (first_names (with_sorts (with_one s sort) more) ns) x))) (append_assoc before (sort ∷ []) more) rest in
    let first : Runs known (Some (at (plus (first_names s ns) sort name) (before ++ sort ∷ []))) (map (says say) gs) u =
    subst (λ (x : Names). Runs known (Some (at x (before ++ sort ∷ []))) (map (says say) gs) u) (sym (plus_first ns s sort lt)) last in
    run_before known say at l (first_names s ns) before sort name gs u (next ns s sort o f lt) first

pub all_first : (ns : Names) → first_names (scope_of_names ns) ns ≡ ns
all_first ns =
    ap (λ (l : List (List ℕ)). record { points = l; lines = take (length ns.lines) ns.lines; circles = take (length ns.circles) ns.circles }) (take_all (length ns.points) ns.points (omega arith))
    ∙ ap (λ (l : List (List ℕ)). record { points = ns.points; lines = l; circles = take (length ns.circles) ns.circles }) (take_all (length ns.lines) ns.lines (omega arith))
    ∙ ap (λ (l : List (List ℕ)). record { points = ns.points; lines = ns.lines; circles = l }) (take_all (length ns.circles) ns.circles (omega arith))
