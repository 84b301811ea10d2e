-- The literals of an instance over a scope are in scope and well formed.
use Rattle.std.proofs.Common.{◌≡◌, ℕ, zero, suc, ◌+◌, ◌<◌, ◌≤◌, List, [], ◌∷◌, ◌++◌, refl, sym, ap, ◌∙◌, subst, arith, Bool, true, false, cond, ◌&&◌, map, inl, inr, Some, None}
use Rattle.std.specs.Prelude.{◌-◌, slice_get, filter, nat_le, nat_lt, option_and_then}
use Rattle.std.specs.List.{list_all}
use Rattle.std.proofs.lemmas.Bool.{ltb-true, lt-ltb, cases_lt, and_from}
use Rattle.std.proofs.lemmas.List.Folds.{list_all-append}
use Rattle.std.proofs.lemmas.Option.{same_Some, none-some}
use Rattle.e_literal.specs.declared.object.Obj.{Obj}
use Rattle.e_literal.specs.declared.object.Scope.{Scope}
use Rattle.e_literal.specs.declared.object.Sort.{Sort}
use Rattle.e_literal.specs.declared.object.Sort.TheVariants.{Point, Line, Circle}
use Rattle.e_literal.specs.declared.object.Mono.{Mono}
use Rattle.e_literal.specs.declared.object.Term.{Term}
use Rattle.e_literal.specs.declared.object.Term.TheVariants.{Seg, Ang, Area, Right}
use Rattle.e_literal.specs.declared.literal.Lit.{Lit}
use Rattle.e_literal.specs.declared.literal.Atom.{Atom}
use Rattle.e_literal.specs.declared.literal.Atom.TheVariants.{On, OnC, Inside, Center, Between, Same, MeetLL, MeetLC, MeetCC, EqP, EqL, EqC, MagEq, MagLt}
use Rattle.e_literal.specs.Literal.{negation, obj, is_in_scope, count_of, objects_of_term, objects_of_sum, objects_of_atom, all_in_scope}
use Rattle.e_literal.specs.Rename.{term_at, mono_at, atom_at}
use Rattle.e_literal.specs.WellFormed.{is_well_formed_atom, is_well_formed}
use Rattle.e_literal.proofs.WithImages.{good_atom_stays}
use Rattle.e_literal.proofs.Booleans.{and_left, and_right}
use Rattle.e_clause.specs.Rows.{Row}
use Rattle.e_clause.specs.Instance.{Inst, instance_of_row, number, line_arg, circle_arg, lit_at, clause_of}
use Rattle.e_clause.specs.RuleKinds.{is_transfer}
use Rattle.e_clause.specs.Table.{table}
use Rattle.e_clause.specs.Table.Lengths.{lengths}
use Rattle.e_clause.specs.Table.Angles.{angles}
use Rattle.e_clause.proofs.Refuted.{option_split}
use Rattle.e_clause.proofs.Tables.{at_lengths, at_angles}
use Rattle.e_transfer.specs.GivenGoals.{needs_beside}
use Rattle.e_transfer.specs.inner.PartsOfChoices.{variable_sort}
use Rattle.e_transfer.proofs.Instances.{of_instance}
use Rattle.e_transfer.proofs.Plans.{AreOfRow, of_row, in_scope_at, sort_of_point, sort_of_line, sort_of_circle}

-- ---- each row names variables that it has, in well-formed literals

abbrev term_ok : Row → Term → Bool
term_ok r (Seg x y) = nat_lt x r.points && nat_lt y r.points
term_ok r (Ang x y z) = nat_lt x r.points && (nat_lt y r.points && nat_lt z r.points)
term_ok r (Area x y z) = nat_lt x r.points && (nat_lt y r.points && nat_lt z r.points)
term_ok r Right = true

abbrev sum_ok : Row → List Mono → Bool
sum_ok r ms = list_all (λ m. term_ok r m.term) ms

abbrev atom_ok : Row → Atom → Bool
atom_ok r (On x l) = nat_lt x r.points && nat_lt l r.lines
atom_ok r (OnC x c) = nat_lt x r.points && nat_lt c r.circles
atom_ok r (Inside x c) = nat_lt x r.points && nat_lt c r.circles
atom_ok r (Center x c) = nat_lt x r.points && nat_lt c r.circles
atom_ok r (Between x y z) = nat_lt x r.points && (nat_lt y r.points && nat_lt z r.points)
atom_ok r (Same x y l) = nat_lt x r.points && (nat_lt y r.points && nat_lt l r.lines)
atom_ok r (MeetLL l m) = nat_lt l r.lines && nat_lt m r.lines
atom_ok r (MeetLC l c) = nat_lt l r.lines && nat_lt c r.circles
atom_ok r (MeetCC c d) = nat_lt c r.circles && nat_lt d r.circles
atom_ok r (EqP x y) = nat_lt x r.points && nat_lt y r.points
atom_ok r (EqL l m) = nat_lt l r.lines && nat_lt m r.lines
atom_ok r (EqC c d) = nat_lt c r.circles && nat_lt d r.circles
atom_ok r (MagEq x y) = sum_ok r x && sum_ok r y
atom_ok r (MagLt x y) = sum_ok r x && sum_ok r y

abbrev lit_ok : Row → Lit → Bool
lit_ok r l = atom_ok r l.atom && is_well_formed_atom l.atom

abbrev row_ok : Row → Bool
row_ok r = list_all (lit_ok r) (clause_of r)

lengths_ok : list_all row_ok lengths ≡ true
unfolding lengths
lengths_ok = refl

angles_ok : list_all row_ok angles ≡ true
unfolding angles
angles_ok = refl

one_ok : (rows : List Row) (n : ℕ) (r : Row) → list_all row_ok rows ≡ true → slice_get rows n ≡ Some r → row_ok r ≡ true
one_ok [] n r all at = absurd (none-some r at)
one_ok (x ∷ xs) zero r all at = subst (λ y. row_ok y ≡ true) (same_Some x r at) (and_left (row_ok x) (list_all row_ok xs) all)
one_ok (x ∷ xs) (suc n) r all at = one_ok xs n r (and_right (row_ok x) (list_all row_ok xs) all) at

transfer_ok : (rule : ℕ) (r : Row) → is_transfer rule ≡ true → slice_get table rule ≡ Some r → row_ok r ≡ true
transfer_ok rule r transfer at =
    let low : 76 ≤ rule = ltb-true 75 rule (and_left (nat_le 76 rule) (nat_lt rule 105) transfer) in
    elim (cases_lt rule 89) [
      | inl below ↦ one_ok lengths (rule - 76) r lengths_ok (sym (at_lengths rule low below) ∙ at)
      | inr over ↦ one_ok angles (rule - 89) r angles_ok (sym (at_angles rule over) ∙ at)
    ]

-- ---- in scope

-- arguments of the row, in scope
record AreOver (r : Row) (scope : Scope) (args : List Obj) : Type 0 where
  of : AreOfRow r args
  over : list_all (is_in_scope scope) args ≡ true

number_in : (r : Row) (scope : Scope) (args : List Obj) (s : Sort) (v : ℕ) → AreOver r scope args → v < r.points + r.lines + r.circles → variable_sort r v ≡ s
    → is_in_scope scope (obj s (number args v)) ≡ true
number_in r scope args s v are less is =
    let below = in_scope_at r scope args v are.of are.over (let many = are.of.many in omega (arith, many, less)) in
    lt-ltb (number args v) (count_of scope s) (subst (λ x. number args v < count_of scope x) is below)

point_in : (r : Row) (scope : Scope) (args : List Obj) (x : ℕ) → AreOver r scope args → nat_lt x r.points ≡ true → is_in_scope scope (obj Point (number args x)) ≡ true
point_in r scope args x are ok =
    let less = ltb-true x r.points ok in number_in r scope args Point x are (omega (arith, less)) (sort_of_point r x less)

line_in : (r : Row) (scope : Scope) (args : List Obj) (l : ℕ) → AreOver r scope args → nat_lt l r.lines ≡ true → is_in_scope scope (obj Line (line_arg r args l)) ≡ true
line_in r scope args l are ok =
    let less = ltb-true l r.lines ok in
    number_in r scope args Line (r.points + l) are (omega (arith, less)) (sort_of_line r (r.points + l) (omega arith) (omega (arith, less)))

circle_in : (r : Row) (scope : Scope) (args : List Obj) (c : ℕ) → AreOver r scope args → nat_lt c r.circles ≡ true → is_in_scope scope (obj Circle (circle_arg r args c)) ≡ true
circle_in r scope args c are ok =
    let less = ltb-true c r.circles ok in
    number_in r scope args Circle (r.points + r.lines + c) are (omega (arith, less)) (sort_of_circle r (r.points + r.lines + c) (omega arith))

two_in : (a b : Bool) → a ≡ true → b ≡ true → (a && (b && true)) ≡ true
two_in a b h k = and_from a (b && true) h (and_from b true k refl)

three_in : (a b c : Bool) → a ≡ true → b ≡ true → c ≡ true → (a && (b && (c && true))) ≡ true
three_in a b c h k l = and_from a (b && (c && true)) h (two_in b c k l)

three_left : (a b c : Bool) → (a && (b && c)) ≡ true → (a ≡ true) × (b ≡ true) × (c ≡ true)
three_left a b c h = let rest = and_right a (b && c) h in (and_left a (b && c) h, and_left b c rest, and_right b c rest)

abbrev Within : Scope → List Obj → Type 0
Within scope os = list_all (is_in_scope scope) os ≡ true

term_in : (r : Row) (scope : Scope) (args : List Obj) → AreOver r scope args → (t : Term) → term_ok r t ≡ true → Within scope (objects_of_term (term_at (number args) t))
term_in r scope args are (Seg x y) ok =
    two_in _ _ (point_in r scope args x are (and_left _ _ ok)) (point_in r scope args y are (and_right _ _ ok))
term_in r scope args are (Ang x y z) ok =
    let p = three_left _ _ _ ok in three_in _ _ _ (point_in r scope args x are p.0) (point_in r scope args y are p.1) (point_in r scope args z are p.2)
term_in r scope args are (Area x y z) ok =
    let p = three_left _ _ _ ok in three_in _ _ _ (point_in r scope args x are p.0) (point_in r scope args y are p.1) (point_in r scope args z are p.2)
term_in r scope args are Right ok = refl

sum_in : (r : Row) (scope : Scope) (args : List Obj) → AreOver r scope args → (ms : List Mono) → sum_ok r ms ≡ true → Within scope (objects_of_sum (map (mono_at (number args)) ms))
sum_in r scope args are [] ok = refl
sum_in r scope args are (m ∷ ms) ok =
    list_all-append (is_in_scope scope) (objects_of_term (term_at (number args) m.term)) (objects_of_sum (map (mono_at (number args)) ms))
    ∙ and_from _ _ (term_in r scope args are m.term (and_left (term_ok r m.term) (sum_ok r ms) ok)) (sum_in r scope args are ms (and_right (term_ok r m.term) (sum_ok r ms) ok))

sums_in : (r : Row) (scope : Scope) (args : List Obj) → AreOver r scope args → (x y : List Mono) → (sum_ok r x && sum_ok r y) ≡ true
    → Within scope (objects_of_sum (map (mono_at (number args)) x) ++ objects_of_sum (map (mono_at (number args)) y))
sums_in r scope args are x y ok =
    list_all-append (is_in_scope scope) (objects_of_sum (map (mono_at (number args)) x)) (objects_of_sum (map (mono_at (number args)) y))
    ∙ and_from _ _ (sum_in r scope args are x (and_left (sum_ok r x) (sum_ok r y) ok)) (sum_in r scope args are y (and_right (sum_ok r x) (sum_ok r y) ok))

atom_in : (r : Row) (scope : Scope) (args : List Obj) → AreOver r scope args → (a : Atom) → atom_ok r a ≡ true
    → Within scope (objects_of_atom (atom_at (number args) (line_arg r args) (circle_arg r args) a))
atom_in r scope args are (On x l) ok = two_in _ _ (point_in r scope args x are (and_left _ _ ok)) (line_in r scope args l are (and_right _ _ ok))
atom_in r scope args are (OnC x c) ok = two_in _ _ (point_in r scope args x are (and_left _ _ ok)) (circle_in r scope args c are (and_right _ _ ok))
atom_in r scope args are (Inside x c) ok = two_in _ _ (point_in r scope args x are (and_left _ _ ok)) (circle_in r scope args c are (and_right _ _ ok))
atom_in r scope args are (Center x c) ok = two_in _ _ (point_in r scope args x are (and_left _ _ ok)) (circle_in r scope args c are (and_right _ _ ok))
atom_in r scope args are (Between x y z) ok =
    let p = three_left _ _ _ ok in three_in _ _ _ (point_in r scope args x are p.0) (point_in r scope args y are p.1) (point_in r scope args z are p.2)
atom_in r scope args are (Same x y l) ok =
    let p = three_left _ _ _ ok in three_in _ _ _ (point_in r scope args x are p.0) (point_in r scope args y are p.1) (line_in r scope args l are p.2)
atom_in r scope args are (MeetLL l m) ok = two_in _ _ (line_in r scope args l are (and_left _ _ ok)) (line_in r scope args m are (and_right _ _ ok))
atom_in r scope args are (MeetLC l c) ok = two_in _ _ (line_in r scope args l are (and_left _ _ ok)) (circle_in r scope args c are (and_right _ _ ok))
atom_in r scope args are (MeetCC c d) ok = two_in _ _ (circle_in r scope args c are (and_left _ _ ok)) (circle_in r scope args d are (and_right _ _ ok))
atom_in r scope args are (EqP x y) ok = two_in _ _ (point_in r scope args x are (and_left _ _ ok)) (point_in r scope args y are (and_right _ _ ok))
atom_in r scope args are (EqL l m) ok = two_in _ _ (line_in r scope args l are (and_left _ _ ok)) (line_in r scope args m are (and_right _ _ ok))
atom_in r scope args are (EqC c d) ok = two_in _ _ (circle_in r scope args c are (and_left _ _ ok)) (circle_in r scope args d are (and_right _ _ ok))
atom_in r scope args are (MagEq x y) ok = sums_in r scope args are x y ok
atom_in r scope args are (MagLt x y) ok = sums_in r scope args are x y ok

-- ---- what an instance needs

all_in : (r : Row) (scope : Scope) (args : List Obj) → AreOver r scope args → (ls : List Lit) → list_all (lit_ok r) ls ≡ true
    → list_all (all_in_scope scope) (map (lit_at r args) ls) ≡ true
all_in r scope args are [] ok = refl
all_in r scope args are (l ∷ ls) ok =
    let here = and_left (lit_ok r l) (list_all (lit_ok r) ls) ok in
    and_from _ _ (atom_in r scope args are l.atom (and_left (atom_ok r l.atom) (is_well_formed_atom l.atom) here))
    (all_in r scope args are ls (and_right (lit_ok r l) (list_all (lit_ok r) ls) ok))

all_well : (r : Row) (args : List Obj) (ls : List Lit) → list_all (lit_ok r) ls ≡ true → list_all is_well_formed (map (lit_at r args) ls) ≡ true
all_well r args [] ok = refl
all_well r args (l ∷ ls) ok =
    let here = and_left (lit_ok r l) (list_all (lit_ok r) ls) ok in
    and_from _ _ (good_atom_stays (number args) (line_arg r args) (circle_arg r args) l.atom ∙ and_right (atom_ok r l.atom) (is_well_formed_atom l.atom) here)
    (all_well r args ls (and_right (lit_ok r l) (list_all (lit_ok r) ls) ok))

with_one : (q : Lit → Bool) (l : Lit) (rest : List Lit) (b : Bool) → q (negation l) ≡ true → list_all q (map negation rest) ≡ true
    → list_all q (map negation (cond b (l ∷ rest) rest)) ≡ true
with_one q l rest true here all = and_from (q (negation l)) (list_all q (map negation rest)) here all
with_one q l rest false here all = all

-- what holds of a literal and its negation alike holds of the needs where it holds of the instance
of_needs : (q : Lit → Bool) → ((l : Lit) → q (negation l) ≡ q l) → (p : Lit → Bool) (ls : List Lit) → list_all q ls ≡ true
    → list_all q (map negation (filter p ls)) ≡ true
of_needs q alike p [] all = refl
of_needs q alike p (l ∷ ls) all =
    with_one q l (filter p ls) (p l) (alike l ∙ and_left (q l) (list_all q ls) all) (of_needs q alike p ls (and_right (q l) (list_all q ls) all))

pub record AreWellFormedNeeds (scope : Scope) (lits : List Lit) (goal : Lit) : Type 0 where
  pub well : list_all is_well_formed (needs_beside lits goal) ≡ true
  pub over : list_all (all_in_scope scope) (needs_beside lits goal) ≡ true

good_needs_of : (rule : ℕ) (r : Row) (scope : Scope) (args : List Obj) (lits : List Lit) (goal : Lit) → slice_get table rule ≡ Some r → is_transfer rule ≡ true
    → Inst rule args ≡ Some lits → list_all (is_in_scope scope) args ≡ true → AreWellFormedNeeds scope lits goal
good_needs_of rule r scope args lits goal at transfer instance over =
    let is = of_instance rule args r lits at instance in
    let ok = transfer_ok rule r transfer at in
    let are : AreOver r scope args = record { of = of_row r args is.0; over = over } in
    let well = ap (list_all is_well_formed) is.1 ∙ all_well r args (clause_of r) ok in
    let within = ap (list_all (all_in_scope scope)) is.1 ∙ all_in r scope args are (clause_of r) ok in
    record {
      well = of_needs is_well_formed (λ l. refl) _ lits well;
      over = of_needs (all_in_scope scope) (λ l. refl) _ lits within;
    }

some_row : (rule : ℕ) (args : List Obj) (lits : List Lit) → slice_get table rule ≡ None → Inst rule args ≡ Some lits → ⊥
unfolding Inst
some_row rule args lits none instance = none-some lits (sym (ap (option_and_then (λ x. instance_of_row x args)) none) ∙ instance)

-- what an instance of a transfer clause over a scope needs is in scope and well formed
pub good_needs : (rule : ℕ) (scope : Scope) (args : List Obj) (lits : List Lit) (goal : Lit) → is_transfer rule ≡ true → Inst rule args ≡ Some lits
    → list_all (is_in_scope scope) args ≡ true → AreWellFormedNeeds scope lits goal
good_needs rule scope args lits goal transfer instance over = elim (option_split (slice_get table rule)) [
  | inl none ↦ absurd (some_row rule args lits none instance)
  | inr (r, at) ↦ good_needs_of rule r scope args lits goal at transfer instance over
]
