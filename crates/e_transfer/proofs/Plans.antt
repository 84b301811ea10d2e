-- A plan reaches each instance whose arguments agree with the bindings.
use Rattle.std.proofs.Common.{◌≡◌, ℕ, zero, suc, ◌+◌, ◌-◌, ◌<◌, ◌≤◌, List, [], ◌∷◌, refl, sym, ap, ◌∙◌, subst, arith, Bool, true, ◌&&◌, eqb, get_or, length, map, take, drop, inl, inr, eqb-true}
use Rattle.std.specs.Prelude.{IsTrue, nat_lt}
use Rattle.std.specs.List.{list_all}
use Rattle.std.proofs.lemmas.Bool.{ltb-true, lt-ltb, le-ltb, cases_lt, and_from}
use Rattle.std.proofs.lemmas.List.{length-map}
use Rattle.e_literal.specs.declared.object.Obj.{Obj}
use Rattle.e_literal.specs.declared.object.Scope.{Scope}
use Rattle.e_literal.specs.declared.object.Sort.{Sort}
use Rattle.e_literal.specs.declared.object.Sort.TheVariants.{Point, Line, Circle}
use Rattle.e_literal.specs.Literal.{obj, count_of, is_in_scope}
use Rattle.e_literal.proofs.Sorts.{same_sort_is}
use Rattle.e_literal.proofs.Booleans.{and_left, and_right}
use Rattle.e_clause.specs.Rows.{Row}
use Rattle.e_clause.specs.Instance.{same_sort, all_of, arguments_fit, number}
use Rattle.e_transfer.specs.declared.plan.Plan.{Plan}
use Rattle.e_transfer.specs.declared.unify.Binding.{Binding}
use Rattle.e_transfer.specs.declared.unify.Binding.TheVariants as binding
use Rattle.e_transfer.specs.declared.walk.Span.{Span}
use Rattle.e_transfer.specs.Choice.{FitsSpans}
use Rattle.e_transfer.specs.inner.Bindings.{binding_agrees, binding_at, BindingsAgree}
use Rattle.e_transfer.specs.inner.PartsOfChoices.{variable_sort, arguments_from, chosen_arguments, ready_at_of}
use Rattle.e_transfer.specs.inner.Plans.{total_of, RepresentativesAre, OrderIs, PositionsAre, variable_span, plan_spans, IsPlanFor}

-- ---- the arguments, one by one

abbrev pub nothing : Obj
nothing = obj Point 0

at_front : (p : Obj → Bool) (n : ℕ) (xs : List Obj) (v : ℕ) → list_all p (take n xs) ≡ true → v < n → v < length xs → p (get_or xs v nothing) ≡ true
at_front p zero xs v h less here = absurd (omega (arith, less))
at_front p (suc n) [] v h less here = absurd (omega (arith, here))
at_front p (suc n) (x ∷ xs) zero h less here = and_left (p x) (list_all p (take n xs)) h
at_front p (suc n) (x ∷ xs) (suc v) h less here = at_front p n xs v (and_right (p x) (list_all p (take n xs)) h) (omega (arith, less)) (omega (arith, here))

at_any : (p : Obj → Bool) (xs : List Obj) (v : ℕ) → list_all p xs ≡ true → v < length xs → p (get_or xs v nothing) ≡ true
at_any p [] v h here = absurd (omega (arith, here))
at_any p (x ∷ xs) zero h here = and_left (p x) (list_all p xs) h
at_any p (x ∷ xs) (suc v) h here = at_any p xs v (and_right (p x) (list_all p xs) h) (omega (arith, here))

dropped : (n : ℕ) (xs : List Obj) (v : ℕ) → get_or (drop n xs) v nothing ≡ get_or xs (n + v) nothing
dropped zero xs v = ap (λ k. get_or xs k nothing) (omega arith)
dropped (suc n) [] v = refl
dropped (suc n) (x ∷ xs) v = let e : suc n + v ≡ suc (n + v) = omega arith in dropped n xs v ∙ sym (ap (λ k. get_or (x ∷ xs) k nothing) e)

length_dropped : (n : ℕ) (xs : List Obj) (v : ℕ) → n + v < length xs → v < length (drop n xs)
length_dropped zero xs v less = omega (arith, less)
length_dropped (suc n) [] v less = absurd (omega (arith, less))
length_dropped (suc n) (x ∷ xs) v less = length_dropped n xs v (omega (arith, less))

-- the sorts of the arguments of an instance are those of the variables
pub record AreOfRow (r : Row) (args : List Obj) : Type 0 where
  pub many : length args ≡ total_of r
  pub front : all_of Point (take r.points args) ≡ true
  pub middle : all_of Line (take r.lines (drop r.points args)) ≡ true
  pub back : all_of Circle (drop (r.points + r.lines) args) ≡ true

pub of_row : (r : Row) (args : List Obj) → arguments_fit r args ≡ true → AreOfRow r args
of_row r args h =
    let a = eqb (length args) (r.points + r.lines + r.circles) in
    let b = all_of Point (take r.points args) in
    let c = all_of Line (take r.lines (drop r.points args)) in
    let d = all_of Circle (drop (r.points + r.lines) args) in
    let rest = and_right a (b && (c && d)) h in
    let last = and_right b (c && d) rest in
    record { many = eqb-true _ _ (and_left a (b && (c && d)) h); front = and_left b (c && d) rest; middle = and_left c d last; back = and_right c d last }

pub sort_of_point : (r : Row) (v : ℕ) → v < r.points → variable_sort r v ≡ Point
sort_of_point r v less = rw (lt-ltb v r.points less) refl

pub sort_of_line : (r : Row) (v : ℕ) → r.points ≤ v → v < r.points + r.lines → variable_sort r v ≡ Line
sort_of_line r v over less = rw (le-ltb v r.points over, lt-ltb v (r.points + r.lines) less) refl

pub sort_of_circle : (r : Row) (v : ℕ) → r.points + r.lines ≤ v → variable_sort r v ≡ Circle
sort_of_circle r v over = let points : r.points ≤ v = omega (arith, over) in rw (le-ltb v r.points points, le-ltb v (r.points + r.lines) over) refl

sort_at : (r : Row) (args : List Obj) (v : ℕ) → AreOfRow r args → v < length args → (get_or args v nothing).sort ≡ variable_sort r v
sort_at r args v of less = elim (cases_lt v r.points) [
  | inl point ↦ same_sort_is _ Point (at_front (λ o. same_sort o.sort Point) r.points args v of.front point less) ∙ sym (sort_of_point r v point)
  | inr over ↦ elim (cases_lt v (r.points + r.lines)) [
    | inl line ↦ (let k = v - r.points in
        let at : r.points + k ≡ v = omega (arith, over) in
        let here : k < length (drop r.points args) = length_dropped r.points args k (omega (arith, at, less)) in
        let passes = at_front (λ o. same_sort o.sort Line) r.lines (drop r.points args) k of.middle (omega (arith, at, line)) here in
        same_sort_is _ Line (subst (λ o. same_sort o.sort Line ≡ true) (dropped r.points args k ∙ ap (λ n. get_or args n nothing) at) passes) ∙ sym (sort_of_line r v over line))
    | inr beyond ↦ (let n = r.points + r.lines in
        let k = v - n in
        let at : n + k ≡ v = omega (arith, beyond) in
        let here : k < length (drop n args) = length_dropped n args k (omega (arith, at, less)) in
        let passes = at_any (λ o. same_sort o.sort Circle) (drop n args) k of.back here in
        same_sort_is _ Circle (subst (λ o. same_sort o.sort Circle ≡ true) (dropped n args k ∙ ap (λ m. get_or args m nothing) at) passes) ∙ sym (sort_of_circle r v beyond))
  ]
]

number_at : (args : List Obj) (v : ℕ) → v < length args → number args v ≡ (get_or args v nothing).num
number_at [] v less = absurd (omega (arith, less))
number_at (o ∷ args) zero less = refl
number_at (o ∷ args) (suc v) less = number_at args v (omega (arith, less))

pub in_scope_at : (r : Row) (scope : Scope) (args : List Obj) (v : ℕ) → AreOfRow r args → list_all (is_in_scope scope) args ≡ true → v < length args
    → number args v < count_of scope (variable_sort r v)
in_scope_at r scope args v of over less =
    let below = ltb-true _ _ (at_any (is_in_scope scope) args v over less) in
    subst (λ n. n < count_of scope (variable_sort r v)) (sym (number_at args v less)) (subst (λ s. (get_or args v nothing).num < count_of scope s) (sort_at r args v of less) below)

-- ---- the choice of the arguments' numbers in the order of the search

in_span : (count n v : ℕ) (f : ℕ → ℕ) (t : Binding) → f v ≡ n → n < count → binding_agrees f v t ≡ true → ((variable_span count t).from ≤ n) × (n < (variable_span count t).to)
in_span count n v f binding.Free is less agree = (omega arith, less)
in_span count n v f (binding.As w) is less agree = (omega arith, less)
in_span count n v f (binding.Is m) is less agree =
    let e : m ≡ n = sym (eqb-true (f v) m agree) ∙ is in
    let bound : nat_lt m count ≡ true = lt-ltb m count (omega (arith, e, less)) in
    rw bound (omega (arith, e), omega (arith, e))

fits_spans : (r : Row) (scope : Scope) (bindings : List Binding) (args : List Obj) (order : List ℕ) → AreOfRow r args → list_all (is_in_scope scope) args ≡ true → BindingsAgree (number args) bindings
    → list_all (λ v. nat_lt v (length args)) order ≡ true → FitsSpans (plan_spans r scope bindings order) (map (number args) order)
fits_spans r scope bindings args [] of over agree below = tt
fits_spans r scope bindings args (v ∷ order) of over agree below =
    let rest = list_all (λ u. nat_lt u (length args)) order in
    let less = ltb-true v (length args) (and_left (nat_lt v (length args)) rest below) in
    let in_it = in_span (count_of scope (variable_sort r v)) (number args v) v (number args) (binding_at bindings v) refl (in_scope_at r scope args v of over less) (agree v) in
    (in_it.0, in_it.1, fits_spans r scope bindings args order of over agree (and_right (nat_lt v (length args)) rest below))

chosen_at : (f : ℕ → ℕ) (order : List ℕ) (p : ℕ) → p < length order → get_or (map f order) p 0 ≡ f (get_or order p 0)
chosen_at f [] p less = absurd (omega (arith, less))
chosen_at f (v ∷ order) zero less = refl
chosen_at f (v ∷ order) (suc p) less = chosen_at f order p (omega (arith, less))

-- arguments that have the sort and the number of each
are_arguments : (r : Row) (c : List ℕ) (k : ℕ) (positions : List ℕ) (args : List Obj) → length positions ≡ length args
    → ((i : ℕ) → i < length args → obj (variable_sort r (k + i)) (get_or c (get_or positions i 0) 0) ≡ get_or args i nothing) → arguments_from r c k positions ≡ args
are_arguments r c k [] [] many each = refl
are_arguments r c k [] (o ∷ args) many each = absurd (omega (arith, many))
are_arguments r c k (p ∷ positions) [] many each = absurd (omega (arith, many))
are_arguments r c k (p ∷ positions) (o ∷ args) many each =
    let first : k + 0 ≡ k = omega arith in
    let here : obj (variable_sort r k) (get_or c p 0) ≡ o = ap (λ n. obj (variable_sort r n) (get_or c p 0)) (sym first) ∙ each 0 (omega arith) in
    let later = are_arguments r c (k + 1) positions args (omega (arith, many))
    (λ i less. (let next : k + 1 + i ≡ k + suc i = omega arith in ap (λ n. obj (variable_sort r n) (get_or c (get_or positions i 0) 0)) next ∙ each (suc i) (omega (arith, less)))) in
    ap (λ x. x ∷ arguments_from r c (k + 1) positions) here ∙ ap (λ xs. o ∷ xs) later

object_is : (o : Obj) (s : Sort) (n : ℕ) → s ≡ o.sort → n ≡ o.num → obj s n ≡ o
object_is o s n e k = ap (λ x. obj x n) e ∙ ap (λ m. obj o.sort m) k

abbrev Reaches : Row → Scope → List Binding → List ℕ → List Span → Type 0
Reaches r scope bindings positions spans =
    (args : List Obj) → IsTrue (arguments_fit r args) → IsTrue (list_all (is_in_scope scope) args) → BindingsAgree (number args) bindings
    → (c : List ℕ) × FitsSpans spans c × (chosen_arguments r positions c ≡ args)

reaches : (r : Row) (scope : Scope) (bindings : List Binding) (representatives order positions : List ℕ) → length bindings ≡ total_of r → RepresentativesAre bindings representatives → OrderIs (length bindings) representatives order
    → PositionsAre representatives order positions → Reaches r scope bindings positions (plan_spans r scope bindings order)
reaches r scope bindings representatives order positions total are ordered placed args fit over agree =
    let of = of_row r args fit in
    let many : length bindings ≡ length args = total ∙ sym of.many in
    let f = number args in
    let c = map f order in (
      c,
      fits_spans r scope bindings args order of over agree (subst (λ n. list_all (λ v. nat_lt v n) order ≡ true) many ordered.below),
      are_arguments r c 0 positions args (placed.many ∙ are.many ∙ many) (λ i less.
          (let tied : i < length bindings = omega (arith, less, many) in
          let rooted : i < length representatives = omega (arith, tied, are.many) in
          let first : 0 + i ≡ i = omega arith in
          let num : get_or c (get_or positions i 0) 0 ≡ (get_or args i nothing).num =
          chosen_at f order (get_or positions i 0) (placed.below i rooted) ∙ ap f (placed.at i rooted) ∙ are.hold f agree i tied ∙ number_at args i less in
          object_is (get_or args i nothing) (variable_sort r (0 + i)) (get_or c (get_or positions i 0) 0) (ap (variable_sort r) first ∙ sym (sort_at r args i of less)) num)),
    )

all_below : (n : ℕ) (ps : List ℕ) → ((i : ℕ) → i < length ps → get_or ps i 0 < n) → list_all (λ p. nat_lt p n) ps ≡ true
all_below n [] each = refl
all_below n (p ∷ ps) each =
    and_from (nat_lt p n) (list_all (λ q. nat_lt q n) ps) (lt-ltb p n (each 0 (omega arith))) (all_below n ps (λ i less. each (suc i) (omega (arith, less))))

pub plan_is : (r : Row) (scope : Scope) (bindings : List Binding) (representatives order : List ℕ) (plan : Plan) → length bindings ≡ total_of r → RepresentativesAre bindings representatives → OrderIs (length bindings) representatives order
    → PositionsAre representatives order plan.positions.items → plan.spans.items ≡ plan_spans r scope bindings order → plan.ready_at.items ≡ ready_at_of r plan.positions.items → IsPlanFor r scope bindings plan
plan_is r scope bindings representatives order plan total are ordered placed spans ready_at =
    let many : length order ≡ length plan.spans.items = sym (ap length spans ∙ length-map order (λ v. variable_span (count_of scope (variable_sort r v)) (binding_at bindings v))) in
    record {
      ready_at = ready_at;
      below = all_below (length plan.spans.items) plan.positions.items (λ i less. subst (λ n. get_or plan.positions.items i 0 < n) many (placed.below i (omega (arith, less, placed.many))));
      reaches = subst (λ ss. Reaches r scope bindings plan.positions.items ss) (sym spans) (reaches r scope bindings representatives order plan.positions.items total are ordered placed);
    }
