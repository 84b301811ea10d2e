-- Numbers that may come next.
use Rattle.std.proofs.Common.{◌≡◌, ◌≢◌, ℕ, ◌+◌, ◌<◌, List, [], ◌∷◌, ◌++◌, refl, sym, ap, ◌∙◌, subst, arith, Bool, true, false, not, ◌&&◌, ◌||◌, true≢false, eqb, eqb-true, eq-eqb, get_or, length, map, take, ◌⊎◌, inl, inr, Some, None, Option}
use Rattle.std.specs.Prelude.{slice_get, option_and_then}
use Rattle.std.specs.List.{list_any}
use Rattle.std.specs.Option.{option_map_or}
use Rattle.std.proofs.lemmas.Bool.{and_from, cases_Bool, or_cases, or_left, or_right}
use Rattle.std.proofs.lemmas.List.{get_or_append_left}
use Rattle.std.proofs.lemmas.List.Folds.{list_any_more}
use Rattle.std.proofs.lemmas.Option.{same_Some, slice_get_within, get_or_from_slice_get}
use Rattle.std.proofs.Math.Seq.{get_or-append_seam}
use Rattle.e_literal.specs.declared.literal.Atom.{Atom}
use Rattle.e_literal.specs.declared.literal.Atom.TheVariants.{On, OnC, Inside, Center, Between, Same, MeetLL, MeetLC, MeetCC, EqP, EqL, EqC, MagEq, MagLt}
use Rattle.e_literal.specs.declared.literal.Lit.{Lit}
use Rattle.e_literal.specs.declared.object.Scope.{Scope}
use Rattle.e_literal.specs.declared.object.Term.{Term}
use Rattle.e_literal.specs.Facts.{has}
use Rattle.e_literal.specs.Rename.{atom_at}
use Rattle.e_literal.specs.Same.{same_neg, same_atom, same_lit}
use Rattle.e_literal.proofs.Booleans.{and_left, and_right}
use Rattle.e_clause.specs.Instance.{number, line_arg, circle_arg, lit_at, clause_of}
use Rattle.e_clause.specs.Rows.{Row}
use Rattle.e_clause.specs.Table.{table}
use Rattle.e_clause.specs.Views.{row_of}
use Rattle.e_transfer.specs.declared.candidates.Slot.{Slot}
use Rattle.e_transfer.specs.declared.candidates.Slot.TheVariants as slot
use Rattle.e_transfer.specs.declared.numbers.Numbers.{Numbers}
use Rattle.e_transfer.specs.declared.plan.Plan.{Plan}
use Rattle.e_transfer.specs.declared.query.Strength.{Strength}
use Rattle.e_transfer.specs.GivenGoals.{IsFittingLiteral}
use Rattle.e_transfer.specs.Listings.{numbers_of_atom}
use Rattle.e_transfer.specs.Marks.{relation_number, mark_number, lit_mark}
use Rattle.e_transfer.specs.Verdicts.{Excludes}
use Rattle.e_transfer.specs.inner.Angles.{may_be}
use Rattle.e_transfer.specs.inner.BoundFacts.{fits, may_be_among}
use Rattle.e_transfer.specs.inner.Candidates.{variables_of_atom, variables_of_term, known_number, known_numbers, is_next, option_at, number_at, with_option, AreSeen, number_by, numbers_by}
use Rattle.e_transfer.specs.inner.ListedTerms.{later_number, later_points, are_same_points, IsUnlisted, AreSeenPoints}
use Rattle.e_transfer.specs.inner.PartsOfChoices.{chosen_arguments}
use Rattle.e_transfer.specs.inner.SearchedPlaces.{Wanted}
use Rattle.e_transfer.proofs.Instances.{of_instance, at_map, chosen}
use Rattle.e_transfer.proofs.Listings.{some_fit}
use Rattle.e_transfer.proofs.MarkedFacts.{relation_at, mark_alike, fact_of, fits_elsewhere}
use Rattle.e_transfer.proofs.Needs.{fitting}
use Rattle.e_transfer.proofs.SearchedPlaces.{with_row}

abbrev pub Known : Type 0
Known = Option ℕ × Option ℕ × Option ℕ

-- three numbers that fit with one at a place fit without it, and have it there
others_fit : (s : Slot) (n : ℕ) (k : Known) (t : ℕ × ℕ × ℕ) → fits (with_option s (Some n) k) t ≡ true → (fits (with_option s None k) t ≡ true) × (number_at s t ≡ n)
others_fit slot.First n k t so = (
  and_right (may_be (Some n) t.0) (may_be k.1 t.1 && may_be k.2 t.2) so,
  sym (eqb-true n t.0 (and_left (may_be (Some n) t.0) (may_be k.1 t.1 && may_be k.2 t.2) so)),
)
others_fit slot.Second n k t so =
    let rest = and_right (may_be k.0 t.0) (may_be (Some n) t.1 && may_be k.2 t.2) so in (
      and_from (may_be k.0 t.0) (may_be k.2 t.2) (and_left (may_be k.0 t.0) (may_be (Some n) t.1 && may_be k.2 t.2) so) (and_right (may_be (Some n) t.1) (may_be k.2 t.2) rest),
      sym (eqb-true n t.1 (and_left (may_be (Some n) t.1) (may_be k.2 t.2) rest)),
    )
others_fit slot.Third n k t so =
    let rest = and_right (may_be k.0 t.0) (may_be k.1 t.1 && may_be (Some n) t.2) so in (
      and_from (may_be k.0 t.0) (may_be k.1 t.1 && true) (and_left (may_be k.0 t.0) (may_be k.1 t.1 && may_be (Some n) t.2) so)
          (and_from (may_be k.1 t.1) true (and_left (may_be k.1 t.1) (may_be (Some n) t.2) rest) refl),
      sym (eqb-true n t.2 (and_right (may_be k.1 t.1) (may_be (Some n) t.2) rest)),
    )

-- three numbers that fit, with the one at a place
with_number : (s : Slot) (n : ℕ) (k : Known) (t : ℕ × ℕ × ℕ) → fits k t ≡ true → number_at s t ≡ n → fits (with_option s (Some n) k) t ≡ true
with_number slot.First n k t so is =
    and_from (may_be (Some n) t.0) (may_be k.1 t.1 && may_be k.2 t.2) (eq-eqb n t.0 (sym is)) (and_right (may_be k.0 t.0) (may_be k.1 t.1 && may_be k.2 t.2) so)
with_number slot.Second n k t so is =
    let rest = and_right (may_be k.0 t.0) (may_be k.1 t.1 && may_be k.2 t.2) so in
    and_from (may_be k.0 t.0) (may_be (Some n) t.1 && may_be k.2 t.2) (and_left (may_be k.0 t.0) (may_be k.1 t.1 && may_be k.2 t.2) so)
    (and_from (may_be (Some n) t.1) (may_be k.2 t.2) (eq-eqb n t.1 (sym is)) (and_right (may_be k.1 t.1) (may_be k.2 t.2) rest))
with_number slot.Third n k t so is =
    let rest = and_right (may_be k.0 t.0) (may_be k.1 t.1 && may_be k.2 t.2) so in
    and_from (may_be k.0 t.0) (may_be k.1 t.1 && may_be (Some n) t.2) (and_left (may_be k.0 t.0) (may_be k.1 t.1 && may_be k.2 t.2) so)
    (and_from (may_be k.1 t.1) (may_be (Some n) t.2) (and_left (may_be k.1 t.1) (may_be k.2 t.2) rest) (eq-eqb n t.2 (sym is)))

-- three numbers that do not fit without it, or have another there
pub unfit : (s : Slot) (n : ℕ) (k : Known) (t : ℕ × ℕ × ℕ) → (fits (with_option s None k) t ≡ false) ⊎ (n ≢ number_at s t) → fits (with_option s (Some n) k) t ≡ false
unfit s n k t why = elim (cases_Bool (fits (with_option s (Some n) k) t)) [
  | inr none ↦ none
  | inl so ↦
      let both = others_fit s n k t so in
      absurd (elim why [
        | inl fails ↦ true≢false (sym both.0 ∙ fails)
        | inr other ↦ other (sym both.1)
      ])
]

or_from : (a b : Bool) → a ≡ false → b ≡ false → (a || b) ≡ false
or_from true b x y = x
or_from false b x y = y

-- one more of three numbers is looked at
pub one_more_seen : (s : Slot) (k : Known) (triples : List (ℕ × ℕ × ℕ)) (i : ℕ) (t : ℕ × ℕ × ℕ) (seen new : List Bool) → i < length triples → get_or triples i (0, 0, 0) ≡ t
    → AreSeen k s (take i triples) seen → ((n : ℕ) → slice_get new n ≡ Some false → (slice_get seen n ≡ Some false) × ((fits (with_option s None k) t ≡ false) ⊎ (n ≢ number_at s t)))
    → AreSeen k s (take (i + 1) triples) new
one_more_seen s k triples i t seen new less at before more = λ n out.
    let here = more n out in
    let p = fits (with_option s (Some n) k) in
    list_any_more p triples i (0, 0, 0) less ∙ or_from (list_any p (take i triples)) (p (get_or triples i (0, 0, 0))) (before n here.0) (ap p at ∙ unfit s n k t here.1)

-- ---- the numbers of variables

module _ (r : Row) (positions part tail : List ℕ) where
  abbrev f : ℕ → ℕ
  f = number (chosen_arguments r positions (part ++ tail))

  at_place : (v p : ℕ) → slice_get positions v ≡ Some p → f v ≡ get_or (part ++ tail) p 0
  at_place v p is =
      chosen r (part ++ tail) 0 positions v (slice_get_within positions v p is) ∙ ap (λ q. get_or (part ++ tail) q 0) (get_or_from_slice_get positions v p 0 is)

  known_fits : (v : Option ℕ) → may_be (known_number positions part v) (number_by f v) ≡ true
  known_fits None = refl
  known_fits (Some v) = by (slice_get positions v) refl
    where
      at : (p : ℕ) → slice_get positions v ≡ Some p → (o : Option ℕ) → slice_get part p ≡ o → may_be o (f v) ≡ true
      at p is None there = refl
      at p is (Some k) there =
          eq-eqb k (f v) (sym (at_place v p is ∙ get_or_append_left part tail 0 p (slice_get_within part p k there) ∙ get_or_from_slice_get part p k 0 there))

      by : (o : Option ℕ) → slice_get positions v ≡ o → may_be (option_and_then (slice_get part) o) (f v) ≡ true
      by None is = refl
      by (Some p) is = at p is (slice_get part p) refl

  all_fit : (vs : Option ℕ × Option ℕ × Option ℕ) → fits (known_numbers positions part vs) (numbers_by f vs) ≡ true
  all_fit vs =
      let k = known_numbers positions part vs in
      let t = numbers_by f vs in
      and_from (may_be k.0 t.0) (may_be k.1 t.1 && may_be k.2 t.2) (known_fits vs.0) (and_from (may_be k.1 t.1) (may_be k.2 t.2) (known_fits vs.1) (known_fits vs.2))

module _ (r : Row) (positions part : List ℕ) (n : ℕ) (rest : List ℕ) where
  next_is : (v : Option ℕ) → is_next positions part v ≡ true → number_by (f r positions part (n ∷ rest)) v ≡ n
  next_is None off = absurd (true≢false (sym off))
  next_is (Some v) so = by (slice_get positions v) refl so
    where
      by : (o : Option ℕ) → slice_get positions v ≡ o → option_map_or (λ p. eqb p (length part)) o false ≡ true → number_by (f r positions part (n ∷ rest)) (Some v) ≡ n
      by None is off = absurd (true≢false (sym off))
      by (Some p) is here = at_place r positions part (n ∷ rest) v p is ∙ ap (λ q. get_or (part ++ n ∷ rest) q 0) (eqb-true p (length part) here) ∙ get_or-append_seam part n rest 0

  with_next : (s : Slot) (vs : Option ℕ × Option ℕ × Option ℕ) → is_next positions part (option_at s vs) ≡ true
      → fits (with_option s (Some n) (known_numbers positions part vs)) (numbers_by (f r positions part (n ∷ rest)) vs) ≡ true
  with_next s vs next =
      with_number s n (known_numbers positions part vs) (numbers_by (f r positions part (n ∷ rest)) vs) (all_fit r positions part (n ∷ rest) vs) (at_slot s vs next)
    where
      at_slot : (s : Slot) (vs : Option ℕ × Option ℕ × Option ℕ) → is_next positions part (option_at s vs) ≡ true → number_at s (numbers_by (f r positions part (n ∷ rest)) vs) ≡ n
      at_slot slot.First vs next = next_is vs.0 next
      at_slot slot.Second vs next = next_is vs.1 next
      at_slot slot.Third vs next = next_is vs.2 next

-- ---- a diagram atom has the numbers of its variables

read_numbers : (r : Row) (f : ℕ → ℕ) (a : Atom) → numbers_of_atom (atom_at f (λ k. f (r.points + k)) (λ k. f (r.points + r.lines + k)) a) ≡ numbers_by f (variables_of_atom r a)
read_numbers r f (On x l) = refl
read_numbers r f (OnC x c) = refl
read_numbers r f (Inside x c) = refl
read_numbers r f (Center x c) = refl
read_numbers r f (Between x y z) = refl
read_numbers r f (Same x y l) = refl
read_numbers r f (MeetLL l m) = refl
read_numbers r f (MeetLC l c) = refl
read_numbers r f (MeetCC c d) = refl
read_numbers r f (EqP x y) = refl
read_numbers r f (EqL l m) = refl
read_numbers r f (EqC c d) = refl
read_numbers r f (MagEq x y) = refl
read_numbers r f (MagLt x y) = refl

two_alike : (a b c d : ℕ) → (eqb a c && eqb b d) ≡ true → ◌≡◌ {A = ℕ × ℕ × ℕ} (a, b, 0) (c, d, 0)
two_alike a b c d same =
    let p = eqb-true a c (and_left (eqb a c) (eqb b d) same) in let q = eqb-true b d (and_right (eqb a c) (eqb b d) same) in cc

three_alike : (a b c d e g : ℕ) → (eqb a d && (eqb b e && eqb c g)) ≡ true → ◌≡◌ {A = ℕ × ℕ × ℕ} (a, b, c) (d, e, g)
three_alike a b c d e g same =
    let rest = and_right (eqb a d) (eqb b e && eqb c g) same in
    let p = eqb-true a d (and_left (eqb a d) (eqb b e && eqb c g) same) in
    let q = eqb-true b e (and_left (eqb b e) (eqb c g) rest) in let u = eqb-true c g (and_right (eqb b e) (eqb c g) rest) in cc

numbers_alike : (b a : Atom) → relation_number a < 12 → same_atom b a ≡ true → numbers_of_atom b ≡ numbers_of_atom a
numbers_alike (On a b) (On c d) low same = two_alike a b c d same
numbers_alike (OnC a b) (OnC c d) low same = two_alike a b c d same
numbers_alike (Inside a b) (Inside c d) low same = two_alike a b c d same
numbers_alike (Center a b) (Center c d) low same = two_alike a b c d same
numbers_alike (Between a b c) (Between d e g) low same = three_alike a b c d e g same
numbers_alike (Same a b c) (Same d e g) low same = three_alike a b c d e g same
numbers_alike (MeetLL a b) (MeetLL c d) low same = two_alike a b c d same
numbers_alike (MeetLC a b) (MeetLC c d) low same = two_alike a b c d same
numbers_alike (MeetCC a b) (MeetCC c d) low same = two_alike a b c d same
numbers_alike (EqP a b) (EqP c d) low same = two_alike a b c d same
numbers_alike (EqL a b) (EqL c d) low same = two_alike a b c d same
numbers_alike (EqC a b) (EqC c d) low same = two_alike a b c d same
numbers_alike b (MagEq x y) low same = absurd (omega (arith, low))
numbers_alike b (MagLt x y) low same = absurd (omega (arith, low))
numbers_alike b a low same = absurd (true≢false (sym same))

-- a fact whose numbers fit is among those that fit
among : (neg : Bool) (a : Atom) (k : Known) (facts : List Lit) → relation_number a < 12 → fits k (numbers_of_atom a) ≡ true → has facts (record { neg = neg; atom = a }) ≡ true
    → may_be_among (mark_number (relation_number a) neg) k facts ≡ true
among neg a k [] low so there = there
among neg a k (g ∷ gs) low so there =
    let l : Lit = record { neg = neg; atom = a } in
    let mark = mark_number (relation_number a) neg in
    let here = eqb (lit_mark g) mark && fits k (numbers_of_atom g.atom) in
    elim (or_cases (same_lit g l) (has gs l) there) [
      | inl same ↦ or_left here (may_be_among mark k gs)
          (and_from (eqb (lit_mark g) mark) (fits k (numbers_of_atom g.atom)) (eq-eqb (lit_mark g) mark (mark_alike g l same))
          (ap (fits k) (numbers_alike g.atom a low (and_right (same_neg g.neg neg) (same_atom g.atom a) same)) ∙ so))
      | inr later ↦ or_right here (may_be_among mark k gs) (among neg a k gs low so later)
    ]

-- ---- no choice is wanted that goes on with a number that is not seen

pub unseen : (m : Strength) (scope : Scope) (facts : List Lit) (goal : Lit) (rule place : ℕ) (plan : Plan) (r : Row) (part : List ℕ) (j : ℕ) (l : Lit) (s : Slot)
    (triples : List (ℕ × ℕ × ℕ)) (seen : List Bool) → slice_get table rule ≡ Some r → slice_get (clause_of r) j ≡ Some l → relation_number l.atom < 12 → lit_mark l ≢ lit_mark goal
    → is_next plan.positions.items part (option_at s (variables_of_atom r l.atom)) ≡ true
    → ((k : Known) → list_any (fits k) triples ≡ may_be_among (mark_number (relation_number l.atom) (not l.neg)) k facts)
    → AreSeen (known_numbers plan.positions.items part (variables_of_atom r l.atom)) s triples seen
    → Excludes (Wanted m scope facts goal rule place plan) part (Some seen)
unseen m scope facts goal rule place plan r part j l s triples seen at here low unlike next listed are n out rest wanted =
    let positions = plan.positions.items in
    let both = with_row m scope facts goal rule place plan r (part ++ n ∷ rest) at wanted in
    let gives = both.1 in
    let args = chosen_arguments r positions (part ++ n ∷ rest) in
    let of = of_instance rule args r gives.lits at gives.instance in
    let is : slice_get gives.lits j ≡ Some (lit_at r args l) = ap (λ (ls : List Lit). slice_get ls j) of.1 ∙ at_map (lit_at r args) (clause_of r) j l here in
    let a = atom_at (number args) (line_arg r args) (circle_arg r args) l.atom in
    let still : relation_number a ≡ relation_number l.atom = relation_at (number args) (line_arg r args) (circle_arg r args) l.atom in
    let vs = variables_of_atom r l.atom in
    let k = with_option s (Some n) (known_numbers positions part vs) in
    let none : may_be_among (mark_number (relation_number l.atom) (not l.neg)) k facts ≡ false = sym (listed k) ∙ are n out in
    let so : fits k (numbers_of_atom a) ≡ true = ap (fits k) (read_numbers r (number args) l.atom) ∙ with_next r positions part n rest s vs next in
    elim (fits_elsewhere m facts goal (lit_at r args l) (eqb j place) (fitting m facts gives.lits goal (lit_at r args l) place j gives.here gives.suffice is)) [
      | inl same ↦ unlike (ap (λ x. mark_number x l.neg) (sym still) ∙ mark_alike (lit_at r args l) goal same)
      | inr enough ↦ true≢false
          (sym (ap (λ x. may_be_among (mark_number x (not l.neg)) k facts) (sym still)
          ∙ among (not l.neg) a k facts (omega (arith, low, still)) so (fact_of m facts (record { neg = not l.neg; atom = a }) (inr (omega (arith, low, still))) enough)) ∙ none)
    ]

-- ---- the points of a term

same_numbers : (t u : ℕ × ℕ × ℕ) → are_same_points t u ≡ true → t ≡ u
same_numbers t u same = three_alike t.0 t.1 t.2 u.0 u.1 u.2 same

-- those that fit none are none of these
none_same : (t : ℕ × ℕ × ℕ) (k : Known) (points : List (ℕ × ℕ × ℕ)) → fits k t ≡ true → list_any (fits k) points ≡ false → list_any (are_same_points t) points ≡ false
none_same t k [] so none = refl
none_same t k (p ∷ ps) so none =
    or_from (are_same_points t p) (list_any (are_same_points t) ps)
    (elim (cases_Bool (are_same_points t p)) [
      | inr other ↦ other
      | inl same ↦ absurd (true≢false (sym (or_left (fits k p) (list_any (fits k) ps) (subst (λ (u : ℕ × ℕ × ℕ). fits k u ≡ true) (same_numbers t p same) so)) ∙ none))
    ])
    (none_same t k ps so (or_rest (fits k p) (list_any (fits k) ps) none))
  where
    or_rest : (a b : Bool) → (a || b) ≡ false → b ≡ false
    or_rest true b e = absurd (true≢false e)
    or_rest false b e = e

module _ (n : Numbers) (t : Term) (s : Slot) (next : is_next n.positions.now n.part.now (option_at s (variables_of_term t)) ≡ true) where
  abbrev vs : Option ℕ × Option ℕ × Option ℕ
  vs = variables_of_term t

  pub points_seen : (points : List (ℕ × ℕ × ℕ)) (seen : List Bool) → AreSeen (known_numbers n.positions.now n.part.now vs) s points seen → AreSeenPoints points n t seen
  points_seen points seen are = λ k out rest.
      none_same (later_points n (k ∷ rest) t) (with_option s (Some k) (known_numbers n.positions.now n.part.now vs)) points
      (with_next (row_of n.row.now) n.positions.now n.part.now k rest s vs next) (are k out)

  -- the first number and the second are not one
  known_is : (k : ℕ) (rest : List ℕ) (v : Option ℕ) (a : ℕ) → known_number n.positions.now n.part.now v ≡ Some a → number_by (later_number n (k ∷ rest)) v ≡ a
  known_is k rest v a is =
      sym (eqb-true a (number_by (later_number n (k ∷ rest)) v)
      (subst (λ (o : Option ℕ). may_be o (number_by (later_number n (k ∷ rest)) v) ≡ true) is (known_fits (row_of n.row.now) n.positions.now n.part.now (k ∷ rest) v)))

  pub first_apart : (a k : ℕ) (rest : List ℕ) → s ≡ slot.First → known_number n.positions.now n.part.now vs.1 ≡ Some a → k ≢ a
      → (later_points n (k ∷ rest) t).0 ≢ (later_points n (k ∷ rest) t).1
  first_apart a k rest first is other same =
      other (sym (next_is (row_of n.row.now) n.positions.now n.part.now k rest vs.0 (subst (λ (q : Slot). is_next n.positions.now n.part.now (option_at q vs) ≡ true) first next)) ∙ same ∙ known_is k rest vs.1 a is)

  pub second_apart : (a k : ℕ) (rest : List ℕ) → s ≡ slot.Second → known_number n.positions.now n.part.now vs.0 ≡ Some a → k ≢ a
      → (later_points n (k ∷ rest) t).0 ≢ (later_points n (k ∷ rest) t).1
  second_apart a k rest second is other same =
      other (sym (next_is (row_of n.row.now) n.positions.now n.part.now k rest vs.1 (subst (λ (q : Slot). is_next n.positions.now n.part.now (option_at q vs) ≡ true) second next)) ∙ (sym same ∙ known_is k rest vs.0 a is))

-- those that fit none are none of these, whatever numbers come next
pub never_there : (n : Numbers) (t : Term) (points : List (ℕ × ℕ × ℕ)) → list_any (fits (known_numbers n.positions.now n.part.now (variables_of_term t))) points ≡ false → (rest : List ℕ)
    → IsUnlisted points n rest t
never_there n t points none rest =
    none_same (later_points n rest t) (known_numbers n.positions.now n.part.now (variables_of_term t)) points (all_fit (row_of n.row.now) n.positions.now n.part.now rest (variables_of_term t)) none
