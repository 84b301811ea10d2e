-- A model makes each row so that may be used, and so no sum refutes where there is one.
use Rattle.std.proofs.Common.{◌≡◌, ◌≢◌, ℕ, zero, suc, ◌*◌, ◌≤◌, List, [], ◌∷◌, map, refl, sym, ap, ◌∙◌, subst, arith, Option, Some, None, Bool, true, false, not, cond, ◌&&◌, true≢false, ◌⊎◌, inl, inr}
use Rattle.std.specs.Prelude.{option_and_then, is_some, slice_get}
use Rattle.std.specs.Option.{option_map_or, option_map}
use Rattle.std.proofs.lemmas.Bool.{or_cases, or_left, or_right}
use Rattle.std.proofs.lemmas.Option.{same_Some, none-some}
use mathlib.Core.Bool.{not-not}
use lib.IntN.{ℤ, pos, negsuc, neg_ℤ}
use lib.Signed.{◌<ℤ◌}
use Rattle.e_literal.specs.declared.object.Term.{Term}
use Rattle.e_literal.specs.declared.object.Term.TheVariants.{Seg, Ang, Area, Right}
use Rattle.e_literal.specs.declared.literal.Lit.{Lit}
use Rattle.e_literal.specs.Literal.{negation}
use Rattle.e_literal.specs.Same.{same_lit}
use Rattle.e_literal.specs.Truth.{metric_atom_holds, holds, all_hold}
use Rattle.e_literal.specs.Facts.{has, is_metric, are_apart}
use Rattle.e_literal.specs.Rows.{Row, Sense, Zero, AtLeast, More, Not, times, row, row_of_lit}
use Rattle.e_literal.specs.Absurd.{Weighed, is_absurd}
use Rattle.e_literal.specs.Solution.{form_value, IsSo, Satisfy, values_for_all}
use Rattle.e_literal.proofs.Arith.{sums, one_mul, minus_one}
use Rattle.e_literal.proofs.Valued.{IsMagEq, IsMagLt, IsDiagram, split, form-negative, normal_value, holds_same, so_of_holds}
use Rattle.e_literal.proofs.Refutes.{no_values}
use Rattle.e_literal.proofs.Booleans.{and_left, and_right}
use Rattle.e_clause.specs.declared.cert.RowName.{RowName}
use Rattle.e_clause.specs.declared.cert.RowName.TheVariants.{Fact, Goal, Pos, Top, Right as RightRow, Least, Above, Below, FactAt}
use Rattle.e_clause.specs.declared.cert.Sums.{Sums}
use Rattle.e_clause.specs.declared.cert.Sums.TheVariants.{One, Two}
use Rattle.e_clause.specs.Metric.{wanted_fails}
use Rattle.e_clause.specs.Sum.{RowScope, is_step_term, fact_row, row_at, goal_row, says_differ, unless_not, pos_of, top_of, row_named, weighed_rows, is_limited_sum, refutes}
use Rattle.e_clause.specs.System.{pos_row, top_row, right_row, least_row}
use Rattle.e_clause.specs.MetricCertificate.{differing_of, differing_row, above_row, below_row, both_refute, sums_refute}
use Rattle.e_clause.specs.PartCertificate.{is_fact_at}
use Rattle.e_clause.proofs.Spread.{IsModel}

-- ---- choices that give something

pub option_split : {A : Type 0} (o : Option A) → (o ≡ None) ⊎ ((a : A) × (o ≡ Some a))
option_split None = inl refl
option_split (Some a) = inr (a, refl)

cond_some : {A : Type 0} (b : Bool) (o : Option A) (a : A) → cond b o None ≡ Some a → (b ≡ true) × (o ≡ Some a)
cond_some true o a e = (refl, e)
cond_some false o a e = absurd (none-some a e)

-- an option whose test is true has a value that passes it
pub found : {A : Type 0} (f : A → Bool) (o : Option A) → option_map_or f o false ≡ true → (a : A) × (o ≡ Some a) × (f a ≡ true)
found f (Some a) h = (a, refl, h)
found f None h = absurd (true≢false (sym h))

kept : (b : Bool) (x r : Row) → cond b None (Some x) ≡ Some r → x ≡ r
kept true x r e = absurd (none-some r e)
kept false x r e = same_Some x r e

unless_not_is : (o : Option Row) (r : Row) → unless_not o ≡ Some r → o ≡ Some r
unless_not_is None r e = absurd (none-some r e)
unless_not_is (Some x) r e = ap Some (kept (says_differ x.sense) x r e)

-- ---- rows

abbrev pub IsSoAt : (Term → ℕ) → Row → Type 0
IsSoAt w r = IsSo r.sense (form_value r.form w)

-- what is among true facts is true
pub has_holds : (facts : List Lit) (l : Lit) (w : Term → ℕ) → all_hold (values_for_all w) facts ≡ true → has facts l ≡ true → holds (values_for_all w) l ≡ true
has_holds [] l w h k = absurd (true≢false (sym k))
has_holds (f ∷ facts) l w h k = elim (or_cases (same_lit f l) (has facts l) k) [
  | inl e ↦ holds_same f l w e (and_left (holds (values_for_all w) f) (all_hold (values_for_all w) facts) h)
  | inr m ↦ has_holds facts l w (and_right (holds (values_for_all w) f) (all_hold (values_for_all w) facts) h) m
]

-- what is at a place of true facts is true
at_holds : (facts : List Lit) (k : ℕ) (f : Lit) (w : Term → ℕ) → all_hold (values_for_all w) facts ≡ true → slice_get facts k ≡ Some f → holds (values_for_all w) f ≡ true
at_holds [] k f w h e = absurd (none-some f e)
at_holds (x ∷ facts) zero f w h e = ap (holds (values_for_all w)) (sym (same_Some x f e)) ∙ and_left (holds (values_for_all w) x) (all_hold (values_for_all w) facts) h
at_holds (x ∷ facts) (suc k) f w h e = at_holds facts k f w (and_right (holds (values_for_all w) x) (all_hold (values_for_all w) facts) h) e

-- what is the same as the fact at a place is among the facts
pub has_at : (facts : List Lit) (l : Lit) (k : ℕ) → is_fact_at facts l k ≡ true → has facts l ≡ true
has_at [] l k h = absurd (true≢false (sym h))
has_at (x ∷ facts) l zero h = or_left (same_lit x l) (has facts l) h
has_at (x ∷ facts) l (suc k) h = or_right (same_lit x l) (has facts l) (has_at facts l k h)

negated_cond : (n b : Bool) → not (cond n (not b) b) ≡ cond (not n) (not b) b
negated_cond true b = not-not b
negated_cond false b = refl

-- the negation of a false literal is true
pub negation_holds : (l : Lit) (v : Term → ℕ) → not (holds v l) ≡ true → holds v (negation l) ≡ true
negation_holds l v h = by (split l.atom)
  where
    by : (IsMagEq l.atom ⊎ IsMagLt l.atom) ⊎ IsDiagram l.atom → holds v (negation l) ≡ true
    by (inl (inl p)) = ap (λ a. metric_atom_holds v a (not l.neg)) p.2 ∙ sym (negated_cond l.neg _) ∙ sym (ap (λ a. not (metric_atom_holds v a l.neg)) p.2) ∙ h
    by (inl (inr p)) = ap (λ a. metric_atom_holds v a (not l.neg)) p.2 ∙ sym (negated_cond l.neg _) ∙ sym (ap (λ a. not (metric_atom_holds v a l.neg)) p.2) ∙ h
    by (inr d) = d.quiet v (not l.neg)

-- and the other way, for a metric literal
pub negation_fails : (l : Lit) (v : Term → ℕ) → is_metric l ≡ true → holds v (negation l) ≡ true → not (holds v l) ≡ true
negation_fails l v m h = by (split l.atom)
  where
    by : (IsMagEq l.atom ⊎ IsMagLt l.atom) ⊎ IsDiagram l.atom → not (holds v l) ≡ true
    by (inl (inl p)) = ap (λ a. not (metric_atom_holds v a l.neg)) p.2 ∙ negated_cond l.neg _ ∙ sym (ap (λ a. metric_atom_holds v a (not l.neg)) p.2) ∙ h
    by (inl (inr p)) = ap (λ a. not (metric_atom_holds v a l.neg)) p.2 ∙ negated_cond l.neg _ ∙ sym (ap (λ a. metric_atom_holds v a (not l.neg)) p.2) ∙ h
    by (inr d) = absurd (true≢false (sym m ∙ ap is_some d.no_kind))

pub pos_so : (t : Term) (w : Term → ℕ) → 1 ≤ values_for_all w t → IsSoAt w (pos_row t)
pos_so t w h = let e = normal_value (times (pos 1) t ∷ []) w in let k = one_mul (pos (values_for_all w t)) in omega (arith, sums, e, k, h)

pub top_so : (t : Term) (w : Term → ℕ) → values_for_all w t ≤ 2 * values_for_all w Right → IsSoAt w (top_row t)
top_so t w h =
    let e = normal_value (times (pos 2) Right ∷ (times (negsuc 0) t ∷ [])) w in
    let k = minus_one (pos (values_for_all w t)) in
    omega (arith, sums, e, k, h)

least_so : (t : Term) (w : Term → ℕ) → IsSoAt w (least_row t)
least_so t w = let e = normal_value (times (pos 1) t ∷ []) w in let k = one_mul (pos (values_for_all w t)) in omega (arith, sums, e, k)

-- what a fact says is so, and what the negation of the wanted literal says
module _ (facts : List Lit) (wanted : Option Lit) (w : Term → ℕ) (model : IsModel facts wanted w) where
  fact_so : (l : Lit) (r : Row) → fact_row facts l ≡ Some r → IsSoAt w r
  fact_so l r e =
      let k = cond_some (has facts l) (row_of_lit l) r e in
      so_of_holds l r w k.1 (has_holds facts l w model.facts_hold k.0)

  at_so : (k : ℕ) (r : Row) → row_at facts k ≡ Some r → IsSoAt w r
  at_so k r e = by (slice_get facts k) refl e
    where
      by : (o : Option Lit) → slice_get facts k ≡ o → option_and_then row_of_lit o ≡ Some r → IsSoAt w r
      by None at h = absurd (none-some r h)
      by (Some f) at h = so_of_holds f r w h (at_holds facts k f w model.facts_hold at)

  goal_so : (r : Row) → goal_row wanted ≡ Some r → IsSoAt w r
  goal_so r e = by wanted e model.wanted_fails
    where
      by : (o : Option Lit) → goal_row o ≡ Some r → wanted_fails (values_for_all w) o ≡ true → IsSoAt w r
      by None k h = absurd (none-some r k)
      by (Some l) k h = so_of_holds (negation l) r w k (negation_holds l (values_for_all w) h)

  differing_so : (name : RowName) (r : Row) → differing_of facts wanted name ≡ Some r → IsSoAt w r
  differing_so (Fact l) r e = fact_so l r e
  differing_so Goal r e = goal_so r e
  differing_so (Pos t) r e = absurd (none-some r e)
  differing_so (Top t) r e = absurd (none-some r e)
  differing_so RightRow r e = absurd (none-some r e)
  differing_so (Least t) r e = absurd (none-some r e)
  differing_so Above r e = absurd (none-some r e)
  differing_so Below r e = absurd (none-some r e)
  differing_so (FactAt k) r e = at_so k r e

-- ---- sums

-- the row, where there is one, is so
abbrev IsSoIfAny : (Term → ℕ) → Option Row → Type 0
IsSoIfAny w o = (r : Row) → o ≡ Some r → IsSoAt w r

none_so : (w : Term → ℕ) → IsSoIfAny w None
none_so w r e = absurd (none-some r e)

some_so : (w : Term → ℕ) (x : Row) → IsSoAt w x → IsSoIfAny w (Some x)
some_so w x h r e = subst (IsSoAt w) (same_Some x r e) h

module _ (p : RowScope) (w : Term → ℕ) (model : IsModel p.facts p.wanted w) (high : IsSoIfAny w p.above) (low : IsSoIfAny w p.below) where
  pos_named : (t : Term) (r : Row) → pos_of p t ≡ Some r → IsSoAt w r
  pos_named (Seg a b) r e =
      let k = cond_some (is_step_term p (Seg a b) && are_apart p.facts a b) (Some (pos_row (Seg a b))) r e in
      subst (IsSoAt w) (same_Some (pos_row (Seg a b)) r k.1)
      (pos_so (Seg a b) w (model.apart a b (and_left (is_step_term p (Seg a b)) (are_apart p.facts a b) k.0) (and_right (is_step_term p (Seg a b)) (are_apart p.facts a b) k.0)))
  pos_named (Ang a b c) r e = absurd (none-some r e)
  pos_named (Area a b c) r e = absurd (none-some r e)
  pos_named Right r e = absurd (none-some r e)

  top_named : (t : Term) (r : Row) → top_of p t ≡ Some r → IsSoAt w r
  top_named (Ang a b c) r e =
      let k = cond_some (is_step_term p (Ang a b c)) (Some (top_row (Ang a b c))) r e in
      subst (IsSoAt w) (same_Some (top_row (Ang a b c)) r k.1) (top_so (Ang a b c) w (model.within a b c k.0))
  top_named (Seg a b) r e = absurd (none-some r e)
  top_named (Area a b c) r e = absurd (none-some r e)
  top_named Right r e = absurd (none-some r e)

  named_so : (name : RowName) (r : Row) → row_named p name ≡ Some r → IsSoAt w r
  named_so (Fact l) r e = fact_so p.facts p.wanted w model l r (unless_not_is (fact_row p.facts l) r e)
  named_so Goal r e = goal_so p.facts p.wanted w model r (unless_not_is (goal_row p.wanted) r e)
  named_so (Pos t) r e = pos_named t r e
  named_so (Top t) r e = top_named t r e
  named_so RightRow r e = subst (IsSoAt w) (same_Some right_row r e) (pos_so Right w model.right)
  named_so (Least t) r e = subst (IsSoAt w) (same_Some (least_row t) r (cond_some (is_step_term p t) (Some (least_row t)) r e).1) (least_so t w)
  named_so Above r e = high r e
  named_so Below r e = low r e
  named_so (FactAt k) r e = at_so p.facts p.wanted w model k r (unless_not_is (row_at p.facts k) r e)

  -- the rows of a sum are so
  weighed_so : (xs : List (ℤ × RowName)) (ws : List Weighed) → weighed_rows p xs ≡ Some ws → Satisfy w (map (λ x. x.row) ws)
  weighed_so [] ws e = subst (λ l. Satisfy w (map (λ (x : Weighed). x.row) l)) (same_Some [] ws e) tt
  weighed_so (x ∷ xs) ws e = by (option_split (row_named p x.1)) (option_split (weighed_rows p xs)) (λ vs k. weighed_so xs vs k)
    where
      first : Row → List Weighed → List Weighed
      first r rs = record { multiplier = x.0; row = r } ∷ rs

      by : (row_named p x.1 ≡ None) ⊎ (r : Row) × (row_named p x.1 ≡ Some r) → (weighed_rows p xs ≡ None) ⊎ (vs : List Weighed) × (weighed_rows p xs ≡ Some vs)
          → ((vs : List Weighed) → weighed_rows p xs ≡ Some vs → Satisfy w (map (λ (x : Weighed). x.row) vs)) → Satisfy w (map (λ (x : Weighed). x.row) ws)
      by (inl n) later ih = absurd (none-some ws (sym (ap (option_and_then (λ r. option_map (first r) (weighed_rows p xs))) n) ∙ e))
      by (inr k) (inl n) ih = absurd (none-some ws (sym (ap (option_and_then (λ r. option_map (first r) (weighed_rows p xs))) k.1 ∙ ap (option_map (first k.0)) n) ∙ e))
      by (inr k) (inr m) ih =
          let is : first k.0 m.0 ≡ ws = same_Some (first k.0 m.0) ws (sym (ap (option_and_then (λ r. option_map (first r) (weighed_rows p xs))) k.1 ∙ ap (option_map (first k.0)) m.1) ∙ e) in
          subst (λ l. Satisfy w (map (λ (x : Weighed). x.row) l)) is (named_so x.1 k.0 k.1, ih m.0 m.1)

  -- and so no sum refutes
  not_refuted : (xs : List (ℤ × RowName)) → refutes p xs ≡ true → ⊥
  not_refuted xs h =
      let k = found is_absurd (weighed_rows p xs) (and_right (is_limited_sum xs) (option_map_or is_absurd (weighed_rows p xs) false) h) in
      no_values k.0 w k.2 (weighed_so xs k.0 k.1)

says_not : (s : Sense) → says_differ s ≡ true → s ≡ Not
says_not Zero h = absurd (true≢false (sym h))
says_not AtLeast h = absurd (true≢false (sym h))
says_not More h = absurd (true≢false (sym h))
says_not Not h = refl

-- a number other than 0 is more, or less
other_sign : (z : ℤ) → z ≢ pos 0 → (pos 0 <ℤ z) ⊎ (pos 0 <ℤ neg_ℤ z)
other_sign (pos zero) h = absurd (h refl)
other_sign (pos (suc n)) h = inl (omega (arith, sums))
other_sign (negsuc n) h = inr (omega (arith, sums))

-- the certificate's sums do not refute where there is a model
pub sums_not_refuted : (facts : List Lit) (wanted : Option Lit) (w : Term → ℕ) → IsModel facts wanted w → (s : Sums) → sums_refute facts wanted s ≡ true → ⊥
sums_not_refuted facts wanted w model (One sum) h =
    not_refuted (record { facts = facts; wanted = wanted; above = None; below = None }) w model (none_so w) (none_so w) sum h
sums_not_refuted facts wanted w model (Two differs first second) h =
    let k = found (λ r. both_refute facts wanted r first second) (differing_row facts wanted differs) h in
    by k.0 k.1 k.2
  where
    by : (r : Row) → differing_row facts wanted differs ≡ Some r → both_refute facts wanted r first second ≡ true → ⊥
    by r e both = at (option_split (differing_of facts wanted differs))
      where
        at : (differing_of facts wanted differs ≡ None) ⊎ (x : Row) × (differing_of facts wanted differs ≡ Some x) → ⊥
        at (inl n) = none-some r (sym (ap (option_and_then (λ x. cond (says_differ x.sense) (Some x) None)) n) ∙ e)
        at (inr m) =
            let k = cond_some (says_differ m.0.sense) (Some m.0) r (sym (ap (option_and_then (λ x. cond (says_differ x.sense) (Some x) None)) m.1) ∙ e) in
            let is : m.0 ≡ r = same_Some m.0 r k.1 in
            let differs_from : form_value r.form w ≢ pos 0 =
            subst (λ s. IsSo s (form_value r.form w)) (ap (λ (x : Row). x.sense) (sym is) ∙ says_not m.0.sense k.0) (subst (IsSoAt w) is (differing_so facts wanted w model differs m.0 m.1)) in
            let high : RowScope = record { facts = facts; wanted = wanted; above = Some (above_row r); below = None } in
            let low : RowScope = record { facts = facts; wanted = wanted; above = None; below = Some (below_row r) } in
            elim (other_sign (form_value r.form w) differs_from) [
              | inl g ↦ not_refuted high w model (some_so w (above_row r) g) (none_so w) first (and_left (refutes high first) (refutes low second) both)
              | inr g ↦ not_refuted low w model (none_so w) (some_so w (below_row r) (subst (λ z. pos 0 <ℤ z) (sym (form-negative r.form w)) g)) second (and_right (refutes high first) (refutes low second) both)
            ]
