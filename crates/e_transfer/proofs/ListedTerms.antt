-- Two terms may be equal of which the values do not list one.
use Rattle.std.proofs.Common.{◌≡◌, ◌≢◌, ℕ, ◌*◌, ◌+◌, ◌≤◌, List, [], ◌∷◌, ◌++◌, refl, sym, ap, ◌∙◌, subst, arith, Bool, true, false, cond, not, ◌&&◌, ◌||◌, true≢false, eqb, eqb-true, eq-eqb, min, max, ◌⊎◌, inl, inr, Option, Some, None, leb-true, le-leb}
use Rattle.std.specs.Prelude.{IfSome, nat_le, flat_map}
use Rattle.std.specs.List.{list_all, list_any}
use Rattle.std.proofs.lemmas.Bool.{and_from, or_left, or_right, cases_Bool, cases_lt}
use Rattle.std.proofs.lemmas.List.Folds.{list_any-append}
use Rattle.e_literal.specs.declared.literal.Atom.TheVariants.{MagEq}
use Rattle.e_literal.specs.declared.literal.Lit.{Lit}
use Rattle.e_literal.specs.declared.object.Mono.{Mono}
use Rattle.e_literal.specs.declared.object.Term.{Term}
use Rattle.e_literal.specs.declared.object.Term.TheVariants.{Seg, Ang, Area, Right}
use Rattle.e_literal.specs.Same.{canonical, term_eq}
use Rattle.e_literal.specs.Truth.{all_hold}
use Rattle.e_literal.proofs.Booleans.{and_left, and_right}
use Rattle.e_literal.proofs.Terms.{term_eq_is}
use Rattle.e_literal.specs.Facts.{are_apart}
use Rattle.e_clause.specs.Assignment.{terms_of_lits}
use Rattle.e_clause.specs.Metric.{MetricConsequence}
use Rattle.e_transfer.specs.declared.models.Filling.TheVariants.{Each}
use Rattle.e_transfer.specs.declared.numbers.Numbers.{Numbers}
use Rattle.e_transfer.specs.Models.{value_in_list, value_when_canonical, value_by, fits_term, fits_terms, is_model}
use Rattle.e_transfer.specs.inner.ListedTerms.{angle_points, segment_points, zero_points, angles_of, segments_of, zero_segments_of, is_angle_below, are_angles_within, later_number, later_points, are_same_points, IsUnlisted, IsOneUnlisted, IsApart, AreSeenAngles, AreSeenSegments, NeverDiffer, NeverDifferUnseen}
use Rattle.e_transfer.proofs.FreeAreas.{equal_fails}
use Rattle.e_transfer.proofs.ModelValues.{refuted}

abbrev Points : Type 0
Points = ℕ × ℕ × ℕ

or_rest : (b c : Bool) → (b || c) ≡ false → c ≡ false
or_rest true c e = absurd (true≢false e)
or_rest false c e = e

-- ---- terms that are listed, and those that are not

ordered : (a c : ℕ) → ((min a c ≡ a) × (max a c ≡ c)) ⊎ ((min a c ≡ c) × (max a c ≡ a))
ordered a c = elim (cases_lt a c) [
  | inl less ↦ inl (omega (arith, less), omega (arith, less))
  | inr more ↦ inr (omega (arith, more), omega (arith, more))
]

same_if : (a b c d e f : ℕ) → a ≡ d → b ≡ e → c ≡ f → are_same_points (a, b, c) (d, e, f) ≡ true
same_if a b c d e f p q r = and_from (eqb a d) (eqb b e && eqb c f) (eq-eqb a d p) (and_from (eqb b e) (eqb c f) (eq-eqb b e q) (eq-eqb c f r))

-- an angle that is listed has its points among those of the listed one
angle_there : (a b c : ℕ) (s : Term) → term_eq (canonical (Ang a b c)) s ≡ true → list_any (are_same_points (a, b, c)) (angle_points s) ≡ true
angle_there a b c s listed =
    subst (λ (u : Term). list_any (are_same_points (a, b, c)) (angle_points u) ≡ true) (term_eq_is (canonical (Ang a b c)) s listed)
    (elim (ordered a c) [
      | inl so ↦ or_left (are_same_points (a, b, c) (min a c, b, max a c)) (are_same_points (a, b, c) (max a c, b, min a c) || false)
          (same_if a b c (min a c) b (max a c) (sym so.0) refl (sym so.1))
      | inr so ↦ or_right (are_same_points (a, b, c) (min a c, b, max a c)) (are_same_points (a, b, c) (max a c, b, min a c) || false)
          (or_left (are_same_points (a, b, c) (max a c, b, min a c)) false (same_if a b c (max a c) b (min a c) (sym so.1) refl (sym so.0)))
    ])

segment_there : (a b : ℕ) (s : Term) → term_eq (canonical (Seg a b)) s ≡ true → list_any (are_same_points (a, b, 0)) (segment_points s) ≡ true
segment_there a b s listed =
    subst (λ (u : Term). list_any (are_same_points (a, b, 0)) (segment_points u) ≡ true) (term_eq_is (canonical (Seg a b)) s listed)
    (elim (ordered a b) [
      | inl so ↦ or_left (are_same_points (a, b, 0) (min a b, max a b, 0)) (are_same_points (a, b, 0) (max a b, min a b, 0) || false)
          (same_if a b 0 (min a b) (max a b) 0 (sym so.0) (sym so.1) refl)
      | inr so ↦ or_right (are_same_points (a, b, 0) (min a b, max a b, 0)) (are_same_points (a, b, 0) (max a b, min a b, 0) || false)
          (or_left (are_same_points (a, b, 0) (max a b, min a b, 0)) false (same_if a b 0 (max a b) (min a b) 0 (sym so.1) (sym so.0) refl))
    ])

module _ (points : Term → List Points) (p : Points) (t : Term) (there : (s : Term) → term_eq t s ≡ true → list_any (are_same_points p) (points s) ≡ true) where
  -- one that is not listed has the number that each such one has
  open_value : (k : ℕ) (values : List (Term × ℕ)) → list_any (are_same_points p) (flat_map (λ q. points q.0) values) ≡ false → value_in_list (Each k) values t ≡ k
  open_value k [] none = refl
  open_value k (q ∷ qs) none =
      let split = sym (list_any-append (are_same_points p) (points q.0) (flat_map (λ r. points r.0) qs)) ∙ none in
      elim (cases_Bool (term_eq t q.0)) [
        | inl e ↦ absurd (true≢false (sym (or_left (list_any (are_same_points p) (points q.0)) (list_any (are_same_points p) (flat_map (λ r. points r.0) qs)) (there q.0 e)) ∙ split))
        | inr other ↦
            ap (λ d. cond d q.1 (value_in_list (Each k) qs t)) other
            ∙ open_value k qs (or_rest (list_any (are_same_points p) (points q.0)) (list_any (are_same_points p) (flat_map (λ r. points r.0) qs)) split)
      ]

  abbrev zero_of : Term × ℕ → List Points
  zero_of q = cond (eqb q.1 0) (points q.0) []

  -- one that is not listed with 0 is not 0
  positive_value : (k : ℕ) (values : List (Term × ℕ)) → 1 ≤ k → list_any (are_same_points p) (flat_map zero_of values) ≡ false → 1 ≤ value_in_list (Each k) values t
  positive_value k [] one none = one
  positive_value k (q ∷ qs) one none =
      let split = sym (list_any-append (are_same_points p) (zero_of q) (flat_map zero_of qs)) ∙ none in
      let later = positive_value k qs one (or_rest (list_any (are_same_points p) (zero_of q)) (list_any (are_same_points p) (flat_map zero_of qs)) split) in
      elim (cases_Bool (term_eq t q.0)) [
        | inr other ↦ subst (λ (d : Bool). 1 ≤ cond d q.1 (value_in_list (Each k) qs t)) (sym other) later
        | inl e ↦ subst (λ (d : Bool). 1 ≤ cond d q.1 (value_in_list (Each k) qs t)) (sym e)
            (elim (cases_Bool (eqb q.1 0)) [
              | inl zero ↦ absurd (true≢false
                  (sym (or_left (list_any (are_same_points p) (zero_of q)) (list_any (are_same_points p) (flat_map zero_of qs))
                  (ap (λ (d : Bool). list_any (are_same_points p) (cond d (points q.0) [])) zero ∙ there q.0 e)) ∙ split))
              | inr more ↦ above q.1 more
            ])
      ]
    where
      above : (n : ℕ) → eqb n 0 ≡ false → 1 ≤ n
      above n more = elim (cases_lt 0 n) [
        | inl less ↦ omega (arith, less)
        | inr none ↦ absurd (true≢false (sym (eq-eqb n 0 (omega (arith, none))) ∙ more))
      ]

-- a term has one value, or the number that each has that is not listed
listed_or_not : (t : Term) (values : List (Term × ℕ)) → ((k : ℕ) → value_in_list (Each k) values t ≡ value_in_list (Each 1) values t) ⊎ ((k : ℕ) → value_in_list (Each k) values t ≡ k)
listed_or_not t [] = inr (λ k. refl)
listed_or_not t (q ∷ qs) = elim (cases_Bool (term_eq t q.0)) [
  | inl e ↦ inl (λ k. ap (λ d. cond d q.1 (value_in_list (Each k) qs t)) e ∙ sym (ap (λ d. cond d q.1 (value_in_list (Each 1) qs t)) e))
  | inr other ↦ elim (listed_or_not t qs) [
    | inl one ↦ inl (λ k. ap (λ d. cond d q.1 (value_in_list (Each k) qs t)) other ∙ (one k ∙ sym (ap (λ d. cond d q.1 (value_in_list (Each 1) qs t)) other)))
    | inr each ↦ inr (λ k. ap (λ d. cond d q.1 (value_in_list (Each k) qs t)) other ∙ each k)
  ]
]

-- where each has that number that is not listed, a term keeps its own
kept_value : (t : Term) (values : List (Term × ℕ)) → value_in_list (Each (value_in_list (Each 1) values t)) values t ≡ value_in_list (Each 1) values t
kept_value t values = elim (listed_or_not t values) [
  | inl one ↦ one (value_in_list (Each 1) values t)
  | inr each ↦ each (value_in_list (Each 1) values t)
]

-- the right angle is least where what is not listed has 0
least_right : (k : ℕ) (values : List (Term × ℕ)) → value_in_list (Each 0) values Right ≤ value_in_list (Each k) values Right
least_right k values = elim (listed_or_not Right values) [
  | inl one ↦ let e = one 0 in let f = one k in omega (arith, e, f)
  | inr each ↦ let e = each 0 in omega (arith, e)
]

-- ---- two angles

angle_bound : (most a b c : ℕ) (values : List (Term × ℕ)) → list_all (λ p. is_angle_below most p.0 p.1) values ≡ true
    → (value_in_list (Each 1) values (Ang a b c) ≤ most) ⊎ (value_in_list (Each 1) values (Ang a b c) ≡ 1)
angle_bound most a b c [] below = inr refl
angle_bound most a b c (q ∷ qs) below =
    let here = and_left (is_angle_below most q.0 q.1) (list_all (λ p. is_angle_below most p.0 p.1) qs) below in
    let rest = angle_bound most a b c qs (and_right (is_angle_below most q.0 q.1) (list_all (λ p. is_angle_below most p.0 p.1) qs) below) in
    elim (cases_Bool (term_eq (Ang a b c) q.0)) [
      | inl e ↦ inl
          (subst (λ (d : Bool). cond d q.1 (value_in_list (Each 1) qs (Ang a b c)) ≤ most) (sym e)
          (leb-true q.1 most (subst (λ (s : Term). is_angle_below most s q.1 ≡ true) (sym (term_eq_is (Ang a b c) q.0 e)) here)))
      | inr other ↦
          subst (λ (d : Bool). (cond d q.1 (value_in_list (Each 1) qs (Ang a b c)) ≤ most) ⊎ (cond d q.1 (value_in_list (Each 1) qs (Ang a b c)) ≡ 1)) (sym other) rest
    ]

module _ (facts : List Lit) (values : List (Term × ℕ)) (models : (k : ℕ) → is_model facts (value_by (Each k) values) ≡ true) where
  abbrev Unequal : ℕ → Term → Term → Type 0
  Unequal coeff t u =
      MetricConsequence facts (record { neg = true; atom = MagEq (record { coeff = coeff; term = t } ∷ []) (record { coeff = coeff; term = u } ∷ []) })

  right_fits : (k : ℕ) → fits_term facts (value_by (Each k) values) Right ≡ true
  right_fits k = let v = value_by (Each k) values in and_left (fits_term facts v Right) (fits_terms facts v (terms_of_lits facts) && all_hold v facts) (models k)

  not_unequal : (k coeff : ℕ) (t u : Term) → value_by (Each k) values t ≡ value_by (Each k) values u → fits_term facts (value_by (Each k) values) t ≡ true
      → fits_term facts (value_by (Each k) values) u ≡ true → Unequal coeff t u → ⊥
  not_unequal k coeff t u alike one another follows =
      let v = value_by (Each k) values in
      refuted facts (record { neg = true; atom = MagEq (record { coeff = coeff; term = t } ∷ []) (record { coeff = coeff; term = u } ∷ []) }) (value_when_canonical (Each k) values) (models k)
      (and_from (fits_term facts v t) (fits_term facts v u && true) one (and_from (fits_term facts v u) true another refl)) (equal_fails coeff (v t) (v u) alike) follows

  within : (k a b c : ℕ) → value_by (Each k) values (Ang a b c) ≤ 2 * value_by (Each k) values Right → fits_term facts (value_by (Each k) values) (Ang a b c) ≡ true
  within k a b c below =
      let v = value_by (Each k) values in
      and_from (nat_le (v (Ang a b c)) (2 * v Right)) true (le-leb (v (Ang a b c)) (2 * v Right) below) refl

  abbrev value_of_angle : ℕ → ℕ → ℕ → ℕ
  value_of_angle a b c = value_in_list (Each 1) values (canonical (Ang a b c))

  -- the value of an angle is within bounds, where each has it that is not listed
  angle_within : (a b c : ℕ) → are_angles_within values ≡ true → value_of_angle a b c ≤ 2 * value_by (Each (value_of_angle a b c)) values Right
  angle_within a b c bounds =
      let m = value_of_angle a b c in
      let v = value_by (Each m) values in
      let least = least_right m values in
      let one = leb-true 1 (v Right) (and_left (nat_le 1 (v Right)) true (right_fits m)) in
      elim (angle_bound (2 * value_by (Each 0) values Right) (min a c) b (max a c) values bounds) [
        | inl most ↦ omega (arith, most, least)
        | inr is ↦ omega (arith, is, one)
      ]

  angles_alike : (k coeff a b c d e f : ℕ) → value_by (Each k) values (Ang a b c) ≡ k → value_by (Each k) values (Ang d e f) ≡ k → k ≤ 2 * value_by (Each k) values Right
      → Unequal coeff (Ang a b c) (Ang d e f) → ⊥
  angles_alike k coeff a b c d e f one another below =
      not_unequal k coeff (Ang a b c) (Ang d e f) (one ∙ sym another) (within k a b c (omega (arith, one, below))) (within k d e f (omega (arith, another, below)))

  open_angle : (k a b c : ℕ) → list_any (are_same_points (a, b, c)) (angles_of values) ≡ false → value_by (Each k) values (Ang a b c) ≡ k
  open_angle k a b c none = open_value angle_points (a, b, c) (canonical (Ang a b c)) (angle_there a b c) k values none

  -- one of two angles is not listed
  angles_apart : (coeff a b c d e f : ℕ) → are_angles_within values ≡ true
      → (list_any (are_same_points (a, b, c)) (angles_of values) ≡ false) ⊎ (list_any (are_same_points (d, e, f)) (angles_of values) ≡ false) → Unequal coeff (Ang a b c) (Ang d e f) → ⊥
  angles_apart coeff a b c d e f bounds none = elim none [
    | inl first ↦
        let m = value_of_angle d e f in
        angles_alike m coeff a b c d e f (open_angle m a b c first) (kept_value (canonical (Ang d e f)) values) (angle_within d e f bounds)
    | inr second ↦
        let m = value_of_angle a b c in
        angles_alike m coeff a b c d e f (kept_value (canonical (Ang a b c)) values) (open_angle m d e f second) (angle_within a b c bounds)
  ]

  -- ---- two segments

  by_whole : (a b : ℕ) (k : ℕ) → a ≢ b → value_by (Each k) values (Seg a b) ≡ value_in_list (Each k) values (canonical (Seg a b))
  by_whole a b k apart = elim (cases_Bool (eqb a b)) [
    | inl same ↦ absurd (apart (eqb-true a b same))
    | inr other ↦ ap (λ d. cond d 0 (value_in_list (Each k) values (canonical (Seg a b)))) other
  ]

  positive : (k a b : ℕ) → 1 ≤ value_by (Each k) values (Seg a b) → fits_term facts (value_by (Each k) values) (Seg a b) ≡ true
  positive k a b one = by (are_apart facts a b)
    where
      by : (d : Bool) → cond d (nat_le 1 (value_by (Each k) values (Seg a b))) true ≡ true
      by true = le-leb 1 (value_by (Each k) values (Seg a b)) one
      by false = refl

  segments_alike : (k coeff a b c d : ℕ) → value_by (Each k) values (Seg a b) ≡ k → value_by (Each k) values (Seg c d) ≡ k → 1 ≤ k → Unequal coeff (Seg a b) (Seg c d) → ⊥
  segments_alike k coeff a b c d one another more =
      not_unequal k coeff (Seg a b) (Seg c d) (one ∙ sym another) (positive k a b (omega (arith, one, more))) (positive k c d (omega (arith, another, more)))

  open_segment : (k a b : ℕ) → a ≢ b → list_any (are_same_points (a, b, 0)) (segments_of values) ≡ false → value_by (Each k) values (Seg a b) ≡ k
  open_segment k a b apart none = by_whole a b k apart ∙ open_value segment_points (a, b, 0) (canonical (Seg a b)) (segment_there a b) k values none

  more_than_zero : (a b : ℕ) → list_any (are_same_points (a, b, 0)) (zero_segments_of values) ≡ false → 1 ≤ value_in_list (Each 1) values (canonical (Seg a b))
  more_than_zero a b none = positive_value segment_points (a, b, 0) (canonical (Seg a b)) (segment_there a b) 1 values (omega arith) none

  kept_segment : (a b : ℕ) → a ≢ b → value_by (Each (value_in_list (Each 1) values (canonical (Seg a b)))) values (Seg a b) ≡ value_in_list (Each 1) values (canonical (Seg a b))
  kept_segment a b apart = by_whole a b (value_in_list (Each 1) values (canonical (Seg a b))) apart ∙ kept_value (canonical (Seg a b)) values

  -- one of two segments is not listed, and neither is 0
  segments_apart : (coeff a b c d : ℕ) → a ≢ b → c ≢ d → list_any (are_same_points (a, b, 0)) (zero_segments_of values) ≡ false
      → list_any (are_same_points (c, d, 0)) (zero_segments_of values) ≡ false
      → (list_any (are_same_points (a, b, 0)) (segments_of values) ≡ false) ⊎ (list_any (are_same_points (c, d, 0)) (segments_of values) ≡ false) → Unequal coeff (Seg a b) (Seg c d) → ⊥
  segments_apart coeff a b c d first second zero another none = elim none [
    | inl one ↦
        let m = value_in_list (Each 1) values (canonical (Seg c d)) in
        segments_alike m coeff a b c d (open_segment m a b first one) (kept_segment c d second) (more_than_zero c d another)
    | inr two ↦
        let m = value_in_list (Each 1) values (canonical (Seg a b)) in
        segments_alike m coeff a b c d (kept_segment a b first) (open_segment m c d second two) (more_than_zero a b zero)
  ]

  -- ---- in a search

  angles_unseen : (n : Numbers) (x y z u v w : ℕ) (seen : List Bool) → are_angles_within values ≡ true → AreSeenAngles (angles_of values) n (Ang x y z) (Ang u v w) seen
      → NeverDifferUnseen facts n (Ang x y z) (Ang u v w) seen
  angles_unseen n x y z u v w seen bounds are = λ next out coeff rest.
      let f = later_number n (next ∷ rest) in angles_apart coeff (f x) (f y) (f z) (f u) (f v) (f w) bounds (are next out rest)

  segments_unseen : (n : Numbers) (x y u v : ℕ) (seen : List Bool) → AreSeenSegments (segments_of values) (zero_segments_of values) n (Seg x y) (Seg u v) seen
      → NeverDifferUnseen facts n (Seg x y) (Seg u v) seen
  segments_unseen n x y u v seen are = λ next out coeff rest.
      let f = later_number n (next ∷ rest) in
      let here = are next out rest in segments_apart coeff (f x) (f y) (f u) (f v) here.1.1 here.2.1 here.1.0 here.2.0 here.0

  pub angles_never : (n : Numbers) (t other : Term) (x y z u v w : ℕ) (points : List Points) (seen : Option (List Bool)) → are_angles_within values ≡ true → t ≡ Ang x y z
      → other ≡ Ang u v w → points ≡ angles_of values → IfSome seen (AreSeenAngles points n t other) → IfSome seen (NeverDifferUnseen facts n t other)
  angles_never n t other x y z u v w points None bounds e f g are = are
  angles_never n t other x y z u v w points (Some s) bounds e f g are =
      subst (λ (a : Term). NeverDifferUnseen facts n a other s) (sym e)
      (subst (λ (b : Term). NeverDifferUnseen facts n (Ang x y z) b s) (sym f)
      (angles_unseen n x y z u v w s bounds
      (subst (λ (ps : List Points). AreSeenAngles ps n (Ang x y z) (Ang u v w) s) g
      (subst (λ (b : Term). AreSeenAngles points n (Ang x y z) b s) f (subst (λ (a : Term). AreSeenAngles points n a other s) e are)))))

  pub segments_never : (n : Numbers) (t other : Term) (x y u v : ℕ) (points zeros : List Points) (seen : Option (List Bool)) → t ≡ Seg x y → other ≡ Seg u v → points ≡ segments_of values
      → zeros ≡ zero_segments_of values → IfSome seen (AreSeenSegments points zeros n t other) → IfSome seen (NeverDifferUnseen facts n t other)
  segments_never n t other x y u v points zeros None e f g h are = are
  segments_never n t other x y u v points zeros (Some s) e f g h are =
      subst (λ (a : Term). NeverDifferUnseen facts n a other s) (sym e)
      (subst (λ (b : Term). NeverDifferUnseen facts n (Seg x y) b s) (sym f)
      (segments_unseen n x y u v s
      (subst (λ (zs : List Points). AreSeenSegments (segments_of values) zs n (Seg x y) (Seg u v) s) h
      (subst (λ (ps : List Points). AreSeenSegments ps zeros n (Seg x y) (Seg u v) s) g
      (subst (λ (b : Term). AreSeenSegments points zeros n (Seg x y) b s) f (subst (λ (a : Term). AreSeenSegments points zeros n a other s) e are))))))

  pub angles_open : (n : Numbers) (t other : Term) (x y z u v w : ℕ) (points : List Points) → are_angles_within values ≡ true → t ≡ Ang x y z → other ≡ Ang u v w
      → points ≡ angles_of values → IsOneUnlisted points n t other → NeverDiffer facts n t other
  angles_open n t other x y z u v w points bounds e f g one =
      subst (λ (a : Term). NeverDiffer facts n a other) (sym e)
      (subst (λ (b : Term). NeverDiffer facts n (Ang x y z) b) (sym f)
      (at
      (subst (λ (ps : List Points). IsOneUnlisted ps n (Ang x y z) (Ang u v w)) g
      (subst (λ (b : Term). IsOneUnlisted points n (Ang x y z) b) f (subst (λ (a : Term). IsOneUnlisted points n a other) e one)))))
    where
      at : IsOneUnlisted (angles_of values) n (Ang x y z) (Ang u v w) → NeverDiffer facts n (Ang x y z) (Ang u v w)
      at (inl first) = λ coeff rest.
          let h = later_number n rest in angles_apart coeff (h x) (h y) (h z) (h u) (h v) (h w) bounds (inl (first rest))
      at (inr second) = λ coeff rest.
          let h = later_number n rest in angles_apart coeff (h x) (h y) (h z) (h u) (h v) (h w) bounds (inr (second rest))
