-- Sums whose rows are named by places refute what they refuted.
use Rattle.std.proofs.Common.{◌≡◌, ℕ, suc, ◌^◌, List, [], ◌∷◌, length, map, refl, sym, ap, ap₂, ◌∙◌, subst, arith, Bool, true, false, not, cond, ◌&&◌, true≢false, ◌⊎◌, inl, inr, Option, Some, None, unwrap_or}
use Rattle.std.specs.Prelude.{option_and_then, nat_le}
use Rattle.std.specs.Option.{option_map_or, option_map}
use Rattle.std.specs.List.{list_all}
use Rattle.std.specs.Ordering.{int_eq}
use Rattle.std.proofs.lemmas.Option.{none-some, same_Some}
use lib.IntN.{ℤ, pos, ◌*ℤ◌, neg_ℤ}
use Rattle.e_literal.specs.declared.object.Term.{Term}
use Rattle.e_literal.specs.declared.object.Term.TheVariants.{Seg, Ang, Area, Right}
use Rattle.e_literal.specs.declared.literal.Lit.{Lit}
use Rattle.e_literal.specs.Facts.{has}
use Rattle.e_literal.specs.Rows.{Row, Zero, Not, coefficient, row_of_lit}
use Rattle.e_literal.specs.Absurd.{Weighed, allows_multiplier, is_strict, is_absurd}
use Rattle.e_literal.proofs.Arith.{sums, neg_mul, mul_neg, size_negative, zero_is, is_zero}
use Rattle.e_literal.proofs.Booleans.{and_left, and_right, same_bool}
use Rattle.e_literal.proofs.Valued.{coefficient_negative}
use Rattle.e_clause.specs.declared.cert.RowName.{RowName}
use Rattle.e_clause.specs.declared.cert.RowName.TheVariants.{Fact, Goal, Pos, Top, Right as RightRow, Least, Above, Below, FactAt}
use Rattle.e_clause.specs.declared.cert.Sums.{Sums}
use Rattle.e_clause.specs.declared.cert.Sums.TheVariants.{One, Two}
use Rattle.e_clause.specs.Sum.{RowScope, fact_row, row_at, says_differ, unless_not, pos_of, top_of, row_named, weighed_rows, is_nonzero_bounded, is_limited_sum, refutes}
use Rattle.e_clause.specs.MetricCertificate.{differing_of, differing_row, above_row, below_row, both_refute, sums_refute}
use Rattle.e_clause.proofs.Refuted.{option_split, found}
use Rattle.e_places.specs.Numbered.{place_of_same, have_opposite_rows, has_opposite_row, name_with_place, turns, sum_with_places, opposite_side, sides_swapped, two_placed, sums_with_places}
use Rattle.e_places.proofs.placing.AlikeRows.{placed_fact, AreAlike, alike_rows}
use Rattle.e_places.proofs.placing.AlikeSums.{HaveOneShare, AllHaveOneShare, absurd_together}

cond_some : {A : Type 0} (b : Bool) (o : Option A) (a : A) → cond b o None ≡ Some a → (b ≡ true) × (o ≡ Some a)
cond_some true o a e = (refl, e)
cond_some false o a e = absurd (none-some a e)

-- a row that may stand in a sum
kept_row : (o : Option Row) (r : Row) → unless_not o ≡ Some r → (o ≡ Some r) × (says_differ r.sense ≡ false)
kept_row None r e = absurd (none-some r e)
kept_row (Some x) r e = by (says_differ x.sense) refl e
  where
    by : (b : Bool) → says_differ x.sense ≡ b → cond b None (Some x) ≡ Some r → (Some x ≡ Some r) × (says_differ r.sense ≡ false)
    by true d k = absurd (none-some r k)
    by false d k = (k, ap (λ (y : Row). says_differ y.sense) (sym (same_Some x r k)) ∙ d)

-- ---- one fact

-- the row of a literal that is a fact, and of the fact at its place
pub fact_placed : (facts : List Lit) (l : Lit) (r : Row) → fact_row facts l ≡ Some r → (s : Row) × (row_at facts (place_of_same facts l) ≡ Some s) × AreAlike (has_opposite_row facts l) r s
fact_placed facts l r e =
    let k = cond_some (has facts l) (row_of_lit l) r e in
    let f = placed_fact facts l k.0 in
    let s = alike_rows f.0 l r f.2 k.1 in
    (s.0, ap (option_and_then row_of_lit) f.1 ∙ s.1, subst (λ b. AreAlike b r s.0) (sym (ap (λ (o : Option Lit). have_opposite_rows l.atom (unwrap_or o l).atom) f.1)) s.2)

alike_self : (r : Row) → AreAlike false r r
alike_self r = record { sense = refl; form = λ t. refl; sign = λ k. absurd (true≢false (sym k)) }

-- the share in a sum stays
one_share : (turned : Bool) (n : ℤ) (r s : Row) → AreAlike turned r s → HaveOneShare (record { multiplier = n; row = r }) (record { multiplier = cond turned (neg_ℤ n) n; row = s })
one_share false n r s h = record {
  share = λ t. ap (λ z. n *ℤ z) (h.form t);
  good = ap (λ x. allows_multiplier x n) h.sense;
  strict = ap (λ x. is_strict x n) h.sense;
}
one_share true n r s h = record {
  share = λ t. ap (λ z. neg_ℤ n *ℤ z) (h.form t) ∙ omega (arith, sums, neg_mul n (neg_ℤ (coefficient r.form t)), mul_neg n (coefficient r.form t));
  good = ap (λ x. allows_multiplier x (neg_ℤ n)) h.sense ∙ signs (h.sign refl);
  strict = ap (λ x. is_strict x (neg_ℤ n)) h.sense ∙ stricts (h.sign refl);
}
  where
    signs : (r.sense ≡ Zero) ⊎ (r.sense ≡ Not) → allows_multiplier r.sense (neg_ℤ n) ≡ allows_multiplier r.sense n
    signs (inl e) = ap (λ x. allows_multiplier x (neg_ℤ n)) e ∙ sym (ap (λ x. allows_multiplier x n) e)
    signs (inr e) = ap (λ x. allows_multiplier x (neg_ℤ n)) e ∙ sym (ap (λ x. allows_multiplier x n) e)

    stricts : (r.sense ≡ Zero) ⊎ (r.sense ≡ Not) → is_strict r.sense (neg_ℤ n) ≡ is_strict r.sense n
    stricts (inl e) = ap (λ x. is_strict x (neg_ℤ n)) e ∙ sym (ap (λ x. is_strict x n) e)
    stricts (inr e) = ap (λ x. is_strict x (neg_ℤ n)) e ∙ sym (ap (λ x. is_strict x n) e)

-- ---- sums, whose names change sides or do not

abbrev side : Bool → RowName → RowName
side swap name = cond swap (opposite_side name) name

abbrev sided : Bool → List (ℤ × RowName) → List (ℤ × RowName)
sided swap xs = map (λ (x : ℤ × RowName). (x.0, side swap x.1)) xs

not_sided : (xs : List (ℤ × RowName)) → sided false xs ≡ xs
not_sided [] = refl
not_sided (x ∷ xs) = ap (λ ys. x ∷ ys) (not_sided xs)

good_negative : (n : ℤ) → is_nonzero_bounded (neg_ℤ n) ≡ is_nonzero_bounded n
good_negative n = ap₂ {A = Bool} {B = Bool} (λ a b. not a && b)
    (same_bool (int_eq (neg_ℤ n) (pos 0)) (int_eq n (pos 0)) (λ h. is_zero n (let e = zero_is (neg_ℤ n) h in omega (arith, sums, e))) (λ h. is_zero (neg_ℤ n) (ap neg_ℤ (zero_is n h))))
    (ap (λ k. nat_le k (2 ^ 80)) (size_negative n))

module _ (facts : List Lit) (swap : Bool) where
  abbrev renamed : List (ℤ × RowName) → List (ℤ × RowName)
  renamed xs = sided swap (sum_with_places facts xs)

  all_good : (xs : List (ℤ × RowName)) → list_all (λ x. is_nonzero_bounded x.0) (renamed xs) ≡ list_all (λ x. is_nonzero_bounded x.0) xs
  all_good [] = refl
  all_good (x ∷ xs) = ap₂ {A = Bool} {B = Bool} (λ a b. a && b) (by (turns facts x.1)) (all_good xs)
    where
      by : (b : Bool) → is_nonzero_bounded (cond b (neg_ℤ x.0) x.0) ≡ is_nonzero_bounded x.0
      by true = good_negative x.0
      by false = refl

  same_length : (xs : List (ℤ × RowName)) → length (renamed xs) ≡ length xs
  same_length [] = refl
  same_length (x ∷ xs) = ap suc (same_length xs)

  same_size : (xs : List (ℤ × RowName)) → is_limited_sum (renamed xs) ≡ is_limited_sum xs
  same_size xs = ap₂ {A = ℕ} {B = Bool} (λ n b. nat_le 1 n && (nat_le n 4096 && b)) (same_length xs) (all_good xs)

  module _ (wanted : Option Lit) (above below above' below' : Option Row) where
    abbrev old : RowScope
    old = record { facts = facts; wanted = wanted; above = above; below = below }

    abbrev new : RowScope
    new = record { facts = facts; wanted = wanted; above = above'; below = below' }

    -- the name has a row alike
    abbrev Named : RowName → Row → Type 0
    Named name r = (s : Row) × (row_named new (side swap (name_with_place facts name)) ≡ Some s) × AreAlike (turns facts name) r s

    same_pos : (t : Term) → pos_of new t ≡ pos_of old t
    same_pos (Seg a b) = refl
    same_pos (Ang a b c) = refl
    same_pos (Area a b c) = refl
    same_pos Right = refl

    same_top : (t : Term) → top_of new t ≡ top_of old t
    same_top (Seg a b) = refl
    same_top (Ang a b c) = refl
    same_top (Area a b c) = refl
    same_top Right = refl

    -- a name that has no side stays
    stays : (name : RowName) (r : Row) → opposite_side (name_with_place facts name) ≡ name_with_place facts name → turns facts name ≡ false → row_named new (name_with_place facts name) ≡ Some r → Named name r
    stays name r o t e = (r, ap (row_named new) (by swap) ∙ e, subst (λ b. AreAlike b r r) (sym t) (alike_self r))
      where
        by : (b : Bool) → side b (name_with_place facts name) ≡ name_with_place facts name
        by true = o
        by false = refl

    module _ (high : (r : Row) → above ≡ Some r → Named Above r) (low : (r : Row) → below ≡ Some r → Named Below r) where
      named : (name : RowName) (r : Row) → row_named old name ≡ Some r → Named name r
      named (Fact l) r e =
          let k = kept_row (fact_row facts l) r e in
          let s = fact_placed facts l r k.0 in
          let may : says_differ s.0.sense ≡ false = ap says_differ s.2.sense ∙ k.1 in
          (s.0, ap (row_named new) (by swap) ∙ ap unless_not s.1 ∙ ap (λ b. cond b None (Some s.0)) may, s.2)
        where
          by : (b : Bool) → side b (FactAt (place_of_same facts l)) ≡ FactAt (place_of_same facts l)
          by true = refl
          by false = refl
      named Goal r e = stays Goal r refl refl e
      named (Pos t) r e = stays (Pos t) r refl refl (same_pos t ∙ e)
      named (Top t) r e = stays (Top t) r refl refl (same_top t ∙ e)
      named RightRow r e = stays RightRow r refl refl e
      named (Least t) r e = stays (Least t) r refl refl e
      named Above r e = high r e
      named Below r e = low r e
      named (FactAt k) r e = stays (FactAt k) r refl refl e

      weighed : (xs : List (ℤ × RowName)) (ws : List Weighed) → weighed_rows old xs ≡ Some ws → (vs : List Weighed) × (weighed_rows new (renamed xs) ≡ Some vs) × AllHaveOneShare ws vs
      weighed [] ws e = ([], refl, subst (λ l. AllHaveOneShare l []) (same_Some [] ws e) tt)
      weighed (x ∷ xs) ws e = by (option_split (row_named old x.1)) (option_split (weighed_rows old xs)) (λ us f. weighed xs us f)
        where
          first : ℤ → Row → List Weighed → List Weighed
          first n r rs = record { multiplier = n; row = r } ∷ rs

          by : (row_named old x.1 ≡ None) ⊎ (r : Row) × (row_named old x.1 ≡ Some r) → (weighed_rows old xs ≡ None) ⊎ (us : List Weighed) × (weighed_rows old xs ≡ Some us)
              → ((us : List Weighed) → weighed_rows old xs ≡ Some us → (vs : List Weighed) × (weighed_rows new (renamed xs) ≡ Some vs) × AllHaveOneShare us vs)
              → (vs : List Weighed) × (weighed_rows new (renamed (x ∷ xs)) ≡ Some vs) × AllHaveOneShare ws vs
          by (inl n) o go = absurd (none-some ws (sym (ap (option_and_then (λ r. option_map (first x.0 r) (weighed_rows old xs))) n) ∙ e))
          by (inr k) (inl n) go = absurd (none-some ws (sym (ap (option_and_then (λ r. option_map (first x.0 r) (weighed_rows old xs))) k.1 ∙ ap (option_map (first x.0 k.0)) n) ∙ e))
          by (inr k) (inr m) go =
              let is : first x.0 k.0 m.0 ≡ ws = same_Some (first x.0 k.0 m.0) ws (sym (ap (option_and_then (λ r. option_map (first x.0 r) (weighed_rows old xs))) k.1 ∙ ap (option_map (first x.0 k.0)) m.1) ∙ e) in
              let s = named x.1 k.0 k.1 in
              let later = go m.0 m.1 in
              let n : ℤ = cond (turns facts x.1) (neg_ℤ x.0) x.0 in (
                first n s.0 later.0,
                ap (option_and_then (λ r. option_map (first n r) (weighed_rows new (renamed xs)))) s.1 ∙ ap (option_map (first n s.0)) later.1,
                subst (λ l. AllHaveOneShare l (first n s.0 later.0)) is (one_share (turns facts x.1) x.0 k.0 s.0 s.2, later.2),
              )

      -- the sum refutes still
      refutes_on : (xs : List (ℤ × RowName)) → refutes old xs ≡ true → refutes new (renamed xs) ≡ true
      refutes_on xs h =
          let k = found is_absurd (weighed_rows old xs) (and_right (is_limited_sum xs) (option_map_or is_absurd (weighed_rows old xs) false) h) in
          let s = weighed xs k.0 k.1 in
          ap₂ {A = Bool} {B = Bool} (λ a b. a && b)
          (same_size xs ∙ and_left (is_limited_sum xs) (option_map_or is_absurd (weighed_rows old xs) false) h)
          (ap (λ o. option_map_or is_absurd o false) s.1 ∙ absurd_together k.0 s.0 s.2 k.2)

-- ---- certificates with one sum or two

-- the row that is said not to be 0, and its place
differing_placed : (facts : List Lit) (wanted : Option Lit) (name : RowName) (r : Row) → differing_row facts wanted name ≡ Some r
    → (s : Row) × (differing_row facts wanted (name_with_place facts name) ≡ Some s) × AreAlike (turns facts name) r s
differing_placed facts wanted name r e = by (option_split (differing_of facts wanted name))
  where
    test : Row → Option Row
    test x = cond (says_differ x.sense) (Some x) None

    at : (name : RowName) (x : Row) → differing_of facts wanted name ≡ Some x → (s : Row) × (differing_of facts wanted (name_with_place facts name) ≡ Some s) × AreAlike (turns facts name) x s
    at (Fact l) x k = fact_placed facts l x k
    at Goal x k = (x, k, alike_self x)
    at (Pos t) x k = absurd (none-some x k)
    at (Top t) x k = absurd (none-some x k)
    at RightRow x k = absurd (none-some x k)
    at (Least t) x k = absurd (none-some x k)
    at Above x k = absurd (none-some x k)
    at Below x k = absurd (none-some x k)
    at (FactAt n) x k = (x, k, alike_self x)

    by : (differing_of facts wanted name ≡ None) ⊎ (x : Row) × (differing_of facts wanted name ≡ Some x) → (s : Row) × (differing_row facts wanted (name_with_place facts name) ≡ Some s) × AreAlike (turns facts name) r s
    by (inl n) = absurd (none-some r (sym (ap (option_and_then test) n) ∙ e))
    by (inr m) =
        let k = cond_some (says_differ m.0.sense) (Some m.0) r (sym (ap (option_and_then test) m.1) ∙ e) in
        let s = at name m.0 m.1 in
        let differs : says_differ s.0.sense ≡ true = ap says_differ s.2.sense ∙ k.0 in
        (s.0, ap (option_and_then test) s.1 ∙ ap (λ b. cond b (Some s.0) None) differs, subst (λ x. AreAlike (turns facts name) x s.0) (same_Some m.0 r k.1) s.2)

above_alike : (r s : Row) → AreAlike false r s → AreAlike false (above_row r) (above_row s)
above_alike r s h = record { sense = refl; form = h.form; sign = λ k. absurd (true≢false (sym k)) }

below_alike : (r s : Row) → AreAlike false r s → AreAlike false (below_row r) (below_row s)
below_alike r s h = record { sense = refl; form = λ t. coefficient_negative s.form t ∙ ap neg_ℤ (h.form t) ∙ sym (coefficient_negative r.form t); sign = λ k. absurd (true≢false (sym k)) }

turned_above : (r s : Row) → AreAlike true r s → AreAlike false (above_row r) (below_row s)
turned_above r s h = record {
  sense = refl;
  form = λ t. coefficient_negative s.form t ∙ ap neg_ℤ (h.form t) ∙ omega (arith, sums);
  sign = λ k. absurd (true≢false (sym k));
}

turned_below : (r s : Row) → AreAlike true r s → AreAlike false (below_row r) (above_row s)
turned_below r s h = record { sense = refl; form = λ t. h.form t ∙ sym (coefficient_negative r.form t); sign = λ k. absurd (true≢false (sym k)) }

-- what the sums refute is refuted by them where they have places
pub placed_refute : (facts : List Lit) (wanted : Option Lit) (s : Sums) → sums_refute facts wanted s ≡ true → sums_refute facts wanted (sums_with_places facts s) ≡ true
placed_refute facts wanted (One sum) h =
    subst (λ xs. refutes (record { facts = facts; wanted = wanted; above = None; below = None }) xs ≡ true) (not_sided (sum_with_places facts sum))
    (refutes_on facts false wanted None None None None (λ r e. absurd (none-some r e)) (λ r e. absurd (none-some r e)) sum h)
placed_refute facts wanted (Two differs first second) h =
    let k = found (λ r. both_refute facts wanted r first second) (differing_row facts wanted differs) h in
    let s = differing_placed facts wanted differs k.0 k.1 in
    by (turns facts differs) k.0 s.0 s.1 s.2 k.2
  where
    by : (b : Bool) (r s : Row) → differing_row facts wanted (name_with_place facts differs) ≡ Some s → AreAlike b r s → both_refute facts wanted r first second ≡ true
        → sums_refute facts wanted (two_placed b (name_with_place facts differs) (sum_with_places facts first) (sum_with_places facts second)) ≡ true
    by false r s e h both =
        let high : RowScope = record { facts = facts; wanted = wanted; above = Some (above_row r); below = None } in
        let low : RowScope = record { facts = facts; wanted = wanted; above = None; below = Some (below_row r) } in
        let one = refutes_on facts false wanted (Some (above_row r)) None (Some (above_row s)) None
        (λ x k. (above_row s, refl, subst (λ y. AreAlike false y (above_row s)) (same_Some (above_row r) x k) (above_alike r s h))) (λ x k. absurd (none-some x k))
        first (and_left (refutes high first) (refutes low second) both) in
        let two = refutes_on facts false wanted None (Some (below_row r)) None (Some (below_row s))
        (λ x k. absurd (none-some x k)) (λ x k. (below_row s, refl, subst (λ y. AreAlike false y (below_row s)) (same_Some (below_row r) x k) (below_alike r s h)))
        second (and_right (refutes high first) (refutes low second) both) in
        ap (λ o. option_map_or (λ x. both_refute facts wanted x (sum_with_places facts first) (sum_with_places facts second)) o false) e
        ∙ ap₂ {A = Bool} {B = Bool} (λ a b. a && b)
        (subst (λ xs. refutes (record { facts = facts; wanted = wanted; above = Some (above_row s); below = None }) xs ≡ true) (not_sided (sum_with_places facts first)) one)
        (subst (λ xs. refutes (record { facts = facts; wanted = wanted; above = None; below = Some (below_row s) }) xs ≡ true) (not_sided (sum_with_places facts second)) two)
    by true r s e h both =
        let high : RowScope = record { facts = facts; wanted = wanted; above = Some (above_row r); below = None } in
        let low : RowScope = record { facts = facts; wanted = wanted; above = None; below = Some (below_row r) } in
        let one = refutes_on facts true wanted None (Some (below_row r)) (Some (above_row s)) None
        (λ x k. absurd (none-some x k)) (λ x k. (above_row s, refl, subst (λ y. AreAlike false y (above_row s)) (same_Some (below_row r) x k) (turned_below r s h)))
        second (and_right (refutes high first) (refutes low second) both) in
        let two = refutes_on facts true wanted (Some (above_row r)) None None (Some (below_row s))
        (λ x k. (below_row s, refl, subst (λ y. AreAlike false y (below_row s)) (same_Some (above_row r) x k) (turned_above r s h))) (λ x k. absurd (none-some x k))
        first (and_left (refutes high first) (refutes low second) both) in
        ap (λ o. option_map_or (λ x. both_refute facts wanted x (sides_swapped (sum_with_places facts second)) (sides_swapped (sum_with_places facts first))) o false) e
        ∙ ap₂ {A = Bool} {B = Bool} (λ a b. a && b) one two
