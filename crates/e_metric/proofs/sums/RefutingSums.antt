-- Multipliers of named rows that refute them make a sum that refutes.
use Rattle.std.proofs.Common.{◌≡◌, ◌≢◌, ℕ, suc, ◌+◌, ◌<◌, ◌≤◌, ◌^◌, List, [], ◌∷◌, ◌++◌, map, length, get_or, refl, sym, ap, ap₂, ◌∙◌, subst, arith, cond, Bool, true, false, not, ◌&&◌, ◌||◌, ◌⊎◌, inl, inr, Option, Some, None, le-leb, length-append}
use Rattle.std.specs.Prelude.{unsigned_abs, neg_ℤ, nat_le, int_le, int_lt, option_and_then}
use Rattle.std.specs.Option.{option_map, option_map_or}
use Rattle.std.specs.List.{list_any, list_all}
use Rattle.std.specs.Ordering.{int_eq}
use Rattle.std.proofs.lemmas.List.Folds.{list_any-append, list_all-append}
use Rattle.std.proofs.lemmas.Int.{ints}
use Rattle.std.proofs.lemmas.Bool.{and_from, or_left, or_right}
use borrow.Author.Differences.{abs_is}
use lib.IntN.{ℤ, pos, ◌+ℤ◌, ◌*ℤ◌, ◌-ℤ◌, *ℤ-zero, zero-*ℤ}
use lib.Signed.{◌≤ℤ◌, ◌<ℤ◌}
use Rattle.e_literal.specs.declared.object.Term.{Term}
use Rattle.e_literal.specs.declared.object.Mono.{Mono}
use Rattle.e_literal.specs.Same.{canonical, term_eq, one_term}
use Rattle.e_literal.specs.Rows.{Row, Sense, Zero, AtLeast, More, Not, coefficient, terms_of_rows, is_degenerate, has_term}
use Rattle.e_literal.specs.Absurd.{Weighed, total, allows_multiplier, is_strict, is_absurd}
use Rattle.e_literal.proofs.Arith.{sums, mul_one, zero_is, is_zero, not_zero}
use Rattle.e_literal.proofs.Terms.{term_eq_is, term_eq_turned}
use Rattle.e_literal.proofs.CanonicalTerms.{one_term_is}
use Rattle.e_literal.proofs.Valued.{is_normal, normal_coefficient}
use Rattle.e_literal.proofs.Booleans.{and_left, all_hold}
use Rattle.e_clause.specs.declared.cert.RowName.{RowName}
use Rattle.e_clause.specs.declared.cert.RowName.TheVariants.{Least}
use Rattle.e_clause.specs.System.{least_row}
use Rattle.e_clause.specs.Sum.{RowScope, is_step_term, row_named, weighed_rows, is_nonzero_bounded, is_limited_sum, refutes}
use Rattle.e_simplex.specs.Answer.{each_weighed, MayTake, AreMultipliers, TakesMore, Refutes}
use Rattle.e_metric.specs.inner.Certificate.{named_multipliers, leasts}
use Rattle.e_metric.proofs.terms.FirstTerms.{Once, has_same}

-- ---- numbers

below_is : (z : ℤ) → int_lt z (pos 0) ≡ true → z <ℤ pos 0
below_is z h = grind (arith, ints)

not_below : (z : ℤ) → int_lt z (pos 0) ≡ false → pos 0 ≤ℤ z
not_below z h = grind (arith, ints)

at_least_is : (z : ℤ) → pos 0 ≤ℤ z → int_le (pos 0) z ≡ true
at_least_is z h = grind (arith, ints)

one_is : (z : ℤ) → pos 1 ≤ℤ z → int_le (pos 1) z ≡ true
one_is z h = grind (arith, ints)

-- ---- what brings each term to 0

-- the row that says that a term is at least 0 has that term, once
least_coefficient : (t u : Term) → coefficient (least_row t).form u ≡ cond (is_normal u) (cond (one_term t u) (pos 1) (pos 0)) (pos 0)
least_coefficient t u =
    (let one : Mono = record { coeff = 1; term = t } in normal_coefficient (one ∷ []) [] u ∙ by (is_normal u) (one_term t u))
  where
    by : (a b : Bool) → cond a (pos (cond b 1 0 + 0) -ℤ pos 0) (pos 0) ≡ cond a (cond b (pos 1) (pos 0)) (pos 0)
    by true true = omega (arith, sums)
    by true false = omega (arith, sums)
    by false b = refl

abbrev one_least : (Term → ℤ) → Term → Weighed
one_least left t = record { multiplier = neg_ℤ (left (canonical t)); row = least_row t }

-- the rows of `leasts`, with their multipliers
abbrev pub least_rows : (Term → ℤ) → List Term → List Weighed
least_rows left [] = []
least_rows left (t ∷ ts) = cond (int_lt (left (canonical t)) (pos 0)) (one_least left t ∷ least_rows left ts) (least_rows left ts)

abbrev pub AllStepTerms : RowScope → List Term → Type 0
AllStepTerms p [] = Unit {0}
AllStepTerms p (t ∷ ts) = (is_step_term p t ≡ true) × AllStepTerms p ts

named_one : (p : RowScope) (m : ℤ) (n : RowName) (xs : List (ℤ × RowName)) (r : Row) (ws : List Weighed) → row_named p n ≡ Some r → weighed_rows p xs ≡ Some ws
    → weighed_rows p ((m, n) ∷ xs) ≡ Some (record { multiplier = m; row = r } ∷ ws)
named_one p m n xs r ws e h =
    ap (λ (o : Option Row). option_and_then (λ x. option_map (λ rs. record { multiplier = m; row = x } ∷ rs) (weighed_rows p xs)) o) e
    ∙ ap (λ (o : Option (List Weighed)). option_map (λ rs. record { multiplier = m; row = r } ∷ rs) o) h

least_named : (p : RowScope) (left : Term → ℤ) (ts : List Term) → AllStepTerms p ts → weighed_rows p (leasts left ts) ≡ Some (least_rows left ts)
least_named p left [] h = refl
least_named p left (t ∷ ts) h = by (int_lt (left (canonical t)) (pos 0)) (least_named p left ts h.1)
  where
    by : (b : Bool) → weighed_rows p (leasts left ts) ≡ Some (least_rows left ts)
        → weighed_rows p (cond b ((neg_ℤ (left (canonical t)), Least t) ∷ leasts left ts) (leasts left ts)) ≡ Some (cond b (one_least left t ∷ least_rows left ts) (least_rows left ts))
    by true ih = named_one p (neg_ℤ (left (canonical t))) (Least t) (leasts left ts) (least_row t) (least_rows left ts) (ap (λ b. cond b (Some (least_row t)) None) h.0) ih
    by false ih = ih

least_total : (left : Term → ℤ) (ts : List Term) (u : Term) → ((t : Term) → left t ≤ℤ pos 0) → Once ts
    → total (least_rows left ts) u ≡ cond (is_normal u && has_term ts u) (pos 0 -ℤ left u) (pos 0)
least_total left [] u neg once = none (is_normal u)
  where
    none : (a : Bool) → pos 0 ≡ cond (a && false) (pos 0 -ℤ left u) (pos 0)
    none true = refl
    none false = refl
least_total left (t ∷ ts) u neg once =
    cases (is_normal u) (one_term u t) refl refl (least_total left ts u neg once.1)
  where
    turn : one_term t u ≡ one_term u t
    turn = term_eq_turned (canonical t) (canonical u)

    own : is_normal u ≡ true → one_term u t ≡ true → canonical t ≡ u
    own ea eo = sym (one_term_is u t eo) ∙ term_eq_is (canonical u) u (and_left (term_eq (canonical u) u) (not (is_degenerate u)) ea)

    -- a row without the term adds nothing
    without : (b : Bool) → coefficient (least_row t).form u ≡ pos 0 → total (cond b (one_least left t ∷ least_rows left ts) (least_rows left ts)) u ≡ total (least_rows left ts) u
    without true e = omega (arith, sums, ap (λ x. neg_ℤ (left (canonical t)) *ℤ x) e, *ℤ-zero (neg_ℤ (left (canonical t))))
    without false e = refl

    negated_at : (z w : ℤ) → z ≡ w → neg_ℤ z +ℤ pos 0 ≡ pos 0 -ℤ w
    negated_at z w e = omega (arith, sums, e)

    with_one : (b : Bool) → int_lt (left (canonical t)) (pos 0) ≡ b → canonical t ≡ u → coefficient (least_row t).form u ≡ pos 1 → total (least_rows left ts) u ≡ pos 0
        → total (cond b (one_least left t ∷ least_rows left ts) (least_rows left ts)) u ≡ pos 0 -ℤ left u
    with_one true eb c e ih =
        ap₂ {A = ℤ} {B = ℤ} (λ x y. neg_ℤ (left (canonical t)) *ℤ x +ℤ y) e ih ∙ ap (λ x. x +ℤ pos 0) (mul_one (neg_ℤ (left (canonical t)))) ∙ negated_at (left (canonical t)) (left u) (ap left c)
    with_one false eb c e ih = ih ∙ omega (arith, sums, ap left c, not_below (left (canonical t)) eb, neg (canonical t))

    cases : (a o : Bool) → is_normal u ≡ a → one_term u t ≡ o → total (least_rows left ts) u ≡ cond (is_normal u && has_term ts u) (pos 0 -ℤ left u) (pos 0)
        → total (cond (int_lt (left (canonical t)) (pos 0)) (one_least left t ∷ least_rows left ts) (least_rows left ts)) u ≡ cond (is_normal u && (one_term u t || has_term ts u)) (pos 0 -ℤ left u) (pos 0)
    cases false o ea eo ih =
        without (int_lt (left (canonical t)) (pos 0)) (least_coefficient t u ∙ ap (λ k. cond k (cond (one_term t u) (pos 1) (pos 0)) (pos 0)) ea)
        ∙ ih ∙ ap (λ k. cond (k && has_term ts u) (pos 0 -ℤ left u) (pos 0)) ea ∙ sym (ap (λ k. cond (k && (one_term u t || has_term ts u)) (pos 0 -ℤ left u) (pos 0)) ea)
    cases true false ea eo ih =
        without (int_lt (left (canonical t)) (pos 0)) (least_coefficient t u ∙ ap₂ {A = Bool} {B = Bool} (λ k l. cond k (cond l (pos 1) (pos 0)) (pos 0)) ea (turn ∙ eo))
        ∙ ih ∙ sym (ap (λ k. cond (is_normal u && (k || has_term ts u)) (pos 0 -ℤ left u) (pos 0)) eo)
    cases true true ea eo ih =
        with_one (int_lt (left (canonical t)) (pos 0)) refl (own ea eo) (least_coefficient t u ∙ ap₂ {A = Bool} {B = Bool} (λ k l. cond k (cond l (pos 1) (pos 0)) (pos 0)) ea (turn ∙ eo))
        (ih ∙ ap₂ {A = Bool} {B = Bool} (λ k l. cond (k && l) (pos 0 -ℤ left u) (pos 0)) ea (sym (has_same ts t u (turn ∙ eo)) ∙ once.0))
        ∙ sym (ap₂ {A = Bool} {B = Bool} (λ k l. cond (k && (l || has_term ts u)) (pos 0 -ℤ left u) (pos 0)) ea eo)

-- ---- signs and sizes of what brings each term to 0

good_of : (z : ℤ) → z ≢ pos 0 → unsigned_abs z ≤ 2 ^ 80 → is_nonzero_bounded z ≡ true
good_of z n h = and_from (not (int_eq z (pos 0))) (nat_le (unsigned_abs z) (2 ^ 80)) (by (int_eq z (pos 0)) refl) (le-leb (unsigned_abs z) (2 ^ 80) h)
  where
    by : (b : Bool) → int_eq z (pos 0) ≡ b → not b ≡ true
    by true e = absurd (n (zero_is z e))
    by false e = refl

least_good : (left : Term → ℤ) (ts : List Term) → ((t : Term) → unsigned_abs (left t) ≤ 2 ^ 80) → list_all (λ (x : ℤ × RowName). is_nonzero_bounded x.0) (leasts left ts) ≡ true
least_good left [] h = refl
least_good left (t ∷ ts) h = by (int_lt (left (canonical t)) (pos 0)) refl (least_good left ts h)
  where
    by : (b : Bool) → int_lt (left (canonical t)) (pos 0) ≡ b → list_all (λ (x : ℤ × RowName). is_nonzero_bounded x.0) (leasts left ts) ≡ true
        → list_all (λ (x : ℤ × RowName). is_nonzero_bounded x.0) (cond b ((neg_ℤ (left (canonical t)), Least t) ∷ leasts left ts) (leasts left ts)) ≡ true
    by true e ih = (let k = below_is (left (canonical t)) e in
        and_from (is_nonzero_bounded (neg_ℤ (left (canonical t)))) (list_all (λ (x : ℤ × RowName). is_nonzero_bounded x.0) (leasts left ts))
        (good_of (neg_ℤ (left (canonical t))) (λ z. omega (arith, sums, k, z)) (omega (arith, sums, abs_is (neg_ℤ (left (canonical t))), abs_is (left (canonical t)), h (canonical t)))) ih)
    by false e ih = ih

least_signs : (left : Term → ℤ) (ts : List Term) → list_all (λ (w : Weighed). allows_multiplier w.row.sense w.multiplier) (least_rows left ts) ≡ true
least_signs left [] = refl
least_signs left (t ∷ ts) = by (int_lt (left (canonical t)) (pos 0)) refl (least_signs left ts)
  where
    by : (b : Bool) → int_lt (left (canonical t)) (pos 0) ≡ b → list_all (λ (w : Weighed). allows_multiplier w.row.sense w.multiplier) (least_rows left ts) ≡ true
        → list_all (λ (w : Weighed). allows_multiplier w.row.sense w.multiplier) (cond b (one_least left t ∷ least_rows left ts) (least_rows left ts)) ≡ true
    by true e ih = (let k = below_is (left (canonical t)) e in
        and_from (int_le (pos 0) (neg_ℤ (left (canonical t)))) (list_all (λ (w : Weighed). allows_multiplier w.row.sense w.multiplier) (least_rows left ts))
        (at_least_is (neg_ℤ (left (canonical t))) (omega (arith, sums, k))) ih)
    by false e ih = ih

least_length : (left : Term → ℤ) (ts : List Term) → length (leasts left ts) ≤ length ts
least_length left [] = omega arith
least_length left (t ∷ ts) = by (int_lt (left (canonical t)) (pos 0)) (least_length left ts)
  where
    by : (b : Bool) → length (leasts left ts) ≤ length ts → length (cond b ((neg_ℤ (left (canonical t)), Least t) ∷ leasts left ts) (leasts left ts)) ≤ suc (length ts)
    by true ih = omega (arith, ih)
    by false ih = omega (arith, ih)

-- ---- the rows that are kept

-- the rows whose multiplier is not 0, with their multipliers
abbrev pub kept_rows : List Row → List ℤ → List Weighed
kept_rows (r ∷ rs) (m ∷ ms) = cond (int_eq m (pos 0)) (kept_rows rs ms) (record { multiplier = m; row = r } ∷ kept_rows rs ms)
kept_rows _ _ = []

-- where a multiplier is not 0 the name means the row
abbrev pub NamedWhere : RowScope → List RowName → List Row → List ℤ → Type 0
NamedWhere p (n ∷ ns) (r ∷ rs) (m ∷ ms) = ((m ≢ pos 0) → row_named p n ≡ Some r) × NamedWhere p ns rs ms
NamedWhere p [] [] [] = Unit {0}
NamedWhere p _ _ _ = ⊥

kept_named : (p : RowScope) (ns : List RowName) (rs : List Row) (ms : List ℤ) → NamedWhere p ns rs ms → weighed_rows p (named_multipliers ns ms) ≡ Some (kept_rows rs ms)
kept_named p [] [] [] h = refl
kept_named p [] [] (m ∷ ms) h = absurd h
kept_named p [] (r ∷ rs) ms h = absurd h
kept_named p (n ∷ ns) [] ms h = absurd h
kept_named p (n ∷ ns) (r ∷ rs) [] h = absurd h
kept_named p (n ∷ ns) (r ∷ rs) (m ∷ ms) h = by (int_eq m (pos 0)) refl (kept_named p ns rs ms h.1)
  where
    by : (b : Bool) → int_eq m (pos 0) ≡ b → weighed_rows p (named_multipliers ns ms) ≡ Some (kept_rows rs ms)
        → weighed_rows p (cond b (named_multipliers ns ms) ((m, n) ∷ named_multipliers ns ms)) ≡ Some (cond b (kept_rows rs ms) (record { multiplier = m; row = r } ∷ kept_rows rs ms))
    by true e ih = ih
    by false e ih = named_one p m n (named_multipliers ns ms) r (kept_rows rs ms) (h.0 (not_zero m e)) ih

kept_total : (rs : List Row) (ms : List ℤ) (u : Term) → total (kept_rows rs ms) u ≡ total (each_weighed rs ms) u
kept_total [] ms u = refl
kept_total (r ∷ rs) [] u = refl
kept_total (r ∷ rs) (m ∷ ms) u = by (int_eq m (pos 0)) refl (kept_total rs ms u)
  where
    by : (b : Bool) → int_eq m (pos 0) ≡ b → total (kept_rows rs ms) u ≡ total (each_weighed rs ms) u
        → total (cond b (kept_rows rs ms) (record { multiplier = m; row = r } ∷ kept_rows rs ms)) u ≡ m *ℤ coefficient r.form u +ℤ total (each_weighed rs ms) u
    by true e ih = omega (arith, sums, ih, ap (λ x. x *ℤ coefficient r.form u) (zero_is m e), zero-*ℤ (coefficient r.form u))
    by false e ih = ap (λ z. m *ℤ coefficient r.form u +ℤ z) ih

one_sign : (s : Sense) (m : ℤ) → m ≢ pos 0 → MayTake s m → allows_multiplier s m ≡ true
one_sign Zero m n h = refl
one_sign AtLeast m n h = at_least_is m h
one_sign More m n h = at_least_is m h
one_sign Not m n h = absurd (n h)

kept_signs : (rs : List Row) (ms : List ℤ) → AreMultipliers rs ms → list_all (λ (w : Weighed). allows_multiplier w.row.sense w.multiplier) (kept_rows rs ms) ≡ true
kept_signs [] ms h = refl
kept_signs (r ∷ rs) [] h = refl
kept_signs (r ∷ rs) (m ∷ ms) h = by (int_eq m (pos 0)) refl (kept_signs rs ms h.1)
  where
    by : (b : Bool) → int_eq m (pos 0) ≡ b → list_all (λ (w : Weighed). allows_multiplier w.row.sense w.multiplier) (kept_rows rs ms) ≡ true
        → list_all (λ (w : Weighed). allows_multiplier w.row.sense w.multiplier) (cond b (kept_rows rs ms) (record { multiplier = m; row = r } ∷ kept_rows rs ms)) ≡ true
    by true e ih = ih
    by false e ih = and_from (allows_multiplier r.sense m) (list_all (λ (w : Weighed). allows_multiplier w.row.sense w.multiplier) (kept_rows rs ms)) (one_sign r.sense m (not_zero m e) h.0) ih

kept_strict : (rs : List Row) (ms : List ℤ) → TakesMore rs ms → list_any (λ (w : Weighed). is_strict w.row.sense w.multiplier) (kept_rows rs ms) ≡ true
kept_strict [] ms h = absurd h
kept_strict (r ∷ rs) [] h = absurd h
kept_strict (r ∷ rs) (m ∷ ms) h = by (int_eq m (pos 0)) refl h (λ k. kept_strict rs ms k)
  where
    by : (b : Bool) → int_eq m (pos 0) ≡ b → ((r.sense ≡ More) × (pos 1 ≤ℤ m)) ⊎ TakesMore rs ms → (TakesMore rs ms → list_any (λ (w : Weighed). is_strict w.row.sense w.multiplier) (kept_rows rs ms) ≡ true)
        → list_any (λ (w : Weighed). is_strict w.row.sense w.multiplier) (cond b (kept_rows rs ms) (record { multiplier = m; row = r } ∷ kept_rows rs ms)) ≡ true
    by true e (inl k) ih = absurd (omega (arith, sums, zero_is m e, k.1))
    by true e (inr k) ih = ih k
    by false e (inl k) ih = or_left (is_strict r.sense m) (list_any (λ (w : Weighed). is_strict w.row.sense w.multiplier) (kept_rows rs ms)) (ap (λ s. is_strict s m) k.0 ∙ one_is m k.1)
    by false e (inr k) ih = or_right (is_strict r.sense m) (list_any (λ (w : Weighed). is_strict w.row.sense w.multiplier) (kept_rows rs ms)) (ih k)

kept_some : (ns : List RowName) (rs : List Row) (ms : List ℤ) → length ns ≡ length rs → TakesMore rs ms → 1 ≤ length (named_multipliers ns ms)
kept_some ns [] ms l h = absurd h
kept_some ns (r ∷ rs) [] l h = absurd h
kept_some [] (r ∷ rs) (m ∷ ms) l h = absurd (omega (arith, l))
kept_some (n ∷ ns) (r ∷ rs) (m ∷ ms) l h = by (int_eq m (pos 0)) refl h (λ k. kept_some ns rs ms (omega (arith, l)) k)
  where
    by : (b : Bool) → int_eq m (pos 0) ≡ b → ((r.sense ≡ More) × (pos 1 ≤ℤ m)) ⊎ TakesMore rs ms → (TakesMore rs ms → 1 ≤ length (named_multipliers ns ms)) → 1 ≤ length (cond b (named_multipliers ns ms) ((m, n) ∷ named_multipliers ns ms))
    by true e (inl k) ih = absurd (omega (arith, sums, zero_is m e, k.1))
    by true e (inr k) ih = ih k
    by false e k ih = omega arith

kept_length : (ns : List RowName) (ms : List ℤ) → length (named_multipliers ns ms) ≤ length ns
kept_length [] ms = omega arith
kept_length (n ∷ ns) [] = omega arith
kept_length (n ∷ ns) (m ∷ ms) = by (int_eq m (pos 0)) (kept_length ns ms)
  where
    by : (b : Bool) → length (named_multipliers ns ms) ≤ length ns → length (cond b (named_multipliers ns ms) ((m, n) ∷ named_multipliers ns ms)) ≤ suc (length ns)
    by true ih = omega (arith, ih)
    by false ih = omega (arith, ih)

kept_good : (ns : List RowName) (ms : List ℤ) → ((i : ℕ) → i < length ms → unsigned_abs (get_or ms i (pos 0)) ≤ 2 ^ 80) → list_all (λ (x : ℤ × RowName). is_nonzero_bounded x.0) (named_multipliers ns ms) ≡ true
kept_good [] ms h = refl
kept_good (n ∷ ns) [] h = refl
kept_good (n ∷ ns) (m ∷ ms) h = by (int_eq m (pos 0)) refl (kept_good ns ms (λ i l. h (suc i) (omega (arith, l))))
  where
    by : (b : Bool) → int_eq m (pos 0) ≡ b → list_all (λ (x : ℤ × RowName). is_nonzero_bounded x.0) (named_multipliers ns ms) ≡ true
        → list_all (λ (x : ℤ × RowName). is_nonzero_bounded x.0) (cond b (named_multipliers ns ms) ((m, n) ∷ named_multipliers ns ms)) ≡ true
    by true e ih = ih
    by false e ih = and_from (is_nonzero_bounded m) (list_all (λ (x : ℤ × RowName). is_nonzero_bounded x.0) (named_multipliers ns ms)) (good_of m (not_zero m e) (h 0 (omega arith))) ih

-- ---- both together

weighed_append : (p : RowScope) (xs ys : List (ℤ × RowName)) (ws vs : List Weighed) → weighed_rows p xs ≡ Some ws → weighed_rows p ys ≡ Some vs → weighed_rows p (xs ++ ys) ≡ Some (ws ++ vs)
weighed_append p [] ys ws vs h k = k ∙ ap (λ (us : List Weighed). Some (us ++ vs)) (let e : [] ≡ ws = cc in e)
weighed_append p (x ∷ xs) ys ws vs h k = by (row_named p x.1) (weighed_rows p xs) refl refl h (λ us e. weighed_append p xs ys us vs e k)
  where
    by : (o : Option Row) (q : Option (List Weighed)) → row_named p x.1 ≡ o → weighed_rows p xs ≡ q
        → option_and_then (λ (r : Row). option_map (λ (rs : List Weighed). record { multiplier = x.0; row = r } ∷ rs) q) o ≡ Some ws
        → ((us : List Weighed) → weighed_rows p xs ≡ Some us → weighed_rows p (xs ++ ys) ≡ Some (us ++ vs))
        → weighed_rows p ((x ∷ xs) ++ ys) ≡ Some (ws ++ vs)
    by None q e f g ih = absurd (cc)
    by (Some r) None e f g ih = absurd (cc)
    by (Some r) (Some us) e f g ih =
        named_one p x.0 x.1 (xs ++ ys) r (us ++ vs) e (ih us f) ∙ ap (λ (ls : List Weighed). Some (ls ++ vs)) (let s : record { multiplier = x.0; row = r } ∷ us ≡ ws = cc in s)

total_append : (ws vs : List Weighed) (u : Term) → total (ws ++ vs) u ≡ total ws u +ℤ total vs u
total_append [] vs u = omega (arith, sums)
total_append (w ∷ ws) vs u = omega (arith, sums, total_append ws vs u)

-- what a sum is made of: names for rows with multipliers that refute them, and the terms of the rows, each once
pub record IsMade (p : RowScope) (names : List RowName) (rows : List Row) (ms : List ℤ) (left : Term → ℤ) (terms : List Term) : Type 0 where
  pub refutes : Refutes rows ms
  pub named : NamedWhere p names rows ms
  pub as_many : length names ≡ length rows
  pub few : length names + length terms ≤ 4096
  pub left_is : (u : Term) → left u ≡ total (each_weighed rows ms) u
  pub once : Once terms
  pub steps : AllStepTerms p terms
  pub covers : (u : Term) → (is_normal u && has_term terms u) ≡ false → total (each_weighed rows ms) u ≡ pos 0

pub sum_refutes : (p : RowScope) (names : List RowName) (rows : List Row) (ms : List ℤ) (left : Term → ℤ) (terms : List Term) → IsMade p names rows ms left terms → refutes p (named_multipliers names ms ++ leasts left terms) ≡ true
sum_refutes p names rows ms left terms h =
    and_from (is_limited_sum (named_multipliers names ms ++ leasts left terms)) (option_map_or is_absurd (weighed_rows p (named_multipliers names ms ++ leasts left terms)) false) size
    (ap (λ (o : Option (List Weighed)). option_map_or is_absurd o false) (weighed_append p (named_multipliers names ms) (leasts left terms) (kept_rows rows ms) (least_rows left terms) (kept_named p names rows ms h.named) (least_named p left terms h.steps))
    ∙ and_from (list_all (λ t. int_eq (total ws t) (pos 0)) (terms_of_rows (map (λ (w : Weighed). w.row) ws))) (list_all (λ (w : Weighed). allows_multiplier w.row.sense w.multiplier) ws && list_any (λ (w : Weighed). is_strict w.row.sense w.multiplier) ws)
    (all_hold (λ t. int_eq (total ws t) (pos 0)) (terms_of_rows (map (λ (w : Weighed). w.row) ws)) (λ t. is_zero (total ws t) (cancels t)))
    (and_from (list_all (λ (w : Weighed). allows_multiplier w.row.sense w.multiplier) ws) (list_any (λ (w : Weighed). is_strict w.row.sense w.multiplier) ws) signs strict))
  where
    ws : List Weighed
    ws = kept_rows rows ms ++ least_rows left terms

    size : is_limited_sum (named_multipliers names ms ++ leasts left terms) ≡ true
    size =
        (let xs = named_multipliers names ms in
        let ys = leasts left terms in
        and_from (nat_le 1 (length (xs ++ ys))) (nat_le (length (xs ++ ys)) 4096 && list_all (λ (x : ℤ × RowName). is_nonzero_bounded x.0) (xs ++ ys))
        (le-leb 1 (length (xs ++ ys)) (omega (arith, length-append xs ys, kept_some names rows ms h.as_many h.refutes.more)))
        (and_from (nat_le (length (xs ++ ys)) 4096) (list_all (λ (x : ℤ × RowName). is_nonzero_bounded x.0) (xs ++ ys))
        (le-leb (length (xs ++ ys)) 4096 (omega (arith, length-append xs ys, kept_length names ms, least_length left terms, h.few)))
        (list_all-append (λ (x : ℤ × RowName). is_nonzero_bounded x.0) xs ys
        ∙ and_from (list_all (λ (x : ℤ × RowName). is_nonzero_bounded x.0) xs) (list_all (λ (x : ℤ × RowName). is_nonzero_bounded x.0) ys)
        (kept_good names ms h.refutes.small)
        (least_good left terms (λ t. subst (λ z. unsigned_abs z ≤ 2 ^ 80) (sym (h.left_is t)) (h.refutes.small_sums t))))))

    cancels : (t : Term) → total (kept_rows rows ms ++ least_rows left terms) t ≡ pos 0
    cancels t =
        total_append (kept_rows rows ms) (least_rows left terms) t
        ∙ ap₂ {A = ℤ} {B = ℤ} (λ a b. a +ℤ b) (kept_total rows ms t) (least_total left terms t (λ u. subst (λ z. z ≤ℤ pos 0) (sym (h.left_is u)) (h.refutes.no_positive u)) h.once)
        ∙ by (is_normal t && has_term terms t) refl
      where
        by : (b : Bool) → (is_normal t && has_term terms t) ≡ b → total (each_weighed rows ms) t +ℤ cond b (pos 0 -ℤ left t) (pos 0) ≡ pos 0
        by true e = omega (arith, sums, h.left_is t)
        by false e = omega (arith, sums, h.covers t e)

    signs : list_all (λ (w : Weighed). allows_multiplier w.row.sense w.multiplier) (kept_rows rows ms ++ least_rows left terms) ≡ true
    signs =
        list_all-append (λ (w : Weighed). allows_multiplier w.row.sense w.multiplier) (kept_rows rows ms) (least_rows left terms)
        ∙ and_from (list_all (λ (w : Weighed). allows_multiplier w.row.sense w.multiplier) (kept_rows rows ms)) (list_all (λ (w : Weighed). allows_multiplier w.row.sense w.multiplier) (least_rows left terms))
        (kept_signs rows ms h.refutes.taken) (least_signs left terms)

    strict : list_any (λ (w : Weighed). is_strict w.row.sense w.multiplier) (kept_rows rows ms ++ least_rows left terms) ≡ true
    strict =
        list_any-append (λ (w : Weighed). is_strict w.row.sense w.multiplier) (kept_rows rows ms) (least_rows left terms)
        ∙ or_left (list_any (λ (w : Weighed). is_strict w.row.sense w.multiplier) (kept_rows rows ms)) (list_any (λ (w : Weighed). is_strict w.row.sense w.multiplier) (least_rows left terms))
        (kept_strict rows ms h.refutes.more)
