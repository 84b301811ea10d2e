-- Multipliers that refute the rows of a metric system make a certificate.
use Rattle.std.proofs.Common.{◌≡◌, ◌≢◌, ℕ, zero, suc, ◌+◌, ◌≤◌, ◌^◌, List, [], ◌∷◌, ◌++◌, map, length, get_or, refl, sym, ap, ap₂, ◌∙◌, subst, arith, cond, Bool, true, false, ◌&&◌, ◌||◌, true≢false, ◌⊎◌, inl, inr, Option, Some, None}
use Rattle.std.specs.Prelude.{neg_ℤ, set, unsigned_abs}
use lib.Signed.{◌≤ℤ◌}
use Rattle.std.specs.Option.{option_map_or}
use Rattle.std.proofs.lemmas.List.Folds.{list_any-append}
use Rattle.std.proofs.lemmas.Bool.{and_from, or_left, or_right, or_cases}
use Rattle.std.proofs.lemmas.List.{length-map}
use lib.IntN.{ℤ, pos, ◌+ℤ◌, ◌*ℤ◌, *ℤ-zero}
use Rattle.e_literal.specs.declared.object.Kind.{Kind}
use Rattle.e_literal.specs.declared.object.Term.{Term}
use Rattle.e_literal.specs.declared.object.Term.TheVariants.{Right}
use Rattle.e_literal.specs.declared.literal.Lit.{Lit}
use Rattle.e_literal.specs.Same.{one_term, term_eq}
use Rattle.e_literal.specs.Width.{is_among}
use Rattle.e_literal.specs.Rows.{Row, Sense, Zero, AtLeast, More, Not, coefficient, has_term, first_terms}
use Rattle.e_literal.specs.Absurd.{total}
use Rattle.e_literal.proofs.Arith.{sums, neg_mul, mul_neg}
use Rattle.e_literal.proofs.Terms.{among_either, among_first, among_rest}
use Rattle.e_literal.proofs.Valued.{is_normal, coefficient_negative}
use Rattle.e_clause.specs.declared.cert.RowName.{RowName}
use Rattle.e_clause.specs.declared.cert.RowName.TheVariants.{Goal, Above, Below}
use Rattle.e_clause.specs.declared.cert.Sums.TheVariants.{Two as TwoSums}
use Rattle.e_clause.specs.System.{NamedRow, system}
use Rattle.e_clause.specs.Assignment.{terms_of_lits, terms_of_wanted, terms_of_step}
use Rattle.e_clause.specs.Sum.{RowScope, is_step_term, unless_not, says_differ, refutes}
use Rattle.e_clause.specs.MetricCertificate.{differing_row, above_row, below_row, both_refute, sums_refute}
use Rattle.e_clause.proofs.Named.{Each, IsNamed, system_named, HasNot, Misses, system_misses}
use Rattle.e_clause.proofs.Solved.{terms_of_system, system_among, first_among}
use Rattle.e_fraction.specs.declared.row.Row.{Row as GivenRow}
use Rattle.e_fraction.specs.Views.{views_of_rows, with_multipliers}
use Rattle.e_simplex.specs.declared.decision.Absurdity.{Absurdity}
use Rattle.e_simplex.specs.declared.decision.Absurdity.TheVariants.{One, Two}
use Rattle.e_simplex.specs.Answer.{each_weighed, MayTake, AreMultipliers, TakesMore, Refutes, IsNotAt, as_more, as_less, RefutesBoth, IsAbsurdity}
use Rattle.e_metric.specs.AgreeingRows.{AreRows}
use Rattle.e_metric.specs.ListedTerms.{with_listed, distinct_terms}
use Rattle.e_metric.specs.inner.Certificate.{certificate_sum, negated_place, certificate_sums}
use Rattle.e_metric.proofs.rows.SameCoefficients.{Alike}
use Rattle.e_metric.specs.RowOrder.{AreReordered}
use Rattle.e_metric.proofs.rows.RowOrder.{each_reordered}
use Rattle.e_metric.proofs.terms.FirstTerms.{Once, first_once, first_has, with_right}
use Rattle.e_metric.proofs.sums.RefutingSums.{NamedWhere, AllStepTerms, sum_refutes}

-- ---- the rows of the program and of the definitions

abbrev name_of : NamedRow → RowName
name_of n = n.name

abbrev row_of : NamedRow → Row
row_of n = n.row

abbrev pub names_given : List (RowName × GivenRow) → List RowName
names_given ps = map (λ (p : RowName × GivenRow). p.0) ps

abbrev pub rows_given : List (RowName × GivenRow) → List GivenRow
rows_given ps = map (λ (p : RowName × GivenRow). p.1) ps

pub names_are : (ns : List NamedRow) (ps : List (RowName × GivenRow)) → AreRows ns ps → names_given ps ≡ map name_of ns
names_are [] [] h = refl
names_are [] (p ∷ ps) h = absurd h
names_are (n ∷ ns) [] h = absurd h
names_are (n ∷ ns) (p ∷ ps) h = ap₂ {A = RowName} {B = List RowName} (λ x xs. x ∷ xs) h.0 (names_are ns ps h.2)

pub rows_alike : (ns : List NamedRow) (ps : List (RowName × GivenRow)) → AreRows ns ps → Alike (views_of_rows (rows_given ps)) (map row_of ns)
rows_alike [] [] h = tt
rows_alike [] (p ∷ ps) h = absurd h
rows_alike (n ∷ ns) [] h = absurd h
rows_alike (n ∷ ns) (p ∷ ps) h = (record { sense = h.1.sense; coefficients = h.1.coefficients }, rows_alike ns ps h.2)

pub length_rows : (ns : List NamedRow) (ps : List (RowName × GivenRow)) → AreRows ns ps → length ns ≡ length ps
length_rows [] [] h = refl
length_rows [] (p ∷ ps) h = absurd h
length_rows (n ∷ ns) [] h = absurd h
length_rows (n ∷ ns) (p ∷ ps) h = ap suc (length_rows ns ps h.2)

-- ---- multipliers of rows that are alike

taken_alike : (rs ss : List Row) (ms : List ℤ) → Alike rs ss → AreMultipliers rs ms → AreMultipliers ss ms
taken_alike [] [] ms h t = t
taken_alike [] (q ∷ ss) ms h t = absurd h
taken_alike (r ∷ rs) [] ms h t = absurd h
taken_alike (r ∷ rs) (q ∷ ss) [] h t = absurd t
taken_alike (r ∷ rs) (q ∷ ss) (m ∷ ms) h t = (subst (λ s. MayTake s m) h.0.sense t.0, taken_alike rs ss ms h.1 t.1)

more_alike : (rs ss : List Row) (ms : List ℤ) → Alike rs ss → TakesMore rs ms → TakesMore ss ms
more_alike [] [] ms h t = t
more_alike [] (q ∷ ss) ms h t = absurd h
more_alike (r ∷ rs) [] ms h t = absurd h
more_alike (r ∷ rs) (q ∷ ss) [] h t = absurd t
more_alike (r ∷ rs) (q ∷ ss) (m ∷ ms) h (inl t) = inl (sym h.0.sense ∙ t.0, t.1)
more_alike (r ∷ rs) (q ∷ ss) (m ∷ ms) h (inr t) = inr (more_alike rs ss ms h.1 t)

total_alike : (rs ss : List Row) (ms : List ℤ) (u : Term) → Alike rs ss → total (each_weighed rs ms) u ≡ total (each_weighed ss ms) u
total_alike [] [] ms u h = refl
total_alike [] (q ∷ ss) ms u h = absurd h
total_alike (r ∷ rs) [] ms u h = absurd h
total_alike (r ∷ rs) (q ∷ ss) [] u h = refl
total_alike (r ∷ rs) (q ∷ ss) (m ∷ ms) u h = ap₂ {A = ℤ} {B = ℤ} (λ a b. m *ℤ a +ℤ b) (h.0.coefficients u) (total_alike rs ss ms u h.1)

refutes_alike : (rs ss : List Row) (ms : List ℤ) → Alike rs ss → Refutes rs ms → Refutes ss ms
refutes_alike rs ss ms h r = record {
  taken = taken_alike rs ss ms h r.taken;
  more = more_alike rs ss ms h r.more;
  small = r.small;
  no_positive = λ t. subst (λ z. z ≤ℤ pos 0) (total_alike rs ss ms t h) (r.no_positive t);
  small_sums = λ t. subst (λ z. unsigned_abs z ≤ 2 ^ 80) (total_alike rs ss ms t h) (r.small_sums t);
}

more_of_alike : (rs ss : List Row) (k : ℕ) → Alike rs ss → Alike (as_more rs k) (as_more ss k)
more_of_alike [] [] k h = tt
more_of_alike [] (q ∷ ss) k h = absurd h
more_of_alike (r ∷ rs) [] k h = absurd h
more_of_alike (r ∷ rs) (q ∷ ss) zero h = (record { sense = refl; coefficients = h.0.coefficients }, h.1)
more_of_alike (r ∷ rs) (q ∷ ss) (suc k) h = (h.0, more_of_alike rs ss k h.1)

less_of_alike : (rs ss : List Row) (k : ℕ) → Alike rs ss → Alike (as_less rs k) (as_less ss k)
less_of_alike [] [] k h = tt
less_of_alike [] (q ∷ ss) k h = absurd h
less_of_alike (r ∷ rs) [] k h = absurd h
less_of_alike (r ∷ rs) (q ∷ ss) zero h =
    (record { sense = refl; coefficients = λ t. coefficient_negative r.form t ∙ ap neg_ℤ (h.0.coefficients t) ∙ sym (coefficient_negative q.form t) }, h.1)
less_of_alike (r ∷ rs) (q ∷ ss) (suc k) h = (h.0, less_of_alike rs ss k h.1)

not_alike : (rs ss : List Row) (k : ℕ) → Alike rs ss → IsNotAt rs k → IsNotAt ss k
not_alike [] [] k h n = n
not_alike [] (q ∷ ss) k h n = absurd h
not_alike (r ∷ rs) [] k h n = absurd h
not_alike (r ∷ rs) (q ∷ ss) zero h n = sym h.0.sense ∙ n
not_alike (r ∷ rs) (q ∷ ss) (suc k) h n = not_alike rs ss k h.1 n

-- ---- what is left of a term

pub left_given : (gs : List GivenRow) (ms : List ℤ) (u : Term) → total (with_multipliers gs ms) u ≡ total (each_weighed (views_of_rows gs) ms) u
left_given [] ms u = refl
left_given (g ∷ gs) [] u = refl
left_given (g ∷ gs) (m ∷ ms) u = ap (λ z. m *ℤ coefficient g.form u +ℤ z) (left_given gs ms u)

pub left_more : (rs : List Row) (ms : List ℤ) (k : ℕ) (u : Term) → total (each_weighed rs ms) u ≡ total (each_weighed (as_more rs k) ms) u
left_more [] ms k u = refl
left_more (r ∷ rs) [] zero u = refl
left_more (r ∷ rs) [] (suc k) u = refl
left_more (r ∷ rs) (m ∷ ms) zero u = refl
left_more (r ∷ rs) (m ∷ ms) (suc k) u = ap (λ z. m *ℤ coefficient r.form u +ℤ z) (left_more rs ms k u)

pub left_less : (rs : List Row) (ms : List ℤ) (k : ℕ) (u : Term) → total (each_weighed rs (negated_place ms k)) u ≡ total (each_weighed (as_less rs k) ms) u
left_less [] ms k u = refl
left_less (r ∷ rs) [] zero u = refl
left_less (r ∷ rs) [] (suc k) u = refl
left_less (r ∷ rs) (m ∷ ms) zero u =
    ap (λ z. z +ℤ total (each_weighed rs ms) u) (neg_mul m (coefficient r.form u) ∙ sym (mul_neg m (coefficient r.form u)) ∙ ap (λ c. m *ℤ c) (sym (coefficient_negative r.form u)))
left_less (r ∷ rs) (m ∷ ms) (suc k) u = ap (λ z. m *ℤ coefficient r.form u +ℤ z) (left_less rs ms k u)

pub length_more : (rs : List Row) (k : ℕ) → length (as_more rs k) ≡ length rs
length_more [] k = refl
length_more (r ∷ rs) zero = refl
length_more (r ∷ rs) (suc k) = ap suc (length_more rs k)

pub length_less : (rs : List Row) (k : ℕ) → length (as_less rs k) ≡ length rs
length_less [] k = refl
length_less (r ∷ rs) zero = refl
length_less (r ∷ rs) (suc k) = ap suc (length_less rs k)

length_set : (xs : List RowName) (k : ℕ) (x : RowName) → length (set xs k x) ≡ length xs
length_set [] zero x = refl
length_set [] (suc k) x = refl
length_set (y ∷ ys) zero x = refl
length_set (y ∷ ys) (suc k) x = ap suc (length_set ys k x)

-- ---- names

unless : (r : Row) (m : ℤ) → MayTake r.sense m → (m ≢ pos 0) → unless_not (Some r) ≡ Some r
unless r m h n = by r.sense refl h
  where
    by : (s : Sense) → r.sense ≡ s → MayTake s m → cond (says_differ r.sense) None (Some r) ≡ Some r
    by Zero e k = ap (λ x. cond (says_differ x) None (Some r)) e
    by AtLeast e k = ap (λ x. cond (says_differ x) None (Some r)) e
    by More e k = ap (λ x. cond (says_differ x) None (Some r)) e
    by Not e k = absurd (n k)

named_taken : (p : RowScope) (ns : List NamedRow) (ms : List ℤ) → Each (IsNamed p) ns → AreMultipliers (map row_of ns) ms → NamedWhere p (map name_of ns) (map row_of ns) ms
named_taken p [] [] h t = tt
named_taken p [] (m ∷ ms) h t = absurd t
named_taken p (n ∷ ns) [] h t = absurd t
named_taken p (n ∷ ns) (m ∷ ms) h t = (λ k. h.0.by_name ∙ unless n.row m t.0 k, named_taken p ns ms h.1 t.1)

-- the row at the place
abbrev RowAt : List NamedRow → ℕ → NamedRow → Type 0
RowAt [] k m = ⊥
RowAt (n ∷ ns) zero m = n ≡ m
RowAt (n ∷ ns) (suc k) m = RowAt ns k m

pub record TheNot (ns : List NamedRow) (k : ℕ) : Type 0 where
  pub row : NamedRow
  pub here : RowAt ns k row
  pub is_not : row.row.sense ≡ Not
  pub name : get_or (map name_of ns) k Goal ≡ row.name

the_not : (ns : List NamedRow) (k : ℕ) → IsNotAt (map row_of ns) k → TheNot ns k
the_not [] k h = absurd h
the_not (n ∷ ns) zero h = record { row = n; here = refl; is_not = h; name = refl }
the_not (n ∷ ns) (suc k) h = (let w = the_not ns k h in record { row = w.row; here = w.here; is_not = w.is_not; name = w.name })

each_at : (P : NamedRow → Type 0) (ns : List NamedRow) (k : ℕ) (m : NamedRow) → Each P ns → RowAt ns k m → P m
each_at P [] k m h e = absurd e
each_at P (n ∷ ns) zero m h e = subst P e h.0
each_at P (n ∷ ns) (suc k) m h e = each_at P ns k m h.1 e

named_above : (p : RowScope) (ns : List NamedRow) (ms : List ℤ) (k : ℕ) (q : NamedRow) → Each (IsNamed p) ns → RowAt ns k q → p.above ≡ Some (above_row q.row) → AreMultipliers (as_more (map row_of ns) k) ms
    → NamedWhere p (set (map name_of ns) k Above) (as_more (map row_of ns) k) ms
named_above p [] ms k q h e a t = absurd e
named_above p (n ∷ ns) [] zero q h e a t = absurd t
named_above p (n ∷ ns) [] (suc k) q h e a t = absurd t
named_above p (n ∷ ns) (m ∷ ms) zero q h e a t = (λ z. a ∙ ap (λ (x : NamedRow). Some (above_row x.row)) (sym e), named_taken p ns ms h.1 t.1)
named_above p (n ∷ ns) (m ∷ ms) (suc k) q h e a t = (λ z. h.0.by_name ∙ unless n.row m t.0 z, named_above p ns ms k q h.1 e a t.1)

named_below : (p : RowScope) (ns : List NamedRow) (ms : List ℤ) (k : ℕ) (q : NamedRow) → Each (IsNamed p) ns → RowAt ns k q → p.below ≡ Some (below_row q.row) → AreMultipliers (as_less (map row_of ns) k) ms
    → NamedWhere p (set (map name_of ns) k Below) (as_less (map row_of ns) k) ms
named_below p [] ms k q h e a t = absurd e
named_below p (n ∷ ns) [] zero q h e a t = absurd t
named_below p (n ∷ ns) [] (suc k) q h e a t = absurd t
named_below p (n ∷ ns) (m ∷ ms) zero q h e a t = (λ z. a ∙ ap (λ (x : NamedRow). Some (below_row x.row)) (sym e), named_taken p ns ms h.1 t.1)
named_below p (n ∷ ns) (m ∷ ms) (suc k) q h e a t = (λ z. h.0.by_name ∙ unless n.row m t.0 z, named_below p ns ms k q h.1 e a t.1)

-- ---- terms that no row has

abbrev NoneHas : Term → List Row → Type 0
NoneHas u [] = Unit {0}
NoneHas u (r ∷ rs) = (coefficient r.form u ≡ pos 0) × NoneHas u rs

none_rows : (u : Term) (ns : List NamedRow) → Each (HasNot u) ns → NoneHas u (map row_of ns)
none_rows u [] h = tt
none_rows u (n ∷ ns) h = (h.0, none_rows u ns h.1)

none_total : (u : Term) (rs : List Row) (ms : List ℤ) → NoneHas u rs → total (each_weighed rs ms) u ≡ pos 0
none_total u [] ms h = refl
none_total u (r ∷ rs) [] h = refl
none_total u (r ∷ rs) (m ∷ ms) h = omega (arith, sums, ap (λ c. m *ℤ c) h.0, *ℤ-zero m, none_total u rs ms h.1)

none_more : (u : Term) (rs : List Row) (k : ℕ) → NoneHas u rs → NoneHas u (as_more rs k)
none_more u [] k h = tt
none_more u (r ∷ rs) zero h = h
none_more u (r ∷ rs) (suc k) h = (h.0, none_more u rs k h.1)

none_less : (u : Term) (rs : List Row) (k : ℕ) → NoneHas u rs → NoneHas u (as_less rs k)
none_less u [] k h = tt
none_less u (r ∷ rs) zero h = (coefficient_negative r.form u ∙ ap neg_ℤ h.0, h.1)
none_less u (r ∷ rs) (suc k) h = (h.0, none_less u rs k h.1)

-- ---- the terms of the system, and right

module _ (which : Kind) (facts : List Lit) (wanted : Option Lit) where
  abbrev written : List Term
  written = terms_of_system which facts wanted

  abbrev pub summed : List Term
  summed = with_listed (distinct_terms which facts wanted) (Right ∷ [])

  summed_is : summed ≡ first_terms [] (written ++ Right ∷ [])
  summed_is = with_right written

  has_right : (u : Term) → has_term (Right ∷ written) u ≡ true → has_term (written ++ Right ∷ []) u ≡ true
  has_right u h = list_any-append (one_term u) written (Right ∷ []) ∙ elim (or_cases (one_term u Right) (has_term written u) h) [
    | inl e ↦ or_right (has_term written u) (one_term u Right || false) (or_left (one_term u Right) false e)
    | inr e ↦ or_left (has_term written u) (one_term u Right || false) e
  ]

  misses : (u : Term) → (is_normal u && has_term summed u) ≡ false → Misses (Right ∷ written) u
  misses u h = by (is_normal u) (has_term (Right ∷ written) u) refl refl
    where
      by : (a b : Bool) → is_normal u ≡ a → has_term (Right ∷ written) u ≡ b → Misses (Right ∷ written) u
      by false b e f = inl e
      by true false e f = inr f
      by true true e f = absurd (true≢false (sym (and_from (is_normal u) (has_term summed u) e
          (ap (λ ts. has_term ts u) summed_is ∙ first_has [] (written ++ Right ∷ []) u (has_right u f) refl)) ∙ h))

  all_steps : (p : RowScope) (ts : List Term) → ((t : Term) → is_among ts t ≡ true → is_step_term p t ≡ true) → AllStepTerms p ts
  all_steps p [] h = tt
  all_steps p (t ∷ ts) h = (h t (among_first t ts), all_steps p ts (λ u k. h u (among_rest t ts u k)))

  steps : (p : RowScope) → p.facts ≡ facts → p.wanted ≡ wanted → AllStepTerms p summed
  steps p e f = all_steps p summed (λ t k. by t (among_either written (Right ∷ []) t (first_among [] (written ++ Right ∷ []) t (ap (λ ts. is_among ts t) (sym summed_is) ∙ k))))
    where
      at_place : (t : Term) → is_among (terms_of_step facts wanted) t ≡ true → is_step_term p t ≡ true
      at_place t k = ap₂ {A = List Lit} {B = Option Lit} (λ x y. is_among (terms_of_step x y) t) e f ∙ k

      by : (t : Term) → (is_among written t ≡ true) ⊎ (is_among (Right ∷ []) t ≡ true) → is_step_term p t ≡ true
      by t (inl k) = at_place t (system_among which facts wanted t k)
      by t (inr k) = at_place t (elim (or_cases (term_eq t Right) false k) [
        | inl a ↦ or_left (term_eq t Right) (is_among (terms_of_lits facts ++ terms_of_wanted wanted) t) a
        | inr b ↦ absurd (true≢false (sym b))
      ])

  -- ---- the certificate

  module _ (ns : List NamedRow) (order : AreReordered ns (system which facts wanted)) (pairs : List (RowName × GivenRow)) (are : AreRows ns pairs) (few : length pairs + length summed ≤ 4096) where
    covered : (u : Term) → (is_normal u && has_term summed u) ≡ false → NoneHas u (map row_of ns)
    covered u h = none_rows u ns (each_reordered ns (system which facts wanted) order (HasNot u) (system_misses which facts wanted u (misses u h)))

    all_named : (p : RowScope) → p.facts ≡ facts → p.wanted ≡ wanted → Each (IsNamed p) ns
    all_named p e f = each_reordered ns (system which facts wanted) order (IsNamed p) (subst (λ (x : List Lit × Option Lit). Each (IsNamed p) (system which x.0 x.1)) (ap₂ {A = List Lit} {B = Option Lit} (λ x y. (x, y)) e f) (system_named p which))

    abbrev rows : List Row
    rows = map row_of ns

    alike : Alike (views_of_rows (rows_given pairs)) rows
    alike = rows_alike ns pairs are

    abbrev place : Option Row → Option Row → RowScope
    place above below = record { facts = facts; wanted = wanted; above = above; below = below }

    length_names : length (map name_of ns) ≡ length rows
    length_names = length-map ns name_of ∙ sym (length-map ns row_of)

    few_names : length (map name_of ns) + length summed ≤ 4096
    few_names = omega (arith, length-map ns name_of, length_rows ns pairs are, few)

    one_sum : (ms : List ℤ) → Refutes (views_of_rows (rows_given pairs)) ms → refutes (place None None) (certificate_sum (map name_of ns) (rows_given pairs) ms ms summed) ≡ true
    one_sum ms r =
        (let rr = refutes_alike (views_of_rows (rows_given pairs)) rows ms alike r in
        sum_refutes (place None None) (map name_of ns) rows ms (total (with_multipliers (rows_given pairs) ms)) summed (record {
          refutes = rr;
          named = named_taken (place None None) ns ms (all_named (place None None) refl refl) rr.taken;
          as_many = length_names;
          few = few_names;
          left_is = λ u. left_given (rows_given pairs) ms u ∙ total_alike (views_of_rows (rows_given pairs)) rows ms u alike;
          once = subst Once (sym summed_is) (first_once [] (written ++ Right ∷ []));
          steps = steps (place None None) refl refl;
          covers = λ u h. none_total u rows ms (covered u h);
        }))

    above_sum : (k : ℕ) (ms : List ℤ) (q : NamedRow) → RowAt ns k q → Refutes (as_more (views_of_rows (rows_given pairs)) k) ms
        → refutes (place (Some (above_row q.row)) None) (certificate_sum (set (map name_of ns) k Above) (rows_given pairs) ms ms summed) ≡ true
    above_sum k ms q here r =
        (let p = place (Some (above_row q.row)) None in
        let rr = refutes_alike (as_more (views_of_rows (rows_given pairs)) k) (as_more rows k) ms (more_of_alike (views_of_rows (rows_given pairs)) rows k alike) r in
        sum_refutes p (set (map name_of ns) k Above) (as_more rows k) ms (total (with_multipliers (rows_given pairs) ms)) summed (record {
          refutes = rr;
          named = named_above p ns ms k q (all_named p refl refl) here refl rr.taken;
          as_many = length_set (map name_of ns) k Above ∙ length_names ∙ sym (length_more rows k);
          few = omega (arith, length_set (map name_of ns) k Above, few_names);
          left_is = λ u. left_given (rows_given pairs) ms u ∙ total_alike (views_of_rows (rows_given pairs)) rows ms u alike ∙ left_more rows ms k u;
          once = subst Once (sym summed_is) (first_once [] (written ++ Right ∷ []));
          steps = steps p refl refl;
          covers = λ u h. none_total u (as_more rows k) ms (none_more u rows k (covered u h));
        }))

    below_sum : (k : ℕ) (ms : List ℤ) (q : NamedRow) → RowAt ns k q → Refutes (as_less (views_of_rows (rows_given pairs)) k) ms
        → refutes (place None (Some (below_row q.row))) (certificate_sum (set (map name_of ns) k Below) (rows_given pairs) ms (negated_place ms k) summed) ≡ true
    below_sum k ms q here r =
        (let p = place None (Some (below_row q.row)) in
        let rr = refutes_alike (as_less (views_of_rows (rows_given pairs)) k) (as_less rows k) ms (less_of_alike (views_of_rows (rows_given pairs)) rows k alike) r in
        sum_refutes p (set (map name_of ns) k Below) (as_less rows k) ms (total (with_multipliers (rows_given pairs) (negated_place ms k))) summed (record {
          refutes = rr;
          named = named_below p ns ms k q (all_named p refl refl) here refl rr.taken;
          as_many = length_set (map name_of ns) k Below ∙ length_names ∙ sym (length_less rows k);
          few = omega (arith, length_set (map name_of ns) k Below, few_names);
          left_is = λ u. left_given (rows_given pairs) (negated_place ms k) u ∙ total_alike (views_of_rows (rows_given pairs)) rows (negated_place ms k) u alike ∙ left_less rows ms k u;
          once = subst Once (sym summed_is) (first_once [] (written ++ Right ∷ []));
          steps = steps p refl refl;
          covers = λ u h. none_total u (as_less rows k) ms (none_less u rows k (covered u h));
        }))

    two_sums : (k : ℕ) (above below : List ℤ) → RefutesBoth (views_of_rows (rows_given pairs)) k above below
        → sums_refute facts wanted (TwoSums (get_or (map name_of ns) k Goal) (certificate_sum (set (map name_of ns) k Above) (rows_given pairs) above above summed) (certificate_sum (set (map name_of ns) k Below) (rows_given pairs) below (negated_place below k) summed)) ≡ true
    two_sums k above below h =
        (let w = the_not ns k (not_alike (views_of_rows (rows_given pairs)) rows k alike h.is_not) in
        let first = certificate_sum (set (map name_of ns) k Above) (rows_given pairs) above above summed in
        let second = certificate_sum (set (map name_of ns) k Below) (rows_given pairs) below (negated_place below k) summed in
        let named = each_at (IsNamed (place None None)) ns k w.row (all_named (place None None) refl refl) w.here in
        ap (λ (o : Option Row). option_map_or (λ r. both_refute facts wanted r first second) o false) (ap (differing_row facts wanted) w.name ∙ named.differs (ap says_differ w.is_not))
        ∙ and_from (refutes (place (Some (above_row w.row.row)) None) first) (refutes (place None (Some (below_row w.row.row))) second)
        (above_sum k above w.row w.here h.above_refutes) (below_sum k below w.row w.here h.below_refutes))

    -- what the multipliers make is a certificate
    pub certified : (a : Absurdity) → IsAbsurdity (views_of_rows (rows_given pairs)) a → sums_refute facts wanted (certificate_sums (names_given pairs) (rows_given pairs) summed a) ≡ true
    certified (One ms) h = subst (λ (xs : List RowName). sums_refute facts wanted (certificate_sums xs (rows_given pairs) summed (One ms)) ≡ true) (sym (names_are ns pairs are)) (one_sum ms.items h)
    certified (Two k above below) h =
        subst (λ (xs : List RowName). sums_refute facts wanted (certificate_sums xs (rows_given pairs) summed (Two k above below)) ≡ true) (sym (names_are ns pairs are)) (two_sums k above.items below.items h)
