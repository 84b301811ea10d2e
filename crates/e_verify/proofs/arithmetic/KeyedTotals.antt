-- What is read from a list of coefficients, each with the key of its term.
use Rattle.std.proofs.Common.{◌≡◌, ℕ, suc, ◌+◌, ◌<◌, ◌≤◌, ◌^◌, ◌↔◌, ◌⊎◌, inl, inr, List, [], ◌∷◌, ◌++◌, refl, sym, ap, subst, ◌∙◌, arith, Bool, true, false, cond, not, map, ◌&&◌, true≢false, nat_eq, length, get_or, sum_by, IsPermutation, ltb-true, ltb-false, eqb-true, eq-eqb}
use Rattle.std.specs.Prelude.{ℤ, pos, ◌+ℤ◌, unsigned_abs, IsTrue, nat_lt}
use Rattle.std.specs.List.{All}
use Rattle.std.specs.List.Sorted.{IsNonDecreasingBy}
use Rattle.std.specs.Int.{int_wrap}
use Rattle.std.specs.Ordering.{int_eq}
use Rattle.std.proofs.lemmas.Bool.{ne_eqb, eqb-false}
use Rattle.std.proofs.lemmas.List.Elements.{All-nil, All-head, All-tail, All-push}
use Rattle.std.proofs.lemmas.List.Sorted.{sum_by-IsPermutation}
use Rattle.std.proofs.lemmas.List.Sums.{sum_by-cons}
use Rattle.std.proofs.lemmas.Int.{fits_signed_from_abs, int_wrap_fits, int_wrap-add_left}
use mir.Syntax.{w128}
use borrow.Author.Differences.{up, down}
use Rattle.e_literal.specs.declared.object.Term.{Term}
use Rattle.e_literal.specs.Same.{canonical, term_eq}
use Rattle.e_literal.specs.Rows.{coefficient, normal_summands, times, is_degenerate}
use Rattle.e_literal.proofs.Terms.{term_eq_is}
use Rattle.e_literal.proofs.Arith.{sums, zero_is, is_zero}
use Rattle.e_literal.proofs.Booleans.{and_left, and_right}
use Rattle.e_verify.specs.inner.Totals.{term_key, is_narrow, IsKey, IsKeyed, is_its_key, total_at, cancel_in_runs}
use Rattle.e_verify.proofs.arithmetic.TermKeys.{same_keys}

-- ---- what is added

pub dropped : (es : List (ℕ × ℤ)) (term t : Term) (n : ℤ) → is_degenerate term ≡ true → total_at es t ≡ total_at es t +ℤ coefficient (normal_summands (times n term ∷ [])) t
dropped es term t n d =
    omega (arith, sums) ∙ ap (λ b. total_at es t +ℤ coefficient (map (λ (p : ℤ × Term). times p.0 (canonical p.1)) (cond (not b) (times n term ∷ []) [])) t) (sym d)

-- the key that the code makes of a term in its normal order
pub record IsKeyFor (term ordered : Term) (key : ℕ) : Type 0 where
  pub order : ordered ≡ canonical term
  pub value : key ≡ term_key ordered
  pub narrow : is_narrow ordered ≡ true

key_tells : (added t : Term) → is_narrow added ≡ true → is_its_key t (term_key added) ≡ term_eq added t
key_tells added t low = by (is_narrow t) refl
  where
    wide : (b : Bool) → term_eq added t ≡ b → is_narrow t ≡ false → false ≡ b
    wide true same k = absurd (true≢false (sym low ∙ ap is_narrow (term_eq_is added t same) ∙ k))
    wide false same k = refl

    by : (b : Bool) → is_narrow t ≡ b → (b && nat_eq (term_key added) (term_key t)) ≡ term_eq added t
    by true k = same_keys added t low k
    by false k = wide (term_eq added t) refl k

total_push : (es : List (ℕ × ℤ)) (key : ℕ) (n : ℤ) (t : Term) → total_at (es ++ (key, n) ∷ []) t ≡ total_at es t +ℤ (cond (is_its_key t key) n (pos 0) +ℤ pos 0)
total_push [] key n t = omega (arith, sums)
total_push (e ∷ es) key n t = omega (arith, sums, total_push es key n t)

pub added_for : (es new : List (ℕ × ℤ)) (term ordered : Term) (key : ℕ) (n : ℤ) → IsKeyFor term ordered key → new ≡ es ++ (key, n) ∷ [] → is_degenerate term ≡ false
    → (t : Term) → total_at new t ≡ total_at es t +ℤ coefficient (normal_summands (times n term ∷ [])) t
added_for es new term ordered key n k is d t =
    ap (λ xs. total_at xs t) is ∙ total_push es key n t
    ∙ ap (λ x. total_at es t +ℤ (cond (is_its_key t x) n (pos 0) +ℤ pos 0)) k.value
    ∙ ap (λ b. total_at es t +ℤ (cond b n (pos 0) +ℤ pos 0)) (key_tells ordered t k.narrow)
    ∙ ap (λ u. total_at es t +ℤ coefficient (times n u ∷ []) t) k.order
    ∙ ap (λ form. total_at es t +ℤ coefficient form t) (sym (kept d))
  where
    kept : is_degenerate term ≡ false → normal_summands (times n term ∷ []) ≡ times n (canonical term) ∷ []
    kept d = ap (λ b. map (λ (p : ℤ × Term). times p.0 (canonical p.1)) (cond (not b) (times n term ∷ []) [])) d

-- ---- which keys are there

pub keys_and : (es new : List (ℕ × ℤ)) (term ordered : Term) (key : ℕ) (n : ℤ) → IsKeyFor term ordered key → new ≡ es ++ (key, n) ∷ [] → All IsKeyed es → All IsKeyed new
keys_and es new term ordered key n k is h =
    subst (All IsKeyed) (sym is) (All-push IsKeyed es (key, n) h (ordered, k.narrow, sym k.value))

pub same_entries : (es new : List (ℕ × ℤ)) → new ≡ es → All IsKeyed es → All IsKeyed new
same_entries es new is h = subst (All IsKeyed) (sym is) h

pub no_entries : (es : List (ℕ × ℤ)) → es ≡ [] → All IsKeyed es
no_entries es is = subst (All IsKeyed) (sym is) (All-nil IsKeyed)

-- ---- the sum of a key

abbrev sum_at : List (ℕ × ℤ) → ℕ → ℤ
sum_at [] key = pos 0
sum_at (e ∷ es) key = cond (nat_eq e.0 key) e.1 (pos 0) +ℤ sum_at es key

at_narrow : (es : List (ℕ × ℤ)) (t : Term) → is_narrow t ≡ true → total_at es t ≡ sum_at es (term_key t)
at_narrow [] t h = refl
at_narrow (e ∷ es) t h = ap (λ b. cond (b && nat_eq e.0 (term_key t)) e.1 (pos 0) +ℤ total_at es t) h ∙ ap (λ z. cond (nat_eq e.0 (term_key t)) e.1 (pos 0) +ℤ z) (at_narrow es t h)

at_wide : (es : List (ℕ × ℤ)) (t : Term) → is_narrow t ≡ false → total_at es t ≡ pos 0
at_wide [] t h = refl
at_wide (e ∷ es) t h = ap (λ b. cond (b && nat_eq e.0 (term_key t)) e.1 (pos 0) +ℤ total_at es t) h ∙ ap (λ z. pos 0 +ℤ z) (at_wide es t h)

-- a key that is no key of a term has no coefficient
found : (es : List (ℕ × ℤ)) (key : ℕ) → All IsKeyed es → (sum_at es key ≡ pos 0) ⊎ IsKey key
found [] key a = inl refl
found (e ∷ es) key a = by (nat_eq e.0 key) refl (found es key (All-tail IsKeyed e es a))
  where
    by : (b : Bool) → nat_eq e.0 key ≡ b → (sum_at es key ≡ pos 0) ⊎ IsKey key → (sum_at (e ∷ es) key ≡ pos 0) ⊎ IsKey key
    by true s later = inr (subst IsKey (eqb-true e.0 key s) (All-head IsKeyed e es a))
    by false s (inl z) = inl (ap (λ b. cond b e.1 (pos 0) +ℤ sum_at es key) s ∙ ap (λ y. pos 0 +ℤ y) z)
    by false s (inr k) = inr k

-- ---- the order makes no difference

abbrev ups : ℕ → ℕ × ℤ → ℕ
ups key e = cond (nat_eq e.0 key) (up e.1) 0

abbrev downs : ℕ → ℕ × ℤ → ℕ
downs key e = cond (nat_eq e.0 key) (down e.1) 0

split : (es : List (ℕ × ℤ)) (key : ℕ) → sum_at es key +ℤ pos (sum_by (downs key) es) ≡ pos (sum_by (ups key) es)
split [] key = refl
split (e ∷ es) key =
    ap (λ n. (cond (nat_eq e.0 key) e.1 (pos 0) +ℤ sum_at es key) +ℤ pos n) (sum_by-cons (downs key) e es) ∙ by (nat_eq e.0 key) (split es key) ∙ ap pos (sym (sum_by-cons (ups key) e es))
  where
    by : (b : Bool) → sum_at es key +ℤ pos (sum_by (downs key) es) ≡ pos (sum_by (ups key) es)
        → (cond b e.1 (pos 0) +ℤ sum_at es key) +ℤ pos (cond b (down e.1) 0 + sum_by (downs key) es) ≡ pos (cond b (up e.1) 0 + sum_by (ups key) es)
    by true rest = omega (arith, sums, rest)
    by false rest = omega (arith, sums, rest)

moved : (xs ys : List (ℕ × ℤ)) (key : ℕ) → IsPermutation xs ys → sum_at ys key ≡ sum_at xs key
moved xs ys key p = omega (arith, sums, split xs key, split ys key, sum_by-IsPermutation (ups key) xs ys p, sum_by-IsPermutation (downs key) xs ys p)

-- ---- keys in order

-- no key is below the one before it, and the first not below this one
abbrev Rises : ℕ → List (ℕ × ℤ) → Type 0
Rises key [] = key ≤ key
Rises key (e ∷ es) = (key ≤ e.0) × Rises e.0 es

rises : (key : ℕ) (es : List (ℕ × ℤ)) → ((d : ℕ × ℤ) → 0 < length es → key ≤ (get_or es 0 d).0) → IsNonDecreasingBy (λ (e : ℕ × ℤ). e.0) es → Rises key es
rises key [] h sorted = omega arith
rises key (e ∷ es) h sorted = (
  h (0, pos 0) (omega arith),
  rises e.0 es (λ d lt. sorted 0 (suc 0) d (omega arith) (omega (arith, lt))) (λ i j d le lt. sorted (suc i) (suc j) d (omega (arith, le)) (omega (arith, lt))),
)

absent : (es : List (ℕ × ℤ)) (low key : ℕ) → Rises low es → key < low → sum_at es key ≡ pos 0
absent [] low key r h = refl
absent (e ∷ es) low key r h =
    ap (λ b. cond b e.1 (pos 0) +ℤ sum_at es key) (ne_eqb e.0 key (λ s. omega (arith, s, r.0, h))) ∙ ap (λ z. pos 0 +ℤ z) (absent es e.0 key r.1 (omega (arith, r.0, h)))

-- ---- runs that cancel

abbrev wrap : ℤ → ℤ
wrap z = int_wrap w128 z

wrap_small : (z : ℤ) → unsigned_abs z < 2 ^ 127 → wrap z ≡ z
wrap_small z h = int_wrap_fits w128 z (fits_signed_from_abs w128 z (omega (arith, h)))

wrap_zero : wrap (pos 0) ≡ pos 0
wrap_zero = wrap_small (pos 0) (omega arith)

plus_none : (z : ℤ) → z +ℤ pos 0 ≡ z
plus_none z = omega (arith, sums)

none_plus : (z : ℤ) → pos 0 +ℤ z ≡ z
none_plus z = omega (arith, sums)

-- this much of the key, and what is there of another
abbrev with_so_far : ℕ → ℤ → List (ℕ × ℤ) → ℕ → ℤ
with_so_far key so_far es q = cond (nat_eq key q) so_far (pos 0) +ℤ sum_at es q

one_run : (key : ℕ) (so_far : ℤ) (e : ℕ × ℤ) (es : List (ℕ × ℤ)) (q : ℕ) → nat_eq e.0 key ≡ true → with_so_far key (so_far +ℤ e.1) es q ≡ with_so_far key so_far (e ∷ es) q
one_run key so_far e es q s =
    by (nat_eq key q) ∙ ap (λ k. cond (nat_eq key q) so_far (pos 0) +ℤ (cond (nat_eq k q) e.1 (pos 0) +ℤ sum_at es q)) (sym (eqb-true e.0 key s))
  where
    by : (b : Bool) → cond b (so_far +ℤ e.1) (pos 0) +ℤ sum_at es q ≡ cond b so_far (pos 0) +ℤ (cond b e.1 (pos 0) +ℤ sum_at es q)
    by true = omega (arith, sums)
    by false = omega (arith, sums)

new_run : (key : ℕ) (e : ℕ × ℤ) → nat_eq e.0 key ≡ false → key ≤ e.0 → key < e.0
new_run key e s le = by (nat_lt key e.0) refl
  where
    by : (b : Bool) → nat_lt key e.0 ≡ b → key < e.0
    by true h = ltb-true key e.0 h
    by false h = absurd (eqb-false e.0 key s (omega (arith, le, ltb-false key e.0 h)))

past_run : (key : ℕ) (so_far : ℤ) (es : List (ℕ × ℤ)) (q : ℕ) → key < q → with_so_far key so_far es q ≡ sum_at es q
past_run key so_far es q h = ap (λ b. cond b so_far (pos 0) +ℤ sum_at es q) (ne_eqb key q (λ s. omega (arith, s, h))) ∙ none_plus (sum_at es q)

this_run : (key : ℕ) (so_far : ℤ) (es : List (ℕ × ℤ)) (low : ℕ) → Rises low es → key < low → with_so_far key so_far es key ≡ so_far
this_run key so_far es low r h = ap (λ b. cond b so_far (pos 0) +ℤ sum_at es key) (eq-eqb key key refl) ∙ ap (λ z. so_far +ℤ z) (absent es low key r h) ∙ plus_none so_far

abbrev AreZero : ℕ → ℤ → List (ℕ × ℤ) → Type 0
AreZero key so_far es = (q : ℕ) → key ≤ q → wrap (with_so_far key so_far es q) ≡ pos 0

-- what is found where the first has another key, or the same
abbrev next_run : ℤ → ℕ × ℤ → List (ℕ × ℤ) → Bool
next_run so_far e es = int_eq (wrap so_far) (pos 0) && cancel_in_runs e.0 (wrap e.1) es

abbrev same_run : ℕ → ℤ → ℕ × ℤ → List (ℕ × ℤ) → Bool
same_run key so_far e es = cancel_in_runs key (wrap (wrap so_far +ℤ e.1)) es

same_run_is : (key : ℕ) (so_far : ℤ) (e : ℕ × ℤ) (es : List (ℕ × ℤ)) → same_run key so_far e es ≡ cancel_in_runs key (wrap (so_far +ℤ e.1)) es
same_run_is key so_far e es = ap (λ z. cancel_in_runs key z es) (int_wrap-add_left w128 so_far e.1)

on_true : (key : ℕ) (so_far : ℤ) (es : List (ℕ × ℤ)) → Rises key es → AreZero key so_far es → cancel_in_runs key (wrap so_far) es ≡ true
on_true key so_far [] r h = is_zero (wrap so_far) (ap wrap (sym (ap (λ b. cond b so_far (pos 0) +ℤ pos 0) (eq-eqb key key refl) ∙ plus_none so_far)) ∙ h key (omega arith))
on_true key so_far (e ∷ es) r h = by (nat_eq e.0 key) refl (on_true key (so_far +ℤ e.1) es) (on_true e.0 e.1 es)
  where
    by : (b : Bool) → nat_eq e.0 key ≡ b → (Rises key es → AreZero key (so_far +ℤ e.1) es → cancel_in_runs key (wrap (so_far +ℤ e.1)) es ≡ true)
        → (Rises e.0 es → AreZero e.0 e.1 es → cancel_in_runs e.0 (wrap e.1) es ≡ true) → cond b (same_run key so_far e es) (next_run so_far e es) ≡ true
    by true s on past = same_run_is key so_far e es ∙ on (subst (λ k. Rises k es) (eqb-true e.0 key s) r.1) (λ q le. ap wrap (one_run key so_far e es q s) ∙ h q le)
    by false s on past =
        let above = new_run key e s r.0 in
        let here = is_zero (wrap so_far) (ap wrap (sym (this_run key so_far (e ∷ es) e.0 (omega arith, r.1) above)) ∙ h key (omega arith)) in
        ap (λ b. b && cancel_in_runs e.0 (wrap e.1) es) here
        ∙ past r.1 (λ q le. ap wrap (sym (past_run key so_far (e ∷ es) q (omega (arith, above, le)))) ∙ h q (omega (arith, above, le)))

-- where the next run has another key
at_next : (key : ℕ) (so_far : ℤ) (e : ℕ × ℤ) (es : List (ℕ × ℤ)) (q : ℕ) → Rises e.0 es → key < e.0 → wrap so_far ≡ pos 0 → (e.0 ≤ q → wrap (sum_at (e ∷ es) q) ≡ pos 0) → wrap (with_so_far key so_far (e ∷ es) q) ≡ pos 0
at_next key so_far e es q r above here past = by (nat_eq key q) refl (nat_lt q e.0) refl
  where
    by : (b : Bool) → nat_eq key q ≡ b → (c : Bool) → nat_lt q e.0 ≡ c → wrap (with_so_far key so_far (e ∷ es) q) ≡ pos 0
    by true same c low =
        ap (λ k. wrap (with_so_far key so_far (e ∷ es) k)) (sym (eqb-true key q same)) ∙ ap wrap (this_run key so_far (e ∷ es) e.0 (omega arith, r) above) ∙ here
    by false other true low =
        ap (λ b. wrap (cond b so_far (pos 0) +ℤ sum_at (e ∷ es) q)) other ∙ ap (λ z. wrap (pos 0 +ℤ z)) (absent (e ∷ es) e.0 q (omega arith, r) (ltb-true q e.0 low)) ∙ wrap_zero
    by false other false low =
        let le = ltb-false q e.0 low in
        ap wrap (past_run key so_far (e ∷ es) q (omega (arith, above, le))) ∙ past le

all_zero : (key : ℕ) (so_far : ℤ) (es : List (ℕ × ℤ)) → Rises key es → cancel_in_runs key (wrap so_far) es ≡ true → AreZero key so_far es
all_zero key so_far [] r h q le = by (nat_eq key q)
  where
    by : (b : Bool) → wrap (cond b so_far (pos 0) +ℤ pos 0) ≡ pos 0
    by true = ap wrap (plus_none so_far) ∙ zero_is (wrap so_far) h
    by false = wrap_zero
all_zero key so_far (e ∷ es) r h q le = by (nat_eq e.0 key) refl h (all_zero key (so_far +ℤ e.1) es) (all_zero e.0 e.1 es)
  where
    by : (b : Bool) → nat_eq e.0 key ≡ b → cond b (same_run key so_far e es) (next_run so_far e es) ≡ true
        → (Rises key es → cancel_in_runs key (wrap (so_far +ℤ e.1)) es ≡ true → AreZero key (so_far +ℤ e.1) es)
        → (Rises e.0 es → cancel_in_runs e.0 (wrap e.1) es ≡ true → AreZero e.0 e.1 es) → wrap (with_so_far key so_far (e ∷ es) q) ≡ pos 0
    by true s k on past = ap wrap (sym (one_run key so_far e es q s)) ∙ on (subst (λ k. Rises k es) (eqb-true e.0 key s) r.1) (sym (same_run_is key so_far e es) ∙ k) q le
    by false s k on past =
        at_next key so_far e es q r.1 (new_run key e s r.0) (zero_is (wrap so_far) (and_left (int_eq (wrap so_far) (pos 0)) (cancel_in_runs e.0 (wrap e.1) es) k))
        (past r.1 (and_right (int_eq (wrap so_far) (pos 0)) (cancel_in_runs e.0 (wrap e.1) es) k) q)

-- ---- what the sums come to

none_yet : (es : List (ℕ × ℤ)) (q : ℕ) → with_so_far 0 (pos 0) es q ≡ sum_at es q
none_yet es q = by (nat_eq 0 q)
  where
    by : (b : Bool) → cond b (pos 0) (pos 0) +ℤ sum_at es q ≡ sum_at es q
    by true = none_plus (sum_at es q)
    by false = none_plus (sum_at es q)

pub cancel_for : (xs ys : List (ℕ × ℤ)) (r : Bool) → All IsKeyed xs → IsPermutation xs ys → IsNonDecreasingBy (λ (e : ℕ × ℤ). e.0) ys → ((t : Term) → unsigned_abs (total_at xs t) < 2 ^ 127)
    → r ≡ cancel_in_runs 0 (pos 0) ys → IsTrue r ↔ ((t : Term) → total_at xs t ≡ pos 0)
cancel_for xs ys r keys p sorted small is = (
  λ h t. at_term t (is_narrow t) refl (sym started ∙ sym is ∙ h),
  λ h. is ∙ started ∙ on_true 0 (pos 0) ys up_on (λ q le. ap wrap (none_yet ys q ∙ moved xs ys q p ∙ at_key h q (found xs q keys)) ∙ wrap_zero),
)
  where
    up_on : Rises 0 ys
    up_on = rises 0 ys (λ d lt. omega arith) sorted

    started : cancel_in_runs 0 (pos 0) ys ≡ cancel_in_runs 0 (wrap (pos 0)) ys
    started = ap (λ z. cancel_in_runs 0 z ys) (sym wrap_zero)

    at_key : ((t : Term) → total_at xs t ≡ pos 0) → (q : ℕ) → (sum_at xs q ≡ pos 0) ⊎ IsKey q → sum_at xs q ≡ pos 0
    at_key h q (inl z) = z
    at_key h q (inr k) = ap (sum_at xs) (sym k.2) ∙ sym (at_narrow xs k.0 k.1) ∙ h k.0

    at_term : (t : Term) (b : Bool) → is_narrow t ≡ b → cancel_in_runs 0 (wrap (pos 0)) ys ≡ true → total_at xs t ≡ pos 0
    at_term t true n h =
        let key = term_key t in
        sym (wrap_small (total_at xs t) (small t))
        ∙ ap wrap (at_narrow xs t n ∙ sym (moved xs ys key p) ∙ sym (none_yet ys key))
        ∙ all_zero 0 (pos 0) ys up_on h key (omega arith)
    at_term t false n h = at_wide xs t n
