-- Normal forms are equal exactly where the literals are the same.
use Rattle.std.proofs.Common.{◌≡◌, ℕ, zero, suc, ◌+◌, ◌↔◌, List, [], ◌∷◌, ◌++◌, refl, sym, ap, subst, ◌∙◌, arith, Bool, true, false, cond, Option, Some, None, ◌&&◌, ◌||◌, IsTrue, true≢false, T}
use Rattle.std.specs.Prelude.{ℤ, pos, ◌-ℤ◌, unwrap_or, ◌==◌, map, filter, not}
use Rattle.std.specs.List.{fold, list_any}
use Rattle.std.proofs.lemmas.Int.{ints}
use Rattle.std.proofs.lemmas.Bool.Decides.{Decides-int_eq}
use Rattle.std.specs.Bool.{Decides}
use Rattle.std.specs.declared.cmp.Ordering.{Ordering}
use Rattle.std.specs.declared.cmp.Ordering.TheVariants.{Less, Equal, Greater}
use Rattle.std.specs.Ordering.{nat_cmp, int_cmp, int_eq, is_eq, eq_by_cmp, ordering_reverse, ord_min}
use Rattle.std.specs.Cmp.{IsTotalOrder, on_total, then_total, int_cmp_total, tied_itself, Equal-is}
use Rattle.std.specs.Cmp.Lexicographic.{slice_cmp, nat_list_cmp_total, lists_total}
use Rattle.std.specs.BTreeSet.{insert_key}
use Rattle.std.specs.FinMap.{put, find, is_sorted, slice_cmp-IsAntisymmetric, nat_cmp-IsAntisymmetric, int_cmp-IsAntisymmetric}
use Rattle.std.specs.FinMap.Entries.{where_key, find-put, find-where_key, is_sorted-put, is_sorted-where_key, same_entries}
use Rattle.std.proofs.lemmas.List.Sums.{fold-append}
use Rattle.std.proofs.lemmas.Map.Lookups.{exact_pairs}
use Rattle.std.proofs.lemmas.Bool.{or_left, or_right}
use mathlib.Core.Bool.{or-true, or-false, or_assoc}
use Rattle.e_literal.specs.declared.object.Term.{Term}
use Rattle.e_literal.specs.declared.object.Term.TheVariants.{Seg, Ang, Area, Right}
use Rattle.e_literal.specs.declared.object.Mono.{Mono}
use Rattle.e_literal.specs.Same.{canonical, term_eq, one_term, coeff_of, agree, EqualNormal}
use Rattle.e_literal.specs.NormalForm.{numbers_of, term_cmp, Coefficients, difference, terms_in_order, with_coefficients, normal_sum, form_cmp, normal_up_to_sign}
use Rattle.e_literal.specs.inner.Joining.{put_unless_zero, put_term}
use Rattle.e_literal.proofs.Terms.{term_eq_is}
use Rattle.e_literal.proofs.Agreeing.{coeff_same, equal_of_agree, agree_of_equal}
use Rattle.e_literal.proofs.Booleans.{or_not_left, or_not_right}
use Rattle.e_literal.proofs.CanonicalTerms.{canonical_twice}

-- ---- terms in their order

-- the term of these numbers
term_of : List ℕ → Term
term_of (zero ∷ a ∷ b ∷ []) = Seg a b
term_of (suc zero ∷ a ∷ b ∷ c ∷ []) = Ang a b c
term_of (suc (suc zero) ∷ a ∷ b ∷ c ∷ []) = Area a b c
term_of ns = Right

term_of-numbers_of : (t : Term) → term_of (numbers_of t) ≡ t
unfolding term_of
term_of-numbers_of (Seg a b) = refl
term_of-numbers_of (Ang a b c) = refl
term_of-numbers_of (Area a b c) = refl
term_of-numbers_of Right = refl

pub term_cmp_total : IsTotalOrder term_cmp
term_cmp_total = on_total numbers_of nat_list_cmp_total

pub term_cmp_exact : (s t : Term) → term_cmp s t ≡ Equal → s ≡ t
term_cmp_exact s t e =
    sym (term_of-numbers_of s) ∙ ap term_of (slice_cmp-IsAntisymmetric nat_cmp-IsAntisymmetric (numbers_of s) (numbers_of t) e) ∙ term_of-numbers_of t

abbrev ties : Term → Term → Bool
ties s t = eq_by_cmp term_cmp s t

tied_is : (s t : Term) → ties s t ≡ true → s ≡ t
tied_is s t h = term_cmp_exact s t ((Equal-is (term_cmp s t)).0 h)

is_tied : (s t : Term) → s ≡ t → ties s t ≡ true
is_tied s t e = ap (ties s) (sym e) ∙ ap is_eq (tied_itself term_cmp_total s)

-- ---- what is found in a normal form

abbrev some_unless_zero : ℤ → Option ℤ
some_unless_zero v = cond (int_eq v (pos 0)) None (Some v)

-- the term is one of the monomials' terms, in its normal order
abbrev among : Term → List Mono → Bool
among q ms = list_any (λ m. ties q (canonical m.term)) ms

find-put_unless_zero : (form : Coefficients) (q k : Term) (v : ℤ) (z : Bool) →
    find term_cmp q (cond z form (put term_cmp k v form)) ≡ cond z (find term_cmp q form) (cond (ties q k) (Some v) (find term_cmp q form))
find-put_unless_zero form q k v true = refl
find-put_unless_zero form q k v false = find-put term_cmp term_cmp_total q k v form

-- one more term, which is q or not
found_once : (b c z : Bool) (v : ℤ) (o s : Option ℤ) → o ≡ cond b s None → (c ≡ true → s ≡ cond z None (Some v)) →
    cond z o (cond c (Some v) o) ≡ cond (b || c) s None
found_once b true true v o s e h = e ∙ by b ∙ ap (λ d. cond d s None) (sym (or-true b))
  where
    by : (d : Bool) → cond d s None ≡ s
    by true = refl
    by false = sym (h refl)
found_once b true false v o s e h = sym (h refl) ∙ ap (λ d. cond d s None) (sym (or-true b))
found_once b false true v o s e h = e ∙ ap (λ d. cond d s None) (sym (or-false b))
found_once b false false v o s e h = e ∙ ap (λ d. cond d s None) (sym (or-false b))

difference_same : (x y : List Mono) (s t : Term) → canonical s ≡ canonical t → difference x y s ≡ difference x y t
difference_same x y s t e = ap (λ n. pos n -ℤ pos (coeff_of y s)) (coeff_same x s t e) ∙ ap (λ n. pos (coeff_of x t) -ℤ pos n) (coeff_same y s t e)

found_at_term : (x y : List Mono) (q : Term) (m : Mono) → ties q (canonical m.term) ≡ true →
    some_unless_zero (difference x y q) ≡ some_unless_zero (difference x y m.term)
found_at_term x y q m h =
    ap some_unless_zero (difference_same x y q m.term (ap canonical (tied_is q (canonical m.term) h) ∙ canonical_twice m.term))

find-fold : (x y : List Mono) (q : Term) (ms : List Mono) (form : Coefficients) (b : Bool) →
    find term_cmp q form ≡ cond b (some_unless_zero (difference x y q)) None →
    find term_cmp q (fold (put_term x y) form ms) ≡ cond (b || among q ms) (some_unless_zero (difference x y q)) None
find-fold x y q [] form b e = e ∙ ap (λ d. cond d (some_unless_zero (difference x y q)) None) (sym (or-false b))
find-fold x y q (m ∷ ms) form b e =
    let c = ties q (canonical m.term) in
    let here : find term_cmp q (put_term x y form m) ≡ cond (b || c) (some_unless_zero (difference x y q)) None =
    find-put_unless_zero form q (canonical m.term) (difference x y m.term) (int_eq (difference x y m.term) (pos 0))
    ∙ found_once b c (int_eq (difference x y m.term) (pos 0)) (difference x y m.term) (find term_cmp q form) (some_unless_zero (difference x y q)) e (found_at_term x y q m) in
    find-fold x y q ms (put_term x y form m) (b || c) here ∙ ap (λ d. cond d (some_unless_zero (difference x y q)) None) (or_assoc b c (among q ms))

among_once : (q t : Term) (b c : Bool) → ties q (canonical t) ≡ b → (b || c) ≡ true → (c ≡ true → canonical q ≡ q) → canonical q ≡ q
among_once q t true c e k later = let is = tied_is q (canonical t) e in ap canonical is ∙ canonical_twice t ∙ sym is
among_once q t false c e k later = later k

among_normal : (q : Term) (ms : List Mono) → among q ms ≡ true → canonical q ≡ q
among_normal q [] h = absurd (true≢false (sym h))
among_normal q (m ∷ ms) h = among_once q m.term (ties q (canonical m.term)) (among q ms) refl h (among_normal q ms)

absent_once : (q t : Term) (b c d : Bool) (n k : ℕ) → canonical q ≡ q → ties q (canonical t) ≡ b → one_term t q ≡ d → (b || c) ≡ false → (c ≡ false → k ≡ 0)
    → cond d n 0 + k ≡ 0
absent_once q t true c d n k normal e f h later = absurd (true≢false h)
absent_once q t false c true n k normal e f h later = absurd (true≢false (sym (is_tied q (canonical t) (sym normal ∙ sym (term_eq_is _ _ f))) ∙ e))
absent_once q t false c false n k normal e f h later = let z = later h in omega arith

absent : (q : Term) (ms : List Mono) → canonical q ≡ q → among q ms ≡ false → coeff_of ms q ≡ 0
absent q [] n h = refl
absent q (m ∷ ms) n h = absent_once q m.term (ties q (canonical m.term)) (among q ms) (one_term m.term q) m.coeff (coeff_of ms q) n refl refl h (absent q ms n)

among-append : (q : Term) (ms ns : List Mono) → among q (ms ++ ns) ≡ (among q ms || among q ns)
among-append q [] ns = refl
among-append q (m ∷ ms) ns = ap (λ b. ties q (canonical m.term) || b) (among-append q ms ns) ∙ sym (or_assoc (ties q (canonical m.term)) (among q ms) (among q ns))

difference_none : (x y : List Mono) (q : Term) → canonical q ≡ q → among q (x ++ y) ≡ false → difference x y q ≡ pos 0
difference_none x y q n h =
    let k : (among q x || among q y) ≡ false = sym (among-append q x y) ∙ h in
    ap (λ a. pos a -ℤ pos (coeff_of y q)) (absent q x n (or_not_left (among q x) (among q y) k)) ∙ ap (λ a. pos 0 -ℤ pos a) (absent q y n (or_not_right (among q x) (among q y) k))

-- ---- the form by its terms

-- one more term
put_by : (x y : List Mono) (ts : List Term) (t u : Term) (r : Ordering) → term_cmp t u ≡ r
    → with_coefficients x y (insert_key term_cmp ts t) ≡ put term_cmp t (difference x y t) (with_coefficients x y ts)
    → with_coefficients x y (insert_key term_cmp (u ∷ ts) t) ≡ put term_cmp t (difference x y t) (with_coefficients x y (u ∷ ts))
put_by x y ts t u Less is later = rw is refl
put_by x y ts t u Equal is later = rw is (ap (λ (v : ℤ). (u, v) ∷ with_coefficients x y ts) (ap (difference x y) (sym (term_cmp_exact t u is))))
put_by x y ts t u Greater is later = rw is (ap (λ (form : Coefficients). (u, difference x y u) ∷ form) later)

put_in_order : (x y : List Mono) (ts : List Term) (t : Term) → with_coefficients x y (insert_key term_cmp ts t) ≡ put term_cmp t (difference x y t) (with_coefficients x y ts)
put_in_order x y [] t = refl
put_in_order x y (u ∷ ts) t = put_by x y ts t u (term_cmp t u) refl (put_in_order x y ts t)

found_first : (x y : List Mono) (q t : Term) (a b : Bool) (o : Option ℤ) → ties q t ≡ b → o ≡ cond a (Some (difference x y q)) None
    → cond b (Some (difference x y t)) o ≡ cond (b || a) (Some (difference x y q)) None
found_first x y q t a true o is h = ap (λ (s : Term). Some (difference x y s)) (sym (tied_is q t is))
found_first x y q t a false o is h = h

-- the coefficient of each term of the monomials
find-in_order : (x y : List Mono) (q : Term) (ms : List Mono) → find term_cmp q (with_coefficients x y (terms_in_order ms)) ≡ cond (among q ms) (Some (difference x y q)) None
find-in_order x y q [] = refl
find-in_order x y q (m ∷ ms) =
    ap (find term_cmp q) (put_in_order x y (terms_in_order ms) (canonical m.term))
    ∙ find-put term_cmp term_cmp_total q (canonical m.term) (difference x y (canonical m.term)) (with_coefficients x y (terms_in_order ms))
    ∙ found_first x y q (canonical m.term) (among q ms) (ties q (canonical m.term)) (find term_cmp q (with_coefficients x y (terms_in_order ms))) refl (find-in_order x y q ms)

sorted_in_order : (x y : List Mono) (ms : List Mono) → T (is_sorted term_cmp (with_coefficients x y (terms_in_order ms)))
sorted_in_order x y [] = tt
sorted_in_order x y (m ∷ ms) =
    subst (λ (form : Coefficients). T (is_sorted term_cmp form)) (sym (put_in_order x y (terms_in_order ms) (canonical m.term)))
    (is_sorted-put term_cmp term_cmp_total (canonical m.term) (difference x y (canonical m.term)) (with_coefficients x y (terms_in_order ms)) (sorted_in_order x y ms))

-- the term has a coefficient other than 0
abbrev counts : List Mono → List Mono → Term → Bool
counts x y t = not (int_eq (difference x y t) (pos 0))

some_count : (x y : List Mono) (ts : List Term) → filter (λ (p : Term × ℤ). not (int_eq p.1 (pos 0))) (with_coefficients x y ts) ≡ where_key term_cmp (counts x y) (with_coefficients x y ts)
some_count x y [] = refl
some_count x y (t ∷ ts) = ap (λ (form : Coefficients). cond (counts x y t) ((t, difference x y t) ∷ form) form) (some_count x y ts)

unless_zero : (b z : Bool) (v : ℤ) → cond (not z) (cond b (Some v) None) None ≡ cond b (cond z None (Some v)) None
unless_zero true true v = refl
unless_zero true false v = refl
unless_zero false true v = refl
unless_zero false false v = refl

-- the coefficient of each term of both sums, but for 0
find-counted : (x y : List Mono) (q : Term) → find term_cmp q (normal_sum x y) ≡ cond (among q (x ++ y)) (some_unless_zero (difference x y q)) None
find-counted x y q =
    let all = with_coefficients x y (terms_in_order (x ++ y)) in
    ap (find term_cmp q) (some_count x y (terms_in_order (x ++ y)))
    ∙ find-where_key term_cmp (counts x y) q (λ t e. ap (counts x y) (sym (term_cmp_exact q t e))) all
    ∙ ap (λ (o : Option ℤ). cond (counts x y q) o None) (find-in_order x y q (x ++ y))
    ∙ unless_zero (among q (x ++ y)) (int_eq (difference x y q) (pos 0)) (difference x y q)

-- the terms ascend
sorted_normal_sum : (x y : List Mono) → T (is_sorted term_cmp (normal_sum x y))
sorted_normal_sum x y =
    subst (λ (form : Coefficients). T (is_sorted term_cmp form)) (sym (some_count x y (terms_in_order (x ++ y))))
    (is_sorted-where_key term_cmp (counts x y) (with_coefficients x y (terms_in_order (x ++ y))) (sorted_in_order x y (x ++ y)))

-- the coefficient of each term in its normal order, but for 0
pub find-normal_sum : (x y : List Mono) (q : Term) → find term_cmp q (normal_sum x y) ≡ cond (ties (canonical q) q) (some_unless_zero (difference x y q)) None
find-normal_sum x y q = find-counted x y q ∙ by (among q (x ++ y)) refl (ties (canonical q) q) refl
  where
    by : (b : Bool) → among q (x ++ y) ≡ b → (c : Bool) → ties (canonical q) q ≡ c → cond b (some_unless_zero (difference x y q)) None ≡ cond c (some_unless_zero (difference x y q)) None
    by true h true k = refl
    by true h false k = absurd (true≢false (sym (is_tied (canonical q) q (among_normal q (x ++ y) h)) ∙ k))
    by false h true k = sym (ap some_unless_zero (difference_none x y q (tied_is (canonical q) q k) h))
    by false h false k = refl

-- ---- the form as it grows

sorted_once : (form : Coefficients) (k : Term) (v : ℤ) (z : Bool) → T (is_sorted term_cmp form) → T (is_sorted term_cmp (cond z form (put term_cmp k v form)))
sorted_once form k v true h = h
sorted_once form k v false h = is_sorted-put term_cmp term_cmp_total k v form h

sorted_fold : (x y : List Mono) (ms : List Mono) (form : Coefficients) → T (is_sorted term_cmp form) → T (is_sorted term_cmp (fold (put_term x y) form ms))
sorted_fold x y [] form h = h
sorted_fold x y (m ∷ ms) form h =
    sorted_fold x y ms (put_term x y form m) (sorted_once form (canonical m.term) (difference x y m.term) (int_eq (difference x y m.term) (pos 0)) h)

-- one monomial after the other gives the normal form
pub grown_is_normal : (x y : List Mono) → fold (put_term x y) (fold (put_term x y) [] x) y ≡ normal_sum x y
grown_is_normal x y =
    sym (fold-append (put_term x y) [] x y)
    ∙ same_entries term_cmp term_cmp_total term_cmp_exact (fold (put_term x y) [] (x ++ y)) (normal_sum x y) (sorted_fold x y (x ++ y) [] tt) (sorted_normal_sum x y)
    (λ q. find-fold x y q (x ++ y) [] false refl ∙ sym (find-counted x y q))

-- ---- equal forms are equal coefficients

difference_of_equal : (x y z w : List Mono) (t : Term) → coeff_of x t + coeff_of w t ≡ coeff_of z t + coeff_of y t → difference x y t ≡ difference z w t
difference_of_equal x y z w t h = omega (arith, ints)

equal_of_difference : (x y z w : List Mono) (t : Term) → difference x y t ≡ difference z w t → coeff_of x t + coeff_of w t ≡ coeff_of z t + coeff_of y t
equal_of_difference x y z w t h = omega (arith, ints)

pub form_of_equal : (x y z w : List Mono) → EqualNormal x y z w → normal_sum x y ≡ normal_sum z w
form_of_equal x y z w h =
    same_entries term_cmp term_cmp_total term_cmp_exact (normal_sum x y) (normal_sum z w) (sorted_normal_sum x y) (sorted_normal_sum z w)
    (λ q. find-normal_sum x y q ∙ ap (λ v. cond (ties (canonical q) q) (some_unless_zero v) None) (difference_of_equal x y z w q (h q)) ∙ sym (find-normal_sum z w q))

unwrap_some : (v : ℤ) → unwrap_or (some_unless_zero v) (pos 0) ≡ v
unwrap_some v = by (int_eq v (pos 0)) (Decides-int_eq v (pos 0))
  where
    by : (b : Bool) → Decides b (v ≡ pos 0) → unwrap_or (cond b None (Some v)) (pos 0) ≡ v
    by true h = sym (h.0 refl)
    by false h = refl

-- the coefficient of a term, read from the normal form
difference_in : (x y : List Mono) (t : Term) → unwrap_or (find term_cmp (canonical t) (normal_sum x y)) (pos 0) ≡ difference x y t
difference_in x y t =
    ap (λ o. unwrap_or o (pos 0)) (find-normal_sum x y (canonical t))
    ∙ ap (λ b. unwrap_or (cond b (some_unless_zero (difference x y (canonical t))) None) (pos 0)) (is_tied (canonical (canonical t)) (canonical t) (canonical_twice t))
    ∙ unwrap_some (difference x y (canonical t))
    ∙ difference_same x y (canonical t) t (canonical_twice t)

pub equal_of_form : (x y z w : List Mono) → normal_sum x y ≡ normal_sum z w → EqualNormal x y z w
equal_of_form x y z w e t =
    equal_of_difference x y z w t (sym (difference_in x y t) ∙ ap (λ form. unwrap_or (find term_cmp (canonical t) form) (pos 0)) e ∙ difference_in z w t)

-- ---- up to sign

pub form_cmp_total : IsTotalOrder form_cmp
form_cmp_total = lists_total (then_total (on_total (λ (p : Term × ℤ). p.0) term_cmp_total) (on_total (λ (p : Term × ℤ). p.1) int_cmp_total))

pub form_cmp_exact : (x y : Coefficients) → form_cmp x y ≡ Equal → x ≡ y
form_cmp_exact x y e = slice_cmp-IsAntisymmetric (exact_pairs term_cmp int_cmp term_cmp_exact int_cmp-IsAntisymmetric) x y e

lesser_turned : (x y : Coefficients) → ord_min form_cmp x y ≡ ord_min form_cmp y x
lesser_turned x y = by (form_cmp x y) refl
  where
    by : (r : Ordering) → form_cmp x y ≡ r → ord_min form_cmp x y ≡ ord_min form_cmp y x
    by Less e = let f : form_cmp y x ≡ Greater = form_cmp_total.antisymm y x ∙ ap ordering_reverse e in rw (e, f) refl
    by Equal e = let f : form_cmp y x ≡ Equal = form_cmp_total.antisymm y x ∙ ap ordering_reverse e in rw (e, f) (form_cmp_exact x y e)
    by Greater e = let f : form_cmp y x ≡ Less = form_cmp_total.antisymm y x ∙ ap ordering_reverse e in rw (e, f) refl

turned_sides : (x y z w : List Mono) → EqualNormal y x w z → EqualNormal x y z w
turned_sides x y z w h t = let e = h t in omega arith

-- of two lists with equal lesser ones, some two are equal
some_equal : (b c : Bool) (x y z w : List Mono) → cond b (normal_sum y x) (normal_sum x y) ≡ cond c (normal_sum w z) (normal_sum z w) → (agree x y z w || agree x y w z) ≡ true
some_equal false false x y z w e = or_left (agree x y z w) (agree x y w z) (agree_of_equal x y z w (equal_of_form x y z w e))
some_equal true true x y z w e = or_left (agree x y z w) (agree x y w z) (agree_of_equal x y z w (turned_sides x y z w (equal_of_form y x w z e)))
some_equal false true x y z w e = or_right (agree x y z w) (agree x y w z) (agree_of_equal x y w z (equal_of_form x y w z e))
some_equal true false x y z w e = or_right (agree x y z w) (agree x y w z) (agree_of_equal x y w z (turned_sides x y w z (equal_of_form y x z w e)))

pub agree_up_to_sign : (x y z w : List Mono) → normal_up_to_sign x y ≡ normal_up_to_sign z w → (agree x y z w || agree x y w z) ≡ true
agree_up_to_sign x y z w e = some_equal _ _ x y z w e

both_forms : (x y z w : List Mono) → agree x y z w ≡ true → (normal_sum x y ≡ normal_sum z w) × (normal_sum y x ≡ normal_sum w z)
both_forms x y z w h =
    let e = equal_of_agree x y z w h in (form_of_equal x y z w e, form_of_equal y x w z (turned_sides y x w z e))

up_to_sign_by : (b c : Bool) (x y z w : List Mono) → agree x y z w ≡ b → agree x y w z ≡ c → (b || c) ≡ true → normal_up_to_sign x y ≡ normal_up_to_sign z w
up_to_sign_by true c x y z w h k o =
    let e = both_forms x y z w h in ap (λ f. ord_min form_cmp f (normal_sum y x)) e.0 ∙ ap (ord_min form_cmp (normal_sum z w)) e.1
up_to_sign_by false true x y z w h k o =
    let e = both_forms x y w z k in
    ap (λ f. ord_min form_cmp f (normal_sum y x)) e.0 ∙ ap (ord_min form_cmp (normal_sum w z)) e.1 ∙ lesser_turned (normal_sum w z) (normal_sum z w)
up_to_sign_by false false x y z w h k o = absurd (true≢false (sym o))

pub up_to_sign_of_agree : (x y z w : List Mono) → (agree x y z w || agree x y w z) ≡ true → normal_up_to_sign x y ≡ normal_up_to_sign z w
up_to_sign_of_agree x y z w h = up_to_sign_by _ _ x y z w refl refl h
