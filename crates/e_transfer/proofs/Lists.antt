-- Lists of numbers, place by place.
use Rattle.std.proofs.Common.{◌≡◌, ℕ, ◌+◌, ◌<◌, List, [], ◌∷◌, ◌++◌, refl, sym, ap, ◌∙◌, subst, arith, get_or, length, length-append, inl, inr, Bool, true, false, ◌||◌, not, cond, true≢false, eqb-true, Some, None, MatchBool, HoldsAt, zero-add}
use Rattle.std.specs.Prelude.{◌==◌, nat_lt}
use Rattle.std.specs.List.{list_any, position, position_or_len, range_with_len, AllWithin}
use Rattle.std.proofs.lemmas.List.{get_or_append_left}
use Rattle.std.proofs.lemmas.List.FromFn.{length-range_with_len, get_or-range_with_len}
use Rattle.std.proofs.lemmas.Bool.{cases_lt, lt-ltb}
use Rattle.std.proofs.lemmas.List.Quantifiers.{position-Some}
use Rattle.std.proofs.lemmas.Option.{none-some}

get_or_last : (xs : List ℕ) (x d : ℕ) → get_or (xs ++ x ∷ []) (length xs) d ≡ x
get_or_last [] x d = refl
get_or_last (y ∷ xs) x d = get_or_last xs x d

-- what holds at each place holds with one more number
pub each_pushed : (R : ℕ → ℕ → Type 0) (xs new : List ℕ) (x n : ℕ) → new ≡ xs ++ x ∷ [] → length xs ≡ n → ((v : ℕ) → v < n → R v (get_or xs v 0)) → R n x
    → (v : ℕ) → v < n + 1 → R v (get_or new v 0)
each_pushed R xs new x n is many all last v less = elim (cases_lt v n) [
  | inl below ↦ subst (λ l. R v (get_or l v 0)) (sym is) (subst (λ k. R v k) (sym (get_or_append_left xs (x ∷ []) 0 v (omega (arith, many, below)))) (all v below))
  | inr over ↦
      let at : v ≡ length xs = omega (arith, less, over, many) in
      let here : get_or new v 0 ≡ x = ap (λ l. get_or l v 0) is ∙ ap (λ k. get_or (xs ++ x ∷ []) k 0) at ∙ get_or_last xs x 0 in
      let same : n ≡ v = omega (arith, less, over) in
      subst (λ k. R v k) (sym here) (subst (λ k. R k x) same last)
]

pub pushed_many : (xs new : List ℕ) (x n : ℕ) → new ≡ xs ++ x ∷ [] → length xs ≡ n → length new ≡ n + 1
pushed_many xs new x n is many = let e = ap length is in let k = length-append xs (x ∷ []) in omega (arith, e, k, many)

-- ---- the place of a number

abbrev is_it : ℕ → ℕ → Bool
is_it v u = u == v

there_before_end : (v : ℕ) (xs : List ℕ) → list_any (is_it v) xs ≡ true → position_or_len (is_it v) xs < length xs
there_before_end v [] h = absurd (true≢false (sym h))
there_before_end v (x ∷ xs) h = by (is_it v x) h (λ k. there_before_end v xs k)
  where
    by : (b : Bool) → (b || list_any (is_it v) xs) ≡ true → (list_any (is_it v) xs ≡ true → position_or_len (is_it v) xs < length xs) → cond (not b) (1 + position_or_len (is_it v) xs) 0 < length (x ∷ xs)
    by true k later = omega arith
    by false k later = let less = later k in omega (arith, less)

-- a number that a list has is found in it
pub is_found : (v : ℕ) (xs : List ℕ) → list_any (is_it v) xs ≡ true → position (is_it v) xs ≡ None → ⊥
is_found v xs h e =
    let tested : nat_lt (position_or_len (is_it v) xs) (length xs) ≡ true = lt-ltb (position_or_len (is_it v) xs) (length xs) (there_before_end v xs h) in
    none-some (position_or_len (is_it v) xs) (sym e ∙ ap (λ b. cond b (Some (position_or_len (is_it v) xs)) None) tested)

-- and its place is one of the list's, where it is
pub found_below : (v : ℕ) (xs : List ℕ) (i : ℕ) → position (is_it v) xs ≡ Some i → i < length xs
found_below v xs i e = (position-Some (is_it v) xs i 0 e).0

pub found_at : (v : ℕ) (xs : List ℕ) (i : ℕ) → position (is_it v) xs ≡ Some i → get_or xs i 0 ≡ v
found_at v xs i e = eqb-true (get_or xs i 0) v (position-Some (is_it v) xs i 0 e).1

-- ---- the numbers below another

-- where not all of them have passed a test, one has not
pub one_failed : (Yes No : ℕ → Type 0) (n : ℕ) (r : Bool) → MatchBool r (AllWithin Yes (range_with_len 0 n) 0 (length (range_with_len 0 n))) ((k : ℕ) × (k < length (range_with_len 0 n)) × HoldsAt No (range_with_len 0 n) k)
    → r ≡ false → (k : ℕ) × (k < n) × No k
one_failed Yes No n true h e = absurd (true≢false e)
one_failed Yes No n false h e =
    let k = h.0 in
    let less : k < n = subst (λ m. k < m) (length-range_with_len 0 n) h.1 in
    (k, less, subst No (get_or-range_with_len 0 n k 0 less ∙ zero-add k) (h.2 0))
