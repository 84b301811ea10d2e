-- The ways in which a goal at a place of a clause binds the variables are all ways.
use Rattle.std.proofs.Common.{◌≡◌, ℕ, ◌+◌, List, [], ◌∷◌, ◌++◌, refl, sym, ap, ◌∙◌, arith, append-nil, append_assoc, Bool, true, false, cond, not, eq-eqb, ◌&&◌, ◌||◌, eqb, true≢false, ◌⊎◌, inl, inr, map, ◌<◌, length, take, get_or, eqb-true, subst}
use Rattle.std.specs.Prelude.{flat_map, option_to_list}
use Rattle.std.specs.List.{list_any}
use Rattle.std.proofs.lemmas.Grind.{common_steps, flat_map-append}
use Rattle.std.proofs.lemmas.List.{map-append, take_more}
use Rattle.std.proofs.lemmas.List.Folds.{list_all_at, list_any-append}
use Rattle.std.proofs.lemmas.Bool.{and_from, or_cases, cases_Bool, not-true}
use Rattle.e_literal.specs.declared.object.Mono.{Mono}
use Rattle.e_literal.specs.declared.object.Term.{Term}
use Rattle.e_literal.specs.declared.object.Term.TheVariants.{Seg, Ang, Area, Right}
use Rattle.e_literal.specs.Same.{term_eq, one_term, coeff_of, agree_at, agree_on, agree, EqualNormal}
use Rattle.e_literal.specs.Rename.{term_at, mono_at}
use Rattle.e_literal.proofs.Agreeing.{agree_equal}
use Rattle.e_literal.proofs.CanonicalTerms.{one_term_is, one_term_of}
use Rattle.e_literal.proofs.Booleans.{and_left, and_right, all_both}
use Rattle.e_transfer.specs.declared.equations.Equation.{Equation}
use Rattle.e_transfer.specs.declared.equations.Equation.TheVariants as equation
use Rattle.e_transfer.specs.declared.equations.Points.{Points}
use Rattle.e_transfer.specs.inner.Equations.{equations_of_points, agrees, all_agree, some_agree, contrary, have_contrary, equations_from_term, equations_from_terms}
use Rattle.e_transfer.specs.inner.Matches.{term_orders, matches_of_term, matches_of_sum, cancellations_of_terms, cancellations_of_sum, cancelling_matches, match_product, points_of_term, points_of_sum, cancels, none_cancels, all_cancel, sum_under, AgreeAlso, CoverSums}
use Rattle.e_transfer.proofs.Elements.{list_any-map, list_any-flat_map, weaker, any_left, any_right}
use Rattle.e_transfer.proofs.Orders.{one_order}

-- ---- terms

pair_equations : (a b : Bool) → (a && b) ≡ true → (a && (b && true)) || false ≡ true
pair_equations true true h = refl
pair_equations true false h = h
pair_equations false b h = h

triple_equations : (a b c : Bool) → (a && (b && c)) ≡ true → (a && (b && (c && true))) || false ≡ true
triple_equations true true true h = refl
triple_equations true true false h = h
triple_equations true false c h = h
triple_equations false b c h = h

-- the term of a row is another where the equations say so
term_equations : (f : ℕ → ℕ) (m o : Term) → term_eq (term_at f m) o ≡ true → some_agree f (option_to_list (equations_from_term m o)) ≡ true
term_equations f (Seg x y) (Seg a b) h = pair_equations (eqb (f x) a) (eqb (f y) b) h
term_equations f (Ang x y z) (Ang a b c) h = triple_equations (eqb (f x) a) (eqb (f y) b) (eqb (f z) c) h
term_equations f (Area x y z) (Area a b c) h = triple_equations (eqb (f x) a) (eqb (f y) b) (eqb (f z) c) h
term_equations f Right Right h = refl
term_equations f (Seg x y) (Ang d e g) h = h
term_equations f (Seg x y) (Area d e g) h = h
term_equations f (Seg x y) Right h = h
term_equations f (Ang x y z) (Seg d e) h = h
term_equations f (Ang x y z) (Area d e g) h = h
term_equations f (Ang x y z) Right h = h
term_equations f (Area x y z) (Seg d e) h = h
term_equations f (Area x y z) (Ang d e g) h = h
term_equations f (Area x y z) Right h = h
term_equations f Right (Seg d e) h = h
term_equations f Right (Ang d e g) h = h
term_equations f Right (Area d e g) h = h

terms_equations : (f : ℕ → ℕ) (m o : Term) → term_eq (term_at f m) (term_at f o) ≡ true → some_agree f (option_to_list (equations_from_terms m o)) ≡ true
terms_equations f (Seg x y) (Seg a b) h = pair_equations (eqb (f x) (f a)) (eqb (f y) (f b)) h
terms_equations f (Ang x y z) (Ang a b c) h = triple_equations (eqb (f x) (f a)) (eqb (f y) (f b)) (eqb (f z) (f c)) h
terms_equations f (Area x y z) (Area a b c) h = triple_equations (eqb (f x) (f a)) (eqb (f y) (f b)) (eqb (f z) (f c)) h
terms_equations f Right Right h = refl
terms_equations f (Seg x y) (Ang d e g) h = h
terms_equations f (Seg x y) (Area d e g) h = h
terms_equations f (Seg x y) Right h = h
terms_equations f (Ang x y z) (Seg d e) h = h
terms_equations f (Ang x y z) (Area d e g) h = h
terms_equations f (Ang x y z) Right h = h
terms_equations f (Area x y z) (Seg d e) h = h
terms_equations f (Area x y z) (Ang d e g) h = h
terms_equations f (Area x y z) Right h = h
terms_equations f Right (Seg d e) h = h
terms_equations f Right (Ang d e g) h = h
terms_equations f Right (Area d e g) h = h

one_match : (f : ℕ → ℕ) (m goal : Term) → one_term (term_at f m) goal ≡ true → some_agree f (matches_of_term m goal) ≡ true
one_match f m goal h =
    list_any-flat_map (all_agree f) (λ o. option_to_list (equations_from_term m o)) (term_orders goal)
    ∙ weaker (λ o. term_eq (term_at f m) o) (λ o. some_agree f (option_to_list (equations_from_term m o))) (term_equations f m) (term_orders goal) (one_order (term_at f m) goal h)

orders_under : (f : ℕ → ℕ) (t : Term) → term_orders (term_at f t) ≡ map (term_at f) (term_orders t)
orders_under f (Seg a b) = refl
orders_under f (Ang a b c) = refl
orders_under f (Area a b c) = refl
orders_under f Right = refl

one_cancellation : (f : ℕ → ℕ) (m other : Term) → one_term (term_at f m) (term_at f other) ≡ true → some_agree f (cancellations_of_terms m other) ≡ true
one_cancellation f m other h =
    let among : list_any (λ o. term_eq (term_at f m) (term_at f o)) (term_orders other) ≡ true =
    sym (list_any-map (λ o. term_eq (term_at f m) o) (term_at f) (term_orders other)) ∙ sym (ap (λ os. list_any (λ o. term_eq (term_at f m) o) os) (orders_under f other))
    ∙ one_order (term_at f m) (term_at f other) h in
    list_any-flat_map (all_agree f) (λ o. option_to_list (equations_from_terms m o)) (term_orders other)
    ∙ weaker (λ o. term_eq (term_at f m) (term_at f o)) (λ o. some_agree f (option_to_list (equations_from_terms m o))) (terms_equations f m) (term_orders other) among

-- ---- sums

-- the term is one with a term of the sum
abbrev pub Among : Term → List Mono → Type 0
Among t x = list_any (λ m. one_term m.term t) x ≡ true

-- a term that is one with none has the coefficient 0
has_term : (x : List Mono) (t : Term) → (coeff_of x t ≡ 0) ⊎ Among t x
has_term [] t = inl refl
has_term (m ∷ ms) t = elim (has_term ms t) [ inl none ↦ grind (arith, common_steps) | inr some ↦ grind (arith, common_steps) ]

seeded_by : (x y z w : List Mono) (t : Term) → coeff_of x t + coeff_of w t ≡ coeff_of z t + coeff_of y t → (coeff_of z t ≡ coeff_of w t → ⊥) →
    (coeff_of x t ≡ 0) ⊎ Among t x → (coeff_of y t ≡ 0) ⊎ Among t y → Among t x ⊎ Among t y
seeded_by x y z w t equal differ (inr at) _ = inl at
seeded_by x y z w t equal differ (inl none) (inr at) = inr at
seeded_by x y z w t equal differ (inl none) (inl none') = absurd (differ (omega (arith, equal, none, none')))

-- a term of z - w that does not cancel is one of x - y where the two have one normal form
seeded : (x y z w : List Mono) (t : Term) → EqualNormal x y z w → (coeff_of z t ≡ coeff_of w t → ⊥) → Among t x ⊎ Among t y
seeded x y z w t equal differ = seeded_by x y z w t (equal t) differ (has_term x t) (has_term y t)

match_in_sum : (f : ℕ → ℕ) (x : List Mono) (goal : Term) → Among goal (sum_under f x) → some_agree f (matches_of_sum goal x) ≡ true
match_in_sum f x goal h =
    list_any-flat_map (all_agree f) (λ m. matches_of_term m.term goal) x
    ∙ weaker (λ m. one_term (term_at f m.term) goal) (λ m. some_agree f (matches_of_term m.term goal)) (λ m. one_match f m.term goal) x
    (sym (list_any-map (λ m. one_term m.term goal) (mono_at f) x) ∙ h)

one_turned : (s t : Term) → one_term s t ≡ true → one_term t s ≡ true
one_turned s t h = one_term_of t s (sym (one_term_is s t h))

cancellation_in_sum : (f : ℕ → ℕ) (m : Term) (y : List Mono) → Among (term_at f m) (sum_under f y) → some_agree f (cancellations_of_sum m y) ≡ true
cancellation_in_sum f m y h =
    list_any-flat_map (all_agree f) (λ n. cancellations_of_terms m n.term) y
    ∙ weaker (λ n. one_term (term_at f n.term) (term_at f m)) (λ n. some_agree f (cancellations_of_terms m n.term)) (λ n k. one_cancellation f m n.term (one_turned (term_at f n.term) (term_at f m) k)) y
    (sym (list_any-map (λ n. one_term n.term (term_at f m)) (mono_at f) y) ∙ h)

matches_cover : (x y z w : List Mono) (t : Term) → (coeff_of z t ≡ coeff_of w t → ⊥) → (f : ℕ → ℕ) → EqualNormal (sum_under f x) (sum_under f y) z w
    → some_agree f (matches_of_sum t x ++ matches_of_sum t y) ≡ true
matches_cover x y z w t differ f equal = elim (seeded (sum_under f x) (sum_under f y) z w t equal differ) [
  | inl at ↦ any_left (all_agree f) (matches_of_sum t x) (matches_of_sum t y) (match_in_sum f x t at)
  | inr at ↦ any_right (all_agree f) (matches_of_sum t x) (matches_of_sum t y) (match_in_sum f y t at)
]

-- ---- both at once

all_joined : (f : ℕ → ℕ) (a b : List Equation) → all_agree f a ≡ true → all_agree f b ≡ true → all_agree f (a ++ b) ≡ true
all_joined f a b h k = all_both (agrees f) a b h k

with_each : (f : ℕ → ℕ) (a : List Equation) (bs : List (List Equation)) → all_agree f a ≡ true → some_agree f bs ≡ true → some_agree f (map (λ b. a ++ b) bs) ≡ true
with_each f a bs h k =
    list_any-map (all_agree f) (λ b. a ++ b) bs
    ∙ weaker (all_agree f) (λ b. all_agree f (a ++ b)) (λ b l. all_joined f a b h l) bs k

pub product_agrees : (f : ℕ → ℕ) (as' bs : List (List Equation)) → some_agree f as' ≡ true → some_agree f bs ≡ true → some_agree f (match_product as' bs) ≡ true
product_agrees f as' bs h k =
    list_any-flat_map (all_agree f) (λ a. map (λ b. a ++ b) bs) as'
    ∙ weaker (all_agree f) (λ a. some_agree f (map (λ b. a ++ b) bs)) (λ a l. with_each f a bs l k) as' h

-- ---- sums of which all cancels

cancels_at : (z w : List Mono) (t : Term) → cancels z w t ≡ true → (coeff_of z t + coeff_of [] t ≡ coeff_of [] t + coeff_of w t)
cancels_at z w t h = let e = eqb-true (coeff_of z t) (coeff_of w t) h in omega (arith, e)

agree_nothing : (z w ms : List Mono) → all_cancel z w ms ≡ true → agree_on z w [] [] ms ≡ true
agree_nothing z w [] h = refl
agree_nothing z w (m ∷ ms) h =
    let rest = all_cancel z w ms in
    and_from (agree_at z w [] [] m.term) (agree_on z w [] [] ms)
    (eq-eqb _ _ (cancels_at z w m.term (and_left (cancels z w m.term) rest h))) (agree_nothing z w ms (and_right (cancels z w m.term) rest h))

-- where all terms that are written cancel, all do
all_equal : (z w : List Mono) → all_cancel z w z ≡ true → all_cancel z w w ≡ true → (t : Term) → coeff_of z t ≡ coeff_of w t
all_equal z w h k t =
    let e : coeff_of z t + 0 ≡ 0 + coeff_of w t =
    (agree_equal z w [] []).0 (and_from (agree_on z w [] [] z) (agree_on z w [] [] w && (agree_on z w [] [] [] && agree_on z w [] [] [])) (agree_nothing z w z h)
    (and_from (agree_on z w [] [] w) (agree_on z w [] [] [] && agree_on z w [] [] []) (agree_nothing z w w k) refl)) t in
    omega (arith, e)

first_holds : (m : Mono) (ms : List Mono) (n : ℕ) → eqb m.coeff 0 ≡ false → coeff_of (m ∷ ms) m.term ≡ n → n ≡ 0 → ⊥
first_holds m ms n h e z =
    let one : one_term m.term m.term ≡ true = one_term_of m.term m.term refl in
    let some : m.coeff + coeff_of ms m.term ≡ n = ap (λ b. cond b m.coeff 0 + coeff_of ms m.term) (sym one) ∙ e in
    true≢false (sym (eq-eqb m.coeff 0 (omega (arith, some, z))) ∙ h)

cancellations_by : (f : ℕ → ℕ) (m : Mono) (ms y : List Mono) → ((t : Term) → coeff_of (sum_under f (m ∷ ms)) t ≡ coeff_of (sum_under f y) t) → (b : Bool) → eqb m.coeff 0 ≡ b
    → some_agree f (cond b ([] ∷ []) (cancellations_of_sum m.term y)) ≡ true
cancellations_by f m ms y equal true h = refl
cancellations_by f m ms y equal false h = elim (has_term (sum_under f y) (term_at f m.term)) [
  | inl none ↦ absurd (first_holds (mono_at f m) (sum_under f ms) (coeff_of (sum_under f y) (term_at f m.term)) h (equal (term_at f m.term)) none)
  | inr some ↦ cancellation_in_sum f m.term y some
]

pub cancellations_cover : (f : ℕ → ℕ) (x y : List Mono) → ((t : Term) → coeff_of (sum_under f x) t ≡ coeff_of (sum_under f y) t) → some_agree f (cancelling_matches x y) ≡ true
cancellations_cover f [] y equal = refl
cancellations_cover f (m ∷ ms) y equal = cancellations_by f m ms y equal (eqb m.coeff 0) refl

-- ---- the matches for two sums

-- one of the two equations of normal forms
either_equal : (f : ℕ → ℕ) (x y z w : List Mono) → (agree (sum_under f x) (sum_under f y) z w || agree (sum_under f x) (sum_under f y) w z) ≡ true
    → EqualNormal (sum_under f x) (sum_under f y) z w ⊎ EqualNormal (sum_under f x) (sum_under f y) w z
either_equal f x y z w h = elim (or_cases (agree (sum_under f x) (sum_under f y) z w) (agree (sum_under f x) (sum_under f y) w z) h) [
  | inl a ↦ inl ((agree_equal (sum_under f x) (sum_under f y) z w).0 a)
  | inr b ↦ inr ((agree_equal (sum_under f x) (sum_under f y) w z).0 b)
]

pub sums_cancel : (x y z w : List Mono) → all_cancel z w z ≡ true → all_cancel z w w ≡ true → CoverSums x y z w (cancelling_matches x y)
sums_cancel x y z w h k f e =
    let zero = all_equal z w h k in
    cancellations_cover f x y (λ t. elim (either_equal f x y z w e) [
      | inl g ↦ (let a = g t in let b = zero t in omega (arith, a, b))
      | inr g ↦ (let a = g t in let b = zero t in omega (arith, a, b))
    ])

holds_is : (z w : List Mono) (t : Term) → not (cancels z w t) ≡ true → coeff_of z t ≡ coeff_of w t → ⊥
holds_is z w t h e = true≢false (sym h ∙ ap not (eq-eqb (coeff_of z t) (coeff_of w t) e))

sums_match : (x y z w : List Mono) (t : Term) → not (cancels z w t) ≡ true → CoverSums x y z w (matches_of_sum t x ++ matches_of_sum t y)
sums_match x y z w t h f e = elim (either_equal f x y z w e) [
  | inl g ↦ matches_cover x y z w t (holds_is z w t h) f g
  | inr g ↦ matches_cover x y w z t (λ k. holds_is z w t h (sym k)) f g
]

pub sums_match_both : (x y z w : List Mono) (as' bs : List (List Equation)) → CoverSums x y z w as' → CoverSums x y z w bs → CoverSums x y z w (match_product as' bs)
sums_match_both x y z w as' bs h k f e = product_agrees f as' bs (h f e) (k f e)

-- ---- the terms that are left

pub left_at : (z w : List Mono) (ts : List Term) (i : ℕ) (d : Term) → none_cancels z w ts ≡ true → i < length ts → not (cancels z w (get_or ts i d)) ≡ true
left_at z w ts i d h less = elim (cases_Bool (not (cancels z w (get_or ts i d)))) [
  | inl e ↦ e
  | inr e ↦ absurd (true≢false (sym h ∙ list_all_at (λ t. not (cancels z w t)) ts i d less e))
]

pub nothing_left : (ts : List Term) → length ts < 1 → ts ≡ []
nothing_left [] less = refl
nothing_left (t ∷ ts) less = absurd (omega (arith, less))

-- ---- matches that contradict each other are left out

contrary_disagree : (f : ℕ → ℕ) (a b : Equation) → contrary a b ≡ true → agrees f a ≡ true → agrees f b ≡ true → ⊥
contrary_disagree f (equation.Is v n) (equation.Is w m) h p q =
    true≢false (sym (eq-eqb n m (sym (eqb-true (f v) n p) ∙ ap f (eqb-true v w (and_left (eqb v w) (not (eqb n m)) h)) ∙ eqb-true (f w) m q)) ∙ not-true (eqb n m) (and_right (eqb v w) (not (eqb n m)) h))
contrary_disagree f (equation.Is v n) (equation.Same w m) h p q = true≢false (sym h)
contrary_disagree f (equation.Same v n) (equation.Is w m) h p q = true≢false (sym h)
contrary_disagree f (equation.Same v n) (equation.Same w m) h p q = true≢false (sym h)

one_contrary : (f : ℕ → ℕ) (a : Equation) (bs : List Equation) → list_any (contrary a) bs ≡ true → agrees f a ≡ true → all_agree f bs ≡ true → ⊥
one_contrary f a [] h p q = true≢false (sym h)
one_contrary f a (b ∷ bs) h p q = elim (or_cases (contrary a b) (list_any (contrary a) bs) h) [
  | inl here ↦ contrary_disagree f a b here p (and_left (agrees f b) (all_agree f bs) q)
  | inr later ↦ one_contrary f a bs later p (and_right (agrees f b) (all_agree f bs) q)
]

some_contrary : (f : ℕ → ℕ) (as' bs : List Equation) → have_contrary as' bs ≡ true → all_agree f as' ≡ true → all_agree f bs ≡ true → ⊥
some_contrary f [] bs h p q = true≢false (sym h)
some_contrary f (a ∷ as') bs h p q = elim (or_cases (list_any (contrary a) bs) (have_contrary as' bs) h) [
  | inl here ↦ one_contrary f a bs here (and_left (agrees f a) (all_agree f as') p) q
  | inr later ↦ some_contrary f as' bs later (and_right (agrees f a) (all_agree f as') p) q
]

parts_agree : (f : ℕ → ℕ) (as' bs : List Equation) → all_agree f (as' ++ bs) ≡ true → (all_agree f as' ≡ true) × (all_agree f bs ≡ true)
parts_agree f [] bs h = (refl, h)
parts_agree f (a ∷ as') bs h =
    let rest = parts_agree f as' bs (and_right (agrees f a) (all_agree f (as' ++ bs)) h) in
    (and_from (agrees f a) (all_agree f as') (and_left (agrees f a) (all_agree f (as' ++ bs)) h) rest.0, rest.1)

-- the matches that are put behind others
agree_cases : (f : ℕ → ℕ) (xs ys : List (List Equation)) → some_agree f (xs ++ ys) ≡ true → (some_agree f xs ≡ true) ⊎ (some_agree f ys ≡ true)
agree_cases f xs ys h = or_cases (some_agree f xs) (some_agree f ys) (sym (list_any-append (all_agree f) xs ys) ∙ h)

agree_behind : (xs old ys : List (List Equation)) → AgreeAlso xs old → AgreeAlso (xs ++ ys) (old ++ ys)
agree_behind xs old ys also f h = elim (agree_cases f xs ys h) [
  | inl first ↦ any_left (all_agree f) old ys (also f first)
  | inr second ↦ any_right (all_agree f) old ys second
]

-- two that contradict each other are no match
pub contrary_left_out : (old : List (List Equation)) (as' bs : List Equation) → have_contrary as' bs ≡ true → AgreeAlso (old ++ (as' ++ bs) ∷ []) old
contrary_left_out old as' bs contrary f h = elim (agree_cases f old ((as' ++ bs) ∷ []) h) [
  | inl before ↦ before
  | inr last ↦ elim (or_cases (all_agree f (as' ++ bs)) false last) [
    | inl both ↦ let parts = parts_agree f as' bs both in absurd (some_contrary f as' bs contrary parts.0 parts.1)
    | inr none ↦ absurd (true≢false (sym none))
  ]
]

each_more : (a : List Equation) (xs ys : List (List Equation)) → map (λ b. a ++ b) (xs ++ ys) ≡ map (λ b. a ++ b) xs ++ map (λ b. a ++ b) ys
each_more a [] ys = refl
each_more a (x ∷ xs) ys = ap (λ l. (a ++ x) ∷ l) (each_more a xs ys)

-- one more match of the second
pub each_step : (init second old new : List (List Equation)) (a b : List Equation) → AgreeAlso (init ++ map (λ x. a ++ x) second) old → AgreeAlso (old ++ (a ++ b) ∷ []) new
    → AgreeAlso (init ++ map (λ x. a ++ x) (second ++ b ∷ [])) new
each_step init second old new a b before added f h =
    let so_far = map (λ x. a ++ x) second in
    let more : init ++ map (λ x. a ++ x) (second ++ b ∷ []) ≡ (init ++ so_far) ++ (a ++ b) ∷ [] =
    ap (λ l. init ++ l) (each_more a second (b ∷ [])) ∙ sym (append_assoc init so_far ((a ++ b) ∷ [])) in
    added f (agree_behind (init ++ so_far) old ((a ++ b) ∷ []) before f (ap (some_agree f) (sym more) ∙ h))

-- one more match of the first
pub product_step : (first second old new : List (List Equation)) (a : List Equation) → AgreeAlso (match_product first second) old → AgreeAlso (old ++ map (λ b. a ++ b) second) new
    → AgreeAlso (match_product (first ++ a ∷ []) second) new
product_step first second old new a before added f h =
    let g = λ (x : List Equation). map (λ b. x ++ b) second in
    let more : match_product (first ++ a ∷ []) second ≡ match_product first second ++ g a = flat_map-append g first (a ∷ []) ∙ ap (λ l. match_product first second ++ l) (append-nil (g a)) in
    added f (agree_behind (match_product first second) old (g a) before f (ap (some_agree f) (sym more) ∙ h))

-- ---- points

-- what one more says
pub points_more : (ps : List Points) (i : ℕ) (d : Points) → i < length ps → map equations_of_points (take (i + 1) ps) ≡ map equations_of_points (take i ps) ++ equations_of_points (get_or ps i d) ∷ []
points_more ps i d less = ap (map equations_of_points) (take_more ps i d less) ∙ map-append equations_of_points (take i ps) (get_or ps i d ∷ [])

term_of_points : (m goal : Term) → map equations_of_points (points_of_term m goal) ≡ matches_of_term m goal
term_of_points (Seg x y) (Seg a b) = refl
term_of_points (Ang x y z) (Ang a b c) = refl
term_of_points (Area x y z) (Area a b c) = refl
term_of_points Right Right = refl
term_of_points (Seg x y) (Ang d e g) = refl
term_of_points (Seg x y) (Area d e g) = refl
term_of_points (Seg x y) Right = refl
term_of_points (Ang x y z) (Seg d e) = refl
term_of_points (Ang x y z) (Area d e g) = refl
term_of_points (Ang x y z) Right = refl
term_of_points (Area x y z) (Seg d e) = refl
term_of_points (Area x y z) (Ang d e g) = refl
term_of_points (Area x y z) Right = refl
term_of_points Right (Seg d e) = refl
term_of_points Right (Ang d e g) = refl
term_of_points Right (Area d e g) = refl

sum_of_points : (goal : Term) (x : List Mono) → map equations_of_points (points_of_sum goal x) ≡ matches_of_sum goal x
sum_of_points goal [] = refl
sum_of_points goal (m ∷ ms) =
    map-append equations_of_points (points_of_term m.term goal) (points_of_sum goal ms) ∙ ap (λ l. l ++ map equations_of_points (points_of_sum goal ms)) (term_of_points m.term goal)
    ∙ ap (λ l. matches_of_term m.term goal ++ l) (sum_of_points goal ms)

-- what the points of a term that does not cancel say
pub points_match : (x y z w : List Mono) (t : Term) (ps : List Points) → not (cancels z w t) ≡ true → ps ≡ points_of_sum t x ++ points_of_sum t y → CoverSums x y z w (map equations_of_points ps)
points_match x y z w t ps h are =
    let same : matches_of_sum t x ++ matches_of_sum t y ≡ map equations_of_points ps =
    ap (λ l. l ++ matches_of_sum t y) (sym (sum_of_points t x)) ∙ ap (λ l. map equations_of_points (points_of_sum t x) ++ l) (sym (sum_of_points t y))
    ∙ sym (map-append equations_of_points (points_of_sum t x) (points_of_sum t y)) ∙ ap (map equations_of_points) (sym are) in
    subst (λ (l : List (List Equation)). CoverSums x y z w l) same (sums_match x y z w t h)
