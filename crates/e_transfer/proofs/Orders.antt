-- Terms that are one term are written alike in one of the orders.
use Rattle.std.proofs.Common.{◌≡◌, ℕ, refl, sym, ap, ◌∙◌, subst, arith, ◌<◌, ◌≤◌, Bool, true, true≢false, ◌⊎◌, inl, inr, min, max, eqb-true}
use Rattle.std.specs.List.{list_any}
use Rattle.std.proofs.lemmas.Bool.{cases_eq, cases_lt}
use Rattle.std.proofs.lemmas.Bool.Decides.{nat_tests}
use Rattle.e_literal.specs.declared.object.Term.{Term}
use Rattle.e_literal.specs.declared.object.Term.TheVariants.{Seg, Ang, Area, Right}
use Rattle.e_literal.specs.Same.{canonical, term_eq, one_term}
use Rattle.e_literal.proofs.Booleans.{and_left, and_right}
use Rattle.e_transfer.specs.inner.Matches.{term_orders}

-- two numbers that are two others, in some order
two_of : (a b c d : ℕ) → min a b ≡ min c d → max a b ≡ max c d → (a ≡ c) × (b ≡ d) ⊎ (a ≡ d) × (b ≡ c)
two_of a b c d low high = elim (cases_eq a c) [
  | inl e ↦ inl (e, omega (arith, e, low, high))
  | inr n ↦ inr (omega (arith, n, low, high), omega (arith, n, low, high))
]

-- of three numbers in order, the least, the middle one and the greatest
abbrev least : ℕ → ℕ → ℕ → ℕ
least a b c = min (min a b) c

abbrev middle : ℕ → ℕ → ℕ → ℕ
middle a b c = max (min a b) (min (max a b) c)

abbrev greatest : ℕ → ℕ → ℕ → ℕ
greatest a b c = max (max a b) c

-- two triples are one in order
record AreAlike (a b c d e f : ℕ) : Type 0 where
  low : least a b c ≡ least d e f
  mid : middle a b c ≡ middle d e f
  high : greatest a b c ≡ greatest d e f

min_comm : (a b : ℕ) → min a b ≡ min b a
min_comm a b = omega arith

max_comm : (a b : ℕ) → max a b ≡ max b a
max_comm a b = omega arith

-- the first put between the other two
low_first : (a b c : ℕ) → least a b c ≡ min a (min b c)
low_first a b c = omega arith

mid_first : (a b c : ℕ) → middle a b c ≡ max (min b c) (min a (max b c))
mid_first a b c = elim (cases_lt b c) [ inl x ↦ ordered b c a (omega (arith, x)) | inr x ↦ turned x ]
  where
    ordered : (b c a : ℕ) → b ≤ c → middle a b c ≡ max (min b c) (min a (max b c))
    ordered b c a x =
        let p : min b c ≡ b = omega (arith, x) in
        let q : max b c ≡ c = omega (arith, x) in
        rw (p, q) (omega (arith, x))

    turned : c ≤ b → middle a b c ≡ max (min b c) (min a (max b c))
    turned x =
        let p : min b c ≡ c = omega (arith, x) in
        let q : max b c ≡ b = omega (arith, x) in
        rw (p, q) (omega (arith, x))

high_first : (a b c : ℕ) → greatest a b c ≡ max a (max b c)
high_first a b c = omega arith

-- with one of three known, the other two in order
rest_between : (a p q r s : ℕ) → p ≤ q → r ≤ s → min a p ≡ min a r → max p (min a q) ≡ max r (min a s) → max a q ≡ max a s → (p ≡ r) × (q ≡ s)
rest_between a p q r s x y low mid high = elim (cases_lt a p) [
  | inl under ↦ (omega (arith, x, y, low, mid, high, under), omega (arith, x, y, low, mid, high, under))
  | inr over ↦ elim (cases_lt q a) [
    | inl above ↦ (omega (arith, x, y, low, mid, high, over, above), omega (arith, x, y, low, mid, high, over, above))
    | inr in_it ↦ (omega (arith, x, y, low, mid, high, over, in_it), omega (arith, x, y, low, mid, high, over, in_it))
  ]
]

rest_of : (a b c e f : ℕ) → AreAlike a b c a e f → (b ≡ e) × (c ≡ f) ⊎ (b ≡ f) × (c ≡ e)
rest_of a b c e f alike =
    let pair = rest_between a (min b c) (max b c) (min e f) (max e f) (omega arith) (omega arith)
    (sym (low_first a b c) ∙ alike.low ∙ low_first a e f)
    (sym (mid_first a b c) ∙ alike.mid ∙ mid_first a e f)
    (sym (high_first a b c) ∙ alike.high ∙ high_first a e f) in
    two_of b c e f pair.0 pair.1

-- ---- each of three is the least, the middle one or the greatest

abbrev IsOneOf : ℕ → ℕ → ℕ → ℕ → Type 0
IsOneOf x a b c = (x ≡ a) ⊎ ((x ≡ b) ⊎ (x ≡ c))

clamp_low : (a p : ℕ) → a < p → a ≡ min a p
clamp_low a p h = omega (arith, h)

clamp_mid : (a p q : ℕ) → p ≤ a → a ≤ q → a ≡ max p (min a q)
clamp_mid a p q h g = omega (arith, h, g)

clamp_high : (a q : ℕ) → q < a → a ≡ max a q
clamp_high a q h = omega (arith, h)

in_order : (a b c : ℕ) → IsOneOf a (least a b c) (middle a b c) (greatest a b c)
in_order a b c =
    let low = low_first a b c in
    let mid = mid_first a b c in
    let high = high_first a b c in
    elim (cases_lt a (min b c)) [
      | inl under ↦ inl (low' low under)
      | inr over ↦ elim (cases_lt (max b c) a) [
        | inl above ↦ inr (inr (high' high above))
        | inr in_it ↦ inr (inl (mid' mid over in_it))
      ]
    ]
  where
    low' : least a b c ≡ min a (min b c) → a < min b c → a ≡ least a b c
    low' e h = clamp_low a (min b c) h ∙ sym e

    mid' : middle a b c ≡ max (min b c) (min a (max b c)) → min b c ≤ a → a ≤ max b c → a ≡ middle a b c
    mid' e h g = clamp_mid a (min b c) (max b c) h g ∙ sym e

    high' : greatest a b c ≡ max a (max b c) → max b c < a → a ≡ greatest a b c
    high' e h = clamp_high a (max b c) h ∙ sym e

min_is : (a b : ℕ) → (min a b ≡ a) ⊎ (min a b ≡ b)
min_is a b = elim (cases_lt a b) [ inl x ↦ inl (omega (arith, x)) | inr x ↦ inr (omega (arith, x)) ]

max_is : (a b : ℕ) → (max a b ≡ a) ⊎ (max a b ≡ b)
max_is a b = elim (cases_lt a b) [ inl x ↦ inr (omega (arith, x)) | inr x ↦ inl (omega (arith, x)) ]

-- the least of two that are each one of three is one of them
min_one : (x y a b c : ℕ) → IsOneOf x a b c → IsOneOf y a b c → IsOneOf (min x y) a b c
min_one x y a b c p q = elim (min_is x y) [ inl e ↦ subst (λ n. IsOneOf n a b c) (sym e) p | inr e ↦ subst (λ n. IsOneOf n a b c) (sym e) q ]

max_one : (x y a b c : ℕ) → IsOneOf x a b c → IsOneOf y a b c → IsOneOf (max x y) a b c
max_one x y a b c p q = elim (max_is x y) [ inl e ↦ subst (λ n. IsOneOf n a b c) (sym e) p | inr e ↦ subst (λ n. IsOneOf n a b c) (sym e) q ]

first_one : (a b c d e f : ℕ) → AreAlike a b c d e f → IsOneOf a d e f
first_one a b c d e f alike =
    let x : IsOneOf d d e f = inl refl in
    let y : IsOneOf e d e f = inr (inl refl) in
    let z : IsOneOf f d e f = inr (inr refl) in
    let xy = min_one d e d e f x y in
    elim (in_order a b c) [
      | inl l ↦ subst (λ n. IsOneOf n d e f) (sym (l ∙ alike.low)) (min_one (min d e) f d e f xy z)
      | inr m ↦ elim m [
        | inl k ↦ subst (λ n. IsOneOf n d e f) (sym (k ∙ alike.mid)) (max_one (min d e) (min (max d e) f) d e f xy (min_one (max d e) f d e f (max_one d e d e f x y) z))
        | inr h ↦ subst (λ n. IsOneOf n d e f) (sym (h ∙ alike.high)) (max_one (max d e) f d e f (max_one d e d e f x y) z)
      ]
    ]

-- the second, or the third, put first
second_first : (d e f : ℕ) → AreAlike d e f e d f
second_first d e f = record {
  low = ap (λ n. min n f) (min_comm d e);
  mid = ap (λ n. max n (min (max d e) f)) (min_comm d e) ∙ ap (λ n. max (min e d) (min n f)) (max_comm d e);
  high = ap (λ n. max n f) (max_comm d e);
}

third_first : (d e f : ℕ) → AreAlike d e f f d e
third_first d e f = record {
  low = min_comm (min d e) f ∙ sym (low_first f d e);
  mid = ap (λ n. max (min d e) n) (min_comm (max d e) f) ∙ sym (mid_first f d e);
  high = max_comm (max d e) f ∙ sym (high_first f d e);
}

and_then : (a b c d e f g h i : ℕ) → AreAlike a b c d e f → AreAlike d e f g h i → AreAlike a b c g h i
and_then a b c d e f g h i x y = record { low = x.low ∙ y.low; mid = x.mid ∙ y.mid; high = x.high ∙ y.high }

-- the first is known
with_first : (a b c d e f : ℕ) → a ≡ d → AreAlike a b c d e f → (b ≡ e) × (c ≡ f) ⊎ (b ≡ f) × (c ≡ e)
with_first a b c d e f same alike = rest_of a b c e f (subst (λ n. AreAlike a b c n e f) (sym same) alike)

-- ---- terms

alike_of : (a b c d e f : ℕ) → term_eq (canonical (Area a b c)) (canonical (Area d e f)) ≡ true → AreAlike a b c d e f
alike_of a b c d e f h = record {
  low = eqb-true _ _ (and_left _ _ h);
  mid = eqb-true _ _ (and_left _ _ (and_right _ _ h));
  high = eqb-true _ _ (and_right _ _ (and_right _ _ h));
}

-- one of the orders is the term, where it is at one of these places
abbrev among : Term → Term → Bool
among s t = list_any (λ o. term_eq s o) (term_orders t)

area_one : (a b c d e f : ℕ) → (a ≡ d) → (b ≡ e) × (c ≡ f) ⊎ (b ≡ f) × (c ≡ e) → among (Area a b c) (Area d e f) ≡ true
area_one a b c d e f x (inl (y, z)) = grind (arith, nat_tests, x, y, z)
area_one a b c d e f x (inr (y, z)) = grind (arith, nat_tests, x, y, z)

area_two : (a b c d e f : ℕ) → (a ≡ e) → (b ≡ d) × (c ≡ f) ⊎ (b ≡ f) × (c ≡ d) → among (Area a b c) (Area d e f) ≡ true
area_two a b c d e f x (inl (y, z)) = grind (arith, nat_tests, x, y, z)
area_two a b c d e f x (inr (y, z)) = grind (arith, nat_tests, x, y, z)

area_three : (a b c d e f : ℕ) → (a ≡ f) → (b ≡ d) × (c ≡ e) ⊎ (b ≡ e) × (c ≡ d) → among (Area a b c) (Area d e f) ≡ true
area_three a b c d e f x (inl (y, z)) = grind (arith, nat_tests, x, y, z)
area_three a b c d e f x (inr (y, z)) = grind (arith, nat_tests, x, y, z)

pair_one : (a b c d : ℕ) → (a ≡ c) × (b ≡ d) ⊎ (a ≡ d) × (b ≡ c) → among (Seg a b) (Seg c d) ≡ true
pair_one a b c d (inl (x, y)) = grind (arith, nat_tests, x, y)
pair_one a b c d (inr (x, y)) = grind (arith, nat_tests, x, y)

angle_one : (a b c d e f : ℕ) → b ≡ e → (a ≡ d) × (c ≡ f) ⊎ (a ≡ f) × (c ≡ d) → among (Ang a b c) (Ang d e f) ≡ true
angle_one a b c d e f z (inl (x, y)) = grind (arith, nat_tests, x, y, z)
angle_one a b c d e f z (inr (x, y)) = grind (arith, nat_tests, x, y, z)

-- a term that is one with another is the other in one of its orders
pub one_order : (s t : Term) → one_term s t ≡ true → list_any (λ o. term_eq s o) (term_orders t) ≡ true
one_order (Seg a b) (Seg c d) h = pair_one a b c d (two_of a b c d (eqb-true _ _ (and_left _ _ h)) (eqb-true _ _ (and_right _ _ h)))
one_order (Ang a b c) (Ang d e f) h =
    angle_one a b c d e f (eqb-true _ _ (and_left _ _ (and_right _ _ h)))
    (two_of a c d f (eqb-true _ _ (and_left _ _ h)) (eqb-true _ _ (and_right _ _ (and_right _ _ h))))
one_order (Area a b c) (Area d e f) h =
    let alike = alike_of a b c d e f h in
    elim (first_one a b c d e f alike) [
      | inl x ↦ area_one a b c d e f x (with_first a b c d e f x alike)
      | inr y ↦ elim y [
        | inl x ↦ area_two a b c d e f x (with_first a b c e d f x (and_then a b c d e f e d f alike (second_first d e f)))
        | inr x ↦ area_three a b c d e f x (with_first a b c f d e x (and_then a b c d e f f d e alike (third_first d e f)))
      ]
    ]
one_order Right Right h = refl
one_order (Seg a b) (Ang d e f) h = absurd (true≢false (sym h))
one_order (Seg a b) (Area d e f) h = absurd (true≢false (sym h))
one_order (Seg a b) Right h = absurd (true≢false (sym h))
one_order (Ang a b c) (Seg d e) h = absurd (true≢false (sym h))
one_order (Ang a b c) (Area d e f) h = absurd (true≢false (sym h))
one_order (Ang a b c) Right h = absurd (true≢false (sym h))
one_order (Area a b c) (Seg d e) h = absurd (true≢false (sym h))
one_order (Area a b c) (Ang d e f) h = absurd (true≢false (sym h))
one_order (Area a b c) Right h = absurd (true≢false (sym h))
one_order Right (Seg d e) h = absurd (true≢false (sym h))
one_order Right (Ang d e f) h = absurd (true≢false (sym h))
one_order Right (Area d e f) h = absurd (true≢false (sym h))
