-- Terms whose points have numbers below 2^16 differ where their keys differ.
use Rattle.std.proofs.Common.{◌≡◌, ℕ, zero, suc, ◌+◌, ◌*◌, ◌<◌, refl, sym, ap, ◌∙◌, arith, Bool, true, ◌&&◌, ltb-true, lt-ltb, eqb-true, eq-eqb}
use Rattle.std.specs.Prelude.{nat_lt, nat_eq}
use Rattle.std.proofs.lemmas.Bool.{and_from}
use Rattle.e_literal.specs.declared.object.Term.{Term}
use Rattle.e_literal.specs.declared.object.Term.TheVariants.{Seg, Ang, Area, Right}
use Rattle.e_literal.specs.Same.{term_eq}
use Rattle.e_literal.proofs.Booleans.{and_left, and_right, same_bool}
use Rattle.e_literal.proofs.Terms.{term_eq_is, equal_terms}
use Rattle.e_verify.specs.inner.Fingerprint.{packed_number}
use Rattle.e_verify.specs.inner.Totals.{term_key, is_narrow}

abbrev is_low : ℕ → Bool
is_low n = nat_lt n 65536

low : (n : ℕ) → is_low n ≡ true → n < 65536
low n h = ltb-true n 65536 h

-- ---- numbers that are put together

one_more : (p q a b : ℕ) → a < 65536 → b < 65536 → p * 65536 + a ≡ q * 65536 + b → (p ≡ q) × (a ≡ b)
one_more p q a b h k e =
    let front : p ≡ q = omega (arith, h, k, e) in (front, omega (arith, e, front))

record IsSameNumbers (k l a b c d e f : ℕ) : Type 0 where
  kind : k ≡ l
  first : a ≡ d
  second : b ≡ e
  third : c ≡ f

four : (k l a b c d e f : ℕ) → a < 65536 → b < 65536 → c < 65536 → d < 65536 → e < 65536 → f < 65536 → packed_number k a b c ≡ packed_number l d e f → IsSameNumbers k l a b c d e f
four k l a b c d e f ha hb hc hd he hf is =
    let last = one_more ((k * 65536 + a) * 65536 + b) ((l * 65536 + d) * 65536 + e) c f hc hf is in
    let middle = one_more (k * 65536 + a) (l * 65536 + d) b e hb he last.0 in
    let front = one_more k l a d ha hd middle.0 in
    record { kind = front.0; first = front.1; second = middle.1; third = last.1 }

-- ---- terms as four numbers

abbrev kind_of : Term → ℕ
kind_of (Seg a b) = 0
kind_of (Ang a b c) = 1
kind_of (Area a b c) = 2
kind_of Right = 3

abbrev first_of : Term → ℕ
first_of (Seg a b) = a
first_of (Ang a b c) = a
first_of (Area a b c) = a
first_of Right = 0

abbrev second_of : Term → ℕ
second_of (Seg a b) = b
second_of (Ang a b c) = b
second_of (Area a b c) = b
second_of Right = 0

abbrev third_of : Term → ℕ
third_of (Seg a b) = 0
third_of (Ang a b c) = c
third_of (Area a b c) = c
third_of Right = 0

abbrev term_at : ℕ → ℕ → ℕ → ℕ → Term
term_at zero a b c = Seg a b
term_at (suc zero) a b c = Ang a b c
term_at (suc (suc zero)) a b c = Area a b c
term_at k a b c = Right

back : (t : Term) → term_at (kind_of t) (first_of t) (second_of t) (third_of t) ≡ t
back (Seg a b) = refl
back (Ang a b c) = refl
back (Area a b c) = refl
back Right = refl

key_is : (t : Term) → term_key t ≡ packed_number (kind_of t) (first_of t) (second_of t) (third_of t)
key_is (Seg a b) = refl
key_is (Ang a b c) = refl
key_is (Area a b c) = refl
key_is Right = refl

record AreLow (t : Term) : Type 0 where
  first : first_of t < 65536
  second : second_of t < 65536
  third : third_of t < 65536

three_low : (a b c : ℕ) → (is_low a && (is_low b && (is_low c && true))) ≡ true → (a < 65536) × (b < 65536) × (c < 65536)
three_low a b c h =
    let rest = and_right (is_low a) (is_low b && (is_low c && true)) h in (
      low a (and_left (is_low a) (is_low b && (is_low c && true)) h),
      low b (and_left (is_low b) (is_low c && true) rest),
      low c (and_left (is_low c) true (and_right (is_low b) (is_low c && true) rest)),
    )

are_low : (t : Term) → is_narrow t ≡ true → AreLow t
are_low (Seg a b) h = record { first = low a (and_left (is_low a) (is_low b && true) h); second = low b (and_left (is_low b) true (and_right (is_low a) (is_low b && true) h)); third = omega arith }
are_low (Ang a b c) h =
    let l = three_low a b c h in record { first = l.0; second = l.1; third = l.2 }
are_low (Area a b c) h =
    let l = three_low a b c h in record { first = l.0; second = l.1; third = l.2 }
are_low Right h = record { first = omega arith; second = omega arith; third = omega arith }

-- points with low numbers make a narrow term
low_is : (n : ℕ) → n < 65536 → is_low n ≡ true
low_is n h = lt-ltb n 65536 h

pub narrow_two : (t : Term) (a b : ℕ) → t ≡ Seg a b → a < 65536 → b < 65536 → is_narrow t ≡ true
narrow_two t a b is h k = ap is_narrow is ∙ and_from (is_low a) (is_low b && true) (low_is a h) (and_from (is_low b) true (low_is b k) refl)

three : (a b c : ℕ) → a < 65536 → b < 65536 → c < 65536 → (is_low a && (is_low b && (is_low c && true))) ≡ true
three a b c h k l = and_from (is_low a) (is_low b && (is_low c && true)) (low_is a h) (and_from (is_low b) (is_low c && true) (low_is b k) (and_from (is_low c) true (low_is c l) refl))

pub narrow_angle : (t : Term) (a b c : ℕ) → t ≡ Ang a b c → a < 65536 → b < 65536 → c < 65536 → is_narrow t ≡ true
narrow_angle t a b c is h k l = ap is_narrow is ∙ three a b c h k l

pub narrow_area : (t : Term) (a b c : ℕ) → t ≡ Area a b c → a < 65536 → b < 65536 → c < 65536 → is_narrow t ≡ true
narrow_area t a b c is h k l = ap is_narrow is ∙ three a b c h k l

-- ---- what a key tells

-- a key is that of one term
pub key_exact : (s t : Term) → is_narrow s ≡ true → is_narrow t ≡ true → term_key s ≡ term_key t → s ≡ t
key_exact s t m n e =
    let l = are_low s m in
    let r = are_low t n in
    let q = four (kind_of s) (kind_of t) (first_of s) (second_of s) (third_of s) (first_of t) (second_of t) (third_of t) l.first l.second l.third r.first r.second r.third (sym (key_is s) ∙ e ∙ key_is t) in
    sym (back s)
    ∙ ap (λ k. term_at k (first_of s) (second_of s) (third_of s)) q.kind
    ∙ ap (λ a. term_at (kind_of t) a (second_of s) (third_of s)) q.first
    ∙ ap (λ b. term_at (kind_of t) (first_of t) b (third_of s)) q.second
    ∙ ap (term_at (kind_of t) (first_of t) (second_of t)) q.third
    ∙ back t

pub same_keys : (s t : Term) → is_narrow s ≡ true → is_narrow t ≡ true → nat_eq (term_key s) (term_key t) ≡ term_eq s t
same_keys s t m n =
    same_bool (nat_eq (term_key s) (term_key t)) (term_eq s t)
    (λ h. equal_terms s t (key_exact s t m n (eqb-true (term_key s) (term_key t) h)))
    (λ h. eq-eqb (term_key s) (term_key t) (ap term_key (term_eq_is s t h)))
