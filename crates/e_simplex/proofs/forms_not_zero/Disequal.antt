-- What the rows that say `not 0` need: one of enough multiples keeps them all, and a value of a
-- further row is a minor.
use Rattle.std.proofs.Common.{◌≡◌, ◌≢◌, ℕ, zero, suc, ◌+◌, ◌<◌, ◌≤◌, cond, eqb, List, [], ◌∷◌, refl, ap, arith, sym, ◌∙◌, subst, length, get_or, ◌⊎◌, inl, inr}
use Rattle.std.proofs.lemmas.Bool.{cases_eq, eq-eqb, ne_eqb}
use lib.IntN.{ℤ, pos, ◌+ℤ◌, ◌-ℤ◌, ◌*ℤ◌, neg_ℤ}
use Rattle.e_fraction.specs.Det.{det, expand, EachBelow}
use Rattle.e_literal.proofs.Arith.{sums, neg_mul}
use Rattle.e_fraction.proofs.Expand.{expand-same, expand-neg}
use Rattle.e_fraction.proofs.Columns.{replaced, expand_front, Alternates-det}
use Rattle.e_fraction.proofs.WidthOfRows.{Misses, AllApart, Twice, apart}
use Rattle.e_fraction.proofs.Quotient.{one_quotient}

-- ---- more numbers below n than n are not all different

abbrev sum_to : ℕ → (ℕ → ℕ) → ℕ
sum_to zero g = 0
sum_to (suc n) g = g n + sum_to n g

abbrev less : ℕ → (ℕ → ℕ) → ℕ → ℕ
less c g x = cond (eqb x c) 0 (g x)

less-same : (c : ℕ) (g : ℕ → ℕ) → less c g c ≡ 0
less-same c g = ap (λ b. cond b 0 (g c)) (eq-eqb c c refl)

less-other : (c : ℕ) (g : ℕ → ℕ) (x : ℕ) → x ≢ c → less c g x ≡ g x
less-other c g x d = ap (λ b. cond b 0 (g x)) (ne_eqb x c d)

sum_agree : (n : ℕ) (f g : ℕ → ℕ) → ((x : ℕ) → x < n → f x ≡ g x) → sum_to n f ≡ sum_to n g
sum_agree zero f g h = refl
sum_agree (suc n) f g h = omega (arith, h n (omega arith), sum_agree n f g (λ x l. h x (omega (arith, l))))

pull_sum : (n c : ℕ) (g : ℕ → ℕ) → c < n → sum_to n g ≡ g c + sum_to n (less c g)
pull_sum zero c g l = absurd (omega (arith, l))
pull_sum (suc n) c g l =
    elim (cases_eq c n) [
      | inl e ↦ omega (arith, sum_agree n (less c g) g (λ x m. less-other c g x (omega (arith, m, e))), ap (less c g) (sym e), less-same c g, ap g e)
      | inr d ↦ omega (arith, less-other c g n (λ q. d (sym q)), pull_sum n c g (omega (arith, l, d)))
    ]

abbrev Kept : (ℕ → ℕ) → List ℕ → Type 0
Kept g [] = Unit {0}
Kept g (c ∷ cs) = (1 ≤ g c) × Kept g cs

kept_less : (g : ℕ → ℕ) (c : ℕ) (cs : List ℕ) → Misses c cs → Kept g cs → Kept (less c g) cs
kept_less g c [] m h = tt
kept_less g c (x ∷ xs) m h = (omega (arith, h.0, less-other c g x m.0), kept_less g c xs m.1 h.1)

apart_length : (n : ℕ) (cs : List ℕ) (g : ℕ → ℕ) → EachBelow n cs → AllApart cs → Kept g cs → length cs ≤ sum_to n g
apart_length n [] g b a h = omega arith
apart_length n (c ∷ cs) g b a h =
    omega (arith, pull_sum n c g b.0, h.0, apart_length n cs (less c g) b.1 a.1 (kept_less g c cs a.0 h.1))

ones : (n : ℕ) → sum_to n (λ x. 1) ≡ n
ones zero = refl
ones (suc n) = omega (arith, ones n)

kept_ones : (cs : List ℕ) → Kept (λ x. 1) cs
kept_ones [] = tt
kept_ones (c ∷ cs) = (omega arith, kept_ones cs)

pub pigeons : (n : ℕ) (cs : List ℕ) → EachBelow n cs → n < length cs → Twice cs
pigeons n cs b l = elim (apart cs) [
  | inl a ↦ absurd (omega (arith, l, ones n, apart_length n cs (λ x. 1) b a (kept_ones cs)))
  | inr t ↦ t
]

-- ---- of the first n + 1 multiples, some is bad for none of n rows, if none has two bad multiples

abbrev table : ℕ → ℕ → (ℕ → ℕ) → List ℕ
table k zero f = []
table k (suc n) f = f k ∷ table (suc k) n f

table_length : (k n : ℕ) (f : ℕ → ℕ) → length (table k n f) ≡ n
table_length k zero f = refl
table_length k (suc n) f = ap suc (table_length (suc k) n f)

table_at : (k n i : ℕ) (f : ℕ → ℕ) → i < n → get_or (table k n f) i 0 ≡ f (k + i)
table_at k zero i f l = absurd (omega (arith, l))
table_at k (suc n) zero f l = ap f (omega arith)
table_at k (suc n) (suc i) f l = table_at (suc k) n i f (omega (arith, l)) ∙ ap f (omega arith)

table_below : (k n m : ℕ) (f : ℕ → ℕ) → ((t : ℕ) → f t < m) → EachBelow m (table k n f)
table_below k zero m f h = tt
table_below k (suc n) m f h = (h k, table_below (suc k) n m f h)

-- row t is the row for which the multiple t is bad
pub some_good : (n : ℕ) (Bad : ℕ → ℕ → Type 0) → ((j s t : ℕ) → Bad j s → Bad j t → s ≡ t)
    → (row : ℕ → ℕ) → ((t : ℕ) → row t < n) → ((t : ℕ) → t < n + 1 → Bad (row t) t) → ⊥
some_good n Bad one row below bad =
    let w : Twice (table 0 (n + 1) row) = pigeons n (table 0 (n + 1) row) (table_below 0 (n + 1) n row below) (omega (arith, table_length 0 (n + 1) row)) in
    let two : w.two < n + 1 = omega (arith, w.here, table_length 0 (n + 1) row) in
    let e : row w.one ≡ row w.two =
    ap row (omega arith) ∙ sym (table_at 0 (n + 1) w.one row (omega (arith, w.below, two))) ∙ w.same ∙ table_at 0 (n + 1) w.two row two ∙ ap row (omega arith) in
    let s : w.one ≡ w.two = one (row w.two) w.one w.two (subst (λ v. Bad v w.one) e (bad w.one (omega (arith, w.below, two)))) (bad w.two two) in
    omega (arith, s, w.below)

-- a row whose value is not 0 at the second point has at most one bad multiple of it
pub one_bad : (a b : ℤ) (s t : ℕ) → b ≢ pos 0 → a +ℤ pos s *ℤ b ≡ pos 0 → a +ℤ pos t *ℤ b ≡ pos 0 → s ≡ t
one_bad a b s t n e f = omega (arith, sums, one_quotient (pos s) (pos t) b n (omega (arith, sums, e, f)))

-- ---- the value of a further row is a minor with that row, less its constant times the determinant

pub further_row : (g : ℕ → ℤ) (rows : List (ℕ → ℤ)) (basis : List ℕ) → det (g ∷ rows) (0 ∷ basis) ≡ g 0 *ℤ det rows basis -ℤ replaced g 0 (det rows) basis
further_row g rows basis = omega (arith, sums, expand_front g 0 (det rows) (Alternates-det rows) basis)

-- ---- rows taken with either sign have the same minors, up to sign

abbrev pub Similar : List (ℕ → ℤ) → List (ℕ → ℤ) → Type 0
Similar [] [] = Unit {0}
Similar (r ∷ rs) (s ∷ ss) = (((c : ℕ) → r c ≡ s c) ⊎ ((c : ℕ) → r c ≡ neg_ℤ (s c))) × Similar rs ss
Similar [] (s ∷ ss) = ⊥
Similar (r ∷ rs) [] = ⊥

expand-row_same : (r s : ℕ → ℤ) (f : List ℕ → ℤ) → ((c : ℕ) → r c ≡ s c) → (cs : List ℕ) → expand r f cs ≡ expand s f cs
expand-row_same r s f h [] = refl
expand-row_same r s f h (c ∷ cs) = omega (arith, sums, ap (λ v. v *ℤ f cs) (h c), expand-row_same r s (λ ds. f (c ∷ ds)) h cs)

expand-row_neg : (r s : ℕ → ℤ) (f : List ℕ → ℤ) → ((c : ℕ) → r c ≡ neg_ℤ (s c)) → (cs : List ℕ) → expand r f cs ≡ neg_ℤ (expand s f cs)
expand-row_neg r s f h [] = refl
expand-row_neg r s f h (c ∷ cs) =
    omega (arith, sums, ap (λ v. v *ℤ f cs) (h c), neg_mul (s c) (f cs), expand-row_neg r s (λ ds. f (c ∷ ds)) h cs)

pub similar_det : (rs ss : List (ℕ → ℤ)) → Similar rs ss
    → (((cs : List ℕ) → det rs cs ≡ det ss cs) ⊎ ((cs : List ℕ) → det rs cs ≡ neg_ℤ (det ss cs)))
similar_det [] [] h = inl (λ cs. refl)
similar_det [] (s ∷ ss) h = absurd h
similar_det (r ∷ rs) [] h = absurd h
similar_det (r ∷ rs) (s ∷ ss) h = go (similar_det rs ss h.1) h.0
  where
    go : (((cs : List ℕ) → det rs cs ≡ det ss cs) ⊎ ((cs : List ℕ) → det rs cs ≡ neg_ℤ (det ss cs)))
        → (((c : ℕ) → r c ≡ s c) ⊎ ((c : ℕ) → r c ≡ neg_ℤ (s c)))
        → (((cs : List ℕ) → det (r ∷ rs) cs ≡ det (s ∷ ss) cs) ⊎ ((cs : List ℕ) → det (r ∷ rs) cs ≡ neg_ℤ (det (s ∷ ss) cs)))
    go (inl d) (inl k) = inl (λ cs. expand-same r (det rs) (det ss) d cs ∙ expand-row_same r s (det ss) k cs)
    go (inl d) (inr k) = inr (λ cs. expand-same r (det rs) (det ss) d cs ∙ expand-row_neg r s (det ss) k cs)
    go (inr d) (inl k) = inr (λ cs. expand-same r (det rs) (λ ds. neg_ℤ (det ss ds)) d cs ∙ expand-neg r (det ss) cs ∙ ap neg_ℤ (expand-row_same r s (det ss) k cs))
    go (inr d) (inr k) = inl (λ cs. omega (arith, sums, expand-same r (det rs) (λ ds. neg_ℤ (det ss ds)) d cs, expand-neg r (det ss) cs, expand-row_neg r s (det ss) k cs))
