-- A minor is at most the product, over all columns, of the sums of sizes in the column.
use Rattle.std.proofs.Common.{◌≡◌, ◌≢◌, ℕ, zero, suc, ◌+◌, ◌*◌, ◌<◌, ◌≤◌, max, cond, eqb, List, [], ◌∷◌, refl, ap, arith, sym, ◌∙◌, subst, length, get_or, ◌⊎◌, inl, inr, le_refl}
use Rattle.std.specs.Prelude.{unsigned_abs}
use Rattle.std.proofs.lemmas.Bool.{cases_eq, eq-eqb, ne_eqb}
use Rattle.std.proofs.lemmas.Int.{unsigned_abs-mul}
use Rattle.std.proofs.lemmas.Nat.{mul-le}
use Rattle.std.proofs.Math.Nat.{mul-le-mul_left}
use lib.IntN.{ℤ, pos, ◌-ℤ◌, ◌*ℤ◌}
use borrow.Author.Differences.{abs_is}
use Rattle.e_fraction.specs.Det.{det, expand, IsPart, EachBelow, HasWideMinor}
use Rattle.e_literal.proofs.Arith.{sums}
use Rattle.e_fraction.proofs.Expand.{expand-none, expand-same, expand-scale, expand-sub}
use Rattle.e_fraction.proofs.Columns.{Alternates-det, det_dup}

-- ---- the expansion along the first column, as a list of numbers and rows

pub record Term : Type 0 where
  pub factor : ℤ
  pub rest : List (ℕ → ℤ)

abbrev total : List Term → List ℕ → ℤ
total [] ds = pos 0
total (t ∷ ts) ds = t.factor *ℤ det t.rest ds -ℤ total ts ds

-- the rows r is put before, with the sign turned
abbrev under : (ℕ → ℤ) → List Term → List Term
under r [] = []
under r (t ∷ ts) = record { factor = t.factor; rest = r ∷ t.rest } ∷ under r ts

abbrev terms : List (ℕ → ℤ) → ℕ → List Term
terms [] c = []
terms (r ∷ rs) c = record { factor = r c; rest = rs } ∷ under r (terms rs c)

expand-total : (r : ℕ → ℤ) (ts : List Term) (ds : List ℕ) → expand r (total ts) ds ≡ total (under r ts) ds
expand-total r [] ds = expand-none r (total []) (λ xs. refl) ds
expand-total r (t ∷ ts) ds =
    omega (arith, sums, expand-sub r (λ xs. t.factor *ℤ det t.rest xs) (total ts) ds, expand-scale r t.factor (det t.rest) ds, expand-total r ts ds)

by_column : (rows : List (ℕ → ℤ)) (c : ℕ) (ds : List ℕ) → det rows (c ∷ ds) ≡ total (terms rows c) ds
by_column [] c ds = refl
by_column (r ∷ rs) c ds =
    omega (arith, sums, expand-same r (λ xs. det rs (c ∷ xs)) (total (terms rs c)) (λ xs. by_column rs c xs) ds, expand-total r (terms rs c) ds)

-- ---- sizes

abbrev pub column_sum : List (ℕ → ℤ) → ℕ → ℕ
column_sum [] c = 0
column_sum (r ∷ rs) c = unsigned_abs (r c) + column_sum rs c

factors : List Term → ℕ
factors [] = 0
factors (t ∷ ts) = unsigned_abs t.factor + factors ts

factors-under : (r : ℕ → ℤ) (ts : List Term) → factors (under r ts) ≡ factors ts
unfolding factors
factors-under r [] = refl
factors-under r (t ∷ ts) = ap (λ v. unsigned_abs t.factor + v) (factors-under r ts)

factors-terms : (rows : List (ℕ → ℤ)) (c : ℕ) → factors (terms rows c) ≡ column_sum rows c
unfolding factors
factors-terms [] c = refl
factors-terms (r ∷ rs) c = ap (λ v. unsigned_abs (r c) + v) (factors-under r (terms rs c) ∙ factors-terms rs c)

abbrev EachRest : (List (ℕ → ℤ) → Type 0) → List Term → Type 0
EachRest P [] = Unit {0}
EachRest P (t ∷ ts) = P t.rest × EachRest P ts

total_bound : (b : ℕ) (ts : List Term) (ds : List ℕ) → EachRest (λ rs. unsigned_abs (det rs ds) ≤ b) ts → unsigned_abs (total ts ds) ≤ factors ts * b
unfolding factors
total_bound b [] ds h = omega arith
total_bound b (t ∷ ts) ds h =
    omega (
      arith,
      sums,
      total_bound b ts ds h.1,
      unsigned_abs-mul t.factor (det t.rest ds),
      mul-le-mul_left (unsigned_abs t.factor) h.0,
      abs_is (t.factor *ℤ det t.rest ds),
      abs_is (total ts ds),
      abs_is (t.factor *ℤ det t.rest ds -ℤ total ts ds),
    )

-- ---- parts of the rows

pub part_all : {X : Type 0} (xs : List X) → IsPart xs xs
part_all [] = refl
part_all (x ∷ xs) = inr (xs, refl, part_all xs)

part_skip : {X : Type 0} (x : X) (ps xs : List X) → IsPart ps xs → IsPart ps (x ∷ xs)
part_skip x ps xs h = inl h

part_keep : {X : Type 0} (x : X) (ps xs : List X) → IsPart ps xs → IsPart (x ∷ ps) (x ∷ xs)
part_keep x ps xs h = inr (ps, refl, h)

pub part_trans : {X : Type 0} (ps qs xs : List X) → IsPart ps qs → IsPart qs xs → IsPart ps xs
part_trans ps qs [] h k = subst (IsPart ps) k h
part_trans ps qs (x ∷ xs) h (inl k) = inl (part_trans ps qs xs h k)
part_trans {X = X} ps qs (x ∷ xs) h (inr (rs, e, k)) = go (subst (IsPart ps) e h) (λ ys g. part_trans ys rs xs g k)
  where
    go : IsPart ps (x ∷ rs) → ((ys : List X) → IsPart ys rs → IsPart ys xs) → IsPart ps (x ∷ xs)
    go (inl g) t = inl (t ps g)
    go (inr (ys, f, g)) t = inr (ys, f, t ys g)

column_sum_part : (ps rows : List (ℕ → ℤ)) (c : ℕ) → IsPart ps rows → column_sum ps c ≤ column_sum rows c
column_sum_part ps [] c h = subst (λ v. column_sum v c ≤ 0) (sym h) (omega arith)
column_sum_part ps (r ∷ rows) c (inl h) = omega (arith, column_sum_part ps rows c h)
column_sum_part ps (r ∷ rows) c (inr (qs, e, h)) =
    subst (λ v. column_sum v c ≤ unsigned_abs (r c) + column_sum rows c) (sym e) (omega (arith, column_sum_part qs rows c h))

parts_under : (r : ℕ → ℤ) (rs : List (ℕ → ℤ)) (ts : List Term) → EachRest (λ v. IsPart v rs) ts → EachRest (λ v. IsPart v (r ∷ rs)) (under r ts)
parts_under r rs [] h = tt
parts_under r rs (t ∷ ts) h = (part_keep r t.rest rs h.0, parts_under r rs ts h.1)

parts_terms : (rows : List (ℕ → ℤ)) (c : ℕ) → EachRest (λ v. IsPart v rows) (terms rows c)
parts_terms [] c = tt
parts_terms (r ∷ rs) c = (part_skip r rs rs (part_all rs), parts_under r rs (terms rs c) (parts_terms rs c))

EachRest-more : (P Q : List (ℕ → ℤ) → Type 0) → ((v : List (ℕ → ℤ)) → P v → Q v) → (ts : List Term) → EachRest P ts → EachRest Q ts
EachRest-more P Q f [] h = tt
EachRest-more P Q f (t ∷ ts) h = (f t.rest h.0, EachRest-more P Q f ts h.1)

-- ---- the bound over the columns of the minor

abbrev columns_product : List (ℕ → ℤ) → List ℕ → ℕ
columns_product rows [] = 1
columns_product rows (c ∷ cs) = column_sum rows c * columns_product rows cs

det_nil : (rs : List (ℕ → ℤ)) → unsigned_abs (det rs []) ≤ 1
det_nil [] = omega arith
det_nil (r ∷ rs) = omega arith

det_bound : (rows : List (ℕ → ℤ)) (cs : List ℕ) (rs : List (ℕ → ℤ)) → IsPart rs rows → unsigned_abs (det rs cs) ≤ columns_product rows cs
det_bound rows [] rs h = det_nil rs
det_bound rows (c ∷ cs) rs h =
    let each : EachRest (λ v. unsigned_abs (det v cs) ≤ columns_product rows cs) (terms rs c)
    = EachRest-more (λ v. IsPart v rs) (λ v. unsigned_abs (det v cs) ≤ columns_product rows cs)
    (λ v p. det_bound rows cs v (part_trans v rs rows p h)) (terms rs c) (parts_terms rs c) in
    omega (
      arith,
      ap unsigned_abs (by_column rs c cs),
      total_bound (columns_product rows cs) (terms rs c) cs each,
      ap (λ v. v * columns_product rows cs) (factors-terms rs c),
      mul-le (column_sum rs c) (columns_product rows cs) (column_sum rows c) (columns_product rows cs) (column_sum_part rs rows c h) (le_refl (columns_product rows cs)),
    )

-- ---- the product over all columns

abbrev pub whole : ℕ → (ℕ → ℕ) → ℕ
whole zero g = 1
whole (suc n) g = g n * whole n g

abbrev but : ℕ → (ℕ → ℕ) → ℕ → ℕ
but c g x = cond (eqb x c) 1 (g x)

but-same : (c : ℕ) (g : ℕ → ℕ) → but c g c ≡ 1
but-same c g = ap (λ b. cond b 1 (g c)) (eq-eqb c c refl)

but-other : (c : ℕ) (g : ℕ → ℕ) (x : ℕ) → x ≢ c → but c g x ≡ g x
but-other c g x d = ap (λ b. cond b 1 (g x)) (ne_eqb x c d)

but_some : (c : ℕ) (g : ℕ → ℕ) → ((x : ℕ) → 1 ≤ g x) → (x : ℕ) → 1 ≤ but c g x
but_some c g h x = elim (cases_eq x c) [
  | inl e ↦ omega (arith, ap (but c g) e, but-same c g)
  | inr d ↦ omega (arith, but-other c g x d, h x)
]

whole_agree : (n : ℕ) (f g : ℕ → ℕ) → ((x : ℕ) → x < n → f x ≡ g x) → whole n f ≡ whole n g
whole_agree zero f g h = refl
whole_agree (suc n) f g h = ap (λ v. v * whole n f) (h n (omega arith)) ∙ ap (λ v. g n * v) (whole_agree n f g (λ x l. h x (omega (arith, l))))

whole_some : (n : ℕ) (g : ℕ → ℕ) → ((x : ℕ) → 1 ≤ g x) → 1 ≤ whole n g
whole_some zero g h = omega arith
whole_some (suc n) g h = mul-le 1 1 (g n) (whole n g) (h n) (whole_some n g h)

pull : (n c : ℕ) (g : ℕ → ℕ) → c < n → whole n g ≡ g c * whole n (but c g)
pull zero c g l = absurd (omega (arith, l))
pull (suc n) c g l =
    elim (cases_eq c n) [
      | inl e ↦
          (let same : whole n (but c g) ≡ whole n g = whole_agree n (but c g) g (λ x m. but-other c g x (omega (arith, m, e))) in
          let one : but c g n ≡ 1 = ap (but c g) (sym e) ∙ but-same c g in
          omega (arith, ap (λ v. g c * (v * whole n (but c g))) one, ap (λ v. g c * v) same, ap (λ v. g v * whole n g) e))
      | inr d ↦
          (let other : but c g n ≡ g n = but-other c g n (λ q. d (sym q)) in
          let h : whole n g ≡ g c * whole n (but c g) = pull n c g (omega (arith, l, d)) in
          ap (λ v. g n * v) h ∙ swap (g n) (g c) (whole n (but c g)) ∙ ap (λ v. g c * (v * whole n (but c g))) (sym other))
    ]
  where
    swap : (a b x : ℕ) → a * (b * x) ≡ b * (a * x)
    swap a b x = omega arith

abbrev pub Misses : ℕ → List ℕ → Type 0
Misses c [] = Unit {0}
Misses c (x ∷ xs) = (x ≢ c) × Misses c xs

abbrev pub AllApart : List ℕ → Type 0
AllApart [] = Unit {0}
AllApart (c ∷ cs) = Misses c cs × AllApart cs

abbrev pub Covered : (ℕ → ℕ) → (ℕ → ℕ) → List ℕ → Type 0
Covered f g [] = Unit {0}
Covered f g (c ∷ cs) = (f c ≤ g c) × Covered f g cs

covered_but : (f g : ℕ → ℕ) (c : ℕ) (cs : List ℕ) → Misses c cs → Covered f g cs → Covered f (but c g) cs
covered_but f g c [] m h = tt
covered_but f g c (x ∷ xs) m h = (omega (arith, h.0, but-other c g x m.0), covered_but f g c xs m.1 h.1)

product_bound : (n : ℕ) (rows : List (ℕ → ℤ)) (cs : List ℕ) (g : ℕ → ℕ) → ((x : ℕ) → 1 ≤ g x) → EachBelow n cs → AllApart cs → Covered (column_sum rows) g cs
    → columns_product rows cs ≤ whole n g
product_bound n rows [] g s b a h = whole_some n g s
product_bound n rows (c ∷ cs) g s b a h =
    omega (
      arith,
      pull n c g b.0,
      mul-le (column_sum rows c) (columns_product rows cs) (g c) (whole n (but c g)) h.0
          (product_bound n rows cs (but c g) (but_some c g s) b.1 a.1 (covered_but (column_sum rows) g c cs a.0 h.1)),
    )

-- ---- a minor with a column twice is 0

pub record Twice (cs : List ℕ) : Type 0 where
  pub one : ℕ
  pub two : ℕ
  pub below : one < two
  pub here : two < length cs
  pub same : get_or cs one 0 ≡ get_or cs two 0

misses : (c : ℕ) (cs : List ℕ) → Misses c cs ⊎ ((k : ℕ) × (k < length cs) × (get_or cs k 0 ≡ c))
misses c [] = inl tt
misses c (x ∷ xs) = elim (cases_eq x c) [
  | inl e ↦ inr (0, omega arith, e)
  | inr d ↦ elim (misses c xs) [
    | inl m ↦ inl (d, m)
    | inr t ↦ inr (suc t.0, omega (arith, t.1), t.2)
  ]
]

pub apart : (cs : List ℕ) → AllApart cs ⊎ Twice cs
apart [] = inl tt
apart (c ∷ cs) = elim (misses c cs) [
  | inl m ↦ elim (apart cs) [
    | inl a ↦ inl (m, a)
    | inr t ↦ inr (record { one = suc t.one; two = suc t.two; below = omega (arith, t.below); here = omega (arith, t.here); same = t.same })
  ]
  | inr t ↦ inr (record { one = 0; two = suc t.0; below = omega arith; here = omega (arith, t.1); same = sym t.2 })
]

-- the width: the product over the first n columns of max (1, sum of the sizes in the column)
abbrev pub width_of : List (ℕ → ℤ) → ℕ → ℕ
width_of rows n = whole n (λ c. max 1 (column_sum rows c))

covered_all : (f : ℕ → ℕ) (cs : List ℕ) → Covered f (λ c. max 1 (f c)) cs
covered_all f [] = tt
covered_all f (c ∷ cs) = (omega arith, covered_all f cs)

pub wide_width : (rows : List (ℕ → ℤ)) (n size : ℕ) → 0 < size → HasWideMinor rows n size → size ≤ width_of rows n
wide_width rows n size z h = elim (apart h.columns) [
  | inl a ↦ omega (
    arith,
    h.wide,
    det_bound rows h.columns h.chosen h.are_rows,
    product_bound n rows h.columns (λ c. max 1 (column_sum rows c)) (λ x. omega arith) h.are_columns a (covered_all (column_sum rows) h.columns),
  )
  | inr t ↦ absurd (omega (arith, z, h.wide, ap unsigned_abs (det_dup (det h.chosen) (Alternates-det h.chosen) h.columns t.one t.two t.below t.here t.same)))
]
