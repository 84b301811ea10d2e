-- What a tableau says at its end: multipliers that show an absurdity, or values that hold.
use Rattle.std.proofs.Common.{◌≡◌, ◌≢◌, ℕ, ◌<◌, ◌≤◌, List, [], ◌∷◌, refl, ap, arith, sym, ◌∙◌, length, set, subst, ◌⊎◌, inl, inr}
use lib.IntN.{ℤ, pos, negsuc, ◌+ℤ◌, ◌-ℤ◌, ◌*ℤ◌, neg_ℤ, *ℤ-zero, zero-*ℤ}
use Rattle.e_fraction.specs.Det.{det}
use Rattle.e_fraction.specs.Tableau.{Slacked, unit, full_row, full_rows}
use Rattle.e_literal.proofs.Arith.{sums, minus_one, add_mul, sub_mul, mul_add, mul_assoc, mul_swap}
use Rattle.e_fraction.proofs.Columns.{replaced}
use Rattle.e_fraction.proofs.Cramer.{Linear, EachRow, InColumns-det, Adds_nothing, rows_add_nothing, cramer}
use Rattle.e_simplex.proofs.termination.Clash.{replaced-scale}
use Rattle.e_fraction.proofs.Minors.{unit-same, unit-other, Lacks, Apart, Within}

-- ---- the rows weighed by the numbers of f at their slack columns

abbrev pub weigh : List Slacked → (ℕ → ℤ) → ℕ → ℤ
weigh [] f c = pos 0
weigh (p ∷ ps) f c = f p.slack *ℤ p.row c +ℤ weigh ps f c

weigh-none : (ps : List Slacked) (c : ℕ) → weigh ps (λ _. pos 0) c ≡ pos 0
weigh-none [] c = refl
weigh-none (p ∷ ps) c = omega (arith, sums, zero-*ℤ (p.row c), weigh-none ps c)

weigh-sub : (ps : List Slacked) (r s : ℕ → ℤ) (c : ℕ) → weigh ps (λ x. r x -ℤ s x) c ≡ weigh ps r c -ℤ weigh ps s c
weigh-sub [] r s c = refl
weigh-sub (p ∷ ps) r s c = omega (arith, sums, sub_mul (r p.slack) (s p.slack) (p.row c), weigh-sub ps r s c)

weigh-scale : (ps : List Slacked) (a : ℤ) (r : ℕ → ℤ) (c : ℕ) → weigh ps (λ x. a *ℤ r x) c ≡ a *ℤ weigh ps r c
weigh-scale [] a r c = sym (*ℤ-zero a)
weigh-scale (p ∷ ps) a r c =
    omega (arith, sums, mul_assoc a (r p.slack) (p.row c), weigh-scale ps a r c, mul_add a (r p.slack *ℤ p.row c) (weigh ps r c))

-- f is, in the first n columns, the sum of the rows weighed by -f at their slack columns
pub record Read_off (n : ℕ) (ps : List Slacked) (f : ℕ → ℤ) : Type 0 where
  pub at : (c : ℕ) → c < n → f c +ℤ weigh ps f c ≡ pos 0

Linear-Read_off : (n : ℕ) (ps : List Slacked) → Linear (Read_off n ps)
Linear-Read_off n ps = record {
  none = record { at = λ c l. omega (arith, sums, weigh-none ps c) };
  sub = λ r s x y. record { at = λ c l. omega (arith, sums, weigh-sub ps r s c, x.at c l, y.at c l) };
  scale = λ a r x. record { at = λ c l. omega (arith, sums, weigh-scale ps a r c, mul_add a (r c) (weigh ps r c), ap (λ v. a *ℤ v) (x.at c l), *ℤ-zero a) };
}

abbrev pub In : Slacked → List Slacked → Type 0
In q [] = ⊥
In q (p ∷ ps) = (q ≡ p) ⊎ In q ps

full_far : (n : ℕ) (q : Slacked) (e : ℕ) → ((c : ℕ) → n ≤ c → q.row c ≡ pos 0) → n ≤ e → q.slack ≢ e → full_row q e ≡ pos 0
full_far n q e h l d = omega (arith, sums, h e l, unit-other q.slack e d)

full_own : (n : ℕ) (q : Slacked) → ((c : ℕ) → n ≤ c → q.row c ≡ pos 0) → n ≤ q.slack → full_row q q.slack ≡ negsuc 0
full_own n q h l = omega (arith, sums, h q.slack l, unit-same q.slack)

full_near : (n : ℕ) (q : Slacked) (c : ℕ) → n ≤ q.slack → c < n → full_row q c ≡ q.row c
full_near n q c l m = omega (arith, sums, unit-other q.slack c (omega arith))

weigh_far : (n : ℕ) (q : Slacked) → ((c : ℕ) → n ≤ c → q.row c ≡ pos 0) → (ps : List Slacked) → Within n ps → Lacks q.slack ps → (c : ℕ) → weigh ps (full_row q) c ≡ pos 0
weigh_far n q h [] w k c = refl
weigh_far n q h (p ∷ ps) w k c =
    omega (arith, sums, ap (λ v. v *ℤ p.row c) (full_far n q p.slack h w.1 (λ e. k.0 (sym e))), zero-*ℤ (p.row c), weigh_far n q h ps w.2 k.1 c)

slack_in : (e : ℕ) (q : Slacked) (ps : List Slacked) → Lacks e ps → In q ps → q.slack ≢ e
slack_in e q [] k i = absurd i
slack_in e q (p ∷ ps) k (inl s) = λ t. k.0 (ap (λ x. x.slack) (sym s) ∙ t)
slack_in e q (p ∷ ps) k (inr i) = slack_in e q ps k.1 i

within_row : (n : ℕ) (q : Slacked) (ps : List Slacked) → Within n ps → In q ps → (c : ℕ) → n ≤ c → q.row c ≡ pos 0
within_row n q [] w i c l = absurd i
within_row n q (p ∷ ps) w (inl s) c l = ap (λ x. x.row c) s ∙ w.0 c l
within_row n q (p ∷ ps) w (inr i) c l = within_row n q ps w.2 i c l

within_slack : (n : ℕ) (q : Slacked) (ps : List Slacked) → Within n ps → In q ps → n ≤ q.slack
within_slack n q [] w i = absurd i
within_slack n q (p ∷ ps) w (inl s) = omega (arith, w.1, ap (λ x. x.slack) s)
within_slack n q (p ∷ ps) w (inr i) = within_slack n q ps w.2 i

weigh_own : (n : ℕ) (q : Slacked) (ps : List Slacked) → Within n ps → Apart ps → In q ps → (c : ℕ) → weigh ps (full_row q) c ≡ neg_ℤ (q.row c)
weigh_own n q [] w a i c = absurd i
weigh_own n q (p ∷ ps) w a (inl s) c =
    let h = within_row n q (p ∷ ps) w (inl s) in
    let t : full_row q p.slack ≡ negsuc 0 = ap (λ x. full_row q x.slack) (sym s) ∙ full_own n q h (within_slack n q (p ∷ ps) w (inl s)) in
    omega (
      arith,
      sums,
      ap (λ v. v *ℤ p.row c) t,
      minus_one (p.row c),
      ap (λ x. x.row c) s,
      weigh_far n q h ps w.2 (subst (λ x. Lacks x.slack ps) (sym s) a.0) c,
    )
weigh_own n q (p ∷ ps) w a (inr i) c =
    omega (
      arith,
      sums,
      ap (λ v. v *ℤ p.row c) (full_far n q p.slack (within_row n q ps w.2 i) w.1 (slack_in p.slack q ps a.0 i)),
      zero-*ℤ (p.row c),
      weigh_own n q ps w.2 a.1 i c,
    )

each_in : (N : (ℕ → ℤ) → Type 0) (ps : List Slacked) → ((q : Slacked) → In q ps → N (full_row q)) → EachRow N (full_rows ps)
each_in N [] h = tt
each_in N (p ∷ ps) h = (h p (inl refl), each_in N ps (λ q i. h q (inr i)))

pub multipliers : (n : ℕ) (ps : List Slacked) → Within n ps → Apart ps → (basis : List ℕ) (i : ℕ) → i < length basis → (a : ℤ)
    → Read_off n ps (λ c. a *ℤ det (full_rows ps) (set basis i c))
multipliers n ps w s basis i l a =
    (Linear-Read_off n ps).scale a (λ c. det (full_rows ps) (set basis i c))
    ((InColumns-det (Read_off n ps) (Linear-Read_off n ps) (full_rows ps)
    (each_in (Read_off n ps) ps (λ q j. record {
      at = λ c m.
          omega (arith, sums, full_near n q c (within_slack n q ps w j) m, weigh_own n q ps w s j c);
    }))).at basis i l)

-- ---- the values of the basis

pub replaced-row_sub : (r s : ℕ → ℤ) (j : ℕ) (f : List ℕ → ℤ) (cs : List ℕ) → replaced (λ x. r x -ℤ s x) j f cs ≡ replaced r j f cs -ℤ replaced s j f cs
replaced-row_sub r s j f [] = refl
replaced-row_sub r s j f (c ∷ cs) = omega (arith, sums, sub_mul (r c) (s c) (f (j ∷ cs)), replaced-row_sub r s j (λ ds. f (c ∷ ds)) cs)

pub replaced-row_add : (r s : ℕ → ℤ) (j : ℕ) (f : List ℕ → ℤ) (cs : List ℕ) → replaced (λ x. r x +ℤ s x) j f cs ≡ replaced r j f cs +ℤ replaced s j f cs
replaced-row_add r s j f [] = refl
replaced-row_add r s j f (c ∷ cs) = omega (arith, sums, add_mul (r c) (s c) (f (j ∷ cs)), replaced-row_add r s j (λ ds. f (c ∷ ds)) cs)

pub replaced-row_scale : (a : ℤ) (r : ℕ → ℤ) (j : ℕ) (f : List ℕ → ℤ) (cs : List ℕ) → replaced (λ x. a *ℤ r x) j f cs ≡ a *ℤ replaced r j f cs
replaced-row_scale a r j f [] = sym (*ℤ-zero a)
replaced-row_scale a r j f (c ∷ cs) =
    omega (
      arith,
      sums,
      mul_assoc a (r c) (f (j ∷ cs)),
      replaced-row_scale a r j (λ ds. f (c ∷ ds)) cs,
      mul_add a (r c *ℤ f (j ∷ cs)) (replaced r j (λ ds. f (c ∷ ds)) cs),
    )

-- the value that the basis gives the column c, times the determinant
abbrev pub value : List (ℕ → ℤ) → ℤ → List ℕ → ℕ → ℤ
value rows a basis c = replaced (unit c) 0 (λ ds. a *ℤ det rows ds) basis

adds_nothing_in : (ps : List Slacked) (q : Slacked) (all : List (ℕ → ℤ)) → EachRow (Adds_nothing all) (full_rows ps) → In q ps → Adds_nothing all (full_row q)
adds_nothing_in [] q all e i = absurd i
adds_nothing_in (p ∷ ps) q all e (inl s) = subst (λ x. Adds_nothing all (full_row x)) (sym s) e.0
adds_nothing_in (p ∷ ps) q all e (inr i) = adds_nothing_in ps q all e.1 i

-- the row q, at the values, is its constant plus the value of its slack column
pub row_value : (n : ℕ) (ps : List Slacked) → Within n ps → 0 < n → (q : Slacked) → In q ps → (a : ℤ) (basis : List ℕ)
    → replaced q.row 0 (λ ds. a *ℤ det (full_rows ps) ds) basis ≡ q.row 0 *ℤ (a *ℤ det (full_rows ps) basis) +ℤ value (full_rows ps) a basis q.slack
row_value n ps w z q i a basis =
    let rows = full_rows ps in
    let e : full_row q 0 *ℤ det (full_rows ps) basis ≡ replaced (full_row q) 0 (det (full_rows ps)) basis
    = cramer (full_rows ps) (full_row q) (adds_nothing_in ps q (full_rows ps) (rows_add_nothing (full_rows ps)) i) basis 0 in
    let f : full_row q 0 ≡ q.row 0 = full_near n q 0 (within_slack n q ps w i) z in
    omega (
      arith,
      sums,
      replaced-row_sub q.row (unit q.slack) 0 (λ ds. a *ℤ det (full_rows ps) ds) basis,
      replaced-scale (full_row q) 0 a (det (full_rows ps)) basis,
      ap (λ v. a *ℤ v) e,
      ap (λ v. a *ℤ (v *ℤ det (full_rows ps) basis)) f,
      mul_swap a (q.row 0) (det (full_rows ps) basis),
    )
