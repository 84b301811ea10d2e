-- What each name of a list has, the names of the sums that are made of them have too.
use Rattle.std.proofs.Common.{◌≡◌, ℕ, zero, suc, List, [], ◌∷◌, map, get_or, refl, ◌∙◌, cond, Bool, true, false, ◌&&◌}
use Rattle.std.specs.Prelude.{set, int_lt, neg_ℤ}
use Rattle.std.specs.List.{list_all}
use Rattle.std.specs.Ordering.{int_eq}
use Rattle.std.proofs.lemmas.List.Folds.{list_all-append}
use Rattle.std.proofs.lemmas.Bool.{and_from}
use lib.IntN.{ℤ, pos}
use Rattle.e_literal.specs.declared.object.Term.{Term}
use Rattle.e_literal.specs.Same.{canonical}
use Rattle.e_literal.specs.Absurd.{total}
use Rattle.e_literal.proofs.Booleans.{and_left, and_right}
use Rattle.e_clause.specs.declared.cert.RowName.{RowName}
use Rattle.e_clause.specs.declared.cert.RowName.TheVariants.{Goal, Least, Above, Below}
use Rattle.e_clause.specs.declared.cert.Sums.{Sums}
use Rattle.e_clause.specs.declared.cert.Sums.TheVariants.{One as OneSum, Two as TwoSums}
use Rattle.e_clause.specs.System.{NamedRow}
use Rattle.e_clause.proofs.Named.{Each}
use Rattle.e_fraction.specs.declared.row.Row.{Row as GivenRow}
use Rattle.e_fraction.specs.Views.{with_multipliers}
use Rattle.e_simplex.specs.declared.decision.Absurdity.{Absurdity}
use Rattle.e_simplex.specs.declared.decision.Absurdity.TheVariants.{One, Two}
use Rattle.e_metric.specs.inner.Certificate.{named_multipliers, leasts, negated_place, certificate_sum, certificate_sums}

-- the goal has it, and so have the names that only sums have
pub record HaveOthers (p : RowName → Bool) : Type 0 where
  pub goal : p Goal ≡ true
  pub above : p Above ≡ true
  pub below : p Below ≡ true

module _ (p : RowName → Bool) where
  abbrev each_in : List (ℤ × RowName) → Bool
  each_in xs = list_all (λ (x : ℤ × RowName). p x.1) xs

  -- each name of the sums has it
  abbrev pub each_of : Sums → Bool
  each_of (OneSum sum) = list_all (λ (x : ℤ × RowName). p x.1) sum
  each_of (TwoSums differs above below) = p differs && (list_all (λ (x : ℤ × RowName). p x.1) above && list_all (λ (x : ℤ × RowName). p x.1) below)

  pub each_name : (ns : List NamedRow) → Each (λ n. p n.name ≡ true) ns → list_all p (map (λ (n : NamedRow). n.name) ns) ≡ true
  each_name [] h = refl
  each_name (n ∷ ns) h = and_from (p n.name) (list_all p (map (λ (m : NamedRow). m.name) ns)) h.0 (each_name ns h.1)

  kept_in : (ns : List RowName) (ms : List ℤ) → list_all p ns ≡ true → each_in (named_multipliers ns ms) ≡ true
  kept_in [] ms h = refl
  kept_in (n ∷ ns) [] h = refl
  kept_in (n ∷ ns) (m ∷ ms) h = by (int_eq m (pos 0)) (kept_in ns ms (and_right (p n) (list_all p ns) h))
    where
      by : (b : Bool) → each_in (named_multipliers ns ms) ≡ true → each_in (cond b (named_multipliers ns ms) ((m, n) ∷ named_multipliers ns ms)) ≡ true
      by true ih = ih
      by false ih = and_from (p n) (each_in (named_multipliers ns ms)) (and_left (p n) (list_all p ns) h) ih

  leasts_in : (left : Term → ℤ) (ts : List Term) → list_all (λ t. p (Least t)) ts ≡ true → each_in (leasts left ts) ≡ true
  leasts_in left [] h = refl
  leasts_in left (t ∷ ts) h = by (int_lt (left (canonical t)) (pos 0)) (leasts_in left ts (and_right (p (Least t)) (list_all (λ u. p (Least u)) ts) h))
    where
      by : (b : Bool) → each_in (leasts left ts) ≡ true → each_in (cond b ((neg_ℤ (left (canonical t)), Least t) ∷ leasts left ts) (leasts left ts)) ≡ true
      by true ih = and_from (p (Least t)) (each_in (leasts left ts)) (and_left (p (Least t)) (list_all (λ u. p (Least u)) ts) h) ih
      by false ih = ih

  sum_has : (ns : List RowName) (gs : List GivenRow) (ms ws : List ℤ) (ts : List Term) → list_all p ns ≡ true → list_all (λ t. p (Least t)) ts ≡ true → each_in (certificate_sum ns gs ms ws ts) ≡ true
  sum_has ns gs ms ws ts h k =
      list_all-append (λ (x : ℤ × RowName). p x.1) (named_multipliers ns ms) (leasts (total (with_multipliers gs ws)) ts)
      ∙ and_from (each_in (named_multipliers ns ms)) (each_in (leasts (total (with_multipliers gs ws)) ts)) (kept_in ns ms h) (leasts_in (total (with_multipliers gs ws)) ts k)

  set_in : (ns : List RowName) (k : ℕ) (n : RowName) → p n ≡ true → list_all p ns ≡ true → list_all p (set ns k n) ≡ true
  set_in [] zero n e h = refl
  set_in [] (suc k) n e h = refl
  set_in (m ∷ ms) zero n e h = and_from (p n) (list_all p ms) e (and_right (p m) (list_all p ms) h)
  set_in (m ∷ ms) (suc k) n e h = and_from (p m) (list_all p (set ms k n)) (and_left (p m) (list_all p ms) h) (set_in ms k n e (and_right (p m) (list_all p ms) h))

  get_in : (ns : List RowName) (k : ℕ) → p Goal ≡ true → list_all p ns ≡ true → p (get_or ns k Goal) ≡ true
  get_in [] zero g h = g
  get_in [] (suc k) g h = g
  get_in (m ∷ ms) zero g h = and_left (p m) (list_all p ms) h
  get_in (m ∷ ms) (suc k) g h = get_in ms k g (and_right (p m) (list_all p ms) h)

  pub sums_have : (ns : List RowName) (gs : List GivenRow) (ts : List Term) (a : Absurdity) → HaveOthers p → list_all p ns ≡ true → list_all (λ t. p (Least t)) ts ≡ true → each_of (certificate_sums ns gs ts a) ≡ true
  sums_have ns gs ts (One ms) o h k = sum_has ns gs ms.items ms.items ts h k
  sums_have ns gs ts (Two row above below) o h k =
      (let first = certificate_sum (set ns row Above) gs above.items above.items ts in
      let second = certificate_sum (set ns row Below) gs below.items (negated_place below.items row) ts in
      and_from (p (get_or ns row Goal)) (each_in first && each_in second) (get_in ns row o.goal h)
      (and_from (each_in first) (each_in second)
      (sum_has (set ns row Above) gs above.items above.items ts (set_in ns row Above o.above h) k)
      (sum_has (set ns row Below) gs below.items (negated_place below.items row) ts (set_in ns row Below o.below h) k)))
