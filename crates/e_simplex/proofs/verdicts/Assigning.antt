-- Values of terms and values of columns: which satisfy rows, and which constraints.
use Rattle.std.proofs.Common.{◌≡◌, ◌≢◌, ℕ, zero, suc, ◌+◌, ◌<◌, List, [], ◌∷◌, ◌++◌, refl, ap, ap₂, arith, sym, ◌∙◌, subst, length, get_or, cond, Bool, true, false, true≢false, ◌⊎◌, inl, inr}
use Rattle.std.specs.Prelude.{map, unsigned_abs}
use Rattle.std.proofs.lemmas.Bool.{cases_lt, cases_Bool}
use Rattle.std.proofs.lemmas.List.{get_or_push, get_or_append_left, length_push}
use lib.IntN.{ℤ, pos, negsuc, ◌+ℤ◌, ◌*ℤ◌}
use lib.Signed.{◌≤ℤ◌, ◌<ℤ◌}
use borrow.Author.Differences.{abs_is}
use Rattle.e_literal.specs.declared.object.Term.{Term}
use Rattle.e_literal.specs.declared.object.Term.TheVariants.{Right}
use Rattle.e_literal.specs.Same.{term_eq}
use Rattle.e_literal.specs.Rows.{Row, Sense, Zero, AtLeast, More, Not, Summands}
use Rattle.e_literal.specs.Solution.{IsSo, Satisfy, HasSolution}
use Rattle.e_simplex.specs.declared.constraints.Constraint.{Constraint}
use Rattle.e_simplex.specs.declared.constraints.ConstraintSense.TheVariants.{More as SenseMore}
use Rattle.e_simplex.specs.Constraints.{value_of_monomials, ConstraintHolds, IsSolution, IsAbsurd}
use Rattle.e_simplex.specs.Naming.{place_of, IsIn, AreOnce, FormNamed, AllNamed, named_form, named_constraint, named_constraints, constraint_sense, keeps}
use Rattle.e_simplex.specs.Answer.{assigned_value, AreValuesOf}
use Rattle.e_simplex.specs.inner.Paired.{PairedTo}
use Rattle.e_simplex.specs.inner.Disequalities.{AreUnequal, AreBothRefuted}
use Rattle.e_simplex.specs.inner.Tried.{negative_constraint}
use Rattle.e_literal.proofs.Arith.{sums}
use Rattle.e_simplex.proofs.columns.Negatives.{negated_value, negative_within}
use Rattle.e_simplex.proofs.columns.NamedConstraints.{kept_not, within_constraints, more_constraints}
use Rattle.e_simplex.proofs.outcomes.Deciding.{forms_push}
use Rattle.e_simplex.proofs.verdicts.Refutes.{no_solution}
use Rattle.e_simplex.proofs.columns.Places.{term_at}

-- ---- the constraints of one row more

pub main_cons : (ts : List Term) (r : Row) (rs : List Row) → named_constraints false ts (r ∷ rs) ≡ cond (keeps true r.sense) (named_constraints false ts rs) (named_constraint ts r ∷ named_constraints false ts rs)
main_cons ts r rs = by r.sense
  where
    by : (s : Sense) → cond (keeps false s) (named_constraint ts r ∷ named_constraints false ts rs) (named_constraints false ts rs) ≡ cond (keeps true s) (named_constraints false ts rs) (named_constraint ts r ∷ named_constraints false ts rs)
    by Zero = refl
    by AtLeast = refl
    by More = refl
    by Not = refl

-- ---- values in pairs

assigned_at : (ts : List Term) (pairs : List (Term × ℕ)) (f : ℕ → ℕ) (t : Term) → length pairs ≡ length ts
    → ((c : ℕ) → c < length ts → (get_or {A = Term × ℕ} pairs c (Right, 0)).0 ≡ get_or ts c Right) → ((c : ℕ) → c < length ts → (get_or {A = Term × ℕ} pairs c (Right, 0)).1 ≡ f c)
    → IsIn ts t → assigned_value pairs t ≡ f (place_of ts t)
assigned_at [] pairs f t n a b h = absurd (omega (arith, h))
assigned_at (x ∷ xs) [] f t n a b h = absurd (omega (arith, n))
assigned_at (x ∷ xs) (p ∷ ps) f t n a b h = elim (cases_Bool (term_eq t x)) [
  | inl e ↦ ap (λ k. cond k p.1 (assigned_value ps t)) (ap (term_eq t) (a 0 (omega arith)) ∙ e) ∙ b 0 (omega arith) ∙ sym (ap (λ k. f (cond k 0 (suc (place_of xs t)))) e)
  | inr m ↦ ap (λ k. cond k p.1 (assigned_value ps t)) (ap (term_eq t) (a 0 (omega arith)) ∙ m)
      ∙ assigned_at xs ps (λ c. f (suc c)) t (omega (arith, n)) (λ c l. a (suc c) (omega (arith, l))) (λ c l. b (suc c) (omega (arith, l)))
      (omega (arith, h, ap (λ k. cond k 0 (suc (place_of xs t))) m))
      ∙ sym (ap (λ k. f (cond k 0 (suc (place_of xs t)))) m)
]

firsts : (ts : List Term) (pairs : List (Term × ℕ)) → length pairs ≡ length ts → ((c : ℕ) → c < length ts → (get_or {A = Term × ℕ} pairs c (Right, 0)).0 ≡ get_or ts c Right)
    → map (λ (p : Term × ℕ). p.0) pairs ≡ ts
firsts [] [] n a = refl
firsts [] (p ∷ ps) n a = absurd (omega (arith, n))
firsts (x ∷ xs) [] n a = absurd (omega (arith, n))
firsts (x ∷ xs) (p ∷ ps) n a = ap₂ {A = Term} {B = List Term} (λ u v. u ∷ v) (a 0 (omega arith)) (firsts xs ps (omega (arith, n)) (λ c l. a (suc c) (omega (arith, l))))

abbrev Values : List Term → List ℤ → (Term → ℕ) → Type 0
Values ts values v = (t : Term) → IsIn ts t → pos (v t) ≡ get_or values (suc (place_of ts t)) (pos 0)

-- a form has the value of its line's form
form_same : (ts : List Term) (form : Summands) (values : List ℤ) (v : Term → ℕ) → Values ts values v → FormNamed ts form
    → Rattle.e_literal.specs.Solution.form_value form v ≡ value_of_monomials (named_form ts form) values
form_same ts [] values v h f = refl
form_same ts (p ∷ ps) values v h f =
    ap₂ {A = ℤ} {B = ℤ} (λ a b. a +ℤ b) (ap (λ z. p.0 *ℤ z) (h p.1 f.0)) (form_same ts ps values v h f.1)

-- ---- from constraints to rows

so_of : (s : Sense) (z : ℤ) → keeps true s ≡ false → ConstraintHolds (constraint_sense s) z → IsSo s z
so_of Zero z e h = h
so_of AtLeast z e h = h
so_of More z e h = h
so_of Not z e h = absurd (true≢false e)

module _ (ts : List Term) (values : List ℤ) (v : Term → ℕ) (same : Values ts values v) where
  satisfied : (rows : List Row) → AllNamed ts rows
      → ((i : ℕ) (d : Constraint) → i < length (named_constraints false ts rows) → ConstraintHolds (get_or (named_constraints false ts rows) i d).sense (value_of_monomials (get_or (named_constraints false ts rows) i d).form values))
      → ((j : ℕ) (d : Constraint) → j < length (named_constraints true ts rows) → value_of_monomials (get_or (named_constraints true ts rows) j d).form values ≢ pos 0) → Satisfy v rows
  satisfied [] a h g = tt
  satisfied (r ∷ rs) a h g =
      by (keeps true r.sense) refl
      (subst (λ ls. (i : ℕ) (d : Constraint) → i < length ls → ConstraintHolds (get_or ls i d).sense (value_of_monomials (get_or ls i d).form values)) (main_cons ts r rs) h) g (λ p q. satisfied rs a.1 p q)
    where
      by : (b : Bool) → keeps true r.sense ≡ b
          → ((i : ℕ) (d : Constraint) → i < length (cond b (named_constraints false ts rs) (named_constraint ts r ∷ named_constraints false ts rs))
          → ConstraintHolds (get_or (cond b (named_constraints false ts rs) (named_constraint ts r ∷ named_constraints false ts rs)) i d).sense (value_of_monomials (get_or (cond b (named_constraints false ts rs) (named_constraint ts r ∷ named_constraints false ts rs)) i d).form values))
          → ((j : ℕ) (d : Constraint) → j < length (cond b (named_constraint ts r ∷ named_constraints true ts rs) (named_constraints true ts rs)) → value_of_monomials (get_or (cond b (named_constraint ts r ∷ named_constraints true ts rs) (named_constraints true ts rs)) j d).form values ≢ pos 0)
          → (((i : ℕ) (d : Constraint) → i < length (named_constraints false ts rs) → ConstraintHolds (get_or (named_constraints false ts rs) i d).sense (value_of_monomials (get_or (named_constraints false ts rs) i d).form values))
          → ((j : ℕ) (d : Constraint) → j < length (named_constraints true ts rs) → value_of_monomials (get_or (named_constraints true ts rs) j d).form values ≢ pos 0) → Satisfy v rs)
          → Satisfy v (r ∷ rs)
      by true e p q ih = (
        subst (λ s. IsSo s (Rattle.e_literal.specs.Solution.form_value r.form v)) (sym (kept_not r.sense e)) (λ z. q 0 (named_constraint ts r) (omega arith) (sym (form_same ts r.form values v same a.0) ∙ z)),
        ih p (λ j d l. q (suc j) d (omega (arith, l))),
      )
      by false e p q ih = (
        so_of r.sense (Rattle.e_literal.specs.Solution.form_value r.form v) e
            (subst (ConstraintHolds (constraint_sense r.sense)) (sym (form_same ts r.form values v same a.0)) (p 0 (named_constraint ts r) (omega arith))),
        ih (λ i d l. p (suc i) d (omega (arith, l))) q,
      )

  -- ---- from rows to constraints

  holds_of : (s : Sense) (z : ℤ) → keeps true s ≡ false → IsSo s z → ConstraintHolds (constraint_sense s) z
  holds_of Zero z e h = h
  holds_of AtLeast z e h = h
  holds_of More z e h = h
  holds_of Not z e h = absurd (true≢false e)

  constraints_hold : (rows : List Row) → AllNamed ts rows → Satisfy v rows → (i : ℕ) (d : Constraint) → i < length (named_constraints false ts rows)
      → ConstraintHolds (get_or (named_constraints false ts rows) i d).sense (value_of_monomials (get_or (named_constraints false ts rows) i d).form values)
  constraints_hold [] a s i d l = absurd (omega (arith, l))
  constraints_hold (r ∷ rs) a s i d l =
      subst (λ ls. (i : ℕ) (d : Constraint) → i < length ls → ConstraintHolds (get_or ls i d).sense (value_of_monomials (get_or ls i d).form values)) (sym (main_cons ts r rs))
      (by (keeps true r.sense) refl (constraints_hold rs a.1 s.1)) i d l
    where
      by : (b : Bool) → keeps true r.sense ≡ b
          → ((i : ℕ) (d : Constraint) → i < length (named_constraints false ts rs) → ConstraintHolds (get_or (named_constraints false ts rs) i d).sense (value_of_monomials (get_or (named_constraints false ts rs) i d).form values))
          → (i : ℕ) (d : Constraint) → i < length (cond b (named_constraints false ts rs) (named_constraint ts r ∷ named_constraints false ts rs))
          → ConstraintHolds (get_or (cond b (named_constraints false ts rs) (named_constraint ts r ∷ named_constraints false ts rs)) i d).sense (value_of_monomials (get_or (cond b (named_constraints false ts rs) (named_constraint ts r ∷ named_constraints false ts rs)) i d).form values)
      by true e h i d l = h i d l
      by false e h zero d l = subst (ConstraintHolds (constraint_sense r.sense)) (form_same ts r.form values v same a.0) (holds_of r.sense (Rattle.e_literal.specs.Solution.form_value r.form v) e s.0)
      by false e h (suc i) d l = h i d (omega (arith, l))

  forms_differ : (rows : List Row) → AllNamed ts rows → Satisfy v rows → (j : ℕ) (d : Constraint) → j < length (named_constraints true ts rows) → value_of_monomials (get_or (named_constraints true ts rows) j d).form values ≢ pos 0
  forms_differ [] a s j d l = absurd (omega (arith, l))
  forms_differ (r ∷ rs) a s j d l = by (keeps true r.sense) refl j l (forms_differ rs a.1 s.1)
    where
      by : (b : Bool) → keeps true r.sense ≡ b → (i : ℕ) → i < length (cond b (named_constraint ts r ∷ named_constraints true ts rs) (named_constraints true ts rs))
          → ((i : ℕ) (d : Constraint) → i < length (named_constraints true ts rs) → value_of_monomials (get_or (named_constraints true ts rs) i d).form values ≢ pos 0)
          → value_of_monomials (get_or (cond b (named_constraint ts r ∷ named_constraints true ts rs) (named_constraints true ts rs)) i d).form values ≢ pos 0
      by true e zero m h = λ z. (subst (λ u. IsSo u (Rattle.e_literal.specs.Solution.form_value r.form v)) (kept_not r.sense e) s.0) (form_same ts r.form values v same a.0 ∙ z)
      by true e (suc i) m h = h i d (omega (arith, m))
      by false e i m h = h i d m

-- ---- the values that are answered

pub values_answered : (ts : List Term) (rows : List Row) (w : ℕ) (values : List ℤ) (pairs : List (Term × ℕ)) → length ts < w → AreOnce ts → AllNamed ts rows
    → AreUnequal w (named_constraints false ts rows) (named_constraints true ts rows) values → PairedTo (length ts) ts values pairs → AreValuesOf rows pairs
values_answered ts rows w values pairs room o a h p =
    (let e : map (λ (q : Term × ℕ). q.0) pairs ≡ ts = firsts ts pairs p.shape p.term in
    record {
      once = subst AreOnce (sym e) o;
      all = subst (λ vs. AllNamed vs rows) (sym e) a;
      satisfy = satisfied ts values (assigned_value pairs) same rows a h.solution.holds h.unequal;
    })
  where
    whole : (z : ℤ) → pos 0 ≤ℤ z → pos (unsigned_abs z) ≡ z
    whole z h = omega (arith, sums, h, abs_is z)

    same : (t : Term) → IsIn ts t → pos (assigned_value pairs t) ≡ get_or values (suc (place_of ts t)) (pos 0)
    same t i = ap pos (assigned_at ts pairs (λ c. unsigned_abs (get_or values (suc c) (pos 0))) t p.shape p.term p.number i)
        ∙ whole (get_or values (suc (place_of ts t)) (pos 0)) (h.solution.not_negative (suc (place_of ts t)) (omega (arith, i, room)))

-- ---- what is refuted has no solution

abbrev listed : List Term → (Term → ℕ) → List ℤ
listed [] v = []
listed (t ∷ ts) v = pos (v t) ∷ listed ts v

listed_length : (ts : List Term) (v : Term → ℕ) → length (listed ts v) ≡ length ts
listed_length [] v = refl
listed_length (t ∷ ts) v = ap suc (listed_length ts v)

listed_at : (ts : List Term) (v : Term → ℕ) (c : ℕ) → c < length ts → get_or (listed ts v) c (pos 0) ≡ pos (v (get_or ts c Right))
listed_at [] v c l = absurd (omega (arith, l))
listed_at (t ∷ ts) v zero l = refl
listed_at (t ∷ ts) v (suc c) l = listed_at ts v c (omega (arith, l))

module _ (ts : List Term) (rows : List Row) (a : AllNamed ts rows) (h : HasSolution rows) where
  abbrev all_values : List ℤ
  all_values = pos 0 ∷ listed ts h.values

  same_values : (t : Term) → IsIn ts t → pos (h.values t) ≡ get_or all_values (suc (place_of ts t)) (pos 0)
  same_values t i = ap (λ u. pos (h.values u)) (sym (term_at ts t i)) ∙ sym (listed_at ts h.values (place_of ts t) i)

  not_less : (c : ℕ) → c < length ts + 1 → pos 0 ≤ℤ get_or all_values c (pos 0)
  not_less zero l = omega (arith, sums)
  not_less (suc c) l = subst (λ z. pos 0 ≤ℤ z) (sym (listed_at ts h.values c (omega (arith, l)))) (omega (arith, sums))

  constraints_solved : IsSolution (length ts + 1) (named_constraints false ts rows) all_values
  constraints_solved = record {
    shape = omega (arith, listed_length ts h.values);
    not_negative = not_less;
    holds = constraints_hold ts all_values h.values same_values rows a h.satisfy;
  }

  solved_push : (l : Constraint) → ConstraintHolds l.sense (value_of_monomials l.form all_values) → IsSolution (length ts + 1) (named_constraints false ts rows ++ l ∷ []) all_values
  solved_push l g = record {
    shape = constraints_solved.shape;
    not_negative = not_less;
    holds = λ i d n. elim (cases_lt i (length (named_constraints false ts rows))) [
      | inl m ↦ subst (λ x. ConstraintHolds x.sense (value_of_monomials x.form all_values)) (sym (get_or_append_left (named_constraints false ts rows) (l ∷ []) d i m)) (constraints_solved.holds i d m)
      | inr m ↦ subst (λ x. ConstraintHolds x.sense (value_of_monomials x.form all_values))
          (sym (get_or_push (named_constraints false ts rows) l d i (omega (arith, n, m, length_push (named_constraints false ts rows) l)))) g
    ];
  }

  pub none_one : (ws : List ℤ) → IsAbsurd (length ts + 1) (named_constraints false ts rows) ws → ⊥
  none_one ws b = no_solution (length ts + 1) (named_constraints false ts rows) ws all_values (within_constraints false ts rows a) b constraints_solved

  pub none_two : (k : ℕ) (above below : List ℤ) → AreBothRefuted (length ts + 1) (named_constraints false ts rows) (named_constraints true ts rows) k above below → ⊥
  none_two k above below b =
      elim (signs (value_of_monomials (get_or (named_constraints true ts rows) k dummy).form all_values) (forms_differ ts all_values h.values same_values rows a h.satisfy k dummy b.here)) [
        | inl p ↦ no_solution (length ts + 1) (named_constraints false ts rows ++ get_or (named_constraints true ts rows) k dummy ∷ []) above all_values
            (forms_push (length ts + 1) (named_constraints false ts rows) (get_or (named_constraints true ts rows) k dummy) (within_constraints false ts rows a) (within_constraints true ts rows a k dummy b.here))
            (b.above_absurd dummy)
            (solved_push (get_or (named_constraints true ts rows) k dummy)
            (subst (λ x. ConstraintHolds x (value_of_monomials (get_or (named_constraints true ts rows) k dummy).form all_values)) (sym (more_constraints ts rows k dummy b.here)) p))
        | inr p ↦ no_solution (length ts + 1) (named_constraints false ts rows ++ negative_constraint (get_or (named_constraints true ts rows) k dummy) ∷ []) below all_values
            (forms_push (length ts + 1) (named_constraints false ts rows) (negative_constraint (get_or (named_constraints true ts rows) k dummy)) (within_constraints false ts rows a)
            (negative_within (length ts + 1) (get_or (named_constraints true ts rows) k dummy) (within_constraints true ts rows a k dummy b.here)))
            (b.below_absurd dummy)
            (solved_push (negative_constraint (get_or (named_constraints true ts rows) k dummy))
            (subst (λ z. pos 0 <ℤ z) (sym (negated_value (get_or (named_constraints true ts rows) k dummy).form all_values)) (omega (arith, sums, p))))
      ]
    where
      dummy : Constraint
      dummy = record { sense = SenseMore; form = [] }

      signs : (z : ℤ) → z ≢ pos 0 → (pos 0 <ℤ z) ⊎ (z <ℤ pos 0)
      signs (pos zero) n = absurd (n refl)
      signs (pos (suc m)) n = inl (omega (arith, sums))
      signs (negsuc m) n = inr (omega (arith, sums))
