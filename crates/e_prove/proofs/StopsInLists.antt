-- Lists of steps, one after the other, and where licensing stops in them.
use Rattle.std.proofs.Common.{◌≡◌, ℕ, zero, suc, ◌+◌, ◌<◌, ◌≤◌, List, [], ◌∷◌, ◌++◌, length, refl, sym, ap, ap₂, ◌∙◌, subst, Bool, true, ◌&&◌, Some, arith, length-append}
use Rattle.std.specs.Prelude.{take, slice_get}
use Rattle.std.specs.List.{list_all}
use Rattle.std.proofs.lemmas.List.Folds.{list_all-append}
use Rattle.std.proofs.lemmas.Bool.{and_from}
use Rattle.std.proofs.lemmas.Option.{none-some}
use Rattle.e_literal.specs.declared.object.Scope.{Scope}
use Rattle.e_literal.specs.declared.literal.Lit.{Lit}
use Rattle.e_literal.specs.Literal.{negation}
use Rattle.e_literal.specs.Facts.{with_fact, with_facts}
use Rattle.e_literal.specs.Scopes.{with_sorts}
use Rattle.e_literal.specs.Use.{StatementView, gives_of_use}
use Rattle.e_construct.specs.Construct.{sorts_made, gives_of_construction}
use Rattle.e_construct.specs.Superposing as superposing
use Rattle.e_deriv.specs.declared.names.Names.{Names}
use Rattle.e_deriv.specs.declared.stop.Stop.{Stop}
use Rattle.e_deriv.specs.declared.stop.Stop.TheVariants as stop
use Rattle.e_deriv.specs.Script.{Script, Cite, Hence, Make, Apply, Claim, Superposed, Qed, Contradiction, Cases, size}
use Rattle.e_deriv.specs.Goal.{Goal, goal_of}
use Rattle.e_deriv.specs.Parts.{rest_of, inner_of, args_of}
use Rattle.e_deriv.specs.PlacedSteps.{PlacedStep, placed_step, placed_steps, theorem_at}
use Rattle.e_deriv.specs.Naming.{with_new_names, names_of_steps}
use Rattle.e_deriv.specs.Licensed.{Licensed, AllLicensed}
use Rattle.e_deriv.specs.Fitting.{LitsFit, is_small}
use Rattle.e_deriv.proofs.Agreement.{both_licensed}
use Rattle.e_deriv.proofs.Stops.{lines_length}
use Rattle.e_prove.specs.declared.state_before.StateBefore.{StateBefore}
use Rattle.e_prove.specs.declared.stop_reason.StopReason.{StopReason}
use Rattle.e_prove.specs.declared.stop_reason.StopReason.TheVariants as stop_reason
use Rattle.e_prove.specs.inner.StopsOfSteps.{StepStopsAt, IsStopOrNoMemory, stop_of}
use Rattle.e_prove.specs.inner.LicensedSteps.{fits_here}
use Rattle.e_prove.specs.Stops.{IsStopBefore}
use Rattle.e_prove.specs.inner.PassedSteps.{Arrival, Halts, ArrivesAt, IsReachedIn, StopsInList, ReachesWithin, StopsWithin}

-- ---- places

at_left : {A : Type 0} (xs ys : List A) (p : ℕ) (x : A) → slice_get xs p ≡ Some x → slice_get (xs ++ ys) p ≡ Some x
at_left [] ys p x e = absurd (none-some x e)
at_left (a ∷ xs) ys zero x e = e
at_left (a ∷ xs) ys (suc p) x e = at_left xs ys p x e

at_right : {A : Type 0} (xs ys : List A) (p q : ℕ) → q ≡ length xs + p → slice_get (xs ++ ys) q ≡ slice_get ys p
at_right [] ys p q e = ap (slice_get ys) (omega (arith, e))
at_right (a ∷ xs) ys p zero e = absurd (omega (arith, e))
at_right (a ∷ xs) ys p (suc q) e = at_right xs ys p q (omega (arith, e))

take_left : {A : Type 0} (xs ys : List A) (p : ℕ) (x : A) → slice_get xs p ≡ Some x → take p (xs ++ ys) ≡ take p xs
take_left [] ys p x e = absurd (none-some x e)
take_left (a ∷ xs) ys zero x e = refl
take_left (a ∷ xs) ys (suc p) x e = ap (λ zs. a ∷ zs) (take_left xs ys p x e)

take_right : {A : Type 0} (xs ys : List A) (p q : ℕ) → q ≡ length xs + p → take q (xs ++ ys) ≡ xs ++ take p ys
take_right [] ys p q e = ap (λ n. take n ys) (omega (arith, e))
take_right (a ∷ xs) ys p zero e = absurd (omega (arith, e))
take_right (a ∷ xs) ys p (suc q) e = ap (λ zs. a ∷ zs) (take_right xs ys p q (omega (arith, e)))

-- ---- what is found at a step

-- at the first step
pub reached_first : (before : List StatementView) (x : PlacedStep) (xs : List PlacedStep) (m : Names) (ns : List Names) (first : ℕ) (a : Arrival) → ArrivesAt before x a → IsReachedIn before (x ∷ xs) (m ∷ ns) first a first m
reached_first before x xs m ns first a k = record { place = 0; number = omega arith; step = x; at = refl; earlier = tt; arrives = k; named = refl }

-- after a step that is licensed
pub reached_after : (before : List StatementView) (x : PlacedStep) (xs : List PlacedStep) (m : Names) (ns : List Names) (first : ℕ) (a : Arrival) (n : ℕ) (names : Names) →
    Licensed before x → IsReachedIn before xs ns (first + 1) a n names → IsReachedIn before (x ∷ xs) (m ∷ ns) first a n names
reached_after before x xs m ns first a n names l k =
    record { place = suc k.place; number = omega (arith, k.number); step = k.step; at = k.at; earlier = (l, k.earlier); arrives = k.arrives; named = k.named }

-- in the first of two lists
pub reached_left : (before : List StatementView) (xs ys : List PlacedStep) (ns ms : List Names) (first : ℕ) (a : Arrival) (n : ℕ) (names : Names) →
    IsReachedIn before xs ns first a n names → IsReachedIn before (xs ++ ys) (ns ++ ms) first a n names
reached_left before xs ys ns ms first a n names k =
    record {
      place = k.place;
      number = k.number;
      step = k.step;
      at = at_left xs ys k.place k.step k.at;
      earlier = subst (AllLicensed before) (sym (take_left xs ys k.place k.step k.at)) k.earlier;
      arrives = k.arrives;
      named = at_left ns ms k.place names k.named;
    }

-- in the second, where the steps of the first are licensed
pub reached_right : (before : List StatementView) (xs ys : List PlacedStep) (ns ms : List Names) (k first : ℕ) (a : Arrival) (n : ℕ) (names : Names) → length xs ≡ k → length ns ≡ k →
    AllLicensed before xs → IsReachedIn before ys ms (first + k) a n names → IsReachedIn before (xs ++ ys) (ns ++ ms) first a n names
reached_right before xs ys ns ms k first a n names e d l r =
    record {
      place = k + r.place;
      number = omega (arith, r.number);
      step = r.step;
      at = at_right xs ys r.place (k + r.place) (omega (arith, e)) ∙ r.at;
      earlier = subst (AllLicensed before) (sym (take_right xs ys r.place (k + r.place) (omega (arith, e)))) (both_licensed before xs (take r.place ys) l r.earlier);
      arrives = r.arrives;
      named = at_right ns ms r.place (k + r.place) (omega (arith, d)) ∙ r.named;
    }

-- ---- stops

-- at the first step, with these names before it
stop_at_first : (before : List StatementView) (x : PlacedStep) (xs : List PlacedStep) (m : Names) (ns : List Names) (first : ℕ) (h : StopReason) → StepStopsAt before x h → StopsInList before (x ∷ xs) (m ∷ ns) first (stop_of h first m)
stop_at_first before x xs m ns first (stop_reason.Lacks wanted values) k = reached_first before x xs m ns first (Halts (stop_reason.Lacks wanted values)) k
stop_at_first before x xs m ns first (stop_reason.TooWide wanted width) k = reached_first before x xs m ns first (Halts (stop_reason.TooWide wanted width)) k
stop_at_first before x xs m ns first stop_reason.NoMemory k = tt

pub stop_first : (before : List StatementView) (x : PlacedStep) (xs : List PlacedStep) (m : Names) (ns : List Names) (first : ℕ) (h : StopReason) (s : Stop) → StepStopsAt before x h → IsStopOrNoMemory h first m s → StopsInList before (x ∷ xs) (m ∷ ns) first s
stop_first before x xs m ns first h (stop.Unlicensed n wanted values names) k e = subst (StopsInList before (x ∷ xs) (m ∷ ns) first) (sym e) (stop_at_first before x xs m ns first h k)
stop_first before x xs m ns first h (stop.TooWide n wanted width names) k e = subst (StopsInList before (x ∷ xs) (m ∷ ns) first) (sym e) (stop_at_first before x xs m ns first h k)
stop_first before x xs m ns first h stop.NoMemory k e = tt

-- where all that is found in the one script is found in the other, so is a stop
pub stops_by : (before : List StatementView) (d e : Script) (x y : StateBefore) (goal goal' : Goal) (n m : ℕ) (s : Stop) →
    ((a : Arrival) (k : ℕ) (names : Names) → ReachesWithin before d x goal n a k names → ReachesWithin before e y goal' m a k names) → StopsWithin before d x goal n s → StopsWithin before e y goal' m s
stops_by before d e x y goal goal' n m (stop.Unlicensed k wanted values names) f h =
    let r = f (Halts (stop_reason.Lacks wanted values)) k names (record { filled = h.filled; reached = h.stops }) in record { filled = r.filled; stops = r.reached }
stops_by before d e x y goal goal' n m (stop.TooWide k wanted width names) f h =
    let r = f (Halts (stop_reason.TooWide wanted width)) k names (record { filled = h.filled; reached = h.stops }) in record { filled = r.filled; stops = r.reached }
stops_by before d e x y goal goal' n m stop.NoMemory f h = record { filled = e; stops = tt }

-- ---- where a stop is

pub at_less : {A : Type 0} (xs : List A) (p : ℕ) (x : A) → slice_get xs p ≡ Some x → p < length xs
at_less [] p x e = absurd (none-some x e)
at_less (a ∷ xs) zero x e = omega arith
at_less (a ∷ xs) (suc p) x e = let k = at_less xs p x e in omega (arith, k)

-- a stop within a script is at one of its steps
pub stop_within : (before : List StatementView) (d : Script) (x : StateBefore) (goal : Goal) (n : ℕ) (s : Stop) → StopsWithin before d x goal n s → IsStopBefore (n + size d) s
stop_within before d x goal n (stop.Unlicensed k wanted values names) h =
    let many = lines_length before d h.filled x.context.scope x.context.facts goal in
    omega (arith, many, h.stops.number, at_less _ h.stops.place h.stops.step h.stops.at)
stop_within before d x goal n (stop.TooWide k wanted width names) h =
    let many = lines_length before d h.filled x.context.scope x.context.facts goal in
    omega (arith, many, h.stops.number, at_less _ h.stops.place h.stops.step h.stops.at)
stop_within before d x goal n stop.NoMemory h = tt

pub before_more : (n m : ℕ) (s : Stop) → n ≤ m → IsStopBefore n s → IsStopBefore m s
before_more n m (stop.Unlicensed k wanted values names) le h = omega (arith, le, h)
before_more n m (stop.TooWide k wanted width names) le h = omega (arith, le, h)
before_more n m stop.NoMemory le h = tt

stop_of_before : (h : StopReason) (n m : ℕ) (names : Names) → n < m → IsStopBefore m (stop_of h n names)
stop_of_before (stop_reason.Lacks wanted values) n m names less = less
stop_of_before (stop_reason.TooWide wanted width) n m names less = less
stop_of_before stop_reason.NoMemory n m names less = tt

-- a stop at a step is before the next one
pub stop_before : (h : StopReason) (n m : ℕ) (names : Names) (s : Stop) → n < m → IsStopOrNoMemory h n names s → IsStopBefore m s
stop_before h n m names (stop.Unlicensed a b c d) less e = subst (IsStopBefore m) (sym e) (stop_of_before h n m names less)
stop_before h n m names (stop.TooWide a b c d) less e = subst (IsStopBefore m) (sym e) (stop_of_before h n m names less)
stop_before h n m names stop.NoMemory less e = tt

-- ---- how many steps there are

pub names_length : (before : List StatementView) (ns : Names) (d : Script) → length (names_of_steps before ns d) ≡ size d
unfolding names_of_steps size
names_length before ns (Cite by rest) = let h = names_length before ns rest in omega (arith, h)
names_length before ns (Hence lit cert rest) = let h = names_length before ns rest in omega (arith, h)
names_length before ns (Make construction names certs rest) = let h = names_length before (with_new_names ns (sorts_made construction) names) rest in omega (arith, h)
names_length before ns (Apply theorem args names certs rest) = let h = names_length before (with_new_names ns (theorem_at before theorem).made names) rest in omega (arith, h)
names_length before ns (Claim shown inner rest) =
    let h = names_length before ns inner in
    let k = names_length before ns rest in
    omega (arith, h, k, length-append (names_of_steps before ns inner) (names_of_steps before ns rest))
names_length before ns (Superposed superposition names shown certs inner rest) =
    let ms = with_new_names ns superposing.sorts_copied names in
    let h = names_length before ms inner in
    let k = names_length before ns rest in
    omega (arith, h, k, length-append (names_of_steps before ms inner) (names_of_steps before ns rest))
names_length before ns (Qed objects certs) = refl
names_length before ns (Contradiction against) = refl
names_length before ns (Cases lit first second) =
    let h = names_length before ns first in
    let k = names_length before ns second in
    omega (arith, h, k, length-append (names_of_steps before ns first) (names_of_steps before ns second))

-- ---- tests of all steps

pub all_both : (p : PlacedStep → Bool) (xs ys : List PlacedStep) → list_all p xs ≡ true → list_all p ys ≡ true → list_all p (xs ++ ys) ≡ true
all_both p xs ys h k = list_all-append p xs ys ∙ and_from _ _ h k

-- ---- tests that look neither at the facts nor at how blanks are filled

pub record IsBlind (p : PlacedStep → Bool) : Type 0 where
  pub same : (here f f' : Script) (s : Scope) (facts facts' : List Lit) (goal : Goal) → p (placed_step here f s facts goal) ≡ p (placed_step here f' s facts' goal)

both_same : (a b c d : Bool) → a ≡ b → c ≡ d → (a && c) ≡ (b && d)
both_same a b c d e f = ap₂ (λ x y. x && y) e f

both_lists : (p : PlacedStep → Bool) (xs xs' ys ys' : List PlacedStep) → list_all p xs ≡ list_all p xs' → list_all p ys ≡ list_all p ys' → list_all p (xs ++ ys) ≡ list_all p (xs' ++ ys')
both_lists p xs xs' ys ys' e f = list_all-append p xs ys ∙ both_same _ _ _ _ e f ∙ sym (list_all-append p xs' ys')

pub tests_again : (before : List StatementView) (p : PlacedStep → Bool) → IsBlind p → (d f f' : Script) (s : Scope) (facts facts' : List Lit) (goal : Goal) →
    list_all p (placed_steps before d f s facts goal) ≡ list_all p (placed_steps before d f' s facts' goal)
unfolding placed_steps
tests_again before p b (Cite by rest) f f' s facts facts' goal =
    both_same _ _ _ _ (b.same (Cite by rest) f f' s facts facts' goal) (tests_again before p b rest (rest_of f) (rest_of f') s (with_fact facts by.lit) (with_fact facts' by.lit) goal)
tests_again before p b (Hence lit cert rest) f f' s facts facts' goal =
    both_same _ _ _ _ (b.same (Hence lit cert rest) f f' s facts facts' goal) (tests_again before p b rest (rest_of f) (rest_of f') s (with_fact facts lit) (with_fact facts' lit) goal)
tests_again before p b (Make construction names certs rest) f f' s facts facts' goal =
    both_same _ _ _ _ (b.same (Make construction names certs rest) f f' s facts facts' goal)
    (tests_again before p b rest (rest_of f) (rest_of f') (with_sorts s (sorts_made construction)) (with_facts facts (gives_of_construction construction s)) (with_facts facts' (gives_of_construction construction s)) goal)
tests_again before p b (Apply theorem args names certs rest) f f' s facts facts' goal =
    let t = theorem_at before theorem in
    both_same _ _ _ _ (b.same (Apply theorem args names certs rest) f f' s facts facts' goal)
    (tests_again before p b rest (rest_of f) (rest_of f') (with_sorts s t.made) (with_facts facts (gives_of_use t (args_of f) s)) (with_facts facts' (gives_of_use t (args_of f') s)) goal)
tests_again before p b (Claim shown inner rest) f f' s facts facts' goal =
    both_same _ _ _ _ (b.same (Claim shown inner rest) f f' s facts facts' goal)
    (both_lists p (placed_steps before inner (inner_of f) s facts (goal_of shown)) (placed_steps before inner (inner_of f') s facts' (goal_of shown))
    (placed_steps before rest (rest_of f) s (with_facts facts shown) goal) (placed_steps before rest (rest_of f') s (with_facts facts' shown) goal)
    (tests_again before p b inner (inner_of f) (inner_of f') s facts facts' (goal_of shown))
    (tests_again before p b rest (rest_of f) (rest_of f') s (with_facts facts shown) (with_facts facts' shown) goal))
tests_again before p b (Superposed superposition names shown certs inner rest) f f' s facts facts' goal =
    let g = with_sorts s superposing.sorts_copied in
    let given = superposing.gives_of_superposition superposition s in
    both_same _ _ _ _ (b.same (Superposed superposition names shown certs inner rest) f f' s facts facts' goal)
    (both_lists p (placed_steps before inner (inner_of f) g (with_facts facts given) (goal_of shown)) (placed_steps before inner (inner_of f') g (with_facts facts' given) (goal_of shown))
    (placed_steps before rest (rest_of f) s (with_facts facts shown) goal) (placed_steps before rest (rest_of f') s (with_facts facts' shown) goal)
    (tests_again before p b inner (inner_of f) (inner_of f') g (with_facts facts given) (with_facts facts' given) (goal_of shown))
    (tests_again before p b rest (rest_of f) (rest_of f') s (with_facts facts shown) (with_facts facts' shown) goal))
tests_again before p b (Qed objects certs) f f' s facts facts' goal = both_same _ _ _ _ (b.same (Qed objects certs) f f' s facts facts' goal) refl
tests_again before p b (Contradiction against) f f' s facts facts' goal = both_same _ _ _ _ (b.same (Contradiction against) f f' s facts facts' goal) refl
tests_again before p b (Cases lit first second) f f' s facts facts' goal =
    let not_so = negation lit in
    both_same _ _ _ _ (b.same (Cases lit first second) f f' s facts facts' goal)
    (both_lists p (placed_steps before first (inner_of f) s (with_fact facts lit) goal) (placed_steps before first (inner_of f') s (with_fact facts' lit) goal)
    (placed_steps before second (rest_of f) s (with_fact facts not_so) goal) (placed_steps before second (rest_of f') s (with_fact facts' not_so) goal)
    (tests_again before p b first (inner_of f) (inner_of f') s (with_fact facts lit) (with_fact facts' lit) goal)
    (tests_again before p b second (rest_of f) (rest_of f') s (with_fact facts not_so) (with_fact facts' not_so) goal))

-- whether a step has its form, and whether few objects are in scope before it
pub fits_here_is_blind : (before : List StatementView) → IsBlind (fits_here before)
fits_here_is_blind before = record { same = by_form }
  where
    by_form : (here f f' : Script) (s : Scope) (facts facts' : List Lit) (goal : Goal) → fits_here before (placed_step here f s facts goal) ≡ fits_here before (placed_step here f' s facts' goal)
    by_form (Cite by rest) f f' s facts facts' goal = refl
    by_form (Hence lit cert rest) f f' s facts facts' goal = refl
    by_form (Make construction names certs rest) f f' s facts facts' goal = refl
    by_form (Apply theorem args names certs rest) f f' s facts facts' goal = refl
    by_form (Claim shown inner rest) f f' s facts facts' goal = refl
    by_form (Superposed superposition names shown certs inner rest) f f' s facts facts' goal = refl
    by_form (Qed objects certs) f f' s facts facts' goal = refl
    by_form (Contradiction against) f f' s facts facts' goal = refl
    by_form (Cases lit first second) f f' s facts facts' goal = refl

pub scope_is_blind : IsBlind (λ y. is_small y.scope)
scope_is_blind = record { same = λ here f f' s facts facts' goal. refl }

-- ---- literals that fit, in lists of steps

pub lits_first : (before : List StatementView) (xs ys : List PlacedStep) → LitsFit before (xs ++ ys) → LitsFit before xs
lits_first before [] ys h = tt
lits_first before (x ∷ xs) ys h = (h.0, λ fit. ((h.1 fit).0, lits_first before xs ys (h.1 fit).1))

-- in the second, where the steps of the first are licensed
pub lits_second : (before : List StatementView) (xs ys : List PlacedStep) → AllLicensed before xs → LitsFit before (xs ++ ys) → LitsFit before ys
lits_second before [] ys l h = h
lits_second before (x ∷ xs) ys l h = lits_second before xs ys l.1 (h.1 l.0.fits).1
