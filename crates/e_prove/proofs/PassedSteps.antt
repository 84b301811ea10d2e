-- What is licensed step by step, whatever comes after it.
use Rattle.std.proofs.Common.{◌≡◌, ℕ, ◌+◌, ◌-◌, ◌<◌, List, ◌∷◌, refl, sym, ap, ◌∙◌, subst, Bool, true, Result, Ok, Err, arith}
use Rattle.std.specs.Prelude.{IfOk, IfErr, OnOk}
use Rattle.std.specs.List.{list_all}
use Rattle.std.proofs.lemmas.Bool.{and_from}
use Rattle.e_literal.specs.declared.object.Scope.{Scope}
use Rattle.e_literal.specs.declared.literal.Lit.{Lit}
use Rattle.e_literal.specs.Use.{StatementView}
use Rattle.e_literal.proofs.Booleans.{and_left, and_right}
use Rattle.e_deriv.specs.declared.block.Step.{Step}
use Rattle.e_deriv.specs.declared.block.Step.TheVariants as steps
use Rattle.e_deriv.specs.declared.block.Close.{Close}
use Rattle.e_deriv.specs.declared.names.Names.{Names}
use Rattle.e_deriv.specs.declared.stop.Stop.{Stop}
use Rattle.e_deriv.specs.declared.stop.Stop.TheVariants as stop
use Rattle.e_deriv.specs.Script.{Script, Cite, Hence, Make, Apply, Claim, Superposed, Qed, Contradiction, Cases, step_script, close_script, size}
use Rattle.e_deriv.specs.Goal.{Goal}
use Rattle.e_deriv.specs.PlacedSteps.{PlacedStep, placed_step, placed_steps}
use Rattle.e_deriv.specs.Naming.{names_of_steps}
use Rattle.e_deriv.specs.Licensed.{AllLicensed}
use Rattle.e_deriv.specs.Certified.{is_certified}
use Rattle.e_deriv.specs.Fitting.{LitsFit, is_small}
use Rattle.e_prove.specs.declared.stop_reason.StopReason.{StopReason}
use Rattle.e_prove.specs.declared.stop_reason.StopReason.TheVariants as stop_reason
use Rattle.e_prove.specs.declared.state_before.StateBefore.{StateBefore}
use Rattle.e_prove.specs.inner.StopsOfSteps.{StepStopsAt, UnlessNoMemory, IsStopOrNoMemory, IsStopOfAnswer}
use Rattle.e_prove.specs.inner.LicensedSteps.{IsLicensedStep, IsStopOfStep, IsLicensedClose, IsStopOfClose, step_from_basis, steps_from_basis, fits_here}
use Rattle.e_prove.specs.inner.PassedSteps.{IsReadyFor, IsDerivedFrom, KeepsHeld, Arrival, Stands, IsReachedIn, StopsInList, ReachesWithin, ReachesStep, StopsWithin, IsPassed, StopsInStep}
use Rattle.e_prove.proofs.StopsInLists.{reached_first, reached_after, stop_first, stops_by, stop_before, tests_again, fits_here_is_blind, scope_is_blind}

-- ---- nothing licensed yet, and one thing after another

pub passed_none : (before : List StatementView) (x : StateBefore) (n : ℕ) → KeepsHeld x x → IsPassed before (λ d. d) x n (λ d. d) x n
passed_none before x n k = record { ready = λ rest goal r. r; derives = λ rest more goal r d. d; stops = λ rest goal s r h. h; reaches = λ rest goal a i names r h. h; number = λ rest. refl; kept = k }

pub passed_more : (before : List StatementView) (f f' g g' : Script → Script) (x y z : StateBefore) (n m k : ℕ) → KeepsHeld x z → IsPassed before f x n f' y m → IsPassed before g y m g' z k →
    IsPassed before (λ d. f (g d)) x n (λ d. f' (g' d)) z k
passed_more before f f' g g' x y z n m k kept a b =
    record {
      ready = λ rest goal r. b.ready rest goal (a.ready (g rest) goal r);
      derives = λ rest more goal r d. a.derives (g rest) (g' more) goal r (b.derives rest more goal (a.ready (g rest) goal r) d);
      stops = λ rest goal s r h. a.stops (g rest) goal s r (b.stops rest goal s (a.ready (g rest) goal r) h);
      reaches = λ rest goal v i names r h. a.reaches (g rest) goal v i names r (b.reaches rest goal v i names (a.ready (g rest) goal r) h);
      number = λ rest. a.number (g rest) ∙ b.number rest;
      kept = kept;
    }

-- the same of scripts that are equal
pub passed_as : (before : List StatementView) (f f' g g' : Script → Script) (x y : StateBefore) (n m : ℕ) → ((d : Script) → f d ≡ g d) → ((d : Script) → f' d ≡ g' d) → IsPassed before f x n f' y m → IsPassed before g x n g' y m
passed_as before f f' g g' x y n m e e' a =
    record {
      ready = λ rest goal r. a.ready rest goal (subst (λ d. IsReadyFor before d x goal) (sym (e rest)) r);
      derives = λ rest more goal r d.
          subst (λ w. IsDerivedFrom before w x goal (g' more)) (e rest)
          (subst (IsDerivedFrom before (f rest) x goal) (e' more) (a.derives rest more goal (subst (λ w. IsReadyFor before w x goal) (sym (e rest)) r) d));
      stops = λ rest goal s r h.
          subst (λ w. StopsWithin before w x goal n s) (e rest) (a.stops rest goal s (subst (λ w. IsReadyFor before w x goal) (sym (e rest)) r) h);
      reaches = λ rest goal v i names r h.
          subst (λ w. ReachesWithin before w x goal n v i names) (e rest) (a.reaches rest goal v i names (subst (λ w. IsReadyFor before w x goal) (sym (e rest)) r) h);
      number = λ rest. ap (λ w. n + size w) (sym (e rest)) ∙ a.number rest;
      kept = a.kept;
    }

-- ---- a step that has no block inside

pub first_is : (p : PlacedStep → Bool) (x : PlacedStep) (xs all : List PlacedStep) → all ≡ x ∷ xs → list_all p all ≡ true → p x ≡ true
first_is p x xs all e h = and_left (p x) (list_all p xs) (subst (λ ys. list_all p ys ≡ true) e h)

pub rest_are : (p : PlacedStep → Bool) (x : PlacedStep) (xs all : List PlacedStep) → all ≡ x ∷ xs → list_all p all ≡ true → list_all p xs ≡ true
rest_are p x xs all e h = and_right (p x) (list_all p xs) (subst (λ ys. list_all p ys ≡ true) e h)

more_certified : (before : List StatementView) (x : PlacedStep) (xs all : List PlacedStep) → all ≡ x ∷ xs → is_certified before x ≡ true → list_all (is_certified before) xs ≡ true → list_all (is_certified before) all ≡ true
more_certified before x xs all e h k = subst (λ ys. list_all (is_certified before) ys ≡ true) (sym e) (and_from (is_certified before x) (list_all (is_certified before) xs) h k)

-- a step that is ready has its form, whatever its blanks are filled with
pub fits_here_first : (before : List StatementView) (d f : Script) (x : StateBefore) (goal : Goal) (xs : List PlacedStep) → steps_from_basis before d f x.context goal ≡ step_from_basis d f x.context goal ∷ xs → IsReadyFor before d x goal →
    fits_here before (step_from_basis d f x.context goal) ≡ true
fits_here_first before d f x goal xs e r =
    first_is (fits_here before) (step_from_basis d f x.context goal) xs (steps_from_basis before d f x.context goal) e
    (tests_again before (fits_here before) (fits_here_is_blind before) d f d x.context.scope x.context.facts x.context.facts goal ∙ r.forms)

-- what is found after a licensed step
licensed_reaches : (before : List StatementView) (step derived : Step) (x after : StateBefore) (n : ℕ) (rest : Script) (goal : Goal) (a : Arrival) (i : ℕ) (names : Names) → IsLicensedStep before step x derived after →
    IsReadyFor before (step_script step rest) x goal → ReachesWithin before rest after goal (n + 1) a i names → ReachesWithin before (step_script step rest) x goal n a i names
licensed_reaches before step derived x after n rest goal a i names j r h =
    let e = step_script step rest in
    let f = step_script derived h.filled in
    let y = step_from_basis e f x.context goal in
    let ys = steps_from_basis before rest h.filled after.context goal in
    let form = fits_here_first before e f x goal ys (j.next rest h.filled goal) r in
    record {
      filled = f;
      reached =
          subst (λ xs. IsReachedIn before xs (names_of_steps before x.names e) n a i names) (sym (j.next rest h.filled goal))
          (subst (λ ns. IsReachedIn before (y ∷ ys) ns n a i names) (sym (j.named rest))
          (reached_after before y ys x.names (names_of_steps before after.names rest) n a i names (j.licensed rest h.filled goal form) h.reached));
    }

pub passed_of_licensed : (before : List StatementView) (step derived : Step) (x after : StateBefore) (n : ℕ) → ((rest : Script) → size (step_script step rest) ≡ 1 + size rest) → IsLicensedStep before step x derived after →
    IsPassed before (step_script step) x n (step_script derived) after (n + 1)
passed_of_licensed before step derived x after n one j =
    record {
      ready = λ rest goal r.
          let d = step_script step rest in
          let f = step_script derived rest in
          let y = step_from_basis d f x.context goal in
          let ys = steps_from_basis before rest rest after.context goal in
          let all = steps_from_basis before d f x.context goal in
          let s = x.context.scope in
          let facts = x.context.facts in
          record {
            forms = rest_are (fits_here before) y ys all (j.next rest rest goal) (tests_again before (fits_here before) (fits_here_is_blind before) d f d s facts facts goal ∙ r.forms);
            lits = λ w.
                let g = step_script derived w in
                let form = fits_here_first before d g x goal (steps_from_basis before rest w after.context goal) (j.next rest w goal) r in
                ((subst (LitsFit before) (j.next rest w goal) (r.lits g)).1 (j.licensed rest w goal form).fits).1;
            scopes = rest_are (λ z. is_small z.scope) y ys all (j.next rest rest goal) (tests_again before (λ z. is_small z.scope) scope_is_blind d f d s facts facts goal ∙ r.scopes);
            statements = r.statements;
          };
      derives = λ rest more goal r d.
          let e = step_script step rest in
          let f = step_script derived more in
          let form = fits_here_first before e f x goal (steps_from_basis before rest more after.context goal) (j.next rest more goal) r in
          record {
            licensed = subst (AllLicensed before) (sym (j.next rest more goal)) (j.licensed rest more goal form, d.licensed);
            certified = more_certified before (step_from_basis f f x.context goal) (steps_from_basis before more more after.context goal) (steps_from_basis before f f x.context goal) (j.derived_next more goal) (j.certified rest more goal form) d.certified;
            erased = j.erased rest more d.erased;
            version = j.version more d.version;
          };
      stops = λ rest goal s r h.
          stops_by before rest (step_script step rest) after x goal goal (n + 1) n s (λ a i names k. licensed_reaches before step derived x after n rest goal a i names j r k) h;
      reaches = λ rest goal a i names r h. licensed_reaches before step derived x after n rest goal a i names j r h;
      number = λ rest. let e = one rest in omega (arith, e);
      kept = j.kept;
    }

-- ---- how many steps a step has

-- it is longer with a step before it
size_more : (step : Step) (rest : Script) → size rest < size (step_script step rest)
unfolding step_script size
size_more (steps.Cite by) rest = omega arith
size_more (steps.Hence lit cert) rest = omega arith
size_more (steps.Make construction names certs) rest = omega arith
size_more (steps.Apply theorem args names certs) rest = omega arith
size_more (steps.Claim' shown p0 n0 row0 close0) rest = omega arith
size_more (steps.Superposed' superposition names shown certs p0 n0 row0 close0) rest = omega arith

-- ---- what a step that stops is answered as

pub lines_begin : (before : List StatementView) (here f : Script) (s : Scope) (facts : List Lit) (goal : Goal) → (xs : List PlacedStep) × (placed_steps before here f s facts goal ≡ placed_step here f s facts goal ∷ xs)
unfolding placed_steps
lines_begin before (Cite by rest) f s facts goal = (_, refl)
lines_begin before (Hence lit cert rest) f s facts goal = (_, refl)
lines_begin before (Make construction names certs rest) f s facts goal = (_, refl)
lines_begin before (Apply theorem args names certs rest) f s facts goal = (_, refl)
lines_begin before (Claim shown inner rest) f s facts goal = (_, refl)
lines_begin before (Superposed superposition names shown certs inner rest) f s facts goal = (_, refl)
lines_begin before (Qed objects certs) f s facts goal = (_, refl)
lines_begin before (Contradiction against) f s facts goal = (_, refl)
lines_begin before (Cases lit first second) f s facts goal = (_, refl)

names_begin : (before : List StatementView) (ns : Names) (here : Script) → (ms : List Names) × (names_of_steps before ns here ≡ ns ∷ ms)
unfolding names_of_steps
names_begin before ns (Cite by rest) = (_, refl)
names_begin before ns (Hence lit cert rest) = (_, refl)
names_begin before ns (Make construction new certs rest) = (_, refl)
names_begin before ns (Apply theorem args new certs rest) = (_, refl)
names_begin before ns (Claim shown inner rest) = (_, refl)
names_begin before ns (Superposed superposition names shown certs inner rest) = (_, refl)
names_begin before ns (Qed objects certs) = (_, refl)
names_begin before ns (Contradiction against) = (_, refl)
names_begin before ns (Cases lit first second) = (_, refl)

-- licensing stops at the first step of a script
pub stops_first : (before : List StatementView) (here : Script) (x : StateBefore) (goal : Goal) (n : ℕ) (h : StopReason) (s : Stop) → StepStopsAt before (step_from_basis here here x.context goal) h → IsStopOrNoMemory h n x.names s →
    StopsWithin before here x goal n s
stops_first before here x goal n h s k e =
    let a = lines_begin before here here x.context.scope x.context.facts goal in
    let b = names_begin before x.names here in
    let y = step_from_basis here here x.context goal in
    record {
      filled = here;
      stops =
          subst (λ xs. StopsInList before xs (names_of_steps before x.names here) n s) (sym a.1)
          (subst (λ ns. StopsInList before (y ∷ a.0) ns n s) (sym b.1) (stop_first before y a.0 x.names b.0 n h s k e));
    }

-- before the first step of a script this holds
pub reaches_first : (before : List StatementView) (here : Script) (x : StateBefore) (goal : Goal) (n : ℕ) → ReachesStep before here x goal n n x
reaches_first before here x goal n =
    let a = lines_begin before here here x.context.scope x.context.facts goal in
    let b = names_begin before x.names here in
    let y = step_from_basis here here x.context goal in
    let at = Stands x.context.scope x.context.facts in
    record {
      filled = here;
      reached =
          subst (λ xs. IsReachedIn before xs (names_of_steps before x.names here) n at n x.names) (sym a.1)
          (subst (λ ns. IsReachedIn before (y ∷ a.0) ns n at n x.names) (sym b.1) (reached_first before y a.0 x.names b.0 n at (refl, refl)));
    }

-- out of memory stops anywhere
pub stops_for_memory : (before : List StatementView) (here : Script) (x : StateBefore) (goal : Goal) (n : ℕ) → StopsWithin before here x goal n stop.NoMemory
stops_for_memory before here x goal n = record { filled = here; stops = tt }

pub stops_as_memory : (before : List StatementView) (here : Script) (x : StateBefore) (goal : Goal) (n : ℕ) {A : Type 0} (r : Result A Stop) → IfErr r (λ s. s ≡ stop.NoMemory) → IfErr r (StopsWithin before here x goal n)
stops_as_memory before here x goal n (Ok a) e = tt
stops_as_memory before here x goal n (Err s) e = subst (StopsWithin before here x goal n) (sym e) (stops_for_memory before here x goal n)

-- the same, where the names alone are given as those from before
pub same_names : (h : StopReason) (n : ℕ) (x after : StateBefore) (s : Stop) → UnlessNoMemory (after.names ≡ x.names) h → IsStopOrNoMemory h n after.names s → IsStopOrNoMemory h n x.names s
same_names (stop_reason.Lacks w v) n x after s k e = subst (λ ns. IsStopOrNoMemory (stop_reason.Lacks w v) n ns s) k e
same_names (stop_reason.TooWide w v) n x after s k e = subst (λ ns. IsStopOrNoMemory (stop_reason.TooWide w v) n ns s) k e
same_names stop_reason.NoMemory n x after s k e = no_names s e
  where
    no_names : (s : Stop) → IsStopOrNoMemory stop_reason.NoMemory n after.names s → IsStopOrNoMemory stop_reason.NoMemory n x.names s
    no_names (stop.Unlicensed a b c d) e = e
    no_names (stop.TooWide a b c d) e = e
    no_names stop.NoMemory e = e

-- after a stop that is not out of memory the names are those from before
pub names_kept : (h : StopReason) (n : ℕ) (x after : StateBefore) (s : Stop) → UnlessNoMemory (after ≡ x) h → IsStopOrNoMemory h n after.names s → IsStopOrNoMemory h n x.names s
names_kept (stop_reason.Lacks w v) n x after s k e = subst (λ y. IsStopOrNoMemory (stop_reason.Lacks w v) n y.names s) k e
names_kept (stop_reason.TooWide w v) n x after s k e = subst (λ y. IsStopOrNoMemory (stop_reason.TooWide w v) n y.names s) k e
names_kept stop_reason.NoMemory n x after (stop.Unlicensed a b c d) k e = absurd (not_that a b c d e)
  where
    not_that : (a : _) (b : _) (c : _) (d : _) → stop.Unlicensed a b c d ≡ stop.NoMemory → ⊥
    not_that a b c d e = cc
names_kept stop_reason.NoMemory n x after (stop.TooWide a b c d) k e = absurd (not_that a b c d e)
  where
    not_that : (a : _) (b : _) (c : _) (d : _) → stop.TooWide a b c d ≡ stop.NoMemory → ⊥
    not_that a b c d e = cc
names_kept stop_reason.NoMemory n x after stop.NoMemory k e = tt

-- the answer on a step that has no block inside
pub numbered_passed : (before : List StatementView) (step : Step) (x after : StateBefore) (n m : ℕ) (answered : Result Step StopReason) (r : Result Step Stop) → ((rest : Script) → size (step_script step rest) ≡ 1 + size rest) →
    IfOk answered (λ d. IsLicensedStep before step x d after) → IfOk r (λ d. answered ≡ Ok d) → OnOk r (m ≡ n + 1) →
    IfOk r (λ d. IsPassed before (step_script step) x n (step_script d) after m)
numbered_passed before step x after n m answered (Err s) one j e f = tt
numbered_passed before step x after n m answered (Ok d) one j e f =
    subst (λ k. IsPassed before (step_script step) x n (step_script d) after k) (sym f)
    (passed_of_licensed before step d x after n one (subst (λ q. IfOk q (λ d. IsLicensedStep before step x d after)) e j))

pub numbered_stops : (before : List StatementView) (step : Step) (x after : StateBefore) (n : ℕ) (answered : Result Step StopReason) (r : Result Step Stop) → IfErr answered (IsStopOfStep before step x) →
    IfErr answered (UnlessNoMemory (after ≡ x)) → IfErr r (IsStopOfAnswer answered n after.names) → IfErr r (StopsInStep before step x n)
numbered_stops before step x after n answered (Ok p) k m e = tt
numbered_stops before step x after n (Ok d) (Err (stop.Unlicensed a b c f)) k m e = absurd e
numbered_stops before step x after n (Ok d) (Err (stop.TooWide a b c f)) k m e = absurd e
numbered_stops before step x after n (Ok d) (Err stop.NoMemory) k m e = λ rest goal r. (stops_for_memory before (step_script step rest) x goal n, tt)
numbered_stops before step x after n (Err h) (Err s) k m e =
    λ rest goal r. (
      stops_first before (step_script step rest) x goal n h s (k rest (step_script step rest) goal) (names_kept h n x after s m e),
      stop_before h n (n + size (step_script step rest) - size rest) after.names s (let more = size_more step rest in omega (arith, more)) e,
    )

-- out of memory stops any step
pub step_stops_as_memory : (before : List StatementView) (step : Step) (x : StateBefore) (n : ℕ) {A : Type 0} (r : Result A Stop) → IfErr r (λ s. s ≡ stop.NoMemory) → IfErr r (StopsInStep before step x n)
step_stops_as_memory before step x n (Ok a) e = tt
step_stops_as_memory before step x n (Err s) e = subst (StopsInStep before step x n) (sym e) (λ rest goal r. (stops_for_memory before (step_script step rest) x goal n, tt))

-- and of a close that has no block inside
pub numbered_closed : (before : List StatementView) (close : Close) (x : StateBefore) (goal : Goal) (answered : Result Close StopReason) (r : Result Close Stop) → IfOk answered (λ d. IsLicensedClose before close x.context goal d) →
    IfOk r (λ d. answered ≡ Ok d) → IfOk r (λ d. IsDerivedFrom before (close_script close) x goal (close_script d))
numbered_closed before close x goal answered (Err s) j e = tt
numbered_closed before close x goal answered (Ok p) j e =
    let c = subst (λ q. IfOk q (λ d. IsLicensedClose before close x.context goal d)) e j in
    record { licensed = c.licensed; certified = c.certified; erased = c.erased; version = c.version }

pub numbered_close_stops : (before : List StatementView) (close : Close) (x : StateBefore) (goal : Goal) (n : ℕ) (answered : Result Close StopReason) (r : Result Close Stop) → IfErr answered (IsStopOfClose before close x.context goal) →
    IfErr r (IsStopOfAnswer answered n x.names) → IfErr r (StopsWithin before (close_script close) x goal n)
numbered_close_stops before close x goal n answered (Ok p) k e = tt
numbered_close_stops before close x goal n (Ok d) (Err (stop.Unlicensed a b c f)) k e = absurd e
numbered_close_stops before close x goal n (Ok d) (Err (stop.TooWide a b c f)) k e = absurd e
numbered_close_stops before close x goal n (Ok d) (Err stop.NoMemory) k e = stops_for_memory before (close_script close) x goal n
numbered_close_stops before close x goal n (Err h) (Err s) k e = stops_first before (close_script close) x goal n h s (k (close_script close)) e
