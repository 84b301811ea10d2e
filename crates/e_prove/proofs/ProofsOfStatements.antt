-- Licensing the proof of a statement.
use Rattle.std.proofs.Common.{◌≡◌, ℕ, ◌+◌, ◌^◌, ◌<◌, List, [], length, ◌≤◌, refl, sym, ap, ◌∙◌, subst, true, arith}
use Rattle.std.specs.Prelude.{slice_get}
use Rattle.e_literal.specs.declared.literal.Lit.{Lit}
use Rattle.e_literal.specs.declared.object.Scope.{Scope}
use Rattle.e_literal.specs.declared.object.Sort.{Sort}
use Rattle.e_literal.specs.declared.object.Obj.{Obj}
use Rattle.e_literal.specs.Scopes.{nothing, next_objects}
use Rattle.e_literal.specs.Use.{StatementView, scope_of}
use Rattle.e_literal.proofs.GrownScopes.{total_grown, grown_bounds}
use Rattle.e_clause.specs.LimitedFacts.{are_limited_facts}
use Rattle.e_deriv.specs.declared.names.Names.{Names}
use Rattle.e_deriv.specs.declared.stop.Stop.{Stop}
use Rattle.e_deriv.specs.declared.stop.Stop.TheVariants as stop
use Rattle.e_deriv.specs.Script.{Script}
use Rattle.e_deriv.specs.Goal.{Goal, goal_of_statement, facts_of_statement}
use Rattle.e_deriv.specs.Naming.{names_of_steps, declared_names}
use Rattle.e_deriv.specs.Certified.{Certified}
use Rattle.e_deriv.specs.Fitting.{IsFitting}
use Rattle.e_prove.specs.inner.NextStates.{start_with_names}
use Rattle.e_prove.specs.declared.state_before.StateBefore.{StateBefore}
use Rattle.e_prove.specs.inner.PassedSteps.{IsReadyFor, IsDerivedFrom, KeepsHeld, ReachesStep, StopsWithin}
use Rattle.e_prove.specs.StatesBefore.{IsStateBeforeStep}
use Rattle.e_prove.specs.Stops.{StopIs, HasNames}
use Rattle.e_prove.proofs.ReadySteps.{first_facts}

-- ---- how many objects there are

-- the declared and the made objects are at most 3,000
few_objects : (before : List StatementView) (t : StatementView) (script : Script) → IsFitting before t script → length t.declared + length t.made ≤ 3000
few_objects before t script h =
    let declared = total_grown nothing t.declared in
    let all = total_grown (scope_of t) t.made in
    omega (arith, declared, all, h.points, h.lines, h.circles)

pub few_declared : (before : List StatementView) (t : StatementView) (script : Script) → IsFitting before t script → length t.declared < 2 ^ 16
few_declared before t script h = omega (arith, few_objects before t script h)

-- so numbers of 16 bits are enough for the made objects
pub record MadeFit (s : Scope) (n : ℕ) : Type 0 where
  pub points : s.points + n < 2 ^ 16
  pub lines : s.lines + n < 2 ^ 16
  pub circles : s.circles + n < 2 ^ 16

pub made_fit : (before : List StatementView) (t : StatementView) (script : Script) (s : Scope) → s ≡ scope_of t → IsFitting before t script → MadeFit s (length t.made)
made_fit before t script s same h = rw same (fit before t script h)
  where
    fit : (before : List StatementView) (t : StatementView) (script : Script) → IsFitting before t script → MadeFit (scope_of t) (length t.made)
    fit before t script h =
        let few = few_objects before t script h in
        let bounds = grown_bounds nothing t.declared in
        record { points = omega (arith, few, bounds.few_points); lines = omega (arith, few, bounds.few_lines); circles = omega (arith, few, bounds.few_circles) }

-- ---- the start and the stop

pub given_good : (before : List StatementView) (t : StatementView) (script : Script) → IsFitting before t script → are_limited_facts (scope_of t) (facts_of_statement t) ≡ true
given_good before t script h = first_facts before script script (scope_of t) (facts_of_statement t) (goal_of_statement t) (h.lits script)

ready_start : (before : List StatementView) (t : StatementView) (names : Names) (script : Script) → IsFitting before t script → IsReadyFor before script (start_with_names t names) (goal_of_statement t)
ready_start before t names script h = record { forms = h.forms; lits = h.lits; scopes = h.scopes; statements = h.statements }

pub ready_at_start : (before : List StatementView) (t : StatementView) (names : Names) (script : Script) (x : _) (goal : Goal) → x ≡ start_with_names t names → goal ≡ goal_of_statement t → IsFitting before t script → IsReadyFor before script x goal
ready_at_start before t names script x goal is same h = rw (is, same) (ready_start before t names script h)

-- the goal that the code writes
pub goal_is : (t : StatementView) (sorts : List Sort) (s : Scope) (kept made : List Obj) (shown : List Lit) → s ≡ scope_of t → sorts ≡ t.made →
    made ≡ next_objects s sorts → kept ≡ made → shown ≡ t.shown → let goal : Goal = record { made = kept; shown = shown } in goal ≡ goal_of_statement t
goal_is t sorts s kept made shown a b c d e = rw (d, c, a, b, e) refl

names_at : (before : List StatementView) (t : StatementView) (names : Names) (script : Script) (s : Stop) → StopsWithin before script (start_with_names t names) (goal_of_statement t) 1 s → HasNames before t names script s
names_at before t names script (stop.Unlicensed n wanted values seen) k = sym (ap (slice_get (names_of_steps before (declared_names t names) script)) (omega (arith, k.stops.number)) ∙ k.stops.named)
names_at before t names script (stop.TooWide n wanted width seen) k = sym (ap (slice_get (names_of_steps before (declared_names t names) script)) (omega (arith, k.stops.number)) ∙ k.stops.named)
names_at before t names script stop.NoMemory k = tt

pub names_are : (before : List StatementView) (t : StatementView) (names : Names) (script : Script) (x : _) (goal : Goal) (s : Stop) → x ≡ start_with_names t names → goal ≡ goal_of_statement t → StopsWithin before script x goal 1 s → HasNames before t names script s
names_are before t names script x goal s is same k =
    names_at before t names script s (subst (λ y. StopsWithin before script y (goal_of_statement t) 1 s) is (subst (λ g. StopsWithin before script x g 1 s) same k))

stop_at : (before : List StatementView) (t : StatementView) (names : Names) (script : Script) (s : Stop) → StopsWithin before script (start_with_names t names) (goal_of_statement t) 1 s → StopIs before t script s
stop_at before t names script (stop.Unlicensed n wanted values seen) k =
    record {
      step = k.stops.step;
      context = record { filled = k.filled; place = k.stops.place; number = omega (arith, k.stops.number); at = k.stops.at; earlier = k.stops.earlier };
      lacks = k.stops.arrives.0;
      shown = k.stops.arrives.1;
    }
stop_at before t names script (stop.TooWide n wanted width seen) k =
    record {
      step = k.stops.step;
      context = record { filled = k.filled; place = k.stops.place; number = omega (arith, k.stops.number); at = k.stops.at; earlier = k.stops.earlier };
      too_wide = k.stops.arrives;
    }
stop_at before t names script stop.NoMemory k = tt

pub stop_is : (before : List StatementView) (t : StatementView) (names : Names) (script : Script) (x : _) (goal : Goal) (s : Stop) → x ≡ start_with_names t names → goal ≡ goal_of_statement t → StopsWithin before script x goal 1 s → StopIs before t script s
stop_is before t names script x goal s is same k =
    stop_at before t names script s (subst (λ y. StopsWithin before script y (goal_of_statement t) 1 s) is (subst (λ g. StopsWithin before script x g 1 s) same k))

-- ---- the place

place_at : (before : List StatementView) (t : StatementView) (names : Names) (script : Script) (n : ℕ) (y : StateBefore) → ReachesStep before script (start_with_names t names) (goal_of_statement t) 1 n y → y.context.held ≡ [] →
    IsStateBeforeStep before t names script n (record { context = y.context; names = y.names })
place_at before t names script n y k none =
    let r = k.reached in
    record {
      step = r.step;
      context = record { filled = k.filled; place = r.place; number = omega (arith, r.number); at = r.at; earlier = r.earlier };
      scope = sym r.arrives.0;
      facts = sym r.arrives.1;
      held = none;
      named = sym (ap (slice_get (names_of_steps before (declared_names t names) script)) (omega (arith, r.number)) ∙ r.named);
    }

pub place_is : (before : List StatementView) (t : StatementView) (names : Names) (script : Script) (n : ℕ) (x y : StateBefore) (goal : Goal) → x ≡ start_with_names t names → goal ≡ goal_of_statement t → ReachesStep before script x goal 1 n y → KeepsHeld x y →
    IsStateBeforeStep before t names script n (record { context = y.context; names = y.names })
place_is before t names script n x y goal is same k kept =
    place_at before t names script n y (subst (λ z. ReachesStep before script z (goal_of_statement t) 1 n y) is (subst (λ g. ReachesStep before script x g 1 n y) same k))
    (kept ∙ ap (λ (z : StateBefore). z.context.held) is)

-- ---- the derivation

derived_at : (before : List StatementView) (t : StatementView) (names : Names) (script derived : Script) (x : _) (goal : Goal) → x ≡ start_with_names t names → goal ≡ goal_of_statement t → IsDerivedFrom before script x goal derived →
    IsDerivedFrom before script (start_with_names t names) (goal_of_statement t) derived
derived_at before t names script derived x goal is same d =
    subst (λ y. IsDerivedFrom before script y (goal_of_statement t) derived) is (subst (λ g. IsDerivedFrom before script x g derived) same d)

pub is_certified : (before : List StatementView) (t : StatementView) (names : Names) (script derived : Script) (x : _) (goal : Goal) → x ≡ start_with_names t names → goal ≡ goal_of_statement t → IsDerivedFrom before script x goal derived → Certified before t derived
is_certified before t names script derived x goal is same d = (derived_at before t names script derived x goal is same d).certified
