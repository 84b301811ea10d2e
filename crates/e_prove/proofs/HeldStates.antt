-- Blocks inside: what is held there says nothing of the steps, and what was held is there again.
use Rattle.std.proofs.Common.{◌≡◌, ℕ, ◌<◌, List, [], ◌∷◌, ◌++◌, length, refl, sym, ap, ◌∙◌, subst, true, Result, Ok, Err, arith}
use Rattle.std.specs.Prelude.{IfErr, OnOk}
use Rattle.std.proofs.lemmas.List.{length-append, same_from_push}
use Rattle.e_literal.specs.declared.literal.Lit.{Lit}
use Rattle.e_literal.specs.Facts.{with_facts}
use Rattle.e_literal.specs.Use.{StatementView}
use Rattle.e_clause.specs.LimitedFacts.{are_limited_facts}
use Rattle.e_deriv.specs.declared.names.Names.{Names}
use Rattle.e_deriv.specs.declared.stop.Stop.{Stop}
use Rattle.e_deriv.specs.declared.stop.Wanted.TheVariants.{Literal, Match, Contradiction}
use Rattle.e_deriv.specs.Script.{Script}
use Rattle.e_deriv.specs.Goal.{Goal}
use Rattle.e_licence.specs.Contexts.{State, Basis, state_of}
use Rattle.e_prove.specs.declared.stop_reason.StopReason.{StopReason}
use Rattle.e_prove.specs.declared.stop_reason.StopReason.TheVariants as stop_reason
use Rattle.e_prove.specs.declared.state_before.StateBefore.{StateBefore}
use Rattle.e_prove.specs.inner.NextStates.{with_held, entered_at, IsOutsideAgain, IsOutsideWith, CanJoinLast, after_block}
use Rattle.e_prove.specs.inner.StopsOfSteps.{StepStopsAmong, UnlessNoMemory}
use Rattle.e_prove.specs.inner.PassedSteps.{IsReadyFor, IsDerivedFrom, StopsWithin, KeepsHeld}

-- ---- steps do not look at what is held

pub ready_inside : (before : List StatementView) (d : Script) (x y : StateBefore) (goal : Goal) (hs : List State) → y ≡ with_held hs x → IsReadyFor before d x goal → IsReadyFor before d y goal
ready_inside before d x y goal hs is r =
    let inside : IsReadyFor before d (with_held hs x) goal = record { forms = r.forms; lits = r.lits; scopes = r.scopes; statements = r.statements } in
    subst (λ z. IsReadyFor before d z goal) (sym is) inside

pub derived_outside : (before : List StatementView) (d : Script) (x y : StateBefore) (goal : Goal) (derived : Script) (hs : List State) → y ≡ with_held hs x → IsDerivedFrom before d y goal derived → IsDerivedFrom before d x goal derived
derived_outside before d x y goal derived hs is h =
    let inside : IsDerivedFrom before d (with_held hs x) goal derived = subst (λ z. IsDerivedFrom before d z goal derived) is h in
    record { licensed = inside.licensed; certified = inside.certified; erased = inside.erased; version = inside.version }

pub stops_outside : (before : List StatementView) (d : Script) (x y : StateBefore) (goal : Goal) (n : ℕ) (s : Stop) (hs : List State) → y ≡ with_held hs x → StopsWithin before d y goal n s → StopsWithin before d x goal n s
stops_outside before d x y goal n s hs is h =
    let inside : StopsWithin before d (with_held hs x) goal n s = subst (λ z. StopsWithin before d z goal n s) is h in
    record { filled = inside.filled; stops = inside.stops }

stops_so : (hs : List State) (x : StateBefore) (ls : List Lit) (h : StopReason) → StepStopsAmong (with_held hs x).context ls h → StepStopsAmong x.context ls h
stops_so hs x ls (stop_reason.Lacks (Literal l) values) k = k
stops_so hs x ls (stop_reason.Lacks Match values) k = k
stops_so hs x ls (stop_reason.Lacks Contradiction values) k = k
stops_so hs x ls (stop_reason.TooWide (Literal l) width) k = k
stops_so hs x ls (stop_reason.TooWide Match width) k = k
stops_so hs x ls (stop_reason.TooWide Contradiction width) k = k
stops_so hs x ls stop_reason.NoMemory k = k

pub step_stops_outside : (hs : List State) (x y : StateBefore) (ls : List Lit) (h : StopReason) → y ≡ with_held hs x → StepStopsAmong y.context ls h → StepStopsAmong x.context ls h
step_stops_outside hs x y ls h is k = stops_so hs x ls h (subst (λ z. StepStopsAmong z.context ls h) is k)

-- the names are those from before, where what is held is all that changed
pub names_outside : (hs : List State) (x y after : StateBefore) (h : StopReason) → y ≡ with_held hs x → UnlessNoMemory (after ≡ y) h → UnlessNoMemory (after.names ≡ x.names) h
names_outside hs x y after (stop_reason.Lacks w v) is k = ap (λ z. z.names) (k ∙ is)
names_outside hs x y after (stop_reason.TooWide w v) is k = ap (λ z. z.names) (k ∙ is)
names_outside hs x y after stop_reason.NoMemory is k = tt

-- what holds of all stops holds of one that is not out of memory
pub unless : {A : Type 0} (p : Type 0) (r : Result A StopReason) → p → IfErr r (UnlessNoMemory p)
unless p (Ok a) k = tt
unless p (Err (stop_reason.Lacks w v)) k = k
unless p (Err (stop_reason.TooWide w v)) k = k
unless p (Err stop_reason.NoMemory) k = tt

-- ---- the last of what is held

pub last_of : (ss : List State) → 0 < length ss → (before : List State) × (last : State) × (ss ≡ before ++ last ∷ [])
last_of [] h = absurd (omega (arith, h))
last_of (s ∷ []) h = ([], s, refl)
last_of (s ∷ t ∷ ss) h = let p = last_of (t ∷ ss) (omega arith) in (s ∷ p.0, p.1, ap (λ xs. s ∷ xs) p.2)

pub left_so : (names : Names) (x : StateBefore) (k : Basis) → ((before : List State) (last : State) → x.context.held ≡ before ++ last ∷ [] → k ≡ record { scope = last.scope; facts = last.facts; held = before }) →
    IsOutsideAgain names x (record { context = k; names = names })
left_so names x k h before last e = ap (λ (b : Basis). record { context = b; names = names }) (h before last e)

-- after it literals may join
pub can_join : (names : Names) (x y : StateBefore) (shown : List Lit) → 0 < length x.context.held → IsOutsideAgain names x y → CanJoinLast shown x → are_limited_facts y.context.scope (with_facts y.context.facts shown) ≡ true
can_join names x y shown some left can =
    let p = last_of x.context.held some in
    subst (λ z. are_limited_facts z.context.scope (with_facts z.context.facts shown) ≡ true) (sym (left p.0 p.1 p.2)) (can p.0 p.1 p.2)

pub left_joins : {E : Type 0} (r : Result (Unit {0}) E) (names : Names) (x y : StateBefore) (k : Basis) (shown : List Lit) → IsOutsideAgain names x y → OnOk r (k ≡ record y.context { facts = with_facts y.context.facts shown }) →
    OnOk r (IsOutsideWith names shown x (record y { context = k }))
left_joins (Err e) names x y k shown left is = tt
left_joins (Ok u) names x y k shown left is = λ before last e.
    ap (λ (b : Basis). record y { context = b }) is ∙ ap (λ (z : StateBefore). record z { context = record z.context { facts = with_facts z.context.facts shown } }) (left before last e)

-- ---- a block that is left

pub kept_inside : (x y z : StateBefore) → y ≡ entered_at x → KeepsHeld y z → KeepsHeld (entered_at x) z
kept_inside x y z is k = k ∙ ap (λ w. w.context.held) is

pub some_held : (x z : StateBefore) → KeepsHeld (entered_at x) z → 0 < length z.context.held
some_held x z k =
    let many = ap length k in
    let long = length-append x.context.held (state_of x.context ∷ []) in
    omega (arith, many, long)

pub left_is : (names : Names) (x z w : StateBefore) → names ≡ x.names → KeepsHeld (entered_at x) z → IsOutsideAgain names z w → w ≡ x
left_is names x z w same k left = left x.context.held (state_of x.context) k ∙ ap (λ ns. record { context = x.context; names = ns }) same

pub after_is : (names : Names) (x z w : StateBefore) (shown seen : List Lit) → names ≡ x.names → KeepsHeld (entered_at x) z → seen ≡ shown → IsOutsideWith names seen z w → w ≡ after_block shown x
after_is names x z w shown seen same k are left =
    left x.context.held (state_of x.context) k ∙ ap (λ ns. record (after_block seen x) { names = ns }) same ∙ ap (λ ls. after_block ls x) are

pub good_after : (x z : StateBefore) (shown seen : List Lit) → KeepsHeld (entered_at x) z → seen ≡ shown → are_limited_facts x.context.scope (with_facts x.context.facts shown) ≡ true → CanJoinLast seen z
good_after x z shown seen k are h before last e =
    let same = same_from_push x.context.held before (state_of x.context) last (sym k ∙ e) in
    subst (λ (s : State). are_limited_facts s.scope (with_facts s.facts seen) ≡ true) same.1
    (subst (λ ls. are_limited_facts x.context.scope (with_facts x.context.facts ls) ≡ true) (sym are) h)
