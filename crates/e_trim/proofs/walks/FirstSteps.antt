-- The first of several steps, as the code takes it off.
use Rattle.std.proofs.Common.{◌≡◌, ◌+◌, ◌-◌, ◌<◌, ◌^◌, List, [], ◌∷◌, ◌++◌, length, take, drop, get_or, sym, ap, ◌∙◌, subst, arith, Bool, true, false, Result, Ok, Err, IfOk, OnOk}
use Rattle.std.specs.List.{list_all}
use Rattle.std.proofs.lemmas.List.{take_rest}
use Rattle.e_literal.specs.declared.object.Obj.{Obj}
use Rattle.e_literal.specs.declared.object.Scope.{Scope}
use Rattle.e_literal.specs.declared.object.Sort.{Sort}
use Rattle.e_literal.specs.Scopes.{with_sorts, next_objects}
use Rattle.e_literal.specs.Use.{StatementView}
use Rattle.e_deriv.specs.declared.block.Close.{Close}
use Rattle.e_deriv.specs.declared.block.Step.{Step}
use Rattle.e_deriv.specs.Script.{Script, step_script, steps_script}
use Rattle.e_deriv.specs.Fitting.{is_small, is_small_statement}
use Rattle.e_trim.specs.Trimmed.{makes_at}
use Rattle.e_trim.specs.inner.StepState.{FewKept}
use Rattle.e_trim.specs.inner.Building.{AreSmall, IsSmallStep, TakesFlag, IsBuilt, StepIsBuilt}
use Rattle.e_trim.proofs.kept_scripts.BuiltSteps.{built_dropped, built_kept, small_rest, small_here, few_makes, room, few_wide, few_more}

pub ok_map : {A E : Type 0} (p q : A → Type 0) (r : Result A E) → ((a : A) → p a → q a) → IfOk r p → IfOk r q
ok_map p q (Ok a) f h = f a h
ok_map p q (Err e) f h = tt

pub on_ok : {A E : Type 0} {P : Type 0} (r : Result A E) → P → OnOk r P
on_ok (Ok a) h = h
on_ok (Err e) h = tt

-- those after the first
abbrev pub later_steps : List Step → List Step
later_steps steps = take (length steps - 1) (drop 1 steps)

pub first_of : (steps : List Step) (head : Step) → 0 < length steps → head ≡ get_or steps 0 head → head ∷ later_steps steps ≡ steps
first_of [] head h is = absurd (omega (arith, h))
first_of (x ∷ xs) head h is = ap (λ y. y ∷ later_steps (x ∷ xs)) is ∙ ap (λ ys. x ∷ ys) (take_rest (x ∷ xs) 1)

-- the script is that of the first step, with the others after it
pub whole_is : (steps : List Step) (head : Step) (close : Script) → 0 < length steps → head ≡ get_or steps 0 head → steps_script steps close ≡ step_script head (steps_script (later_steps steps) close)
whole_is steps head close h is = ap (λ xs. steps_script xs close) (sym (first_of steps head h is))

-- ---- what is built

pub record Begun (before : List StatementView) (steps : List Step) (head : Step) (sorts : List Sort) (s : Scope) (close : Script) : Type 0 where
  pub some : 0 < length steps
  pub first : head ≡ get_or steps 0 head
  pub makes : (rest : Script) → sorts ≡ makes_at before (step_script head rest)
  pub statements : list_all is_small_statement before ≡ true
  pub scopes : AreSmall before (steps_script steps close) s

begun_scopes : (before : List StatementView) (steps : List Step) (head : Step) (sorts : List Sort) (s : Scope) (close : Script) → Begun before steps head sorts s close → AreSmall before (step_script head (steps_script (later_steps steps) close)) s
begun_scopes before steps head sorts s close b = subst (λ d. AreSmall before d s) (whole_is steps head close b.some b.first) b.scopes

pub begun_small : (before : List StatementView) (steps : List Step) (head : Step) (sorts : List Sort) (s : Scope) (close : Script) → Begun before steps head sorts s close → is_small s ≡ true
begun_small before steps head sorts s close b = small_here before head (steps_script (later_steps steps) close) s (begun_scopes before steps head sorts s close b)

pub begun_few : (before : List StatementView) (steps : List Step) (head : Step) (sorts : List Sort) (s : Scope) (close : Script) → Begun before steps head sorts s close → length sorts < 2 ^ 15
begun_few before steps head sorts s close b =
    let e = ap length (b.makes close) in let n = few_makes before head close b.statements in omega (arith, e, n)

pub begun_room : (before : List StatementView) (steps : List Step) (head : Step) (sorts : List Sort) (s : Scope) (close : Script) → Begun before steps head sorts s close
    → (s.points + length sorts < 2 ^ 16) × (s.lines + length sorts < 2 ^ 16) × (s.circles + length sorts < 2 ^ 16)
begun_room before steps head sorts s close b = room s (length sorts) (begun_small before steps head sorts s close b) (begun_few before steps head sorts s close b)

pub begun_step : (before : List StatementView) (steps : List Step) (head : Step) (sorts : List Sort) (s : Scope) (close : Script) → Begun before steps head sorts s close → IsSmallStep before head s
begun_step before steps head sorts s close b = record { rest = steps_script (later_steps steps) close; small = begun_scopes before steps head sorts s close b }

-- the scopes after the first step
pub begun_rest : (before : List StatementView) (steps : List Step) (head : Step) (sorts : List Sort) (s after : Scope) (close : Script) → Begun before steps head sorts s close → after ≡ with_sorts s sorts → AreSmall before (steps_script (later_steps steps) close) after
begun_rest before steps head sorts s after close b e =
    let rest = steps_script (later_steps steps) close in
    subst (AreSmall before rest) (ap (with_sorts s) (sym (b.makes rest)) ∙ sym e) (small_rest before head rest s (begun_scopes before steps head sorts s close b))

pub wide_few : (s after : Scope) (sorts : List Sort) (kept : List Obj) → after ≡ with_sorts s sorts → FewKept s kept → FewKept after kept
wide_few s after sorts kept e k = subst (λ x. FewKept x kept) (sym e) (few_wide s sorts kept k)

pub more_few : (s after : Scope) (sorts : List Sort) (kept more : List Obj) → after ≡ with_sorts s sorts → more ≡ kept ++ next_objects s sorts → FewKept s kept → FewKept after more
more_few s after sorts kept more e f k = subst (FewKept after) (sym f) (subst (λ x. FewKept x (kept ++ next_objects s sorts)) (sym e) (few_more s sorts kept k))

pub dropped_whole : (before : List StatementView) (kept : List Obj) (steps : List Step) (head : Step) (sorts : List Sort) (s after : Scope) (close : Script) (pile popped left : List Bool) (flagged : Bool) (done now : List Step) (new : Close)
    → Begun before steps head sorts s close → after ≡ with_sorts s sorts → TakesFlag pile popped flagged → flagged ≡ false → IsBuilt before kept (steps_script (later_steps steps) close) after popped left done now new
    → IsBuilt before kept (steps_script steps close) s pile left done now new
dropped_whole before kept steps head sorts s after close pile popped left flagged done now new b e takes off built =
    let rest = steps_script (later_steps steps) close in
    let at = subst (λ x. IsBuilt before kept rest x popped left done now new) (e ∙ ap (with_sorts s) (b.makes rest)) built in
    subst (λ d. IsBuilt before kept d s pile left done now new) (sym (whole_is steps head close b.some b.first)) (built_dropped before kept head rest s pile popped left flagged done now new takes off at)

pub kept_whole : (before : List StatementView) (kept more : List Obj) (steps : List Step) (head : Step) (sorts : List Sort) (s after : Scope) (close : Script) (pile popped over left : List Bool) (flagged : Bool) (done put now : List Step) (step : Step) (new : Close)
    → Begun before steps head sorts s close → after ≡ with_sorts s sorts → more ≡ kept ++ next_objects s sorts → put ≡ done ++ step ∷ [] → TakesFlag pile popped flagged → flagged ≡ true → StepIsBuilt before kept head s popped over step
    → IsBuilt before more (steps_script (later_steps steps) close) after over left put now new
    → IsBuilt before kept (steps_script steps close) s pile left done now new
kept_whole before kept more steps head sorts s after close pile popped over left flagged done put now step new b e f g takes on own built =
    let rest = steps_script (later_steps steps) close in
    let same = b.makes rest in
    let at = subst (λ x. IsBuilt before more rest x over left put now new) (e ∙ ap (with_sorts s) same) built in
    let kept_at = subst (λ ks. IsBuilt before ks rest (with_sorts s (makes_at before (step_script head rest))) over left put now new) (f ∙ ap (λ xs. kept ++ next_objects s xs) same) at in
    let put_at = subst (λ xs. IsBuilt before (kept ++ next_objects s (makes_at before (step_script head rest))) rest (with_sorts s (makes_at before (step_script head rest))) over left xs now new) g kept_at in
    subst (λ d. IsBuilt before kept d s pile left done now new) (sym (whole_is steps head close b.some b.first)) (built_kept before kept head rest s pile popped over left flagged done now step new takes on own put_at)
