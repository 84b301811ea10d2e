-- What a walk from the close backwards finds at the first of several steps.
use Rattle.std.proofs.Common.{◌≡◌, ◌<◌, ◌≤◌, List, [], ◌∷◌, ◌++◌, length, get_or, sym, ap, ◌∙◌, subst, arith, Bool, true, false, cond}
use Rattle.std.proofs.lemmas.List.{append_assoc}
use Rattle.e_literal.specs.Use.{StatementView}
use Rattle.e_deriv.specs.declared.block.Step.{Step}
use Rattle.e_deriv.specs.Script.{Script, step_script, steps_script}
use Rattle.e_deriv.specs.Goal.{Goal}
use Rattle.e_deriv.specs.Fitting.{is_small}
use Rattle.e_deriv.proofs.Keeping.{all_stay}
use Rattle.e_trim.specs.Looked.{Wants, both, of_step}
use Rattle.e_trim.specs.Trimmed.{is_kept, as_step, wants_with_step, wants}
use Rattle.e_trim.specs.inner.Flags.{flag, flags_of, inside_of, step_flags}
use Rattle.e_trim.specs.inner.StepState.{IsReady, IsReadyToTrim, StepFits, StepAdds, FlagsAdded, StepWants, StepFlags, KeepsFacts, state_after, checkpoint_of, state_at}
use Rattle.e_trim.specs.declared.step_state.StepState.{StepState}
use Rattle.e_trim.specs.declared.step_state.Checkpoint.{Checkpoint}
use Rattle.e_trim.proofs.walks.StepForms.{ready_rest, ready_fits, ready_small, wants_step, flags_step, passed_keeps, keeps_on, keeps_enough, left_back}
use Rattle.e_trim.proofs.walks.FirstSteps.{later_steps, whole_is}

-- the steps are ready, and this is the first of them
pub record Looking (before : List StatementView) (steps : List Step) (head : Step) (x : StepState) (goal : Goal) (close : Script) : Type 0 where
  pub some : 0 < length steps
  pub first : head ≡ get_or steps 0 head
  pub ready : IsReady before (steps_script steps close) x.scope x.facts goal

-- after the first step
abbrev pub IsPast : List StatementView → Step → StepState → StepState → Type 0
IsPast before head x after = (rest : Script) → after ≡ state_after before (step_script head rest) x

at_first : (before : List StatementView) (steps : List Step) (head : Step) (x : StepState) (goal : Goal) (close : Script) → Looking before steps head x goal close → IsReady before (step_script head (steps_script (later_steps steps) close)) x.scope x.facts goal
at_first before steps head x goal close l = subst (λ d. IsReady before d x.scope x.facts goal) (whole_is steps head close l.some l.first) l.ready

pub look_fits : (before : List StatementView) (steps : List Step) (head : Step) (x : StepState) (goal : Goal) (close : Script) → Looking before steps head x goal close → StepFits before head x.scope
look_fits before steps head x goal close l = ready_fits before head (steps_script (later_steps steps) close) x goal (at_first before steps head x goal close l)

pub look_small : (before : List StatementView) (steps : List Step) (head : Step) (x : StepState) (goal : Goal) (close : Script) → Looking before steps head x goal close → is_small x.scope ≡ true
look_small before steps head x goal close l = ready_small before head (steps_script (later_steps steps) close) x goal (at_first before steps head x goal close l)

pub look_step_ready : (before : List StatementView) (steps : List Step) (head : Step) (x : StepState) (goal : Goal) (close : Script) → Looking before steps head x goal close → IsReadyToTrim before head x
look_step_ready before steps head x goal close l = record { rest = steps_script (later_steps steps) close; goal = goal; ready = at_first before steps head x goal close l }

pub look_rest : (before : List StatementView) (steps : List Step) (head : Step) (x after : StepState) (goal : Goal) (close : Script) → Looking before steps head x goal close → IsPast before head x after
    → IsReady before (steps_script (later_steps steps) close) after.scope after.facts goal
look_rest before steps head x after goal close l e =
    let rest = steps_script (later_steps steps) close in
    subst (λ (y : StepState). IsReady before rest y.scope y.facts goal) (sym (e rest)) (ready_rest before head rest x goal (at_first before steps head x goal close l))

-- ---- back before the step

past_keeps : (before : List StatementView) (head : Step) (x after : StepState) → IsPast before head x after → KeepsFacts x after
past_keeps before head x after e =
    let rest = Rattle.e_deriv.specs.Script.Qed [] [] in subst (λ (y : StepState). KeepsFacts x y) (sym (e rest)) (passed_keeps before (step_script head rest) x)

pub look_enough : (before : List StatementView) (head : Step) (x after last : StepState) (outer : Checkpoint) → IsPast before head x after → KeepsFacts after last → outer ≡ checkpoint_of x → outer.facts ≤ length last.facts
look_enough before head x after last outer e k o =
    let n = keeps_enough x last (keeps_on x after last (past_keeps before head x after e) k) in
    let m = ap (λ (y : Checkpoint). y.facts) o in
    omega (arith, n, m)

pub look_back_is : (before : List StatementView) (head : Step) (x after last left : StepState) (outer : Checkpoint) → IsPast before head x after → KeepsFacts after last → outer ≡ checkpoint_of x → left ≡ state_at outer last → left ≡ x
look_back_is before head x after last left outer e k o f = f ∙ ap (λ y. state_at y last) o ∙ left_back x last (keeps_on x after last (past_keeps before head x after e) k)

pub still_keeps : (x left : StepState) → left ≡ x → KeepsFacts x left
still_keeps x left e = subst (λ (y : StepState). KeepsFacts x y) (sym e) (all_stay x.facts)

pub later_keeps : (x left last : StepState) → left ≡ x → KeepsFacts left last → KeepsFacts x last
later_keeps x left last e k = subst (λ (y : StepState). KeepsFacts y last) e k

-- ---- what is wanted from the step on

-- a dropped step adds nothing, a kept one what it wants
pub adds_none : (before : List StatementView) (step : Step) (x : StepState) (w : Wants) (kept : Bool) → ((rest : Script) → kept ≡ is_kept before (step_script step rest) x.scope x.facts w) → kept ≡ false → StepAdds before step x w w
adds_none before step x w kept k off rest goal =
    let here = step_script step rest in
    sym (ap (λ t. cond t (both w (both (of_step before (as_step here x.scope x.facts goal)) (inside_of before here x.scope x.facts))) w) (sym (k rest) ∙ off))

pub adds_own : (before : List StatementView) (step : Step) (x : StepState) (w new : Wants) (kept : Bool) → ((rest : Script) → kept ≡ is_kept before (step_script step rest) x.scope x.facts w) → kept ≡ true → StepWants before step x w new
    → StepAdds before step x w new
adds_own before step x w new kept k on h rest goal =
    let here = step_script step rest in
    h rest goal ∙ sym (ap (λ t. cond t (both w (both (of_step before (as_step here x.scope x.facts goal)) (inside_of before here x.scope x.facts))) w) (sym (k rest) ∙ on))

pub flag_none : (before : List StatementView) (step : Step) (x : StepState) (w : Wants) (kept : Bool) (old new : List Bool) → ((rest : Script) → kept ≡ is_kept before (step_script step rest) x.scope x.facts w) → kept ≡ false → new ≡ old ++ false ∷ []
    → FlagsAdded before step x w old new
flag_none before step x w kept old new k off e rest =
    let here = step_script step rest in e ∙ ap (λ t. old ++ flag t (step_flags before here x.scope x.facts)) (sym (sym (k rest) ∙ off))

pub flag_own : (before : List StatementView) (step : Step) (x : StepState) (w : Wants) (kept : Bool) (old mid new : List Bool) → ((rest : Script) → kept ≡ is_kept before (step_script step rest) x.scope x.facts w) → kept ≡ true → StepFlags before step x old mid
    → new ≡ mid ++ true ∷ [] → FlagsAdded before step x w old new
flag_own before step x w kept old mid new k on h e rest =
    let here = step_script step rest in
    let own = step_flags before here x.scope x.facts in
    e ∙ ap (λ xs. xs ++ true ∷ []) (h rest) ∙ append_assoc old own (true ∷ []) ∙ ap (λ t. old ++ flag t own) (sym (sym (k rest) ∙ on))

pub wanted_whole : (before : List StatementView) (steps : List Step) (head : Step) (x after left : StepState) (goal : Goal) (close : Script) (w new : Wants) → Looking before steps head x goal close → IsPast before head x after → left ≡ x
    → w ≡ wants before (steps_script (later_steps steps) close) after.scope after.facts goal → StepAdds before head left w new → new ≡ wants before (steps_script steps close) x.scope x.facts goal
wanted_whole before steps head x after left goal close w new l e b f h =
    let rest = steps_script (later_steps steps) close in
    let here = step_script head rest in
    let own = f ∙ ap (λ (y : StepState). wants before rest y.scope y.facts goal) (e rest) in
    h rest goal ∙ ap (λ (y : StepState). wants_with_step before here y.scope y.facts goal (inside_of before here y.scope y.facts) w) b
    ∙ ap (wants_with_step before here x.scope x.facts goal (inside_of before here x.scope x.facts)) own
    ∙ sym (ap (λ d. wants before d x.scope x.facts goal) (whole_is steps head close l.some l.first) ∙ wants_step before head rest x goal)

pub flags_whole : (before : List StatementView) (steps : List Step) (head : Step) (x after left : StepState) (goal : Goal) (close : Script) (w : Wants) (under over now : List Bool) → Looking before steps head x goal close → IsPast before head x after → left ≡ x
    → w ≡ wants before (steps_script (later_steps steps) close) after.scope after.facts goal → over ≡ under ++ flags_of before (steps_script (later_steps steps) close) after.scope after.facts goal → FlagsAdded before head left w over now
    → now ≡ under ++ flags_of before (steps_script steps close) x.scope x.facts goal
flags_whole before steps head x after left goal close w under over now l e b f g h =
    let rest = steps_script (later_steps steps) close in
    let here = step_script head rest in
    let past = state_after before here x in
    let own = f ∙ ap (λ (y : StepState). wants before rest y.scope y.facts goal) (e rest) in
    let lower = flags_of before rest past.scope past.facts goal in
    let more = flag (is_kept before here x.scope x.facts (wants before rest past.scope past.facts goal)) (step_flags before here x.scope x.facts) in
    h rest ∙ ap (λ (y : StepState). over ++ flag (is_kept before here y.scope y.facts w) (step_flags before here y.scope y.facts)) b
    ∙ ap (λ v. over ++ flag (is_kept before here x.scope x.facts v) (step_flags before here x.scope x.facts)) own
    ∙ ap (λ xs. xs ++ more) (g ∙ ap (λ (y : StepState). under ++ flags_of before rest y.scope y.facts goal) (e rest)) ∙ append_assoc under lower more
    ∙ ap (λ xs. under ++ xs) (sym (ap (λ d. flags_of before d x.scope x.facts goal) (whole_is steps head close l.some l.first) ∙ flags_step before head rest x goal))
