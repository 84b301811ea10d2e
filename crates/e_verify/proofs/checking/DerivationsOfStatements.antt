-- The whole derivation of a statement.
use Rattle.std.proofs.Common.{◌≡◌, ℕ, ◌+◌, ◌<◌, ◌^◌, List, length, refl, sym, ap, subst, ◌∙◌, arith, Bool, true, ◌&&◌, Result, Ok}
use Rattle.std.proofs.Common.{[], ◌∷◌}
use Rattle.std.specs.List.{list_all}
use Rattle.e_literal.specs.declared.literal.Lit.{Lit}
use Rattle.e_literal.specs.Literal.{all_in_scope}
use Rattle.e_literal.specs.Scopes.{with_sorts, nothing}
use Rattle.e_literal.specs.Use.{StatementView, scope_of, is_statement}
use Rattle.e_literal.specs.WellFormed.{is_well_formed}
use Rattle.e_literal.proofs.GrownScopes.{total_grown}
use Rattle.e_literal.proofs.Booleans.{and_left, and_right}
use Rattle.e_deriv.specs.Script.{Script}
use Rattle.e_deriv.specs.Goal.{Goal, goal_of_statement, facts_of_statement}
use Rattle.e_deriv.specs.Certified.{Certified, derivation_steps, is_certified, verdict}
use Rattle.e_deriv.specs.Fitting.{is_small, is_small_statement, all_objects}
use Rattle.e_deriv.proofs.Smallness.{few_objects}
use Rattle.e_verify.specs.declared.step_state.StepState.{StepState}
use Rattle.e_verify.specs.StepStates.{state_at_start}
use Rattle.e_verify.specs.Checking.{verdict_at, IsCheckable}
use Rattle.e_verify.specs.Verdicts.{IsVerifiable}
use Rattle.e_verify.proofs.checking.FormedFacts.{all_joined_formed}
use Rattle.e_verify.proofs.checking.PassedLines.{all_pass}

pub same_verdict : (before : List StatementView) (t : StatementView) (d : Script) (x : StepState) (g : Goal) → x ≡ state_at_start t → g ≡ goal_of_statement t → verdict before t d ≡ verdict_at before d x g 1
same_verdict before t d x g is same = sym (ap (λ y. verdict_at before d y g 1) is ∙ ap (λ h. verdict_at before d (state_at_start t) h 1) same)

each_formed : (q : Lit → Bool) (ls : List Lit) → list_all (λ l. is_well_formed l && q l) ls ≡ true → list_all is_well_formed ls ≡ true
each_formed q [] h = refl
each_formed q (l ∷ ls) h =
    ap (λ b. b && list_all is_well_formed ls) (and_left (is_well_formed l) (q l) (and_left (is_well_formed l && q l) (list_all (λ l. is_well_formed l && q l) ls) h))
    ∙ each_formed q ls (and_right (is_well_formed l && q l) (list_all (λ l. is_well_formed l && q l) ls) h)

shown_formed : (t : StatementView) → is_statement t ≡ true → list_all is_well_formed t.shown ≡ true
shown_formed t h =
    let s = scope_of t in
    each_formed (all_in_scope (with_sorts s t.made)) t.shown
    (and_right (list_all (λ l. is_well_formed l && all_in_scope s l) t.given) (list_all (λ l. is_well_formed l && all_in_scope (with_sorts s t.made) l) t.shown) h)

-- the facts that a proof begins with
facts_formed : (t : StatementView) → is_statement t ≡ true → list_all is_well_formed (facts_of_statement t) ≡ true
facts_formed t h =
    let s = scope_of t in
    all_joined_formed [] t.given refl
    (each_formed (all_in_scope s) t.given
    (and_left (list_all (λ l. is_well_formed l && all_in_scope s l) t.given) (list_all (λ l. is_well_formed l && all_in_scope (with_sorts s t.made) l) t.shown) h))

pub start_ready : (before : List StatementView) (t : StatementView) (d : Script) (x : StepState) (g : Goal) → IsVerifiable before t d → x ≡ state_at_start t → g ≡ goal_of_statement t → IsCheckable before d x g 1
start_ready before t d x g v is same =
    subst (λ y. IsCheckable before d y g 1) (sym is) (subst (λ h. IsCheckable before d (state_at_start t) h 1) (sym same)
    (record {
      written = v.written;
      scopes = v.scopes;
      facts = facts_formed t (and_left (is_statement t) (is_small (all_objects t)) v.statement);
      shown = shown_formed t (and_left (is_statement t) (is_small (all_objects t)) v.statement);
      few = omega (arith, v.short);
    }))

pub certified_of : (before : List StatementView) (t : StatementView) (d : Script) (v : Result ℕ ℕ) (n : ℕ) → verdict before t d ≡ v → v ≡ Ok n → Certified before t d
certified_of before t d v n e h = all_pass (is_certified before) (derivation_steps before t d) 1 n (e ∙ h)

pub few_declared : (t : StatementView) → is_small_statement t ≡ true → length t.declared < 2 ^ 16
few_declared t h = omega (arith, few_objects t h)

pub few_more : (t : StatementView) → is_small_statement t ≡ true → ((scope_of t).points + length t.made < 2 ^ 16) × ((scope_of t).lines + length t.made < 2 ^ 16) × ((scope_of t).circles + length t.made < 2 ^ 16)
few_more t h =
    let n = few_objects t h in
    let k = total_grown nothing t.declared in
    (omega (arith, n, k), omega (arith, n, k), omega (arith, n, k))
