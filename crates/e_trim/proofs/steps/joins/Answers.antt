use Rattle.std.proofs.Common.{◌≡◌, List, [], ◌∷◌, sym, ap, ◌∙◌, subst}
use Rattle.e_literal.specs.declared.literal.Lit.{Lit}
use Rattle.e_literal.specs.Use.{gives_of_use}
use Rattle.e_theorem.specs.Statements.{as_views}
use Rattle.e_deriv.specs.Script.{Script, step_script}
use Rattle.e_deriv.specs.PlacedSteps.{theorem_at}
use Rattle.e_deriv.specs.Parts.{args_written}
use Rattle.e_trim.specs.Trimmed.{joins_at}
use Rattle.e_trim.specs.inner.StepState.{IsApplied, StepFits}
use Rattle.e_trim.proofs.walks.FirstSteps.{ok_map}
use Rattle.e_trim.proofs.kept_scripts.StepParts.{apply_fits, cite_joins, hence_joins, make_joins, apply_joins}
use Rattle.e_trim.proofs.steps.joins.Goals as goal

pub use_at-requires-clause-fits : goal.use_at-requires-clause-fits
use_at-requires-clause-fits c =
    let before = as_views c.args.before.now in
    let a = c.in-Apply in
    subst (λ os. IsApplied before a.theorem os c.args.scope) (sym c.items.ensures) (apply_fits before a.theorem a.args a.names a.certs c.args.scope (subst (λ st. StepFits before st c.args.scope) a.is c.requires.fits))

pub returns-in-Cite : goal.returns-in-Cite
returns-in-Cite c =
    ok_map (λ (ls : List Lit). ls ≡ c.in-Cite.by.lit ∷ []) (λ (ls : List Lit). (rest : Script) → ls ≡ joins_at (as_views c.args.before.now) (step_script c.args.step.now rest) c.args.scope) c.one.result
    (λ ls e rest. e ∙ sym (cite_joins (as_views c.args.before.now) c.args.step.now c.in-Cite.by rest c.args.scope c.in-Cite.is)) c.one.ensures

pub returns-in-Hence : goal.returns-in-Hence
returns-in-Hence c =
    ok_map (λ (ls : List Lit). ls ≡ c.in-Hence.lit ∷ []) (λ (ls : List Lit). (rest : Script) → ls ≡ joins_at (as_views c.args.before.now) (step_script c.args.step.now rest) c.args.scope) c.one-in-Hence.result
    (λ ls e rest. e ∙ sym (hence_joins (as_views c.args.before.now) c.args.step.now c.in-Hence.lit c.in-Hence.cert rest c.args.scope c.in-Hence.is)) c.one-in-Hence.ensures

pub returns-in_ok-gives-in-Make : goal.returns-in_ok-gives-in-Make
returns-in_ok-gives-in-Make c rest =
    c.new.ensures ∙ c.in_ok-gives-in-Make.ensures ∙ sym (make_joins (as_views c.args.before.now) c.args.step.now c.in-Make.construction c.in-Make.names c.in-Make.certs rest c.args.scope c.in-Make.is)

pub returns-in_ok-needs-in-Apply : goal.returns-in_ok-needs-in-Apply
returns-in_ok-needs-in-Apply c rest =
    let before = as_views c.args.before.now in
    let a = c.in-Apply in
    c.in_ok-needs-in-Apply.ensures.gives ∙ ap (λ os. gives_of_use (theorem_at before a.theorem) (args_written os) c.args.scope) c.items.ensures
    ∙ sym (apply_joins before c.args.step.now a.theorem a.args a.names a.certs rest c.args.scope a.is)
