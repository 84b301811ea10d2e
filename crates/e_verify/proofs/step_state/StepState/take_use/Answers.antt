use Rattle.std.proofs.Common.{◌≡◌, ◌+◌, ◌<◌, ◌^◌, sym, ap, ◌∙◌, subst, length}
use Rattle.std.specs.Prelude.{List, OnOk}
use Rattle.e_literal.specs.declared.object.Scope.{Scope}
use Rattle.e_literal.specs.declared.literal.Lit.{Lit}
use Rattle.e_literal.specs.Facts.{with_facts}
use Rattle.e_literal.specs.Scopes.{with_sorts}
use Rattle.e_theorem.specs.Statements.{as_view}
use Rattle.e_verify.specs.declared.step_state.StepState.{StepState}
use Rattle.e_verify.proofs.checking.CertifiedLines.{few_new_of}
use Rattle.e_verify.proofs.step_state.StepState.take_use.Goals as goal

abbrev as_state : Scope → List Lit → StepState
as_state s facts = record { scope = s; facts = facts }

pub with_sorts-self-requires-clause-points : goal.with_sorts-self-requires-clause-points
with_sorts-self-requires-clause-points c =
    let s = c.args.self.now.scope in
    subst (λ n. s.points + n < 2 ^ 16) (sym (ap length c.items.ensures)) (few_new_of s (as_view c.args.statement.now) c.requires.scope c.requires.statement).1

pub with_sorts-self-requires-clause-lines : goal.with_sorts-self-requires-clause-lines
with_sorts-self-requires-clause-lines c =
    let s = c.args.self.now.scope in
    subst (λ n. s.lines + n < 2 ^ 16) (sym (ap length c.items.ensures)) (few_new_of s (as_view c.args.statement.now) c.requires.scope c.requires.statement).2

pub with_sorts-self-requires-clause-circles : goal.with_sorts-self-requires-clause-circles
with_sorts-self-requires-clause-circles c =
    let s = c.args.self.now.scope in
    subst (λ n. s.circles + n < 2 ^ 16) (sym (ap length c.items.ensures)) (few_new_of s (as_view c.args.statement.now) c.requires.scope c.requires.statement).3

pub returns : goal.returns
returns c =
    let x = c.args.self.now in
    let scope = c.with_sorts-self.ensures ∙ ap (with_sorts x.scope) c.items.ensures in
    subst (λ (s : Scope). OnOk c.assume_all.result (c.assume_all.new.self ≡ as_state s (with_facts x.facts c.args.gives.now))) scope c.assume_all.ensures
