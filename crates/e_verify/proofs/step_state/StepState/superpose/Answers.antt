use Rattle.std.proofs.Common.{ap, ◌∙◌, length}
use Rattle.std.specs.Prelude.{List}
use Rattle.e_literal.specs.declared.object.Scope.{Scope}
use Rattle.e_literal.specs.declared.literal.Lit.{Lit}
use Rattle.e_literal.specs.Facts.{with_facts}
use Rattle.e_literal.specs.Scopes.{with_sorts}
use Rattle.e_construct.specs.Superposing as superposing
use Rattle.e_verify.specs.declared.step_state.StepState.{StepState}
use Rattle.e_verify.proofs.checking.CertifiedLines.{few_copies}
use Rattle.e_verify.proofs.step_state.StepState.superpose.Goals as goal

abbrev as_state : Scope → List Lit → StepState
as_state s facts = record { scope = s; facts = facts }

pub with_sorts-self-requires-clause-points : goal.with_sorts-self-requires-clause-points
with_sorts-self-requires-clause-points c = (few_copies c.args.self.now.scope (length c.made.result.now) c.requires (ap length c.made.ensures)).0

pub with_sorts-self-requires-clause-lines : goal.with_sorts-self-requires-clause-lines
with_sorts-self-requires-clause-lines c = (few_copies c.args.self.now.scope (length c.made.result.now) c.requires (ap length c.made.ensures)).1

pub with_sorts-self-requires-clause-circles : goal.with_sorts-self-requires-clause-circles
with_sorts-self-requires-clause-circles c = (few_copies c.args.self.now.scope (length c.made.result.now) c.requires (ap length c.made.ensures)).2

pub returns : goal.returns
returns c =
    let x = c.args.self.now in
    let facts = c.in_ok-join.ensures ∙ ap (with_facts x.facts) c.in_ok-given.ensures in
    let scope = c.with_sorts-self.ensures ∙ ap (with_sorts x.scope) c.made.ensures in
    ap (λ (s : Scope). as_state s c.join.new.self) scope ∙ ap (as_state (with_sorts x.scope superposing.sorts_copied)) facts
