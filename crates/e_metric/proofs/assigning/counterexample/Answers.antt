use Rattle.std.proofs.Common.{ap, ◌∙◌, map}
use Rattle.std.specs.Prelude.{List, option_copied}
use Rattle.e_literal.specs.declared.object.Term.{Term}
use Rattle.e_metric.specs.inner.AssignedValues.{step_value}
use Rattle.e_metric.proofs.terms.StepTerms.{lists}
use Rattle.e_metric.proofs.assigning.counterexample.Goals as goal

pub returns : goal.returns
returns c =
    let solutions = c.args.values.now in
    lists c.args.facts.now (option_copied c.args.wanted) solutions c.in_ok-terms.terms.items c.in_ok-listed.listed c.requires.facts c.requires.wanted c.requires.solved
    c.in_ok-terms.ensures.in_order c.in_ok-terms.ensures.same
    (c.in_ok-listed.ensures ∙ ap (λ (ts : List Term). map (λ t. (t, step_value solutions t)) ts) c.deref.ensures.value)
