use Rattle.std.proofs.Common.{sym, subst}
use Rattle.std.specs.Prelude.{IfSome, option_copied}
use Rattle.e_metric.specs.Fronts.{AreFronts}
use Rattle.e_licence.specs.Contexts.{Basis}
use Rattle.e_licence.proofs.context.Context.metric_facts.Goals as goal

pub returns : goal.returns
returns c =
    subst (λ (b : Basis). IfSome (option_copied c.as_ref.result) (AreFronts b.facts)) c.self.view_is
    (subst (λ o. IfSome o (AreFronts c.self.inside.facts)) (sym c.as_ref.ensures.value) c.self.invariant.metric_facts)
