use Rattle.std.proofs.Common.{subst, sym, None}
use Rattle.e_metric.specs.SolvedSystems.{IsKindSystem}
use Rattle.e_metric.specs.MetricAnswers.{IsMetricCertificate}
use Rattle.e_metric.proofs.kind_system.KindSystem.contradiction.Goals as goal

pub returns-in_ok-cert-in-Absurd : goal.returns-in_ok-cert-in-Absurd
returns-in_ok-cert-in-Absurd c = λ which facts h.
    subst (IsMetricCertificate facts None) (sym c.in_ok-cert-in-Absurd.ensures) (subst (IsKindSystem which facts) c.in-Absurd.is h)
