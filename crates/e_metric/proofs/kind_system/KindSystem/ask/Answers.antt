use Rattle.std.proofs.Common.{subst, sym, Some}
use Rattle.e_metric.specs.SolvedSystems.{IsKindSystem}
use Rattle.e_metric.specs.MetricAnswers.{IsMetricCertificate}
use Rattle.e_metric.proofs.answers.CertificatesOfFronts.{certified_wider}
use Rattle.e_metric.proofs.kind_system.KindSystem.ask.Goals as goal

pub returns-in_ok-cert-in-Absurd : goal.returns-in_ok-cert-in-Absurd
returns-in_ok-cert-in-Absurd c =
    subst (IsMetricCertificate c.args.facts.now (Some c.args.goal.now)) (sym c.in_ok-cert-in-Absurd.ensures)
    (certified_wider c.args.facts.now (Some c.args.goal.now) c.in-Absurd.cert (subst (IsKindSystem c.args.which c.args.facts.now) c.in-Absurd.is c.requires.kind_system))
