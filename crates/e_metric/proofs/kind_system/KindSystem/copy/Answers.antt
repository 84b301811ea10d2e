use Rattle.std.proofs.Common.{subst, sym, None}
use Rattle.e_metric.specs.SolvedSystems.{IsKindSystem}
use Rattle.e_metric.specs.MetricAnswers.{IsMetricCertificate}
use Rattle.e_metric.proofs.answers.GrownSystems.{same_solved}
use Rattle.e_metric.proofs.kind_system.KindSystem.copy.Goals as goal

pub returns-in_ok-solved_system-in-Solved : goal.returns-in_ok-solved_system-in-Solved
returns-in_ok-solved_system-in-Solved c = λ which facts h.
    let e = c.in_ok-solved_system-in-Solved.ensures in
    same_solved which facts c.in-Solved.solved_system c.in_ok-solved_system-in-Solved.solved_system e.names e.terms e.raised e.solved_rows (subst (IsKindSystem which facts) c.in-Solved.is h)

pub returns-in_ok-cert-in-Absurd : goal.returns-in_ok-cert-in-Absurd
returns-in_ok-cert-in-Absurd c = λ which facts h.
    subst (IsMetricCertificate facts None) (sym c.in_ok-cert-in-Absurd.ensures) (subst (IsKindSystem which facts) c.in-Absurd.is h)

pub returns-in-TooWide : goal.returns-in-TooWide
returns-in-TooWide c = λ which facts h. subst (IsKindSystem which facts) c.in-TooWide.is h
