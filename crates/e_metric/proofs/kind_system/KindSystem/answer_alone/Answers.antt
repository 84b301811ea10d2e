use Rattle.std.proofs.Common.{subst, sym}
use Rattle.e_metric.specs.SolvedSystems.{IsAnswerAlone}
use Rattle.e_metric.specs.declared.kind_system.KindSystem.TheVariants as kind_system
use Rattle.e_metric.specs.declared.consequence.Metric.TheVariants.{Yes, No, TooWide}
use Rattle.e_metric.proofs.answers.OtherKinds.{solved_alone, absurd_alone, wide_alone}
use Rattle.e_metric.proofs.kind_system.KindSystem.answer_alone.Goals as goal

pub returns-in_ok-values-in-Solved : goal.returns-in_ok-values-in-Solved
returns-in_ok-values-in-Solved c =
    subst (λ s. IsAnswerAlone s (No c.in_ok-values-in-Solved.values)) (sym c.in-Solved.is) (solved_alone c.in-Solved.solved_system c.in_ok-values-in-Solved.values c.in_ok-values-in-Solved.ensures)

pub returns-in_ok-cert-in-Absurd : goal.returns-in_ok-cert-in-Absurd
returns-in_ok-cert-in-Absurd c =
    subst (λ s. IsAnswerAlone s (Yes c.in_ok-cert-in-Absurd.cert)) (sym c.in-Absurd.is)
    (subst (λ m. IsAnswerAlone (kind_system.Absurd c.in-Absurd.cert) (Yes m)) (sym c.in_ok-cert-in-Absurd.ensures) (absurd_alone c.in-Absurd.cert))

pub returns-in-TooWide : goal.returns-in-TooWide
returns-in-TooWide c = subst (λ s. IsAnswerAlone s (TooWide c.in-TooWide.width)) (sym c.in-TooWide.is) (wide_alone c.in-TooWide.width)
