use Rattle.std.proofs.Common.{◌≡◌, sym, subst, rules, true, None}
use Rattle.e_literal.specs.Facts.{is_metric}
use Rattle.e_clause.specs.Metric.{MetricConsequence}
use Rattle.e_licence.specs.Verdicts.{JudgedIs}
use Rattle.e_licence.proofs.Judgements.{judged, without_reasons, no_fact}
use Rattle.e_licence.proofs.licensing.Question.verdict.Goals as goal

pub transfer-requires : goal.transfer-requires
transfer-requires c =
    let b = c.args.self.now.context.now in
    let l = c.args.self.now.lit.now in
    let metric : is_metric l ≡ true = search rules in
    no_fact b l metric (subst (λ fs. ¬ MetricConsequence fs l) c.facts-facts.ensures.facts (c.refutes.ensures c.if-refutes.true))

pub returns-then-refutes : goal.returns-then-refutes
returns-then-refutes c =
    let b = c.args.self.now.context.now in
    let l = c.args.self.now.lit.now in
    let metric : is_metric l ≡ true = search rules in
    let not = subst (λ fs. ¬ MetricConsequence fs l) c.facts-facts.ensures.facts (c.refutes.ensures c.if-refutes.true) in
    subst (JudgedIs b l) (sym c.verdict_of.ensures) (judged b l None c.in_ok-transfer.field-0 (no_fact b l metric not) not c.in_ok-transfer.ensures)

pub returns : goal.returns
returns c =
    let b = c.args.self.now.context.now in
    let l = c.args.self.now.lit.now in
    subst (JudgedIs b l) (sym c.verdict_of-2.ensures) (without_reasons b l c.in_ok-licence.field-0 c.in_ok-licence.ensures)
