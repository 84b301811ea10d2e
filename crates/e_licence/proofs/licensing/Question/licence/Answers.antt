use Rattle.std.proofs.Common.{◌≡◌, subst, rules, true, false, None, Some}
use Rattle.e_literal.specs.Facts.{is_metric}
use Rattle.e_clause.specs.LimitedFacts.{are_limited_facts}
use Rattle.e_clause.specs.Metric.{MetricConsequence}
use Rattle.e_metric.specs.MetricAnswers.{IsMetricAnswer, IfNo}
use Rattle.e_licence.proofs.Judgements.{if_licence, no_sums, wide}
use Rattle.e_licence.proofs.Licences.{by_sums}
use Rattle.e_licence.proofs.licensing.Question.licence.Goals as goal

pub returns-then-is_none : goal.returns-then-is_none
returns-then-is_none c =
    let b = c.args.self.now.context.now in
    let l = c.args.self.now.lit.now in
    let diagram : is_metric l ≡ false = search rules in
    if_licence c.transfer.result b l None c.requires (no_sums b l diagram) diagram c.transfer.ensures

pub returns-in-Yes : goal.returns-in-Yes
returns-in-Yes c =
    let b = c.args.self.now.context.now in
    let l = c.args.self.now.lit.now in
    let metric : is_metric l ≡ true = search rules in
    let limited : are_limited_facts b.scope b.facts ≡ true = subst (λ fs. are_limited_facts b.scope fs ≡ true) c.facts-facts.ensures.facts c.facts-facts.ensures.limited in
    let answer : IsMetricAnswer b.facts (Some l) c.in_ok-cert.field-0 = subst (λ fs. IsMetricAnswer fs (Some l) c.in_ok-cert.field-0) c.facts-facts.ensures.facts c.in_ok-cert.ensures.answer in
    by_sums b l c.in-Yes.cert limited c.args.self.now.well_formed c.requires metric (subst (IsMetricAnswer b.facts (Some l)) c.in-Yes.is answer)

pub returns-in-No : goal.returns-in-No
returns-in-No c =
    let b = c.args.self.now.context.now in
    let l = c.args.self.now.lit.now in
    let metric : is_metric l ≡ true = search rules in
    let facts = c.facts-facts.result.now in
    let answer : IsMetricAnswer b.facts (Some l) c.in_ok-cert.field-0 = subst (λ fs. IsMetricAnswer fs (Some l) c.in_ok-cert.field-0) c.facts-facts.ensures.facts c.in_ok-cert.ensures.answer in
    let not = subst (λ fs. ¬ MetricConsequence fs l) c.facts-facts.ensures.facts (subst (λ m. IfNo m (¬ MetricConsequence facts l)) c.in-No.is c.in_ok-cert.ensures.no) in
    if_licence c.transfer-in-No.result b l (Some c.in-No.values) c.requires not (metric, subst (IsMetricAnswer b.facts (Some l)) c.in-No.is answer) c.transfer-in-No.ensures

pub returns : goal.returns
returns c =
    let b = c.args.self.now.context.now in
    let l = c.args.self.now.lit.now in
    let metric : is_metric l ≡ true = search rules in
    let answer : IsMetricAnswer b.facts (Some l) c.in_ok-cert.field-0 = subst (λ fs. IsMetricAnswer fs (Some l) c.in_ok-cert.field-0) c.facts-facts.ensures.facts c.in_ok-cert.ensures.answer in
    wide b l c.in-TooWide.width None c.in_ok-cert-in-TooWide.field-0 c.requires metric (subst (IsMetricAnswer b.facts (Some l)) c.in-TooWide.is answer) c.in_ok-cert-in-TooWide.ensures c.in-No-2.is
