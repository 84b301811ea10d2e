use Rattle.std.proofs.Common.{◌≡◌, subst, Some, true, rules}
use Rattle.std.specs.Prelude.{IfSome}
use Rattle.e_literal.specs.Facts.{is_metric}
use Rattle.e_clause.specs.LimitedFacts.{are_limited_facts}
use Rattle.e_metric.specs.MetricAnswers.{IsMetricCertificate}
use Rattle.e_licence.proofs.Licences.{by_sums}
use Rattle.e_licence.proofs.licensing.licence_in_turn.Goals as goal

pub returns-in-Some-clause-licence : goal.returns-in-Some-clause-licence
returns-in-Some-clause-licence c =
    let b = c.args.context.now in
    let l = c.args.lit.now in
    let facts = c.facts-facts.result.now in
    let metric : is_metric l ≡ true = search rules in
    let limited : are_limited_facts b.scope b.facts ≡ true = subst (λ fs. are_limited_facts b.scope fs ≡ true) c.facts-facts.ensures.facts c.facts-facts.ensures.limited in
    let answer : IsMetricCertificate facts (Some l) c.in-Some.cert = subst (λ o. IfSome o (IsMetricCertificate facts (Some l))) c.in-Some.is c.in_ok-cert.ensures.cert in
    by_sums b l c.in-Some.cert limited c.requires.lit c.requires.not_fact metric (subst (λ fs. IsMetricCertificate fs (Some l) c.in-Some.cert) c.facts-facts.ensures.facts answer)
