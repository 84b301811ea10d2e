use Rattle.std.proofs.Common.{◌≡◌, subst, sym, true, None}
use Rattle.e_clause.specs.LimitedFacts.{are_limited_facts}
use Rattle.e_metric.specs.Fronts.{AreFronts}
use Rattle.e_metric.specs.MetricAnswers.{IsMetricAnswer}
use Rattle.e_licence.proofs.LimitsOfFacts.{well_formed, few_terms}
use Rattle.e_licence.proofs.Clashes.{by_sums, too_wide}
use Rattle.e_licence.proofs.contradiction.by_arithmetic.Goals as goal

pub absurd_in_turn-requires-clause-fronts : goal.absurd_in_turn-requires-clause-fronts
absurd_in_turn-requires-clause-fronts c = subst (λ fs. AreFronts fs c.args.metric_facts.now) (sym c.facts-facts.ensures.facts) c.requires.metric_facts

pub absurd_in_turn-requires-clause-facts : goal.absurd_in_turn-requires-clause-facts
absurd_in_turn-requires-clause-facts c =
    well_formed c.args.context.now.scope c.facts-facts.result.now c.facts-facts.ensures.limited

pub absurd_in_turn-requires-clause-few : goal.absurd_in_turn-requires-clause-few
absurd_in_turn-requires-clause-few c =
    let b = c.args.context.now in
    few_terms b.scope c.facts-facts.result.now c.facts-facts.ensures.limited

pub returns-in-Yes-clause-refuted : goal.returns-in-Yes-clause-refuted
returns-in-Yes-clause-refuted c =
    let b = c.args.context.now in
    let answer : IsMetricAnswer b.facts None c.in_ok-cert.field-0 = subst (λ fs. IsMetricAnswer fs None c.in_ok-cert.field-0) c.facts-facts.ensures.facts c.in_ok-cert.ensures.answer in
    by_sums b c.in-Yes.cert (subst (λ facts. are_limited_facts b.scope facts ≡ true) c.facts-facts.ensures.facts c.facts-facts.ensures.limited) (subst (IsMetricAnswer b.facts None) c.in-Yes.is answer)

pub returns-in-TooWide-clause-refuted : goal.returns-in-TooWide-clause-refuted
returns-in-TooWide-clause-refuted c =
    let b = c.args.context.now in
    let answer : IsMetricAnswer b.facts None c.in_ok-cert.field-0 = subst (λ fs. IsMetricAnswer fs None c.in_ok-cert.field-0) c.facts-facts.ensures.facts c.in_ok-cert.ensures.answer in
    too_wide b.facts c.in-TooWide.width c.requires.no_clash (subst (IsMetricAnswer b.facts None) c.in-TooWide.is answer)
