use Rattle.std.proofs.Common.{ap, subst}
use Rattle.std.specs.Prelude.{option_copied}
use Rattle.e_literal.proofs.Booleans.{and_left}
use Rattle.e_clause.specs.LimitedFacts.{are_well_formed_in, are_few}
use Rattle.e_metric.specs.Fronts.{AreFronts}
use Rattle.e_transfer.proofs.Needs.{facts_well}
use Rattle.e_transfer.proofs.instance_check.answer.Goals as goal

pub consequence-requires-clause-fronts : goal.consequence-requires-clause-fronts
consequence-requires-clause-fronts c = subst (λ fs. AreFronts fs c.metric_facts.result.now) (c.args.query.now.step_facts_of c.in-Some.step_facts.now (ap option_copied c.in-Some.is)) c.metric_facts.ensures

pub consequence-requires-clause-facts : goal.consequence-requires-clause-facts
consequence-requires-clause-facts c =
    let s = c.args.query.now in
    facts_well s.scope s.facts.now (and_left (are_well_formed_in s.scope s.facts.now) (are_few s.facts.now) s.good)

pub consequence-answer-requires-clause-facts : goal.consequence-answer-requires-clause-facts
consequence-answer-requires-clause-facts c =
    let s = c.args.query.now in
    facts_well s.scope s.facts.now (and_left (are_well_formed_in s.scope s.facts.now) (are_few s.facts.now) s.good)

pub consequence-answer-requires-clause-fronts : goal.consequence-answer-requires-clause-fronts
consequence-answer-requires-clause-fronts c = c.new-metric_facts.ensures c.args.query.now.facts.now
