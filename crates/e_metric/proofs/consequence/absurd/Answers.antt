use Rattle.e_metric.proofs.consequence.absurd.Goals as goal

pub absurd-answer-requires-clause-fronts : goal.absurd-answer-requires-clause-fronts
absurd-answer-requires-clause-fronts c = c.new-metric_facts.ensures c.args.facts.now
