use Rattle.e_metric.proofs.consequence.follows.Goals as goal

pub follows-answer-requires-clause-fronts : goal.follows-answer-requires-clause-fronts
follows-answer-requires-clause-fronts c = c.new-metric_facts.ensures c.args.facts.now
