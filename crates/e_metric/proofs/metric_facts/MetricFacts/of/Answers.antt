use Rattle.e_metric.proofs.metric_facts.MetricFacts.of.Goals as goal

pub catch_up_all-requires-clause-fronts : goal.catch_up_all-requires-clause-fronts
catch_up_all-requires-clause-fronts c = c.new-metric_facts.ensures c.args.facts.now
