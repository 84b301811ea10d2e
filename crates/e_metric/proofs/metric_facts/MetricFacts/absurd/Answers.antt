use Rattle.e_metric.proofs.answers.Consequences.{each_yes_contradicts, each_no_contradicts}
use Rattle.e_metric.proofs.metric_facts.MetricFacts.absurd.Goals as goal

pub returns-clause-yes : goal.returns-clause-yes
returns-clause-yes c = each_yes_contradicts c.args.facts.now c.answer_of_facts.result c.answer_of_facts.ensures

pub returns-clause-no : goal.returns-clause-no
returns-clause-no c = each_no_contradicts c.args.facts.now c.answer_of_facts.result c.answer_of_facts.ensures
