use Rattle.std.proofs.Common.{subst, sym}
use Rattle.e_metric.specs.MetricAnswers.{IsConsequence}
use Rattle.e_metric.proofs.answers.Consequences.{joined_is}
use Rattle.e_metric.proofs.metric_facts.MetricFacts.consequence.Goals as goal

pub returns-in_ok-answer-in_default : goal.returns-in_ok-answer-in_default
returns-in_ok-answer-in_default c =
    let facts = c.args.facts.now in
    let goal = c.args.goal.now in
    let answer = c.in_ok-answer-in_default.answer in
    let is = c.in_ok-answer-in_default.ensures in
    subst (IsConsequence facts goal) (sym c.joined_consequence.ensures)
    (joined_is facts goal c.requires.facts c.requires.goal answer.segments answer.angles answer.areas is.segments is.angles is.areas)
