use Rattle.std.proofs.Common.{◌∙◌}
use Rattle.std.specs.Prelude.{option_copied}
use Rattle.e_metric.proofs.answers.KindAnswers.{system_width}
use Rattle.e_metric.proofs.solved_system.system_width.Goals as goal

pub returns : goal.returns
returns c = c.width.ensures.value ∙ system_width c.args.which c.args.facts.now (option_copied c.args.wanted) c.in_ok-named.named.items c.in_ok-named.ensures.rows c.deref-2.result.now (c.deref-2.ensures.value ∙ c.in_ok-rows.ensures.rows)
