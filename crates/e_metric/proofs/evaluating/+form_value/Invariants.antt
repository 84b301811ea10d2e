use Rattle.std.proofs.Common.{length}
use Rattle.e_metric.proofs.evaluating.+form_value.Given as goal

abbrev pub decreases-form_value : goal.decreases-form_value
decreases-form_value l = length l.form.now
