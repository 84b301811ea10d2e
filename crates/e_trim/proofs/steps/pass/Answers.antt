use Rattle.e_theorem.specs.Statements.{as_views}
use Rattle.e_trim.proofs.kept_scripts.StepParts.{few_sorts}
use Rattle.e_trim.proofs.steps.pass.Goals as goal

pub extend-opened-requires-clause-few : goal.extend-opened-requires-clause-few
extend-opened-requires-clause-few c = few_sorts (as_views c.args.before.now) c.args.step.now c.makes.result.now c.requires.statements c.makes.ensures
