use Rattle.std.proofs.Common.{length}
use Rattle.e_theorem.specs.Statements.{as_views}
use Rattle.e_trim.proofs.kept_scripts.BuiltSteps.{room}
use Rattle.e_trim.proofs.kept_scripts.StepParts.{few_sorts}
use Rattle.e_trim.proofs.steps.is_kept.Goals as goal

pub next_objects-requires-clause-points : goal.next_objects-requires-clause-points
next_objects-requires-clause-points c = (room c.args.state.now.scope (length c.makes.result.now) c.requires.small (few_sorts (as_views c.args.before.now) c.args.step.now c.makes.result.now c.requires.statements c.makes.ensures)).0

pub next_objects-requires-clause-lines : goal.next_objects-requires-clause-lines
next_objects-requires-clause-lines c = (room c.args.state.now.scope (length c.makes.result.now) c.requires.small (few_sorts (as_views c.args.before.now) c.args.step.now c.makes.result.now c.requires.statements c.makes.ensures)).1

pub next_objects-requires-clause-circles : goal.next_objects-requires-clause-circles
next_objects-requires-clause-circles c = (room c.args.state.now.scope (length c.makes.result.now) c.requires.small (few_sorts (as_views c.args.before.now) c.args.step.now c.makes.result.now c.requires.statements c.makes.ensures)).2
