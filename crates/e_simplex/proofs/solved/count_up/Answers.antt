use Rattle.std.proofs.Common.{ap, ◌∙◌, ◌++◌, ◌∷◌, []}
use Rattle.e_simplex.proofs.outcomes.Solving.{numbers_push}
use Rattle.e_simplex.proofs.solved.count_up.Goals as goal

pub loop-i-preserved : goal.loop-i-preserved
loop-i-preserved c = c.in_ok-push.ensures.items ∙ ap (λ v. v ++ c.loop-i.i ∷ []) c.loop-i.invariant ∙ numbers_push c.loop-i.i
