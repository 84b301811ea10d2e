use Rattle.e_deriv.proofs.Sorts.{sorts_agree}
use Rattle.e_places.proofs.numbering.number_qed.Goals as goal

pub goal_with-requires : goal.goal_with-requires
goal_with-requires c = record { one_sort = sorts_agree c.args.state.now.scope _ c.args.objects.now c.requires.objects }
