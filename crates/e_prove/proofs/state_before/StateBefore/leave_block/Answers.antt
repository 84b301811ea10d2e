use Rattle.e_prove.proofs.HeldStates.{left_so}
use Rattle.e_prove.proofs.state_before.StateBefore.leave_block.Goals as goal

pub returns : goal.returns
returns c = left_so c.args.names c.args.self.now c.release.new.self c.release.ensures
