use Rattle.e_prove.proofs.HeldStates.{can_join, left_joins}
use Rattle.e_prove.proofs.state_before.StateBefore.leave_block_with.Goals as goal

pub join_copies-requires : goal.join_copies-requires
join_copies-requires c = can_join c.args.names c.args.self.now c.leave_block.new.self c.args.shown.now c.requires.held c.leave_block.ensures c.requires.good

pub returns : goal.returns
returns c = left_joins c.join_copies.result c.args.names c.args.self.now c.leave_block.new.self c.join_copies.new.context c.args.shown.now c.leave_block.ensures c.join_copies.ensures
