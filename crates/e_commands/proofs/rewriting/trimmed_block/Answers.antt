use Rattle.e_commands.proofs.rewriting.trimmed_block.Goals as goal

pub trim-requires : goal.trim-requires
trim-requires c = rw c.statements.ensures c.requires

pub returns : goal.returns
returns c = rw (rw c.statements.ensures at c.in_ok-trimmed.ensures.trimmed) at c.spell-block.ensures
