use Rattle.e_commands.proofs.pieces.blocks_of_source.Goals as goal

pub take_source-ended-requires : goal.take_source-ended-requires
take_source-ended-requires g c = c.new-book.ensures
