use Rattle.std.proofs.Common.{length}
use Rattle.e_book.proofs.parser.TheoremParser.+close_block.Given as goal

abbrev pub decreases-close_block : goal.decreases-close_block
decreases-close_block l = length l.self.now.blocks
