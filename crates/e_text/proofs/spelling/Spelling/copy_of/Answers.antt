use Rattle.std.proofs.Common.{arith}
use Rattle.std.proofs.lemmas.Grind.{common_steps}
use Rattle.e_text.proofs.Padded.{padded}
use Rattle.e_text.proofs.spelling.Spelling.copy_of.Goals as goal

pub invariant_of-result : goal.invariant_of-result
invariant_of-result c = padded 24 c.args.token.now c.copy_from_slice.new.self (grind (arith, common_steps)) c.requires
