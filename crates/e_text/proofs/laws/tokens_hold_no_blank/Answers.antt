use Rattle.e_text.proofs.TokenWords.{AreTokens-tokens_of}
use Rattle.e_text.proofs.laws.tokens_hold_no_blank.Goals as goal

pub returns : goal.returns
returns c = AreTokens-tokens_of
