use Rattle.e_text.proofs.TokenWords.{tokens_of-joined}
use Rattle.e_text.proofs.laws.joined_words_are_read.Goals as goal

pub returns : goal.returns
returns c = tokens_of-joined
