use Rattle.e_roundtrip.proofs.Texts.SpelledIsRead.{spelled_is_read}
use Rattle.e_roundtrip.proofs.laws.spelled_is_read.Goals as goal

pub returns : goal.returns
returns c = spelled_is_read
