use Rattle.e_roundtrip.proofs.Texts.VerifiedTexts.{verified_is_written}
use Rattle.e_roundtrip.proofs.laws.verified_is_written.Goals as goal

pub returns : goal.returns
returns c = verified_is_written
