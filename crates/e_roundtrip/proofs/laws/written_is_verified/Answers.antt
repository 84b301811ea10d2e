use Rattle.e_roundtrip.proofs.Texts.WrittenIsVerified.{written_is_verified}
use Rattle.e_roundtrip.proofs.laws.written_is_verified.Goals as goal

pub returns : goal.returns
returns c = written_is_verified
