use Rattle.e_roundtrip.proofs.Texts.WrittenIsVerified.{written_is_judged}
use Rattle.e_roundtrip.proofs.laws.written_is_judged.Goals as goal

pub returns : goal.returns
returns c = written_is_judged
