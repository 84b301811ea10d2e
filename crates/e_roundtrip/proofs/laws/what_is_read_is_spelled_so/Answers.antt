use Rattle.e_roundtrip.proofs.Texts.ReadIsSpelled.{read_is_spelled_so}
use Rattle.e_roundtrip.proofs.laws.what_is_read_is_spelled_so.Goals as goal

pub returns : goal.returns
returns c = read_is_spelled_so
