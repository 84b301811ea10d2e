use Rattle.e_roundtrip.proofs.Texts.ReadIsSpelled.{read_is_formed_so}
use Rattle.e_roundtrip.proofs.laws.what_is_read_can_be_spelled.Goals as goal

pub returns : goal.returns
returns c = read_is_formed_so
