use Rattle.e_roundtrip.proofs.Texts.ShownText.{read_text_is_spelled}
use Rattle.e_roundtrip.proofs.laws.one_text_for_one_tree.Goals as goal

pub returns : goal.returns
returns c = read_text_is_spelled
