use Rattle.e_roundtrip.proofs.Texts.OneTree.{one_tree_for_one_text}
use Rattle.e_roundtrip.proofs.laws.one_tree_for_one_text.Goals as goal

pub returns : goal.returns
returns c = one_tree_for_one_text
