use Rattle.e_roundtrip.proofs.Heads.ItemsAdded.{items_add}
use Rattle.e_roundtrip.proofs.laws.items_add_what_they_mean.Goals as goal

pub returns : goal.returns
returns c = items_add
