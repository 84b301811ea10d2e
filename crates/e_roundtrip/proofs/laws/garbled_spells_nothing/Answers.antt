use Rattle.e_roundtrip.proofs.Texts.GarbledTexts.{garbled_spells_nothing}
use Rattle.e_roundtrip.proofs.laws.garbled_spells_nothing.Goals as goal

pub returns : goal.returns
returns c = garbled_spells_nothing
