use Rattle.e_transfer.specs.Models.{value_when_canonical}
use Rattle.e_transfer.proofs.ModelValues.{refuted}
use Rattle.e_transfer.proofs.models.refutes.Goals as goal

pub returns-then-is_false : goal.returns-then-is_false
returns-then-is_false c = λ e.
    refuted c.args.facts.now c.args.lit.now (value_when_canonical c.args.filling c.args.values.now) c.requires (c.literal_fits.ensures e) (c.is_false.ensures c.if-is_false.true)
