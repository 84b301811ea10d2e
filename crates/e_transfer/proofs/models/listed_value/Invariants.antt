use Rattle.std.proofs.Common.{◌≡◌, drop}
use Rattle.e_transfer.specs.Models.{value_in_list}
use Rattle.e_transfer.proofs.models.listed_value.Given as goal

abbrev pub invariant-loop-pair : goal.invariant-loop-pair
invariant-loop-pair l = value_in_list l.filling (drop l.pair-index l.values) l.term ≡ value_in_list l.filling l.values l.term
