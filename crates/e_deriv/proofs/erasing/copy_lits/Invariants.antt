use Rattle.std.proofs.Common.{◌≡◌, take}
use Rattle.e_deriv.proofs.erasing.copy_lits.Given as goal

abbrev pub invariant-loop-lit : goal.invariant-loop-lit
invariant-loop-lit l = l.copies.items ≡ take l.lit-index l.lits
