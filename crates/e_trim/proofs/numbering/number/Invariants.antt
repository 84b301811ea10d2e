use Rattle.std.proofs.Common.{◌≡◌, ◌≤◌, take}
use Rattle.e_trim.specs.Trimmed.{kept_before}
use Rattle.e_trim.proofs.numbering.number.Given as goal

abbrev pub invariant-loop-object : goal.invariant-loop-object
invariant-loop-object l = (l.less ≡ kept_before (take l.object-index l.kept) l.sort l.number) × (l.less ≤ l.object-index)
