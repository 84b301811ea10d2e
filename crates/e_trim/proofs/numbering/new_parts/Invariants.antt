use Rattle.std.proofs.Common.{◌≡◌, ◌++◌, map, drop}
use Rattle.e_trim.specs.Trimmed.{part_at}
use Rattle.e_trim.proofs.numbering.new_parts.Given as goal

abbrev pub invariant-loop-part : goal.invariant-loop-part
invariant-loop-part l = l.new.items ++ map (part_at l.kept) (drop l.part-index l.parts) ≡ map (part_at l.kept) l.parts
