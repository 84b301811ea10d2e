use Rattle.std.proofs.Common.{◌≡◌, ◌++◌, map, drop}
use Rattle.e_trim.specs.Trimmed.{obj_at}
use Rattle.e_trim.proofs.numbering.new_objects.Given as goal

abbrev pub invariant-loop-object : goal.invariant-loop-object
invariant-loop-object l = l.new.items ++ map (obj_at l.kept) (drop l.object-index l.objects) ≡ map (obj_at l.kept) l.objects
