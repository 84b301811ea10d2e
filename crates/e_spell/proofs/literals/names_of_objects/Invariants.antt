use Rattle.std.proofs.Common.{◌≡◌, ◌++◌, map, drop}
use Rattle.e_names.specs.Canonical.{name_of_object}
use Rattle.e_spell.proofs.literals.names_of_objects.Given as goal

abbrev pub invariant-loop-object : goal.invariant-loop-object
invariant-loop-object l = l.found.items ++ map (name_of_object l.names) (drop l.object-index l.objects) ≡ map (name_of_object l.names) l.objects
