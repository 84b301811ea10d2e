use Rattle.std.proofs.Common.{◌≡◌, ◌++◌, drop, map}
use Rattle.e_text.specs.Tokens.{with_spaces}
use Rattle.e_names.specs.Canonical.{name_of_object}
use Rattle.e_spell.proofs.literals.put_objects.Given as goal

abbrev pub invariant-loop-object : goal.invariant-loop-object
invariant-loop-object l = l.out.items ++ with_spaces (map (name_of_object l.names) (drop l.object-index l.objects)) ≡ l.initial.out.items ++ with_spaces (map (name_of_object l.names) l.objects)
