use Rattle.std.proofs.Common.{◌≡◌, ◌++◌, map, drop}
use Rattle.e_line.specs.Canonical.{argument_word}
use Rattle.e_names.specs.Canonical.{name_of_object}
use Rattle.e_commands.proofs.suggestions.names_of_choice.Given as goal

abbrev pub invariant-loop-object : goal.invariant-loop-object
invariant-loop-object l = map argument_word l.found.items ++ map (name_of_object l.names) (drop l.object-index l.args) ≡ map (name_of_object l.names) l.args
