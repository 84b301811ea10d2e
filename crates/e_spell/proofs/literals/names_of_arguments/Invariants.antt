use Rattle.std.proofs.Common.{◌≡◌, ◌++◌, map, drop}
use Rattle.e_names.specs.Canonical.{argument_name}
use Rattle.e_spell.proofs.literals.names_of_arguments.Given as goal

abbrev pub invariant-loop-argument : goal.invariant-loop-argument
invariant-loop-argument l = l.found.items ++ map (argument_name l.names) (drop l.argument-index l.args) ≡ map (argument_name l.names) l.args
