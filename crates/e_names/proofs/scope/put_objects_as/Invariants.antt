use Rattle.std.proofs.Common.{◌≡◌, drop}
use Rattle.e_line.specs.Reading.{with_front}
use Rattle.e_names.specs.Scope.{objects_as}
use Rattle.e_names.proofs.scope.put_objects_as.Given as goal

abbrev pub invariant-loop-name : goal.invariant-loop-name
invariant-loop-name l = with_front l.found (objects_as l.names l.sort (drop l.name-index l.of)) ≡ with_front l.initial.found (objects_as l.names l.sort l.of)
