use Rattle.std.proofs.Common.{◌≡◌, [], drop}
use Rattle.e_names.specs.Scope.{arguments_in}
use Rattle.e_names.proofs.scope.arguments_in.Given as goal

abbrev pub invariant-loop-name : goal.invariant-loop-name
invariant-loop-name l = arguments_in l.names l.shapes l.found (drop l.name-index l.of) ≡ arguments_in l.names l.shapes [] l.of
