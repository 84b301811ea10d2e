use Rattle.std.proofs.Common.{◌≡◌, drop}
use Rattle.e_line.specs.Reading.{each, with_front}
use Rattle.e_names.specs.Scope.{used_object}
use Rattle.e_names.proofs.scope.objects_used.Given as goal

abbrev pub invariant-loop-name : goal.invariant-loop-name
invariant-loop-name l = with_front l.found (each (used_object l.names) (drop l.name-index l.of)) ≡ each (used_object l.names) l.of
