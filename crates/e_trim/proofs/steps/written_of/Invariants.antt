use Rattle.std.proofs.Common.{◌≡◌, ◌++◌, drop}
use Rattle.e_deriv.specs.Parts.{args_written}
use Rattle.e_trim.proofs.steps.written_of.Given as goal

abbrev pub invariant-loop-arg : goal.invariant-loop-arg
invariant-loop-arg l = l.objects.items ++ args_written (drop l.arg-index l.args) ≡ args_written l.args
