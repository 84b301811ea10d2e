use Rattle.std.proofs.Common.{◌≡◌, ◌++◌, drop}
use Rattle.e_trim.specs.Trimmed.{args_at}
use Rattle.e_trim.proofs.numbering.new_args.Given as goal

abbrev pub invariant-loop-arg : goal.invariant-loop-arg
invariant-loop-arg l = l.new.items ++ args_at l.kept (drop l.arg-index l.args) ≡ args_at l.kept l.args
