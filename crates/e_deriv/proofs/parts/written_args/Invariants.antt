use Rattle.std.proofs.Common.{◌≡◌, ◌++◌, drop}
use Rattle.e_deriv.specs.Parts.{has_no_blank, args_written}
use Rattle.e_deriv.proofs.parts.written_args.Given as goal

abbrev pub invariant-loop-arg : goal.invariant-loop-arg
invariant-loop-arg l =
    record {
      blank : has_no_blank (drop l.arg-index l.args) ≡ has_no_blank l.args;
      whole : l.objects.items ++ args_written (drop l.arg-index l.args) ≡ args_written l.args;
    }
