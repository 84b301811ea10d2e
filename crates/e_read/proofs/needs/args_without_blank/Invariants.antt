use Rattle.std.proofs.Common.{◌≡◌, drop}
use Rattle.e_line.specs.Reading.{with_front, each, or_malformed}
use Rattle.e_read.proofs.needs.args_without_blank.Given as goal

abbrev pub invariant-loop-entry : goal.invariant-loop-entry
invariant-loop-entry l = with_front l.args (each or_malformed (drop l.entry-index l.pattern)) ≡ each or_malformed l.pattern
