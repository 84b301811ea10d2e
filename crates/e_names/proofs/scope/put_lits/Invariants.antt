use Rattle.std.proofs.Common.{◌≡◌, ◌+◌, drop, length}
use Rattle.e_line.specs.Reading.{with_front}
use Rattle.e_names.specs.Scope.{lits_in}
use Rattle.e_names.proofs.scope.put_lits.Given as goal

abbrev pub invariant-loop-lit : goal.invariant-loop-lit
invariant-loop-lit l = record {
  read : with_front l.lits (lits_in l.names (drop l.lit-index l.raw)) ≡ with_front l.initial.lits (lits_in l.names l.raw);
  count : length l.lits ≡ length l.initial.lits + l.lit-index;
}
