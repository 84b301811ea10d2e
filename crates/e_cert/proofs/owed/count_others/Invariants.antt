use Rattle.std.proofs.Common.{◌≡◌, ◌≤◌, ◌+◌, drop}
use Rattle.e_cert.specs.Owed.{count_others}
use Rattle.e_cert.proofs.owed.count_others.Given as goal

abbrev pub invariant-loop-lit : goal.invariant-loop-lit
invariant-loop-lit l = record {
  counted : l.count + count_others l.wanted (drop l.lit-index l.lits) ≡ count_others l.wanted l.lits;
  within : l.count ≤ l.lit-index;
}
