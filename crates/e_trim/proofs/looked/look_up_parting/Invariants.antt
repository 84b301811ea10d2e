use Rattle.std.proofs.Common.{◌≡◌, drop}
use Rattle.e_trim.specs.Looked.{first_that, parts_ends}
use Rattle.e_trim.proofs.looked.look_up_parting.Given as goal

abbrev pub invariant-loop-fact : goal.invariant-loop-fact
invariant-loop-fact l = record {
  first : first_that (parts_ends l.term) (drop l.fact-index l.facts) ≡ first_that (parts_ends l.term) l.facts;
  same : l.out ≡ l.initial.out;
}
