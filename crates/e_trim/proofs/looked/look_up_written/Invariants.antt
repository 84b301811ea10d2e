use Rattle.std.proofs.Common.{◌≡◌, drop}
use Rattle.e_clause.specs.Assignment.{lit_has_term}
use Rattle.e_trim.specs.Looked.{first_that}
use Rattle.e_trim.proofs.looked.look_up_written.Given as goal

abbrev pub invariant-loop-fact : goal.invariant-loop-fact
invariant-loop-fact l = record {
  first : first_that (lit_has_term l.term) (drop l.fact-index l.facts) ≡ first_that (lit_has_term l.term) l.facts;
  same : l.out ≡ l.initial.out;
}
