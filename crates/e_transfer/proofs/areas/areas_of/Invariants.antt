use Rattle.std.proofs.Common.{[], take}
use Rattle.e_clause.specs.Assignment.{terms_of_lits}
use Rattle.e_transfer.specs.Areas.{ListsAlso}
use Rattle.e_transfer.proofs.areas.areas_of.Given as goal

abbrev pub invariant-loop-fact : goal.invariant-loop-fact
invariant-loop-fact l = ListsAlso (terms_of_lits (take l.fact-index l.facts)) [] l.areas.items
