use Rattle.std.proofs.Common.{take}
use Rattle.e_fraction.specs.Views.{views_of_rows}
use Rattle.e_simplex.specs.Naming.{AreOnce, AllNamed, Continues}
use Rattle.e_simplex.proofs.naming.terms_and_fresh.Given as goal

abbrev pub invariant-loop-row : goal.invariant-loop-row
invariant-loop-row l = record {
  once : AreOnce l.all.items;
  all : AllNamed l.all.items (views_of_rows (take l.row-index l.rows));
  continues : Continues l.fn.terms.items l.all.items;
}
