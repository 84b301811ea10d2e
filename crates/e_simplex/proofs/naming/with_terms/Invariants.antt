use Rattle.std.proofs.Common.{take}
use Rattle.e_simplex.specs.Naming.{AreOnce, Continues, FormNamed}
use Rattle.e_simplex.proofs.naming.with_terms.Given as goal

abbrev pub invariant-loop-term : goal.invariant-loop-term
invariant-loop-term l = record {
  once : AreOnce l.terms.items;
  form : FormNamed l.terms.items (take l.term-index l.form);
  continues : Continues l.fn.terms.items l.terms.items;
}
