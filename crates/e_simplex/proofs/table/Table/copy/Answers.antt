use Rattle.std.proofs.Common.{to_z-of_z, ◌∙◌}
use Rattle.e_simplex.proofs.pivots.Pivoting.{fits_small}
use Rattle.e_simplex.proofs.outcomes.Copying.{same_solved}
use Rattle.e_simplex.proofs.table.Table.copy.Goals as goal

pub returns : goal.returns
returns c = λ w constraints h.
    same_solved w constraints c.args.self.now _ (c.in_ok-constraints.ensures ∙ c.deref-5.ensures.value) (c.in_ok-fixed.ensures.items ∙ c.deref.ensures.value)
    (c.in_ok-basis.ensures.items ∙ c.deref-2.ensures.value) (c.in_ok-columns.ensures.items ∙ c.deref-3.ensures.value) (c.in_ok-entries.ensures.items ∙ c.deref-4.ensures.value)
    (to_z-of_z (fits_small c.args.self.now.det h.table.sound.small_d)) h
