use Rattle.std.proofs.Common.{refl, subst}
use Rattle.e_simplex.specs.Constraints.{FixedTo}
use Rattle.std.proofs.Common.{◌+◌, length}
use Rattle.e_simplex.proofs.outcomes.Solving.{begun}
use Rattle.e_simplex.proofs.table.Table.new.Goals as goal

pub returns : goal.returns
returns c =
    begun c.args.constraints.items c.args.width _ c.requires.some refl
    (subst (λ v. FixedTo (c.args.width + length v) v c.args.width c.in_ok-fixed.fixed.items) c.deref.ensures.value c.in_ok-fixed.ensures)
    c.in_ok-basis.ensures.items c.in_ok-columns.ensures c.in_ok-entries.ensures.items refl
