use Rattle.e_construct.specs.inner.Views.{shape_row_view}
use Rattle.e_construct.proofs.Images.{needs_of}
use Rattle.e_construct.proofs.construction.needs_of_row.Goals as goal

pub returns : goal.returns
returns c =
    needs_of (shape_row_view c.args.row.now) c.args.args.now c.args.avoid.now _ _ _ c.new-lits.ensures.items c.in_ok-extend.ensures c.in_ok-need_apart.ensures
