use Rattle.std.proofs.Common.{pos, get_or, SFits, to_z-of_z, arith}
use mir.Syntax.{w128}
use Rattle.e_simplex.proofs.columns.Forms.{fits_type}
use Rattle.e_simplex.proofs.forms_not_zero.Multiples.{fits_size}
use Rattle.e_simplex.proofs.multiple.added_at.Goals as goal

pub returns : goal.returns
returns c =
    let a = get_or c.args.first.now c.args.j (pos 0) in
    let b = get_or c.args.second.now c.args.j (pos 0) in
    let fa : SFits w128 (get_or c.args.first.now c.args.j (pos 0)) = fits_size a (omega (arith, c.requires.small_first)) in
    let fb : SFits w128 (get_or c.args.second.now c.args.j (pos 0)) = fits_size b (omega (arith, c.requires.small_second)) in
    let fr : SFits w128 c.with_multiple.result = fits_type c.with_multiple.result c.with_multiple.type_inv in
    let e = simp to_z-of_z at c.with_multiple.ensures in
    simp to_z-of_z e
