use Rattle.std.proofs.Common.{◌≡◌, length, arith}
use Rattle.e_construct.proofs.Superposing.{fits_by_lines, fits_not}
use Rattle.e_construct.proofs.superpose.Superpose.fits.Goals as goal

pub returns-then-points : goal.returns-then-points
returns-then-points c =
    let e : length c.args.self.now.points ≡ 6 = omega arith in
    let f : length c.args.self.now.lines ≡ 2 = omega arith in
    fits_by_lines c.args.self.now c.args.scope _ _ e f c.if-points.true c.are_below-points.ensures c.are_below-lines.ensures

pub returns-else-points : goal.returns-else-points
returns-else-points c =
    let e : length c.args.self.now.points ≡ 6 = omega arith in
    let f : length c.args.self.now.lines ≡ 2 = omega arith in
    fits_not c.args.self.now c.args.scope _ e f c.if-points.false c.are_below-points.ensures
