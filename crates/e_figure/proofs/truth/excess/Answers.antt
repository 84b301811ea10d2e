-- The distance and both squares are small enough.
use Rattle.std.proofs.Common.{◌≤◌, ◌^◌, ◌+◌, to_z-of_z, SFits, arith}
use Rattle.std.specs.Prelude.{unsigned_abs}
use mir.Syntax.{w128}
use Rattle.e_literal.proofs.Arith.{fits_wide}
use Rattle.e_figure.proofs.Drawable.{square_small}
use Rattle.e_figure.proofs.truth.excess.Goals as goal

pub less_square-requires-clause-a : goal.less_square-requires-clause-a
less_square-requires-clause-a c =
    let s = square_small c.args.c c.requires.c in
    let fa : SFits w128 c.dist-apart.result = fits_wide c.dist-apart.result (omega (arith, c.dist-apart.ensures.size)) in
    let z : unsigned_abs c.less_square-rest.result ≤ unsigned_abs c.dist-apart.result + c.args.c.square = simp to_z-of_z at c.less_square-rest.ensures.size in
    let rest : unsigned_abs c.less_square-rest.result ≤ 2 ^ 44 = omega (arith, z, c.dist-apart.ensures.size, s) in
    let fr : SFits w128 c.less_square-rest.result = fits_wide c.less_square-rest.result (omega (arith, rest)) in
    simp to_z-of_z rest

pub less_square-requires-clause-square : goal.less_square-requires-clause-square
less_square-requires-clause-square c = square_small c.args.e c.requires.e

pub returns-clause-size : goal.returns-clause-size
returns-clause-size c =
    let s = square_small c.args.c c.requires.c in
    let t = square_small c.args.e c.requires.e in
    let fa : SFits w128 c.dist-apart.result = fits_wide c.dist-apart.result (omega (arith, c.dist-apart.ensures.size)) in
    let z : unsigned_abs c.less_square-rest.result ≤ unsigned_abs c.dist-apart.result + c.args.c.square = simp to_z-of_z at c.less_square-rest.ensures.size in
    let fr : SFits w128 c.less_square-rest.result = fits_wide c.less_square-rest.result (omega (arith, z, c.dist-apart.ensures.size, s)) in
    let y : unsigned_abs c.less_square.result ≤ unsigned_abs c.less_square-rest.result + c.args.e.square = simp to_z-of_z at c.less_square.ensures.size in
    let all : unsigned_abs c.less_square.result ≤ 2 ^ 44 = omega (arith, y, z, c.dist-apart.ensures.size, s, t) in
    let f : SFits w128 c.less_square.result = fits_wide c.less_square.result (omega (arith, all)) in
    simp to_z-of_z all
