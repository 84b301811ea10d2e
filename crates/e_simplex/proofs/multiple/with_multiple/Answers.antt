use Rattle.std.proofs.Common.{◌≡◌, pos, ◌+ℤ◌, ◌*ℤ◌, to_z, SFits, to_z-of_z, arith}
use Rattle.std.proofs.lemmas.Int.{to_z_pos}
use mir.Syntax.{w128}
use Rattle.e_simplex.proofs.forms_not_zero.Multiples.{multiple_size, added_size, fits_size}
use Rattle.e_simplex.proofs.multiple.with_multiple.Goals as goal

pub overflow_add-result : goal.overflow_add-result
overflow_add-result c =
    let a = c.args.x in
    let b = c.args.y in
    let et : to_z w128 c.args.t ≡ pos c.args.t = to_z_pos w128 c.args.t (omega (arith, c.requires.few)) in
    let fa : SFits w128 (c.args.x) = fits_size a (omega (arith, c.requires.small_first)) in
    let fb : SFits w128 (c.args.y) = fits_size b (omega (arith, c.requires.small_second)) in
    let s = multiple_size b c.args.t c.requires.small_second c.requires.few in
    let fx : SFits w128 (pos c.args.t *ℤ c.args.y) = fits_size (pos c.args.t *ℤ b) (omega (arith, s)) in
    let r = added_size a (pos c.args.t *ℤ b) c.requires.small_first s in
    simp (et, to_z-of_z) (fits_size (a +ℤ pos c.args.t *ℤ b) (omega (arith, r)))

pub returns : goal.returns
returns c =
    let a = c.args.x in
    let b = c.args.y in
    let et : to_z w128 c.args.t ≡ pos c.args.t = to_z_pos w128 c.args.t (omega (arith, c.requires.few)) in
    let fa : SFits w128 (c.args.x) = fits_size a (omega (arith, c.requires.small_first)) in
    let fb : SFits w128 (c.args.y) = fits_size b (omega (arith, c.requires.small_second)) in
    let s = multiple_size b c.args.t c.requires.small_second c.requires.few in
    let fx : SFits w128 (pos c.args.t *ℤ c.args.y) = fits_size (pos c.args.t *ℤ b) (omega (arith, s)) in
    let r = added_size a (pos c.args.t *ℤ b) c.requires.small_first s in
    let fr : SFits w128 (c.args.x +ℤ pos c.args.t *ℤ c.args.y) = fits_size (a +ℤ pos c.args.t *ℤ b) (omega (arith, r)) in
    simp (et, to_z-of_z)
