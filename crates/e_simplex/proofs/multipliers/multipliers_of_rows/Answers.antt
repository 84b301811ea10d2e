use Rattle.std.proofs.Common.{SFits, to_z-of_z, arith, length-append, []}
use mir.Syntax.{w128}
use Rattle.e_simplex.proofs.verdicts.RowMultipliers.{seen_none, seen_most}
use Rattle.e_simplex.proofs.multipliers.multipliers_of_rows.Goals as goal

pub add_multipliers-requires-2-clause-few : goal.add_multipliers-requires-2-clause-few
add_multipliers-requires-2-clause-few c =
    let fl : SFits w128 c.args.last = c.ranges.last in
    let h = simp to_z-of_z at c.in_ok-nots.ensures in
    let first = h [] (seen_none c.args.weights.now c.args.tried c.args.last c.in_ok-all.all.items c.in_ok-all.ensures.items) in
    omega (arith, first.many, length-append c.args.rows.now c.args.more.now, c.requires)

pub add_multipliers-requires-2-clause-nots : goal.add_multipliers-requires-2-clause-nots
add_multipliers-requires-2-clause-nots c =
    let fl : SFits w128 c.args.last = c.ranges.last in
    let h = simp to_z-of_z at c.in_ok-nots.ensures in
    let first = h [] (seen_none c.args.weights.now c.args.tried c.args.last c.in_ok-all.all.items c.in_ok-all.ensures.items) in
    seen_most c.args.rows.now c.args.weights.now c.args.tried c.args.last c.in_ok-nots.nots c.add_multipliers.new.all.items first

pub returns : goal.returns
returns c =
    let fl : SFits w128 c.args.last = c.ranges.last in
    let h = simp to_z-of_z at c.in_ok-nots.ensures in
    let g = simp to_z-of_z at c.in_ok-_all_nots.ensures in
    let first = h [] (seen_none c.args.weights.now c.args.tried c.args.last c.in_ok-all.all.items c.in_ok-all.ensures.items) in
    let all = g c.args.rows.now first in
    all.value
