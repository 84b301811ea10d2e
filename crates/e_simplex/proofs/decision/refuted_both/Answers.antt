use Rattle.std.proofs.Common.{◌++◌, ◌-◌, arith, length, get_or, pos, SFits, to_z-of_z, []}
use mir.Syntax.{w128}
use Rattle.e_fraction.specs.Views.{views_of_rows}
use Rattle.e_simplex.proofs.verdicts.RowMultipliers.{nots_most}
use Rattle.e_simplex.specs.declared.constraints.Constraint.{Constraint}
use Rattle.e_simplex.specs.declared.constraints.ConstraintSense.TheVariants.{More}
use Rattle.e_simplex.proofs.verdicts.Assigning.{none_two}
use Rattle.e_simplex.proofs.verdicts.Refuting.{small_anywhere, is_below, above_long, below_long, both_refute}
use Rattle.e_simplex.proofs.decision.refuted_both.Goals as goal
use Rattle.e_literal.proofs.Arith.{fits_wide}

some : Constraint
some = record { sense = More; form = [] }

pub place_of_not_in-row-requires-clause-here : goal.place_of_not_in-row-requires-clause-here
place_of_not_in-row-requires-clause-here c = is_below c.requires.weights.terms (c.args.rows.now ++ c.args.more.now) c.args.k c.args.above.now c.args.below.now c.requires.weights.once c.requires.weights.named c.requires.weights.both

pub overflow_sub-last : goal.overflow_sub-last
overflow_sub-last c = omega (arith, above_long c.requires.weights.terms (c.args.rows.now ++ c.args.more.now) c.args.k c.args.above.now c.args.below.now c.requires.weights.once c.requires.weights.named c.requires.weights.both)

pub bounds-above-above : goal.bounds-above-above
bounds-above-above c = omega (arith, above_long c.requires.weights.terms (c.args.rows.now ++ c.args.more.now) c.args.k c.args.above.now c.args.below.now c.requires.weights.once c.requires.weights.named c.requires.weights.both)

pub overflow_add-k : goal.overflow_add-k
overflow_add-k c = omega (arith, is_below c.requires.weights.terms (c.args.rows.now ++ c.args.more.now) c.args.k c.args.above.now c.args.below.now c.requires.weights.once c.requires.weights.named c.requires.weights.both, nots_most (c.args.rows.now ++ c.args.more.now), c.requires.few)

pub overflow_sub-last-2 : goal.overflow_sub-last-2
overflow_sub-last-2 c = omega (arith, below_long c.requires.weights.terms (c.args.rows.now ++ c.args.more.now) c.args.k c.args.above.now c.args.below.now c.requires.weights.once c.requires.weights.named c.requires.weights.both)

pub bounds-below-below : goal.bounds-below-below
bounds-below-below c = omega (arith, below_long c.requires.weights.terms (c.args.rows.now ++ c.args.more.now) c.args.k c.args.above.now c.args.below.now c.requires.weights.once c.requires.weights.named c.requires.weights.both)

pub overflow_add-k-2 : goal.overflow_add-k-2
overflow_add-k-2 c = omega (arith, is_below c.requires.weights.terms (c.args.rows.now ++ c.args.more.now) c.args.k c.args.above.now c.args.below.now c.requires.weights.once c.requires.weights.named c.requires.weights.both, nots_most (c.args.rows.now ++ c.args.more.now), c.requires.few)

pub returns : goal.returns
returns c =
    let al = above_long c.requires.weights.terms (c.args.rows.now ++ c.args.more.now) c.args.k c.args.above.now c.args.below.now c.requires.weights.once c.requires.weights.named c.requires.weights.both in
    let bl = below_long c.requires.weights.terms (c.args.rows.now ++ c.args.more.now) c.args.k c.args.above.now c.args.below.now c.requires.weights.once c.requires.weights.named c.requires.weights.both in
    let fa : SFits w128 (get_or c.args.above.now (length c.args.above.now - 1) (pos 0))
    = fits_wide (get_or c.args.above.now (length c.args.above.now - 1) (pos 0)) (omega (arith, small_anywhere c.args.above.now (c.requires.weights.both.above_absurd some).small (length c.args.above.now - 1))) in
    let fb : SFits w128 (get_or c.args.below.now (length c.args.below.now - 1) (pos 0))
    = fits_wide (get_or c.args.below.now (length c.args.below.now - 1) (pos 0)) (omega (arith, small_anywhere c.args.below.now (c.requires.weights.both.below_absurd some).small (length c.args.below.now - 1))) in
    let ea = simp to_z-of_z at c.in_ok-above.ensures in
    let eb = simp to_z-of_z at c.in_ok-below.ensures in
    record {
      refutes = both_refute c.requires.weights.terms (c.args.rows.now ++ c.args.more.now) c.args.k c.args.above.now c.args.below.now c.requires.weights.once c.requires.weights.named c.requires.weights.both
          c.place_of_not_in-row.result (length c.args.above.now - 1) (length c.args.below.now - 1) c.in_ok-above.above.items c.in_ok-below.below.items
          c.place_of_not_in-row.ensures.is_not c.place_of_not_in-row.ensures.before (omega (arith, al)) (omega (arith, bl)) ea eb;
      none = λ s. none_two c.requires.weights.terms (views_of_rows (c.args.rows.now ++ c.args.more.now)) c.requires.weights.named s c.args.k c.args.above.now c.args.below.now c.requires.weights.both;
    }
