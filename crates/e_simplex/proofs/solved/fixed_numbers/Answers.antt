use Rattle.std.proofs.Common.{◌≡◌, ◌+◌, arith, subst}
use Rattle.e_simplex.specs.Constraints.{FixedTo}
use Rattle.e_simplex.proofs.solved.fixed_numbers.Goals as goal

pub loop-constraint-init : goal.loop-constraint-init
loop-constraint-init c =
    let e : c.loop-column._column ≡ c.args.w + 0 = omega (arith, c.loop-column-test.false, c.requires.some) in
    subst (λ n. FixedTo n c.args.constraints.now c.args.w c.loop-column.fixed.items) e c.loop-column.invariant
