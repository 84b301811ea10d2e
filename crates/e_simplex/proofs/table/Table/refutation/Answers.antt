use Rattle.std.proofs.Common.{◌≡◌, ◌<◌, SFits, to_z-of_z, pos, length, get_or, arith, subst}
use mir.Syntax.{w128}
use Rattle.std.proofs.lemmas.List.{get_or_read}
use Rattle.e_simplex.specs.Entries.{AllSmall}
use Rattle.e_simplex.specs.Least.{IsViolated, CannotEnter, fixed_at}
use Rattle.e_simplex.specs.inner.Readings.{WeightsWith}
use Rattle.e_simplex.proofs.pivots.Pivoting.{fits_small}
use Rattle.e_simplex.proofs.outcomes.Further.{further_absurd}
use Rattle.e_simplex.proofs.table.Table.refutation.Goals as goal

pub returns : goal.returns
returns c =
    let t = c.args.self.now in
    let l = c.args.constraint.now in
    let row = c.in_ok-row.row.items in
    let some : 0 < length c.in_ok-row.row.items = omega (arith, c.in_ok-row.ensures.shape, c.requires.solved.fit.some) in
    let small : AllSmall c.in_ok-row.row.items = subst AllSmall c.deref.ensures.value (c.has_wide.ensures.small c.if-has_wide.false) in
    let first : c.index.result.now ≡ get_or c.in_ok-row.row.items 0 (pos 0) = get_or_read row 0 c.index.result.now some c.index.ensures (pos 0) in
    let fi : SFits w128 c.index.result.now = fits_small c.index.result.now (omega (arith, Rattle.std.proofs.Common.ap Rattle.std.specs.Prelude.unsigned_abs first, small 0 some)) in
    let h = simp to_z-of_z at c.violates.ensures.violated in
    let violated : IsViolated (get_or c.in_ok-row.row.items 0 (pos 0)) (Rattle.e_simplex.specs.Constraints.is_zero_sense c.args.constraint.now.sense)
    = subst (IsViolated (get_or row 0 (pos 0))) c.is_zero.ensures (subst (λ v. IsViolated v c.is_zero.result) first (h c.if-not-violates.false)) in
    let bars = c.bars.ensures c.if-not-bars.false in
    further_absurd t c.requires.solved l c.requires.fit row c.in_ok-row.ensures small violated
    (subst (λ v. (q : _) → q < length v → CannotEnter (get_or v 0 (pos 0)) (get_or v q (pos 0)) (fixed_at t.fixed.items (get_or t.columns.items q 0))) c.deref-else-not-violates.ensures.value bars)
    c.in_ok-weights.weights.items
    (subst (λ v. WeightsWith (length t.basis.items) t.columns.items t.det v c.in_ok-weights.weights.items) c.deref-2.ensures.value c.in_ok-weights.ensures)
