use Rattle.std.proofs.Common.{◌≡◌, ◌∙◌, ◌+◌, SFits, to_z-of_z, length, length-set, get_or, arith, ap, sym, subst}
use mir.Syntax.{w128}
use Rattle.e_simplex.specs.Entries.{at}
use Rattle.e_simplex.specs.inner.Readings.{AreSpread}
use Rattle.e_simplex.proofs.pivots.Pivoting.{fits_small}
use Rattle.e_simplex.proofs.outcomes.Spreading.{spread_write, spread_skip, values_spread}
use Rattle.e_simplex.proofs.outcomes.Solving.{solved_values, solved_bounds, solved_further}
use Rattle.e_simplex.proofs.table.Table.values.Goals.{then-number-w, else-number-w}
use Rattle.e_simplex.proofs.table.Table.values.Goals as goal

pub loop-row-preserved : goal.loop-row-preserved
loop-row-preserved c =
    let t = c.args.self.now in
    let row = c.loop-row.row in
    let ew : c.len-w.result ≡ length c.args.self.now.columns.items = c.len-w.ensures ∙ t.columns.ok.0 in
    let number : get_or c.deref-number-items.result.now c.loop-row.row 0 ≡ get_or c.args.self.now.basis.items c.loop-row.row 0 = ap (λ v. get_or v c.loop-row.row 0) c.deref-number-items.ensures.value in
    elim c.if-number-w.branch [
      | then-number-w w ↦
          (let fv : SFits w128 w.value.result = fits_small w.value.result w.value.ensures.small in
          let e = simp to_z-of_z at (ap (λ x. x.items) w.values-is) in
          let p = get_or c.deref-number-items.result.now c.loop-row.row 0 in
          record {
            shape = ap length e ∙ length-set c.loop-row.values.items p w.value.result ∙ c.loop-row.invariant.shape;
            spread = spread_write row t.basis.items 0 (λ k. at t.entries.items (length t.columns.items) k 0) c.loop-row.values.items c.if-number-w.values.items p w.value.result e
                (omega (arith, w.if-number-w.true, ew, c.loop-row.invariant.shape)) (omega (arith, number)) w.value.ensures.value w.value.ensures.small c.loop-row.invariant.spread;
          })
      | else-number-w w ↦
          (let e = ap (λ x. x.items) w.values-is in
          record {
            shape = ap length e ∙ c.loop-row.invariant.shape;
            spread = subst (AreSpread (row + 1) t.basis.items 0 (λ k. at t.entries.items (length t.columns.items) k 0)) (sym e)
                (spread_skip row t.basis.items 0 (λ k. at t.entries.items (length t.columns.items) k 0) c.loop-row.values.items
                (λ p l z. omega (arith, w.if-number-w.false, ew, number, z, l, c.loop-row.invariant.shape)) c.loop-row.invariant.spread);
          })
    ]

pub returns-clause-solution : goal.returns-clause-solution
returns-clause-solution c =
    let t = c.args.self.now in
    let e : c.loop-row.row ≡ length t.basis.items = omega (arith, ap length c.deref-number-items.ensures.value) in
    solved_values t c.requires c.loop-row.values.items (values_spread t.basis.items t.entries.items (length t.columns.items) c.loop-row.row c.loop-row.values.items c.loop-row.invariant.shape e c.loop-row.invariant.spread)

pub returns-clause-bounded : goal.returns-clause-bounded
returns-clause-bounded c =
    let t = c.args.self.now in
    let e : c.loop-row.row ≡ length t.basis.items = omega (arith, ap length c.deref-number-items.ensures.value) in
    solved_bounds t c.requires c.loop-row.values.items (values_spread t.basis.items t.entries.items (length t.columns.items) c.loop-row.row c.loop-row.values.items c.loop-row.invariant.shape e c.loop-row.invariant.spread)

pub returns-clause-further : goal.returns-clause-further
returns-clause-further c =
    let t = c.args.self.now in
    let e : c.loop-row.row ≡ length t.basis.items = omega (arith, ap length c.deref-number-items.ensures.value) in
    solved_further t c.requires c.loop-row.values.items (values_spread t.basis.items t.entries.items (length t.columns.items) c.loop-row.row c.loop-row.values.items c.loop-row.invariant.shape e c.loop-row.invariant.spread)
