use Rattle.std.proofs.Common.{◌≡◌, ◌<◌, ◌+◌, SFits, to_z-of_z, pos, true, false, length, get_or, arith, ap, sym, ◌∙◌, subst}
use mir.Syntax.{w128}
use Rattle.std.proofs.lemmas.List.{get_or_read}
use Rattle.e_simplex.specs.Least.{CannotEnter, fixed_at}
use Rattle.e_simplex.proofs.pivots.Pivoting.{fits_small}
use Rattle.e_simplex.proofs.outcomes.Spreading.{none_enters, bars_more}
use Rattle.e_simplex.proofs.table.Table.bars.Goals.{else-entry-ne0-via-then-entry-ne0+else-may_enter, else-entry-ne0-via-else-entry-ne0}
use Rattle.e_simplex.proofs.table.Table.bars.Goals as goal

pub loop-q-preserved : goal.loop-q-preserved
loop-q-preserved c =
    let t = c.args.self.now in
    let row = c.args.row.now in
    let q = c.loop-q.q in
    let here : c.loop-q.q < length c.args.row.now = c.loop-q-test.true in
    let column : c.loop-q.q < length c.args.self.now.columns.items = omega (arith, here, c.requires.row) in
    let f0 : SFits w128 (get_or c.args.row.now 0 (pos 0)) = fits_small (get_or row 0 (pos 0)) (c.requires.small 0 (omega (arith, here))) in
    let fq : SFits w128 (get_or c.args.row.now c.loop-q.q (pos 0)) = fits_small (get_or row q (pos 0)) (c.requires.small q here) in
    bars_more q (λ k. CannotEnter (get_or row 0 (pos 0)) (get_or row k (pos 0)) (fixed_at t.fixed.items (get_or t.columns.items k 0))) (elim c.else-entry-ne0.branch [
      | else-entry-ne0-via-then-entry-ne0+else-may_enter w ↦
          (let h = simp to_z-of_z at w.may_enter.ensures.cannot in
          let number : get_or c.args.self.now.columns.items c.loop-q.q 0 ≡ w.index.result.now = sym (get_or_read t.columns.items q w.index.result.now column w.index.ensures 0) in
          let below : w.index.result.now < length c.args.self.now.fixed.items = omega (arith, number, c.requires.shape.columns_below q column) in
          let fixed : get_or c.args.self.now.fixed.items w.index.result.now true ≡ w.index-then-entry-ne0.result.now
          = sym (get_or_read t.fixed.items w.index.result.now w.index-then-entry-ne0.result.now below w.index-then-entry-ne0.ensures true) in
          subst (CannotEnter (get_or row 0 (pos 0)) (get_or row q (pos 0))) (sym (ap (fixed_at t.fixed.items) number ∙ fixed)) (h w.if-may_enter.false))
      | else-entry-ne0-via-else-entry-ne0 w ↦
          (let z : get_or c.args.row.now c.loop-q.q (pos 0) ≡ pos 0 = sym (to_z-of_z fq) ∙ ap (Rattle.std.proofs.Common.to_z w128) w.if-entry-ne0.false in
          none_enters (get_or row 0 (pos 0)) (get_or row q (pos 0)) (fixed_at t.fixed.items (get_or t.columns.items q 0)) z)
    ]) c.loop-q.invariant
