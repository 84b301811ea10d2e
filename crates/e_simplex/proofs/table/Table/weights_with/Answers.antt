use Rattle.std.proofs.Common.{◌≡◌, ◌∙◌, ◌+◌, ◌-◌, ◌<◌, SFits, to_z-of_z, pos, ◌-ℤ◌, length, length-set, get_or, arith, ap, sym, subst}
use Rattle.std.specs.Prelude.{neg_ℤ}
use mir.Syntax.{w128}
use Rattle.e_literal.proofs.Arith.{sums}
use Rattle.e_simplex.specs.Entries.{turn, IsSmall}
use Rattle.e_simplex.specs.inner.Readings.{AreSpread}
use Rattle.e_simplex.proofs.pivots.Pivoting.{fits_small, size_negated}
use Rattle.e_simplex.proofs.outcomes.Spreading.{spread_write, spread_skip}
use Rattle.e_simplex.proofs.table.Table.weights_with.Goals.{then-w-number, else-w-number}
use Rattle.e_simplex.proofs.table.Table.weights_with.Goals as goal

pub loop-q-preserved : goal.loop-q-preserved
loop-q-preserved c =
    let t = c.args.self.now in
    let row = c.args.row.now in
    let q = c.loop-q.q in
    let s = c.requires.solved in
    let ew : c.len-w.result ≡ length c.args.self.now.columns.items = c.len-w.ensures ∙ t.columns.ok.0 in
    let same = c.deref-number-items.ensures.value in
    let here : c.loop-q.q < length c.args.self.now.columns.items = subst (λ v. c.loop-q.q < length v) same c.loop-q-test.true in
    let number : get_or c.deref-number-items.result.now c.loop-q.q 0 ≡ get_or c.args.self.now.columns.items c.loop-q.q 0 = ap (λ v. get_or v c.loop-q.q 0) same in
    let below : get_or c.args.self.now.columns.items c.loop-q.q 0 < length c.args.self.now.columns.items + length c.args.self.now.basis.items
    = omega (arith, s.table.sound.columns_below q here, s.table.rows_many) in
    let f0 : SFits w128 (get_or c.args.row.now 0 (pos 0)) = fits_small (get_or row 0 (pos 0)) (c.requires.small 0 (omega (arith, c.requires.row, here))) in
    let fq : SFits w128 (get_or c.args.row.now c.loop-q.q (pos 0)) = fits_small (get_or row q (pos 0)) (c.requires.small q (omega (arith, c.requires.row, here))) in
    elim c.if-w-number.branch [
      | then-w-number w ↦
          (let h = simp to_z-of_z at w.with_sign_of.ensures.value in
          let ft : SFits w128 w.with_sign_of.result = fits_small w.with_sign_of.result w.with_sign_of.ensures.small in
          let k : IsSmall (pos 0 -ℤ w.with_sign_of.result) = omega (arith, size_negated w.with_sign_of.result, w.with_sign_of.ensures.small) in
          let fs : SFits w128 (pos 0 -ℤ w.with_sign_of.result) = fits_small (pos 0 -ℤ w.with_sign_of.result) k in
          let e = simp to_z-of_z at (ap (λ x. x.items) w.weights-is) in
          let p = get_or c.deref-number-items.result.now c.loop-q.q 0 - c.len-w.result in
          record {
            shape = ap length e ∙ length-set c.loop-q.weights.items p (pos 0 -ℤ w.with_sign_of.result) ∙ c.loop-q.invariant.shape;
            spread = spread_write q t.columns.items (length t.columns.items) (λ a. neg_ℤ (turn (get_or row 0 (pos 0)) (get_or row a (pos 0)))) c.loop-q.weights.items c.if-w-number.weights.items p
                (pos 0 -ℤ w.with_sign_of.result) e (omega (arith, number, below, ew, w.if-w-number.true, c.loop-q.invariant.shape)) (omega (arith, number, ew, w.if-w-number.true)) (omega (arith, sums, h)) k c.loop-q.invariant.spread;
          })
      | else-w-number w ↦
          (let e = ap (λ x. x.items) w.weights-is in
          record {
            shape = ap length e ∙ c.loop-q.invariant.shape;
            spread = subst (AreSpread (q + 1) t.columns.items (length t.columns.items) (λ a. neg_ℤ (turn (get_or row 0 (pos 0)) (get_or row a (pos 0))))) (sym e)
                (spread_skip q t.columns.items (length t.columns.items) (λ a. neg_ℤ (turn (get_or row 0 (pos 0)) (get_or row a (pos 0)))) c.loop-q.weights.items
                (λ p l z. omega (arith, number, z, ew, w.if-w-number.false)) c.loop-q.invariant.spread);
          })
    ]

pub returns : goal.returns
returns c =
    let t = c.args.self.now in
    let row = c.args.row.now in
    let s = c.requires.solved in
    let f0 : SFits w128 (get_or c.args.row.now 0 (pos 0)) = fits_small (get_or row 0 (pos 0)) (c.requires.small 0 (omega (arith, c.requires.row, s.fit.some))) in
    let fd : SFits w128 c.args.self.now.det = fits_small t.det s.table.sound.small_d in
    let h = simp to_z-of_z at c.with_sign_of-2.ensures.value in
    let ft : SFits w128 c.with_sign_of-2.result = fits_small c.with_sign_of-2.result c.with_sign_of-2.ensures.small in
    let k : IsSmall (pos 0 -ℤ c.with_sign_of-2.result) = omega (arith, size_negated c.with_sign_of-2.result, c.with_sign_of-2.ensures.small) in
    let fs : SFits w128 (pos 0 -ℤ c.with_sign_of-2.result) = fits_small (pos 0 -ℤ c.with_sign_of-2.result) k in
    let e = simp to_z-of_z at c.in_ok-push.ensures.items in
    let same = c.deref-number-items.ensures.value in
    let done : c.loop-q.q ≡ length c.args.self.now.columns.items = omega (arith, ap length same) in
    record {
      first = c.loop-q.weights.items;
      own = pos 0 -ℤ c.with_sign_of-2.result;
      are = e;
      shape = c.loop-q.invariant.shape;
      own_is = omega (arith, sums, h);
      own_small = k;
      spread = subst (λ n. AreSpread n t.columns.items (length t.columns.items) (λ a. neg_ℤ (turn (get_or row 0 (pos 0)) (get_or row a (pos 0)))) c.loop-q.weights.items) done c.loop-q.invariant.spread;
    }
