-- One row more, whose product is small.
use Rattle.std.proofs.Common.{◌≡◌, ◌≤◌, ◌+◌, ◌*◌, ◌^◌, ◌++◌, ◌∷◌, [], ◌+ℤ◌, ◌*ℤ◌, length, length-append, take, pos, ap, ap₂, sym, refl, subst, ◌∙◌, to_z, to_z-of_z, SFits, arith, rules, Some, Bor, ℤ}
use Rattle.std.specs.Prelude.{unsigned_abs}
use Rattle.std.proofs.lemmas.Slice.Zip.{zip_turn}
use mir.Syntax.{w128}
use Rattle.e_literal.specs.Rows.{coefficient}
use Rattle.e_literal.specs.Absurd.{total}
use Rattle.e_literal.proofs.Arith.{fits_wide}
use Rattle.e_fraction.specs.declared.row.Row.{Row}
use Rattle.e_fraction.specs.Limits.{has_small_coefficients}
use Rattle.e_fraction.specs.Views.{with_multipliers}
use Rattle.e_fraction.proofs.Sums.{small_row, good_multiplier, total_step, sum_size}
use Rattle.e_fraction.proofs.sum.total.Goals as goal

pub weigh-sum-requires-clause-row : goal.weigh-sum-requires-clause-row
weigh-sum-requires-clause-row c =
    let pair : Bor Row × Bor ℤ = (c.in-Some.row, c.in-Some.multiplier) in
    let here =
    zip_turn c.args.rows.now c.args.multipliers.now c.loop-row.yielded c.into_iter-row-iterator.result c.loop-row.row-iterator c.next.new.self (Some pair) (search rules) (search rules) c.loop-row.yielded_by pair refl c.in-Some.ensures.steps in
    ap (λ (r : Row). has_small_coefficients r.form) (here.2 c.in-Some.row.now)
    ∙ small_row c.args.rows.now (length c.loop-row.yielded) c.in-Some.row.now here.0 c.requires.coefficients

pub loop-row-preserved : goal.loop-row-preserved
loop-row-preserved c =
    let pair : Bor Row × Bor ℤ = (c.in-Some.row, c.in-Some.multiplier) in
    let here =
    zip_turn c.args.rows.now c.args.multipliers.now c.loop-row.yielded c.into_iter-row-iterator.result c.loop-row.row-iterator c.next.new.self (Some pair) (search rules) (search rules) c.loop-row.yielded_by pair refl c.in-Some.ensures.steps in
    let row = c.in-Some.row.now in
    let multiplier = c.in-Some.multiplier.now in
    let passed = length c.loop-row.yielded in
    let next : passed + 1 ≡ length (c.loop-row.yielded ++ pair ∷ []) = omega (arith, length-append c.loop-row.yielded (pair ∷ [])) in
    let good : unsigned_abs multiplier ≤ 2 ^ 80 =
    subst (λ z. unsigned_abs z ≤ 2 ^ 80) (sym (here.3 (pos 0))) (good_multiplier c.args.multipliers.now passed here.1 c.requires.multipliers) in
    let fm : SFits w128 multiplier = fits_wide multiplier (omega (arith, good)) in
    let v = simp to_z-of_z at c.weigh-sum.ensures.value in
    let fw : SFits w128 c.weigh-sum.result = fits_wide c.weigh-sum.result (omega (arith, c.weigh-sum.ensures.size)) in
    let s : unsigned_abs (to_z w128 c.loop-row.sum-bits +ℤ c.weigh-sum.result) ≤ (passed + 1) * 2 ^ 110
    = sum_size (to_z w128 c.loop-row.sum-bits) c.weigh-sum.result passed c.loop-row.invariant.size c.weigh-sum.ensures.size in
    let fs : SFits w128 (to_z w128 c.loop-row.sum-bits +ℤ c.weigh-sum.result)
    = fits_wide (to_z w128 c.loop-row.sum-bits +ℤ c.weigh-sum.result) (omega (arith, s, c.requires.few, here.0)) in
    simp to_z-of_z (record {
      value =
          total_step c.args.rows.now c.args.multipliers.now passed row c.args.term (to_z w128 c.loop-row.sum-bits) c.weigh-sum.result here.0 here.1 c.loop-row.invariant.value
          (v ∙ ap₂ (λ (m : ℤ) (r : Row). m *ℤ coefficient r.form c.args.term) (here.3 (pos 0)) (here.2 row))
          ∙ ap (λ n. total (with_multipliers (take n c.args.rows.now) (take n c.args.multipliers.now)) c.args.term) next;
      size = subst (λ n. unsigned_abs (to_z w128 c.loop-row.sum-bits +ℤ c.weigh-sum.result) ≤ n * 2 ^ 110) next s;
    })
