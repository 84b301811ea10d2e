use Rattle.std.proofs.Common.{◌≡◌, ◌+◌, ◌^◌, ◌<◌, ◌++◌, ◌∷◌, [], ◌+ℤ◌, ◌*ℤ◌, ℤ, length, length-append, pos, ap₂, sym, refl, subst, ◌∙◌, SFits, to_z-of_z, arith, rules, Some, Bor}
use Rattle.std.specs.Prelude.{unsigned_abs}
use Rattle.std.proofs.lemmas.Slice.Zip.{zip_turn, zip_end}
use mir.Syntax.{w128}
use Rattle.e_simplex.specs.inner.Multiple.{AddedTo}
use Rattle.e_simplex.proofs.columns.Forms.{fits_type}
use Rattle.e_simplex.proofs.forms_not_zero.Multiples.{added_more, fits_size}
use Rattle.e_simplex.proofs.multiple.with_multiples.Goals as goal

pub loop-x-preserved : goal.loop-x-preserved
loop-x-preserved c =
    let first = c.args.first.now in
    let second = c.args.second.now in
    let passed = length c.loop-x.yielded in
    let pair : Bor ℤ × Bor ℤ = (c.in-Some.x, c.in-Some.y) in
    let here =
    zip_turn first second c.loop-x.yielded c.into_iter-x-iterator.result c.loop-x.x-iterator c.next.new.self (Some pair) (search rules) (search rules) c.loop-x.yielded_by pair refl c.in-Some.ensures.steps in
    let small_x : unsigned_abs c.in-Some.x.now < 2 ^ 90 = subst (λ z. unsigned_abs z < 2 ^ 90) (sym (here.2 (pos 0))) (c.requires.small_first passed here.0) in
    let small_y : unsigned_abs c.in-Some.y.now < 2 ^ 65 = subst (λ z. unsigned_abs z < 2 ^ 65) (sym (here.3 (pos 0))) (c.requires.small_second passed here.1) in
    let fx : SFits w128 c.in-Some.x.now = fits_size c.in-Some.x.now (omega (arith, small_x)) in
    let fy : SFits w128 c.in-Some.y.now = fits_size c.in-Some.y.now (omega (arith, small_y)) in
    let fv : SFits w128 c.with_multiple.result = fits_type c.with_multiple.result c.with_multiple.type_inv in
    let e = simp to_z-of_z at c.in_ok-push.ensures.items in
    let v = simp to_z-of_z at c.with_multiple.ensures in
    let next : passed + 1 ≡ length (c.loop-x.yielded ++ pair ∷ []) = omega (arith, length-append c.loop-x.yielded (pair ∷ [])) in
    subst (λ n. AddedTo n first second c.args.t c.push.new.self.items) next
    (added_more passed first second c.args.t c.loop-x.all.items c.push.new.self.items c.with_multiple.result e c.loop-x.invariant
    (v ∙ ap₂ (λ (x y : ℤ). x +ℤ pos c.args.t *ℤ y) (here.2 (pos 0)) (here.3 (pos 0))))

pub returns : goal.returns
returns c =
    let many =
    zip_end c.args.first.now c.args.second.now c.loop-x.yielded c.into_iter-x-iterator.result c.loop-x.x-iterator c.next.new.self c.next.result (search rules) (search rules) c.loop-x.yielded_by c.in-None.is c.next.ensures.steps in
    subst (λ n. AddedTo n c.args.first.now c.args.second.now c.args.t c.loop-x.all.items) (omega (arith, many, c.requires.lengths)) c.loop-x.invariant
