use Rattle.std.proofs.Common.{◌<◌, ◌^◌, arith, sym, subst, length, get_or, pos}
use Rattle.std.specs.Prelude.{unsigned_abs}
use Rattle.e_simplex.specs.inner.Tried.{AreBelowBut}
use Rattle.e_simplex.proofs.forms_not_zero.NextPoints.{all_below}
use Rattle.e_simplex.proofs.disequalities.moved_point.Goals as goal

pub with_multiples-requires-in-None-clause-small_second : goal.with_multiples-requires-in-None-clause-small_second
with_multiples-requires-in-None-clause-small_second c j l =
    let b = all_below c.args.forms.now c.args.k c.args.found.now c.in_ok-second.second.items c.in_ok-second.ensures
    (subst (λ v. AreBelowBut v c.args.k) c.deref.ensures.value (rw c.in-None.is at c.large_place.ensures)) c.requires.below in
    subst (λ v. unsigned_abs (get_or v j (pos 0)) < 2 ^ 65) (sym c.deref-in-None-2.ensures.value)
    (omega (arith, b j (omega (arith, subst (λ v. j < length v) c.deref-in-None-2.ensures.value l, c.in_ok-second.ensures.shape))))
