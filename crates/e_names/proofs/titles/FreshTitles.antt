-- A title that neither a theorem nor a definition has.
use Rattle.std.proofs.Common.{◌≡◌, Bool, true, false, cond, ◌||◌, Result, Ok, Err, refl}
use Rattle.e_line.specs.declared.fault.FaultKind.{FaultKind}
use Rattle.e_line.specs.declared.fault.FaultKind.TheVariants.{NameTaken}

pub neither : (a b : Bool) → (a || b) ≡ false → (a ≡ false) × (b ≡ false)
neither true b e = absurd cc
neither false b e = (refl, e)

pub both : (a b : Bool) → a ≡ false → b ≡ false → (a || b) ≡ false
both a b h k = rw h k

-- a line that was taken has a title that was free
pub was_free : {A : Type 0} (b : Bool) (r : Result A FaultKind) (x : A) → cond b (Err NameTaken) r ≡ Ok x → (b ≡ false) × (r ≡ Ok x)
was_free true r x e = absurd cc
was_free false r x e = (refl, e)
