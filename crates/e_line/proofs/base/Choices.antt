-- What is known of an answer that a test chose, or that a reading went on to.
use Rattle.std.proofs.Common.{◌≡◌, Bool, true, false, cond, Result, Ok, Err, refl, subst}
use Rattle.e_line.specs.declared.fault.FaultKind.{FaultKind}
use Rattle.e_line.specs.declared.fault.FaultKind.TheVariants.{Malformed}
use Rattle.e_line.specs.Reading.{◌>>=◌}
use Rattle.e_line.proofs.base.Bound.{bind_ok, ok_is, read_ok}

-- what holds of either answer holds of the one that a test chooses
pub either : {A : Type 0} (P : A → Type 0) (b : Bool) (x y : Result A FaultKind) (z : A) → cond b x y ≡ Ok z → (x ≡ Ok z → P z) → (y ≡ Ok z → P z) → P z
either P true x y z e hx hy = hx e
either P false x y z e hx hy = hy e

-- a test without which the text is malformed held
pub passed : {A : Type 0} (b : Bool) (x : Result A FaultKind) (y : A) → cond b x (Err Malformed) ≡ Ok y → (b ≡ true) × (x ≡ Ok y)
passed true x y e = (refl, e)
passed false x y e = absurd cc

-- what holds of all that is made of what is read holds of the answer
pub of_reading : {A B : Type 0} (P : B → Type 0) (r : Result A FaultKind) (f : A → B) (y : B) → ((x : A) → r ≡ Ok x → P (f x)) → (r >>= λ x. read_ok (f x)) ≡ Ok y → P y
of_reading P r f y h e = let a = bind_ok r (λ x. read_ok (f x)) y e in subst P (ok_is (f a.0) y a.2) (h a.0 a.1)
