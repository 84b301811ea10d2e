-- The arguments of an earlier theorem, read one after another.
use Rattle.std.proofs.Common.{◌≡◌, ℕ, List, [], ◌∷◌, Option, inl, inr, Ok, refl}
use Rattle.std.specs.Prelude.{◌⊎◌}
use Rattle.e_literal.specs.declared.object.Sort.{Sort}
use Rattle.e_deriv.specs.declared.names.Names.{Names}
use Rattle.e_names.specs.Applies.{entries_in}

-- no argument is left, or no sort
pub none_entered : (ns : Names) (sorts : List Sort) (names : List (Option (List ℕ))) → (sorts ≡ []) ⊎ (names ≡ []) → entries_in ns sorts names ≡ Ok []
none_entered ns [] names e = refl
none_entered ns (s ∷ sorts) [] e = refl
none_entered ns (s ∷ sorts) (n ∷ names) (inl e) = absurd cc
none_entered ns (s ∷ sorts) (n ∷ names) (inr e) = absurd cc
