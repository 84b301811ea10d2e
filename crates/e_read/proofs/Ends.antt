-- The last of some objects.
use Rattle.std.proofs.Common.{◌≡◌, ◌≤◌, List, [], ◌∷◌, length, drop, refl, arith}
use Rattle.e_literal.specs.declared.object.Sort.{Sort}
use Rattle.e_read.specs.Owing.{ends_with}

-- it is the last of those after the first, where there are some
pub ends_after : (xs : List Sort) (sort : Sort) → 2 ≤ length xs → ends_with xs sort ≡ ends_with (drop 1 xs) sort
ends_after [] sort h = absurd (omega (arith, h))
ends_after (x ∷ []) sort h = absurd (omega (arith, h))
ends_after (x ∷ y ∷ xs) sort h = refl
