-- Words that a test of both tells apart are not the same.
use Rattle.std.proofs.Common.{◌≡◌, ℕ, Bool, true, false, List, refl, sym, ◌∙◌, true≢false, IsTrue}
use Rattle.std.specs.Str.{bytes_eq}
use Rattle.std.proofs.lemmas.Slice.Eq.{bytes_eq-Decides}

pub not_alike : (a b : List ℕ) (alike : Bool) → (a ≡ b → IsTrue alike) → alike ≡ false → false ≡ bytes_eq a b
not_alike a b alike same is = by (bytes_eq a b) refl
  where
    by : (equal : Bool) → bytes_eq a b ≡ equal → false ≡ equal
    by true e = absurd (true≢false (sym (same ((bytes_eq-Decides a b).0 e)) ∙ is))
    by false e = refl
