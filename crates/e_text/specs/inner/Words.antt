-- What every reserved word has, so that one byte shows of most names that they are none of them.
use Rattle.std.specs.Prelude.{ℕ, Bool, false, ◌&&◌, nat_le, List, ◌∷◌}

-- the second byte is a small letter
abbrev pub has_small_second : List ℕ → Bool
has_small_second (_ ∷ b ∷ _) = nat_le 97 b && nat_le b 122
has_small_second _ = false
