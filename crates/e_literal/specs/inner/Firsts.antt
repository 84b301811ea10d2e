-- The first term of an equation, at which most equations that are not the same differ already.
use Rattle.std.specs.Prelude.{List, [], ◌∷◌, Bool, true, ◌||◌}
use Rattle.e_literal.specs.declared.object.Mono.{Mono}
use Rattle.e_literal.specs.Same.{agree_at}

-- at the first term of x, x - y has the coefficient of z - w or of w - z
abbrev pub agree_at_first : List Mono → List Mono → List Mono → List Mono → Bool
agree_at_first [] y z w = true
agree_at_first (m ∷ ms) y z w = agree_at (m ∷ ms) y z w m.term || agree_at (m ∷ ms) y w z m.term
