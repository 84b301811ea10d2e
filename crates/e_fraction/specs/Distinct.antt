-- Terms that come once.
use Rattle.std.specs.Prelude.{[], ◌∷◌, Bool, true, not, ◌&&◌}
use Rattle.std.specs.List.{list_any}
use Rattle.e_literal.specs.Same.{term_eq}
use Rattle.e_literal.specs.Rows.{Summands}

-- no term comes twice in the form
abbrev pub have_distinct_terms : Summands → Bool
have_distinct_terms [] = true
have_distinct_terms (p ∷ ps) = not (list_any (λ q. term_eq q.1 p.1) ps) && have_distinct_terms ps
