-- How a literal joins a list of facts.
use Rattle.std.proofs.Common.{◌≡◌, List, [], ◌∷◌, ◌++◌, false, true, refl}
use Rattle.std.proofs.lemmas.Grind.{common_steps}
use Rattle.e_literal.specs.declared.literal.Lit.{Lit}
use Rattle.e_literal.specs.Facts.{has, with_fact}

-- one that is there changes nothing
pub joined_present : (facts : List Lit) (l : Lit) → has facts l ≡ true → with_fact facts l ≡ facts
unfolding with_fact
joined_present facts l e = rw e refl

-- a new one stands last
pub joined_new : (facts : List Lit) (l : Lit) → has facts l ≡ false → with_fact facts l ≡ facts ++ l ∷ []
unfolding with_fact
joined_new facts l e = rw e refl

pub ruleset joining = (common_steps, joined_present, joined_new)
