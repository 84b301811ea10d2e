-- Certificates that are put one after another, each for its literal.
use Rattle.std.proofs.Common.{◌≡◌, List, [], ◌∷◌, length, refl, arith}
use Rattle.std.proofs.lemmas.Grind.{common_steps}
use Rattle.e_literal.specs.declared.literal.Lit.{Lit}
use Rattle.e_clause.specs.declared.cert.Cert.{Cert}
use Rattle.e_clause.specs.declared.cert.Part.{Part}
use Rattle.e_places.specs.Numbered.{parts_with_places, certs_with_places}

pub no_literal_parts : (facts ls : List Lit) (ps : List Part) → length ls ≡ 0 → parts_with_places facts ls ps ≡ []
no_literal_parts facts [] ps h = refl
no_literal_parts facts (l ∷ ls) ps h = absurd (omega (arith, h))

pub no_part : (facts ls : List Lit) (ps : List Part) → length ps ≡ 0 → parts_with_places facts ls ps ≡ []
no_part facts [] ps h = refl
no_part facts (l ∷ ls) [] h = refl
no_part facts (l ∷ ls) (p ∷ ps) h = absurd (omega (arith, h))

pub ruleset parts = (common_steps, no_literal_parts, no_part)

pub no_literal_certs : (facts ls : List Lit) (cs : List Cert) → length ls ≡ 0 → certs_with_places facts ls cs ≡ []
no_literal_certs facts [] cs h = refl
no_literal_certs facts (l ∷ ls) cs h = absurd (omega (arith, h))

pub no_cert : (facts ls : List Lit) (cs : List Cert) → length cs ≡ 0 → certs_with_places facts ls cs ≡ []
no_cert facts [] cs h = refl
no_cert facts (l ∷ ls) [] h = refl
no_cert facts (l ∷ ls) (c ∷ cs) h = absurd (omega (arith, h))

pub ruleset certs = (common_steps, no_literal_certs, no_cert)
