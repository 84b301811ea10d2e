-- The certificates of a derivation, put back at the lines of its script.
use Rattle.std.proofs.Common.{◌≡◌, List, [], ◌∷◌, ◌++◌, Option, Some, None, refl, append_assoc}
use Rattle.std.specs.Option.{option_to_list}
use Rattle.e_clause.specs.declared.cert.Against.{Against}
use Rattle.e_deriv.specs.Script.{Script, Cite, Hence, Make, Apply, Claim, Superposed, Qed, Contradiction, Cases, bare_script}
use Rattle.e_cert.specs.declared.kept.StepCerts.{StepCerts}
use Rattle.e_cert.specs.declared.kept.StepCerts.TheVariants.{Certs, Against as OfContradiction}
use Rattle.e_read.specs.Filled.{script_with_certs}

-- a contradiction without its certificate keeps none
abbrev pub kept_against : Option Against → StepCerts
kept_against None = Certs []
kept_against (Some a) = OfContradiction a

-- what is kept of the lines of a derivation, in order
unfoldable pub kepts : Script → List StepCerts
kepts (Cite by rest) = kepts rest
kepts (Hence lit cert rest) = Certs (option_to_list cert) ∷ kepts rest
kepts (Make construction names certs rest) = Certs certs ∷ kepts rest
kepts (Apply theorem args names certs rest) = Certs certs ∷ kepts rest
kepts (Claim shown inner rest) = kepts inner ++ kepts rest
kepts (Superposed superposition names shown certs inner rest) = Certs certs ∷ (kepts inner ++ kepts rest)
kepts (Qed objects certs) = Certs certs ∷ []
kepts (Contradiction against) = kept_against against ∷ []
kepts (Cases lit first second) = kepts first ++ kepts second

pub filled_back : (d : Script) (ks : List StepCerts) → script_with_certs (bare_script d) (kepts d ++ ks) ≡ (d, ks)
unfolding bare_script script_with_certs kepts
filled_back (Cite by rest) ks = rw (filled_back rest ks) refl
filled_back (Hence lit None rest) ks = rw (filled_back rest ks) refl
filled_back (Hence lit (Some cert) rest) ks = rw (filled_back rest ks) refl
filled_back (Make construction names certs rest) ks = rw (filled_back rest ks) refl
filled_back (Apply theorem args names certs rest) ks = rw (filled_back rest ks) refl
filled_back (Claim shown inner rest) ks = rw (append_assoc (kepts inner) (kepts rest) ks, filled_back inner (kepts rest ++ ks), filled_back rest ks) refl
filled_back (Superposed superposition names shown certs inner rest) ks = rw (append_assoc (kepts inner) (kepts rest) ks, filled_back inner (kepts rest ++ ks), filled_back rest ks) refl
filled_back (Qed objects certs) ks = refl
filled_back (Contradiction None) ks = refl
filled_back (Contradiction (Some against)) ks = refl
filled_back (Cases lit first second) ks = rw (append_assoc (kepts first) (kepts second) ks, filled_back first (kepts second ++ ks), filled_back second ks) refl
