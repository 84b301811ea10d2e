-- What a script with certificates is, line by line.
use Rattle.std.proofs.Common.{◌≡◌, ℕ, List, Option, refl}
use Rattle.std.proofs.lemmas.Grind.{common_steps}
use Rattle.e_literal.specs.declared.literal.Lit.{Lit}
use Rattle.e_literal.specs.declared.object.Obj.{Obj}
use Rattle.e_construct.specs.declared.construction.Construction.{Construction}
use Rattle.e_construct.specs.declared.superpose.Superpose.{Superpose}
use Rattle.e_clause.specs.declared.cert.Against.{Against}
use Rattle.e_clause.specs.declared.cert.By.{By}
use Rattle.e_clause.specs.declared.cert.Cert.{Cert}
use Rattle.e_deriv.specs.Script.{Script, Cite, Hence, Make, Apply, Claim, Superposed, Qed, Contradiction, Cases}
use Rattle.e_deriv.proofs.Scripts.{scripts, steps_script-append}
use Rattle.e_cert.specs.declared.kept.StepCerts.{StepCerts}
use Rattle.e_cert.specs.Certificates.{first_cert}
use Rattle.e_read.specs.Filled.{next_certs, next_against, after_next, script_with_certs}

pub filled-Cite : (by : By) (rest : Script) (ks : List StepCerts) → script_with_certs (Cite by rest) ks ≡ (Cite by (script_with_certs rest ks).0, (script_with_certs rest ks).1)
unfolding script_with_certs
filled-Cite by rest ks = refl

pub filled-Hence : (lit : Lit) (cert : Option Cert) (rest : Script) (ks : List StepCerts) → script_with_certs (Hence lit cert rest) ks ≡ (Hence lit (first_cert (next_certs ks)) (script_with_certs rest (after_next ks)).0, (script_with_certs rest (after_next ks)).1)
unfolding script_with_certs
filled-Hence lit cert rest ks = refl

pub filled-Make : (construction : Construction) (names : List (List ℕ)) (certs : List Cert) (rest : Script) (ks : List StepCerts) → script_with_certs (Make construction names certs rest) ks ≡ (Make construction names (next_certs ks) (script_with_certs rest (after_next ks)).0, (script_with_certs rest (after_next ks)).1)
unfolding script_with_certs
filled-Make construction names certs rest ks = refl

pub filled-Apply : (theorem : ℕ) (args : List (Option Obj)) (names : List (List ℕ)) (certs : List Cert) (rest : Script) (ks : List StepCerts) → script_with_certs (Apply theorem args names certs rest) ks ≡ (Apply theorem args names (next_certs ks) (script_with_certs rest (after_next ks)).0, (script_with_certs rest (after_next ks)).1)
unfolding script_with_certs
filled-Apply theorem args names certs rest ks = refl

pub filled-Claim : (shown : List Lit) (inner : Script) (rest : Script) (ks : List StepCerts) → script_with_certs (Claim shown inner rest) ks ≡ (Claim shown (script_with_certs inner ks).0 (script_with_certs rest (script_with_certs inner ks).1).0, (script_with_certs rest (script_with_certs inner ks).1).1)
unfolding script_with_certs
filled-Claim shown inner rest ks = refl

pub filled-Superposed : (superposition : Superpose) (names : List (List ℕ)) (shown : List Lit) (certs : List Cert) (inner : Script) (rest : Script) (ks : List StepCerts) → script_with_certs (Superposed superposition names shown certs inner rest) ks ≡ (Superposed superposition names shown (next_certs ks) (script_with_certs inner (after_next ks)).0 (script_with_certs rest (script_with_certs inner (after_next ks)).1).0, (script_with_certs rest (script_with_certs inner (after_next ks)).1).1)
unfolding script_with_certs
filled-Superposed superposition names shown certs inner rest ks = refl

pub filled-Qed : (objects : List Obj) (certs : List Cert) (ks : List StepCerts) → script_with_certs (Qed objects certs) ks ≡ (Qed objects (next_certs ks), after_next ks)
unfolding script_with_certs
filled-Qed objects certs ks = refl

pub filled-Contradiction : (against : Option Against) (ks : List StepCerts) → script_with_certs (Contradiction against) ks ≡ (Contradiction (next_against ks), after_next ks)
unfolding script_with_certs
filled-Contradiction against ks = refl

pub filled-Cases : (lit : Lit) (first : Script) (second : Script) (ks : List StepCerts) → script_with_certs (Cases lit first second) ks ≡ (Cases lit (script_with_certs first ks).0 (script_with_certs second (script_with_certs first ks).1).0, (script_with_certs second (script_with_certs first ks).1).1)
unfolding script_with_certs
filled-Cases lit first second ks = refl

pub ruleset filling = (common_steps, scripts, filled-Cite, filled-Hence, filled-Make, filled-Apply, filled-Claim, filled-Superposed, filled-Qed, filled-Contradiction, filled-Cases, steps_script-append)
