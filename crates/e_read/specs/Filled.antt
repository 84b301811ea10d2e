-- A script with certificates at its lines.
use Rattle.std.specs.Prelude.{◌≡◌, List, [], ◌∷◌, Option, Some, None}
use Rattle.e_clause.specs.declared.cert.Cert.{Cert}
use Rattle.e_clause.specs.declared.cert.Against.{Against}
use Rattle.e_deriv.specs.declared.block.Step.{Step}
use Rattle.e_deriv.specs.declared.block.Close.{Close}
use Rattle.e_deriv.specs.Script.{step_script, close_script, Script, Cite, Hence, Make, Apply, Claim}
use Rattle.e_deriv.specs.Script.{Superposed, Qed, Contradiction, Cases}
use Rattle.e_cert.specs.Certificates.{first_cert}
use Rattle.e_cert.specs.declared.kept.StepCerts.{StepCerts}
use Rattle.e_cert.specs.declared.kept.StepCerts.TheVariants.{Certs, Against as OfContradiction}

abbrev pub certs_of_step : StepCerts → List Cert
certs_of_step (Certs cs) = cs
certs_of_step (OfContradiction a) = []

abbrev pub against_of : StepCerts → Option Against
against_of (Certs cs) = None
against_of (OfContradiction a) = Some a

-- the certificates of the next line that has some
abbrev pub next_certs : List StepCerts → List Cert
next_certs [] = []
next_certs (k ∷ ks) = certs_of_step k

abbrev pub next_against : List StepCerts → Option Against
next_against [] = None
next_against (k ∷ ks) = against_of k

abbrev pub after_next : List StepCerts → List StepCerts
after_next [] = []
after_next (k ∷ ks) = ks

-- the next is taken out
abbrev pub NextCerts : List StepCerts → Option StepCerts → List StepCerts → Type 0
NextCerts old None new = (old ≡ []) × (new ≡ [])
NextCerts old (Some k) new = old ≡ k ∷ new

-- The script with these certificates, in the order of its lines: at each line that can have some,
-- those that come next. And the certificates that are left.
unfoldable pub script_with_certs : Script → List StepCerts → Script × List StepCerts
script_with_certs (Cite by rest) ks = let r = script_with_certs rest ks in (Cite by r.0, r.1)
script_with_certs (Hence lit cert rest) ks =
    let r = script_with_certs rest (after_next ks) in
    (Hence lit (first_cert (next_certs ks)) r.0, r.1)
script_with_certs (Make construction names certs rest) ks =
    let r = script_with_certs rest (after_next ks) in
    (Make construction names (next_certs ks) r.0, r.1)
script_with_certs (Apply theorem args names certs rest) ks =
    let r = script_with_certs rest (after_next ks) in
    (Apply theorem args names (next_certs ks) r.0, r.1)
script_with_certs (Claim shown inner rest) ks =
    let i = script_with_certs inner ks in
    let r = script_with_certs rest i.1 in (Claim shown i.0 r.0, r.1)
script_with_certs (Superposed superposition names shown certs inner rest) ks =
    let i = script_with_certs inner (after_next ks) in
    let r = script_with_certs rest i.1 in
    (Superposed superposition names shown (next_certs ks) i.0 r.0, r.1)
script_with_certs (Qed objects certs) ks = (Qed objects (next_certs ks), after_next ks)
script_with_certs (Contradiction against) ks = (Contradiction (next_against ks), after_next ks)
script_with_certs (Cases lit first second) ks =
    let f = script_with_certs first ks in
    let s = script_with_certs second f.1 in (Cases lit f.0 s.0, s.1)

-- ---- what the code fills in: in a block, a step before whatever comes after it, and a close

abbrev pub Fills : Script → List StepCerts → Script → List StepCerts → Type 0
Fills old ks new left = script_with_certs old ks ≡ (new, left)

abbrev pub FillsStep : Step → List StepCerts → Step → List StepCerts → Type 0
FillsStep old ks new left =
    (rest : Script) → script_with_certs (step_script old rest) ks
    ≡ (step_script new (script_with_certs rest left).0, (script_with_certs rest left).1)

abbrev pub FillsClose : Close → List StepCerts → Close → List StepCerts → Type 0
FillsClose old ks new left = script_with_certs (close_script old) ks ≡ (close_script new, left)
