-- When every certificate of a derivation certifies at its own step.
use Rattle.std.specs.Prelude.{ℕ, List, [], ◌∷◌, IsTrue, Bool, true, false, ◌&&◌, Some, None, Result}
use Rattle.std.specs.List.{list_all}
use Rattle.e_literal.specs.declared.object.Scope.{Scope}
use Rattle.e_literal.specs.declared.literal.Lit.{Lit}
use Rattle.e_literal.specs.Use.{StatementView}
use Rattle.e_clause.specs.declared.cert.Cert.{Cert}
use Rattle.e_clause.specs.Certify.{certify_all, certifies_against}
use Rattle.e_deriv.specs.Script.{Script, Cite, Hence, Make, Apply, Claim, Superposed, Qed}
use Rattle.e_deriv.specs.Script.{Contradiction, Cases}
use Rattle.e_deriv.specs.PlacedSteps.{PlacedStep, proof_steps, first_failure}
use Rattle.e_deriv.specs.Parts.{has_no_blank}
use Rattle.e_deriv.specs.Steps.{fits, needs, is_cited}

-- the certificates of a step, one for each of its needs; a hence without its certificate has none
abbrev pub certs_of : Script → List Cert
certs_of (Hence lit (Some cert) rest) = cert ∷ []
certs_of (Hence lit None rest) = []
certs_of (Make construction names certs rest) = certs
certs_of (Apply theorem args names certs rest) = certs
certs_of (Superposed superposition names shown certs inner rest) = certs
certs_of (Qed objects certs) = certs
certs_of (Cite by rest) = []
certs_of (Claim shown inner rest) = []
certs_of (Contradiction against) = []
certs_of (Cases lit first second) = []

-- beside the needs: a citation's instance gives the literal; no argument of an application is a
-- blank; a contradiction has a certificate that shows one
abbrev pub other_checks : Script → Scope → List Lit → Bool
other_checks (Cite by rest) s facts = is_cited facts by
other_checks (Apply theorem args names certs rest) s facts = has_no_blank args
other_checks (Contradiction (Some against)) s facts = certifies_against s facts against
other_checks (Contradiction None) s facts = false
other_checks _ s facts = true

-- the step fits, and its certificates certify its needs
abbrev pub is_certified : List StatementView → PlacedStep → Bool
is_certified before x =
    fits before x && (certify_all x.scope x.facts (needs before x) (certs_of x.here)
    && other_checks x.here x.scope x.facts)

-- the steps of a derivation, which has no blanks to fill
abbrev pub derivation_steps : List StatementView → StatementView → Script → List PlacedStep
derivation_steps before t d = proof_steps before t d d

-- each step of the derivation is certified
abbrev pub Certified : List StatementView → StatementView → Script → Type 0
Certified before t d = IsTrue (list_all (is_certified before) (derivation_steps before t d))

-- the number of the first step that is not certified, or the number after the last
abbrev pub verdict : List StatementView → StatementView → Script → Result ℕ ℕ
verdict before t d = first_failure (is_certified before) (derivation_steps before t d) 1
