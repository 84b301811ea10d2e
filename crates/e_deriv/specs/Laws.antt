-- What follows from the definitions of steps, contexts and proofs, whatever is allowed.
use Rattle.std.specs.Prelude.{◌≡◌, ℕ, List}
use Rattle.e_literal.specs.Use.{StatementView}
use Rattle.e_deriv.specs.declared.stop.Wanted.{Wanted}
use Rattle.e_deriv.specs.Script.{Script}
use Rattle.e_deriv.specs.Parts.{filled_by}
use Rattle.e_deriv.specs.PlacedSteps.{PlacedStep, proof_steps}
use Rattle.e_deriv.specs.Proves.{IsProof}
use Rattle.e_deriv.specs.Licensed.{AllLicensed, IsContext, IsFirstUnlicensed}
use Rattle.e_deriv.specs.Certified.{Certified, derivation_steps}

-- what is certified is a proof
abbrev pub CertifiedProves : Type 0
CertifiedProves =
    (before : List StatementView) (t : StatementView) (d : Script)
    → Certified before t d → IsProof before t d

-- a script whose steps are all licensed is a proof, with its blanks filled as there
abbrev pub LicensedProves : Type 0
LicensedProves =
    (before : List StatementView) (t : StatementView) (script filled : Script)
    → AllLicensed before (proof_steps before t script filled)
    → IsProof before t (filled_by script filled)

-- and each step of a proof is licensed
abbrev pub ProofIsLicensed : Type 0
ProofIsLicensed =
    (before : List StatementView) (t : StatementView) (d : Script) → IsProof before t d
    → AllLicensed before (derivation_steps before t d)

-- what holds before the step of a number is one, however the blanks of steps that are not licensed
-- are filled
pub record SamePlace (x y : PlacedStep) : Type 0 where
  pub scope : x.scope ≡ y.scope
  pub facts : x.facts ≡ y.facts
  pub goal : x.goal ≡ y.goal
  pub here : x.here ≡ y.here

abbrev pub ContextIsOne : Type 0
ContextIsOne =
    (before : List StatementView) (t : StatementView) (script : Script) (n : ℕ) (x y : PlacedStep)
    → IsContext before t script n x → IsContext before t script n y → SamePlace x y

-- where each step is licensed none is the first that is not
abbrev pub LicensedHasNoStop : Type 0
LicensedHasNoStop =
    (before : List StatementView) (t : StatementView) (script filled : Script) (n : ℕ) (w : Wanted)
    → AllLicensed before (proof_steps before t script filled)
    → ¬ IsFirstUnlicensed before t script n w

-- the first step that is not licensed is one, and what it lacks too
abbrev pub StopIsOne : Type 0
StopIsOne =
    (before : List StatementView) (t : StatementView) (script : Script) (n m : ℕ) (v w : Wanted) →
    IsFirstUnlicensed before t script n v
    → IsFirstUnlicensed before t script m w → (n ≡ m) × (v ≡ w)
