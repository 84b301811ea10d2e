-- A block as a plain tree: each step with what comes after it, and a close at the end.
use Rattle.std.specs.Prelude.{ℕ, ◌+◌, max, List, [], ◌∷◌, Option, None}
use Rattle.e_literal.specs.declared.literal.Lit.{Lit}
use Rattle.e_literal.specs.declared.object.Obj.{Obj}
use Rattle.e_construct.specs.declared.construction.Construction.{Construction}
use Rattle.e_construct.specs.declared.superpose.Superpose.{Superpose}
use Rattle.e_clause.specs.declared.cert.Against.{Against}
use Rattle.e_clause.specs.declared.cert.By.{By}
use Rattle.e_clause.specs.declared.cert.Cert.{Cert}
use Rattle.e_deriv.specs.declared.block.Block.{Block}
use Rattle.e_deriv.specs.declared.block.Step.{Step, Row_of-Step, end_of-Step, more_of-Step}
use Rattle.e_deriv.specs.declared.block.Step.TheVariants.{Cite as CiteStep, Hence as HenceStep}
use Rattle.e_deriv.specs.declared.block.Step.TheVariants.{Make as MakeStep, Apply as ApplyStep}
use Rattle.e_deriv.specs.declared.block.Step.TheVariants.{Claim' as ClaimStep}
use Rattle.e_deriv.specs.declared.block.Step.TheVariants.{Superposed' as SuperposedStep}
use Rattle.e_deriv.specs.declared.block.Close.{Close}
use Rattle.e_deriv.specs.declared.block.Close.TheVariants.{Qed as QedClose}
use Rattle.e_deriv.specs.declared.block.Close.TheVariants.{Contradiction as ContradictionClose}
use Rattle.e_deriv.specs.declared.block.Close.TheVariants.{Cases' as CasesClose}

-- `Claim` and `Superposed` have a block inside, and `Cases` ends with two
pub data Script : Type 0 where
  Cite : (by : By) (rest : Script) → Script
  Hence : (lit : Lit) (cert : Option Cert) (rest : Script) → Script
  Make : (construction : Construction) (names : List (List ℕ)) (certs : List Cert) (rest : Script)
      → Script
  Apply : (theorem : ℕ) (args : List (Option Obj)) (names : List (List ℕ)) (certs : List Cert)
      (rest : Script) → Script
  Claim : (shown : List Lit) (inner : Script) (rest : Script) → Script
  Superposed : (superposition : Superpose) (names : List (List ℕ))
      (shown : List Lit) (certs : List Cert)
      (inner : Script) (rest : Script) → Script
  Qed : (objects : List Obj) (certs : List Cert) → Script
  Contradiction : (against : Option Against) → Script
  Cases : (lit : Lit) (first : Script) (second : Script) → Script

unfoldable mutual
  -- a step, and what comes after it
  pub step_script : Step → Script → Script
  step_script (CiteStep by) rest = Cite by rest
  step_script (HenceStep lit cert) rest = Hence lit cert rest
  step_script (MakeStep construction names certs) rest = Make construction names certs rest
  step_script (ApplyStep theorem args names certs) rest = Apply theorem args names certs rest
  step_script (ClaimStep shown p0 n0 row0 close0) rest =
      Claim shown (row_script row0 (close_script close0)) rest
  step_script (SuperposedStep superposition names shown certs p0 n0 row0 close0) rest =
      Superposed superposition names shown certs (row_script row0 (close_script close0)) rest

  pub row_script : {n : _} → Row_of-Step n → Script → Script
  row_script end_of-Step rest = rest
  row_script (more_of-Step s steps) rest = step_script s (row_script steps rest)

  pub close_script : Close → Script
  close_script (QedClose objects certs) = Qed objects certs
  close_script (ContradictionClose against) = Contradiction against
  close_script (CasesClose lit p0 n0 row0 close0 p1 n1 row1 close1) =
      Cases lit (row_script row0 (close_script close0)) (row_script row1 (close_script close1))

-- the steps of a list, and what comes after them
abbrev pub steps_script : List Step → Script → Script
steps_script [] rest = rest
steps_script (s ∷ steps) rest = step_script s (steps_script steps rest)

abbrev pub script_of : Block → Script
script_of b = steps_script b.steps.items (close_script b.close)

-- the steps, closes too
unfoldable pub size : Script → ℕ
size (Cite by rest) = 1 + size rest
size (Hence lit cert rest) = 1 + size rest
size (Make construction names certs rest) = 1 + size rest
size (Apply theorem args names certs rest) = 1 + size rest
size (Claim shown inner rest) = 1 + size inner + size rest
size (Superposed superposition names shown certs inner rest) = 1 + size inner + size rest
size (Qed objects certs) = 1
size (Contradiction against) = 1
size (Cases lit first second) = 1 + size first + size second

-- blocks one inside the other
unfoldable pub depth : Script → ℕ
depth (Cite by rest) = depth rest
depth (Hence lit cert rest) = depth rest
depth (Make construction names certs rest) = depth rest
depth (Apply theorem args names certs rest) = depth rest
depth (Claim shown inner rest) = max (1 + depth inner) (depth rest)
depth (Superposed superposition names shown certs inner rest) = max (1 + depth inner) (depth rest)
depth (Qed objects certs) = 1
depth (Contradiction against) = 1
depth (Cases lit first second) = 1 + max (depth first) (depth second)

-- without its certificates
unfoldable pub bare_script : Script → Script
bare_script (Cite by rest) = Cite by (bare_script rest)
bare_script (Hence lit cert rest) = Hence lit None (bare_script rest)
bare_script (Make construction names certs rest) = Make construction names [] (bare_script rest)
bare_script (Apply theorem args names certs rest) = Apply theorem args names [] (bare_script rest)
bare_script (Claim shown inner rest) = Claim shown (bare_script inner) (bare_script rest)
bare_script (Superposed superposition names shown certs inner rest) =
    Superposed superposition names shown [] (bare_script inner) (bare_script rest)
bare_script (Qed objects certs) = Qed objects []
bare_script (Contradiction against) = Contradiction None
bare_script (Cases lit first second) = Cases lit (bare_script first) (bare_script second)
