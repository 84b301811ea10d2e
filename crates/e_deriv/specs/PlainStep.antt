-- A step without where it lies in memory, for blocks whose steps come one after another.
use Rattle.std.specs.Prelude.{ℕ, List, [], ◌∷◌, Option}
use Rattle.e_literal.specs.declared.object.Obj.{Obj}
use Rattle.e_literal.specs.declared.literal.Lit.{Lit}
use Rattle.e_construct.specs.declared.construction.Construction.{Construction}
use Rattle.e_construct.specs.declared.superpose.Superpose.{Superpose}
use Rattle.e_clause.specs.declared.cert.By.{By}
use Rattle.e_clause.specs.declared.cert.Cert.{Cert}
use Rattle.e_deriv.specs.declared.block.Step.{Step}
use Rattle.e_deriv.specs.declared.block.Step.TheVariants.{Cite as CiteStep, Hence as HenceStep}
use Rattle.e_deriv.specs.declared.block.Step.TheVariants.{Make as MakeStep, Apply as ApplyStep}
use Rattle.e_deriv.specs.declared.block.Step.TheVariants.{Claim' as ClaimStep}
use Rattle.e_deriv.specs.declared.block.Step.TheVariants.{Superposed' as SuperposedStep}
use Rattle.e_deriv.specs.Script.{Script, Cite, Hence, Make, Apply, Claim, Superposed, row_script}
use Rattle.e_deriv.specs.Script.{close_script}

pub data PlainStep : Type 0 where
  Cited : (by : By) → PlainStep
  Inferred : (lit : Lit) (cert : Option Cert) → PlainStep
  Made : (construction : Construction) (names : List (List ℕ)) (certs : List Cert) → PlainStep
  Applied : (theorem : ℕ) (args : List (Option Obj)) (names : List (List ℕ)) (certs : List Cert)
      → PlainStep
  Claimed : (shown : List Lit) (inner : Script) → PlainStep
  Copied : (superposition : Superpose) (names : List (List ℕ))
      (shown : List Lit) (certs : List Cert)
      (inner : Script) → PlainStep

unfoldable pub plain_step : Step → PlainStep
plain_step (CiteStep by) = Cited by
plain_step (HenceStep lit cert) = Inferred lit cert
plain_step (MakeStep construction names certs) = Made construction names certs
plain_step (ApplyStep theorem args names certs) = Applied theorem args names certs
plain_step (ClaimStep shown p0 n0 row0 close0) =
    Claimed shown (row_script row0 (close_script close0))
plain_step (SuperposedStep superposition names shown certs p0 n0 row0 close0) =
    Copied superposition names shown certs (row_script row0 (close_script close0))

-- the step, and what comes after it
abbrev pub before : PlainStep → Script → Script
before (Cited by) rest = Cite by rest
before (Inferred lit cert) rest = Hence lit cert rest
before (Made construction names certs) rest = Make construction names certs rest
before (Applied theorem args names certs) rest = Apply theorem args names certs rest
before (Claimed shown inner) rest = Claim shown inner rest
before (Copied superposition names shown certs inner) rest =
    Superposed superposition names shown certs inner rest

-- the steps of a list, and what comes after them
abbrev pub all_before : List PlainStep → Script → Script
all_before [] rest = rest
all_before (s ∷ steps) rest = before s (all_before steps rest)
