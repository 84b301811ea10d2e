-- What a search for a transfer answers.
use Rattle.std.specs.Prelude.{ℕ, List, IsTrue, Option, Some, None}
use Rattle.std.specs.List.{list_all}
use Rattle.e_literal.specs.declared.object.Scope.{Scope}
use Rattle.e_literal.specs.declared.literal.Lit.{Lit}
use Rattle.e_literal.specs.Rows.{Row}
use Rattle.e_clause.specs.declared.cert.TransferCert.{TransferCert}
use Rattle.e_clause.specs.Transfer.{TransferConsequence}
use Rattle.e_clause.specs.TransferCertificate.{transfer_certifies, transfer_in}
use Rattle.e_clause.specs.Wide.{TransferFromFacts, IsTransferSystem, HasWidth}
use Rattle.e_clause.specs.declared.cert.Version.TheVariants as version
use Rattle.e_clause.specs.Versions.{is_part_of}
use Rattle.e_transfer.specs.declared.finding.Found.{Found}
use Rattle.e_transfer.specs.declared.finding.Found.TheVariants.{Yes, No, TooWide}
use Rattle.e_transfer.specs.GivenGoals.{NarrowTransfer}

-- no transfer gives the goal from facts alone, nor one all of whose systems are narrow; and a
-- system of a literal that a transfer needs is wide, with this width
pub record IsTooWideTransfer (scope : Scope) (facts : List Lit) (goal : Lit) (w : ℕ) : Type 0 where
  pub not_plain : ¬ TransferFromFacts scope facts goal
  pub not_narrow : ¬ NarrowTransfer scope facts goal
  pub rows : List Row
  pub is_system : IsTransferSystem scope facts goal rows
  pub has_width : HasWidth rows w

-- a certificate, whose parts name literals that are well formed; or no transfer gives the goal; or
-- a system is too wide
abbrev pub IsFound : Scope → List Lit → Lit → Found → Type 0
IsFound scope facts goal (Yes cert) =
    IsTrue (transfer_in scope cert) × IsTrue (transfer_certifies facts goal cert)
    × IsTrue (list_all (is_part_of version.One) cert.parts)
IsFound scope facts goal No = ¬ TransferConsequence scope facts goal
IsFound scope facts goal (TooWide w) = IsTooWideTransfer scope facts goal w

-- such a certificate; or no transfer gives the goal from facts alone
abbrev pub IsFoundByFacts : Scope → List Lit → Lit → Option TransferCert → Type 0
IsFoundByFacts scope facts goal (Some cert) =
    IsTrue (transfer_in scope cert) × IsTrue (transfer_certifies facts goal cert)
    × IsTrue (list_all (is_part_of version.One) cert.parts)
IsFoundByFacts scope facts goal None = ¬ TransferFromFacts scope facts goal
