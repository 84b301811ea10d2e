-- What a transfer answers on a literal, and an answer with no word of why.
use Rattle.std.specs.Prelude.{◌≡◌, ℕ, List, Option}
use Rattle.e_literal.specs.declared.object.Term.{Term}
use Rattle.e_literal.specs.declared.literal.Lit.{Lit}
use Rattle.e_clause.specs.Transfer.{TransferConsequence}
use Rattle.e_transfer.specs.FoundTransfers.{IsTooWideTransfer}
use Rattle.e_transfer.specs.declared.walk.Verdict.{Verdict}
use Rattle.e_transfer.specs.declared.walk.Verdict.TheVariants as verdict
use Rattle.e_licence.specs.Contexts.{Basis}
use Rattle.e_licence.specs.Licences.{IsCertifiedBy}
use Rattle.e_licence.specs.declared.licensing.Licensed.{Licensed}
use Rattle.e_licence.specs.declared.licensing.Licensed.TheVariants as licensed

-- a certificate; or no transfer gives the literal, and it is answered with these values; or a
-- system is too wide
abbrev pub IsAnsweredByTransfer :
    Basis → Lit → Option (List (Term × ℕ)) → Licensed → Type 0
IsAnsweredByTransfer b l values (licensed.Yes c) = IsCertifiedBy b l c
IsAnsweredByTransfer b l values (licensed.No shown) =
    (shown ≡ values) × ¬ TransferConsequence b.scope b.facts l
IsAnsweredByTransfer b l values (licensed.TooWide w) = IsTooWideTransfer b.scope b.facts l w

abbrev pub verdict_of : Licensed → Verdict (Unit {0})
verdict_of (licensed.Yes c) = verdict.Yes tt
verdict_of (licensed.No values) = verdict.No
verdict_of (licensed.TooWide w) = verdict.TooWide w
