-- What is answered on a literal, and on whether the facts contradict each other.
use Rattle.std.specs.Prelude.{◌≡◌, ℕ, List, IsTrue, IsFalse, Option, Some, None}
use Rattle.e_literal.specs.declared.object.Term.{Term}
use Rattle.e_literal.specs.declared.literal.Lit.{Lit}
use Rattle.e_literal.specs.Facts.{has, is_metric}
use Rattle.e_clause.specs.declared.cert.Part.TheVariants.{Fact}
use Rattle.e_clause.specs.declared.cert.Against.{Against}
use Rattle.e_clause.specs.declared.cert.Cert.{Cert}
use Rattle.e_clause.specs.declared.cert.Cert.TheVariants.{Plain}
use Rattle.e_clause.specs.Allowed.{Allowed}
use Rattle.e_clause.specs.Certify.{certifies, certifies_against}
use Rattle.e_clause.specs.Consequence.{Contradictory}
use Rattle.e_clause.specs.Counterexample.{ListsCounterexample}
use Rattle.e_clause.specs.Wide.{IsTooWideLit, IsTooWideContradiction}
use Rattle.e_clause.specs.declared.cert.Version.TheVariants as version
use Rattle.e_clause.specs.Versions.{is_cert_of, is_against_of}
use Rattle.e_licence.specs.Contexts.{Basis}
use Rattle.e_licence.specs.declared.licensing.Licensed.{Licensed}
use Rattle.e_licence.specs.declared.licensing.Licensed.TheVariants as licensed
use Rattle.e_licence.specs.declared.contradiction.Refuted.{Refuted}
use Rattle.e_licence.specs.declared.contradiction.Refuted.TheVariants as refuted

-- ---- a literal

-- the certificate certifies the literal, and names literals that are well formed; one that is among
-- the facts is certified as a fact, with no sums and no rule
pub record IsCertifiedBy (b : Basis) (l : Lit) (c : Cert) : Type 0 where
  pub certifies : IsTrue (certifies b.scope b.facts l c)
  pub as_fact : IsTrue (has b.facts l) → c ≡ Plain Fact
  pub written : IsTrue (is_cert_of version.One c)

-- values exactly where the literal is metric; with them the facts are true and the literal is false
abbrev pub IsShownBy : List Lit → Lit → Option (List (Term × ℕ)) → Type 0
IsShownBy facts l None = IsFalse (is_metric l)
IsShownBy facts l (Some values) = IsTrue (is_metric l) × ListsCounterexample facts (Some l) values

-- the literal is not allowed, and these values show of a metric one that it does not follow
pub record IsRefusedBy (b : Basis) (l : Lit) (values : Option (List (Term × ℕ))) : Type 0 where
  pub not_allowed : ¬ Allowed b.scope b.facts l
  pub shown : IsShownBy b.facts l values

-- a certificate; or the literal is not allowed; or it is wide, and this is the width of one of its
-- systems
abbrev pub IsLicence : Basis → Lit → Licensed → Type 0
IsLicence b l (licensed.Yes c) = IsCertifiedBy b l c
IsLicence b l (licensed.No values) = IsRefusedBy b l values
IsLicence b l (licensed.TooWide w) = IsTooWideLit b.scope b.facts l w

-- ---- a contradiction

-- the certificate shows that the facts contradict each other, and names literals that are well
-- formed
pub record IsCertifiedAgainst (b : Basis) (against : Against) : Type 0 where
  pub certifies : IsTrue (certifies_against b.scope b.facts against)
  pub written : IsTrue (is_against_of version.One against)

-- the facts do not contradict each other, and with these values the metric ones are true
pub record IsConsistentBy (facts : List Lit) (values : List (Term × ℕ)) : Type 0 where
  pub not_contradictory : ¬ Contradictory facts
  pub shown : ListsCounterexample facts None values

-- a certificate; or the facts do not contradict each other; or the contradiction is wide, with the
-- width of a system
abbrev pub IsAnswerAgainst : Basis → Refuted → Type 0
IsAnswerAgainst b (refuted.Yes against) = IsCertifiedAgainst b against
IsAnswerAgainst b (refuted.No values) = IsConsistentBy b.facts values
IsAnswerAgainst b (refuted.TooWide w) = IsTooWideContradiction b.facts w
