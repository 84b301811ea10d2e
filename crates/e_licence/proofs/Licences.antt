-- What is answered on a metric literal that is no fact.
use Rattle.std.proofs.Common.{◌≡◌, ℕ, List, [], ◌∷◌, refl, sym, subst, ◌∙◌, Bool, true, false, true≢false, Some, ◌⊎◌, inl, inr}
use Rattle.std.specs.Prelude.{map, MatchBool, IsTrue}
use Rattle.std.proofs.lemmas.Bool.{and_from}
use Rattle.e_literal.specs.declared.object.Scope.{Scope}
use Rattle.e_literal.specs.declared.literal.Lit.{Lit}
use Rattle.e_literal.specs.Literal.{negation, all_in_scope}
use Rattle.e_literal.specs.Facts.{has, has_all, others, is_metric}
use Rattle.e_literal.specs.WellFormed.{is_well_formed}
use Rattle.e_literal.proofs.Booleans.{and_left, and_right}
use Rattle.e_clause.specs.declared.cert.MetricCert.{MetricCert}
use Rattle.e_clause.specs.declared.cert.Part.TheVariants.{Metric}
use Rattle.e_clause.specs.declared.cert.Cert.TheVariants.{Plain, Transfer}
use Rattle.e_clause.specs.declared.cert.TransferCert.{TransferCert}
use Rattle.e_clause.specs.LimitedFacts.{is_well_formed_in, are_limited_facts}
use Rattle.e_clause.specs.Metric.{MetricConsequence}
use Rattle.e_clause.specs.MetricCertificate.{are_sums_in, sums_refute, metric_certifies}
use Rattle.e_clause.specs.Transfer.{Stands, NegationsStand, TransferConsequence}
use Rattle.e_clause.specs.TransferCertificate.{transfer_certifies, transfer_in}
use Rattle.e_clause.specs.Wide.{TransferFromFacts, IsPlain, IsTooWideLit}
use Rattle.e_clause.proofs.Following.{metric_fact}
use Rattle.e_metric.specs.MetricAnswers.{IsMetricCertificate, IsTooWideSystem}
use Rattle.e_transfer.specs.declared.finding.Found.{Found}
use Rattle.e_transfer.specs.declared.finding.Found.TheVariants.{Yes, No, TooWide}
use Rattle.e_transfer.specs.FoundTransfers.{IsFound, IsTooWideTransfer}
use Rattle.e_licence.specs.Contexts.{Basis}
use Rattle.e_licence.specs.Licences.{IsCertifiedBy}
use Rattle.e_licence.proofs.LimitsOfFacts.{in_scope}

-- ---- the literal follows

pub by_sums : (b : Basis) (l : Lit) (m : MetricCert) → are_limited_facts b.scope b.facts ≡ true → is_well_formed_in b.scope l ≡ true → has b.facts l ≡ false → is_metric l ≡ true
    → IsMetricCertificate b.facts (Some l) m → IsCertifiedBy b l (Plain (Metric m))
by_sums b l m g k n e h = record {
  certifies = and_from (are_sums_in b.scope m.sums) (metric_certifies b.facts l m)
      (h.scoped b.scope (in_scope b.scope b.facts g) (and_left (all_in_scope b.scope l) (is_well_formed l) k))
      (and_from (is_metric l) (sums_refute b.facts (Some l) m.sums) e h.refutes);
  as_fact = λ f. absurd (true≢false (sym f ∙ n));
  written = h.written;
}

-- ---- a transfer gives it

pub by_transfer : (b : Basis) (l : Lit) (t : TransferCert) (f : Found) → has b.facts l ≡ false → IsFound b.scope b.facts l f → f ≡ Yes t → IsCertifiedBy b l (Transfer t)
by_transfer b l t f n g e =
    let h : IsFound b.scope b.facts l (Yes t) = subst (IsFound b.scope b.facts l) e g in
    record { certifies = and_from (transfer_in b.scope t) (transfer_certifies b.facts l t) h.0 h.1; as_fact = λ k. absurd (true≢false (sym k ∙ n)); written = h.2 }

-- ---- what facts alone give by a transfer is a transfer consequence

by_cases : (b : Bool) (P Q : Type 0) → (b ≡ true → P) → Q → MatchBool b P Q
by_cases true P Q f q = f refl
by_cases false P Q f q = q

holds : (facts : List Lit) (l : Lit) → has facts l ≡ true → Stands facts l
holds facts l h = by_cases (is_metric l) (MetricConsequence facts l) (IsTrue (has facts l)) (λ e. metric_fact facts l e h) h

all_hold : (facts ls : List Lit) → has_all facts (map negation ls) ≡ true → NegationsStand facts ls
all_hold facts [] h = tt
all_hold facts (l ∷ ls) h = (
  holds facts (negation l) (and_left (has facts (negation l)) (has_all facts (map negation ls)) h),
  all_hold facts ls (and_right (has facts (negation l)) (has_all facts (map negation ls)) h),
)

pub from_facts : (s : Scope) (facts : List Lit) (l : Lit) → TransferFromFacts s facts l → TransferConsequence s facts l
from_facts s facts l t = record { lits = t.lits; of = t.of; rest = all_hold facts (others t.lits l) t.rest }

-- ---- it cannot be decided

pub no_plain : (s : Scope) (facts : List Lit) (l : Lit) → has facts l ≡ false → ¬ TransferFromFacts s facts l → ¬ IsPlain s facts l
no_plain s facts l n h (inl f) = true≢false (sym f ∙ n)
no_plain s facts l n h (inr t) = h t

-- ---- what holds of the scope and the facts that a context hands out holds of the context

pub found_at : (b : Basis) (s : Scope) (facts : List Lit) (l : Lit) (f : Found) → s ≡ b.scope → facts ≡ b.facts → IsFound s facts l f → IsFound b.scope b.facts l f
found_at b s facts l f same are h = subst (λ fs. IsFound b.scope fs l f) are (subst (λ t. IsFound t facts l f) same h)
