-- Whether a literal is allowed, where facts and sums do not give it, or with no word of why.
use Rattle.std.proofs.Common.{◌≡◌, ℕ, List, sym, subst, ◌∙◌, true, false, true≢false, Option, Some, ◌⊎◌, inl, inr, Result, Ok, Err}
use Rattle.std.specs.Prelude.{IfOk}
use Rattle.std.proofs.lemmas.Bool.{cases_Bool}
use Rattle.e_literal.specs.declared.object.Term.{Term}
use Rattle.e_literal.specs.declared.literal.Lit.{Lit}
use Rattle.e_literal.specs.Facts.{has, is_metric}
use Rattle.e_clause.specs.Allowed.{Allowed}
use Rattle.e_clause.specs.Metric.{MetricConsequence}
use Rattle.e_clause.specs.Transfer.{TransferConsequence}
use Rattle.e_clause.specs.Wide.{TransferFromFacts, IsTooWideLit}
use Rattle.e_clause.proofs.Following.{metric_fact}
use Rattle.e_clause.proofs.Sound.{allowed_of_certified}
use Rattle.e_metric.specs.MetricAnswers.{IsTooWideSystem}
use Rattle.e_transfer.specs.FoundTransfers.{IsTooWideTransfer}
use Rattle.e_licence.specs.Contexts.{Basis}
use Rattle.e_licence.specs.Licences.{IsShownBy, IsLicence}
use Rattle.e_licence.specs.Verdicts.{JudgedIs}
use Rattle.e_licence.specs.inner.Questions.{IsAnsweredByTransfer, verdict_of}
use Rattle.e_licence.specs.declared.licensing.Licensed.{Licensed}
use Rattle.e_licence.specs.declared.licensing.Licensed.TheVariants as licensed
use Rattle.e_licence.proofs.Licences.{from_facts, no_plain}

abbrev Shown : Type 0
Shown = Option (List (Term × ℕ))

-- ---- a literal that is neither a fact nor a metric consequence

refuse : (b : Basis) (l : Lit) → has b.facts l ≡ false → ¬ MetricConsequence b.facts l → ¬ TransferConsequence b.scope b.facts l → Allowed b.scope b.facts l → ⊥
refuse b l none not h (inl fact) = true≢false (sym fact ∙ none)
refuse b l none not h (inr (inl metric)) = not metric
refuse b l none not h (inr (inr transfer)) = h transfer

too_wide : (b : Basis) (l : Lit) (w : ℕ) → has b.facts l ≡ false → IsTooWideTransfer b.scope b.facts l w → IsTooWideLit b.scope b.facts l w
too_wide b l w none h = record { not_plain = no_plain b.scope b.facts l none h.not_plain; rows = h.rows; is_system = inr h.is_system; has_width = h.has_width }

licence_is : (b : Basis) (l : Lit) (values : Shown) (r : Licensed) → has b.facts l ≡ false → ¬ MetricConsequence b.facts l → IsShownBy b.facts l values → IsAnsweredByTransfer b l values r → IsLicence b l r
licence_is b l values (licensed.Yes c) none not shown h = h
licence_is b l values (licensed.No vs) none not shown h = record { not_allowed = refuse b l none not h.1; shown = subst (IsShownBy b.facts l) (sym h.0) shown }
licence_is b l values (licensed.TooWide w) none not shown h = too_wide b l w none h

pub if_licence : {E : Type 0} (r : Result Licensed E) (b : Basis) (l : Lit) (values : Shown) → has b.facts l ≡ false → ¬ MetricConsequence b.facts l → IsShownBy b.facts l values
    → IfOk r (IsAnsweredByTransfer b l values) → IfOk r (IsLicence b l)
if_licence (Ok r) b l values none not shown h = licence_is b l values r none not shown h
if_licence (Err e) b l values none not shown h = h

pub judged : (b : Basis) (l : Lit) (values : Shown) (r : Licensed) → has b.facts l ≡ false → ¬ MetricConsequence b.facts l → IsAnsweredByTransfer b l values r → JudgedIs b l (verdict_of r)
judged b l values (licensed.Yes c) none not h = allowed_of_certified b.scope b.facts l c h.certifies
judged b l values (licensed.No vs) none not h = refuse b l none not h.1
judged b l values (licensed.TooWide w) none not h = too_wide b l w none h

-- a licence, with no word of why
pub without_reasons : (b : Basis) (l : Lit) (r : Licensed) → IsLicence b l r → JudgedIs b l (verdict_of r)
without_reasons b l (licensed.Yes c) h = allowed_of_certified b.scope b.facts l c h.certifies
without_reasons b l (licensed.No values) h = h.not_allowed
without_reasons b l (licensed.TooWide w) h = h

-- a metric literal that does not follow is no fact
pub no_fact : (b : Basis) (l : Lit) → is_metric l ≡ true → ¬ MetricConsequence b.facts l → has b.facts l ≡ false
no_fact b l metric not =
    elim (cases_Bool (has b.facts l)) [
      | inl there ↦ absurd (not (metric_fact b.facts l metric there))
      | inr none ↦ none
    ]

-- and no diagram literal follows from sums
pub no_sums : (b : Basis) (l : Lit) → is_metric l ≡ false → MetricConsequence b.facts l → ⊥
no_sums b l diagram h = true≢false (sym h.is_metric ∙ diagram)

-- ---- a metric literal with a wide system

-- no transfer gives it from facts alone
not_given : (b : Basis) (l : Lit) (values : Shown) (r : Licensed) → IsAnsweredByTransfer b l values r → ((vs : Shown) × (r ≡ licensed.No vs)) ⊎ ((w : ℕ) × (r ≡ licensed.TooWide w)) → TransferFromFacts b.scope b.facts l → ⊥
not_given b l values (licensed.Yes c) h (inl e) t = (let k = e.1 in absurd (cc))
not_given b l values (licensed.Yes c) h (inr e) t = (let k = e.1 in absurd (cc))
not_given b l values (licensed.No vs) h e t = h.1 (from_facts b.scope b.facts l t)
not_given b l values (licensed.TooWide w) h e t = h.not_plain t

pub wide : (b : Basis) (l : Lit) (w : ℕ) (values : Shown) (r : Licensed) → has b.facts l ≡ false → is_metric l ≡ true → IsTooWideSystem b.facts (Some l) w
    → IsAnsweredByTransfer b l values r → ((vs : Shown) × (r ≡ licensed.No vs)) ⊎ ((u : ℕ) × (r ≡ licensed.TooWide u)) → IsTooWideLit b.scope b.facts l w
wide b l w values r none metric h found refused = record {
  not_plain = no_plain b.scope b.facts l none (not_given b l values r found refused);
  rows = h.rows;
  is_system = inl (record { is_metric = metric; is_one = h.is_one });
  has_width = h.has_width;
}
