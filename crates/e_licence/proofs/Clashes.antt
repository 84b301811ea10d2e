-- Facts that are looked through for one that clashes, and what is answered on a contradiction.
use Rattle.std.proofs.Common.{◌≡◌, ℕ, zero, suc, ◌+◌, List, [], ◌∷◌, refl, sym, ap, ap₂, ◌∙◌, Bool, true, false, not, ◌&&◌, ◌||◌, true≢false, take, Some, None}
use Rattle.std.specs.Prelude.{slice_get}
use Rattle.std.specs.List.{list_any}
use Rattle.std.proofs.lemmas.List.Folds.{list_any-append}
use Rattle.std.proofs.lemmas.Bool.{and_from, or_left, or_right}
use Rattle.e_literal.specs.declared.literal.Lit.{Lit}
use Rattle.e_literal.specs.Literal.{negation, all_in_scope}
use Rattle.e_literal.specs.Same.{same_lit}
use Rattle.e_literal.specs.Facts.{has, is_metric}
use Rattle.e_literal.proofs.Agreeing.{same_lit_self}
use Rattle.e_clause.specs.declared.cert.Against.TheVariants.{Clash, Metric as MetricAgainst}
use Rattle.e_clause.specs.declared.cert.MetricCert.{MetricCert}
use Rattle.e_clause.specs.Clash.{clash, clashes_at}
use Rattle.e_clause.specs.LimitedFacts.{are_limited_facts}
use Rattle.e_clause.specs.MetricCertificate.{are_sums_in, metric_contradicts}
use Rattle.e_clause.specs.Wide.{IsTooWideContradiction}
use Rattle.e_metric.proofs.terms.FirstTerms.{take_one}
use Rattle.e_metric.proofs.rows.SystemRows.{all_at}
use Rattle.e_metric.specs.MetricAnswers.{IsMetricCertificate, IsTooWideSystem}
use Rattle.e_licence.specs.Contexts.{Basis}
use Rattle.e_licence.specs.inner.Clashes.{IsClashing}
use Rattle.e_licence.specs.Licences.{IsCertifiedAgainst}
use Rattle.e_licence.proofs.LimitsOfFacts.{in_scope}

any_at : (p : Lit → Bool) (ls : List Lit) (i : ℕ) (l : Lit) → slice_get ls i ≡ Some l → p l ≡ true → list_any p ls ≡ true
any_at p [] i l h e = absurd (cc)
any_at p (m ∷ ls) zero l h e = or_left (p m) (list_any p ls) (let k : m ≡ l = cc in ap p k ∙ e)
any_at p (m ∷ ls) (suc i) l h e = or_right (p m) (list_any p ls) (any_at p ls i l h e)

-- a fact whose negation is a fact too
abbrev is_denied : List Lit → Lit → Bool
is_denied facts l = not (is_metric l) && has facts (negation l)

clashes : (facts : List Lit) (i : ℕ) (l : Lit) → slice_get facts i ≡ Some l → is_denied facts l ≡ true → clashes_at facts l ≡ true
clashes facts i l h e = add_middle (not (is_metric l)) (has facts l) (has facts (negation l)) (any_at (λ f. same_lit f l) facts i l h (same_lit_self l)) e
  where
    add_middle : (a b c : Bool) → b ≡ true → (a && c) ≡ true → (a && (b && c)) ≡ true
    add_middle true true c h e = e
    add_middle true false c h e = absurd (true≢false (sym h))
    add_middle false b c h e = e

pub found : (facts : List Lit) (i : ℕ) (l : Lit) → slice_get facts i ≡ Some l → is_denied facts l ≡ true → IsClashing facts l
found facts i l h e = record { place = i; is_there = h; clashes = clashes facts i l h e }

pub none_clashes : (facts : List Lit) (i : ℕ) (l : Lit) → slice_get facts i ≡ Some l → list_any (clashes_at facts) (take i facts) ≡ false → is_denied facts l ≡ false
    → list_any (clashes_at facts) (take (i + 1) facts) ≡ false
none_clashes facts i l h k e =
    ap (list_any (clashes_at facts)) (take_one facts i l h)
    ∙ list_any-append (clashes_at facts) (take i facts) (l ∷ [])
    ∙ ap₂ {A = Bool} {B = Bool} (λ a b. a || (b || false)) k (no_middle (not (is_metric l)) (has facts l) (has facts (negation l)) e)
  where
    no_middle : (a b c : Bool) → (a && c) ≡ false → (a && (b && c)) ≡ false
    no_middle true true c e = e
    no_middle true false c e = refl
    no_middle false b c e = e

-- ---- the facts contradict each other, or it cannot be decided

pub by_clash : (b : Basis) (l : Lit) → are_limited_facts b.scope b.facts ≡ true → IsClashing b.facts l → IsCertifiedAgainst b (Clash l)
by_clash b l g h = record {
  certifies = and_from (all_in_scope b.scope l) (clashes_at b.facts l) (all_at (all_in_scope b.scope) b.facts h.place l (in_scope b.scope b.facts g) h.is_there) h.clashes;
  written = refl;
}

pub by_sums : (b : Basis) (m : MetricCert) → are_limited_facts b.scope b.facts ≡ true → IsMetricCertificate b.facts None m → IsCertifiedAgainst b (MetricAgainst m)
by_sums b m g h = record {
  certifies = and_from (are_sums_in b.scope m.sums) (metric_contradicts b.facts m) (h.scoped b.scope (in_scope b.scope b.facts g) refl) h.refutes;
  written = h.written;
}

pub too_wide : (facts : List Lit) (w : ℕ) → clash facts ≡ false → IsTooWideSystem facts None w → IsTooWideContradiction facts w
too_wide facts w n h = record { no_clash = λ e. true≢false (sym e ∙ n); rows = h.rows; is_system = h.is_one; has_width = h.has_width }
