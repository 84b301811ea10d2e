-- What follows from facts: by a certificate, by a system without solution, or because it is a fact.
use Rattle.std.proofs.Common.{◌≡◌, ◌∙◌, ℕ, List, [], ◌∷◌, refl, sym, ap, Some, None, Bool, true, false, not, true≢false, inl, inr}
use Rattle.std.specs.Prelude.{IsTrue, MatchBool}
use Rattle.std.specs.Option.{option_map_or}
use Rattle.std.proofs.lemmas.Bool.{cases_Bool}
use Rattle.e_literal.specs.declared.object.Term.{Term}
use Rattle.e_literal.specs.declared.literal.Lit.{Lit}
use Rattle.e_literal.specs.Literal.{negation}
use Rattle.e_literal.specs.Truth.{holds}
use Rattle.e_literal.specs.Facts.{has, others, is_metric}
use Rattle.e_literal.specs.Solution.{values_for_all}
use Rattle.e_literal.proofs.Booleans.{and_left, and_right}
use Rattle.e_clause.specs.declared.cert.Part.{Part}
use Rattle.e_clause.specs.declared.cert.Part.TheVariants.{Fact, Metric, FactAt}
use Rattle.e_clause.specs.Assignment.{terms_of_step}
use Rattle.e_clause.specs.Instance.{Inst}
use Rattle.e_clause.specs.RuleKinds.{is_transfer}
use Rattle.e_clause.specs.Metric.{MetricConsequence, Unsatisfiable, IsCounterexample}
use Rattle.e_clause.specs.Transfer.{Stands, NegationsStand}
use Rattle.e_clause.specs.PartCertificate.{part_certifies}
use Rattle.e_clause.specs.MetricCertificate.{sums_refute}
use Rattle.e_clause.specs.TransferCertificate.{parts_certify, instance_certifies}
use Rattle.e_clause.specs.Laws.{MetricCertificateIsSound, MetricContradictionIsSound, TransferCertificateIsSound, MetricFactFollows, CounterexampleSolves, UnsolvedFollows, UnsolvedContradicts, CounterexampleRefutes, CounterexampleSatisfies}
use Rattle.e_clause.proofs.Spread.{spread, model_of}
use Rattle.e_clause.proofs.Refuted.{found, has_holds, has_at, sums_not_refuted}
use Rattle.e_clause.proofs.Solved.{system_so}

-- ---- counterexamples

-- where there is none the literal follows
pub follows_without : (facts : List Lit) (l : Lit) → is_metric l ≡ true → ((v : Term → ℕ) → IsCounterexample facts (Some l) v → ⊥) → MetricConsequence facts l
follows_without facts l m none = record {
  is_metric = m;
  follows = λ v a h. elim (cases_Bool (holds v l)) [
    | inl e ↦ e
    | inr n ↦ absurd (none v (record { is_admissible = a; facts_hold = h; wanted_fails = ap not n }))
  ];
}

pub contradicts_without : (facts : List Lit) → ((v : Term → ℕ) → IsCounterexample facts None v → ⊥) → Unsatisfiable facts
contradicts_without facts none = record { fails = λ v a h. none v (record { is_admissible = a; facts_hold = h; wanted_fails = refl }) }

not_false : (b : Bool) → not b ≡ true → b ≡ true → ⊥
not_false true h e = true≢false (sym h)
not_false false h e = true≢false (sym e)

pub counterexample_refutes : CounterexampleRefutes
counterexample_refutes facts l v x m = not_false (holds v l) x.wanted_fails (m.follows v x.is_admissible x.facts_hold)

pub counterexample_satisfies : CounterexampleSatisfies
counterexample_satisfies facts v x u = u.fails v x.is_admissible x.facts_hold

-- ---- systems

pub counterexample_solves : CounterexampleSolves
counterexample_solves facts wanted v x which = record {
  values = spread v (terms_of_step facts wanted);
  satisfy = system_so facts wanted (spread v (terms_of_step facts wanted)) (model_of facts wanted v x) which;
}

pub unsolved_follows : UnsolvedFollows
unsolved_follows facts l which m none = follows_without facts l m (λ v x. none (counterexample_solves facts (Some l) v x which))

pub unsolved_contradicts : UnsolvedContradicts
unsolved_contradicts facts which none = contradicts_without facts (λ v x. none (counterexample_solves facts None v x which))

-- ---- metric certificates

pub metric_certificate : MetricCertificateIsSound
metric_certificate facts l m h =
    follows_without facts l (and_left (is_metric l) (sums_refute facts (Some l) m.sums) h)
    (λ v x. sums_not_refuted facts (Some l) (spread v (terms_of_step facts (Some l))) (model_of facts (Some l) v x) m.sums (and_right (is_metric l) (sums_refute facts (Some l) m.sums) h))

pub metric_contradiction : MetricContradictionIsSound
metric_contradiction facts m h =
    contradicts_without facts (λ v x. sums_not_refuted facts None (spread v (terms_of_step facts None)) (model_of facts None v x) m.sums h)

pub metric_fact : MetricFactFollows
metric_fact facts l m h =
    follows_without facts l m (λ v x. (let w = spread v (terms_of_step facts (Some l)) in
    let model = model_of facts (Some l) v x in
    not_false (holds (values_for_all w) l) model.wanted_fails (has_holds facts l w model.facts_hold h)))

-- ---- transfer certificates

by_test : (b : Bool) (P Q : Type 0) → (b ≡ true → P) → (b ≡ false → Q) → MatchBool b P Q
by_test true P Q f g = f refl
by_test false P Q f g = g refl

stands_of : (facts : List Lit) (l : Lit) (p : Part) → part_certifies facts l p ≡ true → Stands facts l
stands_of facts l Fact h = by_test (is_metric l) (MetricConsequence facts l) (IsTrue (has facts l)) (λ m. metric_fact facts l m h) (λ m. h)
stands_of facts l (Metric c) h =
    by_test (is_metric l) (MetricConsequence facts l) (IsTrue (has facts l)) (λ m. metric_certificate facts l c h)
    (λ m. absurd (true≢false (sym (and_left (is_metric l) (sums_refute facts (Some l) c.sums) h) ∙ m)))
stands_of facts l (FactAt k) h =
    let there = has_at facts l k h in by_test (is_metric l) (MetricConsequence facts l) (IsTrue (has facts l)) (λ m. metric_fact facts l m there) (λ m. there)

negations_of : (facts ls : List Lit) (ps : List Part) → parts_certify facts ls ps ≡ true → NegationsStand facts ls
negations_of facts [] ps h = tt
negations_of facts (l ∷ ls) [] h = absurd (true≢false (sym h))
negations_of facts (l ∷ ls) (p ∷ ps) h =
    let a = part_certifies facts (negation l) p in
    let b = parts_certify facts ls ps in
    (stands_of facts (negation l) p (and_left a b h), negations_of facts ls ps (and_right a b h))

pub transfer_certificate : TransferCertificateIsSound
transfer_certificate scope facts l t over h =
    let b = option_map_or (instance_certifies facts l t.parts) (Inst t.rule t.args) false in
    let k = found (instance_certifies facts l t.parts) (Inst t.rule t.args) (and_right (is_transfer t.rule) b h) in
    let one = has k.0 l in
    let rest = parts_certify facts (others k.0 l) t.parts in
    record {
      lits = k.0;
      of = record {
        rule = t.rule;
        is_transfer = and_left (is_transfer t.rule) b h;
        args = t.args;
        over_scope = over;
        instance = k.1;
        is_one = and_left one rest k.2;
      };
      rest = negations_of facts (others k.0 l) t.parts (and_right one rest k.2);
    }
