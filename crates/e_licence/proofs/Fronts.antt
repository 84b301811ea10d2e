-- What is solved of the first facts, while facts come and go.
use Rattle.std.proofs.Common.{◌≡◌, ℕ, List, ◌++◌, take, drop, subst, Option, Some, None, Result, Ok, Err}
use Rattle.std.specs.Prelude.{IfSome, IfOk}
use Rattle.std.proofs.lemmas.List.{take-append-drop}
use Rattle.e_literal.specs.declared.literal.Lit.{Lit}
use Rattle.e_metric.specs.declared.metric_facts.MetricFacts.{MetricFacts}
use Rattle.e_metric.specs.Fronts.{AreFronts}
use Rattle.e_metric.proofs.answers.Fronts.{fronts_more}

-- it stays so when facts come after
pub metric_facts_more : (facts more : List Lit) (metric_facts : Option MetricFacts) → IfSome metric_facts (AreFronts facts) → IfSome metric_facts (AreFronts (facts ++ more))
metric_facts_more facts more None h = tt
metric_facts_more facts more (Some m) h = fronts_more facts more m h

-- and where the facts are the first of others
pub metric_facts_of_more : (facts : List Lit) (n : ℕ) (metric_facts : Option MetricFacts) → IfSome metric_facts (AreFronts (take n facts)) → IfSome metric_facts (AreFronts facts)
metric_facts_of_more facts n None h = tt
metric_facts_of_more facts n (Some m) h = subst (λ fs. AreFronts fs m) (take-append-drop n facts) (fronts_more (take n facts) (drop n facts) m h)

-- a copy knows as much
pub copied_metric_facts : {E : Type 0} (metric_facts : Option MetricFacts) (m : MetricFacts) (r : Result MetricFacts E) → metric_facts ≡ Some m → IfOk r (λ copy. (facts : List Lit) → AreFronts facts m → AreFronts facts copy) →
    IfOk r (λ copy. (facts : List Lit) → IfSome metric_facts (AreFronts facts) → AreFronts facts copy)
copied_metric_facts metric_facts m (Err e) is right = tt
copied_metric_facts metric_facts m (Ok copy) is right = λ facts h. right facts (subst (λ o. IfSome o (AreFronts facts)) is h)
