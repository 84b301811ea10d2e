-- States that are held while facts come, and that are released.
use Rattle.std.proofs.Common.{◌≡◌, ℕ, zero, suc, ◌≤◌, List, [], ◌∷◌, ◌++◌, length, take, refl, sym, ap, ◌∙◌, subst, true, Option, Some, None, Result, Ok, Err, arith, append-nil}
use Rattle.std.specs.Prelude.{map, slice_get, IfSome, IfOk, OnOk, OnErr, Bool, false, if◌then◌else◌}
use Rattle.std.proofs.lemmas.List.{length-append, length-take, take_all, take-take, take-append-le, map_push, same_from_push}
use Rattle.e_literal.specs.declared.object.Scope.{Scope}
use Rattle.e_literal.specs.declared.literal.Lit.{Lit}
use Rattle.e_literal.specs.Facts.{has, with_fact}
use Rattle.e_clause.specs.LimitedFacts.{are_limited_facts}
use Rattle.e_facts.specs.declared.facts.Added.{Added}
use Rattle.e_facts.specs.Adding.{AddedIs}
use Rattle.e_metric.specs.declared.metric_facts.MetricFacts.{MetricFacts}
use Rattle.e_metric.specs.Fronts.{AreFronts}
use Rattle.e_licence.specs.declared.held.Held.{Held}
use Rattle.e_licence.specs.Contexts.{State, Basis, state_of, IsReleased}
use Rattle.e_licence.specs.HeldStates.{held_in, IsHeldState, AreHeld, IsHeldContext}
use Rattle.e_licence.proofs.Fronts.{metric_facts_more, metric_facts_of_more}

-- what contracts see of a context
abbrev pub basis_of : Scope → List Lit → List Held → Basis
basis_of s facts held = record { scope = s; facts = facts; held = map (held_in facts) held }

-- ---- checkpoints

rise : (low high : ℕ) (facts : List Lit) (hs : List Held) → AreHeld low high facts hs → low ≤ high
rise low high facts [] h = h
rise low high facts (x ∷ hs) h = let above = rise x.facts high facts hs h.2 in omega (arith, h.0, above)

higher : (low n m : ℕ) (facts : List Lit) (hs : List Held) → n ≤ m → AreHeld low n facts hs → AreHeld low m facts hs
higher low n m facts [] le h = omega (arith, h, le)
higher low n m facts (x ∷ hs) le h = (h.0, h.1, higher x.facts n m facts hs le h.2)

-- where the first n facts stay, so do the first k of them
same_front : (facts other : List Lit) (n k : ℕ) → k ≤ n → take n facts ≡ take n other → take k facts ≡ take k other
same_front facts other n k le e = sym (take-take k n facts le) ∙ ap (λ fs. take k fs) e ∙ take-take k n other le

held_moved : (facts other : List Lit) (x : Held) → take x.facts facts ≡ take x.facts other → IsHeldState facts x → IsHeldState other x
held_moved facts other x e h =
    record { good = subst (λ fs. are_limited_facts x.scope fs ≡ true) e h.good; metric_facts = subst (λ fs. IfSome x.solved (AreFronts fs)) e h.metric_facts }

-- and all that is held of them
are_moved : (low n : ℕ) (facts other : List Lit) (hs : List Held) → take n facts ≡ take n other → AreHeld low n facts hs → AreHeld low n other hs
are_moved low n facts other [] e h = h
are_moved low n facts other (x ∷ hs) e h =
    let same = same_front facts other n x.facts (rise x.facts n facts hs h.2) e in
    (h.0, held_moved facts other x same h.1, are_moved x.facts n facts other hs e h.2)

states_stay : (low n : ℕ) (facts other : List Lit) (hs : List Held) → take n facts ≡ take n other → AreHeld low n facts hs → map (held_in other) hs ≡ map (held_in facts) hs
states_stay low n facts other [] e h = refl
states_stay low n facts other (x ∷ hs) e h =
    let same = same_front facts other n x.facts (rise x.facts n facts hs h.2) e in
    let first : held_in other x ≡ held_in facts x = ap (λ fs. record { scope = x.scope; facts = fs }) (sym same) in
    ap (λ s. s ∷ map (held_in other) hs) first ∙ ap (λ ss. held_in facts x ∷ ss) (states_stay x.facts n facts other hs e h.2)

pushed : (low n m : ℕ) (facts : List Lit) (hs : List Held) (x : Held) → n ≤ x.facts → x.facts ≤ m → IsHeldState facts x → AreHeld low n facts hs → AreHeld low m facts (hs ++ x ∷ [])
pushed low n m facts [] x a b k h = (omega (arith, a, h), k, b)
pushed low n m facts (y ∷ hs) x a b k h = (h.0, h.1, pushed y.facts n m facts hs x a b k h.2)

-- what the last of them is, and what those before it are
record Popped (low n : ℕ) (facts : List Lit) (hs : List Held) (x : Held) : Type 0 where
  before : AreHeld low x.facts facts hs
  last : IsHeldState facts x
  few : x.facts ≤ n

popped : (low n : ℕ) (facts : List Lit) (hs : List Held) (x : Held) → AreHeld low n facts (hs ++ x ∷ []) → Popped low n facts hs x
popped low n facts [] x h = record { before = h.0; last = h.1; few = h.2 }
popped low n facts (y ∷ hs) x h =
    let p = popped y.facts n facts hs x h.2 in
    record { before = (h.0, h.1, p.before); last = p.last; few = p.few }

-- any of them
held_at : (low n : ℕ) (facts : List Lit) (hs : List Held) (i : ℕ) (x : Held) → slice_get hs i ≡ Some x → AreHeld low n facts hs → IsHeldState facts x
held_at low n facts [] i x e h = absurd (cc)
held_at low n facts (y ∷ hs) zero x e h = let same : y ≡ x = cc in subst (IsHeldState facts) same h.1
held_at low n facts (y ∷ hs) (suc i) x e h = held_at y.facts n facts hs i x e h.2

-- what is right wherever that is right which was solved when one was held
pub metric_facts_at : {E : Type 0} (held : List Held) (i : ℕ) (x : Held) (r : Result MetricFacts E) → slice_get held i ≡ Some x →
    IfOk r (λ metric_facts. (facts : List Lit) → IfSome x.solved (AreFronts facts) → AreFronts facts metric_facts) →
    IfOk r (λ metric_facts. (facts : List Lit) (high : ℕ) → AreHeld 0 high facts held → AreFronts facts metric_facts)
metric_facts_at held i x (Err e) at right = tt
metric_facts_at held i x (Ok metric_facts) at right = λ facts high h. right facts (metric_facts_of_more facts x.facts x.solved (held_at 0 high facts held i x at h).metric_facts)

-- it need not be known of the present facts
pub metric_facts_or_outside : {E : Type 0} (own : Option MetricFacts) (held : List Held) (r : Result MetricFacts E) →
    IfOk r (λ metric_facts. (facts : List Lit) (high : ℕ) → AreHeld 0 high facts held → AreFronts facts metric_facts) →
    IfOk r (λ metric_facts. (facts : List Lit) (high : ℕ) → IfSome own (AreFronts facts) → AreHeld 0 high facts held → AreFronts facts metric_facts)
metric_facts_or_outside own held (Err e) right = tt
metric_facts_or_outside own held (Ok metric_facts) right = λ facts high k h. right facts high h

-- ---- a new context

pub begins : (s : Scope) (facts : List Lit) (held : List Held) → held ≡ [] → are_limited_facts s facts ≡ true → IsHeldContext s facts held None
begins s facts held e g = rw e (record { good = g; states = omega arith; metric_facts = tt })

-- ---- facts come

front_stays : (facts more : List Lit) → take (length facts) facts ≡ take (length facts) (facts ++ more)
front_stays facts more = sym (take-append-le (length facts) facts more (omega arith))

-- facts that are the old ones, and more
more_facts : (s : Scope) (facts new more : List Lit) (held : List Held) (metric_facts : Option MetricFacts) → new ≡ facts ++ more → are_limited_facts s new ≡ true → IsHeldContext s facts held metric_facts → IsHeldContext s new held metric_facts
more_facts s facts new more held metric_facts e g h =
    let many = length-append facts more in
    subst (λ fs. IsHeldContext s fs held metric_facts) (sym e)
    (record {
      good = subst (λ fs. are_limited_facts s fs ≡ true) e g;
      states =
          higher 0 (length facts) (length (facts ++ more)) (facts ++ more) held (omega (arith, many)) (are_moved 0 (length facts) facts (facts ++ more) held (front_stays facts more) h.states);
      metric_facts = metric_facts_more facts more metric_facts h.metric_facts;
    })

more_states : (s : Scope) (facts new more : List Lit) (held : List Held) (metric_facts : Option MetricFacts) → new ≡ facts ++ more → IsHeldContext s facts held metric_facts → map (held_in new) held ≡ map (held_in facts) held
more_states s facts new more held metric_facts e h =
    ap (λ fs. map (held_in fs) held) e ∙ states_stay 0 (length facts) facts (facts ++ more) held (front_stays facts more) h.states

joins : (facts : List Lit) (l : Lit) → (more : List Lit) × (with_fact facts l ≡ facts ++ more)
unfolding with_fact
joins facts l = by (has facts l)
  where
    by : (b : Bool) → (more : List Lit) × ((if b then facts else facts ++ l ∷ []) ≡ facts ++ more)
    by true = ([], sym (append-nil facts))
    by false = (l ∷ [], refl)

pub after_add : {E : Type 0} (r : Result Added E) (s : Scope) (facts new : List Lit) (l : Lit) (held : List Held) (metric_facts : Option MetricFacts) → OnOk r (new ≡ with_fact facts l) → OnErr r (new ≡ facts) →
    are_limited_facts s (with_fact facts l) ≡ true → IsHeldContext s facts held metric_facts → IsHeldContext s new held metric_facts
after_add (Ok a) s facts new l held metric_facts ok err g h =
    let j = joins facts l in
    more_facts s facts new j.0 held metric_facts (ok ∙ j.1) (subst (λ fs. are_limited_facts s fs ≡ true) (sym ok) g) h
after_add (Err e) s facts new l held metric_facts ok err g h = subst (λ fs. IsHeldContext s fs held metric_facts) (sym err) h

pub add_joins : {E : Type 0} (r : Result Added E) (s : Scope) (facts new : List Lit) (l : Lit) (held : List Held) (metric_facts : Option MetricFacts) (b : Basis) → basis_of s facts held ≡ b → OnOk r (new ≡ with_fact facts l) →
    IsHeldContext s facts held metric_facts → OnOk r (basis_of s new held ≡ record b { facts = with_fact b.facts l })
add_joins (Ok a) s facts new l held metric_facts b is ok h =
    let j = joins facts l in
    let states = more_states s facts new j.0 held metric_facts (ok ∙ j.1) h in
    let first : basis_of s new held ≡ record (basis_of s facts held) { facts = new } = ap (λ hs. record { scope = s; facts = new; held = hs }) states in
    let second : record (basis_of s facts held) { facts = new } ≡ record (basis_of s facts held) { facts = with_fact facts l } = ap (λ fs. record { scope = s; facts = fs; held = map (held_in facts) held }) ok in
    first ∙ second ∙ ap (λ (c : Basis). record c { facts = with_fact c.facts l }) is
add_joins (Err e) s facts new l held metric_facts b is ok h = tt

pub add_keeps : {E : Type 0} (r : Result Added E) (s : Scope) (facts new : List Lit) (held : List Held) (b : Basis) → basis_of s facts held ≡ b → OnErr r (new ≡ facts) → OnErr r (basis_of s new held ≡ b)
add_keeps (Ok a) s facts new held b is err = tt
add_keeps (Err e) s facts new held b is err = ap (λ fs. basis_of s fs held) err ∙ is

pub add_is : {E : Type 0} (r : Result Added E) (s : Scope) (facts new : List Lit) (l : Lit) (held : List Held) (b : Basis) → basis_of s facts held ≡ b → IfOk r (AddedIs facts l new) → IfOk r (AddedIs b.facts l new)
add_is r s facts new l held b is h = subst (λ fs. IfOk r (AddedIs fs l new)) (ap (λ (c : Basis). c.facts) is) h

-- ---- a state is held

pub after_hold : (s : Scope) (facts : List Lit) (held new : List Held) (metric_facts : Option MetricFacts) (x : Held) → x.scope ≡ s → x.facts ≡ length facts → x.solved ≡ metric_facts → new ≡ held ++ x ∷ [] →
    IsHeldContext s facts held metric_facts → IsHeldContext s facts new None
after_hold s facts held new metric_facts x in_scope many solved e h =
    let all : take x.facts facts ≡ facts = take_all x.facts facts (omega (arith, many)) in
    let good : are_limited_facts x.scope (take x.facts facts) ≡ true =
    subst (λ t. are_limited_facts t (take x.facts facts) ≡ true) (sym in_scope) (subst (λ fs. are_limited_facts s fs ≡ true) (sym all) h.good)
    in
    let kept : IfSome x.solved (AreFronts (take x.facts facts)) =
    subst (λ o. IfSome o (AreFronts (take x.facts facts))) (sym solved) (subst (λ fs. IfSome metric_facts (AreFronts fs)) (sym all) h.metric_facts)
    in
    rw e
    (record {
      good = h.good;
      states = pushed 0 (length facts) (length facts) facts held x (omega (arith, many)) (omega (arith, many)) (record { good = good; metric_facts = kept }) h.states;
      metric_facts = tt;
    })

pub hold_is : (s : Scope) (facts : List Lit) (held new : List Held) (x : Held) (b : Basis) → basis_of s facts held ≡ b → x.scope ≡ s → x.facts ≡ length facts → new ≡ held ++ x ∷ [] →
    basis_of s facts new ≡ record b { held = b.held ++ state_of b ∷ [] }
hold_is s facts held new x b is in_scope many e =
    let all : take x.facts facts ≡ facts = take_all x.facts facts (omega (arith, many)) in
    let scope_is : held_in facts x ≡ record { scope = s; facts = take x.facts facts } = ap (λ t. record { scope = t; facts = take x.facts facts }) in_scope in
    let last : held_in facts x ≡ state_of (basis_of s facts held) = scope_is ∙ ap (λ fs. record { scope = s; facts = fs }) all in
    let states : map (held_in facts) new ≡ map (held_in facts) held ++ state_of (basis_of s facts held) ∷ [] =
    ap (map (held_in facts)) e ∙ map_push (held_in facts) held x ∙ ap (λ t. map (held_in facts) held ++ t ∷ []) last
    in
    let first : basis_of s facts new ≡ record (basis_of s facts held) { held = map (held_in facts) held ++ state_of (basis_of s facts held) ∷ [] } = ap (λ hs. record { scope = s; facts = facts; held = hs }) states in
    first ∙ ap (λ (c : Basis). record c { held = c.held ++ state_of c ∷ [] }) is

-- ---- the last held state is released

pub after_release : (s : Scope) (facts new : List Lit) (held rest : List Held) (metric_facts : Option MetricFacts) (x : Held) → held ≡ rest ++ x ∷ [] → new ≡ take x.facts facts →
    IsHeldContext s facts held metric_facts → IsHeldContext x.scope new rest x.solved
after_release s facts new held rest metric_facts x split e h =
    let p = popped 0 (length facts) facts rest x (subst (AreHeld 0 (length facts) facts) split h.states) in
    let many = length-take x.facts facts in
    let left : x.facts ≤ length (take x.facts facts) = omega (arith, many, p.few) in
    let same : take x.facts facts ≡ take x.facts (take x.facts facts) = sym (take-take x.facts x.facts facts (omega arith)) in
    rw e
    (record {
      good = p.last.good;
      states = higher 0 x.facts (length (take x.facts facts)) (take x.facts facts) rest left (are_moved 0 x.facts facts (take x.facts facts) rest same p.before);
      metric_facts = p.last.metric_facts;
    })

-- its checkpoint is a place among the facts
pub checkpoint_within : (s : Scope) (facts : List Lit) (held rest : List Held) (metric_facts : Option MetricFacts) (x : Held) → held ≡ rest ++ x ∷ [] → IsHeldContext s facts held metric_facts → x.facts ≤ length facts
checkpoint_within s facts held rest metric_facts x split h = (popped 0 (length facts) facts rest x (subst (AreHeld 0 (length facts) facts) split h.states)).few

pub release_is : (s : Scope) (facts new : List Lit) (held rest : List Held) (metric_facts : Option MetricFacts) (x : Held) (b : Basis) → basis_of s facts held ≡ b → held ≡ rest ++ x ∷ [] → new ≡ take x.facts facts →
    IsHeldContext s facts held metric_facts → IsReleased b (basis_of x.scope new rest)
release_is s facts new held rest metric_facts x b is split e h before last ends =
    let p = popped 0 (length facts) facts rest x (subst (AreHeld 0 (length facts) facts) split h.states) in
    let same : take x.facts facts ≡ take x.facts (take x.facts facts) = sym (take-take x.facts x.facts facts (omega arith)) in
    let seen : map (held_in facts) rest ++ held_in facts x ∷ [] ≡ before ++ last ∷ [] =
    sym (ap (map (held_in facts)) split ∙ map_push (held_in facts) rest x) ∙ ap (λ (c : Basis). c.held) is ∙ ends
    in
    let both = same_from_push (map (held_in facts) rest) before (held_in facts x) last seen in
    let states : map (held_in new) rest ≡ before =
    ap (λ fs. map (held_in fs) rest) e ∙ states_stay 0 x.facts facts (take x.facts facts) rest same p.before ∙ both.0
    in
    let first : basis_of x.scope new rest ≡ record { scope = x.scope; facts = new; held = before } = ap (λ hs. record { scope = x.scope; facts = new; held = hs }) states in
    let second : record { scope = x.scope; facts = new; held = before } ≡ record { scope = x.scope; facts = take x.facts facts; held = before } = ap (λ fs. record { scope = x.scope; facts = fs; held = before }) e in
    first ∙ second ∙ ap (λ (t : State). record { scope = t.scope; facts = t.facts; held = before }) both.1

-- ---- facts are asked

-- what is right of what was solved is right of the facts
pub metric_facts_now : {E : Type 0} (s : Scope) (facts : List Lit) (held : List Held) (metric_facts : Option MetricFacts) (b : Basis) (r : Result MetricFacts E) → basis_of s facts held ≡ b → IsHeldContext s facts held metric_facts →
    IfOk r (λ copy. (fs : List Lit) → IfSome metric_facts (AreFronts fs) → AreFronts fs copy) → IfOk r (AreFronts b.facts)
metric_facts_now s facts held metric_facts b (Err e) is h right = tt
metric_facts_now s facts held metric_facts b (Ok copy) is h right = subst (λ (c : Basis). AreFronts c.facts copy) is (right facts h.metric_facts)
