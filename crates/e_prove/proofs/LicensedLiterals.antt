-- Certificates one after the other, and the first literal that has none.
use Rattle.std.proofs.Common.{◌≡◌, ℕ, ◌+◌, ◌<◌, List, [], ◌∷◌, ◌++◌, take, drop, length, get_or, refl, sym, subst, true, true≢false, Option, Some, None, arith}
use Rattle.std.proofs.lemmas.Grind.{common_steps}
use Rattle.std.proofs.lemmas.List.Elements.{Contains-push_cases}
use Rattle.std.proofs.Common.{⊎_elim}
use Rattle.std.specs.Prelude.{IfOk, IfErr, Result, Ok, Err, Contains}
use Rattle.std.proofs.lemmas.Bool.{and_from}
use Rattle.e_literal.specs.declared.object.Scope.{Scope}
use Rattle.e_literal.specs.declared.object.Term.{Term}
use Rattle.e_literal.specs.declared.literal.Lit.{Lit}
use Rattle.e_literal.proofs.Booleans.{and_left, and_right}
use Rattle.e_clause.specs.declared.cert.Cert.{Cert}
use Rattle.e_clause.specs.Certify.{certifies, certify_all}
use Rattle.e_clause.specs.Wide.{IsTooWideLit}
use Rattle.e_clause.proofs.Sound.{all_allowed_of_certified}
use Rattle.e_deriv.specs.declared.stop.Wanted.{Wanted}
use Rattle.e_deriv.specs.declared.stop.Wanted.TheVariants.{Literal, Match, Contradiction}
use Rattle.e_deriv.specs.Refused.{LiteralIsShown}
use Rattle.e_licence.specs.Contexts.{Basis}
use Rattle.e_licence.specs.Licences.{IsRefusedBy, IsShownBy}
use Rattle.e_prove.specs.declared.stop_reason.StopReason.{StopReason}
use Rattle.e_prove.specs.declared.stop_reason.StopReason.TheVariants as stop_reason
use Rattle.e_prove.specs.inner.StopsOfSteps.{StepStopsAmong}

-- what gives more of a value gives more of a result
pub ok_map : {A E : Type 0} (p q : A → Type 0) (r : Result A E) → ((a : A) → p a → q a) → IfOk r p → IfOk r q
ok_map p q (Ok a) f h = f a h
ok_map p q (Err e) f h = tt

pub err_map : {A E : Type 0} (p q : E → Type 0) (r : Result A E) → ((e : E) → p e → q e) → IfErr r p → IfErr r q
err_map p q (Ok a) f h = tt
err_map p q (Err e) f h = f e h

-- ---- one literal

shown : (facts : List Lit) (l : Lit) (values : Option (List (Term × ℕ))) → IsShownBy facts l values → LiteralIsShown facts l values
shown facts l None h = h
shown facts l (Some values) h = h

-- the one literal is not allowed
pub one_lacks : (x : Basis) (l : Lit) (w : Wanted) (values : Option (List (Term × ℕ))) → w ≡ Literal l → IsRefusedBy x l values →
    StepStopsAmong x (l ∷ []) (stop_reason.Lacks w values)
one_lacks x l w values e h =
    rw e (record { earlier = []; later = []; split = refl; allowed = tt; not_allowed = h.not_allowed }, shown x.facts l values h.shown)

contains_first : (l : Lit) (ls : List Lit) → Contains (l ∷ ls) l
contains_first l ls = (0, omega arith, refl)

-- or it is too wide
pub one_too_wide : (x : Basis) (l : Lit) (w : Wanted) (width : ℕ) → w ≡ Literal l → IsTooWideLit x.scope x.facts l width →
    StepStopsAmong x (l ∷ []) (stop_reason.TooWide w width)
one_too_wide x l w width e h = rw e (contains_first l [], h)

-- ---- literals in order

certify_push : (s : Scope) (facts ls : List Lit) (cs : List Cert) (l : Lit) (c : Cert) →
    certify_all s facts ls cs ≡ true → certifies s facts l c ≡ true → certify_all s facts (ls ++ l ∷ []) (cs ++ c ∷ []) ≡ true
certify_push s facts [] [] l c h k = and_from _ _ k refl
certify_push s facts [] (c' ∷ cs) l c h k = absurd (true≢false (sym h))
certify_push s facts (l' ∷ ls) [] l c h k = absurd (true≢false (sym h))
certify_push s facts (l' ∷ ls) (c' ∷ cs) l c h k =
    let a = certifies s facts l' c' in
    let b = certify_all s facts ls cs in
    and_from _ _ (and_left a b h) (certify_push s facts ls cs l c (and_right a b h) k)

-- the literal at this place has its certificate too
pub certify_next : (x : Basis) (ls : List Lit) (i : ℕ) (cs : List Cert) (l : Lit) (c : Cert) →
    i < length ls → l ≡ get_or ls i l → certify_all x.scope x.facts (take i ls) cs ≡ true → certifies x.scope x.facts l c ≡ true →
    certify_all x.scope x.facts (take (i + 1) ls) (cs ++ c ∷ []) ≡ true
certify_next x ls i cs l c lt is h k =
    let e : take i ls ++ l ∷ [] ≡ take (i + 1) ls = grind (arith, common_steps) in
    subst (λ xs. certify_all x.scope x.facts xs (cs ++ c ∷ []) ≡ true) e (certify_push x.scope x.facts (take i ls) cs l c h k)

only_one : (l m : Lit) (earlier later : List Lit) → l ∷ [] ≡ earlier ++ m ∷ later → m ≡ l
only_one l m [] later e = sym (same_head l m [] later e)
  where
    same_head : (x y : Lit) (xs ys : List Lit) → x ∷ xs ≡ y ∷ ys → x ≡ y
    same_head x y xs ys e = cc
only_one l m (k ∷ []) later e = absurd (too_short l k m later e)
  where
    too_short : (x y z : Lit) (zs : List Lit) → x ∷ [] ≡ y ∷ z ∷ zs → ⊥
    too_short x y z zs e = cc
only_one l m (k ∷ j ∷ earlier) later e = absurd (too_short l k j (earlier ++ m ∷ later) e)
  where
    too_short : (x y z : Lit) (zs : List Lit) → x ∷ [] ≡ y ∷ z ∷ zs → ⊥
    too_short x y z zs e = cc

only_contained : (l m : Lit) → Contains (l ∷ []) m → m ≡ l
only_contained l m h = ⊎_elim (λ none. absurd (omega (arith, none.1))) (λ e. sym e) (Contains-push_cases [] l m h)

-- where those before it are certified, what stops at the literal at this place stops at the list
pub stops_among : (x : Basis) (ls : List Lit) (i : ℕ) (cs : List Cert) (l : Lit) (h : StopReason) →
    i < length ls → l ≡ get_or ls i l → certify_all x.scope x.facts (take i ls) cs ≡ true → StepStopsAmong x (l ∷ []) h → StepStopsAmong x ls h
stops_among x ls i cs l (stop_reason.Lacks (Literal m) values) lt is before h =
    let split : ls ≡ take i ls ++ l ∷ drop (i + 1) ls = grind (arith, common_steps) in
    let same = only_one l m h.0.earlier h.0.later h.0.split in (
      record {
        earlier = take i ls;
        later = drop (i + 1) ls;
        split = rw same split;
        allowed = all_allowed_of_certified x.scope x.facts (take i ls) cs before;
        not_allowed = h.0.not_allowed;
      },
      h.1,
    )
stops_among x ls i cs l (stop_reason.Lacks Match values) lt is before h = absurd h
stops_among x ls i cs l (stop_reason.Lacks Contradiction values) lt is before h = absurd h
stops_among x ls i cs l (stop_reason.TooWide (Literal m) width) lt is before h =
    (rw (only_contained l m h.0) (i, lt, sym is), h.1)
stops_among x ls i cs l (stop_reason.TooWide Match width) lt is before h = absurd h
stops_among x ls i cs l (stop_reason.TooWide Contradiction width) lt is before h = absurd h
stops_among x ls i cs l stop_reason.NoMemory lt is before h = tt
