-- Which stops are right.
use Rattle.std.proofs.Common.{◌≡◌, ℕ, zero, suc, ◌<◌, List, [], ◌∷◌, Option, refl, sym, ap, ◌∙◌, subst, Bool, true, false, Some, inl, inr, arith}
use Rattle.std.specs.Prelude.{MatchBool, take, slice_get}
use Rattle.std.proofs.lemmas.Option.{same_Some, none-some}
use Rattle.e_literal.specs.declared.object.Obj.{Obj}
use Rattle.e_literal.specs.declared.object.Scope.{Scope}
use Rattle.e_literal.specs.declared.literal.Lit.{Lit}
use Rattle.e_literal.specs.Use.{StatementView}
use Rattle.e_clause.specs.Wide.{IsWideLit, IsWideContradiction, IsTooWideLit, IsTooWideContradiction}
use Rattle.e_theorem.specs.WideChoice.{SomeChoiceIsWide, SomeChoiceIsTooWide}
use Rattle.e_deriv.specs.declared.stop.Wanted.{Wanted}
use Rattle.e_deriv.specs.declared.stop.Wanted.TheVariants.{Literal, Match, Contradiction as AContradiction}
use Rattle.e_deriv.specs.declared.stop.Stop.{Stop}
use Rattle.e_deriv.specs.declared.stop.Stop.TheVariants.{Unlicensed, TooWide, NoMemory}
use Rattle.e_deriv.specs.Script.{Script, Cite, Hence, Make, Apply, Claim, Superposed, Qed, Contradiction, Cases}
use Rattle.e_deriv.specs.Parts.{has_no_blank}
use Rattle.e_deriv.specs.Goal.{Goal, facts_of_statement, goal_of_statement}
use Rattle.e_literal.specs.Use.{scope_of}
use Rattle.e_deriv.specs.PlacedSteps.{PlacedStep, theorem_at, proof_steps}
use Rattle.e_deriv.specs.Licensed.{AllLicensed, IsContext, IsFirstUnlicensed}
use Rattle.e_deriv.specs.Certified.{Certified, derivation_steps}
use Rattle.e_deriv.specs.Refused.{IsRefused, IsWideStep, IsTooWide, IsTooWideAt, SomeIsWide}
use Rattle.e_deriv.specs.Laws.{SamePlace}
use Rattle.e_deriv.proofs.Agreement.{proof_of_certified, licensed_of_proof}
use Rattle.e_deriv.proofs.Stops.{no_stop_of_licensed, one_stop, one_context, lacks_not, same_length, Earlier, earlier_line, licensed_line, order}
use Rattle.e_prove.specs.Stops.{StopIs}
use Rattle.e_prove.specs.Laws.{NoneWide, IsNoRefusal, IsRefusalAt}

-- ---- what is refused is not licensed

pub unlicensed_of_refused : (before : List StatementView) (t : StatementView) (script : Script) (n : ℕ) (w : Wanted) (values : _) → IsRefused before t script n w values → IsFirstUnlicensed before t script n w
unlicensed_of_refused before t script n w values h = record { step = h.step; context = h.context; lacks = h.lacks }

-- ---- what is too wide is wide

pub wide_lit : (s : Scope) (facts : List Lit) (l : Lit) (w : ℕ) → IsTooWideLit s facts l w → IsWideLit s facts l
wide_lit s facts l w h = record { not_plain = h.not_plain; rows = h.rows; is_system = h.is_system; is_wide = h.has_width.is_wide }

wide_contradiction : (facts : List Lit) (w : ℕ) → IsTooWideContradiction facts w → IsWideContradiction facts
wide_contradiction facts w h = record { no_clash = h.no_clash; rows = h.rows; is_system = h.is_system; is_wide = h.has_width.is_wide }

pub wide_choice : (t : StatementView) (s : Scope) (facts : List Lit) (pattern : List (Option Obj)) (w : ℕ) → SomeChoiceIsTooWide t s facts pattern w → SomeChoiceIsWide t s facts pattern
wide_choice t s facts pattern w h =
    record { args = h.args; is_choice = h.is_choice; not_above = h.not_above; lit = h.lit; is_given = h.is_given; is_wide = wide_lit s facts h.lit w h.is_wide }

abbrev at_place : Script → Scope → List Lit → Goal → List Obj → PlacedStep
at_place here s facts goal args = record { scope = s; facts = facts; goal = goal; here = here; args = args }

wide_at : (before : List StatementView) (here : Script) (s : Scope) (facts : List Lit) (goal : Goal) (args : List Obj) (wanted : Wanted) (w : ℕ) →
    IsTooWide before (at_place here s facts goal args) here wanted w → IsWideStep before (at_place here s facts goal args)
wide_at before (Contradiction against) s facts goal args AContradiction w h = wide_contradiction facts w h
wide_at before (Contradiction against) s facts goal args (Literal l) w h = absurd h
wide_at before (Contradiction against) s facts goal args Match w h = absurd h
wide_at before (Apply theorem pattern names certs rest) s facts goal args (Literal l) w h =
    let x = at_place (Apply theorem pattern names certs rest) s facts goal args in
    let one : SomeIsWide before x = record { lit = l; is_one = h.1; is_wide = wide_lit s facts l w h.2 } in
    subst (λ b. MatchBool b (SomeIsWide before x) (SomeChoiceIsWide (theorem_at before theorem) s facts pattern)) (sym h.0) one
wide_at before (Apply theorem pattern names certs rest) s facts goal args Match w h =
    let x = at_place (Apply theorem pattern names certs rest) s facts goal args in
    subst (λ b. MatchBool b (SomeIsWide before x) (SomeChoiceIsWide (theorem_at before theorem) s facts pattern)) (sym h.0) (wide_choice (theorem_at before theorem) s facts pattern w h.1)
wide_at before (Cite by rest) s facts goal args (Literal l) w h = record { lit = l; is_one = h.0; is_wide = wide_lit s facts l w h.1 }
wide_at before (Hence lit cert rest) s facts goal args (Literal l) w h = record { lit = l; is_one = h.0; is_wide = wide_lit s facts l w h.1 }
wide_at before (Make construction names certs rest) s facts goal args (Literal l) w h = record { lit = l; is_one = h.0; is_wide = wide_lit s facts l w h.1 }
wide_at before (Qed objects certs) s facts goal args (Literal l) w h = record { lit = l; is_one = h.0; is_wide = wide_lit s facts l w h.1 }
wide_at before (Claim shown inner rest) s facts goal args (Literal l) w h = record { lit = l; is_one = h.0; is_wide = wide_lit s facts l w h.1 }
wide_at before (Superposed superposition names shown certs inner rest) s facts goal args (Literal l) w h = record { lit = l; is_one = h.0; is_wide = wide_lit s facts l w h.1 }
wide_at before (Cases lit first second) s facts goal args (Literal l) w h = record { lit = l; is_one = h.0; is_wide = wide_lit s facts l w h.1 }
wide_at before here s facts goal args wanted w h = absurd h

wide_line : (before : List StatementView) (x : PlacedStep) (wanted : Wanted) (w : ℕ) → IsTooWide before x x.here wanted w → IsWideStep before x
wide_line before x wanted w h = wide_at before x.here x.scope x.facts x.goal x.args wanted w h

-- whether a step is wide does not look at how its blanks are filled
wide_again : (before : List StatementView) (here : Script) (s : Scope) (facts : List Lit) (goal : Goal) (a b : List Obj) → IsWideStep before (at_place here s facts goal a) → IsWideStep before (at_place here s facts goal b)
wide_again before (Contradiction against) s facts goal a b h = h
wide_again before (Apply theorem pattern names certs rest) s facts goal a b h = by (has_no_blank pattern) h
  where
    by : (k : Bool) → MatchBool k (SomeIsWide before (at_place (Apply theorem pattern names certs rest) s facts goal a)) (SomeChoiceIsWide (theorem_at before theorem) s facts pattern) →
        MatchBool k (SomeIsWide before (at_place (Apply theorem pattern names certs rest) s facts goal b)) (SomeChoiceIsWide (theorem_at before theorem) s facts pattern)
    by true h = record { lit = h.lit; is_one = h.is_one; is_wide = h.is_wide }
    by false h = h
wide_again before here s facts goal a b h = record { lit = h.lit; is_one = h.is_one; is_wide = h.is_wide }

wide_moved : (before : List StatementView) (x y : PlacedStep) → SamePlace x y → IsWideStep before x → IsWideStep before y
wide_moved before x y e h =
    wide_again before y.here y.scope y.facts y.goal x.args y.args
    (subst (λ g. IsWideStep before (at_place y.here y.scope y.facts g x.args)) e.goal
    (subst (λ f. IsWideStep before (at_place y.here y.scope f x.goal x.args)) e.facts
    (subst (λ s. IsWideStep before (at_place y.here s x.facts x.goal x.args)) e.scope
    (subst (λ d. IsWideStep before (at_place d x.scope x.facts x.goal x.args)) e.here h))))

-- where none is wide that at this place is not
not_wide_at : (before : List StatementView) (xs : List PlacedStep) (p : ℕ) (x : PlacedStep) → NoneWide before xs → slice_get xs p ≡ Some x → ¬ IsWideStep before x
not_wide_at before [] p x h e = absurd (none-some x e)
not_wide_at before (y ∷ ys) zero x h e = subst (λ z. ¬ IsWideStep before z) (same_Some y x e) h.0
not_wide_at before (y ∷ ys) (suc p) x h e = not_wide_at before ys p x h.1 e

-- ---- where each step is licensed

pub no_refusal_of_licensed : (before : List StatementView) (t : StatementView) (script f : Script) (stop : Stop) → AllLicensed before (proof_steps before t script f) → StopIs before t script stop → IsNoRefusal stop
no_refusal_of_licensed before t script f (Unlicensed n w values names) all is = no_stop_of_licensed before t script f n w all (unlicensed_of_refused before t script n w values is)
no_refusal_of_licensed before t script f (TooWide n w width names) all is = tt
no_refusal_of_licensed before t script f NoMemory all is = tt

-- the step among the licensed ones in the place of one that is too wide is wide
too_wide_among : (before : List StatementView) (t : StatementView) (script f : Script) (n : ℕ) (w : Wanted) (width : ℕ) → AllLicensed before (proof_steps before t script f) → NoneWide before (proof_steps before t script f) →
    ¬ IsTooWideAt before t script n w width
too_wide_among before t script f n w width all none is =
    let c = is.context in
    let xs = proof_steps before t script f in
    let e : Earlier before xs c.place =
    licensed_line before xs (proof_steps before t script c.filled) c.place is.step (same_length before script f c.filled (scope_of t) (facts_of_statement t) (goal_of_statement t)) all c.at
    in
    let other : IsContext before t script n e.step = record { filled = f; place = c.place; number = c.number; at = e.stands.at; earlier = e.stands.earlier } in
    not_wide_at before xs c.place e.step none e.stands.at (wide_moved before is.step e.step (one_context before t script n is.step e.step c other) (wide_line before is.step w width is.too_wide))

pub memory_of_licensed : (before : List StatementView) (t : StatementView) (script f : Script) (stop : Stop) → AllLicensed before (proof_steps before t script f) → NoneWide before (proof_steps before t script f) →
    StopIs before t script stop → stop ≡ NoMemory
memory_of_licensed before t script f (Unlicensed n w values names) all none is =
    absurd (no_stop_of_licensed before t script f n w all (unlicensed_of_refused before t script n w values is))
memory_of_licensed before t script f (TooWide n w width names) all none is = absurd (too_wide_among before t script f n w width all none is)
memory_of_licensed before t script f NoMemory all none is = refl

pub memory_of_derived : (before : List StatementView) (t : StatementView) (d : Script) (stop : Stop) → Certified before t d → NoneWide before (derivation_steps before t d) → StopIs before t d stop → stop ≡ NoMemory
memory_of_derived before t d stop certified none is =
    memory_of_licensed before t d d stop (licensed_of_proof before t d (proof_of_certified before t d certified)) none is

-- ---- where a step is not

none_in_front : (before : List StatementView) (xs : List PlacedStep) (p q : ℕ) (x : PlacedStep) → q < suc p → slice_get xs q ≡ Some x → NoneWide before (take (suc p) xs) → ¬ IsWideStep before x
none_in_front before [] p q x lt at none = absurd (none-some x at)
none_in_front before (y ∷ ys) p zero x lt at none = subst (λ z. ¬ IsWideStep before z) (same_Some y x at) none.0
none_in_front before (y ∷ ys) zero (suc q) x lt at none = absurd (omega (arith, lt))
none_in_front before (y ∷ ys) (suc p) (suc q) x lt at none = none_in_front before ys p q x (omega (arith, lt)) at none.1

-- of a step that lacks something and one that is too wide, before which all are licensed, the second does not come later
too_wide_after : (before : List StatementView) (t : StatementView) (script : Script) (n m : ℕ) (wanted w : Wanted) (width : ℕ) (first : IsFirstUnlicensed before t script n wanted) (is : IsTooWideAt before t script m w width) →
    first.context.place < is.context.place → ⊥
too_wide_after before t script n m wanted w width first is lt =
    let c = first.context in
    let d = is.context in
    let e = earlier_line before (proof_steps before t script d.filled) c.place d.place is.step lt (record { at = d.at; earlier = d.earlier }) in
    let other : IsContext before t script n e.step = record { filled = d.filled; place = c.place; number = c.number; at = e.stands.at; earlier = e.stands.earlier } in
    lacks_not before first.step e.step wanted (one_context before t script n first.step e.step c other) first.lacks e.licensed

-- where none up to the first is wide it comes no earlier
too_wide_before : (before : List StatementView) (t : StatementView) (script : Script) (n m : ℕ) (wanted w : Wanted) (width : ℕ) (first : IsFirstUnlicensed before t script n wanted) (is : IsTooWideAt before t script m w width) →
    NoneWide before (take (suc first.context.place) (proof_steps before t script first.context.filled)) → is.context.place < first.context.place → ⊥
too_wide_before before t script n m wanted w width first is none lt =
    let c = first.context in
    let d = is.context in
    let xs = proof_steps before t script c.filled in
    let e = earlier_line before xs d.place c.place first.step lt (record { at = c.at; earlier = c.earlier }) in
    let other : IsContext before t script m e.step = record { filled = c.filled; place = d.place; number = d.number; at = e.stands.at; earlier = e.stands.earlier } in
    none_in_front before xs c.place d.place e.step (omega (arith, lt)) e.stands.at none (wide_moved before is.step e.step (one_context before t script m is.step e.step d other) (wide_line before is.step w width is.too_wide))

too_wide_there : (before : List StatementView) (t : StatementView) (script : Script) (n m : ℕ) (wanted w : Wanted) (width : ℕ) (first : IsFirstUnlicensed before t script n wanted) (is : IsTooWideAt before t script m w width) →
    NoneWide before (take (suc first.context.place) (proof_steps before t script first.context.filled)) → is.context.place ≡ first.context.place → ⊥
too_wide_there before t script n m wanted w width first is none same =
    let c = first.context in
    let d = is.context in
    let number : n ≡ suc d.place = c.number ∙ ap suc (sym same) in
    let other : IsContext before t script n is.step = record { filled = d.filled; place = d.place; number = number; at = d.at; earlier = d.earlier } in
    none_in_front before (proof_steps before t script c.filled) c.place c.place first.step (omega arith) c.at none
    (wide_moved before is.step first.step (one_context before t script n is.step first.step other c) (wide_line before is.step w width is.too_wide))

not_too_wide : (before : List StatementView) (t : StatementView) (script : Script) (n m : ℕ) (wanted w : Wanted) (width : ℕ) (first : IsFirstUnlicensed before t script n wanted) (is : IsTooWideAt before t script m w width) →
    NoneWide before (take (suc first.context.place) (proof_steps before t script first.context.filled)) → ⊥
not_too_wide before t script n m wanted w width first is none = elim (order first.context.place is.context.place) [
  | inl lt ↦ too_wide_after before t script n m wanted w width first is lt
  | inr h ↦ elim h [
    | inl lt ↦ too_wide_before before t script n m wanted w width first is none lt
    | inr same ↦ too_wide_there before t script n m wanted w width first is none (sym same)
  ]
]

pub refused_there : (before : List StatementView) (t : StatementView) (script : Script) (n : ℕ) (wanted : Wanted) (stop : Stop) (first : IsFirstUnlicensed before t script n wanted) →
    NoneWide before (take n (proof_steps before t script first.context.filled)) → StopIs before t script stop → IsRefusalAt n wanted stop
refused_there before t script n wanted (Unlicensed m w values names) first none is =
    one_stop before t script m n w wanted (unlicensed_of_refused before t script m w values is) first
refused_there before t script n wanted (TooWide m w width names) first none is =
    not_too_wide before t script n m wanted w width first is (subst (λ k. NoneWide before (take k (proof_steps before t script first.context.filled))) first.context.number none)
refused_there before t script n wanted NoMemory first none is = tt
