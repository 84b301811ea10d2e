-- What holds before the first line of a derivation that can be trimmed.
use Rattle.std.proofs.Common.{◌≡◌, ◌+◌, ◌<◌, ◌^◌, List, [], ◌∷◌, ◌++◌, length, refl, sym, ap, ◌∙◌, subst, arith, Bool, true, ◌&&◌}
use Rattle.std.specs.List.{list_all}
use Rattle.std.proofs.lemmas.Bool.{and_from}
use Rattle.e_literal.specs.declared.object.Obj.{Obj}
use Rattle.e_literal.specs.declared.object.Scope.{Scope}
use Rattle.e_literal.specs.declared.object.Sort.{Sort}
use Rattle.e_literal.specs.declared.literal.Lit.{Lit}
use Rattle.e_literal.specs.Scopes.{nothing, next_objects}
use Rattle.e_literal.specs.Use.{StatementView, scope_of, is_statement}
use Rattle.e_literal.proofs.Booleans.{and_left, and_right}
use Rattle.e_literal.proofs.GrownScopes.{total_grown}
use Rattle.e_clause.specs.Certify.{certify_all}
use Rattle.e_deriv.specs.declared.block.Block.{Block}
use Rattle.e_deriv.specs.Script.{Script, script_of}
use Rattle.e_deriv.specs.Goal.{Goal, goal_of_statement, facts_of_statement}
use Rattle.e_deriv.specs.PlacedSteps.{PlacedStep}
use Rattle.e_deriv.specs.Steps.{fits, needs}
use Rattle.e_deriv.specs.Certified.{Certified, is_certified, certs_of, other_checks, derivation_steps}
use Rattle.e_deriv.specs.Fitting.{is_small, is_small_statement, all_objects}
use Rattle.e_deriv.proofs.Smallness.{few_objects}
use Rattle.e_trim.specs.Trimmable.{IsTrimmable}
use Rattle.e_trim.specs.Laws.{TrimmedIsCertified}
use Rattle.e_trim.specs.Trimmed.{declared_of, trimmed_script, trimmed_from}
use Rattle.e_trim.specs.declared.step_state.StepState.{StepState}
use Rattle.e_trim.specs.inner.Flags.{flags_of}
use Rattle.e_trim.specs.inner.StepState.{IsReady, FewKept, start_of}
use Rattle.e_trim.specs.inner.Building.{AreSmall, BlockIsBuilt}
use Rattle.e_trim.proofs.kept_scripts.BuiltSteps.{few_more}

all_forms : (before : List StatementView) (ls : List PlacedStep) → list_all (is_certified before) ls ≡ true → list_all (fits before) ls ≡ true
all_forms before [] h = refl
all_forms before (x ∷ ls) h =
    let own = and_left (is_certified before x) (list_all (is_certified before) ls) h in
    and_from (fits before x) (list_all (fits before) ls)
    (and_left (fits before x) (certify_all x.scope x.facts (needs before x) (certs_of x.here) && other_checks x.here x.scope x.facts) own)
    (all_forms before ls (and_right (is_certified before x) (list_all (is_certified before) ls) h))

pub whole_ready : (before : List StatementView) (t : StatementView) (d : Script) → IsTrimmable before t d → IsReady before d (scope_of t) (facts_of_statement t) (goal_of_statement t)
whole_ready before t d h = record { forms = all_forms before (derivation_steps before t d) h.certified; scopes = h.scopes }

pub whole_small : (before : List StatementView) (t : StatementView) (d : Script) → IsTrimmable before t d → AreSmall before d (scope_of t)
whole_small before t d h = record { facts = facts_of_statement t; goal = goal_of_statement t; small = h.scopes }

pub declared_few : (t : StatementView) → FewKept (scope_of t) (declared_of t)
declared_few t = few_more nothing t.declared [] (omega arith)

pub are_statements : (ts : List StatementView) → list_all is_small_statement ts ≡ true → list_all is_statement ts ≡ true
are_statements [] h = refl
are_statements (t ∷ ts) h =
    and_from (is_statement t) (list_all is_statement ts) (and_left (is_statement t) (is_small (all_objects t)) (and_left (is_small_statement t) (list_all is_small_statement ts) h))
    (are_statements ts (and_right (is_small_statement t) (list_all is_small_statement ts) h))

pub is_stated : (t : StatementView) → is_small_statement t ≡ true → is_statement t ≡ true
is_stated t h = and_left (is_statement t) (is_small (all_objects t)) h

-- the declared and the made objects have numbers of 16 bits
pub declared_room : (t : StatementView) → is_small_statement t ≡ true → 0 + length t.declared < 2 ^ 16
declared_room t h = let n = few_objects t h in omega (arith, n)

pub scope_room : (s : Scope) (t : StatementView) (sorts : List Sort) → s ≡ scope_of t → sorts ≡ t.made → is_small_statement t ≡ true
    → (s.points + length sorts < 2 ^ 16) × (s.lines + length sorts < 2 ^ 16) × (s.circles + length sorts < 2 ^ 16)
scope_room s t sorts e f h =
    let n = few_objects t h in
    let m = total_grown nothing t.declared in
    let points = ap (λ (x : Scope). x.points) e in
    let lines = ap (λ (x : Scope). x.lines) e in
    let circles = ap (λ (x : Scope). x.circles) e in
    let many = ap length f in
    (omega (arith, n, m, points, many), omega (arith, n, m, lines, many), omega (arith, n, m, circles, many))

pub goal_same : (made : List Obj) (shown : List Lit) (t : StatementView) → made ≡ next_objects (scope_of t) t.made → shown ≡ t.shown → record { made = made; shown = shown } ≡ goal_of_statement t
goal_same made shown t e f = ap (λ ms. record { made = ms; shown = shown }) e ∙ ap (λ ls. record { made = next_objects (scope_of t) t.made; shown = ls }) f

-- ---- the trimmed derivation

-- what is built by the flags is what is trimmed
pub built_trimmed : (before : List StatementView) (t : StatementView) (d : Script) (kept : List Obj) (s : Scope) (pile left : List Bool) (block : Block) → kept ≡ declared_of t → s ≡ scope_of t
    → pile ≡ flags_of before d (scope_of t) (facts_of_statement t) (goal_of_statement t) → BlockIsBuilt before kept d s pile left block → script_of block ≡ trimmed_script before t d
built_trimmed before t d kept s pile left block k e f built =
    let facts = facts_of_statement t in
    let goal = goal_of_statement t in
    let r = built facts goal [] (f ∙ ap (λ x. flags_of before d x facts goal) (sym e)) in
    r.0 ∙ ap (λ ks. trimmed_from before ks d s facts goal) k ∙ ap (λ x. trimmed_from before (declared_of t) d x facts goal) e

pub built_certified : (before : List StatementView) (t : StatementView) (d : Script) (block : Block) → TrimmedIsCertified → IsTrimmable before t d → script_of block ≡ trimmed_script before t d → Certified before t (script_of block)
built_certified before t d block law h e = subst (Certified before t) (sym e) (law before t d (are_statements before h.statements) (is_stated t h.statement) h.version h.certified)

-- few objects are kept at the start
pub start_few : (t : StatementView) (kept : List Obj) (s : Scope) → kept ≡ declared_of t → s ≡ scope_of t → FewKept s kept
start_few t kept s k e = subst (FewKept s) (sym k) (subst (λ x. FewKept x (declared_of t)) (sym e) (declared_few t))

pub start_small : (before : List StatementView) (t : StatementView) (d : Script) (s : Scope) → s ≡ scope_of t → IsTrimmable before t d → AreSmall before d s
start_small before t d s e h = subst (AreSmall before d) (sym e) (whole_small before t d h)

pub start_ready : (before : List StatementView) (t : StatementView) (d : Script) (x : StepState) (goal : Goal) → x ≡ start_of t → goal ≡ goal_of_statement t → IsTrimmable before t d → IsReady before d x.scope x.facts goal
start_ready before t d x goal e g h =
    subst (λ y. IsReady before d x.scope x.facts y) (sym g) (subst (λ (y : StepState). IsReady before d y.scope y.facts (goal_of_statement t)) (sym e) (whole_ready before t d h))

pub start_flags : (before : List StatementView) (t : StatementView) (d : Script) (x : StepState) (goal : Goal) (none flags : List Bool) → x ≡ start_of t → goal ≡ goal_of_statement t → none ≡ [] → flags ≡ none ++ flags_of before d x.scope x.facts goal
    → flags ≡ flags_of before d (scope_of t) (start_of t).facts (goal_of_statement t)
start_flags before t d x goal none flags e g z f =
    f ∙ ap (λ xs. xs ++ flags_of before d x.scope x.facts goal) z ∙ ap (λ (y : StepState). flags_of before d y.scope y.facts goal) e ∙ ap (flags_of before d (scope_of t) (facts_of_statement t)) g
