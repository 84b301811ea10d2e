-- When a line is certified, by the tests of its parts.
use Rattle.std.proofs.Common.{◌≡◌, ℕ, zero, suc, ◌+◌, ◌<◌, ◌^◌, List, [], ◌∷◌, length, map, get_or, refl, sym, ap, subst, ◌∙◌, arith, Bool, true, false, ◌&&◌, Option, Some, None, true≢false, lt-ltb}
use Rattle.std.specs.Prelude.{slice_get, option_and_then, nat_lt, unwrap_or, if◌then◌else◌}
use Rattle.std.specs.List.{list_all}
use Rattle.e_literal.specs.declared.object.Obj.{Obj}
use Rattle.e_literal.specs.declared.object.Scope.{Scope}
use Rattle.e_literal.specs.declared.literal.Lit.{Lit}
use Rattle.e_literal.specs.Literal.{negation, is_in_scope, all_in_scope}
use Rattle.e_literal.specs.Facts.{has, has_all, others, with_fact}
use Rattle.e_literal.specs.Use.{StatementView}
use Rattle.e_literal.specs.WellFormed.{is_well_formed}
use Rattle.e_clause.specs.declared.cert.By.{By}
use Rattle.e_clause.specs.declared.cert.Cert.{Cert}
use Rattle.e_clause.specs.Certify.{certifies, certify_all}
use Rattle.e_clause.specs.Rows.{Row}
use Rattle.e_clause.specs.Table.{table}
use Rattle.e_clause.specs.Table.Incidence.{incidence}
use Rattle.e_clause.specs.Table.Sides.{sides}
use Rattle.e_clause.specs.Table.Circles.{circles}
use Rattle.e_clause.specs.Table.Equality.{equality}
use Rattle.e_clause.specs.Table.Lengths.{lengths}
use Rattle.e_clause.specs.Table.Angles.{angles}
use Rattle.e_clause.specs.Instance.{Inst, instance_of_row}
use Rattle.e_clause.specs.RuleKinds.{is_transfer, is_diagram_rule}
use Rattle.e_construct.specs.declared.construction.Construction.{Construction}
use Rattle.e_construct.specs.Construct.{fits_construction, needs_of_construction, sorts_made, gives_of_construction}
use Rattle.e_construct.specs.declared.superpose.Superpose.{Superpose}
use Rattle.e_construct.specs.Superposing as superposing
use Rattle.e_construct.proofs.Given.{needs_good, superposition_needs_good}
use Rattle.e_construct.proofs.Sizes.{few_made}
use Rattle.e_deriv.specs.Script.{Script, Cite, Hence, Make, Apply, Superposed}
use Rattle.e_deriv.specs.Goal.{Goal}
use Rattle.e_deriv.specs.Fitting.{is_small}
use Rattle.e_deriv.specs.Steps.{is_citation, is_cited}
use Rattle.std.specs.Option.{option_map}
use Rattle.std.proofs.lemmas.Option.{slice_get-map, same_Some, none-some, slice_get-get_or}
use mathlib.Core.Bool.{and-false}
use Rattle.e_theorem.specs.declared.statement.Statement.{Statement}
use Rattle.e_theorem.specs.Statements.{as_view, as_views}
use Rattle.e_verify.specs.declared.step_state.StepState.{StepState}
use Rattle.e_verify.specs.StepStates.{state_with_facts, state_after_make}
use Rattle.e_verify.specs.Checking.{IsChecked}
use Rattle.e_literal.specs.Use.{are_arguments, needs_of_use, gives_of_use, is_statement}
use Rattle.e_literal.proofs.Sorts.{same_obj_self}
use Rattle.e_literal.proofs.Booleans.{and_left, and_right}
use Rattle.e_theorem.specs.Choice.{fills}
use Rattle.e_theorem.proofs.Uses.{needs_good as use_needs_good}
use Rattle.e_deriv.specs.Fitting.{is_small_statement, all_objects}
use Rattle.e_deriv.specs.PlacedSteps.{theorem_at, no_statement}
use Rattle.e_deriv.specs.Parts.{has_no_blank, args_written}
use Rattle.e_deriv.specs.Steps.{is_applied, are_over}
use Rattle.e_deriv.specs.Certified.{is_certified}
use Rattle.e_verify.specs.Checking.{step_in_state}
use Rattle.e_deriv.proofs.Keeping.{stay_joined, stay_all}
use Rattle.e_deriv.proofs.Smallness.{few_of_small, few_objects}
use Rattle.e_verify.proofs.checking.FormedFacts.{all_formed, joined_formed, all_joined_formed, make_gives_formed, use_gives_formed}
use Rattle.e_verify.proofs.checking.FirstLines.{checked, cite_lines, hence_lines, make_lines, apply_lines, after_apply}

-- ---- a citation

in_range : {A : Type 0} (xs : List A) (k : ℕ) (x : A) → slice_get xs k ≡ Some x → k < length xs
in_range [] k x e = absurd (none-some x e)
in_range (y ∷ xs) zero x e = omega arith
in_range (y ∷ xs) (suc k) x e = omega (arith, in_range xs k x e)

rules : length table ≡ 105
unfolding table incidence sides circles equality lengths angles
rules = refl

rule_of_instance : (rule : ℕ) (args : List Obj) (lits : List Lit) → Inst rule args ≡ Some lits → rule < 105
unfolding Inst
rule_of_instance rule args lits e = by (slice_get table rule) refl e
  where
    by : (o : Option Row) → slice_get table rule ≡ o → option_and_then (λ r. instance_of_row r args) o ≡ Some lits → rule < 105
    by None at e = absurd (none-some lits e)
    by (Some r) at e = omega (arith, in_range table rule r at, rules)

diagram_rule : (rule : ℕ) → rule < 105 → is_transfer rule ≡ false → is_diagram_rule rule ≡ true
diagram_rule rule h e = grind (arith)

pub cited_is : (s : Scope) (facts : List Lit) (by : By) (lits needs : List Lit) → is_transfer by.rule ≡ false → list_all (is_in_scope s) by.args ≡ true → all_in_scope s by.lit ≡ true → Inst by.rule by.args ≡ Some lits
    → has lits by.lit ≡ true → needs ≡ map negation (others lits by.lit) → has_all facts needs ≡ (is_citation s by && is_cited facts by)
cited_is s facts by lits needs kind args lit inst one is =
    let d = diagram_rule by.rule (rule_of_instance by.rule by.args lits inst) kind in
    ap (has_all facts) is ∙ rw (d, args, lit, inst, one) refl

pub checked_cite : (before : List StatementView) (by : By) (x after : StepState) (b : Bool) → is_well_formed by.lit ≡ true → b ≡ (is_citation x.scope by && is_cited x.facts by) → after ≡ state_with_facts (with_fact x.facts by.lit) x → IsChecked before (Cite by) x after b
checked_cite before by x after b f t e =
    checked before (Cite by) x (state_with_facts (with_fact x.facts by.lit) x) after b (λ rest goal. t) (cite_lines before by x) (stay_joined x.facts by.lit) (λ g. joined_formed x.facts by.lit g f) e

-- ---- a hence

pub checked_hence : (before : List StatementView) (lit : Lit) (given : Option Cert) (cert : Cert) (x after : StepState) → is_well_formed lit ≡ true → given ≡ Some cert → all_in_scope x.scope lit ≡ true → certifies x.scope x.facts lit cert ≡ true
    → after ≡ state_with_facts (with_fact x.facts lit) x → IsChecked before (Hence lit given) x after true
checked_hence before lit given cert x after f is h k e =
    subst (λ o. IsChecked before (Hence lit o) x after true) (sym is)
    (checked before (Hence lit (Some cert)) x (state_with_facts (with_fact x.facts lit) x) after true (λ rest goal. rw (h, k) refl) (hence_lines before lit (Some cert) x) (stay_joined x.facts lit) (λ g. joined_formed x.facts lit g f) e)

-- ---- a construction

pub each : {X : Type 0} (p q : X → Bool) → ((x : X) → (p x && q x) ≡ true → q x ≡ true) → (xs : List X) → list_all (λ x. p x && q x) xs ≡ true → list_all q xs ≡ true
each p q f [] h = refl
each p q f (x ∷ xs) h =
    ap (λ b. b && list_all q xs) (f x (and_left (p x && q x) (list_all (λ x. p x && q x) xs) h)) ∙ each p q f xs (and_right (p x && q x) (list_all (λ x. p x && q x) xs) h)

pub make_formed : (construction : Construction) (s : Scope) → fits_construction construction s ≡ true → list_all is_well_formed (needs_of_construction construction) ≡ true
make_formed construction s h = each (all_in_scope s) is_well_formed (λ l k. and_right (all_in_scope s l) (is_well_formed l) k) (needs_of_construction construction) (needs_good construction s h)

pub checked_make : (before : List StatementView) (construction : Construction) (names : List (List ℕ)) (certs : List Cert) (x after : StepState) → fits_construction construction x.scope ≡ true → certify_all x.scope x.facts (needs_of_construction construction) certs ≡ true
    → after ≡ state_after_make construction x → IsChecked before (Make construction names certs) x after true
checked_make before construction names certs x after h k e =
    checked before (Make construction names certs) x (state_after_make construction x) after true (λ rest goal. rw (h, k) refl) (make_lines before construction names certs x) (stay_all x.facts (gives_of_construction construction x.scope))
    (λ g. all_joined_formed x.facts (gives_of_construction construction x.scope) g (make_gives_formed construction x.scope h)) e

pub few_new : (s : Scope) (construction : Construction) (n : ℕ) → is_small s ≡ true → n ≡ length (sorts_made construction) → (s.points + n < 2 ^ 16) × (s.lines + n < 2 ^ 16) × (s.circles + n < 2 ^ 16)
few_new s construction n h e = let f = few_of_small s h in (omega (arith, f.points, e, few_made construction), omega (arith, f.lines, e, few_made construction), omega (arith, f.circles, e, few_made construction))

-- ---- an application

pub refused : (before : List StatementView) (whole : Script → Script) (x after : StepState) → ((rest : Script) (goal : Goal) → is_certified before (step_in_state (whole rest) x goal) ≡ false) → IsChecked before whole x after false
refused before whole x after h =
    record { test = λ rest goal. sym (h rest goal); next = λ t. absurd (true≢false (sym t)); kept = λ t. absurd (true≢false (sym t)); formed = λ t g. absurd (true≢false (sym t)) }

fills_written : (args : List (Option Obj)) → has_no_blank args ≡ true → fills args (args_written args) ≡ true
fills_written [] h = refl
fills_written (None ∷ args) h = absurd (true≢false (sym h))
fills_written (Some o ∷ args) h = ap (λ b. b && fills args (args_written args)) (same_obj_self o) ∙ fills_written args h

pub checked_apply : (before : List StatementView) (theorem : ℕ) (args : List (Option Obj)) (names : List (List ℕ)) (certs : List Cert) (t : StatementView) (x after : StepState) → is_small_statement t ≡ true → slice_get before theorem ≡ Some t → has_no_blank args ≡ true
    → are_arguments t x.scope (args_written args) ≡ true → certify_all x.scope x.facts (needs_of_use t (args_written args) x.scope) certs ≡ true → after ≡ after_apply t (args_written args) x
    → IsChecked before (Apply theorem args names certs) x after true
checked_apply before theorem args names certs t x after small at blank fit k e =
    let is : theorem_at before theorem ≡ t = ap (λ o. unwrap_or o no_statement) at in
    let low = lt-ltb theorem (length before) (in_range before theorem t at) in
    let fit' = ap (λ u. are_arguments u x.scope (args_written args)) is ∙ fit in
    let k' = ap (λ u. certify_all x.scope x.facts (needs_of_use u (args_written args) x.scope) certs) is ∙ k in
    checked before (Apply theorem args names certs) x (after_apply (theorem_at before theorem) (args_written args) x) after true
    (λ rest goal. rw (low, fills_written args blank, fit', k', blank) refl) (apply_lines before theorem args names certs x)
    (stay_all x.facts (gives_of_use (theorem_at before theorem) (args_written args) x.scope))
    (λ g. all_joined_formed x.facts (gives_of_use (theorem_at before theorem) (args_written args) x.scope) g
    (ap (λ u. all_formed (gives_of_use u (args_written args) x.scope)) is ∙ use_gives_formed t (args_written args) x.scope small fit))
    (e ∙ ap (λ u. after_apply u (args_written args) x) (sym is))

pub no_arguments : (before : List StatementView) (theorem : ℕ) (args : List (Option Obj)) (names : List (List ℕ)) (certs : List Cert) (t : StatementView) (x after : StepState) → slice_get before theorem ≡ Some t
    → are_arguments t x.scope (args_written args) ≡ false → IsChecked before (Apply theorem args names certs) x after false
no_arguments before theorem args names certs t x after at h =
    let is : theorem_at before theorem ≡ t = ap (λ o. unwrap_or o no_statement) at in
    let low = nat_lt theorem (length before) in
    let k = certify_all x.scope x.facts (needs_of_use (theorem_at before theorem) (args_written args) x.scope) certs && has_no_blank args in
    refused before (Apply theorem args names certs) x after
    (λ rest goal. ap (λ b. (low && (fills args (args_written args) && b)) && k) (ap (λ u. are_arguments u x.scope (args_written args)) is ∙ h)
    ∙ ap (λ b. (low && b) && k) (and-false (fills args (args_written args))) ∙ ap (λ b. b && k) (and-false low))

pub not_certified : (before : List StatementView) (theorem : ℕ) (args : List (Option Obj)) (names : List (List ℕ)) (certs : List Cert) (t : StatementView) (x after : StepState) → slice_get before theorem ≡ Some t
    → certify_all x.scope x.facts (needs_of_use t (args_written args) x.scope) certs ≡ false → IsChecked before (Apply theorem args names certs) x after false
not_certified before theorem args names certs t x after at h =
    let is : theorem_at before theorem ≡ t = ap (λ o. unwrap_or o no_statement) at in
    let form = is_applied before theorem x.scope args (args_written args) in
    refused before (Apply theorem args names certs) x after
    (λ rest goal. ap (λ b. form && (b && has_no_blank args)) (ap (λ u. certify_all x.scope x.facts (needs_of_use u (args_written args) x.scope) certs) is ∙ h) ∙ and-false form)

-- an application whose arguments fit, by whether what it needs is certified
pub use_checked : (before : List StatementView) (theorem : ℕ) (args : List (Option Obj)) (names : List (List ℕ)) (certs : List Cert) (t : StatementView) (x after : StepState) (b : Bool) → is_small_statement t ≡ true → slice_get before theorem ≡ Some t → has_no_blank args ≡ true
    → are_arguments t x.scope (args_written args) ≡ true → b ≡ certify_all x.scope x.facts (needs_of_use t (args_written args) x.scope) certs → (b ≡ true → after ≡ after_apply t (args_written args) x)
    → IsChecked before (Apply theorem args names certs) x after b
use_checked before theorem args names certs t x after true small at blank fit test end = checked_apply before theorem args names certs t x after small at blank fit (sym test) (end refl)
use_checked before theorem args names certs t x after false small at blank fit test end = not_certified before theorem args names certs t x after at (sym test)

-- what the table of arguments answers
pub all_are_written : (v w : List Obj) (b : Bool) → Some v ≡ (if b then Some w else None) → (b ≡ true) × (v ≡ w)
all_are_written v w true e = (refl, same_Some v w e)
all_are_written v w false e = absurd (none-some v (sym e))

pub small_theorem : (before : List StatementView) (k : ℕ) (t : StatementView) → list_all is_small_statement before ≡ true → slice_get before k ≡ Some t → is_small_statement t ≡ true
small_theorem [] k t h e = absurd (none-some t e)
small_theorem (u ∷ before) zero t h e = ap is_small_statement (sym (same_Some u t e)) ∙ and_left (is_small_statement u) (list_all is_small_statement before) h
small_theorem (u ∷ before) (suc k) t h e = small_theorem before k t (and_right (is_small_statement u) (list_all is_small_statement before) h) e

pub use_formed : (t : StatementView) (args : List Obj) (s : Scope) → is_small_statement t ≡ true → are_arguments t s args ≡ true → list_all is_well_formed (needs_of_use t args s) ≡ true
use_formed t args s h k =
    each (all_in_scope s) is_well_formed (λ l m. and_right (all_in_scope s l) (is_well_formed l) m) (needs_of_use t args s) (use_needs_good t args s (and_left (is_statement t) (is_small (all_objects t)) h) k)

pub theorem_there : (before : List Statement) (theorem : ℕ) (t : Statement) → theorem < length before → t ≡ get_or before theorem t → slice_get (as_views before) theorem ≡ Some (as_view t)
theorem_there before theorem t low at = slice_get-map as_view before theorem ∙ ap (option_map as_view) (slice_get-get_or before theorem t low ∙ ap Some (sym at))

-- the arguments and the theorem of an application that fits
pub record Fits (before : List StatementView) (theorem : ℕ) (args : List (Option Obj)) (t : StatementView) : Type 0 where
  pub at : slice_get before theorem ≡ Some t
  pub small : is_small_statement t ≡ true
  pub blank : has_no_blank args ≡ true

pub fits_of : (before : List Statement) (theorem : ℕ) (args : List (Option Obj)) (t : Statement) (objects : List Obj) → list_all is_small_statement (as_views before) ≡ true → theorem < length before → t ≡ get_or before theorem t
    → Some objects ≡ (if has_no_blank args then Some (args_written args) else None) → Fits (as_views before) theorem args (as_view t)
fits_of before theorem args t objects h low at e =
    let slice_get-get_or = theorem_there before theorem t low at in
    record { at = slice_get-get_or; small = small_theorem (as_views before) theorem (as_view t) h slice_get-get_or; blank = (all_are_written objects (args_written args) (has_no_blank args) e).0 }

pub few_new_of : (s : Scope) (t : StatementView) → is_small s ≡ true → is_small_statement t ≡ true
    → (length t.declared + length t.made < 2 ^ 16) × (s.points + length t.made < 2 ^ 16) × (s.lines + length t.made < 2 ^ 16) × (s.circles + length t.made < 2 ^ 16)
few_new_of s t h k =
    let f = few_of_small s h in
    let n = few_objects t k in
    (omega (arith, n), omega (arith, f.points, n), omega (arith, f.lines, n), omega (arith, f.circles, n))

-- ---- a superposition

pub superposed_formed : (superposition : Superpose) (s : Scope) → superposing.fits_superposition superposition s ≡ true → list_all is_well_formed (superposing.needs_of_superposition superposition) ≡ true
superposed_formed superposition s h = each (all_in_scope s) is_well_formed (λ l k. and_right (all_in_scope s l) (is_well_formed l) k) (superposing.needs_of_superposition superposition) (superposition_needs_good superposition s h)

pub few_copies : (s : Scope) (n : ℕ) → is_small s ≡ true → n ≡ length superposing.sorts_copied → (s.points + n < 2 ^ 16) × (s.lines + n < 2 ^ 16) × (s.circles + n < 2 ^ 16)
few_copies s n h e = let f = few_of_small s h in (omega (arith, f.points, e), omega (arith, f.lines, e), omega (arith, f.circles, e))

pub superposed_certified : (superposition : Superpose) (shown : List Lit) (certs : List Cert) (x : StepState) → superposing.fits_superposition superposition x.scope ≡ true → are_over x.scope shown ≡ true
    → certify_all x.scope x.facts (superposing.needs_of_superposition superposition) certs ≡ true → (before : List StatementView) (names : List (List ℕ)) (inner rest : Script) (goal : Goal)
    → true ≡ is_certified before (step_in_state (Superposed superposition names shown certs inner rest) x goal)
superposed_certified superposition shown certs x h k m before names inner rest goal = rw (h, k, m) refl

-- where it is certified it fits
pub superposed_fits : (before : List StatementView) (superposition : Superpose) (names : List (List ℕ)) (shown : List Lit) (certs : List Cert) (inner rest : Script) (x : StepState) (goal : Goal)
    → true ≡ is_certified before (step_in_state (Superposed superposition names shown certs inner rest) x goal) → superposing.fits_superposition superposition x.scope ≡ true
superposed_fits before superposition names shown certs inner rest x goal h =
    let fit = superposing.fits_superposition superposition x.scope && are_over x.scope shown in
    let cert = certify_all x.scope x.facts (superposing.needs_of_superposition superposition) certs && true in
    and_left (superposing.fits_superposition superposition x.scope) (are_over x.scope shown) (and_left fit cert (sym h))
