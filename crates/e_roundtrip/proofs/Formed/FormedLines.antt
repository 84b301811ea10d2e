-- A script whose lines have their form, from the last line to the first; and arguments that are all written.
use Rattle.std.proofs.Common.{◌≡◌, ℕ, ◌≤◌, Bool, true, false, cond, ◌&&◌, List, [], ◌∷◌, ◌++◌, length, Option, Some, None, Ok, refl, sym, ap, subst, ◌∙◌, arith, true≢false}
use Rattle.std.specs.List.{list_all}
use Rattle.std.proofs.lemmas.Bool.{and_parts, and_from}
use Rattle.e_literal.specs.declared.object.Obj.{Obj}
use Rattle.e_literal.specs.declared.object.Scope.{Scope}
use Rattle.e_literal.specs.declared.literal.Lit.{Lit}
use Rattle.e_literal.specs.Literal.{negation, all_in_scope}
use Rattle.e_literal.specs.Rename.{same_obj}
use Rattle.e_literal.specs.Facts.{with_fact, with_facts}
use Rattle.e_literal.specs.Scopes.{with_sorts}
use Rattle.e_literal.specs.Use.{StatementView, Used, are_arguments, needs_of_use, gives_of_use, use_of}
use Rattle.e_literal.proofs.Booleans.{all_both}
use Rattle.e_literal.proofs.Sorts.{same_obj_self}
use Rattle.e_construct.specs.declared.construction.Construction.{Construction}
use Rattle.e_construct.specs.declared.superpose.Superpose.{Superpose}
use Rattle.e_construct.specs.Construct.{sorts_made, gives_of_construction, fits_construction, needs_of_construction}
use Rattle.e_construct.specs.Superposing as superposing
use Rattle.e_clause.specs.declared.cert.By.{By}
use Rattle.e_clause.specs.declared.cert.Cert.{Cert}
use Rattle.e_clause.specs.declared.cert.Against.{Against}
use Rattle.e_theorem.specs.Choice.{fills}
use Rattle.e_deriv.specs.declared.names.Names.{Names}
use Rattle.e_deriv.specs.Naming.{with_new_names}
use Rattle.e_deriv.specs.Script.{Script, Cite, Hence, Make, Apply, Claim, Superposed, Qed, Contradiction, Cases}
use Rattle.e_deriv.specs.Goal.{Goal, goal_of, are_for, goal_with}
use Rattle.e_deriv.specs.PlacedSteps.{PlacedStep, placed_step, placed_steps}
use Rattle.e_deriv.specs.Parts.{args_written, has_no_blank}
use Rattle.e_deriv.specs.Steps.{are_over, is_citation, is_applied, fits, needs}
use Rattle.e_deriv.specs.Certified.{certs_of}
use Rattle.e_line.specs.Reading.{◌>>=◌, each, or_malformed}
use Rattle.e_names.specs.Scope.{scope_of_names}
use Rattle.e_names.specs.TitledStatements.{TitledStatement, stated_by, theorem_of}
use Rattle.e_line.proofs.base.Bound.{bind_ok, ok_is, read_ok}
use Rattle.e_names.proofs.read_lines.Building.{named_scope}
use Rattle.e_cert.specs.Certificates.{first_cert}
use Rattle.e_read.specs.Owing.{needs_in}
use Rattle.e_roundtrip.specs.Formed.{cert_formed, certs_formed, against_formed, formed_beside, is_formed}
use Rattle.e_roundtrip.proofs.Formed.CertifiedFormed.{then_lines}

-- the lines of a script that stands where these names are in scope have their form, whatever facts hold before it
abbrev pub FormedHere : List TitledStatement → Names → Goal → Script → Type 0
FormedHere known ns goal x = (facts : List Lit) → list_all (is_formed (stated_by known)) (placed_steps (stated_by known) x x (scope_of_names ns) facts goal) ≡ true

-- a line that fits, with certificates of their form, and with what stands beside
one_formed : (before : List StatementView) (x : PlacedStep) → fits before x ≡ true → certs_formed x.scope (needs before x) (certs_of x.here) ≡ true → formed_beside x.here x.scope ≡ true → is_formed before x ≡ true
one_formed before x f c b =
    let certs = certs_formed x.scope (needs before x) (certs_of x.here) in
    let beside = formed_beside x.here x.scope in
    and_from (fits before x) (certs && beside) f (and_from certs beside c b)

-- ---- steps

pub cited_formed : (known : List TitledStatement) (ns : Names) (goal : Goal) (by : By) (x : Script) → is_citation (scope_of_names ns) by ≡ true → FormedHere known ns goal x → FormedHere known ns goal (Cite by x)
unfolding placed_steps
cited_formed known ns goal by x w h facts =
    let before = stated_by known in
    let s = scope_of_names ns in
    let l = placed_step (Cite by x) (Cite by x) s facts goal in
    then_lines before l (placed_steps before x x s (with_fact facts by.lit) goal) (one_formed before l w refl refl) (h (with_fact facts by.lit))

pub one_each_formed : (s : Scope) (l : Lit) (cs : List Cert) → certs_formed s (l ∷ []) cs ≡ true → length cs ≤ 1
one_each_formed s l [] h = absurd (true≢false (sym h))
one_each_formed s l (c ∷ []) h = omega arith
one_each_formed s l (c ∷ d ∷ cs) h = let p = and_parts (cert_formed s l c) (certs_formed s [] (d ∷ cs)) h in absurd (true≢false (sym p.1))

pub inferred_formed : (known : List TitledStatement) (ns : Names) (goal : Goal) (lit : Lit) (cs : List Cert) (x : Script) → all_in_scope (scope_of_names ns) lit ≡ true → certs_formed (scope_of_names ns) (lit ∷ []) cs ≡ true
    → FormedHere known ns goal x → FormedHere known ns goal (Hence lit (first_cert cs) x)
unfolding placed_steps
inferred_formed known ns goal lit [] x w c h facts = absurd (true≢false (sym c))
inferred_formed known ns goal lit (d ∷ []) x w c h facts =
    let before = stated_by known in
    let s = scope_of_names ns in
    let l = placed_step (Hence lit (Some d) x) (Hence lit (Some d) x) s facts goal in
    then_lines before l (placed_steps before x x s (with_fact facts lit) goal) (one_formed before l w c refl) (h (with_fact facts lit))
inferred_formed known ns goal lit (d ∷ e ∷ cs) x w c h facts =
    let p = and_parts (cert_formed (scope_of_names ns) lit d) (certs_formed (scope_of_names ns) [] (e ∷ cs)) c in absurd (true≢false (sym p.1))

-- a construction, with its certificates: it fits, and has one new name for each object that it makes
pub record MadeFormed (ns : Names) (construction : Construction) (names : List (List ℕ)) (cs : List Cert) : Type 0 where
  pub fits : fits_construction construction (scope_of_names ns) ≡ true
  pub count : length names ≡ length (sorts_made construction)
  pub certs : certs_formed (scope_of_names ns) (needs_of_construction construction) cs ≡ true

pub made_formed : (known : List TitledStatement) (ns : Names) (goal : Goal) (construction : Construction) (names : List (List ℕ)) (cs : List Cert) (x : Script) → MadeFormed ns construction names cs → FormedHere known (with_new_names ns (sorts_made construction) names) goal x
    → FormedHere known ns goal (Make construction names cs x)
unfolding placed_steps
made_formed known ns goal construction names cs x m h facts =
    let before = stated_by known in
    let s = scope_of_names ns in
    let more = with_facts facts (gives_of_construction construction s) in
    let l = placed_step (Make construction names cs x) (Make construction names cs x) s facts goal in
    let after = subst (λ (z : Scope). list_all (is_formed before) (placed_steps before x x z more goal) ≡ true) (sym (named_scope ns (sorts_made construction) names m.count)) (h more) in
    then_lines before l (placed_steps before x x (with_sorts s (sorts_made construction)) more goal) (one_formed before l m.fits m.certs refl) after

-- a use of an earlier theorem, with its certificates: it fits without blanks, and has one new name for each made object
pub record UseFormed (known : List TitledStatement) (ns : Names) (theorem : ℕ) (args : List (Option Obj)) (names : List (List ℕ)) (cs : List Cert) : Type 0 where
  pub fits : is_applied (stated_by known) theorem (scope_of_names ns) args (args_written args) ≡ true
  pub full : has_no_blank args ≡ true
  pub count : length names ≡ length (theorem_of known theorem).made
  pub certs : certs_formed (scope_of_names ns) (needs_of_use (theorem_of known theorem) (args_written args) (scope_of_names ns)) cs ≡ true

pub applied_formed : (known : List TitledStatement) (ns : Names) (goal : Goal) (theorem : ℕ) (args : List (Option Obj)) (names : List (List ℕ)) (cs : List Cert) (x : Script) → UseFormed known ns theorem args names cs
    → FormedHere known (with_new_names ns (theorem_of known theorem).made names) goal x → FormedHere known ns goal (Apply theorem args names cs x)
unfolding placed_steps
applied_formed known ns goal theorem args names cs x u h facts =
    let before = stated_by known in
    let s = scope_of_names ns in
    let t = theorem_of known theorem in
    let more = with_facts facts (gives_of_use t (args_written args) s) in
    let l = placed_step (Apply theorem args names cs x) (Apply theorem args names cs x) s facts goal in
    let after = subst (λ (z : Scope). list_all (is_formed before) (placed_steps before x x z more goal) ≡ true) (sym (named_scope ns t.made names u.count)) (h more) in
    then_lines before l (placed_steps before x x (with_sorts s t.made) more goal) (one_formed before l u.fits u.certs u.full) after

pub claimed_formed : (known : List TitledStatement) (ns : Names) (goal : Goal) (shown : List Lit) (inner x : Script) → are_over (scope_of_names ns) shown ≡ true → FormedHere known ns (goal_of shown) inner → FormedHere known ns goal x
    → FormedHere known ns goal (Claim shown inner x)
unfolding placed_steps
claimed_formed known ns goal shown inner x w i h facts =
    let before = stated_by known in
    let s = scope_of_names ns in
    let l = placed_step (Claim shown inner x) (Claim shown inner x) s facts goal in
    let inside = placed_steps before inner inner s facts (goal_of shown) in
    let after = placed_steps before x x s (with_facts facts shown) goal in
    then_lines before l (inside ++ after) (one_formed before l w refl refl) (all_both (is_formed before) inside after (i facts) (h (with_facts facts shown)))

-- a superposition, with its certificates: it fits, what it shows is over the objects before it, and each copied point has a new name
pub record CopyFormed (ns : Names) (superposition : Superpose) (names : List (List ℕ)) (shown : List Lit) (cs : List Cert) : Type 0 where
  pub fits : superposing.fits_superposition superposition (scope_of_names ns) ≡ true
  pub over : are_over (scope_of_names ns) shown ≡ true
  pub count : length names ≡ length superposing.sorts_copied
  pub certs : certs_formed (scope_of_names ns) (superposing.needs_of_superposition superposition) cs ≡ true

pub copied_formed : (known : List TitledStatement) (ns : Names) (goal : Goal) (superposition : Superpose) (names : List (List ℕ)) (shown : List Lit) (cs : List Cert) (inner x : Script) → CopyFormed ns superposition names shown cs
    → FormedHere known (with_new_names ns superposing.sorts_copied names) (goal_of shown) inner → FormedHere known ns goal x → FormedHere known ns goal (Superposed superposition names shown cs inner x)
unfolding placed_steps
copied_formed known ns goal superposition names shown cs inner x c i h facts =
    let before = stated_by known in
    let s = scope_of_names ns in
    let given = with_facts facts (superposing.gives_of_superposition superposition s) in
    let l = placed_step (Superposed superposition names shown cs inner x) (Superposed superposition names shown cs inner x) s facts goal in
    let inside = placed_steps before inner inner (with_sorts s superposing.sorts_copied) given (goal_of shown) in
    let after = placed_steps before x x s (with_facts facts shown) goal in
    let within = subst (λ (z : Scope). list_all (is_formed before) (placed_steps before inner inner z given (goal_of shown)) ≡ true) (sym (named_scope ns superposing.sorts_copied names c.count)) (i given) in
    then_lines before l (inside ++ after) (one_formed before l (and_from (superposing.fits_superposition superposition s) (are_over s shown) c.fits c.over) c.certs refl)
    (all_both (is_formed before) inside after within (h (with_facts facts shown)))

-- ---- closes

pub qed_formed : (known : List TitledStatement) (ns : Names) (goal : Goal) (objects : List Obj) (cs : List Cert) → are_for goal (scope_of_names ns) objects ≡ true → certs_formed (scope_of_names ns) (goal_with goal objects) cs ≡ true
    → FormedHere known ns goal (Qed objects cs)
unfolding placed_steps
qed_formed known ns goal objects cs w c facts =
    let before = stated_by known in
    let l = placed_step (Qed objects cs) (Qed objects cs) (scope_of_names ns) facts goal in
    then_lines before l [] (one_formed before l w c refl) refl

pub contradiction_formed : (known : List TitledStatement) (ns : Names) (goal : Goal) (a : Against) → against_formed (scope_of_names ns) a ≡ true → FormedHere known ns goal (Contradiction (Some a))
unfolding placed_steps
contradiction_formed known ns goal a c facts =
    let before = stated_by known in
    let l = placed_step (Contradiction (Some a)) (Contradiction (Some a)) (scope_of_names ns) facts goal in
    then_lines before l [] (one_formed before l refl refl c) refl

pub cases_formed : (known : List TitledStatement) (ns : Names) (goal : Goal) (lit : Lit) (first second : Script) → all_in_scope (scope_of_names ns) lit ≡ true → FormedHere known ns goal first → FormedHere known ns goal second
    → FormedHere known ns goal (Cases lit first second)
unfolding placed_steps
cases_formed known ns goal lit first second w h k facts =
    let before = stated_by known in
    let s = scope_of_names ns in
    let l = placed_step (Cases lit first second) (Cases lit first second) s facts goal in
    let one = placed_steps before first first s (with_fact facts lit) goal in
    let other = placed_steps before second second s (with_fact facts (negation lit)) goal in
    then_lines before l (one ++ other) (one_formed before l w refl refl) (all_both (is_formed before) one other (h (with_fact facts lit)) (k (with_fact facts (negation lit))))

-- ---- arguments that are all written

each_is_written : (p : List (Option Obj)) (args : List Obj) → each or_malformed p ≡ Ok args → (has_no_blank p ≡ true) × (args_written p ≡ args)
each_is_written [] args e = (refl, ok_is [] args e)
each_is_written (None ∷ p) args e = absurd cc
each_is_written (Some o ∷ p) args e =
    let x = bind_ok (each or_malformed p) (λ xs. read_ok (o ∷ xs)) args e in
    let more = each_is_written p x.0 x.1 in
    (more.0, ap (λ (l : List Obj). o ∷ l) more.1 ∙ ok_is (o ∷ x.0) args x.2)

pub fills_written : (p : List (Option Obj)) → has_no_blank p ≡ true → fills p (args_written p) ≡ true
fills_written [] h = refl
fills_written (None ∷ p) h = absurd (true≢false (sym h))
fills_written (Some o ∷ p) h = and_from (same_obj o o) (fills p (args_written p)) (same_obj_self o) (fills_written p h)

-- what the line of a use owes is read
pub record Needed (s : Scope) (t : StatementView) (pattern : List (Option Obj)) (ls : List Lit) : Type 0 where
  pub full : has_no_blank pattern ≡ true
  pub fit : are_arguments t s (args_written pattern) ≡ true
  pub lits : needs_of_use t (args_written pattern) s ≡ ls

abbrev used_if : Bool → Used → Option Used
used_if b u = cond b (Some u) None

used : (b : Bool) (u : Used) (ls : List Lit) → (or_malformed (used_if b u) >>= λ (v : Used). read_ok v.needs) ≡ Ok ls → (b ≡ true) × (u.needs ≡ ls)
used true u ls e = (refl, ok_is u.needs ls e)
used false u ls e = absurd cc

pub needed_read : (s : Scope) (t : StatementView) (pattern : List (Option Obj)) (ls : List Lit) → needs_in s t pattern ≡ Ok ls → Needed s t pattern ls
needed_read s t pattern ls e =
    let a = bind_ok (each or_malformed pattern) (λ (args : List Obj). or_malformed (use_of t args s) >>= λ (u : Used). read_ok u.needs) ls e in
    let w = each_is_written pattern a.0 a.1 in
    let u = used (are_arguments t s a.0) (record { needs = needs_of_use t a.0 s; gives = gives_of_use t a.0 s }) ls a.2 in
    let back = sym w.1 in
    record {
      full = w.0;
      fit = subst (λ (args : List Obj). are_arguments t s args ≡ true) back u.0;
      lits = subst (λ (args : List Obj). needs_of_use t args s ≡ ls) back u.1;
    }
