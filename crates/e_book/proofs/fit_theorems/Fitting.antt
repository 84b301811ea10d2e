-- A theorem that is read can be judged, where the earlier ones are statements; and it is one.
use Rattle.std.proofs.Common.{◌≡◌, ℕ, ◌≤◌, Bool, true, ◌&&◌, List, [], ◌∷◌, ◌++◌, length, None, Result, Ok, refl, sym, ap, subst, arith}
use Rattle.std.specs.List.{list_all}
use Rattle.std.proofs.lemmas.Bool.{le-leb, and_parts, and_from}
use Rattle.e_text.specs.Lines.{LineView}
use Rattle.e_text.specs.declared.line.LineFault.{LineFault}
use Rattle.e_literal.specs.declared.object.Sort.TheVariants as sorts
use Rattle.e_literal.specs.declared.object.Scope.{Scope}
use Rattle.e_literal.specs.declared.literal.Lit.{Lit}
use Rattle.e_literal.specs.Literal.{negation, all_in_scope}
use Rattle.e_literal.specs.Scopes.{with_sorts}
use Rattle.e_literal.specs.WellFormed.{is_well_formed}
use Rattle.e_literal.specs.Facts.{with_fact, with_facts}
use Rattle.e_literal.specs.Use.{StatementView, scope_of, is_statement, gives_of_use}
use Rattle.e_literal.proofs.Booleans.{all_both}
use Rattle.e_construct.specs.Construct.{sorts_made, gives_of_construction}
use Rattle.e_construct.specs.Superposing as superposing
use Rattle.e_construct.proofs.Moving.{every, grows}
use Rattle.e_theorem.specs.declared.statement.Statement.{Statement}
use Rattle.e_theorem.specs.Statements.{as_view}
use Rattle.e_deriv.specs.declared.names.Names.{Names}
use Rattle.e_deriv.specs.Naming.{with_new_names, declared_names}
use Rattle.e_deriv.specs.Script.{Script, Cite, Hence, Make, Apply, Claim, Superposed, Qed, Contradiction, Cases}
use Rattle.e_deriv.specs.Parts.{rest_of, inner_of, args_of}
use Rattle.e_deriv.specs.Goal.{Goal, goal_of, goal_of_statement, facts_of_statement}
use Rattle.e_deriv.specs.PlacedSteps.{PlacedStep, placed_steps, theorem_at, proof_steps}
use Rattle.e_deriv.specs.Fitting.{all_objects, is_small, is_small_statement, LitsFit, IsFitting}
use Rattle.e_line.specs.declared.fault.What.TheVariants as limits
use Rattle.e_line.specs.Reading.{◌>>=◌}
use Rattle.e_line.specs.Limits.{most_of, within, count_monomials}
use Rattle.e_names.specs.TitledStatements.{TitledStatement, titled_statement, stated_by}
use Rattle.e_names.specs.Scope.{scope_of_names}
use Rattle.e_book.specs.LineLimits.{FewNamed, few_objects}
use Rattle.e_book.specs.TheoremViews.{TheoremView}
use Rattle.e_book.specs.Fits.{NewNamesFit, Fits}
use Rattle.e_book.specs.Book.{read_from}
use Rattle.e_book.proofs.parsers.Answered.{within_ok, answered, pair}
use Rattle.e_line.proofs.base.Bound.{bind_ok}
use Rattle.e_names.proofs.read_lines.Building.{named_scope, declared_scope}
use Rattle.e_book.proofs.fit_theorems.ConditionsOfSteps.{GoodFacts, GoodGoal, two_good, all_joined, lines_good}
use Rattle.e_book.proofs.parsers.ParserInvariants.{reading_fits}

-- ---- scopes

abbrev is_small_line : PlacedStep → Bool
is_small_line x = is_small x.scope

few_is_small : (ns : Names) → FewNamed ns → is_small (scope_of_names ns) ≡ true
few_is_small ns f = and_from _ _ (le-leb (length ns.points) 1000 (omega (arith, f.points))) (and_from _ _ (le-leb (length ns.lines) 1000 (omega (arith, f.lines))) (le-leb (length ns.circles) 1000 (omega (arith, f.circles))))

few_named : (ns : Names) → few_objects ns ≡ Ok tt → FewNamed ns
unfolding few_objects
few_named ns e =
    let p = bind_ok (within (length ns.points) (most_of sorts.Point) limits.Points) (λ points. within (length ns.lines) (most_of sorts.Line) limits.Lines >>= λ lines. within (length ns.circles) (most_of sorts.Circle) limits.Circles) tt e in
    let l = bind_ok (within (length ns.lines) (most_of sorts.Line) limits.Lines) (λ lines. within (length ns.circles) (most_of sorts.Circle) limits.Circles) tt p.2 in
    record { points = within_ok _ _ _ p.0 p.1; lines = within_ok _ _ _ l.0 l.1; circles = within_ok _ _ _ tt l.2 }

-- before each line few objects are in scope
small_scopes : (bs : List StatementView) (script f : Script) (ns : Names) (facts : List Lit) (goal : Goal) → FewNamed ns → NewNamesFit bs ns script → list_all is_small_line (placed_steps bs script f (scope_of_names ns) facts goal) ≡ true
unfolding placed_steps NewNamesFit
small_scopes bs (Cite by rest) f ns facts goal few fit = and_from _ _ (few_is_small ns few) (small_scopes bs rest (rest_of f) ns (with_fact facts by.lit) goal few fit)
small_scopes bs (Hence lit cert rest) f ns facts goal few fit = and_from _ _ (few_is_small ns few) (small_scopes bs rest (rest_of f) ns (with_fact facts lit) goal few fit)
small_scopes bs (Make construction names certs rest) f ns facts goal few fit =
    let s = scope_of_names ns in
    let after = with_new_names ns (sorts_made construction) names in
    let more = with_facts facts (gives_of_construction construction s) in
    let scopes : with_sorts s (sorts_made construction) ≡ scope_of_names after = named_scope ns (sorts_made construction) names fit.1 in
    and_from _ _ (few_is_small ns few)
    (subst (λ (z : Scope). list_all is_small_line (placed_steps bs rest (rest_of f) z more goal) ≡ true) (sym scopes) (small_scopes bs rest (rest_of f) after more goal (few_named after fit.2) fit.3))
small_scopes bs (Apply theorem args names certs rest) f ns facts goal few fit =
    let s = scope_of_names ns in
    let t = theorem_at bs theorem in
    let after = with_new_names ns t.made names in
    let more = with_facts facts (gives_of_use t (args_of f) s) in
    let scopes : with_sorts s t.made ≡ scope_of_names after = named_scope ns t.made names fit.1 in
    and_from _ _ (few_is_small ns few)
    (subst (λ (z : Scope). list_all is_small_line (placed_steps bs rest (rest_of f) z more goal) ≡ true) (sym scopes) (small_scopes bs rest (rest_of f) after more goal (few_named after fit.2) fit.3))
small_scopes bs (Claim shown inner rest) f ns facts goal few fit =
    and_from _ _ (few_is_small ns few)
    (all_both is_small_line (placed_steps bs inner (inner_of f) (scope_of_names ns) facts (goal_of shown)) _ (small_scopes bs inner (inner_of f) ns facts (goal_of shown) few fit.0)
    (small_scopes bs rest (rest_of f) ns (with_facts facts shown) goal few fit.1))
small_scopes bs (Superposed superposition names shown certs inner rest) f ns facts goal few fit =
    let s = scope_of_names ns in
    let after = with_new_names ns superposing.sorts_copied names in
    let more = with_facts facts (superposing.gives_of_superposition superposition s) in
    let scopes : with_sorts s superposing.sorts_copied ≡ scope_of_names after = named_scope ns superposing.sorts_copied names fit.1 in
    let inside : list_all is_small_line (placed_steps bs inner (inner_of f) (with_sorts s superposing.sorts_copied) more (goal_of shown)) ≡ true =
    subst (λ (z : Scope). list_all is_small_line (placed_steps bs inner (inner_of f) z more (goal_of shown)) ≡ true) (sym scopes) (small_scopes bs inner (inner_of f) after more (goal_of shown) (few_named after fit.2) fit.3) in
    and_from _ _ (few_is_small ns few)
    (all_both is_small_line (placed_steps bs inner (inner_of f) (with_sorts s superposing.sorts_copied) more (goal_of shown)) _ inside (small_scopes bs rest (rest_of f) ns (with_facts facts shown) goal few fit.4))
small_scopes bs (Qed objects certs) f ns facts goal few fit = and_from _ _ (few_is_small ns few) refl
small_scopes bs (Contradiction against) f ns facts goal few fit = and_from _ _ (few_is_small ns few) refl
small_scopes bs (Cases lit first second) f ns facts goal few fit =
    and_from _ _ (few_is_small ns few)
    (all_both is_small_line (placed_steps bs first (inner_of f) (scope_of_names ns) (with_fact facts lit) goal) _ (small_scopes bs first (inner_of f) ns (with_fact facts lit) goal few fit.0)
    (small_scopes bs second (rest_of f) ns (with_fact facts (negation lit)) goal few fit.1))

-- ---- the statement

lits_said : (s : Scope) (ls : List Lit) → list_all (all_in_scope s) ls ≡ true → list_all is_well_formed ls ≡ true → list_all (λ l. is_well_formed l && all_in_scope s l) ls ≡ true
lits_said s [] h k = refl
lits_said s (l ∷ ls) h k =
    let p = and_parts (all_in_scope s l) (list_all (all_in_scope s) ls) h in
    let q = and_parts (is_well_formed l) (list_all is_well_formed ls) k in
    and_from _ _ (and_from _ _ q.0 p.0) (lits_said s ls p.1 q.1)

-- at most this many objects
record FewObjects (s : Scope) : Type 0 where
  points : s.points ≤ 1000
  lines : s.lines ≤ 1000
  circles : s.circles ≤ 1000

few_of : (known : List TitledStatement) (t : TheoremView) → Fits known t → FewObjects (all_objects (as_view t.statement))
few_of known t f =
    let points : (all_objects (as_view t.statement)).points ≡ length t.names.points = ap (λ (s : Scope). s.points) f.scope in
    let lines : (all_objects (as_view t.statement)).lines ≡ length t.names.lines = ap (λ (s : Scope). s.lines) f.scope in
    let circles : (all_objects (as_view t.statement)).circles ≡ length t.names.circles = ap (λ (s : Scope). s.circles) f.scope in
    record { points = omega (arith, points, f.points); lines = omega (arith, lines, f.lines); circles = omega (arith, circles, f.circles) }

-- a theorem that fits states something
pub small_statement : (known : List TitledStatement) (t : TheoremView) → Fits known t → is_small_statement (as_view t.statement) ≡ true
small_statement known t f =
    let st = as_view t.statement in
    let n = few_of known t f in
    let shown : list_all (all_in_scope (all_objects st)) st.shown ≡ true = subst (λ (z : Scope). list_all (all_in_scope z) st.shown ≡ true) (sym f.scope) f.shown in
    and_from _ _ (and_from _ _ (lits_said (scope_of st) st.given f.given f.good_given) (lits_said (all_objects st) st.shown shown f.good_shown))
    (and_from _ _ (le-leb _ _ n.points) (and_from _ _ (le-leb _ _ n.lines) (le-leb _ _ n.circles)))

-- ---- the whole

-- the names that the proof begins with are few
few_declared : (known : List TitledStatement) (t : TheoremView) → Fits known t → FewNamed (declared_names (as_view t.statement) t.names)
few_declared known t f =
    let st = as_view t.statement in
    let s = scope_of st in
    let is = declared_scope st t.names f.scope in
    let points : length (declared_names st t.names).points ≡ s.points = ap (λ (z : Scope). z.points) is in
    let lines : length (declared_names st t.names).lines ≡ s.lines = ap (λ (z : Scope). z.lines) is in
    let circles : length (declared_names st t.names).circles ≡ s.circles = ap (λ (z : Scope). z.circles) is in
    let all_points : (all_objects st).points ≡ length t.names.points = ap (λ (z : Scope). z.points) f.scope in
    let all_lines : (all_objects st).lines ≡ length t.names.lines = ap (λ (z : Scope). z.lines) f.scope in
    let all_circles : (all_objects st).circles ≡ length t.names.circles = ap (λ (z : Scope). z.circles) f.scope in
    record {
      points = omega (arith, points, all_points, f.points, grows s st.made sorts.Point);
      lines = omega (arith, lines, all_lines, f.lines, grows s st.made sorts.Line);
      circles = omega (arith, circles, all_circles, f.circles, grows s st.made sorts.Circle);
    }

scopes_fit : (known : List TitledStatement) (t : TheoremView) → Fits known t → list_all is_small_line (proof_steps (stated_by known) (as_view t.statement) t.script t.script) ≡ true
scopes_fit known t f =
    let st = as_view t.statement in
    let bs = stated_by known in
    subst (λ (z : Scope). list_all is_small_line (placed_steps bs t.script t.script z (facts_of_statement st) (goal_of_statement st)) ≡ true) (declared_scope st t.names f.scope)
    (small_scopes bs t.script t.script (declared_names st t.names) (facts_of_statement st) (goal_of_statement st) (few_declared known t f) f.new_names)

are_statements : (bs : List StatementView) → list_all is_small_statement bs ≡ true → list_all is_statement bs ≡ true
are_statements bs h = every is_small_statement is_statement (λ t k. (and_parts (is_statement t) (is_small (all_objects t)) k).0) bs h

lits_fit : (known : List TitledStatement) (t : TheoremView) → list_all is_small_statement (stated_by known) ≡ true → Fits known t → (filled : Script) → LitsFit (stated_by known) (proof_steps (stated_by known) (as_view t.statement) t.script filled)
lits_fit known t states f filled =
    let st = as_view t.statement in
    let s = scope_of st in
    let given = all_joined s [] st.given 0 (record { good = refl; few = omega arith }) (two_good s st.given f.given f.good_given) in
    let facts : GoodFacts s (facts_of_statement st) (count_monomials st.given) = record { good = given.good; few = omega (arith, given.few) } in
    let goal : GoodGoal s st.made st.shown = record { within = subst (λ (z : Scope). list_all (all_in_scope z) st.shown ≡ true) (sym f.scope) f.shown; good = f.good_shown } in
    lines_good (stated_by known) (are_statements (stated_by known) states) s st.made st.shown goal t.script t.script filled s (facts_of_statement st) (facts_of_statement st) (count_monomials st.given) facts (λ sort. omega arith)
    f.given_terms f.terms f.good_script f.script

-- a theorem that fits can be judged
pub fitting : (known : List TitledStatement) (t : TheoremView) → list_all is_small_statement (stated_by known) ≡ true → Fits known t → IsFitting (stated_by known) (as_view t.statement) t.script
fitting known t states f =
    let n = few_of known t f in
    record {
      forms = f.script;
      lits = lits_fit known t states f;
      scopes = scopes_fit known t f;
      statements = states;
      short = f.steps;
      shallow = f.depth;
      points = n.points;
      lines = n.lines;
      circles = n.circles;
    }

-- and so can one that is read
pub reading_fitting : (known : List TitledStatement) (last : ℕ) (ahead rest : List (Result LineView LineFault)) (t : TheoremView) → list_all is_small_statement (stated_by known) ≡ true
    → read_from known last None ahead ≡ answered (pair t rest) → IsFitting (stated_by known) (as_view t.statement) t.script
reading_fitting known last ahead rest t states e = fitting known t states (reading_fits known last None ahead rest t tt e)

pub reading_states : (known : List TitledStatement) (last : ℕ) (ahead rest : List (Result LineView LineFault)) (t : TheoremView) → read_from known last None ahead ≡ answered (pair t rest) → is_small_statement (as_view t.statement) ≡ true
reading_states known last ahead rest t e = small_statement known t (reading_fits known last None ahead rest t tt e)

-- one more statement is known
pub one_more_stated : (known : List TitledStatement) (title : List ℕ) (t : Statement) → list_all is_small_statement (stated_by known) ≡ true → is_small_statement (as_view t) ≡ true
    → list_all is_small_statement (stated_by (known ++ titled_statement title t ∷ [])) ≡ true
one_more_stated [] title t h k = and_from _ _ k refl
one_more_stated (x ∷ known) title t h k =
    let p = and_parts (is_small_statement (as_view x.statement)) (list_all is_small_statement (stated_by known)) h in
    and_from _ _ p.0 (one_more_stated known title t p.1 k)
