-- A script that fits where it stands, built of its lines from the last to the first.
use Rattle.std.proofs.Common.{◌≡◌, ℕ, ◌+◌, ◌-◌, ◌≤◌, max, Bool, true, leb, ltb, ◌&&◌, List, [], length, Option, None, refl, sym, subst, arith}
use Rattle.std.specs.Prelude.{map, Ok}
use Rattle.std.specs.List.{list_all}
use Rattle.std.proofs.Math.Nat.{max-le}
use Rattle.std.proofs.lemmas.Bool.{le-leb, and_from}
use Rattle.e_literal.specs.declared.object.Sort.{Sort}
use Rattle.e_literal.specs.declared.object.Obj.{Obj}
use Rattle.e_literal.specs.declared.object.Scope.{Scope}
use Rattle.e_literal.specs.declared.literal.Lit.{Lit}
use Rattle.e_literal.specs.Literal.{negation, all_in_scope}
use Rattle.e_literal.specs.Facts.{with_fact, with_facts}
use Rattle.e_literal.specs.Scopes.{with_sorts, are_of_sorts}
use Rattle.e_literal.specs.WellFormed.{is_well_formed}
use Rattle.e_literal.specs.Use.{StatementView, gives_of_use}
use Rattle.e_literal.proofs.Booleans.{all_both}
use Rattle.e_clause.specs.declared.cert.By.{By}
use Rattle.e_clause.specs.declared.cert.Cert.{Cert}
use Rattle.e_construct.specs.declared.construction.Construction.{Construction}
use Rattle.e_construct.specs.declared.superpose.Superpose.{Superpose}
use Rattle.e_construct.specs.Construct.{sorts_made, gives_of_construction}
use Rattle.e_construct.specs.Superposing as superposing
use Rattle.e_theorem.specs.Pattern.{is_pattern}
use Rattle.e_deriv.specs.declared.names.Names.{Names}
use Rattle.e_deriv.specs.Script.{Script, Cite, Hence, Make, Apply, Claim, Superposed, Qed, Contradiction, Cases, depth}
use Rattle.e_deriv.specs.Goal.{Goal, goal_of}
use Rattle.e_deriv.specs.Parts.{rest_of, inner_of, args_of}
use Rattle.e_deriv.specs.PlacedSteps.{PlacedStep, placed_steps, theorem_at}
use Rattle.e_deriv.specs.Steps.{is_citation}
use Rattle.e_deriv.specs.Fitting.{fits_with_blanks}
use Rattle.e_deriv.specs.Naming.{with_new_names}
use Rattle.e_line.specs.Limits.{most_depth, most_facts, most_monomials_of_facts, most_blanks, monomials, count_monomials}
use Rattle.e_names.specs.Scope.{scope_of_names, fresh}
use Rattle.e_names.specs.Applies.{count_blanks}
use Rattle.e_book.specs.LineLimits.{few_objects}
use Rattle.e_names.specs.Fits.{is_diagram_lit}
use Rattle.e_book.specs.Fits.{NewNamesFit, few_facts, few_terms, few_blanks, has_well_formed_literals}
use Rattle.e_names.proofs.read_lines.Building.{GoodLet, named_scope}

-- where a line stands: the earlier theorems, the names in scope, and how many literals are facts and how many monomials they have, repeats counted
pub record Spot : Type 0 where
  pub before : List StatementView
  pub names : Names
  pub facts : ℕ
  pub terms : ℕ

abbrev pub spot : List StatementView → Names → ℕ → ℕ → Spot
spot before ns n m = record { before = before; names = ns; facts = n; terms = m }

abbrev pub scope_at : Spot → Scope
scope_at at = scope_of_names at.names

-- with the facts that these literals are too
abbrev pub spot_with_facts : Spot → List Lit → Spot
spot_with_facts at ls = spot at.before at.names (at.facts + length ls) (at.terms + count_monomials ls)

-- where the first line of a superposition's block stands
abbrev pub with_copies : Spot → Superpose → List (List ℕ) → Spot
with_copies at superposition names =
    let given = superposing.gives_of_superposition superposition (scope_at at) in
    spot at.before (with_new_names at.names superposing.sorts_copied names) (at.facts + length given) (at.terms + count_monomials given)

-- where the first line of either block of a split stands
abbrev pub with_lit : Spot → Lit → Spot
with_lit at lit = spot at.before at.names (at.facts + 1) (at.terms + monomials lit.atom)

-- where the line after a use of the theorem at a place stands
abbrev pub with_use : Spot → ℕ → List (List ℕ) → Spot
with_use at theorem names =
    let t = theorem_at at.before theorem in
    spot at.before (with_new_names at.names t.made names) (at.facts + length t.shown) (at.terms + count_monomials t.shown)

-- the line's form fits, whatever its blanks are filled with
abbrev pub line_fits : List StatementView → PlacedStep → Bool
line_fits before x = fits_with_blanks before x x.here

-- the made objects of the goal have these sorts
abbrev pub Makes : Goal → List Sort → Type 0
Makes goal sorts = map (λ (o : Obj). o.sort) goal.made ≡ sorts

-- A script that stands there, inside this many blocks, for a goal with made objects of these sorts.
pub record ScriptFits (at : Spot) (sorts : List Sort) (level : ℕ) (script : Script) : Type 0 where
  pub forms : (filled : Script) (known : List Lit) (goal : Goal) → Makes goal sorts → list_all (line_fits at.before) (placed_steps at.before script filled (scope_at at) known goal) ≡ true
  pub new_names : NewNamesFit at.before at.names script
  pub literals : has_well_formed_literals script ≡ true
  pub facts : few_facts at.before at.facts (scope_at at) script ≡ true
  pub terms : few_terms at.before at.terms (scope_at at) script ≡ true
  pub blanks : few_blanks script ≡ true
  pub shallow : level + depth script ≤ most_depth

-- literals that a block shows: over the objects around it, and well formed
pub record ShownFit (at : Spot) (shown : List Lit) : Type 0 where
  pub over : list_all (all_in_scope (scope_at at)) shown ≡ true
  pub good : list_all is_well_formed shown ≡ true

-- a superposition: it fits, its new names are free, one for each copied point, and within the limits
pub record CopyFits (at : Spot) (superposition : Superpose) (names : List (List ℕ)) : Type 0 where
  pub fits : superposing.fits_superposition superposition (scope_at at) ≡ true
  pub free : fresh at.names [] names ≡ Ok tt
  pub count : length names ≡ length superposing.sorts_copied
  pub objects : few_objects (with_new_names at.names superposing.sorts_copied names) ≡ Ok tt
  pub facts : (with_copies at superposition names).facts ≤ most_facts
  pub terms : (with_copies at superposition names).terms ≤ most_monomials_of_facts

-- a use of an earlier theorem: it has one, objects or blanks for its declared objects, a new free name for each made one, and is
-- within the limits
pub record UseFits (at : Spot) (theorem : ℕ) (args : List (Option Obj)) (names : List (List ℕ)) : Type 0 where
  pub earlier : ltb theorem (length at.before) ≡ true
  pub entries : is_pattern (theorem_at at.before theorem) (scope_at at) args ≡ true
  pub free : fresh at.names [] names ≡ Ok tt
  pub count : length names ≡ length (theorem_at at.before theorem).made
  pub objects : few_objects (with_use at theorem names).names ≡ Ok tt
  pub facts : (with_use at theorem names).facts ≤ most_facts
  pub terms : (with_use at theorem names).terms ≤ most_monomials_of_facts
  pub blanks : count_blanks args ≤ most_blanks

-- a split: its literal is in scope, well formed and within the limits
pub record SplitFits (at : Spot) (lit : Lit) : Type 0 where
  pub over : all_in_scope (scope_at at) lit ≡ true
  pub good : is_well_formed lit ≡ true
  pub facts : (with_lit at lit).facts ≤ most_facts
  pub terms : (with_lit at lit).terms ≤ most_monomials_of_facts

-- ---- tests that hold together

few : (n most : ℕ) (b : Bool) → n ≤ most → b ≡ true → (leb n most && b) ≡ true
few n most b le h = and_from (leb n most) b (le-leb n most le) h

max_within : (k a b most : ℕ) → k + a ≤ most → k + b ≤ most → k + max a b ≤ most
max_within k a b most h i = let m : max a b ≤ most - k = max-le (omega (arith, h)) (omega (arith, i)) in omega (arith, m, h)

-- ---- steps

pub fits_cited : (at : Spot) (sorts : List Sort) (level : ℕ) (by : By) (rest : Script) → is_citation (scope_at at) by ≡ true → is_diagram_lit by.lit ≡ true → at.facts + 1 ≤ most_facts
    → ScriptFits (spot at.before at.names (at.facts + 1) at.terms) sorts level rest → ScriptFits at sorts level (Cite by rest)
unfolding placed_steps NewNamesFit has_well_formed_literals few_facts few_terms few_blanks depth
fits_cited at sorts level by rest cited plain le r = record {
  forms = λ f known goal m. and_from _ _ cited (r.forms (rest_of f) (with_fact known by.lit) goal m);
  new_names = r.new_names;
  literals = and_from _ _ plain r.literals;
  facts = few _ _ _ le r.facts;
  terms = r.terms;
  blanks = r.blanks;
  shallow = r.shallow;
}

pub fits_inferred : (at : Spot) (sorts : List Sort) (level : ℕ) (lit : Lit) (rest : Script) → all_in_scope (scope_at at) lit ≡ true → is_well_formed lit ≡ true → at.facts + 1 ≤ most_facts
    → at.terms + monomials lit.atom ≤ most_monomials_of_facts → ScriptFits (with_lit at lit) sorts level rest → ScriptFits at sorts level (Hence lit None rest)
unfolding placed_steps NewNamesFit has_well_formed_literals few_facts few_terms few_blanks depth
fits_inferred at sorts level lit rest over good le lt r = record {
  forms = λ f known goal m. and_from _ _ over (r.forms (rest_of f) (with_fact known lit) goal m);
  new_names = r.new_names;
  literals = and_from _ _ good r.literals;
  facts = few _ _ _ le r.facts;
  terms = few _ _ _ lt r.terms;
  blanks = r.blanks;
  shallow = r.shallow;
}

pub fits_made : (at : Spot) (sorts : List Sort) (level : ℕ) (construction : Construction) (names : List (List ℕ)) (certs : List Cert) (rest : Script) → GoodLet at.names construction names
    → few_objects (with_new_names at.names (sorts_made construction) names) ≡ Ok tt → at.facts + length (gives_of_construction construction (scope_at at)) ≤ most_facts
    → ScriptFits (spot at.before (with_new_names at.names (sorts_made construction) names) (at.facts + length (gives_of_construction construction (scope_at at))) at.terms) sorts level rest → ScriptFits at sorts level (Make construction names certs rest)
unfolding placed_steps NewNamesFit has_well_formed_literals few_facts few_terms few_blanks depth
fits_made at sorts level construction names certs rest g objects le r =
    let s = scope_at at in
    let n = at.facts + length (gives_of_construction construction s) in
    let scopes : with_sorts s (sorts_made construction) ≡ scope_of_names (with_new_names at.names (sorts_made construction) names) = named_scope at.names (sorts_made construction) names g.count in
    record {
      forms = λ f known goal m. let more = with_facts known (gives_of_construction construction s) in
          and_from _ _ g.fits (subst (λ (z : Scope). list_all (line_fits at.before) (placed_steps at.before rest (rest_of f) z more goal) ≡ true) (sym scopes) (r.forms (rest_of f) more goal m));
      new_names = (g.free, g.count, objects, r.new_names);
      literals = r.literals;
      facts = few _ _ _ le (subst (λ (z : Scope). few_facts at.before n z rest ≡ true) (sym scopes) r.facts);
      terms = subst (λ (z : Scope). few_terms at.before at.terms z rest ≡ true) (sym scopes) r.terms;
      blanks = r.blanks;
      shallow = r.shallow;
    }

pub fits_applied : (at : Spot) (sorts : List Sort) (level : ℕ) (theorem : ℕ) (args : List (Option Obj)) (names : List (List ℕ)) (certs : List Cert) (rest : Script) → UseFits at theorem args names
    → ScriptFits (with_use at theorem names) sorts level rest → ScriptFits at sorts level (Apply theorem args names certs rest)
unfolding placed_steps NewNamesFit has_well_formed_literals few_facts few_terms few_blanks depth
fits_applied at sorts level theorem args names certs rest u r =
    let s = scope_at at in
    let t = theorem_at at.before theorem in
    let scopes : with_sorts s t.made ≡ scope_of_names (with_new_names at.names t.made names) = named_scope at.names t.made names u.count in
    record {
      forms = λ f known goal m. let more = with_facts known (gives_of_use t (args_of f) s) in
          and_from _ _ (and_from _ _ u.earlier u.entries) (subst (λ (z : Scope). list_all (line_fits at.before) (placed_steps at.before rest (rest_of f) z more goal) ≡ true) (sym scopes) (r.forms (rest_of f) more goal m));
      new_names = (u.free, u.count, u.objects, r.new_names);
      literals = r.literals;
      facts = few _ _ _ u.facts (subst (λ (z : Scope). few_facts at.before (at.facts + length t.shown) z rest ≡ true) (sym scopes) r.facts);
      terms = few _ _ _ u.terms (subst (λ (z : Scope). few_terms at.before (at.terms + count_monomials t.shown) z rest ≡ true) (sym scopes) r.terms);
      blanks = few _ _ _ u.blanks r.blanks;
      shallow = r.shallow;
    }

pub fits_claimed : (at : Spot) (sorts : List Sort) (level : ℕ) (shown : List Lit) (inner rest : Script) → ShownFit at shown → ScriptFits at [] (level + 1) inner
    → at.facts + length shown ≤ most_facts → at.terms + count_monomials shown ≤ most_monomials_of_facts → ScriptFits (spot_with_facts at shown) sorts level rest → ScriptFits at sorts level (Claim shown inner rest)
unfolding placed_steps NewNamesFit has_well_formed_literals few_facts few_terms few_blanks depth
fits_claimed at sorts level shown inner rest s i le lt r = record {
  forms = λ f known goal m. and_from _ _ s.over (all_both (line_fits at.before) (placed_steps at.before inner (inner_of f) (scope_at at) known (goal_of shown)) _ (i.forms (inner_of f) known (goal_of shown) refl) (r.forms (rest_of f) (with_facts known shown) goal m));
  new_names = (i.new_names, r.new_names);
  literals = and_from _ _ s.good (and_from _ _ i.literals r.literals);
  facts = and_from _ _ i.facts (few _ _ _ le r.facts);
  terms = and_from _ _ i.terms (few _ _ _ lt r.terms);
  blanks = and_from _ _ i.blanks r.blanks;
  shallow = max_within level (1 + depth inner) (depth rest) most_depth (omega (arith, i.shallow)) r.shallow;
}

pub fits_copied : (at : Spot) (sorts : List Sort) (level : ℕ) (superposition : Superpose) (names : List (List ℕ)) (shown : List Lit) (certs : List Cert) (inner rest : Script) → CopyFits at superposition names
    → ShownFit at shown → ScriptFits (with_copies at superposition names) [] (level + 1) inner → at.facts + length shown ≤ most_facts → at.terms + count_monomials shown ≤ most_monomials_of_facts
    → ScriptFits (spot_with_facts at shown) sorts level rest → ScriptFits at sorts level (Superposed superposition names shown certs inner rest)
unfolding placed_steps NewNamesFit has_well_formed_literals few_facts few_terms few_blanks depth
fits_copied at sorts level superposition names shown certs inner rest c s i le lt r =
    let scope = scope_at at in
    let given = superposing.gives_of_superposition superposition scope in
    let n = at.facts + length given in
    let t = at.terms + count_monomials given in
    let scopes : with_sorts scope superposing.sorts_copied ≡ scope_of_names (with_new_names at.names superposing.sorts_copied names) = named_scope at.names superposing.sorts_copied names c.count in
    let inside : (f : Script) (known : List Lit) → list_all (line_fits at.before) (placed_steps at.before inner f (with_sorts scope superposing.sorts_copied) (with_facts known given) (goal_of shown)) ≡ true = λ f known.
    subst (λ (z : Scope). list_all (line_fits at.before) (placed_steps at.before inner f z (with_facts known given) (goal_of shown)) ≡ true) (sym scopes) (i.forms f (with_facts known given) (goal_of shown) refl) in
    record {
      forms = λ f known goal m. and_from _ _ (and_from _ _ c.fits s.over)
          (all_both (line_fits at.before) (placed_steps at.before inner (inner_of f) (with_sorts scope superposing.sorts_copied) (with_facts known given) (goal_of shown)) _ (inside (inner_of f) known) (r.forms (rest_of f) (with_facts known shown) goal m));
      new_names = (c.free, c.count, c.objects, i.new_names, r.new_names);
      literals = and_from _ _ s.good (and_from _ _ i.literals r.literals);
      facts = few _ _ _ c.facts (and_from _ _ (subst (λ (z : Scope). few_facts at.before n z inner ≡ true) (sym scopes) i.facts) (few _ _ _ le r.facts));
      terms = few _ _ _ c.terms (and_from _ _ (subst (λ (z : Scope). few_terms at.before t z inner ≡ true) (sym scopes) i.terms) (few _ _ _ lt r.terms));
      blanks = and_from _ _ i.blanks r.blanks;
      shallow = max_within level (1 + depth inner) (depth rest) most_depth (omega (arith, i.shallow)) r.shallow;
    }

-- ---- closes

pub fits_qed : (at : Spot) (sorts : List Sort) (level : ℕ) (objects : List Obj) → are_of_sorts (scope_at at) sorts objects ≡ true → level + 1 ≤ most_depth → ScriptFits at sorts level (Qed objects [])
unfolding placed_steps NewNamesFit has_well_formed_literals few_facts few_terms few_blanks depth
fits_qed at sorts level objects h le = record {
  forms = λ f known goal m. and_from _ _ (subst (λ (l : List Sort). are_of_sorts (scope_at at) l objects ≡ true) (sym m) h) refl;
  new_names = tt;
  literals = refl;
  facts = refl;
  terms = refl;
  blanks = refl;
  shallow = le;
}

pub fits_contradiction : (at : Spot) (sorts : List Sort) (level : ℕ) → level + 1 ≤ most_depth → ScriptFits at sorts level (Contradiction None)
unfolding placed_steps NewNamesFit has_well_formed_literals few_facts few_terms few_blanks depth
fits_contradiction at sorts level le = record {
  forms = λ f known goal m. refl;
  new_names = tt;
  literals = refl;
  facts = refl;
  terms = refl;
  blanks = refl;
  shallow = le;
}

pub fits_split : (at : Spot) (sorts : List Sort) (level : ℕ) (lit : Lit) (first second : Script) → SplitFits at lit → ScriptFits (with_lit at lit) sorts (level + 1) first
    → ScriptFits (with_lit at lit) sorts (level + 1) second → ScriptFits at sorts level (Cases lit first second)
unfolding placed_steps NewNamesFit has_well_formed_literals few_facts few_terms few_blanks depth
fits_split at sorts level lit first second s a b = record {
  forms = λ f known goal m. and_from _ _ s.over
      (all_both (line_fits at.before) (placed_steps at.before first (inner_of f) (scope_at at) (with_fact known lit) goal) _ (a.forms (inner_of f) (with_fact known lit) goal m) (b.forms (rest_of f) (with_fact known (negation lit)) goal m));
  new_names = (a.new_names, b.new_names);
  literals = and_from _ _ s.good (and_from _ _ a.literals b.literals);
  facts = few _ _ _ s.facts (and_from _ _ a.facts b.facts);
  terms = few _ _ _ s.terms (and_from _ _ a.terms b.terms);
  blanks = and_from _ _ a.blanks b.blanks;
  shallow = let m = max_within (level + 1) (depth first) (depth second) most_depth a.shallow b.shallow in omega (arith, m);
}
