-- The lines of a proof are read from their canonical spelling.
use Rattle.std.proofs.Common.{◌≡◌, ℕ, ◌+◌, ◌≤◌, ◌<◌, true, false, leb, ltb, ◌&&◌, List, [], ◌∷◌, ◌++◌, length, Option, Some, None, Ok, refl, sym, ap, subst, ◌∙◌, arith, append_assoc}
use Rattle.std.specs.List.{list_all}
use Rattle.std.proofs.lemmas.Bool.{leb-true, ltb-true, and_parts}
use Rattle.std.proofs.lemmas.List.{append-nil}
use Rattle.std.proofs.lemmas.List.Folds.{list_all-append}
use Rattle.e_text.specs.Names.{is_name}
use Rattle.e_literal.specs.declared.object.Sort.{Sort}
use Rattle.e_literal.specs.declared.object.Obj.{Obj}
use Rattle.e_literal.specs.declared.object.Scope.{Scope}
use Rattle.e_literal.specs.declared.literal.Lit.{Lit}
use Rattle.e_literal.specs.Literal.{negation, all_in_scope}
use Rattle.e_literal.specs.WellFormed.{is_well_formed}
use Rattle.e_literal.specs.Scopes.{with_sorts, are_of_sorts}
use Rattle.e_literal.specs.Facts.{with_fact, with_facts}
use Rattle.e_literal.specs.Use.{gives_of_use}
use Rattle.e_theorem.specs.Pattern.{is_pattern}
use Rattle.e_clause.specs.declared.cert.By.{By}
use Rattle.e_construct.specs.declared.construction.Construction.{Construction}
use Rattle.e_construct.specs.declared.superpose.Superpose.{Superpose}
use Rattle.e_construct.specs.Construct.{sorts_of, sorts_made, gives_of_construction, fits_construction}
use Rattle.e_construct.specs.Superposing as superposing
use Rattle.e_deriv.specs.PlainStep.{PlainStep, Cited, Inferred, Made, Applied, Claimed, Copied}
use Rattle.e_deriv.specs.Naming.{with_new_names}
use Rattle.e_deriv.specs.Script.{Script, Cite, Hence, Make, Apply, Claim, Superposed, Qed, Contradiction, Cases, size, depth}
use Rattle.e_deriv.specs.Goal.{Goal, goal_of}
use Rattle.e_deriv.specs.PlacedSteps.{PlacedStep, placed_steps}
use Rattle.e_deriv.specs.Parts.{args_written as written_args}
use Rattle.e_deriv.specs.Steps.{are_over, is_citation}
use Rattle.e_book.specs.declared.blocks.BlockKind.TheVariants as kind
use Rattle.e_book.specs.declared.steps.CloseLine.{CloseLine}
use Rattle.e_book.specs.declared.steps.CloseLine.TheVariants as closes
use Rattle.e_book.specs.declared.parser.TheoremParser.{TheoremParser}
use Rattle.e_line.specs.Limits.{most_steps, most_depth, most_facts, most_monomials_of_facts, most_blanks, monomials, count_monomials}
use Rattle.e_book.specs.Blocks.{made_in}
use Rattle.e_names.specs.TitledStatements.{TitledStatement, stated_by, theorem_of}
use Rattle.e_names.specs.Scope.{scope_of_names}
use Rattle.e_names.specs.Applies.{count_blanks}
use Rattle.e_book.specs.LineLimits.{few_objects}
use Rattle.e_book.specs.Steps.{parser_after_close}
use Rattle.e_book.specs.Book.{is_done}
use Rattle.e_names.specs.Fits.{is_diagram_lit}
use Rattle.e_book.specs.Fits.{NewNamesFit, few_facts, few_terms, few_blanks, has_well_formed_literals}
use Rattle.e_names.specs.Canonical.{else_raw_line}
use Rattle.e_book.specs.Canonical.{script_raw_lines}
use Rattle.e_line.specs.Names.{AreNames}
use Rattle.e_names.specs.NamedByTitle.{is_named_by_title}
use Rattle.e_book.specs.HasSpelling.{is_plain, names_theorems}
use Rattle.e_names.proofs.resolution.Lookups.{InOrder, objects_named}
use Rattle.e_names.proofs.resolution.LitLookups.{lit_named}
use Rattle.e_names.proofs.literals.PlainLits.{Plain, PlainLit, lits_named}
use Rattle.e_names.proofs.resolution.Cited.{by_good}
use Rattle.e_book.proofs.canonical.Declared.{Runs, runs_append}
use Rattle.e_names.proofs.read_lines.Building.{GoodLet, named_scope}
use Rattle.e_names.proofs.distinct_names.OrderedNames.{named_in_order}
use Rattle.e_names.proofs.resolution.Built.{of_sorts_in_scope, let_named}
use Rattle.e_names.proofs.resolution.Superposed.{GoodSuperpose, superpose_named}
use Rattle.e_names.proofs.resolution.Applied.{GoodApply, apply_named}
use Rattle.e_book.proofs.fit_theorems.FittingScripts.{line_fits}
use Rattle.e_book.proofs.canonical.ScriptParts.{steps_of, close_of, same_script, at_least, deep_at_least}
use Rattle.e_book.proofs.canonical.LinesRead.{Inside, proving, splitting, after_step, deep, written, copied, resume, second, applied_after, step_cite, step_hence, step_let, step_apply, step_claim, step_superpose, step_cases, step_else, step_qed, step_contradiction, claim_closed, superpose_closed, first_closed, second_closed}

-- a line with a certificate is not plain
no_cert : false ≡ true → ⊥
no_cert e = absurd cc

pub list_names : (ns : List (List ℕ)) → list_all is_name ns ≡ true → AreNames ns
list_names [] h = tt
list_names (n ∷ ns) h = let p = and_parts (is_name n) (list_all is_name ns) h in (p.0, list_names ns p.1)

pub both_fit : (known : List TitledStatement) (xs ys : List PlacedStep) → list_all (line_fits (stated_by known)) (xs ++ ys) ≡ true → (list_all (line_fits (stated_by known)) xs ≡ true) × (list_all (line_fits (stated_by known)) ys ≡ true)
both_fit known xs ys h = let p = line_fits (stated_by known) in and_parts (list_all p xs) (list_all p ys) (sym (list_all-append p xs ys) ∙ h)

-- ---- what is known of a script where its first line comes

pub record Ready (known : List TitledStatement) (d : TheoremParser) (i : Inside) (script : Script) (given : List Lit) (goal : Goal) : Type 0 where
  pub order : InOrder i.in_scope
  pub goal_sorts : sorts_of goal.made ≡ made_in i.blocks d.made
  pub plain : is_plain script ≡ true
  pub fitting : list_all (line_fits (stated_by known)) (placed_steps (stated_by known) script script (scope_of_names i.in_scope) given goal) ≡ true
  pub new_names : NewNamesFit (stated_by known) i.in_scope script
  pub few : i.lines + size script ≤ most_steps
  pub shallow : length i.blocks + depth script ≤ most_depth
  pub good : has_well_formed_literals script ≡ true
  pub theorems : names_theorems known script ≡ true
  pub blanks : few_blanks script ≡ true
  pub facts : few_facts (stated_by known) i.facts (scope_of_names i.in_scope) script ≡ true
  pub terms : few_terms (stated_by known) i.terms (scope_of_names i.in_scope) script ≡ true

-- its lines are taken, up to the line that closes its block, and what closing the block leaves
pub record Taken (known : List TitledStatement) (d : TheoremParser) (i : Inside) (script : Script) : Type 0 where
  pub last : Inside
  pub lines : last.lines ≡ i.lines + size script
  pub runs : (e : TheoremParser) → parser_after_close (proving d last) i.blocks (i.steps ++ steps_of script) (close_of script) ≡ Ok e → is_done e ≡ false
      → Runs known (Some (proving d i)) (script_raw_lines known i.in_scope script) (Some e)

-- one more step, and what comes after it
pub one_more : (d : TheoremParser) (last i : Inside) (s : PlainStep) (rest : Script) (e : TheoremParser) → parser_after_close (proving d last) i.blocks (i.steps ++ s ∷ steps_of rest) (close_of rest) ≡ Ok e
    → parser_after_close (proving d last) i.blocks ((i.steps ++ s ∷ []) ++ steps_of rest) (close_of rest) ≡ Ok e
one_more d last i s rest e h = ap (λ (l : List PlainStep). parser_after_close (proving d last) i.blocks l (close_of rest)) (append_assoc i.steps (s ∷ []) (steps_of rest)) ∙ h

pub no_more : (d : TheoremParser) (last i : Inside) (close : CloseLine) (e : TheoremParser) → parser_after_close (proving d last) i.blocks (i.steps ++ []) close ≡ Ok e → parser_after_close (proving d last) i.blocks i.steps close ≡ Ok e
no_more d last i close e h = ap (λ (l : List PlainStep). parser_after_close (proving d last) i.blocks l close) (sym (append-nil i.steps)) ∙ h

-- ---- steps without a block inside

pub cite_ready : (known : List TitledStatement) (d : TheoremParser) (i : Inside) (b : By) (rest : Script) (given : List Lit) (goal : Goal) → Ready known d i (Cite b rest) given goal → Ready known d (after_step i (Cited b) 1) rest (with_fact given b.lit) goal
unfolding is_plain placed_steps NewNamesFit size depth has_well_formed_literals few_facts few_terms names_theorems few_blanks
cite_ready known d i b rest given goal r =
    let s = scope_of_names i.in_scope in
    record {
      order = r.order;
      goal_sorts = r.goal_sorts;
      plain = r.plain;
      fitting = (and_parts (is_citation s b) (list_all (line_fits (stated_by known)) (placed_steps (stated_by known) rest rest s (with_fact given b.lit) goal)) r.fitting).1;
      new_names = r.new_names;
      few = omega (arith, r.few);
      shallow = r.shallow;
      good = (and_parts (is_diagram_lit b.lit) (has_well_formed_literals rest) r.good).1;
      theorems = r.theorems;
      blanks = r.blanks;
      facts = (and_parts (leb (i.facts + 1) most_facts) (few_facts (stated_by known) (i.facts + 1) s rest) r.facts).1;
      terms = r.terms;
    }

cite_taken : (known : List TitledStatement) (d : TheoremParser) (i : Inside) (b : By) (rest : Script) (given : List Lit) (goal : Goal) → Ready known d i (Cite b rest) given goal → Taken known d (after_step i (Cited b) 1) rest → Taken known d i (Cite b rest)
unfolding script_raw_lines placed_steps size has_well_formed_literals few_facts
cite_taken known d i b rest given goal r t =
    let s = scope_of_names i.in_scope in
    let fit = (and_parts (is_citation s b) (list_all (line_fits (stated_by known)) (placed_steps (stated_by known) rest rest s (with_fact given b.lit) goal)) r.fitting).0 in
    let good = (and_parts (is_diagram_lit b.lit) (has_well_formed_literals rest) r.good).0 in
    let most = leb-true _ _ (and_parts (leb (i.facts + 1) most_facts) (few_facts (stated_by known) (i.facts + 1) s rest) r.facts).0 in
    record {
      last = t.last;
      lines = omega (arith, t.lines);
      runs = λ e h done. (
        proving d (after_step i (Cited b) 1),
        by_good i.in_scope b r.order fit good,
        step_cite known d i b r.order fit good (omega (arith, r.few)) most,
        refl,
        t.runs e (one_more d t.last i (Cited b) rest e h) done,
      );
    }

abbrev pub inferred : Inside → Lit → Inside
inferred i l = written (after_step i (Inferred l None) 1) (monomials l.atom)

pub hence_ready : (known : List TitledStatement) (d : TheoremParser) (i : Inside) (l : Lit) (rest : Script) (given : List Lit) (goal : Goal) → Ready known d i (Hence l None rest) given goal → Ready known d (inferred i l) rest (with_fact given l) goal
unfolding is_plain placed_steps NewNamesFit size depth has_well_formed_literals few_facts few_terms names_theorems few_blanks
hence_ready known d i l rest given goal r =
    let s = scope_of_names i.in_scope in
    let n = i.terms + monomials l.atom in
    record {
      order = r.order;
      goal_sorts = r.goal_sorts;
      plain = r.plain;
      fitting = (and_parts (all_in_scope s l) (list_all (line_fits (stated_by known)) (placed_steps (stated_by known) rest rest s (with_fact given l) goal)) r.fitting).1;
      new_names = r.new_names;
      few = omega (arith, r.few);
      shallow = r.shallow;
      good = (and_parts (is_well_formed l) (has_well_formed_literals rest) r.good).1;
      theorems = r.theorems;
      blanks = r.blanks;
      facts = (and_parts (leb (i.facts + 1) most_facts) (few_facts (stated_by known) (i.facts + 1) s rest) r.facts).1;
      terms = (and_parts (leb n most_monomials_of_facts) (few_terms (stated_by known) n s rest) r.terms).1;
    }

hence_taken : (known : List TitledStatement) (d : TheoremParser) (i : Inside) (l : Lit) (rest : Script) (given : List Lit) (goal : Goal) → Ready known d i (Hence l None rest) given goal → Taken known d (inferred i l) rest → Taken known d i (Hence l None rest)
unfolding script_raw_lines placed_steps size has_well_formed_literals few_facts few_terms names_theorems few_blanks
hence_taken known d i l rest given goal r t =
    let s = scope_of_names i.in_scope in
    let n = i.terms + monomials l.atom in
    let fit = (and_parts (all_in_scope s l) (list_all (line_fits (stated_by known)) (placed_steps (stated_by known) rest rest s (with_fact given l) goal)) r.fitting).0 in
    let good = (and_parts (is_well_formed l) (has_well_formed_literals rest) r.good).0 in
    let most = leb-true _ _ (and_parts (leb (i.facts + 1) most_facts) (few_facts (stated_by known) (i.facts + 1) s rest) r.facts).0 in
    let short = leb-true _ _ (and_parts (leb n most_monomials_of_facts) (few_terms (stated_by known) n s rest) r.terms).0 in
    record {
      last = t.last;
      lines = omega (arith, t.lines);
      runs = λ e h done. (
        proving d (inferred i l),
        lit_named i.in_scope l r.order fit good,
        step_hence known d i l r.order (record { within = fit; good = good }) (omega (arith, r.few)) most short,
        refl,
        t.runs e (one_more d t.last i (Inferred l None) rest e h) done,
      );
    }

abbrev pub gifts : Inside → Construction → ℕ
gifts i construction = length (gives_of_construction construction (scope_of_names i.in_scope))

abbrev pub constructed : Inside → Construction → List (List ℕ) → Inside
constructed i construction names = record (after_step i (Made construction names []) (gifts i construction)) { in_scope = with_new_names i.in_scope (sorts_made construction) names }

pub make_good : (known : List TitledStatement) (d : TheoremParser) (i : Inside) (construction : Construction) (names : List (List ℕ)) (rest : Script) (given : List Lit) (goal : Goal) → Ready known d i (Make construction names [] rest) given goal → GoodLet i.in_scope construction names
unfolding placed_steps NewNamesFit
make_good known d i construction names rest given goal r =
    let s = scope_of_names i.in_scope in
    record {
      fits = (and_parts (fits_construction construction s) (list_all (line_fits (stated_by known)) (placed_steps (stated_by known) rest rest (with_sorts s (sorts_made construction)) (with_facts given (gives_of_construction construction s)) goal)) r.fitting).0;
      free = r.new_names.0;
      count = r.new_names.1;
    }

pub make_ready : (known : List TitledStatement) (d : TheoremParser) (i : Inside) (construction : Construction) (names : List (List ℕ)) (rest : Script) (given : List Lit) (goal : Goal) → Ready known d i (Make construction names [] rest) given goal
    → Ready known d (constructed i construction names) rest (with_facts given (gives_of_construction construction (scope_of_names i.in_scope))) goal
unfolding is_plain placed_steps NewNamesFit size depth has_well_formed_literals few_facts few_terms names_theorems few_blanks
make_ready known d i construction names rest given goal r =
    let s = scope_of_names i.in_scope in
    let after = with_new_names i.in_scope (sorts_made construction) names in
    let facts = with_facts given (gives_of_construction construction s) in
    let n = i.facts + gifts i construction in
    let scope : with_sorts s (sorts_made construction) ≡ scope_of_names after = named_scope i.in_scope (sorts_made construction) names r.new_names.1 in
    let p = and_parts (list_all is_name names) (is_plain rest) r.plain in
    record {
      order = named_in_order i.in_scope (sorts_made construction) names r.order (list_names names p.0) r.new_names.0;
      goal_sorts = r.goal_sorts;
      plain = p.1;
      fitting = subst (λ (z : Scope). list_all (line_fits (stated_by known)) (placed_steps (stated_by known) rest rest z facts goal) ≡ true) scope (and_parts (fits_construction construction s) (list_all (line_fits (stated_by known)) (placed_steps (stated_by known) rest rest (with_sorts s (sorts_made construction)) facts goal)) r.fitting).1;
      new_names = r.new_names.3;
      few = omega (arith, r.few);
      shallow = r.shallow;
      good = r.good;
      theorems = r.theorems;
      blanks = r.blanks;
      facts = subst (λ (z : Scope). few_facts (stated_by known) n z rest ≡ true) scope (and_parts (leb n most_facts) (few_facts (stated_by known) n (with_sorts s (sorts_made construction)) rest) r.facts).1;
      terms = subst (λ (z : Scope). few_terms (stated_by known) i.terms z rest ≡ true) scope r.terms;
    }

make_taken : (known : List TitledStatement) (d : TheoremParser) (i : Inside) (construction : Construction) (names : List (List ℕ)) (rest : Script) (given : List Lit) (goal : Goal) → Ready known d i (Make construction names [] rest) given goal
    → Taken known d (constructed i construction names) rest → Taken known d i (Make construction names [] rest)
unfolding script_raw_lines is_plain NewNamesFit size few_facts
make_taken known d i construction names rest given goal r t =
    let s = scope_of_names i.in_scope in
    let n = i.facts + gifts i construction in
    let good = make_good known d i construction names rest given goal r in
    let most = leb-true _ _ (and_parts (leb n most_facts) (few_facts (stated_by known) n (with_sorts s (sorts_made construction)) rest) r.facts).0 in
    record {
      last = t.last;
      lines = omega (arith, t.lines);
      runs = λ e h done. (
        proving d (constructed i construction names),
        let_named i.in_scope construction names r.order good (list_names names (and_parts (list_all is_name names) (is_plain rest) r.plain).0),
        step_let known d i construction names r.order good r.new_names.2 (omega (arith, r.few, at_least rest)) most,
        refl,
        t.runs e (one_more d t.last i (Made construction names []) rest e h) done,
      );
    }

-- what is known of a use of an earlier theorem, and of what comes after it
pub record ApplyParts (known : List TitledStatement) (d : TheoremParser) (i : Inside) (theorem : ℕ) (args : List (Option Obj)) (names : List (List ℕ)) (rest : Script) (given : List Lit) (goal : Goal) : Type 0 where
  pub good : GoodApply known i.in_scope theorem args names
  pub named : AreNames names
  pub few : few_objects (applied_after i (theorem_of known theorem) theorem args names).in_scope ≡ Ok tt
  pub facts : i.facts + length (theorem_of known theorem).shown ≤ most_facts
  pub terms : i.terms + count_monomials (theorem_of known theorem).shown ≤ most_monomials_of_facts
  pub blanks : count_blanks args ≤ most_blanks
  pub next : Ready known d (applied_after i (theorem_of known theorem) theorem args names) rest (with_facts given (gives_of_use (theorem_of known theorem) (written_args args) (scope_of_names i.in_scope))) goal

pub apply_parts : (known : List TitledStatement) (d : TheoremParser) (i : Inside) (theorem : ℕ) (args : List (Option Obj)) (names : List (List ℕ)) (rest : Script) (given : List Lit) (goal : Goal) → Ready known d i (Apply theorem args names [] rest) given goal
    → ApplyParts known d i theorem args names rest given goal
unfolding is_plain placed_steps NewNamesFit size depth has_well_formed_literals few_facts few_terms names_theorems few_blanks
apply_parts known d i theorem args names rest given goal r =
    let before = stated_by known in
    let s = scope_of_names i.in_scope in
    let t = theorem_of known theorem in
    let after = applied_after i t theorem args names in
    let facts = with_facts given (gives_of_use t (written_args args) s) in
    let n = i.facts + length t.shown in
    let m = i.terms + count_monomials t.shown in
    let scope : with_sorts s t.made ≡ scope_of_names after.in_scope = named_scope i.in_scope t.made names r.new_names.1 in
    let p = and_parts (list_all is_name names) (is_plain rest) r.plain in
    let f = and_parts (ltb theorem (length before) && is_pattern t s args) (list_all (line_fits before) (placed_steps before rest rest (with_sorts s t.made) facts goal)) r.fitting in
    let e = and_parts (ltb theorem (length before)) (is_pattern t s args) f.0 in
    let h = and_parts (is_named_by_title known theorem) (names_theorems known rest) r.theorems in
    let k = and_parts (leb n most_facts) (few_facts before n (with_sorts s t.made) rest) r.facts in
    let j = and_parts (leb m most_monomials_of_facts) (few_terms before m (with_sorts s t.made) rest) r.terms in
    let b = and_parts (leb (count_blanks args) most_blanks) (few_blanks rest) r.blanks in
    record {
      good = record { title = h.0; entries = e.1; free = r.new_names.0; count = r.new_names.1 };
      named = list_names names p.0;
      few = r.new_names.2;
      facts = leb-true _ _ k.0;
      terms = leb-true _ _ j.0;
      blanks = leb-true _ _ b.0;
      next = record {
        order = named_in_order i.in_scope t.made names r.order (list_names names p.0) r.new_names.0;
        goal_sorts = r.goal_sorts;
        plain = p.1;
        fitting = subst (λ (z : Scope). list_all (line_fits before) (placed_steps before rest rest z facts goal) ≡ true) scope f.1;
        new_names = r.new_names.3;
        few = omega (arith, r.few);
        shallow = r.shallow;
        good = r.good;
        theorems = h.1;
        blanks = b.1;
        facts = subst (λ (z : Scope). few_facts before n z rest ≡ true) scope k.1;
        terms = subst (λ (z : Scope). few_terms before m z rest ≡ true) scope j.1;
      };
    }

apply_taken : (known : List TitledStatement) (d : TheoremParser) (i : Inside) (theorem : ℕ) (args : List (Option Obj)) (names : List (List ℕ)) (rest : Script) (given : List Lit) (goal : Goal) → Ready known d i (Apply theorem args names [] rest) given goal
    → Taken known d (applied_after i (theorem_of known theorem) theorem args names) rest → Taken known d i (Apply theorem args names [] rest)
unfolding script_raw_lines size
apply_taken known d i theorem args names rest given goal r t =
    let p = apply_parts known d i theorem args names rest given goal r in
    let after = applied_after i (theorem_of known theorem) theorem args names in
    record {
      last = t.last;
      lines = omega (arith, t.lines);
      runs = λ e h done. (
        proving d after,
        apply_named known i.in_scope theorem args names r.order p.good p.named,
        step_apply known d i theorem args names r.order p.good p.few (omega (arith, r.few, at_least rest)) p.facts p.terms p.blanks,
        refl,
        t.runs e (one_more d t.last i (Applied theorem args names []) rest e h) done,
      );
    }

-- ---- a claim

pub record ClaimParts (known : List TitledStatement) (i : Inside) (shown : List Lit) (inner rest : Script) (given : List Lit) (goal : Goal) : Type 0 where
  pub some : 0 < length shown
  pub plain_inner : is_plain inner ≡ true
  pub plain_rest : is_plain rest ≡ true
  pub plain : Plain i.in_scope shown
  pub fit_inner : list_all (line_fits (stated_by known)) (placed_steps (stated_by known) inner inner (scope_of_names i.in_scope) given (goal_of shown)) ≡ true
  pub fit_rest : list_all (line_fits (stated_by known)) (placed_steps (stated_by known) rest rest (scope_of_names i.in_scope) (with_facts given shown) goal) ≡ true
  pub good_inner : has_well_formed_literals inner ≡ true
  pub theorems_inner : names_theorems known inner ≡ true
  pub blanks_inner : few_blanks inner ≡ true
  pub good_rest : has_well_formed_literals rest ≡ true
  pub theorems_rest : names_theorems known rest ≡ true
  pub blanks_rest : few_blanks rest ≡ true
  pub facts_inner : few_facts (stated_by known) i.facts (scope_of_names i.in_scope) inner ≡ true
  pub facts : i.facts + length shown ≤ most_facts
  pub facts_rest : few_facts (stated_by known) (i.facts + length shown) (scope_of_names i.in_scope) rest ≡ true
  pub terms_inner : few_terms (stated_by known) i.terms (scope_of_names i.in_scope) inner ≡ true
  pub terms : i.terms + count_monomials shown ≤ most_monomials_of_facts
  pub terms_rest : few_terms (stated_by known) (i.terms + count_monomials shown) (scope_of_names i.in_scope) rest ≡ true

pub claim_parts : (known : List TitledStatement) (d : TheoremParser) (i : Inside) (shown : List Lit) (inner rest : Script) (given : List Lit) (goal : Goal) → Ready known d i (Claim shown inner rest) given goal → ClaimParts known i shown inner rest given goal
unfolding is_plain placed_steps has_well_formed_literals few_facts few_terms names_theorems few_blanks
claim_parts known d i shown inner rest given goal r =
    let s = scope_of_names i.in_scope in
    let facts = i.facts + length shown in
    let terms = i.terms + count_monomials shown in
    let inside = placed_steps (stated_by known) inner inner s given (goal_of shown) in
    let after = placed_steps (stated_by known) rest rest s (with_facts given shown) goal in
    let p = and_parts (ltb 0 (length shown)) (is_plain inner && is_plain rest) r.plain in
    let pp = and_parts (is_plain inner) (is_plain rest) p.1 in
    let f = and_parts (are_over s shown) (list_all (line_fits (stated_by known)) (inside ++ after)) r.fitting in
    let ff = both_fit known inside after f.1 in
    let g = and_parts (list_all is_well_formed shown) (has_well_formed_literals inner && has_well_formed_literals rest) r.good in
    let gg = and_parts (has_well_formed_literals inner) (has_well_formed_literals rest) g.1 in
    let th = and_parts (names_theorems known inner) (names_theorems known rest) r.theorems in
    let bl = and_parts (few_blanks inner) (few_blanks rest) r.blanks in
    let n = and_parts (few_facts (stated_by known) i.facts s inner) (leb facts most_facts && few_facts (stated_by known) facts s rest) r.facts in
    let nn = and_parts (leb facts most_facts) (few_facts (stated_by known) facts s rest) n.1 in
    let m = and_parts (few_terms (stated_by known) i.terms s inner) (leb terms most_monomials_of_facts && few_terms (stated_by known) terms s rest) r.terms in
    let mm = and_parts (leb terms most_monomials_of_facts) (few_terms (stated_by known) terms s rest) m.1 in
    record {
      some = ltb-true 0 (length shown) p.0;
      plain_inner = pp.0;
      plain_rest = pp.1;
      plain = record { within = f.0; good = g.0 };
      fit_inner = ff.0;
      fit_rest = ff.1;
      good_inner = gg.0;
      good_rest = gg.1;
      theorems_inner = th.0;
      theorems_rest = th.1;
      blanks_inner = bl.0;
      blanks_rest = bl.1;
      facts_inner = n.0;
      facts = leb-true _ _ nn.0;
      facts_rest = nn.1;
      terms_inner = m.0;
      terms = leb-true _ _ mm.0;
      terms_rest = mm.1;
    }

-- an inner block of a claim has as many facts as the block around it
pub no_more_facts : (known : List TitledStatement) (n : ℕ) (s : Scope) (inner : Script) → few_facts (stated_by known) n s inner ≡ true → few_facts (stated_by known) (n + 0) s inner ≡ true
no_more_facts known n s inner h = subst (λ (k : ℕ). few_facts (stated_by known) k s inner ≡ true) (omega arith) h

pub claim_inner : (known : List TitledStatement) (d : TheoremParser) (i : Inside) (shown : List Lit) (inner rest : Script) (given : List Lit) (goal : Goal) → Ready known d i (Claim shown inner rest) given goal → Ready known d (deep i (kind.Claim shown) 0) inner given (goal_of shown)
unfolding NewNamesFit size depth
claim_inner known d i shown inner rest given goal r =
    let p = claim_parts known d i shown inner rest given goal r in
    record {
      order = r.order;
      goal_sorts = refl;
      plain = p.plain_inner;
      fitting = p.fit_inner;
      new_names = r.new_names.0;
      few = omega (arith, r.few);
      shallow = omega (arith, r.shallow);
      good = p.good_inner;
      theorems = p.theorems_inner;
      blanks = p.blanks_inner;
      facts = no_more_facts known i.facts (scope_of_names i.in_scope) inner p.facts_inner;
      terms = p.terms_inner;
    }

pub claim_rest : (known : List TitledStatement) (d : TheoremParser) (i : Inside) (n : ℕ) (shown : List Lit) (inner rest : Script) (given : List Lit) (goal : Goal) → n ≡ i.lines + 1 + size inner → Ready known d i (Claim shown inner rest) given goal
    → Ready known d (resume i n (Claimed shown inner) shown) rest (with_facts given shown) goal
unfolding NewNamesFit size depth
claim_rest known d i n shown inner rest given goal e r =
    let p = claim_parts known d i shown inner rest given goal r in
    record {
      order = r.order;
      goal_sorts = r.goal_sorts;
      plain = p.plain_rest;
      fitting = p.fit_rest;
      new_names = r.new_names.1;
      few = omega (arith, r.few, e);
      shallow = omega (arith, r.shallow);
      good = p.good_rest;
      theorems = p.theorems_rest;
      blanks = p.blanks_rest;
      facts = p.facts_rest;
      terms = p.terms_rest;
    }

claim_taken : (known : List TitledStatement) (d : TheoremParser) (i : Inside) (shown : List Lit) (inner rest : Script) (given : List Lit) (goal : Goal) → Ready known d i (Claim shown inner rest) given goal
    → (t : Taken known d (deep i (kind.Claim shown) 0) inner) → Taken known d (resume i t.last.lines (Claimed shown inner) shown) rest → Taken known d i (Claim shown inner rest)
unfolding script_raw_lines size depth
claim_taken known d i shown inner rest given goal r t u =
    let p = claim_parts known d i shown inner rest given goal r in
    let begins = deep i (kind.Claim shown) 0 in
    let after = resume i t.last.lines (Claimed shown inner) shown in
    let few : i.facts + 0 ≤ most_facts = omega (arith, p.facts) in
    record {
      last = u.last;
      lines = omega (arith, t.lines, u.lines);
      runs = λ e h done. (
        proving d begins,
        lits_named i.in_scope shown r.order p.plain p.some,
        step_claim known d i shown r.order p.plain (omega (arith, r.few, at_least rest)) (omega (arith, r.shallow, deep_at_least inner)) few,
        refl,
        runs_append known (Some (proving d begins)) (Some (proving d after)) (Some e) (script_raw_lines known i.in_scope inner) (script_raw_lines known i.in_scope rest)
            (t.runs (proving d after) (claim_closed d i t.last shown (steps_of inner) (close_of inner) inner (same_script inner p.plain_inner) p.facts p.terms) refl)
            (u.runs e (one_more d u.last i (Claimed shown inner) rest e h) done),
      );
    }

-- ---- a superposition

pub record CopyParts (known : List TitledStatement) (i : Inside) (superposition : Superpose) (names : List (List ℕ)) (shown : List Lit) (inner rest : Script) (given : List Lit) (goal : Goal) : Type 0 where
  pub good : GoodSuperpose i.in_scope superposition names shown
  pub few : few_objects (with_new_names i.in_scope superposing.sorts_copied names) ≡ Ok tt
  pub plain_inner : is_plain inner ≡ true
  pub plain_rest : is_plain rest ≡ true
  pub fit_inner : list_all (line_fits (stated_by known)) (placed_steps (stated_by known) inner inner (scope_of_names (with_new_names i.in_scope superposing.sorts_copied names)) (with_facts given (superposing.gives_of_superposition superposition (scope_of_names i.in_scope))) (goal_of shown)) ≡ true
  pub fit_rest : list_all (line_fits (stated_by known)) (placed_steps (stated_by known) rest rest (scope_of_names i.in_scope) (with_facts given shown) goal) ≡ true
  pub good_inner : has_well_formed_literals inner ≡ true
  pub theorems_inner : names_theorems known inner ≡ true
  pub blanks_inner : few_blanks inner ≡ true
  pub good_rest : has_well_formed_literals rest ≡ true
  pub theorems_rest : names_theorems known rest ≡ true
  pub blanks_rest : few_blanks rest ≡ true
  pub facts_first : (copied i superposition names shown).facts ≤ most_facts
  pub facts_inner : few_facts (stated_by known) (copied i superposition names shown).facts (scope_of_names (with_new_names i.in_scope superposing.sorts_copied names)) inner ≡ true
  pub facts : i.facts + length shown ≤ most_facts
  pub facts_rest : few_facts (stated_by known) (i.facts + length shown) (scope_of_names i.in_scope) rest ≡ true
  pub terms_first : (copied i superposition names shown).terms ≤ most_monomials_of_facts
  pub terms_inner : few_terms (stated_by known) (copied i superposition names shown).terms (scope_of_names (with_new_names i.in_scope superposing.sorts_copied names)) inner ≡ true
  pub terms : i.terms + count_monomials shown ≤ most_monomials_of_facts
  pub terms_rest : few_terms (stated_by known) (i.terms + count_monomials shown) (scope_of_names i.in_scope) rest ≡ true

pub copy_parts : (known : List TitledStatement) (d : TheoremParser) (i : Inside) (superposition : Superpose) (names : List (List ℕ)) (shown : List Lit) (inner rest : Script) (given : List Lit) (goal : Goal) → Ready known d i (Superposed superposition names shown [] inner rest) given goal
    → CopyParts known i superposition names shown inner rest given goal
unfolding is_plain placed_steps NewNamesFit has_well_formed_literals few_facts few_terms names_theorems few_blanks
copy_parts known d i superposition names shown inner rest given goal r =
    let s = scope_of_names i.in_scope in
    let t = with_sorts s superposing.sorts_copied in
    let gives = superposing.gives_of_superposition superposition s in
    let begun = with_facts given gives in
    let scope : t ≡ scope_of_names (with_new_names i.in_scope superposing.sorts_copied names) = named_scope i.in_scope superposing.sorts_copied names r.new_names.1 in
    let n = i.facts + length gives in
    let m = i.terms + count_monomials gives in
    let facts = i.facts + length shown in
    let terms = i.terms + count_monomials shown in
    let inside = placed_steps (stated_by known) inner inner t begun (goal_of shown) in
    let after = placed_steps (stated_by known) rest rest s (with_facts given shown) goal in
    let p = and_parts (list_all is_name names) (ltb 0 (length shown) && (is_plain inner && is_plain rest)) r.plain in
    let q = and_parts (ltb 0 (length shown)) (is_plain inner && is_plain rest) p.1 in
    let pp = and_parts (is_plain inner) (is_plain rest) q.1 in
    let f = and_parts (superposing.fits_superposition superposition s && are_over s shown) (list_all (line_fits (stated_by known)) (inside ++ after)) r.fitting in
    let fs = and_parts (superposing.fits_superposition superposition s) (are_over s shown) f.0 in
    let ff = both_fit known inside after f.1 in
    let g = and_parts (list_all is_well_formed shown) (has_well_formed_literals inner && has_well_formed_literals rest) r.good in
    let gg = and_parts (has_well_formed_literals inner) (has_well_formed_literals rest) g.1 in
    let th = and_parts (names_theorems known inner) (names_theorems known rest) r.theorems in
    let bl = and_parts (few_blanks inner) (few_blanks rest) r.blanks in
    let a = and_parts (leb n most_facts) (few_facts (stated_by known) n t inner && (leb facts most_facts && few_facts (stated_by known) facts s rest)) r.facts in
    let aa = and_parts (few_facts (stated_by known) n t inner) (leb facts most_facts && few_facts (stated_by known) facts s rest) a.1 in
    let ab = and_parts (leb facts most_facts) (few_facts (stated_by known) facts s rest) aa.1 in
    let b = and_parts (leb m most_monomials_of_facts) (few_terms (stated_by known) m t inner && (leb terms most_monomials_of_facts && few_terms (stated_by known) terms s rest)) r.terms in
    let ba = and_parts (few_terms (stated_by known) m t inner) (leb terms most_monomials_of_facts && few_terms (stated_by known) terms s rest) b.1 in
    let bb = and_parts (leb terms most_monomials_of_facts) (few_terms (stated_by known) terms s rest) ba.1 in
    record {
      good = record { order = r.order; fits = fs.0; free = r.new_names.0; named = list_names names p.0; count = r.new_names.1; plain = record { within = fs.1; good = g.0 }; some = ltb-true 0 (length shown) q.0 };
      few = r.new_names.2;
      plain_inner = pp.0;
      plain_rest = pp.1;
      fit_inner = subst (λ (z : Scope). list_all (line_fits (stated_by known)) (placed_steps (stated_by known) inner inner z begun (goal_of shown)) ≡ true) scope ff.0;
      fit_rest = ff.1;
      good_inner = gg.0;
      good_rest = gg.1;
      theorems_inner = th.0;
      theorems_rest = th.1;
      blanks_inner = bl.0;
      blanks_rest = bl.1;
      facts_first = leb-true _ _ a.0;
      facts_inner = subst (λ (z : Scope). few_facts (stated_by known) n z inner ≡ true) scope aa.0;
      facts = leb-true _ _ ab.0;
      facts_rest = ab.1;
      terms_first = leb-true _ _ b.0;
      terms_inner = subst (λ (z : Scope). few_terms (stated_by known) m z inner ≡ true) scope ba.0;
      terms = leb-true _ _ bb.0;
      terms_rest = bb.1;
    }

pub copy_inner : (known : List TitledStatement) (d : TheoremParser) (i : Inside) (superposition : Superpose) (names : List (List ℕ)) (shown : List Lit) (inner rest : Script) (given : List Lit) (goal : Goal) → Ready known d i (Superposed superposition names shown [] inner rest) given goal
    → Ready known d (copied i superposition names shown) inner (with_facts given (superposing.gives_of_superposition superposition (scope_of_names i.in_scope))) (goal_of shown)
unfolding NewNamesFit size depth
copy_inner known d i superposition names shown inner rest given goal r =
    let p = copy_parts known d i superposition names shown inner rest given goal r in
    record {
      order = named_in_order i.in_scope superposing.sorts_copied names r.order p.good.named p.good.free;
      goal_sorts = refl;
      plain = p.plain_inner;
      fitting = p.fit_inner;
      new_names = r.new_names.3;
      few = omega (arith, r.few);
      shallow = omega (arith, r.shallow);
      good = p.good_inner;
      theorems = p.theorems_inner;
      blanks = p.blanks_inner;
      facts = p.facts_inner;
      terms = p.terms_inner;
    }

pub copy_rest : (known : List TitledStatement) (d : TheoremParser) (i : Inside) (n : ℕ) (superposition : Superpose) (names : List (List ℕ)) (shown : List Lit) (inner rest : Script) (given : List Lit) (goal : Goal) → n ≡ i.lines + 1 + size inner
    → Ready known d i (Superposed superposition names shown [] inner rest) given goal → Ready known d (resume i n (Copied superposition names shown [] inner) shown) rest (with_facts given shown) goal
unfolding NewNamesFit size depth
copy_rest known d i n superposition names shown inner rest given goal e r =
    let p = copy_parts known d i superposition names shown inner rest given goal r in
    record {
      order = r.order;
      goal_sorts = r.goal_sorts;
      plain = p.plain_rest;
      fitting = p.fit_rest;
      new_names = r.new_names.4;
      few = omega (arith, r.few, e);
      shallow = omega (arith, r.shallow);
      good = p.good_rest;
      theorems = p.theorems_rest;
      blanks = p.blanks_rest;
      facts = p.facts_rest;
      terms = p.terms_rest;
    }

copy_taken : (known : List TitledStatement) (d : TheoremParser) (i : Inside) (superposition : Superpose) (names : List (List ℕ)) (shown : List Lit) (inner rest : Script) (given : List Lit) (goal : Goal) → Ready known d i (Superposed superposition names shown [] inner rest) given goal
    → (t : Taken known d (copied i superposition names shown) inner) → Taken known d (resume i t.last.lines (Copied superposition names shown [] inner) shown) rest → Taken known d i (Superposed superposition names shown [] inner rest)
unfolding script_raw_lines size depth
copy_taken known d i superposition names shown inner rest given goal r t u =
    let p = copy_parts known d i superposition names shown inner rest given goal r in
    let begins = copied i superposition names shown in
    let after = resume i t.last.lines (Copied superposition names shown [] inner) shown in
    record {
      last = u.last;
      lines = omega (arith, t.lines, u.lines);
      runs = λ e h done. (
        proving d begins,
        superpose_named i.in_scope superposition names shown p.good,
        step_superpose known d i superposition names shown p.good p.few (omega (arith, r.few, at_least rest)) (omega (arith, r.shallow, deep_at_least inner)) p.facts_first p.terms_first,
        refl,
        runs_append known (Some (proving d begins)) (Some (proving d after)) (Some e) (script_raw_lines known begins.in_scope inner) (script_raw_lines known i.in_scope rest)
            (t.runs (proving d after) (superpose_closed d i t.last superposition names shown (steps_of inner) (close_of inner) inner (same_script inner p.plain_inner) p.facts p.terms) refl)
            (u.runs e (one_more d u.last i (Copied superposition names shown [] inner) rest e h) done),
      );
    }

-- ---- a split

abbrev pub opens : Inside → Lit → Inside
opens i l = written (deep i (kind.First l) 1) (monomials l.atom)

pub record CasesParts (known : List TitledStatement) (i : Inside) (l : Lit) (one two : Script) (given : List Lit) (goal : Goal) : Type 0 where
  pub plain_first : is_plain one ≡ true
  pub plain_second : is_plain two ≡ true
  pub plain : PlainLit i.in_scope l
  pub fit_first : list_all (line_fits (stated_by known)) (placed_steps (stated_by known) one one (scope_of_names i.in_scope) (with_fact given l) goal) ≡ true
  pub fit_second : list_all (line_fits (stated_by known)) (placed_steps (stated_by known) two two (scope_of_names i.in_scope) (with_fact given (negation l)) goal) ≡ true
  pub good_first : has_well_formed_literals one ≡ true
  pub theorems_first : names_theorems known one ≡ true
  pub blanks_first : few_blanks one ≡ true
  pub good_second : has_well_formed_literals two ≡ true
  pub theorems_second : names_theorems known two ≡ true
  pub blanks_second : few_blanks two ≡ true
  pub facts : i.facts + 1 ≤ most_facts
  pub facts_first : few_facts (stated_by known) (i.facts + 1) (scope_of_names i.in_scope) one ≡ true
  pub facts_second : few_facts (stated_by known) (i.facts + 1) (scope_of_names i.in_scope) two ≡ true
  pub terms : i.terms + monomials l.atom ≤ most_monomials_of_facts
  pub terms_first : few_terms (stated_by known) (i.terms + monomials l.atom) (scope_of_names i.in_scope) one ≡ true
  pub terms_second : few_terms (stated_by known) (i.terms + monomials l.atom) (scope_of_names i.in_scope) two ≡ true

pub cases_parts : (known : List TitledStatement) (d : TheoremParser) (i : Inside) (l : Lit) (one two : Script) (given : List Lit) (goal : Goal) → Ready known d i (Cases l one two) given goal → CasesParts known i l one two given goal
unfolding is_plain placed_steps has_well_formed_literals few_facts few_terms names_theorems few_blanks
cases_parts known d i l one two given goal r =
    let s = scope_of_names i.in_scope in
    let n = i.facts + 1 in
    let m = i.terms + monomials l.atom in
    let in_one = placed_steps (stated_by known) one one s (with_fact given l) goal in
    let in_two = placed_steps (stated_by known) two two s (with_fact given (negation l)) goal in
    let p = and_parts (is_plain one) (is_plain two) r.plain in
    let f = and_parts (all_in_scope s l) (list_all (line_fits (stated_by known)) (in_one ++ in_two)) r.fitting in
    let ff = both_fit known in_one in_two f.1 in
    let g = and_parts (is_well_formed l) (has_well_formed_literals one && has_well_formed_literals two) r.good in
    let gg = and_parts (has_well_formed_literals one) (has_well_formed_literals two) g.1 in
    let th = and_parts (names_theorems known one) (names_theorems known two) r.theorems in
    let bl = and_parts (few_blanks one) (few_blanks two) r.blanks in
    let a = and_parts (leb n most_facts) (few_facts (stated_by known) n s one && few_facts (stated_by known) n s two) r.facts in
    let aa = and_parts (few_facts (stated_by known) n s one) (few_facts (stated_by known) n s two) a.1 in
    let b = and_parts (leb m most_monomials_of_facts) (few_terms (stated_by known) m s one && few_terms (stated_by known) m s two) r.terms in
    let bb = and_parts (few_terms (stated_by known) m s one) (few_terms (stated_by known) m s two) b.1 in
    record {
      plain_first = p.0;
      plain_second = p.1;
      plain = record { within = f.0; good = g.0 };
      fit_first = ff.0;
      fit_second = ff.1;
      good_first = gg.0;
      good_second = gg.1;
      theorems_first = th.0;
      theorems_second = th.1;
      blanks_first = bl.0;
      blanks_second = bl.1;
      facts = leb-true _ _ a.0;
      facts_first = aa.0;
      facts_second = aa.1;
      terms = leb-true _ _ b.0;
      terms_first = bb.0;
      terms_second = bb.1;
    }

pub cases_first : (known : List TitledStatement) (d : TheoremParser) (i : Inside) (l : Lit) (one two : Script) (given : List Lit) (goal : Goal) → Ready known d i (Cases l one two) given goal → Ready known d (opens i l) one (with_fact given l) goal
unfolding NewNamesFit size depth
cases_first known d i l one two given goal r =
    let p = cases_parts known d i l one two given goal r in
    record {
      order = r.order;
      goal_sorts = r.goal_sorts;
      plain = p.plain_first;
      fitting = p.fit_first;
      new_names = r.new_names.0;
      few = omega (arith, r.few);
      shallow = omega (arith, r.shallow);
      good = p.good_first;
      theorems = p.theorems_first;
      blanks = p.blanks_first;
      facts = p.facts_first;
      terms = p.terms_first;
    }

pub cases_second : (known : List TitledStatement) (d : TheoremParser) (i : Inside) (n : ℕ) (l : Lit) (one two : Script) (given : List Lit) (goal : Goal) → n ≡ i.lines + 1 + size one → Ready known d i (Cases l one two) given goal
    → Ready known d (second i n l one) two (with_fact given (negation l)) goal
unfolding NewNamesFit size depth
cases_second known d i n l one two given goal e r =
    let p = cases_parts known d i l one two given goal r in
    record {
      order = r.order;
      goal_sorts = r.goal_sorts;
      plain = p.plain_second;
      fitting = p.fit_second;
      new_names = r.new_names.1;
      few = omega (arith, r.few, e);
      shallow = omega (arith, r.shallow);
      good = p.good_second;
      theorems = p.theorems_second;
      blanks = p.blanks_second;
      facts = p.facts_second;
      terms = p.terms_second;
    }

cases_taken : (known : List TitledStatement) (d : TheoremParser) (i : Inside) (l : Lit) (one two : Script) (given : List Lit) (goal : Goal) → Ready known d i (Cases l one two) given goal
    → (t : Taken known d (opens i l) one) → Taken known d (second i t.last.lines l one) two → Taken known d i (Cases l one two)
unfolding script_raw_lines size depth
cases_taken known d i l one two given goal r t u =
    let p = cases_parts known d i l one two given goal r in
    let between = second i t.last.lines l one in
    record {
      last = u.last;
      lines = omega (arith, t.lines, u.lines);
      runs = λ e h done. (
        proving d (opens i l),
        lit_named i.in_scope l r.order p.plain.within p.plain.good,
        step_cases known d i l r.order p.plain (omega (arith, r.few, at_least one)) (omega (arith, r.shallow, deep_at_least one)) p.facts p.terms,
        refl,
        runs_append known (Some (proving d (opens i l))) (Some (splitting d between)) (Some e) (script_raw_lines known i.in_scope one) (else_raw_line ∷ script_raw_lines known i.in_scope two)
            (t.runs (splitting d between) (first_closed d i t.last l (steps_of one) (close_of one) one (same_script one p.plain_first)) refl) (
              proving d between,
              tt,
              step_else known d between,
              refl,
              u.runs e (second_closed d i u.last l one (steps_of two) (close_of two) two (same_script two p.plain_second) ∙ no_more d u.last i (closes.Cases l one two) e h) done,
            ),
      );
    }

-- ---- other lines that close a block

abbrev pub one_line : Inside → Inside
one_line i = record i { lines = i.lines + 1 }

qed_taken : (known : List TitledStatement) (d : TheoremParser) (i : Inside) (os : List Obj) (given : List Lit) (goal : Goal) → Ready known d i (Qed os []) given goal → Taken known d i (Qed os [])
unfolding script_raw_lines placed_steps size
qed_taken known d i os given goal r =
    let s = scope_of_names i.in_scope in
    let q = (and_parts (are_of_sorts s (sorts_of goal.made) os) true r.fitting).0 in
    let h : are_of_sorts s (made_in i.blocks d.made) os ≡ true = subst (λ (l : List Sort). are_of_sorts s l os ≡ true) r.goal_sorts q in
    record {
      last = one_line i;
      lines = refl;
      runs = λ e c done. (
        e,
        objects_named i.in_scope os r.order (of_sorts_in_scope s (made_in i.blocks d.made) os h),
        step_qed known d i os r.order h (omega (arith, r.few)) ∙ no_more d (one_line i) i (closes.Qed os) e c,
        done,
        refl,
      );
    }

contradiction_taken : (known : List TitledStatement) (d : TheoremParser) (i : Inside) (given : List Lit) (goal : Goal) → Ready known d i (Contradiction None) given goal → Taken known d i (Contradiction None)
unfolding script_raw_lines size
contradiction_taken known d i given goal r = record {
  last = one_line i;
  lines = refl;
  runs = λ e c done. (e, tt, step_contradiction known d i (omega (arith, r.few)) ∙ no_more d (one_line i) i closes.Contradiction e c, done, refl);
}

-- ---- all lines

pub run_script : (known : List TitledStatement) (d : TheoremParser) (i : Inside) (script : Script) (given : List Lit) (goal : Goal) → Ready known d i script given goal → Taken known d i script
unfolding is_plain
run_script known d i (Cite b rest) given goal r = cite_taken known d i b rest given goal r (run_script known d (after_step i (Cited b) 1) rest (with_fact given b.lit) goal (cite_ready known d i b rest given goal r))
run_script known d i (Hence l None rest) given goal r = hence_taken known d i l rest given goal r (run_script known d (inferred i l) rest (with_fact given l) goal (hence_ready known d i l rest given goal r))
run_script known d i (Hence l (Some cert) rest) given goal r = absurd (no_cert r.plain)
run_script known d i (Make construction names [] rest) given goal r =
    make_taken known d i construction names rest given goal r (run_script known d (constructed i construction names) rest (with_facts given (gives_of_construction construction (scope_of_names i.in_scope))) goal (make_ready known d i construction names rest given goal r))
run_script known d i (Make construction names (c ∷ cs) rest) given goal r = absurd (no_cert r.plain)
run_script known d i (Apply theorem args names [] rest) given goal r =
    let p = apply_parts known d i theorem args names rest given goal r in
    let t = theorem_of known theorem in
    apply_taken known d i theorem args names rest given goal r (run_script known d (applied_after i t theorem args names) rest (with_facts given (gives_of_use t (written_args args) (scope_of_names i.in_scope))) goal p.next)
run_script known d i (Apply theorem args names (c ∷ cs) rest) given goal r = absurd (no_cert r.plain)
run_script known d i (Claim shown inner rest) given goal r =
    let t = run_script known d (deep i (kind.Claim shown) 0) inner given (goal_of shown) (claim_inner known d i shown inner rest given goal r) in
    let u = run_script known d (resume i t.last.lines (Claimed shown inner) shown) rest (with_facts given shown) goal (claim_rest known d i t.last.lines shown inner rest given goal t.lines r) in
    claim_taken known d i shown inner rest given goal r t u
run_script known d i (Superposed superposition names shown [] inner rest) given goal r =
    let t = run_script known d (copied i superposition names shown) inner (with_facts given (superposing.gives_of_superposition superposition (scope_of_names i.in_scope))) (goal_of shown) (copy_inner known d i superposition names shown inner rest given goal r) in
    let u = run_script known d (resume i t.last.lines (Copied superposition names shown [] inner) shown) rest (with_facts given shown) goal (copy_rest known d i t.last.lines superposition names shown inner rest given goal t.lines r) in
    copy_taken known d i superposition names shown inner rest given goal r t u
run_script known d i (Superposed superposition names shown (c ∷ cs) inner rest) given goal r = absurd (no_cert r.plain)
run_script known d i (Qed os []) given goal r = qed_taken known d i os given goal r
run_script known d i (Qed os (c ∷ cs)) given goal r = absurd (no_cert r.plain)
run_script known d i (Contradiction None) given goal r = contradiction_taken known d i given goal r
run_script known d i (Contradiction (Some against)) given goal r = absurd (no_cert r.plain)
run_script known d i (Cases l one two) given goal r =
    let t = run_script known d (opens i l) one (with_fact given l) goal (cases_first known d i l one two given goal r) in
    let u = run_script known d (second i t.last.lines l one) two (with_fact given (negation l)) goal (cases_second known d i t.last.lines l one two given goal t.lines r) in
    cases_taken known d i l one two given goal r t u
