-- The lines of a script with their certificates are taken.
use Rattle.std.proofs.Common.{◌≡◌, ℕ, ◌+◌, ◌≤◌, true, leb, List, [], ◌∷◌, ◌++◌, Option, Some, None, refl, subst, ◌∙◌, arith}
use Rattle.std.specs.List.{list_all, flat_map}
use Rattle.std.proofs.lemmas.Bool.{leb-true, and_parts}
use Rattle.e_literal.specs.declared.object.Sort.{Sort}
use Rattle.e_literal.specs.declared.object.Obj.{Obj}
use Rattle.e_literal.specs.declared.object.Scope.{Scope}
use Rattle.e_literal.specs.declared.literal.Lit.{Lit}
use Rattle.e_literal.specs.Literal.{negation}
use Rattle.e_literal.specs.WellFormed.{is_well_formed}
use Rattle.e_literal.specs.Scopes.{with_sorts, are_of_sorts}
use Rattle.e_literal.specs.Facts.{with_fact, with_facts}
use Rattle.e_literal.specs.Use.{are_arguments, gives_of_use, needs_of_use}
use Rattle.e_theorem.specs.Choice.{fills, is_choice}
use Rattle.e_clause.specs.declared.cert.Against.{Against}
use Rattle.e_clause.specs.declared.cert.By.{By}
use Rattle.e_clause.specs.declared.cert.Cert.{Cert}
use Rattle.e_construct.specs.declared.construction.Construction.{Construction}
use Rattle.e_construct.specs.declared.superpose.Superpose.{Superpose}
use Rattle.e_construct.specs.Construct.{sorts_made, gives_of_construction, needs_of_construction}
use Rattle.e_construct.specs.Superposing as superposing
use Rattle.e_deriv.specs.PlainStep.{Cited, Inferred, Made, Applied, Claimed, Copied}
use Rattle.e_deriv.specs.Naming.{with_new_names}
use Rattle.e_deriv.specs.Script.{Script, Cite, Hence, Make, Apply, Claim, Superposed, Qed, Contradiction, Cases, size, depth, bare_script}
use Rattle.e_deriv.specs.Goal.{Goal, goal_of, goal_with}
use Rattle.e_deriv.specs.PlacedSteps.{placed_step, placed_steps}
use Rattle.e_deriv.specs.Parts.{args_written as written_args}
use Rattle.e_deriv.specs.Steps.{is_citation}
use Rattle.e_book.specs.declared.blocks.BlockKind.TheVariants as kind
use Rattle.e_book.specs.declared.steps.CloseLine.TheVariants as closes
use Rattle.e_book.specs.declared.parser.TheoremParser.{TheoremParser}
use Rattle.e_line.specs.Limits.{most_facts, most_monomials_of_facts, monomials}
use Rattle.e_book.specs.Blocks.{made_in}
use Rattle.e_names.specs.TitledStatements.{TitledStatement, stated_by, theorem_of}
use Rattle.e_names.specs.Scope.{scope_of_names}
use Rattle.e_names.specs.Fits.{is_diagram_lit}
use Rattle.e_book.specs.Fits.{few_facts, few_terms, has_well_formed_literals, NewNamesFit}
use Rattle.e_line.specs.Canonical.{line_of}
use Rattle.e_names.specs.Canonical.{by_raw_line, hence_raw_line, let_raw_line, apply_raw_line, claim_raw_line, superpose_raw_line, qed_raw_line, contradiction_raw_line, cases_raw_line, else_raw_line}
use Rattle.e_book.specs.HasSpelling.{is_plain}
use Rattle.e_names.proofs.resolution.Lookups.{objects_named}
use Rattle.e_names.proofs.resolution.LitLookups.{lit_named}
use Rattle.e_names.proofs.literals.PlainLits.{PlainLit, lits_named}
use Rattle.e_names.proofs.resolution.Cited.{by_good}
use Rattle.e_names.proofs.read_lines.Building.{named_scope}
use Rattle.e_names.proofs.resolution.Built.{of_sorts_in_scope, let_named}
use Rattle.e_names.proofs.resolution.Superposed.{superpose_named}
use Rattle.e_names.proofs.resolution.Applied.{apply_named}
use Rattle.e_book.proofs.fit_theorems.FittingScripts.{line_fits}
use Rattle.e_book.proofs.canonical.ScriptParts.{steps_of, close_of, same_script, at_least, deep_at_least}
use Rattle.e_book.proofs.canonical.LinesRead.{Inside, proving, splitting, after_step, deep, copied, resume, second, applied_after, step_cite, step_hence, step_let, step_apply, step_claim, step_superpose, step_cases, step_else, step_qed, step_contradiction, claim_closed, superpose_closed, first_closed, second_closed}
use Rattle.e_cert.specs.declared.owed.Obligation.TheVariants as due
use Rattle.e_cert.specs.declared.kept.StepCerts.TheVariants as kept
use Rattle.e_read.specs.inner.Needs.{one_each, due_of}
use Rattle.e_spell.specs.Certificates.{cert_lines, against_lines}
use Rattle.e_spell.specs.Spelling.{script_lines}
use Rattle.e_roundtrip.specs.Formed.{certs_formed, is_formed}
use Rattle.e_roundtrip.proofs.Blocks.FilledBack.{kepts}
use Rattle.e_roundtrip.proofs.Certificates.RowsAgain.{lit_direct}
use Rattle.e_roundtrip.proofs.Certificates.CertsPut.{certs_kept, nothing_kept, against_kept}
use Rattle.e_roundtrip.proofs.Certificates.SpellableCertificates.{good_certs, good_against}
use Rattle.e_roundtrip.proofs.Blocks.LinesTaken.{along_append}
use Rattle.e_book.proofs.canonical.ScriptRead.{list_names, one_more, no_more, cite_ready, inferred, hence_ready, gifts, constructed, make_good, make_ready, apply_parts, claim_parts, claim_inner, claim_rest, copy_parts, copy_inner, copy_rest, opens, cases_parts, cases_first, cases_second, one_line}
use Rattle.e_roundtrip.proofs.Certificates.DueAgain.{all_direct, all_written, hence_due, let_due, apply_due, superpose_due, qed_due}
use Rattle.e_roundtrip.proofs.Formed.PlacedScripts.{Stood, first_of, both_of, one_formed, Spelled, goes_along, then_along}

-- ---- citations

pub cite_next : (known : List TitledStatement) (d : TheoremParser) (i : Inside) (b : By) (rest : Script) (given : List Lit) (goal : Goal) → Stood known d i (Cite b rest) given goal → Stood known d (after_step i (Cited b) 1) rest (with_fact given b.lit) goal
unfolding bare_script placed_steps
cite_next known d i b rest given goal s =
    let before = stated_by known in
    let sc = scope_of_names i.in_scope in
    record {
      ready = cite_ready known d i b (bare_script rest) given goal s.ready;
      goal_is = s.goal_is;
      formed = (first_of (is_formed before) (placed_step (Cite b rest) (Cite b rest) sc given goal) (placed_steps before rest rest sc (with_fact given b.lit) goal) s.formed).1;
    }

cite_along : (known : List TitledStatement) (d : TheoremParser) (i : Inside) (b : By) (rest : Script) (given : List Lit) (goal : Goal) → Stood known d i (Cite b rest) given goal → Spelled known d (after_step i (Cited b) 1) rest → Spelled known d i (Cite b rest)
unfolding bare_script script_lines kepts placed_steps size has_well_formed_literals few_facts due_of
cite_along known d i b rest given goal s t =
    let r = s.ready in
    let sc = scope_of_names i.in_scope in
    let fit = (and_parts (is_citation sc b) (list_all (line_fits (stated_by known)) (placed_steps (stated_by known) (bare_script rest) (bare_script rest) sc (with_fact given b.lit) goal)) r.fitting).0 in
    let good = (and_parts (is_diagram_lit b.lit) (has_well_formed_literals (bare_script rest)) r.good).0 in
    let most = leb-true _ _ (and_parts (leb (i.facts + 1) most_facts) (few_facts (stated_by known) (i.facts + 1) sc (bare_script rest)) r.facts).0 in
    record {
      last = t.last;
      lines = omega (arith, t.lines);
      along = λ e h done.
          then_along known (proving d i) (proving d (after_step i (Cited b) 1)) e (by_raw_line i.in_scope b) due.Nothing [] None (script_lines known i.in_scope rest) (kepts rest) (record {
            good = by_good i.in_scope b r.order fit good;
            strict = refl;
            apart = refl;
            owes = refl;
            steps = step_cite known d i b r.order fit good (omega (arith, r.few)) most;
            going = refl;
            keeps = nothing_kept i.in_scope;
          }) (t.along e (one_more d t.last i (Cited b) (bare_script rest) e h) done);
    }

-- ---- inferences

pub hence_next : (known : List TitledStatement) (d : TheoremParser) (i : Inside) (l : Lit) (c : Cert) (rest : Script) (given : List Lit) (goal : Goal) → Stood known d i (Hence l (Some c) rest) given goal → Stood known d (inferred i l) rest (with_fact given l) goal
unfolding bare_script placed_steps
hence_next known d i l c rest given goal s =
    let before = stated_by known in
    let sc = scope_of_names i.in_scope in
    record {
      ready = hence_ready known d i l (bare_script rest) given goal s.ready;
      goal_is = s.goal_is;
      formed = (first_of (is_formed before) (placed_step (Hence l (Some c) rest) (Hence l (Some c) rest) sc given goal) (placed_steps before rest rest sc (with_fact given l) goal) s.formed).1;
    }

hence_along : (known : List TitledStatement) (d : TheoremParser) (i : Inside) (l : Lit) (c : Cert) (rest : Script) (given : List Lit) (goal : Goal) → Stood known d i (Hence l (Some c) rest) given goal → Spelled known d (inferred i l) rest
    → Spelled known d i (Hence l (Some c) rest)
unfolding bare_script script_lines kepts placed_steps size has_well_formed_literals few_facts few_terms
hence_along known d i l c rest given goal s t =
    let before = stated_by known in
    let r = s.ready in
    let sc = scope_of_names i.in_scope in
    let n = i.terms + monomials l.atom in
    let here = placed_step (Hence l (Some c) rest) (Hence l (Some c) rest) sc given goal in
    let one = one_formed before here (first_of (is_formed before) here (placed_steps before rest rest sc (with_fact given l) goal) s.formed).0 in
    let good = (and_parts (is_well_formed l) (has_well_formed_literals (bare_script rest)) r.good).0 in
    let plain : PlainLit i.in_scope l = record { within = one.fitting; good = good } in
    let most = leb-true _ _ (and_parts (leb (i.facts + 1) most_facts) (few_facts before (i.facts + 1) sc (bare_script rest)) r.facts).0 in
    let short = leb-true _ _ (and_parts (leb n most_monomials_of_facts) (few_terms before n sc (bare_script rest)) r.terms).0 in
    record {
      last = t.last;
      lines = omega (arith, t.lines);
      along = λ e h done.
          then_along known (proving d i) (proving d (inferred i l)) e (hence_raw_line i.in_scope l) (one_each (l ∷ [])) (flat_map (cert_lines i.in_scope) (c ∷ [])) (Some (kept.Certs (c ∷ []))) (script_lines known i.in_scope rest) (kepts rest) (record {
            good = lit_named i.in_scope l r.order one.fitting good;
            strict = lit_direct i.in_scope l;
            apart = refl;
            owes = hence_due known (proving d i) l r.order plain;
            steps = step_hence known d i l r.order plain (omega (arith, r.few)) most short;
            going = refl;
            keeps = certs_kept i.in_scope (l ∷ []) (c ∷ []) r.order (good_certs i.in_scope (l ∷ []) (c ∷ []) one.certs);
          }) (t.along e (one_more d t.last i (Inferred l None) (bare_script rest) e h) done);
    }

-- ---- constructions

pub make_next : (known : List TitledStatement) (d : TheoremParser) (i : Inside) (construction : Construction) (names : List (List ℕ)) (certs : List Cert) (rest : Script) (given : List Lit) (goal : Goal) → Stood known d i (Make construction names certs rest) given goal
    → Stood known d (constructed i construction names) rest (with_facts given (gives_of_construction construction (scope_of_names i.in_scope))) goal
unfolding bare_script placed_steps NewNamesFit
make_next known d i construction names certs rest given goal s =
    let before = stated_by known in
    let sc = scope_of_names i.in_scope in
    let facts = with_facts given (gives_of_construction construction sc) in
    let scope : with_sorts sc (sorts_made construction) ≡ scope_of_names (with_new_names i.in_scope (sorts_made construction) names) = named_scope i.in_scope (sorts_made construction) names s.ready.new_names.1 in
    let here = placed_step (Make construction names certs rest) (Make construction names certs rest) sc given goal in
    record {
      ready = make_ready known d i construction names (bare_script rest) given goal s.ready;
      goal_is = s.goal_is;
      formed = subst (λ (z : Scope). list_all (is_formed before) (placed_steps before rest rest z facts goal) ≡ true) scope (first_of (is_formed before) here (placed_steps before rest rest (with_sorts sc (sorts_made construction)) facts goal) s.formed).1;
    }

make_along : (known : List TitledStatement) (d : TheoremParser) (i : Inside) (construction : Construction) (names : List (List ℕ)) (certs : List Cert) (rest : Script) (given : List Lit) (goal : Goal) → Stood known d i (Make construction names certs rest) given goal
    → Spelled known d (constructed i construction names) rest → Spelled known d i (Make construction names certs rest)
unfolding bare_script script_lines kepts placed_steps is_plain NewNamesFit size few_facts
make_along known d i construction names certs rest given goal s t =
    let before = stated_by known in
    let r = s.ready in
    let sc = scope_of_names i.in_scope in
    let n = i.facts + gifts i construction in
    let here = placed_step (Make construction names certs rest) (Make construction names certs rest) sc given goal in
    let one = one_formed before here (first_of (is_formed before) here (placed_steps before rest rest (with_sorts sc (sorts_made construction)) (with_facts given (gives_of_construction construction sc)) goal) s.formed).0 in
    let good = make_good known d i construction names (bare_script rest) given goal r in
    let most = leb-true _ _ (and_parts (leb n most_facts) (few_facts before n (with_sorts sc (sorts_made construction)) (bare_script rest)) r.facts).0 in
    record {
      last = t.last;
      lines = omega (arith, t.lines);
      along = λ e h done.
          then_along known (proving d i) (proving d (constructed i construction names)) e (let_raw_line i.in_scope construction names) (one_each (needs_of_construction construction)) (flat_map (cert_lines i.in_scope) certs) (Some (kept.Certs certs))
          (script_lines known (with_new_names i.in_scope (sorts_made construction) names) rest) (kepts rest) (record {
            good = let_named i.in_scope construction names r.order good (list_names names (and_parts (list_all _ names) (is_plain (bare_script rest)) r.plain).0);
            strict = refl;
            apart = refl;
            owes = let_due known (proving d i) construction names r.order good;
            steps = step_let known d i construction names r.order good r.new_names.2 (omega (arith, r.few, at_least (bare_script rest))) most;
            going = refl;
            keeps = certs_kept i.in_scope (needs_of_construction construction) certs r.order (good_certs i.in_scope (needs_of_construction construction) certs one.certs);
          }) (t.along e (one_more d t.last i (Made construction names []) (bare_script rest) e h) done);
    }

-- ---- uses of earlier theorems

pub apply_next : (known : List TitledStatement) (d : TheoremParser) (i : Inside) (theorem : ℕ) (args : List (Option Obj)) (names : List (List ℕ)) (certs : List Cert) (rest : Script) (given : List Lit) (goal : Goal)
    → Stood known d i (Apply theorem args names certs rest) given goal
    → Stood known d (applied_after i (theorem_of known theorem) theorem args names) rest (with_facts given (gives_of_use (theorem_of known theorem) (written_args args) (scope_of_names i.in_scope))) goal
unfolding bare_script placed_steps NewNamesFit
apply_next known d i theorem args names certs rest given goal s =
    let before = stated_by known in
    let sc = scope_of_names i.in_scope in
    let t = theorem_of known theorem in
    let facts = with_facts given (gives_of_use t (written_args args) sc) in
    let scope : with_sorts sc t.made ≡ scope_of_names (with_new_names i.in_scope t.made names) = named_scope i.in_scope t.made names s.ready.new_names.1 in
    let here = placed_step (Apply theorem args names certs rest) (Apply theorem args names certs rest) sc given goal in
    record {
      ready = (apply_parts known d i theorem args names (bare_script rest) given goal s.ready).next;
      goal_is = s.goal_is;
      formed = subst (λ (z : Scope). list_all (is_formed before) (placed_steps before rest rest z facts goal) ≡ true) scope (first_of (is_formed before) here (placed_steps before rest rest (with_sorts sc t.made) facts goal) s.formed).1;
    }

apply_along : (known : List TitledStatement) (d : TheoremParser) (i : Inside) (theorem : ℕ) (args : List (Option Obj)) (names : List (List ℕ)) (certs : List Cert) (rest : Script) (given : List Lit) (goal : Goal)
    → Stood known d i (Apply theorem args names certs rest) given goal → Spelled known d (applied_after i (theorem_of known theorem) theorem args names) rest → Spelled known d i (Apply theorem args names certs rest)
unfolding bare_script script_lines kepts placed_steps size
apply_along known d i theorem args names certs rest given goal s u =
    let before = stated_by known in
    let r = s.ready in
    let sc = scope_of_names i.in_scope in
    let t = theorem_of known theorem in
    let p = apply_parts known d i theorem args names (bare_script rest) given goal r in
    let after = applied_after i t theorem args names in
    let here = placed_step (Apply theorem args names certs rest) (Apply theorem args names certs rest) sc given goal in
    let one = one_formed before here (first_of (is_formed before) here (placed_steps before rest rest (with_sorts sc t.made) (with_facts given (gives_of_use t (written_args args) sc)) goal) s.formed).0 in
    let choice = (and_parts _ (is_choice t sc args (written_args args)) one.fitting).1 in
    let fit = (and_parts (fills args (written_args args)) (are_arguments t sc (written_args args)) choice).1 in
    let wanted = needs_of_use t (written_args args) sc in
    record {
      last = u.last;
      lines = omega (arith, u.lines);
      along = λ e h done.
          then_along known (proving d i) (proving d after) e (apply_raw_line known i.in_scope theorem args names) (one_each wanted) (flat_map (cert_lines i.in_scope) certs) (Some (kept.Certs certs)) (script_lines known after.in_scope rest) (kepts rest) (record {
            good = apply_named known i.in_scope theorem args names r.order p.good p.named;
            strict = all_written i.in_scope args one.beside;
            apart = refl;
            owes = apply_due known (proving d i) theorem args names r.order p.good one.beside fit;
            steps = step_apply known d i theorem args names r.order p.good p.few (omega (arith, r.few, at_least (bare_script rest))) p.facts p.terms p.blanks;
            going = refl;
            keeps = certs_kept i.in_scope wanted certs r.order (good_certs i.in_scope wanted certs one.certs);
          }) (u.along e (one_more d u.last i (Applied theorem args names []) (bare_script rest) e h) done);
    }

-- ---- claims

claim_formed : (known : List TitledStatement) (d : TheoremParser) (i : Inside) (shown : List Lit) (inner rest : Script) (given : List Lit) (goal : Goal) → Stood known d i (Claim shown inner rest) given goal
    → (list_all (is_formed (stated_by known)) (placed_steps (stated_by known) inner inner (scope_of_names i.in_scope) given (goal_of shown)) ≡ true)
    × (list_all (is_formed (stated_by known)) (placed_steps (stated_by known) rest rest (scope_of_names i.in_scope) (with_facts given shown) goal) ≡ true)
unfolding placed_steps
claim_formed known d i shown inner rest given goal s =
    let before = stated_by known in
    let sc = scope_of_names i.in_scope in
    let inside = placed_steps before inner inner sc given (goal_of shown) in
    let after = placed_steps before rest rest sc (with_facts given shown) goal in
    both_of (is_formed before) inside after (first_of (is_formed before) (placed_step (Claim shown inner rest) (Claim shown inner rest) sc given goal) (inside ++ after) s.formed).1

pub claim_inside : (known : List TitledStatement) (d : TheoremParser) (i : Inside) (shown : List Lit) (inner rest : Script) (given : List Lit) (goal : Goal) → Stood known d i (Claim shown inner rest) given goal
    → Stood known d (deep i (kind.Claim shown) 0) inner given (goal_of shown)
unfolding bare_script
claim_inside known d i shown inner rest given goal s = record {
  ready = claim_inner known d i shown (bare_script inner) (bare_script rest) given goal s.ready;
  goal_is = refl;
  formed = (claim_formed known d i shown inner rest given goal s).0;
}

pub claim_next : (known : List TitledStatement) (d : TheoremParser) (i : Inside) (n : ℕ) (shown : List Lit) (inner rest : Script) (given : List Lit) (goal : Goal) → n ≡ i.lines + 1 + size (bare_script inner) → Stood known d i (Claim shown inner rest) given goal
    → Stood known d (resume i n (Claimed shown (bare_script inner)) shown) rest (with_facts given shown) goal
unfolding bare_script
claim_next known d i n shown inner rest given goal count s = record {
  ready = claim_rest known d i n shown (bare_script inner) (bare_script rest) given goal count s.ready;
  goal_is = s.goal_is;
  formed = (claim_formed known d i shown inner rest given goal s).1;
}

claim_along : (known : List TitledStatement) (d : TheoremParser) (i : Inside) (shown : List Lit) (inner rest : Script) (given : List Lit) (goal : Goal) → Stood known d i (Claim shown inner rest) given goal
    → (t : Spelled known d (deep i (kind.Claim shown) 0) inner) → Spelled known d (resume i t.last.lines (Claimed shown (bare_script inner)) shown) rest → Spelled known d i (Claim shown inner rest)
unfolding bare_script script_lines kepts size depth due_of
claim_along known d i shown inner rest given goal s t u =
    let r = s.ready in
    let p = claim_parts known d i shown (bare_script inner) (bare_script rest) given goal r in
    let begins = deep i (kind.Claim shown) 0 in
    let after = resume i t.last.lines (Claimed shown (bare_script inner)) shown in
    let few : i.facts + 0 ≤ most_facts = omega (arith, p.facts) in
    record {
      last = u.last;
      lines = omega (arith, t.lines, u.lines);
      along = λ e h done.
          then_along known (proving d i) (proving d begins) e (claim_raw_line i.in_scope shown) due.Nothing [] None (script_lines known i.in_scope inner ++ script_lines known i.in_scope rest) (kepts inner ++ kepts rest) (record {
            good = lits_named i.in_scope shown r.order p.plain p.some;
            strict = all_direct i.in_scope shown;
            apart = refl;
            owes = refl;
            steps = step_claim known d i shown r.order p.plain (omega (arith, r.few, at_least (bare_script rest))) (omega (arith, r.shallow, deep_at_least (bare_script inner))) few;
            going = refl;
            keeps = nothing_kept i.in_scope;
          }) (along_append known (proving d begins) (proving d after) e (script_lines known i.in_scope inner) (script_lines known i.in_scope rest) (kepts inner) (kepts rest)
          (t.along (proving d after) (claim_closed d i t.last shown (steps_of (bare_script inner)) (close_of (bare_script inner)) (bare_script inner) (same_script (bare_script inner) p.plain_inner) p.facts p.terms) refl)
          (u.along e (one_more d u.last i (Claimed shown (bare_script inner)) (bare_script rest) e h) done));
    }

-- ---- superpositions

pub copy_formed : (known : List TitledStatement) (d : TheoremParser) (i : Inside) (superposition : Superpose) (names : List (List ℕ)) (shown : List Lit) (certs : List Cert) (inner rest : Script) (given : List Lit) (goal : Goal)
    → Stood known d i (Superposed superposition names shown certs inner rest) given goal
    → (list_all (is_formed (stated_by known)) (placed_steps (stated_by known) inner inner (with_sorts (scope_of_names i.in_scope) superposing.sorts_copied) (with_facts given (superposing.gives_of_superposition superposition (scope_of_names i.in_scope))) (goal_of shown)) ≡ true)
    × (list_all (is_formed (stated_by known)) (placed_steps (stated_by known) rest rest (scope_of_names i.in_scope) (with_facts given shown) goal) ≡ true)
    × (certs_formed (scope_of_names i.in_scope) (superposing.needs_of_superposition superposition) certs ≡ true)
unfolding placed_steps
copy_formed known d i superposition names shown certs inner rest given goal s =
    let before = stated_by known in
    let sc = scope_of_names i.in_scope in
    let here = placed_step (Superposed superposition names shown certs inner rest) (Superposed superposition names shown certs inner rest) sc given goal in
    let inside = placed_steps before inner inner (with_sorts sc superposing.sorts_copied) (with_facts given (superposing.gives_of_superposition superposition sc)) (goal_of shown) in
    let after = placed_steps before rest rest sc (with_facts given shown) goal in
    let a = first_of (is_formed before) here (inside ++ after) s.formed in
    let b = both_of (is_formed before) inside after a.1 in
    (b.0, b.1, (one_formed before here a.0).certs)

pub copy_inside : (known : List TitledStatement) (d : TheoremParser) (i : Inside) (superposition : Superpose) (names : List (List ℕ)) (shown : List Lit) (certs : List Cert) (inner rest : Script) (given : List Lit) (goal : Goal)
    → Stood known d i (Superposed superposition names shown certs inner rest) given goal
    → Stood known d (copied i superposition names shown) inner (with_facts given (superposing.gives_of_superposition superposition (scope_of_names i.in_scope))) (goal_of shown)
unfolding bare_script NewNamesFit
copy_inside known d i superposition names shown certs inner rest given goal s =
    let before = stated_by known in
    let sc = scope_of_names i.in_scope in
    let scope : with_sorts sc superposing.sorts_copied ≡ scope_of_names (with_new_names i.in_scope superposing.sorts_copied names) = named_scope i.in_scope superposing.sorts_copied names s.ready.new_names.1 in
    record {
      ready = copy_inner known d i superposition names shown (bare_script inner) (bare_script rest) given goal s.ready;
      goal_is = refl;
      formed = subst (λ (z : Scope). list_all (is_formed before) (placed_steps before inner inner z (with_facts given (superposing.gives_of_superposition superposition sc)) (goal_of shown)) ≡ true) scope (copy_formed known d i superposition names shown certs inner rest given goal s).0;
    }

pub copy_next : (known : List TitledStatement) (d : TheoremParser) (i : Inside) (n : ℕ) (superposition : Superpose) (names : List (List ℕ)) (shown : List Lit) (certs : List Cert) (inner rest : Script) (given : List Lit) (goal : Goal) → n ≡ i.lines + 1 + size (bare_script inner)
    → Stood known d i (Superposed superposition names shown certs inner rest) given goal → Stood known d (resume i n (Copied superposition names shown [] (bare_script inner)) shown) rest (with_facts given shown) goal
unfolding bare_script
copy_next known d i n superposition names shown certs inner rest given goal count s = record {
  ready = copy_rest known d i n superposition names shown (bare_script inner) (bare_script rest) given goal count s.ready;
  goal_is = s.goal_is;
  formed = (copy_formed known d i superposition names shown certs inner rest given goal s).1;
}

copy_along : (known : List TitledStatement) (d : TheoremParser) (i : Inside) (superposition : Superpose) (names : List (List ℕ)) (shown : List Lit) (certs : List Cert) (inner rest : Script) (given : List Lit) (goal : Goal)
    → Stood known d i (Superposed superposition names shown certs inner rest) given goal
    → (t : Spelled known d (copied i superposition names shown) inner) → Spelled known d (resume i t.last.lines (Copied superposition names shown [] (bare_script inner)) shown) rest → Spelled known d i (Superposed superposition names shown certs inner rest)
unfolding bare_script script_lines kepts size depth
copy_along known d i superposition names shown certs inner rest given goal s t u =
    let r = s.ready in
    let p = copy_parts known d i superposition names shown (bare_script inner) (bare_script rest) given goal r in
    let begins = copied i superposition names shown in
    let after = resume i t.last.lines (Copied superposition names shown [] (bare_script inner)) shown in
    let wanted = superposing.needs_of_superposition superposition in
    let c = (copy_formed known d i superposition names shown certs inner rest given goal s).2 in
    record {
      last = u.last;
      lines = omega (arith, t.lines, u.lines);
      along = λ e h done.
          then_along known (proving d i) (proving d begins) e (superpose_raw_line i.in_scope superposition names shown) (one_each wanted) (flat_map (cert_lines i.in_scope) certs) (Some (kept.Certs certs))
          (script_lines known begins.in_scope inner ++ script_lines known i.in_scope rest) (kepts inner ++ kepts rest) (record {
            good = superpose_named i.in_scope superposition names shown p.good;
            strict = all_direct i.in_scope shown;
            apart = refl;
            owes = superpose_due known (proving d i) superposition names shown p.good;
            steps = step_superpose known d i superposition names shown p.good p.few (omega (arith, r.few, at_least (bare_script rest))) (omega (arith, r.shallow, deep_at_least (bare_script inner))) p.facts_first p.terms_first;
            going = refl;
            keeps = certs_kept i.in_scope wanted certs r.order (good_certs i.in_scope wanted certs c);
          }) (along_append known (proving d begins) (proving d after) e (script_lines known begins.in_scope inner) (script_lines known i.in_scope rest) (kepts inner) (kepts rest)
          (t.along (proving d after) (superpose_closed d i t.last superposition names shown (steps_of (bare_script inner)) (close_of (bare_script inner)) (bare_script inner) (same_script (bare_script inner) p.plain_inner) p.facts p.terms) refl)
          (u.along e (one_more d u.last i (Copied superposition names shown [] (bare_script inner)) (bare_script rest) e h) done));
    }

-- ---- splits

cases_formed : (known : List TitledStatement) (d : TheoremParser) (i : Inside) (l : Lit) (one two : Script) (given : List Lit) (goal : Goal) → Stood known d i (Cases l one two) given goal
    → (list_all (is_formed (stated_by known)) (placed_steps (stated_by known) one one (scope_of_names i.in_scope) (with_fact given l) goal) ≡ true)
    × (list_all (is_formed (stated_by known)) (placed_steps (stated_by known) two two (scope_of_names i.in_scope) (with_fact given (negation l)) goal) ≡ true)
unfolding placed_steps
cases_formed known d i l one two given goal s =
    let before = stated_by known in
    let sc = scope_of_names i.in_scope in
    let in_one = placed_steps before one one sc (with_fact given l) goal in
    let in_two = placed_steps before two two sc (with_fact given (negation l)) goal in
    both_of (is_formed before) in_one in_two (first_of (is_formed before) (placed_step (Cases l one two) (Cases l one two) sc given goal) (in_one ++ in_two) s.formed).1

pub cases_one : (known : List TitledStatement) (d : TheoremParser) (i : Inside) (l : Lit) (one two : Script) (given : List Lit) (goal : Goal) → Stood known d i (Cases l one two) given goal → Stood known d (opens i l) one (with_fact given l) goal
unfolding bare_script
cases_one known d i l one two given goal s = record {
  ready = cases_first known d i l (bare_script one) (bare_script two) given goal s.ready;
  goal_is = s.goal_is;
  formed = (cases_formed known d i l one two given goal s).0;
}

pub cases_two : (known : List TitledStatement) (d : TheoremParser) (i : Inside) (n : ℕ) (l : Lit) (one two : Script) (given : List Lit) (goal : Goal) → n ≡ i.lines + 1 + size (bare_script one) → Stood known d i (Cases l one two) given goal
    → Stood known d (second i n l (bare_script one)) two (with_fact given (negation l)) goal
unfolding bare_script
cases_two known d i n l one two given goal count s = record {
  ready = cases_second known d i n l (bare_script one) (bare_script two) given goal count s.ready;
  goal_is = s.goal_is;
  formed = (cases_formed known d i l one two given goal s).1;
}

cases_along : (known : List TitledStatement) (d : TheoremParser) (i : Inside) (l : Lit) (one two : Script) (given : List Lit) (goal : Goal) → Stood known d i (Cases l one two) given goal
    → (t : Spelled known d (opens i l) one) → Spelled known d (second i t.last.lines l (bare_script one)) two → Spelled known d i (Cases l one two)
unfolding bare_script script_lines kepts size depth due_of
cases_along known d i l one two given goal s t u =
    let r = s.ready in
    let p = cases_parts known d i l (bare_script one) (bare_script two) given goal r in
    let between = second i t.last.lines l (bare_script one) in
    let ns = i.in_scope in
    record {
      last = u.last;
      lines = omega (arith, t.lines, u.lines);
      along = λ e h done.
          let last = second_closed d i u.last l (bare_script one) (steps_of (bare_script two)) (close_of (bare_script two)) (bare_script two) (same_script (bare_script two) p.plain_second) ∙ no_more d u.last i (closes.Cases l (bare_script one) (bare_script two)) e h in
          let after_else = then_along known (splitting d between) (proving d between) e else_raw_line due.Nothing [] None (script_lines known ns two) (kepts two) (record {
            good = tt;
            strict = refl;
            apart = refl;
            owes = refl;
            steps = step_else known d between;
            going = refl;
            keeps = nothing_kept ns;
          }) (u.along e last done) in
          then_along known (proving d i) (proving d (opens i l)) e (cases_raw_line ns l) due.Nothing [] None (script_lines known ns one ++ line_of else_raw_line ∷ script_lines known ns two) (kepts one ++ kepts two) (record {
            good = lit_named ns l r.order p.plain.within p.plain.good;
            strict = lit_direct ns l;
            apart = refl;
            owes = refl;
            steps = step_cases known d i l r.order p.plain (omega (arith, r.few, at_least (bare_script one))) (omega (arith, r.shallow, deep_at_least (bare_script one))) p.facts p.terms;
            going = refl;
            keeps = nothing_kept ns;
          }) (along_append known (proving d (opens i l)) (splitting d between) e (script_lines known ns one) (line_of else_raw_line ∷ script_lines known ns two) (kepts one) (kepts two)
          (t.along (splitting d between) (first_closed d i t.last l (steps_of (bare_script one)) (close_of (bare_script one)) (bare_script one) (same_script (bare_script one) p.plain_first)) refl) after_else);
    }

-- ---- other lines that close a block

qed_along : (known : List TitledStatement) (d : TheoremParser) (i : Inside) (os : List Obj) (certs : List Cert) (given : List Lit) (goal : Goal) → Stood known d i (Qed os certs) given goal → Spelled known d i (Qed os certs)
unfolding bare_script script_lines kepts placed_steps size
qed_along known d i os certs given goal s =
    let before = stated_by known in
    let r = s.ready in
    let ns = i.in_scope in
    let sc = scope_of_names ns in
    let here = placed_step (Qed os certs) (Qed os certs) sc given goal in
    let one = one_formed before here (first_of (is_formed before) here [] s.formed).0 in
    let h : are_of_sorts sc (made_in i.blocks d.made) os ≡ true = subst (λ (l : List Sort). are_of_sorts sc l os ≡ true) r.goal_sorts one.fitting in
    let wanted = goal_with goal os in
    record {
      last = one_line i;
      lines = refl;
      along = λ e c done.
          goes_along known (proving d i) e (qed_raw_line ns os) (one_each wanted) (flat_map (cert_lines ns) certs) (Some (kept.Certs certs)) (record {
            good = objects_named ns os r.order (of_sorts_in_scope sc (made_in i.blocks d.made) os h);
            strict = refl;
            apart = refl;
            owes = qed_due known (proving d i) goal os r.order h s.goal_is;
            steps = step_qed known d i os r.order h (omega (arith, r.few)) ∙ no_more d (one_line i) i (closes.Qed os) e c;
            going = done;
            keeps = certs_kept ns wanted certs r.order (good_certs ns wanted certs one.certs);
          });
    }

contradiction_along : (known : List TitledStatement) (d : TheoremParser) (i : Inside) (a : Against) (given : List Lit) (goal : Goal) → Stood known d i (Contradiction (Some a)) given goal → Spelled known d i (Contradiction (Some a))
unfolding bare_script script_lines kepts placed_steps size due_of
contradiction_along known d i a given goal s =
    let before = stated_by known in
    let r = s.ready in
    let ns = i.in_scope in
    let here = placed_step (Contradiction (Some a)) (Contradiction (Some a)) (scope_of_names ns) given goal in
    let one = one_formed before here (first_of (is_formed before) here [] s.formed).0 in
    record {
      last = one_line i;
      lines = refl;
      along = λ e c done.
          goes_along known (proving d i) e contradiction_raw_line (due.Contradiction None) (against_lines ns a) (Some (kept.Against a)) (record {
            good = tt;
            strict = refl;
            apart = refl;
            owes = refl;
            steps = step_contradiction known d i (omega (arith, r.few)) ∙ no_more d (one_line i) i closes.Contradiction e c;
            going = done;
            keeps = against_kept ns a r.order (good_against ns a one.beside);
          });
    }

-- ---- all lines

-- a line that lacks its certificate has not the form
pub no_hence : (known : List TitledStatement) (d : TheoremParser) (i : Inside) (l : Lit) (rest : Script) (given : List Lit) (goal : Goal) → Stood known d i (Hence l None rest) given goal → ⊥
unfolding placed_steps
no_hence known d i l rest given goal s =
    let before = stated_by known in
    let sc = scope_of_names i.in_scope in
    let here = placed_step (Hence l None rest) (Hence l None rest) sc given goal in
    let c = (one_formed before here (first_of (is_formed before) here (placed_steps before rest rest sc (with_fact given l) goal) s.formed).0).certs in
    absurd cc

pub no_contradiction : (known : List TitledStatement) (d : TheoremParser) (i : Inside) (given : List Lit) (goal : Goal) → Stood known d i (Contradiction None) given goal → ⊥
unfolding placed_steps
no_contradiction known d i given goal s =
    let before = stated_by known in
    let here = placed_step (Contradiction None) (Contradiction None) (scope_of_names i.in_scope) given goal in
    let c = (one_formed before here (first_of (is_formed before) here [] s.formed).0).beside in
    absurd cc

pub script_spelled : (known : List TitledStatement) (d : TheoremParser) (i : Inside) (script : Script) (given : List Lit) (goal : Goal) → Stood known d i script given goal → Spelled known d i script
script_spelled known d i (Cite b rest) given goal s =
    cite_along known d i b rest given goal s (script_spelled known d (after_step i (Cited b) 1) rest (with_fact given b.lit) goal (cite_next known d i b rest given goal s))
script_spelled known d i (Hence l None rest) given goal s = absurd (no_hence known d i l rest given goal s)
script_spelled known d i (Hence l (Some c) rest) given goal s =
    hence_along known d i l c rest given goal s (script_spelled known d (inferred i l) rest (with_fact given l) goal (hence_next known d i l c rest given goal s))
script_spelled known d i (Make construction names certs rest) given goal s =
    make_along known d i construction names certs rest given goal s
    (script_spelled known d (constructed i construction names) rest (with_facts given (gives_of_construction construction (scope_of_names i.in_scope))) goal (make_next known d i construction names certs rest given goal s))
script_spelled known d i (Apply theorem args names certs rest) given goal s =
    let t = theorem_of known theorem in
    apply_along known d i theorem args names certs rest given goal s
    (script_spelled known d (applied_after i t theorem args names) rest (with_facts given (gives_of_use t (written_args args) (scope_of_names i.in_scope))) goal (apply_next known d i theorem args names certs rest given goal s))
script_spelled known d i (Claim shown inner rest) given goal s =
    let t = script_spelled known d (deep i (kind.Claim shown) 0) inner given (goal_of shown) (claim_inside known d i shown inner rest given goal s) in
    let u = script_spelled known d (resume i t.last.lines (Claimed shown (bare_script inner)) shown) rest (with_facts given shown) goal (claim_next known d i t.last.lines shown inner rest given goal t.lines s) in
    claim_along known d i shown inner rest given goal s t u
script_spelled known d i (Superposed superposition names shown certs inner rest) given goal s =
    let t = script_spelled known d (copied i superposition names shown) inner (with_facts given (superposing.gives_of_superposition superposition (scope_of_names i.in_scope))) (goal_of shown) (copy_inside known d i superposition names shown certs inner rest given goal s) in
    let u = script_spelled known d (resume i t.last.lines (Copied superposition names shown [] (bare_script inner)) shown) rest (with_facts given shown) goal (copy_next known d i t.last.lines superposition names shown certs inner rest given goal t.lines s) in
    copy_along known d i superposition names shown certs inner rest given goal s t u
script_spelled known d i (Qed os certs) given goal s = qed_along known d i os certs given goal s
script_spelled known d i (Contradiction None) given goal s = absurd (no_contradiction known d i given goal s)
script_spelled known d i (Contradiction (Some a)) given goal s = contradiction_along known d i a given goal s
script_spelled known d i (Cases l one two) given goal s =
    let t = script_spelled known d (opens i l) one (with_fact given l) goal (cases_one known d i l one two given goal s) in
    let u = script_spelled known d (second i t.last.lines l (bare_script one)) two (with_fact given (negation l)) goal (cases_two known d i t.last.lines l one two given goal t.lines s) in
    cases_along known d i l one two given goal s t u
