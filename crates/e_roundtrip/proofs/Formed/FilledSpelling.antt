-- A theorem whose blanks are filled by a certified derivation has a spelling.
use Rattle.std.proofs.Common.{◌≡◌, ℕ, ◌≤◌, true, List, length, sym, ap, ◌∙◌, subst}
use Rattle.e_literal.specs.Use.{scope_of}
use Rattle.e_theorem.specs.Statements.{as_view}
use Rattle.e_deriv.specs.Naming.{declared_names}
use Rattle.e_deriv.specs.Script.{Script, size, depth, bare_script}
use Rattle.e_deriv.specs.Goal.{goal_of_statement, facts_of_statement}
use Rattle.e_deriv.specs.Parts.{filled_by}
use Rattle.e_deriv.specs.Certified.{Certified}
use Rattle.e_line.specs.Limits.{most_steps, most_depth, count_monomials}
use Rattle.e_names.specs.TitledStatements.{TitledStatement, stated_by}
use Rattle.e_book.specs.TheoremViews.{TheoremView}
use Rattle.e_book.specs.Fits.{Fits, NewNamesFit, few_facts, few_terms, few_blanks, has_well_formed_literals}
use Rattle.e_book.specs.HasSpelling.{is_plain, names_theorems}
use Rattle.e_book.proofs.fit_theorems.WrittenScripts.{filled_literals}
use Rattle.e_read.proofs.Erased.{erased_plain}
use Rattle.e_roundtrip.specs.Laws.{FilledHasSpelling}
use Rattle.e_roundtrip.proofs.Formed.Filled.{filled_size, filled_depth, filled_facts, filled_terms, filled_new_names, filled_theorems, filled_plain, filled_blanks}
use Rattle.e_roundtrip.proofs.Formed.FilledForms.{forms_of_certified}

-- the derivation without its certificates is the theorem's own script, with the arguments of the derivation
without_certificates : (s d : Script) → is_plain s ≡ true → bare_script d ≡ filled_by (bare_script s) d → bare_script d ≡ filled_by s d
without_certificates s d p e = e ∙ ap (λ (x : Script). filled_by x d) (erased_plain s p)

filled_fits : (known : List TitledStatement) (t : TheoremView) (d : Script) → Fits known t → bare_script d ≡ filled_by t.script d → Certified (stated_by known) (as_view t.statement) d → Fits known (record t { script = bare_script d })
filled_fits known t d h e c =
    let before = stated_by known in
    let st = as_view t.statement in
    let s = t.script in
    let n = length t.statement.given in
    let m = count_monomials t.statement.given in
    let sc = scope_of st in
    let ns = declared_names st t.names in
    let back : filled_by s d ≡ bare_script d = sym e in
    record {
      new = h.new;
      scope = h.scope;
      differ = h.differ;
      points = h.points;
      lines = h.lines;
      circles = h.circles;
      given = h.given;
      shown = h.shown;
      good_given = h.good_given;
      good_shown = h.good_shown;
      good_script = ap has_well_formed_literals e ∙ filled_literals s d ∙ h.good_script;
      script = forms_of_certified before d (bare_script d) sc (facts_of_statement st) (facts_of_statement st) (goal_of_statement st) c;
      new_names = subst (λ (x : Script). NewNamesFit before ns x) back (filled_new_names before ns s d h.new_names);
      steps = subst (λ (k : ℕ). k ≤ most_steps) (sym (ap size e ∙ filled_size s d)) h.steps;
      depth = subst (λ (k : ℕ). k ≤ most_depth) (sym (ap depth e ∙ filled_depth s d)) h.depth;
      given_facts = h.given_facts;
      given_terms = h.given_terms;
      facts = ap (few_facts before n sc) e ∙ filled_facts before n sc s d ∙ h.facts;
      terms = ap (few_terms before m sc) e ∙ filled_terms before m sc s d ∙ h.terms;
      blanks = ap few_blanks e ∙ filled_blanks s d;
    }

pub filled_has_spelling : FilledHasSpelling
filled_has_spelling known t d h e c =
    let s = t.script in
    let own : bare_script d ≡ filled_by s d = without_certificates s d h.script e in
    record {
      fits = filled_fits known t d h.fits own c;
      few_theorems = h.few_theorems;
      title = h.title;
      point_names = h.point_names;
      line_names = h.line_names;
      circle_names = h.circle_names;
      some_shown = h.some_shown;
      script = ap is_plain own ∙ filled_plain s d ∙ h.script;
      theorems = ap (names_theorems known) own ∙ filled_theorems known s d ∙ h.theorems;
    }
