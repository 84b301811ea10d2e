-- A theorem whose certified derivation is trimmed has a spelling, and what is left can be verified.
use Rattle.std.proofs.Common.{◌≡◌, ℕ, ◌+◌, List, [], ◌∷◌, ◌++◌, map, length, refl, sym, ap, ◌∙◌, arith, true, ◌&&◌, Result}
use Rattle.std.specs.Prelude.{IsTrue, nat_lt}
use Rattle.std.specs.List.{list_all}
use Rattle.std.proofs.lemmas.Bool.{and_parts, and_from}
use Rattle.std.proofs.lemmas.List.{length-map}
use Rattle.e_text.specs.Lines.{LineView}
use Rattle.e_text.specs.Names.{is_name}
use Rattle.e_text.specs.declared.line.LineFault.{LineFault}
use Rattle.e_literal.specs.declared.object.Obj.{Obj}
use Rattle.e_literal.specs.declared.object.Scope.{Scope}
use Rattle.e_literal.specs.declared.literal.Lit.{Lit}
use Rattle.e_literal.specs.Literal.{negation}
use Rattle.e_literal.specs.Facts.{with_fact, with_facts}
use Rattle.e_literal.specs.Scopes.{with_sorts, next_objects}
use Rattle.e_literal.specs.Use.{StatementView, scope_of, is_statement}
use Rattle.e_clause.specs.declared.cert.Version.TheVariants.{One}
use Rattle.e_construct.specs.Construct.{sorts_made, gives_of_construction}
use Rattle.e_construct.specs.Superposing as superposing
use Rattle.e_construct.proofs.Moving.{every}
use Rattle.e_theorem.specs.Statements.{as_view}
use Rattle.e_deriv.specs.Naming.{declared_names}
use Rattle.e_deriv.specs.Script.{Script, Cite, Hence, Make, Apply, Claim, Superposed, Qed, Contradiction, Cases, bare_script, depth}
use Rattle.e_deriv.specs.Goal.{Goal, goal_of, goal_of_statement, facts_of_statement}
use Rattle.e_deriv.specs.PlacedSteps.{theorem_at}
use Rattle.e_deriv.specs.Certified.{Certified}
use Rattle.e_deriv.specs.Fitting.{all_objects, is_small, is_small_statement}
use Rattle.e_deriv.specs.Versions.{has_certs_of}
use Rattle.e_deriv.proofs.Versions.{good_of_version}
use Rattle.e_line.specs.Limits.{count_monomials}
use Rattle.e_names.specs.TitledStatements.{TitledStatement, stated_by}
use Rattle.e_book.specs.TheoremViews.{TheoremView}
use Rattle.e_book.specs.Fits.{Fits, has_well_formed_literals}
use Rattle.e_names.specs.NamedByTitle.{is_named_by_title}
use Rattle.e_book.specs.HasSpelling.{HasSpelling, is_plain, names_theorems}
use Rattle.e_book.proofs.fit_theorems.Fitting.{small_statement}
use Rattle.e_book.proofs.fit_theorems.WrittenScripts.{erased_literals, written_well}
use Rattle.e_read.specs.Text.{at_start, piece_from}
use Rattle.e_read.proofs.Bridge.{derives}
use Rattle.e_trim.specs.Trimmed.{declared_of, joins_at, lit_among_kept, is_kept, wants, trimmed_from, trimmed_script}
use Rattle.e_trim.proofs.kept_scripts.Shorter.{trimmed_shorter}
use Rattle.e_trim.proofs.kept_scripts.CertifiedDerivations.{trimmed_certified}
use Rattle.e_judgement.proofs.WithCertificates.{size_erased}
use Rattle.e_roundtrip.specs.Laws.{TrimmedHasSpelling}
use Rattle.e_roundtrip.specs.Written.{CanBeVerified}
use Rattle.e_roundtrip.proofs.Formed.CertifiedFormed.{certified_formed}
use Rattle.e_roundtrip.proofs.Formed.FilledForms.{forms_of_certified}
use Rattle.e_roundtrip.proofs.Texts.ReadIsSpelled.{read_is_formed_so}
use Rattle.e_roundtrip.proofs.Trimmed.TrimmedLimits.{literals_left, facts_left, terms_left, blanks_left, depth_erased}
use Rattle.e_trim.proofs.kept_scripts.VersionStays.{either, trimmed_keeps_version}
use Rattle.e_roundtrip.proofs.Trimmed.TrimmedNames.{fewer_own, names_left}

-- ---- the theorems that it uses have titles

theorems_left : (known : List TitledStatement) (before : List StatementView) (d : Script) (kept : List Obj) (s : Scope) (facts : List Lit) (goal : Goal) → names_theorems known (bare_script d) ≡ true → names_theorems known (bare_script (trimmed_from before kept d s facts goal)) ≡ true
unfolding trimmed_from bare_script names_theorems
theorems_left known before (Cite by rest) kept s facts goal h =
    let r = theorems_left known before rest kept s (with_fact facts by.lit) goal h in
    either (λ x. names_theorems known (bare_script x)) (is_kept before (Cite by rest) s facts (wants before rest s (with_fact facts by.lit) goal)) _ _ r r
theorems_left known before (Hence lit cert rest) kept s facts goal h =
    let r = theorems_left known before rest kept s (with_fact facts lit) goal h in
    either (λ x. names_theorems known (bare_script x)) (is_kept before (Hence lit cert rest) s facts (wants before rest s (with_fact facts lit) goal)) _ _ r r
theorems_left known before (Make construction names certs rest) kept s facts goal h =
    either (λ x. names_theorems known (bare_script x)) (is_kept before (Make construction names certs rest) s facts (wants before rest (with_sorts s (sorts_made construction)) (with_facts facts (gives_of_construction construction s)) goal)) _ _
    (theorems_left known before rest (kept ++ next_objects s (sorts_made construction)) (with_sorts s (sorts_made construction)) (with_facts facts (gives_of_construction construction s)) goal h)
    (theorems_left known before rest kept (with_sorts s (sorts_made construction)) (with_facts facts (gives_of_construction construction s)) goal h)
theorems_left known before (Apply theorem args names certs rest) kept s facts goal h =
    let here = Apply theorem args names certs rest in
    let new = (theorem_at before theorem).made in
    let p = and_parts (is_named_by_title known theorem) (names_theorems known (bare_script rest)) h in
    let after = with_facts facts (joins_at before here s) in
    either (λ x. names_theorems known (bare_script x)) (is_kept before here s facts (wants before rest (with_sorts s new) after goal)) _ _
    (and_from (is_named_by_title known theorem) _ p.0 (theorems_left known before rest (kept ++ next_objects s new) (with_sorts s new) after goal p.1))
    (theorems_left known before rest kept (with_sorts s new) after goal p.1)
theorems_left known before (Claim shown inner rest) kept s facts goal h =
    let p = and_parts (names_theorems known (bare_script inner)) (names_theorems known (bare_script rest)) h in
    let r = theorems_left known before rest kept s (with_facts facts shown) goal p.1 in
    either (λ x. names_theorems known (bare_script x)) (is_kept before (Claim shown inner rest) s facts (wants before rest s (with_facts facts shown) goal)) _ _
    (and_from _ _ (theorems_left known before inner kept s facts (goal_of shown) p.0) r) r
theorems_left known before (Superposed superposition names shown certs inner rest) kept s facts goal h =
    let p = and_parts (names_theorems known (bare_script inner)) (names_theorems known (bare_script rest)) h in
    let r = theorems_left known before rest kept s (with_facts facts shown) goal p.1 in
    either (λ x. names_theorems known (bare_script x)) (is_kept before (Superposed superposition names shown certs inner rest) s facts (wants before rest s (with_facts facts shown) goal)) _ _
    (and_from _ _ (theorems_left known before inner (kept ++ next_objects s superposing.sorts_copied) (with_sorts s superposing.sorts_copied) (with_facts facts (superposing.gives_of_superposition superposition s)) (goal_of shown) p.0) r) r
theorems_left known before (Qed objects certs) kept s facts goal h = refl
theorems_left known before (Contradiction against) kept s facts goal h = refl
theorems_left known before (Cases lit first second) kept s facts goal h =
    let p = and_parts (names_theorems known (bare_script first)) (names_theorems known (bare_script second)) h in
    and_from _ _ (theorems_left known before first kept s (with_fact facts lit) goal p.0) (theorems_left known before second kept s (with_fact facts (negation lit)) goal p.1)

-- ---- its lines are plain, their certificates left out

-- as many are shown
some_left : (kept : List Obj) (shown : List Lit) → nat_lt 0 (length shown) ≡ true → nat_lt 0 (length (map (lit_among_kept kept) shown)) ≡ true
some_left kept shown h = ap (nat_lt 0) (length-map shown (lit_among_kept kept)) ∙ h

plain_left : (before : List StatementView) (d : Script) (kept : List Obj) (s : Scope) (facts : List Lit) (goal : Goal) → is_plain (bare_script d) ≡ true → is_plain (bare_script (trimmed_from before kept d s facts goal)) ≡ true
unfolding trimmed_from bare_script is_plain
plain_left before (Cite by rest) kept s facts goal h =
    let r = plain_left before rest kept s (with_fact facts by.lit) goal h in
    either (λ x. is_plain (bare_script x)) (is_kept before (Cite by rest) s facts (wants before rest s (with_fact facts by.lit) goal)) _ _ r r
plain_left before (Hence lit cert rest) kept s facts goal h =
    let r = plain_left before rest kept s (with_fact facts lit) goal h in
    either (λ x. is_plain (bare_script x)) (is_kept before (Hence lit cert rest) s facts (wants before rest s (with_fact facts lit) goal)) _ _ r r
plain_left before (Make construction names certs rest) kept s facts goal h =
    let p = and_parts (list_all is_name names) (is_plain (bare_script rest)) h in
    let after = with_facts facts (gives_of_construction construction s) in
    either (λ x. is_plain (bare_script x)) (is_kept before (Make construction names certs rest) s facts (wants before rest (with_sorts s (sorts_made construction)) after goal)) _ _
    (and_from (list_all is_name names) _ p.0 (plain_left before rest (kept ++ next_objects s (sorts_made construction)) (with_sorts s (sorts_made construction)) after goal p.1))
    (plain_left before rest kept (with_sorts s (sorts_made construction)) after goal p.1)
plain_left before (Apply theorem args names certs rest) kept s facts goal h =
    let here = Apply theorem args names certs rest in
    let new = (theorem_at before theorem).made in
    let p = and_parts (list_all is_name names) (is_plain (bare_script rest)) h in
    let after = with_facts facts (joins_at before here s) in
    either (λ x. is_plain (bare_script x)) (is_kept before here s facts (wants before rest (with_sorts s new) after goal)) _ _
    (and_from (list_all is_name names) _ p.0 (plain_left before rest (kept ++ next_objects s new) (with_sorts s new) after goal p.1))
    (plain_left before rest kept (with_sorts s new) after goal p.1)
plain_left before (Claim shown inner rest) kept s facts goal h =
    let p = and_parts (nat_lt 0 (length shown)) (is_plain (bare_script inner) && is_plain (bare_script rest)) h in
    let q = and_parts (is_plain (bare_script inner)) (is_plain (bare_script rest)) p.1 in
    let r = plain_left before rest kept s (with_facts facts shown) goal q.1 in
    either (λ x. is_plain (bare_script x)) (is_kept before (Claim shown inner rest) s facts (wants before rest s (with_facts facts shown) goal)) _ _
    (and_from _ _ (some_left kept shown p.0) (and_from _ _ (plain_left before inner kept s facts (goal_of shown) q.0) r)) r
plain_left before (Superposed superposition names shown certs inner rest) kept s facts goal h =
    let o = and_parts (list_all is_name names) (nat_lt 0 (length shown) && (is_plain (bare_script inner) && is_plain (bare_script rest))) h in
    let p = and_parts (nat_lt 0 (length shown)) (is_plain (bare_script inner) && is_plain (bare_script rest)) o.1 in
    let q = and_parts (is_plain (bare_script inner)) (is_plain (bare_script rest)) p.1 in
    let r = plain_left before rest kept s (with_facts facts shown) goal q.1 in
    let kind = with_facts facts (superposing.gives_of_superposition superposition s) in
    either (λ x. is_plain (bare_script x)) (is_kept before (Superposed superposition names shown certs inner rest) s facts (wants before rest s (with_facts facts shown) goal)) _ _
    (and_from (list_all is_name names) _ o.0 (and_from _ _ (some_left kept shown p.0) (and_from _ _ (plain_left before inner (kept ++ next_objects s superposing.sorts_copied) (with_sorts s superposing.sorts_copied) kind (goal_of shown) q.0) r))) r
plain_left before (Qed objects certs) kept s facts goal h = refl
plain_left before (Contradiction against) kept s facts goal h = refl
plain_left before (Cases lit first second) kept s facts goal h =
    let p = and_parts (is_plain (bare_script first)) (is_plain (bare_script second)) h in
    and_from _ _ (plain_left before first kept s (with_fact facts lit) goal p.0) (plain_left before second kept s (with_fact facts (negation lit)) goal p.1)

-- ---- the whole

are_statements : (ts : List StatementView) → list_all is_small_statement ts ≡ true → list_all is_statement ts ≡ true
are_statements ts h = every is_small_statement is_statement (λ t k. (and_parts (is_statement t) (is_small (all_objects t)) k).0) ts h

-- a theorem that can be spelled states something small
states : (known : List TitledStatement) (t : TheoremView) → HasSpelling known (record t { script = bare_script t.script }) → is_statement (as_view t.statement) ≡ true
states known t h = (and_parts (is_statement (as_view t.statement)) (is_small (all_objects (as_view t.statement))) (small_statement known (record t { script = bare_script t.script }) h.fits)).0

abbrev left_of : List TitledStatement → TheoremView → Script
left_of known t = trimmed_script (stated_by known) (as_view t.statement) t.script

trimmed_fits : (known : List TitledStatement) (t : TheoremView) → Fits known (record t { script = bare_script t.script }) → has_well_formed_literals t.script ≡ true → Certified (stated_by known) (as_view t.statement) (left_of known t) → Fits known (record t { script = bare_script (left_of known t) })
trimmed_fits known t h good c =
    let before = stated_by known in
    let st = as_view t.statement in
    let d = t.script in
    let left = left_of known t in
    let kept = declared_of st in
    let s = scope_of st in
    let stand = facts_of_statement st in
    let goal = goal_of_statement st in
    let short = trimmed_shorter before st d in
    record {
      new = h.new;
      scope = h.scope;
      differ = h.differ;
      points = h.points;
      lines = h.lines;
      circles = h.circles;
      given = h.given;
      shown = h.shown;
      good_given = h.good_given;
      good_shown = h.good_shown;
      good_script = literals_left before d kept s stand goal good;
      script = forms_of_certified before left (bare_script left) s stand stand goal c;
      new_names = names_left before d kept s stand goal (declared_names st t.names) (declared_names st t.names) (fewer_own (declared_names st t.names)) h.new_names;
      steps = omega (arith, size_erased left, short.0, size_erased d, h.steps);
      depth = omega (arith, depth_erased left, short.1, depth_erased d, h.depth);
      given_facts = h.given_facts;
      given_terms = h.given_terms;
      facts = facts_left before d kept s stand goal (length t.statement.given) (length t.statement.given) s s (omega arith) h.facts;
      terms = terms_left before d kept s stand goal (count_monomials t.statement.given) (count_monomials t.statement.given) s s (omega arith) h.terms;
      blanks = blanks_left before d kept s stand goal h.blanks;
    }

pub trimmed_has_spelling : TrimmedHasSpelling
trimmed_has_spelling known t small h first c =
    let before = stated_by known in
    let st = as_view t.statement in
    let d = t.script in
    let s = scope_of st in
    let facts = facts_of_statement st in
    let goal = goal_of_statement st in
    let still = trimmed_certified before st d (are_statements before small) (states known t h) first c in
    record {
      fits = trimmed_fits known t h.fits (sym (erased_literals d) ∙ h.fits.good_script) still;
      few_theorems = h.few_theorems;
      title = h.title;
      point_names = h.point_names;
      line_names = h.line_names;
      circle_names = h.circle_names;
      some_shown = h.some_shown;
      script = plain_left before d (declared_of st) s facts goal h.script;
      theorems = theorems_left known before d (declared_of st) s facts goal h.theorems;
    }

-- what is left of a theorem that was read and is certified can be verified
pub trimmed_can_be_verified : (known : List TitledStatement) (last : ℕ) (t : TheoremView) (lines after : List (Result LineView LineFault)) → IsTrue (list_all is_small_statement (stated_by known)) → piece_from known last (at_start One) lines ≡ derives t after
    → Certified (stated_by known) (as_view t.statement) t.script → CanBeVerified One known t (left_of known t)
trimmed_can_be_verified known last t lines after small read c =
    let before = stated_by known in
    let st = as_view t.statement in
    let d = t.script in
    let left = left_of known t in
    let own = read_is_formed_so One known last t lines after read in
    let plain = trimmed_has_spelling known t small own.plain own.version c in
    let still = trimmed_certified before st d (are_statements before small) (states known t own.plain) own.version c in
    let first : has_certs_of One left ≡ true = trimmed_keeps_version One before st d own.version in
    let literals : has_well_formed_literals left ≡ true = sym (erased_literals left) ∙ plain.fits.good_script in
    record {
      spelled = record { plain = plain; formed = certified_formed before st left still (written_well left literals (good_of_version One left first)); version = first };
      certified = still;
    }
