-- What is trimmed of a certified derivation is certified.
use Rattle.std.proofs.Common.{◌≡◌, List, [], ◌∷◌, ◌++◌, refl, sym, ap, ◌∙◌, subst, arith, true, ◌&&◌, inl, inr}
use Rattle.std.specs.Option.{option_map_or}
use Rattle.std.specs.List.{list_all}
use Rattle.std.proofs.lemmas.Bool.{and_parts, and_from, lt-ltb}
use Rattle.std.proofs.lemmas.List.{append-nil}
use Rattle.std.proofs.lemmas.List.Folds.{list_all-append}
use Rattle.e_literal.specs.declared.object.Obj.{Obj}
use Rattle.e_literal.specs.declared.object.Scope.{Scope}
use Rattle.e_literal.specs.declared.literal.Lit.{Lit}
use Rattle.e_literal.specs.Literal.{negation, count_of, is_in_scope, all_in_scope, objects_of_atom}
use Rattle.e_literal.specs.Scopes.{nothing, with_sorts, next_objects}
use Rattle.e_literal.specs.Facts.{with_fact, with_facts}
use Rattle.e_literal.specs.Use.{StatementView, scope_of, is_statement}
use Rattle.e_literal.specs.WellFormed.{is_well_formed}
use Rattle.e_construct.specs.Construct.{sorts_made, gives_of_construction}
use Rattle.e_construct.specs.Superposing as superposing
use Rattle.e_deriv.specs.Script.{Script, Cite, Hence, Make, Apply, Claim, Superposed, Qed, Contradiction, Cases}
use Rattle.e_deriv.specs.Goal.{Goal, goal_of, goal_of_statement, facts_of_statement}
use Rattle.e_clause.specs.declared.cert.Version.TheVariants as version
use Rattle.e_clause.specs.Versions.{is_cert_of}
use Rattle.e_deriv.specs.PlacedSteps.{placed_steps, theorem_at}
use Rattle.e_deriv.specs.Versions.{has_certs_of}
use Rattle.e_deriv.specs.Certified.{is_certified}
use Rattle.e_trim.specs.Trimmed.{joins_at, as_step, wants, trimmed_from, trimmed_script, declared_of}
use Rattle.e_trim.specs.Laws.{TrimmedIsCertified}
use Rattle.e_trim.proofs.renumbering.Members.{In, all_in}
use Rattle.e_trim.proofs.renumbering.Counting.{scope_kept, scope_more, next_below}
use Rattle.e_trim.proofs.renumbering.LitsAt.{OverLit, in_has_own}
use Rattle.e_trim.proofs.kept_certificates.Staying.{Stays, joined_either}
use Rattle.e_trim.proofs.renumbering.FormsOfSteps.{next_in}
use Rattle.e_trim.proofs.kept_certificates.LinesStay.{Ready}
use Rattle.e_trim.proofs.kept_scripts.TrimmedScripts.{certified_from, Goes, hence_goes, cite_goes, claim_goes, cases_goes, contradiction_goes, make_goes, superposed_goes}
use Rattle.e_trim.proofs.kept_certificates.QedStays.{qed_goes, own_lit}
use Rattle.e_trim.proofs.kept_certificates.ApplyStays.{apply_goes}

-- ---- all together

-- from each script on; the statements before speak of their own objects
goes : (before : List StatementView) → list_all is_statement before ≡ true → (d : Script) (kept : List Obj) (s : Scope) (facts : List Lit) (goal : Goal) → has_certs_of version.One d ≡ true → certified_from before d s facts goal ≡ true
    → Goes before kept s facts goal (wants before d s facts goal) (trimmed_from before kept d s facts goal)
unfolding placed_steps has_certs_of
goes before st (Cite x rest) kept s facts goal v h =
    let p = and_parts (is_certified before (as_step (Cite x rest) s facts goal)) (certified_from before rest s (with_fact facts x.lit) goal) h in
    cite_goes before kept s facts goal x rest p.0 (goes before st rest kept s (with_fact facts x.lit) goal v p.1)
goes before st (Hence l cert rest) kept s facts goal v h =
    let n = and_parts (option_map_or (is_cert_of version.One) cert true) (has_certs_of version.One rest) v in
    let p = and_parts (is_certified before (as_step (Hence l cert rest) s facts goal)) (certified_from before rest s (with_fact facts l) goal) h in
    hence_goes before kept s facts goal l cert rest n.0 p.0 (goes before st rest kept s (with_fact facts l) goal n.1 p.1)
goes before st (Make construction names certs rest) kept s facts goal v h =
    let n = and_parts (list_all (is_cert_of version.One) certs) (has_certs_of version.One rest) v in
    let p = and_parts (is_certified before (as_step (Make construction names certs rest) s facts goal)) (certified_from before rest (with_sorts s (sorts_made construction)) (with_facts facts (gives_of_construction construction s)) goal) h in
    make_goes before kept s facts goal construction names certs rest n.0 p.0 (λ more. goes before st rest more (with_sorts s (sorts_made construction)) (with_facts facts (gives_of_construction construction s)) goal n.1 p.1)
goes before st (Apply theorem args names certs rest) kept s facts goal v h =
    let n = and_parts (list_all (is_cert_of version.One) certs) (has_certs_of version.One rest) v in
    let here = Apply theorem args names certs rest in
    let new = (theorem_at before theorem).made in
    let p = and_parts (is_certified before (as_step here s facts goal)) (certified_from before rest (with_sorts s new) (with_facts facts (joins_at before here s)) goal) h in
    apply_goes before st kept s facts goal theorem args names certs rest n.0 p.0 (λ more. goes before st rest more (with_sorts s new) (with_facts facts (joins_at before here s)) goal n.1 p.1)
goes before st (Claim shown inner rest) kept s facts goal v h =
    let n = and_parts (has_certs_of version.One inner) (has_certs_of version.One rest) v in
    let p = and_parts (is_certified before (as_step (Claim shown inner rest) s facts goal)) (list_all (is_certified before) (placed_steps before inner inner s facts (goal_of shown) ++ placed_steps before rest rest s (with_facts facts shown) goal)) h in
    let q = and_parts (certified_from before inner s facts (goal_of shown)) (certified_from before rest s (with_facts facts shown) goal) (sym (list_all-append (is_certified before) (placed_steps before inner inner s facts (goal_of shown)) (placed_steps before rest rest s (with_facts facts shown) goal)) ∙ p.1) in
    claim_goes before kept s facts goal shown inner rest p.0 (goes before st inner kept s facts (goal_of shown) n.0 q.0) (goes before st rest kept s (with_facts facts shown) goal n.1 q.1)
goes before st (Superposed superposition names shown certs inner rest) kept s facts goal v h =
    let n = and_parts (list_all (is_cert_of version.One) certs) (has_certs_of version.One inner && has_certs_of version.One rest) v in
    let m = and_parts (has_certs_of version.One inner) (has_certs_of version.One rest) n.1 in
    let p = and_parts (is_certified before (as_step (Superposed superposition names shown certs inner rest) s facts goal)) (list_all (is_certified before) (placed_steps before inner inner (with_sorts s superposing.sorts_copied) (with_facts facts (superposing.gives_of_superposition superposition s)) (goal_of shown) ++ placed_steps before rest rest s (with_facts facts shown) goal)) h in
    let q = and_parts (certified_from before inner (with_sorts s superposing.sorts_copied) (with_facts facts (superposing.gives_of_superposition superposition s)) (goal_of shown)) (certified_from before rest s (with_facts facts shown) goal)
    (sym (list_all-append (is_certified before) (placed_steps before inner inner (with_sorts s superposing.sorts_copied) (with_facts facts (superposing.gives_of_superposition superposition s)) (goal_of shown)) (placed_steps before rest rest s (with_facts facts shown) goal)) ∙ p.1) in
    superposed_goes before kept s facts goal superposition names shown certs inner rest n.0 p.0
    (goes before st inner (kept ++ next_objects s superposing.sorts_copied) (with_sorts s superposing.sorts_copied) (with_facts facts (superposing.gives_of_superposition superposition s)) (goal_of shown) m.0 q.0) (goes before st rest kept s (with_facts facts shown) goal m.1 q.1)
goes before st (Qed objects certs) kept s facts goal v h = qed_goes before kept s facts goal objects certs v (and_parts (is_certified before (as_step (Qed objects certs) s facts goal)) true h).0
goes before st (Contradiction against) kept s facts goal v h = contradiction_goes before kept s facts goal against v (and_parts (is_certified before (as_step (Contradiction against) s facts goal)) true h).0
goes before st (Cases l one other) kept s facts goal v h =
    let n = and_parts (has_certs_of version.One one) (has_certs_of version.One other) v in
    let p = and_parts (is_certified before (as_step (Cases l one other) s facts goal)) (list_all (is_certified before) (placed_steps before one one s (with_fact facts l) goal ++ placed_steps before other other s (with_fact facts (negation l)) goal)) h in
    let q = and_parts (certified_from before one s (with_fact facts l) goal) (certified_from before other s (with_fact facts (negation l)) goal) (sym (list_all-append (is_certified before) (placed_steps before one one s (with_fact facts l) goal) (placed_steps before other other s (with_fact facts (negation l)) goal)) ∙ p.1) in
    cases_goes before kept s facts goal l one other p.0 (goes before st one kept s (with_fact facts l) goal n.0 q.0) (goes before st other kept s (with_fact facts (negation l)) goal n.1 q.1)

-- ---- at the start the declared objects are kept

-- a literal over the declared objects is over the kept ones
declared_over : (t : StatementView) (l : Lit) → all_in_scope (scope_of t) l ≡ true → OverLit (declared_of t) l
declared_over t l h o i = next_in nothing t.declared o (omega (arith, Rattle.e_literal.proofs.GrownScopes.counts_nothing o.sort)) (Rattle.std.proofs.lemmas.Bool.ltb-true o.num (count_of (scope_of t) o.sort) (all_in (is_in_scope (scope_of t)) (objects_of_atom l.atom) o h i))

given_in : (t : StatementView) (ls facts : List Lit) → list_all (λ (l : Lit). is_well_formed l && all_in_scope (scope_of t) l) ls ≡ true → ((m : Lit) → In m facts → all_in_scope (scope_of t) m ≡ true) → (m : Lit) → In m (with_facts facts ls) → all_in_scope (scope_of t) m ≡ true
given_in t [] facts h k m i = k m i
given_in t (l ∷ ls) facts h k m i =
    let p = and_parts (is_well_formed l && all_in_scope (scope_of t) l) (list_all (λ (x : Lit). is_well_formed x && all_in_scope (scope_of t) x) ls) h in
    let q = and_parts (is_well_formed l) (all_in_scope (scope_of t) l) p.0 in
    given_in t ls (with_fact facts l) p.1 (λ x j. elim (joined_either facts l x j) [
      | inl a ↦ k x a
      | inr a ↦ sym (ap (all_in_scope (scope_of t)) a.0) ∙ q.1
    ]) m i

kept_scope : (t : StatementView) → scope_kept (declared_of t) ≡ scope_of t
kept_scope t = scope_more [] nothing t.declared

pub trimmed_certified : TrimmedIsCertified
trimmed_certified before t d st own one c =
    let kept = declared_of t in
    let facts = facts_of_statement t in
    let goal = goal_of_statement t in
    let w = wants before d (scope_of t) facts goal in
    let parts = and_parts (list_all (λ (l : Lit). is_well_formed l && all_in_scope (scope_of t) l) t.given) (list_all (λ (l : Lit). is_well_formed l && all_in_scope (with_sorts (scope_of t) t.made) l) t.shown) own in
    let fine = given_in t t.given [] parts.0 (λ m i. absurd i) in
    let stays : Stays kept facts facts w.lits = record {
      there = λ m i h. (subst (λ x. In x facts) (sym (own_lit t m (fine m i))) i, declared_over t m (fine m i));
      only = λ m i. (m, own_lit t m (fine m i), in_has_own facts m i, declared_over t m (fine m i));
    } in
    let ready : Ready kept (scope_of t) facts facts goal goal w = record {
      stays = stays;
      needed = λ o i h. next_in nothing t.declared o (omega (arith, Rattle.e_literal.proofs.GrownScopes.counts_nothing o.sort)) (Rattle.std.proofs.lemmas.Bool.ltb-true o.num (count_of (scope_of t) o.sort) h);
      bound = λ k i. next_below nothing t.declared k i;
      goes = inr (record { statement = t; before = refl; after = refl; more = []; first = sym (append-nil kept); above = λ o i. absurd i; wide = λ x. omega arith; good = own });
    } in
    ap (λ s. certified_from before (trimmed_script before t d) s facts goal) (sym (kept_scope t)) ∙ goes before st d kept (scope_of t) facts goal one c facts goal ready
