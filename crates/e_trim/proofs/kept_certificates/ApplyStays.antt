-- The use of an earlier theorem after the kept steps alone.
use Rattle.std.proofs.Common.{◌≡◌, ℕ, zero, suc, List, [], ◌∷◌, ◌++◌, map, length, refl, sym, ap, ◌∙◌, subst, arith, Bool, true, false, ◌&&◌, cond, ltb, true≢false, inl, inr, Option, Some, None}
use Rattle.std.specs.List.{list_all, list_any}
use Rattle.std.proofs.lemmas.Bool.{and_parts, and_from, or_parts, ltb-true}
use Rattle.e_literal.specs.declared.object.Obj.{Obj}
use Rattle.e_literal.specs.declared.object.Scope.{Scope}
use Rattle.e_literal.specs.declared.literal.Lit.{Lit}
use Rattle.e_literal.specs.Literal.{count_of, is_in_scope, all_in_scope, objects_of_atom}
use Rattle.e_literal.specs.Scopes.{nothing, with_sorts, next_objects}
use Rattle.e_literal.specs.Rename.{same_obj}
use Rattle.e_literal.specs.Facts.{with_facts}
use Rattle.e_literal.specs.WellFormed.{is_well_formed}
use Rattle.e_literal.specs.Use.{StatementView, scope_of, is_statement, are_arguments, needs_of_use, gives_of_use}
use Rattle.e_literal.proofs.GrownScopes.{counts_nothing}
use Rattle.e_literal.proofs.Sorts.{same_obj_self}
use Rattle.e_theorem.specs.Choice.{fills, is_choice}
use Rattle.e_theorem.proofs.Uses.{needs_declared}
use Rattle.e_theorem.proofs.Imaging.{sources, targets, sorts_agree}
use Rattle.e_clause.specs.declared.cert.Cert.{Cert}
use Rattle.e_clause.specs.declared.cert.Version.TheVariants as version
use Rattle.e_clause.specs.Versions.{is_cert_of}
use Rattle.e_clause.specs.Certify.{certify_all}
use Rattle.e_deriv.specs.Script.{Script, Apply}
use Rattle.e_deriv.specs.Parts.{args_written, has_no_blank}
use Rattle.e_deriv.specs.Goal.{Goal}
use Rattle.e_deriv.specs.PlacedSteps.{placed_steps, theorem_at}
use Rattle.e_deriv.specs.Certified.{is_certified}
use Rattle.e_trim.specs.Looked.{Wants, no_wants, both, wanted_objects, of_step, of_certs}
use Rattle.e_trim.specs.Trimmed.{joins_at, supplies, is_needed, is_kept, as_step, wants, obj_at, lit_among_kept, cert_at, args_at, trimmed_from}
use Rattle.e_trim.proofs.renumbering.Members.{in_left, in_right, in_either}
use Rattle.e_trim.proofs.renumbering.Counting.{scope_kept, scope_more}
use Rattle.e_trim.proofs.renumbering.LitsAt.{AllKept, OverLits}
use Rattle.e_trim.proofs.renumbering.Pairs.{sorts}
use Rattle.e_trim.proofs.renumbering.FormsOfSteps.{is_var, speaks_of, next_member, at_vars, vars_over, arguments_at, use_at, use_pairs, speak_all, sorts_are}
use Rattle.e_trim.proofs.kept_certificates.SumsStay.{cover_left, cover_right}
use Rattle.e_trim.proofs.kept_certificates.CertsStay.{certs_stay}
use Rattle.e_trim.proofs.kept_certificates.CertScopes.{both_in, certs_scope}
use Rattle.e_trim.proofs.kept_certificates.LinesStay.{Ready, made_ready, unmade_ready}
use Rattle.e_trim.proofs.kept_certificates.QedStays.{objects_in}
use Rattle.e_trim.proofs.kept_scripts.TrimmedScripts.{certified_from, Goes, first, second, covered}

-- ---- arguments

written_at : (kept : List Obj) (args : List (Option Obj)) → args_written (args_at kept args) ≡ map (obj_at kept) (args_written args)
written_at kept [] = refl
written_at kept (None ∷ args) = written_at kept args
written_at kept (Some o ∷ args) = ap (λ xs. obj_at kept o ∷ xs) (written_at kept args)

blanks_at : (kept : List Obj) (args : List (Option Obj)) → has_no_blank (args_at kept args) ≡ has_no_blank args
blanks_at kept [] = refl
blanks_at kept (None ∷ args) = refl
blanks_at kept (Some o ∷ args) = blanks_at kept args

-- what is written fills itself
fills_own : (args : List (Option Obj)) → has_no_blank args ≡ true → fills args (args_written args) ≡ true
fills_own [] h = refl
fills_own (None ∷ args) h = absurd (true≢false (sym h))
fills_own (Some o ∷ args) h = and_from (same_obj o o) (fills args (args_written args)) (same_obj_self o) (fills_own args h)

-- ---- a theorem before is a statement

theorem_states : (before : List StatementView) (k : ℕ) → list_all is_statement before ≡ true → is_statement (theorem_at before k) ≡ true
theorem_states [] k h = refl
theorem_states (t ∷ before) zero h = (and_parts (is_statement t) (list_all is_statement before) h).0
theorem_states (t ∷ before) (suc n) h = theorem_states before n (and_parts (is_statement t) (list_all is_statement before) h).1

good_scope : (s : Scope) (ls : List Lit) → list_all (λ (l : Lit). is_well_formed l && all_in_scope s l) ls ≡ true → list_all (all_in_scope s) ls ≡ true
good_scope s [] h = refl
good_scope s (l ∷ ls) h =
    let p = and_parts (is_well_formed l && all_in_scope s l) (list_all (λ (x : Lit). is_well_formed x && all_in_scope s x) ls) h in
    let q = and_parts (is_well_formed l) (all_in_scope s l) p.0 in
    and_from (all_in_scope s l) (list_all (all_in_scope s) ls) q.1 (good_scope s ls p.1)

-- what is given speaks of the declared objects
declared_vars : (t : StatementView) (os : List Obj) → list_all (is_in_scope (scope_of t)) os ≡ true → list_all (is_var (next_objects nothing t.declared)) os ≡ true
declared_vars t [] h = refl
declared_vars t (o ∷ os) h =
    let p = and_parts (is_in_scope (scope_of t) o) (list_all (is_in_scope (scope_of t)) os) h in
    and_from (is_var (next_objects nothing t.declared) o) (list_all (is_var (next_objects nothing t.declared)) os)
    (next_member nothing t.declared o (omega (arith, counts_nothing o.sort)) (ltb-true o.num (count_of (scope_of t) o.sort) p.0)) (declared_vars t os p.1)

given_speaks : (t : StatementView) (ls : List Lit) → list_all (all_in_scope (scope_of t)) ls ≡ true → list_all (speaks_of (next_objects nothing t.declared)) ls ≡ true
given_speaks t [] h = refl
given_speaks t (l ∷ ls) h =
    let p = and_parts (all_in_scope (scope_of t) l) (list_all (all_in_scope (scope_of t)) ls) h in
    and_from (speaks_of (next_objects nothing t.declared) l) (list_all (speaks_of (next_objects nothing t.declared)) ls) (declared_vars t (objects_of_atom l.atom) p.0) (given_speaks t ls p.1)

-- ---- apply

pub apply_goes : (before : List StatementView) → list_all is_statement before ≡ true → (kept : List Obj) (s : Scope) (facts : List Lit) (goal : Goal) (theorem : ℕ) (args : List (Option Obj)) (names : List (List ℕ)) (certs : List Cert) (rest : Script)
    → list_all (is_cert_of version.One) certs ≡ true → is_certified before (as_step (Apply theorem args names certs rest) s facts goal) ≡ true
    → ((more : List Obj) → Goes before more (with_sorts s (theorem_at before theorem).made) (with_facts facts (joins_at before (Apply theorem args names certs rest) s)) goal
    (wants before rest (with_sorts s (theorem_at before theorem).made) (with_facts facts (joins_at before (Apply theorem args names certs rest) s)) goal)
    (trimmed_from before more rest (with_sorts s (theorem_at before theorem).made) (with_facts facts (joins_at before (Apply theorem args names certs rest) s)) goal))
    → Goes before kept s facts goal (wants before (Apply theorem args names certs rest) s facts goal) (trimmed_from before kept (Apply theorem args names certs rest) s facts goal)
unfolding wants trimmed_from placed_steps
apply_goes before st kept s facts goal theorem args names certs rest v h more now goal' r = by (is_kept before here s facts w) refl r
  where
    here : Script
    here = Apply theorem args names certs rest

    th : StatementView
    th = theorem_at before theorem

    os : List Obj
    os = args_written args

    given : List Lit
    given = gives_of_use th os s

    needs : List Lit
    needs = needs_of_use th os s

    wide : List Obj
    wide = kept ++ next_objects s th.made

    after : List Lit
    after = with_facts facts given

    w : Wants
    w = wants before rest (with_sorts s th.made) after goal

    own : Wants
    own = of_step before (as_step here s facts goal)

    t : Script
    t = trimmed_from before wide rest (with_sorts s th.made) after goal

    states : is_statement th ≡ true
    states = theorem_states before theorem st

    halves : (list_all (λ (l : Lit). is_well_formed l && all_in_scope (scope_of th) l) th.given ≡ true) × (list_all (λ (l : Lit). is_well_formed l && all_in_scope (with_sorts (scope_of th) th.made) l) th.shown ≡ true)
    halves = and_parts (list_all (λ (l : Lit). is_well_formed l && all_in_scope (scope_of th) l) th.given) (list_all (λ (l : Lit). is_well_formed l && all_in_scope (with_sorts (scope_of th) th.made) l) th.shown) states

    by : (b : Bool) → is_kept before here s facts w ≡ b → Ready kept s facts now goal goal' (cond b (both w (both own no_wants)) w)
        → certified_from before (cond b (Apply theorem (args_at kept args) names (map (cert_at kept) certs) t) (trimmed_from before kept rest (with_sorts s th.made) after goal)) (scope_kept kept) now goal' ≡ true
    by true e k =
        let line_ready = first kept s facts now goal goal' own no_wants (second kept s facts now goal goal' w (both own no_wants) k) in
        let looked = of_certs facts needs certs in
        let p = and_parts (ltb theorem (length before) && is_choice th s args os) (certify_all s facts needs certs && has_no_blank args) h in
        let f = and_parts (ltb theorem (length before)) (is_choice th s args os) p.0 in
        let fit = (and_parts (fills args os) (are_arguments th s os) f.1).1 in
        let q = and_parts (certify_all s facts needs certs) (has_no_blank args) p.1 in
        let scopes = both_in s os (looked.objects ++ []) (objects_in s th.declared os fit) (both_in s looked.objects [] (certs_scope s facts facts needs certs q.0) (λ o i. absurd i)) in
        let c = covered kept s facts now goal goal' own line_ready scopes in
        let objects = (cover_left kept own.lits (wanted_objects os) (both looked no_wants) c).objects in
        let own_certs = cover_left kept own.lits looked no_wants (cover_right kept own.lits (wanted_objects os) (both looked no_wants) c) in
        let vars = next_objects nothing th.declared in
        let z : sorts vars ≡ sorts os = Rattle.e_literal.proofs.GrownScopes.sorts_next nothing th.declared ∙ sorts_are s th.declared os fit in
        let speaks = given_speaks th th.given (good_scope (scope_of th) th.given halves.0) in
        let os' = map (obj_at kept) os in
        let fit' = arguments_at kept th s os fit objects in
        let needs_is = needs_declared th os s states fit in
        let needs_move : needs_of_use th os' (scope_kept kept) ≡ map (lit_among_kept kept) needs
        = needs_declared th os' (scope_kept kept) states fit' ∙ at_vars kept vars os th.given z speaks ∙ ap (map (lit_among_kept kept)) (sym needs_is) in
        let over : OverLits kept needs = subst (OverLits kept) (sym needs_is) (vars_over kept vars os th.given z speaks objects) in
        let done = certs_stay kept s facts now own.lits needs certs v line_ready.stays over own_certs q.0 in
        let shown_scope = good_scope (with_sorts (scope_of th) th.made) th.shown halves.1 in
        let gives_move : gives_of_use th os' (scope_kept kept) ≡ map (lit_among_kept wide) given = use_at kept th s os th.shown line_ready.bound objects fit shown_scope in
        let targets_kept : AllKept wide (targets th os s)
        = λ o i. elim (in_either o os (next_objects s th.made) i) [ inl j ↦ in_left o kept (next_objects s th.made) (objects o j) | inr j ↦ in_right o kept (next_objects s th.made) j ] in
        let given_over : OverLits wide given
        = subst (OverLits wide) (sym (use_pairs th os s th.shown fit)) (vars_over wide (sources th) (targets th os s) th.shown (sorts_agree th os s fit) (speak_all th th.shown shown_scope) targets_kept) in
        let next = more wide (with_facts now (map (lit_among_kept wide) given)) goal' (made_ready kept s th.made facts now given goal goal' w given_over (first kept s facts now goal goal' w (both own no_wants) k)) in
        let args' = written_at kept args in
        let filled : is_choice th (scope_kept kept) (args_at kept args) (args_written (args_at kept args)) ≡ true
        = and_from (fills (args_at kept args) (args_written (args_at kept args))) (are_arguments th (scope_kept kept) (args_written (args_at kept args))) (fills_own (args_at kept args) (blanks_at kept args ∙ q.1)) (ap (are_arguments th (scope_kept kept)) args' ∙ fit') in
        and_from (is_certified before (as_step (Apply theorem (args_at kept args) names (map (cert_at kept) certs) t) (scope_kept kept) now goal')) _
        (and_from (ltb theorem (length before) && is_choice th (scope_kept kept) (args_at kept args) (args_written (args_at kept args))) _ (and_from (ltb theorem (length before)) _ f.0 filled)
        (and_from _ (has_no_blank (args_at kept args)) (ap (λ xs. certify_all (scope_kept kept) now (needs_of_use th xs (scope_kept kept)) (map (cert_at kept) certs)) args' ∙ ap (λ ls. certify_all (scope_kept kept) now ls (map (cert_at kept) certs)) needs_move ∙ done) (blanks_at kept args ∙ q.1)))
        (ap (λ sc. certified_from before t sc (with_facts now (gives_of_use th (args_written (args_at kept args)) (scope_kept kept))) goal') (sym (scope_more kept s th.made))
        ∙ ap (λ xs. certified_from before t (scope_kept wide) (with_facts now (gives_of_use th xs (scope_kept kept))) goal') args'
        ∙ ap (λ ls. certified_from before t (scope_kept wide) (with_facts now ls) goal') gives_move ∙ next)
    by false e k =
        let p = or_parts (list_any (supplies facts w) given) (list_any (is_needed w) (next_objects s th.made)) e in
        more kept now goal' (unmade_ready kept s th.made facts now given goal goal' w p.0 p.1 k)
