-- A kept step, and what is left after it, are certified; and what is left after a dropped one.
use Rattle.std.proofs.Common.{◌≡◌, ℕ, List, [], ◌∷◌, ◌++◌, map, length, refl, sym, ap, ◌∙◌, subst, arith, Bool, true, false, ◌&&◌, cond, true≢false, inl, inr, Option, Some, None}
use Rattle.std.specs.Prelude.{IsTrue}
use Rattle.std.specs.Option.{option_map, option_map_or}
use Rattle.std.specs.List.{list_all, list_any}
use Rattle.std.proofs.lemmas.Bool.{and_parts, and_from, or_parts, eqb-true}
use Rattle.std.proofs.lemmas.List.Folds.{list_all-append}
use Rattle.e_literal.specs.declared.object.Obj.{Obj}
use Rattle.e_literal.specs.declared.object.Scope.{Scope}
use Rattle.e_literal.specs.declared.object.Sort.{Sort}
use Rattle.e_literal.specs.declared.literal.Lit.{Lit}
use Rattle.e_literal.specs.Literal.{negation, is_in_scope, all_in_scope, objects_of_atom}
use Rattle.e_literal.specs.Scopes.{same_sort, with_sorts, next_objects, are_of_sorts}
use Rattle.e_literal.specs.Facts.{has, with_fact, with_facts}
use Rattle.e_literal.specs.Use.{StatementView}
use Rattle.e_clause.specs.declared.cert.By.{By}
use Rattle.e_clause.specs.declared.cert.Cert.{Cert}
use Rattle.e_clause.specs.declared.cert.Version.TheVariants as version
use Rattle.e_clause.specs.Versions.{is_cert_of, is_against_of}
use Rattle.e_clause.specs.Citing.{is_citation, is_cited}
use Rattle.e_clause.specs.declared.cert.Against.{Against}
use Rattle.e_clause.specs.Certify.{certify_all, certifies_against, against_in, against_holds}
use Rattle.e_deriv.specs.Script.{Script, Cite, Hence, Make, Claim, Superposed, Contradiction, Cases}
use Rattle.e_deriv.specs.Goal.{Goal, goal_of}
use Rattle.e_deriv.specs.PlacedSteps.{placed_steps}
use Rattle.e_deriv.specs.Steps.{are_over}
use Rattle.e_deriv.specs.Certified.{is_certified}
use Rattle.e_trim.specs.Looked.{Wants, no_wants, both, wanted_objects, of_step, of_certs, of_beside, objects_of_lits}
use Rattle.e_trim.specs.Trimmed.{supplies, is_needed, is_kept, wants_outside, as_step, wants, lit_among_kept, cert_at, by_at, against_at, construction_among_kept, superpose_at, trimmed_from}
use Rattle.e_trim.proofs.renumbering.Members.{in_left, in_right, in_filter, in_flat}
use Rattle.e_trim.proofs.renumbering.Counting.{scope_kept, scope_more}
use Rattle.e_trim.proofs.renumbering.LitsAt.{AllKept, OverLit, OverLits, scope_over, lits_scope, has_in, in_has, in_has_own}
use Rattle.e_trim.proofs.kept_certificates.Staying.{fewer, joins_all, dropped_all, inside_stays}
use Rattle.e_trim.proofs.kept_certificates.TermsStay.{Covered}
use Rattle.e_trim.proofs.kept_certificates.SumsStay.{cover_left, cover_right}
use Rattle.e_trim.proofs.kept_certificates.CertsStay.{certs_stay, against_stays}
use Rattle.e_trim.proofs.kept_certificates.CertScopes.{AllIn, both_in, listed_in, certs_scope, against_scope}
use Rattle.e_trim.proofs.kept_certificates.LinesStay.{Ready, GoalGoes, citation_fits, cited_still, made_ready, unmade_ready}
use Rattle.e_trim.proofs.renumbering.FormsOfSteps.{fits_at, needs_at, gives_at, needs_over, gives_over, superposition_fits, superposition_needs, superposition_gives, superposition_needs_over, superposition_gives_over}
use Rattle.e_construct.specs.declared.superpose.Superpose.{Superpose}
use Rattle.e_construct.specs.Superposing as superposing
use Rattle.e_construct.specs.declared.construction.Construction.{Construction}
use Rattle.e_construct.specs.Shapes.{Avoids, NoObject, AnyObject, AnyApartFrom}
use Rattle.e_construct.specs.Construct.{row_of_construction, sorts_of, avoids_well, fits_construction, needs_of_construction, sorts_made, gives_of_construction}

-- ---- certified from a script on

abbrev pub certified_from : List StatementView → Script → Scope → List Lit → Goal → Bool
certified_from before d s facts goal = list_all (is_certified before) (placed_steps before d d s facts goal)

-- from here on what is left is certified
abbrev pub Goes : List StatementView → List Obj → Scope → List Lit → Goal → Wants → Script → Type 0
Goes before kept s facts goal w t = (now : List Lit) (goal' : Goal) → Ready kept s facts now goal goal' w → certified_from before t (scope_kept kept) now goal' ≡ true

-- ---- parts of what is wanted

in_front : (looked more : List Lit) (m : Lit) → has looked m ≡ true → has (looked ++ more) m ≡ true
in_front looked more m h = let r = has_in looked m h in in_has (looked ++ more) r.0 m (in_left r.0 looked more r.1) r.2

at_end : (looked more : List Lit) (m : Lit) → has more m ≡ true → has (looked ++ more) m ≡ true
at_end looked more m h = let r = has_in more m h in in_has (looked ++ more) r.0 m (in_right r.0 looked more r.1) r.2

pub first : (kept : List Obj) (s : Scope) (facts now : List Lit) (goal goal' : Goal) (v w : Wants) → Ready kept s facts now goal goal' (both v w) → Ready kept s facts now goal goal' v
first kept s facts now goal goal' v w r = record {
  stays = fewer kept facts now (v.lits ++ w.lits) v.lits (in_front v.lits w.lits) r.stays;
  needed = λ o i h. r.needed o (in_left o v.objects w.objects i) h;
  bound = r.bound;
  goes = r.goes;
}

pub second : (kept : List Obj) (s : Scope) (facts now : List Lit) (goal goal' : Goal) (v w : Wants) → Ready kept s facts now goal goal' (both v w) → Ready kept s facts now goal goal' w
second kept s facts now goal goal' v w r = record {
  stays = fewer kept facts now (v.lits ++ w.lits) w.lits (at_end v.lits w.lits) r.stays;
  needed = λ o i h. r.needed o (in_right o v.objects w.objects i) h;
  bound = r.bound;
  goes = r.goes;
}

-- what an inner block wants of what was before it is wanted outside of it
pub inside : (kept : List Obj) (s : Scope) (facts now : List Lit) (goal goal' : Goal) (w : Wants) → Ready kept s facts now goal goal' (wants_outside s facts w) → Ready kept s facts now goal goal' w
inside kept s facts now goal goal' w r = record {
  stays = inside_stays kept s facts now w r.stays;
  needed = λ o i h. r.needed o (in_filter (is_in_scope s) o w.objects h i) h;
  bound = r.bound;
  goes = r.goes;
}

pub with_goal : (kept : List Obj) (s : Scope) (facts now : List Lit) (goal goal' other other' : Goal) (w : Wants) → GoalGoes kept s other other' → Ready kept s facts now goal goal' w → Ready kept s facts now other other' w
with_goal kept s facts now goal goal' other other' w g r = record { stays = r.stays; needed = r.needed; bound = r.bound; goes = g }

-- what a line wants is there, where its objects are in scope
pub covered : (kept : List Obj) (s : Scope) (facts now : List Lit) (goal goal' : Goal) (w : Wants) → Ready kept s facts now goal goal' w → AllIn s w.objects → Covered kept w.lits w
covered kept s facts now goal goal' w r h = record { lits = λ l i. in_has_own w.lits l i; objects = λ o i. r.needed o i (h o i) }

-- the literals of a kept step without new objects join on both sides
pub joined_ready : (kept : List Obj) (s : Scope) (facts now ls : List Lit) (goal goal' : Goal) (w : Wants) → OverLits kept ls → Ready kept s facts now goal goal' w
    → Ready kept s (with_facts facts ls) (with_facts now (map (lit_among_kept kept) ls)) goal goal' w
joined_ready kept s facts now ls goal goal' w o r = record { stays = joins_all kept facts now w.lits ls o r.stays; needed = r.needed; bound = r.bound; goes = r.goes }

-- those of a dropped step without new objects join on one
pub dropped_ready : (kept : List Obj) (s : Scope) (facts now ls : List Lit) (goal goal' : Goal) (w : Wants) → list_any (supplies facts w) ls ≡ false → Ready kept s facts now goal goal' w
    → Ready kept s (with_facts facts ls) now goal goal' w
dropped_ready kept s facts now ls goal goal' w e r = record { stays = dropped_all kept facts now w ls e r.stays; needed = r.needed; bound = r.bound; goes = r.goes }

-- a literal that the line names is over the kept objects
over_named : (kept : List Obj) (looked : List Lit) (l : Lit) (more : Wants) → Covered kept looked (both (wanted_objects (objects_of_atom l.atom)) more) → OverLit kept l
over_named kept looked l more c = (cover_left kept looked (wanted_objects (objects_of_atom l.atom)) more c).objects

pub over_all_named : (kept : List Obj) (looked ls : List Lit) (more : Wants) → Covered kept looked (both (wanted_objects (objects_of_lits ls)) more) → OverLits kept ls
over_all_named kept looked ls more c l i o j = (cover_left kept looked (wanted_objects (objects_of_lits ls)) more c).objects o (in_flat (λ (x : Lit). objects_of_atom x.atom) l o ls i j)

-- ---- hence

hence_line : (before : List StatementView) (kept : List Obj) (s : Scope) (facts now : List Lit) (goal goal' : Goal) (l : Lit) (cert : Option Cert) (rest t : Script)
    → option_map_or (is_cert_of version.One) cert true ≡ true → is_certified before (as_step (Hence l cert rest) s facts goal) ≡ true → Ready kept s facts now goal goal' (of_step before (as_step (Hence l cert rest) s facts goal))
    → (is_certified before (as_step (Hence (lit_among_kept kept l) (option_map (cert_at kept) cert) t) (scope_kept kept) now goal') ≡ true) × OverLit kept l
hence_line before kept s facts now goal goal' l None rest t v h r =
    let p = and_parts (all_in_scope s l) (certify_all s facts (l ∷ []) [] && true) h in
    let q = and_parts (certify_all s facts (l ∷ []) []) true p.1 in
    absurd (true≢false (sym q.0))
hence_line before kept s facts now goal goal' l (Some x) rest t v h r =
    let w = of_step before (as_step (Hence l (Some x) rest) s facts goal) in
    let certs = of_certs facts (l ∷ []) (x ∷ []) in
    let p = and_parts (all_in_scope s l) (certify_all s facts (l ∷ []) (x ∷ []) && true) h in
    let q = and_parts (certify_all s facts (l ∷ []) (x ∷ [])) true p.1 in
    let inside_scope : AllIn s w.objects
    = both_in s (objects_of_atom l.atom) (certs.objects ++ []) (listed_in s (objects_of_atom l.atom) p.0) (both_in s certs.objects [] (certs_scope s facts facts (l ∷ []) (x ∷ []) q.0) (λ o i. absurd i)) in
    let c = covered kept s facts now goal goal' w r inside_scope in
    let o = over_named kept w.lits l (both certs no_wants) c in
    let own = cover_left kept w.lits certs no_wants (cover_right kept w.lits (wanted_objects (objects_of_atom l.atom)) (both certs no_wants) c) in
    let over : OverLits kept (l ∷ []) = λ m i. elim i [ inl e ↦ subst (OverLit kept) e o | inr f ↦ absurd f ] in
    let done = certs_stay kept s facts now w.lits (l ∷ []) (x ∷ []) (and_from (is_cert_of version.One x) true v refl) r.stays over own q.0 in (
      and_from (all_in_scope (scope_kept kept) (lit_among_kept kept l)) (certify_all (scope_kept kept) now (lit_among_kept kept l ∷ []) (cert_at kept x ∷ []) && true) (scope_over kept l o)
          (and_from (certify_all (scope_kept kept) now (lit_among_kept kept l ∷ []) (cert_at kept x ∷ [])) true done refl),
      o,
    )

pub hence_goes : (before : List StatementView) (kept : List Obj) (s : Scope) (facts : List Lit) (goal : Goal) (l : Lit) (cert : Option Cert) (rest : Script)
    → option_map_or (is_cert_of version.One) cert true ≡ true → is_certified before (as_step (Hence l cert rest) s facts goal) ≡ true
    → Goes before kept s (with_fact facts l) goal (wants before rest s (with_fact facts l) goal) (trimmed_from before kept rest s (with_fact facts l) goal)
    → Goes before kept s facts goal (wants before (Hence l cert rest) s facts goal) (trimmed_from before kept (Hence l cert rest) s facts goal)
unfolding wants trimmed_from placed_steps
hence_goes before kept s facts goal l cert rest v h more now goal' r = by (is_kept before (Hence l cert rest) s facts w) refl r
  where
    w : Wants
    w = wants before rest s (with_fact facts l) goal

    t : Script
    t = trimmed_from before kept rest s (with_fact facts l) goal

    own : Wants
    own = of_step before (as_step (Hence l cert rest) s facts goal)

    by : (b : Bool) → is_kept before (Hence l cert rest) s facts w ≡ b → Ready kept s facts now goal goal' (cond b (both w (both own no_wants)) w)
        → certified_from before (cond b (Hence (lit_among_kept kept l) (option_map (cert_at kept) cert) t) t) (scope_kept kept) now goal' ≡ true
    by true e k =
        let x = hence_line before kept s facts now goal goal' l cert rest t v h (first kept s facts now goal goal' own no_wants (second kept s facts now goal goal' w (both own no_wants) k)) in
        let over : OverLits kept (l ∷ []) = λ m i. elim i [ inl f ↦ subst (OverLit kept) f x.1 | inr f ↦ absurd f ] in
        and_from (is_certified before (as_step (Hence (lit_among_kept kept l) (option_map (cert_at kept) cert) t) (scope_kept kept) now goal')) (certified_from before t (scope_kept kept) (with_fact now (lit_among_kept kept l)) goal') x.0
        (more (with_fact now (lit_among_kept kept l)) goal' (joined_ready kept s facts now (l ∷ []) goal goal' w over (first kept s facts now goal goal' w (both own no_wants) k)))
    by false e k =
        let p = or_parts (list_any (supplies facts w) (l ∷ [])) false e in
        more now goal' (dropped_ready kept s facts now (l ∷ []) goal goal' w p.0 k)

-- ---- cite

citation_scope : (s : Scope) (x : By) → is_citation s x ≡ true → AllIn s (x.args ++ objects_of_atom x.lit.atom)
citation_scope s x h =
    let p = and_parts (Rattle.e_clause.specs.RuleKinds.is_diagram_rule x.rule) (list_all (is_in_scope s) x.args && (all_in_scope s x.lit && Rattle.std.specs.Prelude.is_some (Rattle.e_clause.specs.Instance.Inst x.rule x.args))) h in
    let q = and_parts (list_all (is_in_scope s) x.args) (all_in_scope s x.lit && Rattle.std.specs.Prelude.is_some (Rattle.e_clause.specs.Instance.Inst x.rule x.args)) p.1 in
    let r = and_parts (all_in_scope s x.lit) (Rattle.std.specs.Prelude.is_some (Rattle.e_clause.specs.Instance.Inst x.rule x.args)) q.1 in
    both_in s x.args (objects_of_atom x.lit.atom) (listed_in s x.args q.0) (listed_in s (objects_of_atom x.lit.atom) r.0)

pub cite_goes : (before : List StatementView) (kept : List Obj) (s : Scope) (facts : List Lit) (goal : Goal) (x : By) (rest : Script)
    → is_certified before (as_step (Cite x rest) s facts goal) ≡ true
    → Goes before kept s (with_fact facts x.lit) goal (wants before rest s (with_fact facts x.lit) goal) (trimmed_from before kept rest s (with_fact facts x.lit) goal)
    → Goes before kept s facts goal (wants before (Cite x rest) s facts goal) (trimmed_from before kept (Cite x rest) s facts goal)
unfolding wants trimmed_from placed_steps
cite_goes before kept s facts goal x rest h more now goal' r = by (is_kept before (Cite x rest) s facts w) refl r
  where
    w : Wants
    w = wants before rest s (with_fact facts x.lit) goal

    t : Script
    t = trimmed_from before kept rest s (with_fact facts x.lit) goal

    own : Wants
    own = of_step before (as_step (Cite x rest) s facts goal)

    named : List Obj
    named = x.args ++ objects_of_atom x.lit.atom

    by : (b : Bool) → is_kept before (Cite x rest) s facts w ≡ b → Ready kept s facts now goal goal' (cond b (both w (both own no_wants)) w)
        → certified_from before (cond b (Cite (by_at kept x) t) t) (scope_kept kept) now goal' ≡ true
    by true e k =
        let rw' = first kept s facts now goal goal' own no_wants (second kept s facts now goal goal' w (both own no_wants) k) in
        let p = and_parts (is_citation s x) (true && is_cited facts x) h in
        let in_scope = citation_scope s x p.0 in
        let c = covered kept s facts now goal goal' own rw' (both_in s named [] in_scope (λ o i. absurd i)) in
        let objects = (cover_left kept own.lits (wanted_objects named) (both no_wants (of_beside (Cite x rest) facts)) c).objects in
        let args : AllKept kept x.args = λ o i. objects o (in_left o x.args (objects_of_atom x.lit.atom) i) in
        let lit : OverLit kept x.lit = λ o i. objects o (in_right o x.args (objects_of_atom x.lit.atom) i) in
        let beside = cover_right kept own.lits no_wants (of_beside (Cite x rest) facts) (cover_right kept own.lits (wanted_objects named) (both no_wants (of_beside (Cite x rest) facts)) c) in
        let cited = cited_still kept facts now own.lits x rw'.stays args lit beside (and_parts true (is_cited facts x) p.1).1 in
        let over : OverLits kept (x.lit ∷ []) = λ m i. elim i [ inl f ↦ subst (OverLit kept) f lit | inr f ↦ absurd f ] in
        and_from (is_certified before (as_step (Cite (by_at kept x) t) (scope_kept kept) now goal')) (certified_from before t (scope_kept kept) (with_fact now (lit_among_kept kept x.lit)) goal')
        (and_from (is_citation (scope_kept kept) (by_at kept x)) (true && is_cited now (by_at kept x)) (citation_fits kept s x p.0 args lit) (and_from true (is_cited now (by_at kept x)) refl cited))
        (more (with_fact now (lit_among_kept kept x.lit)) goal' (joined_ready kept s facts now (x.lit ∷ []) goal goal' w over (first kept s facts now goal goal' w (both own no_wants) k)))
    by false e k =
        let p = or_parts (list_any (supplies facts w) (x.lit ∷ [])) false e in
        more now goal' (dropped_ready kept s facts now (x.lit ∷ []) goal goal' w p.0 k)

-- ---- claim

-- literals in scope have their objects there
lits_in : (s : Scope) (ls : List Lit) → are_over s ls ≡ true → AllIn s (objects_of_lits ls)
lits_in s [] h = λ o i. absurd i
lits_in s (l ∷ ls) h =
    let p = and_parts (all_in_scope s l) (are_over s ls) h in
    both_in s (objects_of_atom l.atom) (objects_of_lits ls) (listed_in s (objects_of_atom l.atom) p.0) (lits_in s ls p.1)

pub claim_goes : (before : List StatementView) (kept : List Obj) (s : Scope) (facts : List Lit) (goal : Goal) (shown : List Lit) (inner rest : Script)
    → is_certified before (as_step (Claim shown inner rest) s facts goal) ≡ true
    → Goes before kept s facts (goal_of shown) (wants before inner s facts (goal_of shown)) (trimmed_from before kept inner s facts (goal_of shown))
    → Goes before kept s (with_facts facts shown) goal (wants before rest s (with_facts facts shown) goal) (trimmed_from before kept rest s (with_facts facts shown) goal)
    → Goes before kept s facts goal (wants before (Claim shown inner rest) s facts goal) (trimmed_from before kept (Claim shown inner rest) s facts goal)
unfolding wants trimmed_from placed_steps
claim_goes before kept s facts goal shown inner rest h block more now goal' r = by (is_kept before (Claim shown inner rest) s facts w) refl r
  where
    w : Wants
    w = wants before rest s (with_facts facts shown) goal

    v : Wants
    v = wants before inner s facts (goal_of shown)

    t : Script
    t = trimmed_from before kept rest s (with_facts facts shown) goal

    i : Script
    i = trimmed_from before kept inner s facts (goal_of shown)

    own : Wants
    own = of_step before (as_step (Claim shown inner rest) s facts goal)

    shown' : List Lit
    shown' = map (lit_among_kept kept) shown

    by : (b : Bool) → is_kept before (Claim shown inner rest) s facts w ≡ b → Ready kept s facts now goal goal' (cond b (both w (both own (wants_outside s facts v))) w)
        → certified_from before (cond b (Claim shown' i t) t) (scope_kept kept) now goal' ≡ true
    by true e k =
        let line_and_block = second kept s facts now goal goal' w (both own (wants_outside s facts v)) k in
        let own_ready = first kept s facts now goal goal' own (wants_outside s facts v) line_and_block in
        let p = and_parts (are_over s shown) (true && true) h in
        let c = covered kept s facts now goal goal' own own_ready (both_in s (objects_of_lits shown) [] (lits_in s shown p.0) (λ o j. absurd j)) in
        let over = over_all_named kept own.lits shown (both no_wants no_wants) c in
        let inner_ready = inside kept s facts now goal goal' v (second kept s facts now goal goal' own (wants_outside s facts v) line_and_block) in
        let goes : GoalGoes kept s (goal_of shown) (goal_of shown') = inl (record { shown = shown; before = refl; after = refl; over = over }) in
        let done = block now (goal_of shown') (with_goal kept s facts now goal goal' (goal_of shown) (goal_of shown') v goes inner_ready) in
        let next = more (with_facts now shown') goal' (joined_ready kept s facts now shown goal goal' w over (first kept s facts now goal goal' w (both own (wants_outside s facts v)) k)) in
        and_from (is_certified before (as_step (Claim shown' i t) (scope_kept kept) now goal')) _
        (and_from (are_over (scope_kept kept) shown') (true && true) (lits_scope kept shown over) refl)
        (list_all-append (is_certified before) (placed_steps before i i (scope_kept kept) now (goal_of shown')) (placed_steps before t t (scope_kept kept) (with_facts now shown') goal') ∙ and_from _ _ done next)
    by false e k =
        let p = or_parts (list_any (supplies facts w) shown) false e in
        more now goal' (dropped_ready kept s facts now shown goal goal' w p.0 k)

-- ---- cases

pub cases_goes : (before : List StatementView) (kept : List Obj) (s : Scope) (facts : List Lit) (goal : Goal) (l : Lit) (one other : Script)
    → is_certified before (as_step (Cases l one other) s facts goal) ≡ true
    → Goes before kept s (with_fact facts l) goal (wants before one s (with_fact facts l) goal) (trimmed_from before kept one s (with_fact facts l) goal)
    → Goes before kept s (with_fact facts (negation l)) goal (wants before other s (with_fact facts (negation l)) goal) (trimmed_from before kept other s (with_fact facts (negation l)) goal)
    → Goes before kept s facts goal (wants before (Cases l one other) s facts goal) (trimmed_from before kept (Cases l one other) s facts goal)
unfolding wants trimmed_from placed_steps
cases_goes before kept s facts goal l one other h first_goes second_goes now goal' r =
    let own = of_step before (as_step (Cases l one other) s facts goal) in
    let v = wants before one s (with_fact facts l) goal in
    let w = wants before other s (with_fact facts (negation l)) goal in
    let blocks = both (wants_outside s facts w) (wants_outside s facts v) in
    let p = and_parts (all_in_scope s l) (true && true) h in
    let own_ready = first kept s facts now goal goal' own blocks r in
    let c = covered kept s facts now goal goal' own own_ready (both_in s (objects_of_atom l.atom) [] (listed_in s (objects_of_atom l.atom) p.0) (λ o j. absurd j)) in
    let o = over_named kept own.lits l (both no_wants no_wants) c in
    let over : OverLits kept (l ∷ []) = λ m i. elim i [ inl f ↦ subst (OverLit kept) f o | inr f ↦ absurd f ] in
    let over_not : OverLits kept (negation l ∷ []) = λ m i. elim i [ inl f ↦ subst (OverLit kept) f o | inr f ↦ absurd f ] in
    let inner = second kept s facts now goal goal' own blocks r in
    let b = inside kept s facts now goal goal' w (first kept s facts now goal goal' (wants_outside s facts w) (wants_outside s facts v) inner) in
    let a = inside kept s facts now goal goal' v (second kept s facts now goal goal' (wants_outside s facts w) (wants_outside s facts v) inner) in
    let x = first_goes (with_fact now (lit_among_kept kept l)) goal' (joined_ready kept s facts now (l ∷ []) goal goal' v over a) in
    let y = second_goes (with_fact now (lit_among_kept kept (negation l))) goal' (joined_ready kept s facts now (negation l ∷ []) goal goal' w over_not b) in
    let v' = trimmed_from before kept one s (with_fact facts l) goal in
    let w' = trimmed_from before kept other s (with_fact facts (negation l)) goal in
    let one_lines = placed_steps before v' v' (scope_kept kept) (with_fact now (lit_among_kept kept l)) goal' in
    let other_lines = placed_steps before w' w' (scope_kept kept) (with_fact now (negation (lit_among_kept kept l))) goal' in
    and_from (is_certified before (as_step (Cases (lit_among_kept kept l) v' w') (scope_kept kept) now goal')) (list_all (is_certified before) (one_lines ++ other_lines))
    (and_from (all_in_scope (scope_kept kept) (lit_among_kept kept l)) (true && true) (scope_over kept l o) refl)
    (list_all-append (is_certified before) one_lines other_lines ∙ and_from (list_all (is_certified before) one_lines) (list_all (is_certified before) other_lines) x y)

-- ---- closes

pub contradiction_goes : (before : List StatementView) (kept : List Obj) (s : Scope) (facts : List Lit) (goal : Goal) (against : Option Against)
    → option_map_or (is_against_of version.One) against true ≡ true → is_certified before (as_step (Contradiction against) s facts goal) ≡ true
    → Goes before kept s facts goal (wants before (Contradiction against) s facts goal) (trimmed_from before kept (Contradiction against) s facts goal)
unfolding wants trimmed_from placed_steps
contradiction_goes before kept s facts goal None v h now goal' r = absurd (true≢false (sym h))
contradiction_goes before kept s facts goal (Some a) v h now goal' r =
    let own = of_step before (as_step (Contradiction (Some a)) s facts goal) in
    let p = and_parts true (true && certifies_against s facts a) h in
    let q = and_parts true (certifies_against s facts a) p.1 in
    let scope = (and_parts (against_in s a) (against_holds facts a) q.1).0 in
    let c = covered kept s facts now goal goal' own r (against_scope s facts a scope) in
    let done = against_stays kept s facts now own.lits a v r.stays c q.1 in
    and_from _ true (and_from true (true && certifies_against (scope_kept kept) now (against_at kept a)) refl (and_from true (certifies_against (scope_kept kept) now (against_at kept a)) refl done)) refl

-- ---- make

form_in : (s : Scope) (construction : Construction) → fits_construction construction s ≡ true → AllIn s (construction.args ++ construction.avoid)
form_in s construction h =
    let p = and_parts (are_of_sorts s (sorts_of (row_of_construction construction).args) construction.args) (avoids_well s (row_of_construction construction).avoids construction.avoid) h in
    both_in s construction.args construction.avoid (args_in_scope s (sorts_of (row_of_construction construction).args) construction.args p.0) (avoided_in s (row_of_construction construction).avoids construction.avoid p.1)
  where
    args_in_scope : (s : Scope) (xs : List Sort) (os : List Obj) → are_of_sorts s xs os ≡ true → AllIn s os
    args_in_scope s [] [] e o i = absurd i
    args_in_scope s [] (x ∷ os) e o i = absurd cc
    args_in_scope s (x ∷ xs) [] e o i = absurd i
    args_in_scope s (x ∷ xs) (y ∷ os) e o (inl f) =
        let p = and_parts (same_sort x y.sort) (is_in_scope s y && are_of_sorts s xs os) e in subst (λ z. is_in_scope s z ≡ true) f (and_parts (is_in_scope s y) (are_of_sorts s xs os) p.1).0
    args_in_scope s (x ∷ xs) (y ∷ os) e o (inr i) =
        let p = and_parts (same_sort x y.sort) (is_in_scope s y && are_of_sorts s xs os) e in args_in_scope s xs os (and_parts (is_in_scope s y) (are_of_sorts s xs os) p.1).1 o i

    avoided_in : (s : Scope) (a : Avoids) (os : List Obj) → avoids_well s a os ≡ true → AllIn s os
    avoided_in s NoObject [] e = λ o i. absurd i
    avoided_in s NoObject (x ∷ os) e = let n = eqb-true (length (x ∷ os)) 0 e in absurd (omega (arith, n))
    avoided_in s AnyObject os e = listed_in s os e
    avoided_in s (AnyApartFrom x) os e = listed_in s os e

pub make_goes : (before : List StatementView) (kept : List Obj) (s : Scope) (facts : List Lit) (goal : Goal) (construction : Construction) (names : List (List ℕ)) (certs : List Cert) (rest : Script)
    → list_all (is_cert_of version.One) certs ≡ true → is_certified before (as_step (Make construction names certs rest) s facts goal) ≡ true
    → ((more : List Obj) → Goes before more (with_sorts s (sorts_made construction)) (with_facts facts (gives_of_construction construction s)) goal (wants before rest (with_sorts s (sorts_made construction)) (with_facts facts (gives_of_construction construction s)) goal)
    (trimmed_from before more rest (with_sorts s (sorts_made construction)) (with_facts facts (gives_of_construction construction s)) goal))
    → Goes before kept s facts goal (wants before (Make construction names certs rest) s facts goal) (trimmed_from before kept (Make construction names certs rest) s facts goal)
unfolding wants trimmed_from placed_steps
make_goes before kept s facts goal construction names certs rest v h more now goal' r = by (is_kept before here s facts w) refl r
  where
    here : Script
    here = Make construction names certs rest

    new : List Sort
    new = sorts_made construction

    wide : List Obj
    wide = kept ++ next_objects s new

    after : List Lit
    after = with_facts facts (gives_of_construction construction s)

    w : Wants
    w = wants before rest (with_sorts s new) after goal

    own : Wants
    own = of_step before (as_step here s facts goal)

    named : List Obj
    named = construction.args ++ construction.avoid

    t : Script
    t = trimmed_from before wide rest (with_sorts s new) after goal

    by : (b : Bool) → is_kept before here s facts w ≡ b → Ready kept s facts now goal goal' (cond b (both w (both own no_wants)) w)
        → certified_from before (cond b (Make (construction_among_kept kept construction) names (map (cert_at kept) certs) t) (trimmed_from before kept rest (with_sorts s new) after goal)) (scope_kept kept) now goal' ≡ true
    by true e k =
        let line_ready = first kept s facts now goal goal' own no_wants (second kept s facts now goal goal' w (both own no_wants) k) in
        let looked = of_certs facts (needs_of_construction construction) certs in
        let p = and_parts (fits_construction construction s) (certify_all s facts (needs_of_construction construction) certs && true) h in
        let q = and_parts (certify_all s facts (needs_of_construction construction) certs) true p.1 in
        let scopes = both_in s named (looked.objects ++ []) (form_in s construction p.0) (both_in s looked.objects [] (certs_scope s facts facts (needs_of_construction construction) certs q.0) (λ o i. absurd i)) in
        let c = covered kept s facts now goal goal' own line_ready scopes in
        let objects = (cover_left kept own.lits (wanted_objects named) (both looked no_wants) c).objects in
        let own_certs = cover_left kept own.lits looked no_wants (cover_right kept own.lits (wanted_objects named) (both looked no_wants) c) in
        let done = certs_stay kept s facts now own.lits (needs_of_construction construction) certs v line_ready.stays (needs_over kept s construction p.0 objects) own_certs q.0 in
        let given = gives_at kept s construction line_ready.bound objects p.0 in
        let next = more wide (with_facts now (map (lit_among_kept wide) (gives_of_construction construction s))) goal'
        (made_ready kept s new facts now (gives_of_construction construction s) goal goal' w (gives_over kept s construction p.0 objects) (first kept s facts now goal goal' w (both own no_wants) k)) in
        and_from (is_certified before (as_step (Make (construction_among_kept kept construction) names (map (cert_at kept) certs) t) (scope_kept kept) now goal')) _
        (and_from (fits_construction (construction_among_kept kept construction) (scope_kept kept)) _ (fits_at kept s construction p.0 objects)
        (and_from _ true (ap (λ ls. certify_all (scope_kept kept) now ls (map (cert_at kept) certs)) (needs_at kept s construction p.0) ∙ done) refl))
        (ap (λ z. certified_from before t z (with_facts now (gives_of_construction (construction_among_kept kept construction) (scope_kept kept))) goal') (sym (scope_more kept s new))
        ∙ ap (λ ls. certified_from before t (scope_kept wide) (with_facts now ls) goal') given ∙ next)
    by false e k =
        let p = or_parts (list_any (supplies facts w) (gives_of_construction construction s)) (list_any (is_needed w) (next_objects s new)) e in
        more kept now goal' (unmade_ready kept s new facts now (gives_of_construction construction s) goal goal' w p.0 p.1 k)

-- ---- superpose

superposed_in : (s : Scope) (x : Superpose) → superposing.fits_superposition x s ≡ true → AllIn s (superposing.objects_of x)
superposed_in s x h = sorted_in s (sorts_of superposing.superposed_args) (superposing.objects_of x) h
  where
    sorted_in : (s : Scope) (xs : List Sort) (os : List Obj) → are_of_sorts s xs os ≡ true → AllIn s os
    sorted_in s [] [] e o i = absurd i
    sorted_in s [] (x ∷ os) e o i = absurd cc
    sorted_in s (x ∷ xs) [] e o i = absurd i
    sorted_in s (x ∷ xs) (y ∷ os) e o (inl f) =
        let p = and_parts (same_sort x y.sort) (is_in_scope s y && are_of_sorts s xs os) e in subst (λ z. is_in_scope s z ≡ true) f (and_parts (is_in_scope s y) (are_of_sorts s xs os) p.1).0
    sorted_in s (x ∷ xs) (y ∷ os) e o (inr i) =
        let p = and_parts (same_sort x y.sort) (is_in_scope s y && are_of_sorts s xs os) e in sorted_in s xs os (and_parts (is_in_scope s y) (are_of_sorts s xs os) p.1).1 o i

pub superposed_goes : (before : List StatementView) (kept : List Obj) (s : Scope) (facts : List Lit) (goal : Goal) (superposition : Superpose) (names : List (List ℕ)) (shown : List Lit) (certs : List Cert) (inner rest : Script)
    → list_all (is_cert_of version.One) certs ≡ true → is_certified before (as_step (Superposed superposition names shown certs inner rest) s facts goal) ≡ true
    → Goes before (kept ++ next_objects s superposing.sorts_copied) (with_sorts s superposing.sorts_copied) (with_facts facts (superposing.gives_of_superposition superposition s)) (goal_of shown)
    (wants before inner (with_sorts s superposing.sorts_copied) (with_facts facts (superposing.gives_of_superposition superposition s)) (goal_of shown))
    (trimmed_from before (kept ++ next_objects s superposing.sorts_copied) inner (with_sorts s superposing.sorts_copied) (with_facts facts (superposing.gives_of_superposition superposition s)) (goal_of shown))
    → Goes before kept s (with_facts facts shown) goal (wants before rest s (with_facts facts shown) goal) (trimmed_from before kept rest s (with_facts facts shown) goal)
    → Goes before kept s facts goal (wants before (Superposed superposition names shown certs inner rest) s facts goal) (trimmed_from before kept (Superposed superposition names shown certs inner rest) s facts goal)
unfolding wants trimmed_from placed_steps
superposed_goes before kept s facts goal superposition names shown certs inner rest one h block more now goal' r = by (is_kept before here s facts w) refl r
  where
    here : Script
    here = Superposed superposition names shown certs inner rest

    given : List Lit
    given = superposing.gives_of_superposition superposition s

    wide : List Obj
    wide = kept ++ next_objects s superposing.sorts_copied

    w : Wants
    w = wants before rest s (with_facts facts shown) goal

    v : Wants
    v = wants before inner (with_sorts s superposing.sorts_copied) (with_facts facts given) (goal_of shown)

    t : Script
    t = trimmed_from before kept rest s (with_facts facts shown) goal

    i : Script
    i = trimmed_from before wide inner (with_sorts s superposing.sorts_copied) (with_facts facts given) (goal_of shown)

    own : Wants
    own = of_step before (as_step here s facts goal)

    shown' : List Lit
    shown' = map (lit_among_kept kept) shown

    named : List Obj
    named = superposing.objects_of superposition ++ objects_of_lits shown

    by : (b : Bool) → is_kept before here s facts w ≡ b → Ready kept s facts now goal goal' (cond b (both w (both own (wants_outside s facts v))) w)
        → certified_from before (cond b (Superposed (superpose_at kept superposition) names shown' (map (cert_at kept) certs) i t) t) (scope_kept kept) now goal' ≡ true
    by true e k =
        let line_and_block = second kept s facts now goal goal' w (both own (wants_outside s facts v)) k in
        let line_ready = first kept s facts now goal goal' own (wants_outside s facts v) line_and_block in
        let looked = of_certs facts (superposing.needs_of_superposition superposition) certs in
        let p = and_parts (superposing.fits_superposition superposition s && are_over s shown) (certify_all s facts (superposing.needs_of_superposition superposition) certs && true) h in
        let f = and_parts (superposing.fits_superposition superposition s) (are_over s shown) p.0 in
        let q = and_parts (certify_all s facts (superposing.needs_of_superposition superposition) certs) true p.1 in
        let scopes = both_in s named (looked.objects ++ []) (both_in s (superposing.objects_of superposition) (objects_of_lits shown) (superposed_in s superposition f.0) (lits_in s shown f.1))
        (both_in s looked.objects [] (certs_scope s facts facts (superposing.needs_of_superposition superposition) certs q.0) (λ o j. absurd j)) in
        let c = covered kept s facts now goal goal' own line_ready scopes in
        let objects = (cover_left kept own.lits (wanted_objects named) (both looked no_wants) c).objects in
        let args : AllKept kept (superposing.objects_of superposition) = λ o j. objects o (in_left o (superposing.objects_of superposition) (objects_of_lits shown) j) in
        let over : OverLits kept shown = λ l j o m. objects o (in_right o (superposing.objects_of superposition) (objects_of_lits shown) (in_flat (λ (x : Lit). objects_of_atom x.atom) l o shown j m)) in
        let own_certs = cover_left kept own.lits looked no_wants (cover_right kept own.lits (wanted_objects named) (both looked no_wants) c) in
        let done = certs_stay kept s facts now own.lits (superposing.needs_of_superposition superposition) certs one line_ready.stays (superposition_needs_over kept s superposition f.0 args) own_certs q.0 in
        let gives' = superposition_gives kept s superposition line_ready.bound args f.0 in
        let inner_ready = inside kept s facts now goal goal' v (second kept s facts now goal goal' own (wants_outside s facts v) line_and_block) in
        let goes : GoalGoes kept s (goal_of shown) (goal_of shown') = inl (record { shown = shown; before = refl; after = refl; over = over }) in
        let opened = made_ready kept s superposing.sorts_copied facts now given (goal_of shown) (goal_of shown') v (superposition_gives_over kept s superposition f.0 args) (with_goal kept s facts now goal goal' (goal_of shown) (goal_of shown') v goes inner_ready) in
        let block_done = block (with_facts now (map (lit_among_kept wide) given)) (goal_of shown') opened in
        let next = more (with_facts now shown') goal' (joined_ready kept s facts now shown goal goal' w over (first kept s facts now goal goal' w (both own (wants_outside s facts v)) k)) in
        and_from (is_certified before (as_step (Superposed (superpose_at kept superposition) names shown' (map (cert_at kept) certs) i t) (scope_kept kept) now goal'))
        (list_all (is_certified before) (placed_steps before i i (with_sorts (scope_kept kept) superposing.sorts_copied) (with_facts now (superposing.gives_of_superposition (superpose_at kept superposition) (scope_kept kept))) (goal_of shown') ++ placed_steps before t t (scope_kept kept) (with_facts now shown') goal'))
        (and_from (superposing.fits_superposition (superpose_at kept superposition) (scope_kept kept) && are_over (scope_kept kept) shown') (certify_all (scope_kept kept) now (superposing.needs_of_superposition (superpose_at kept superposition)) (map (cert_at kept) certs) && true)
        (and_from (superposing.fits_superposition (superpose_at kept superposition) (scope_kept kept)) (are_over (scope_kept kept) shown') (superposition_fits kept s superposition f.0 args) (lits_scope kept shown over))
        (and_from (certify_all (scope_kept kept) now (superposing.needs_of_superposition (superpose_at kept superposition)) (map (cert_at kept) certs)) true (ap (λ ls. certify_all (scope_kept kept) now ls (map (cert_at kept) certs)) (superposition_needs kept s superposition f.0) ∙ done) refl))
        (list_all-append (is_certified before) (placed_steps before i i (with_sorts (scope_kept kept) superposing.sorts_copied) (with_facts now (superposing.gives_of_superposition (superpose_at kept superposition) (scope_kept kept))) (goal_of shown')) (placed_steps before t t (scope_kept kept) (with_facts now shown') goal')
        ∙ and_from (certified_from before i (with_sorts (scope_kept kept) superposing.sorts_copied) (with_facts now (superposing.gives_of_superposition (superpose_at kept superposition) (scope_kept kept))) (goal_of shown')) (certified_from before t (scope_kept kept) (with_facts now shown') goal')
        (ap (λ z. certified_from before i z (with_facts now (superposing.gives_of_superposition (superpose_at kept superposition) (scope_kept kept))) (goal_of shown')) (sym (scope_more kept s superposing.sorts_copied))
        ∙ ap (λ ls. certified_from before i (scope_kept wide) (with_facts now ls) (goal_of shown')) gives' ∙ block_done)
        next)
    by false e k =
        let p = or_parts (list_any (supplies facts w) shown) false e in
        more now goal' (dropped_ready kept s facts now shown goal goal' w p.0 k)
