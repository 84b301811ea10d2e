-- Each form of a step and of a close as it is built over the kept objects.
use Rattle.std.proofs.Common.{◌≡◌, ℕ, ◌+◌, ◌<◌, ◌^◌, List, ◌++◌, map, length, sym, ap, ◌∙◌, subst, arith, Bool, true, Option, Box, Global}
use Rattle.std.specs.Option.{option_map}
use Rattle.std.proofs.lemmas.List.{append_assoc, append-nil}
use Rattle.e_literal.specs.declared.object.Obj.{Obj}
use Rattle.e_literal.specs.declared.object.Scope.{Scope}
use Rattle.e_literal.specs.declared.object.Sort.{Sort}
use Rattle.e_literal.specs.declared.literal.Lit.{Lit}
use Rattle.e_literal.specs.Literal.{negation}
use Rattle.e_literal.specs.Facts.{with_fact, with_facts}
use Rattle.e_literal.specs.Scopes.{with_sorts, next_objects}
use Rattle.e_literal.specs.Use.{StatementView}
use Rattle.e_construct.specs.declared.construction.Construction.{Construction}
use Rattle.e_construct.specs.declared.superpose.Superpose.{Superpose}
use Rattle.e_construct.specs.Superposing as superposing
use Rattle.e_clause.specs.declared.cert.By.{By}
use Rattle.e_clause.specs.declared.cert.Cert.{Cert}
use Rattle.e_clause.specs.declared.cert.Against.{Against}
use Rattle.e_deriv.specs.declared.block.Block.{Block}
use Rattle.e_deriv.specs.declared.block.Close.{Close}
use Rattle.e_deriv.specs.declared.block.Close.TheVariants.{Qed as QedClose, Contradiction as ContradictionClose, Cases as CasesBlock}
use Rattle.e_deriv.specs.declared.block.Step.{Step}
use Rattle.e_deriv.specs.declared.block.Step.TheVariants.{Cite as CiteStep, Hence as HenceStep, Make as MakeStep, Apply as ApplyStep, Claim as ClaimBlock, Superposed as SuperposedBlock}
use Rattle.e_deriv.specs.Script.{Script, Cite, Hence, Make, Apply, Claim, Superposed, Qed, Contradiction, Cases, step_script, close_script, script_of}
use Rattle.e_deriv.specs.Goal.{Goal, goal_of}
use Rattle.e_deriv.specs.Fitting.{is_small}
use Rattle.e_deriv.proofs.Scripts.{step_script-Claim, step_script-Superposed, close_script-Cases}
use Rattle.e_trim.specs.Trimmed.{obj_at, lit_among_kept, cert_at, against_at, by_at, construction_among_kept, superpose_at, args_at, trimmed_from}
use Rattle.e_trim.specs.inner.Flags.{flags_of, step_flags}
use Rattle.e_trim.specs.inner.Building.{StepIsBuilt, CloseIsBuilt, BlockIsBuilt, kept_step}
use Rattle.e_trim.proofs.kept_scripts.BuiltSteps.{room}

-- ---- steps

pub cite_built : (before : List StatementView) (kept : List Obj) (step : Step) (by new : By) (s : Scope) (pile : List Bool) → step ≡ CiteStep by → new ≡ by_at kept by → StepIsBuilt before kept step s pile pile (CiteStep new)
unfolding step_script
cite_built before kept step by new s pile is e =
    subst (λ st. StepIsBuilt before kept st s pile pile (CiteStep new)) (sym is) (λ rest more facts under h. (ap (λ x. Cite x more) e, h ∙ append-nil under))

pub hence_built : (before : List StatementView) (kept : List Obj) (step : Step) (lit new : Lit) (cert now : Option Cert) (s : Scope) (pile : List Bool) → step ≡ HenceStep lit cert → new ≡ lit_among_kept kept lit → now ≡ option_map (cert_at kept) cert
    → StepIsBuilt before kept step s pile pile (HenceStep new now)
unfolding step_script
hence_built before kept step lit new cert now s pile is e f =
    subst (λ st. StepIsBuilt before kept st s pile pile (HenceStep new now)) (sym is)
    (λ rest more facts under h. (ap (λ x. Hence x now more) e ∙ ap (λ x. Hence (lit_among_kept kept lit) x more) f, h ∙ append-nil under))

pub make_built : (before : List StatementView) (kept : List Obj) (step : Step) (construction new : Construction) (names same : List (List ℕ)) (certs now : List Cert) (s : Scope) (pile : List Bool) → step ≡ MakeStep construction names certs → new ≡ construction_among_kept kept construction → same ≡ names → now ≡ map (cert_at kept) certs
    → StepIsBuilt before kept step s pile pile (MakeStep new same now)
unfolding step_script
make_built before kept step construction new names same certs now s pile is e n f =
    subst (λ st. StepIsBuilt before kept st s pile pile (MakeStep new same now)) (sym is)
    (λ rest more facts under h. (ap (λ x. Make x same now more) e ∙ ap (λ x. Make (construction_among_kept kept construction) x now more) n ∙ ap (λ x. Make (construction_among_kept kept construction) names x more) f, h ∙ append-nil under))

pub apply_built : (before : List StatementView) (kept : List Obj) (step : Step) (theorem : ℕ) (args new : List (Option Obj)) (names same : List (List ℕ)) (certs now : List Cert) (s : Scope) (pile : List Bool) → step ≡ ApplyStep theorem args names certs → new ≡ args_at kept args → same ≡ names
    → now ≡ map (cert_at kept) certs → StepIsBuilt before kept step s pile pile (ApplyStep theorem new same now)
unfolding step_script
apply_built before kept step theorem args new names same certs now s pile is e n f =
    subst (λ st. StepIsBuilt before kept st s pile pile (ApplyStep theorem new same now)) (sym is)
    (λ rest more facts under h. (ap (λ x. Apply theorem x same now more) e ∙ ap (λ x. Apply theorem (args_at kept args) x now more) n ∙ ap (λ x. Apply theorem (args_at kept args) names x more) f, h ∙ append-nil under))

claim_done : (before : List StatementView) (kept : List Obj) (shown new : List Lit) (inner : Box Block Global) (block : Block) (s : Scope) (pile left : List Bool) → new ≡ map (lit_among_kept kept) shown → BlockIsBuilt before kept (script_of inner.value) s pile left block
    → (rest more : Script) (facts : List Lit) (under : List Bool) → pile ≡ under ++ step_flags before (Claim shown (script_of inner.value) rest) s facts
    → (Claim new (script_of block) more ≡ kept_step before kept (Claim shown (script_of inner.value) rest) s facts more) × (left ≡ under)
claim_done before kept shown new inner block s pile left e built rest more facts under h =
    let r = built facts (goal_of shown) under h in
    (ap (λ x. Claim x (script_of block) more) e ∙ ap (λ x. Claim (map (lit_among_kept kept) shown) x more) r.0, r.1)

pub claim_built : (before : List StatementView) (kept : List Obj) (step made : Step) (shown new : List Lit) (inner : Box Block Global) (block : Block) (s : Scope) (pile left : List Bool) → step ≡ ClaimBlock shown inner → new ≡ map (lit_among_kept kept) shown
    → ((more : Script) → step_script made more ≡ Claim new (script_of block) more) → BlockIsBuilt before kept (script_of inner.value) s pile left block → StepIsBuilt before kept step s pile left made
claim_built before kept step made shown new inner block s pile left is e script built =
    subst (λ st. StepIsBuilt before kept st s pile left made) (sym is)
    (λ rest more facts under h.
    let old = step_script-Claim shown inner rest in
    let r = claim_done before kept shown new inner block s pile left e built rest more facts under (h ∙ ap (λ d. under ++ step_flags before d s facts) old) in
    (script more ∙ r.0 ∙ ap (λ d. kept_step before kept d s facts more) (sym old), r.1))

superposed_done : (before : List StatementView) (kept wide : List Obj) (superposition : Superpose) (now : Superpose) (names same : List (List ℕ)) (shown new : List Lit) (certs cs : List Cert) (inner : Box Block Global) (block : Block) (s : Scope) (pile left : List Bool)
    → wide ≡ kept ++ next_objects s superposing.sorts_copied → now ≡ superpose_at kept superposition → same ≡ names → new ≡ map (lit_among_kept kept) shown → cs ≡ map (cert_at kept) certs
    → BlockIsBuilt before wide (script_of inner.value) (with_sorts s superposing.sorts_copied) pile left block
    → (rest more : Script) (facts : List Lit) (under : List Bool) → pile ≡ under ++ step_flags before (Superposed superposition names shown certs (script_of inner.value) rest) s facts
    → (Superposed now same new cs (script_of block) more ≡ kept_step before kept (Superposed superposition names shown certs (script_of inner.value) rest) s facts more) × (left ≡ under)
superposed_done before kept wide superposition now names same shown new certs cs inner block s pile left w f n e g built rest more facts under h =
    let opened = with_facts facts (superposing.gives_of_superposition superposition s) in
    let r = built opened (goal_of shown) under h in (
      ap (λ x. Superposed x same new cs (script_of block) more) f
          ∙ ap (λ x. Superposed (superpose_at kept superposition) x new cs (script_of block) more) n
          ∙ ap (λ x. Superposed (superpose_at kept superposition) names x cs (script_of block) more) e
          ∙ ap (λ x. Superposed (superpose_at kept superposition) names (map (lit_among_kept kept) shown) x (script_of block) more) g
          ∙ ap (λ x. Superposed (superpose_at kept superposition) names (map (lit_among_kept kept) shown) (map (cert_at kept) certs) x more)
          (r.0 ∙ ap (λ ks. trimmed_from before ks (script_of inner.value) (with_sorts s superposing.sorts_copied) opened (goal_of shown)) w),
      r.1,
    )

pub superposed_built : (before : List StatementView) (kept wide : List Obj) (step made : Step) (superposition now : Superpose) (names same : List (List ℕ)) (shown new : List Lit) (certs cs : List Cert) (inner : Box Block Global) (block : Block) (s : Scope) (pile left : List Bool)
    → step ≡ SuperposedBlock superposition names shown certs inner → wide ≡ kept ++ next_objects s superposing.sorts_copied → now ≡ superpose_at kept superposition → same ≡ names → new ≡ map (lit_among_kept kept) shown → cs ≡ map (cert_at kept) certs
    → ((more : Script) → step_script made more ≡ Superposed now same new cs (script_of block) more) → BlockIsBuilt before wide (script_of inner.value) (with_sorts s superposing.sorts_copied) pile left block → StepIsBuilt before kept step s pile left made
superposed_built before kept wide step made superposition now names same shown new certs cs inner block s pile left is w f n e g script built =
    subst (λ st. StepIsBuilt before kept st s pile left made) (sym is)
    (λ rest more facts under h.
    let old = step_script-Superposed superposition names shown certs inner rest in
    let r = superposed_done before kept wide superposition now names same shown new certs cs inner block s pile left w f n e g built rest more facts under (h ∙ ap (λ d. under ++ step_flags before d s facts) old) in
    (script more ∙ r.0 ∙ ap (λ d. kept_step before kept d s facts more) (sym old), r.1))

-- ---- closes

pub qed_built : (before : List StatementView) (kept : List Obj) (close : Close) (objects new : List Obj) (certs now : List Cert) (s : Scope) (pile : List Bool) → close ≡ QedClose objects certs → new ≡ map (obj_at kept) objects → now ≡ map (cert_at kept) certs
    → CloseIsBuilt before kept (close_script close) s pile pile (QedClose new now)
unfolding close_script flags_of trimmed_from
qed_built before kept close objects new certs now s pile is e f =
    subst (λ cl. CloseIsBuilt before kept (close_script cl) s pile pile (QedClose new now)) (sym is)
    (λ facts goal under h. (ap (λ x. Qed x now) e ∙ ap (λ x. Qed (map (obj_at kept) objects) x) f, h ∙ append-nil under))

pub contradiction_built : (before : List StatementView) (kept : List Obj) (close : Close) (against new : Option Against) (s : Scope) (pile : List Bool) → close ≡ ContradictionClose against → new ≡ option_map (against_at kept) against
    → CloseIsBuilt before kept (close_script close) s pile pile (ContradictionClose new)
unfolding close_script flags_of trimmed_from
contradiction_built before kept close against new s pile is e =
    subst (λ cl. CloseIsBuilt before kept (close_script cl) s pile pile (ContradictionClose new)) (sym is) (λ facts goal under h. (ap Contradiction e, h ∙ append-nil under))

cases_done : (before : List StatementView) (kept : List Obj) (lit new : Lit) (first second : Box Block Global) (one other : Block) (s : Scope) (pile over left : List Bool) → new ≡ lit_among_kept kept lit
    → BlockIsBuilt before kept (script_of first.value) s pile over one → BlockIsBuilt before kept (script_of second.value) s over left other
    → (facts : List Lit) (goal : Goal) (under : List Bool) → pile ≡ under ++ flags_of before (Cases lit (script_of first.value) (script_of second.value)) s facts goal
    → (Cases new (script_of one) (script_of other) ≡ trimmed_from before kept (Cases lit (script_of first.value) (script_of second.value)) s facts goal) × (left ≡ under)
unfolding flags_of trimmed_from
cases_done before kept lit new first second one other s pile over left e built built_other facts goal under h =
    let lower = flags_of before (script_of second.value) s (with_fact facts (negation lit)) goal in
    let a = built (with_fact facts lit) goal (under ++ lower) (h ∙ sym (append_assoc under lower (flags_of before (script_of first.value) s (with_fact facts lit) goal))) in
    let b = built_other (with_fact facts (negation lit)) goal under a.1 in (
      ap (λ x. Cases x (script_of one) (script_of other)) e ∙ ap (λ x. Cases (lit_among_kept kept lit) x (script_of other)) a.0
          ∙ ap (λ x. Cases (lit_among_kept kept lit) (trimmed_from before kept (script_of first.value) s (with_fact facts lit) goal) x) b.0,
      b.1,
    )

pub cases_built : (before : List StatementView) (kept : List Obj) (close made : Close) (lit new : Lit) (first second : Box Block Global) (one other : Block) (s : Scope) (pile over left : List Bool) → close ≡ CasesBlock lit first second → new ≡ lit_among_kept kept lit
    → close_script made ≡ Cases new (script_of one) (script_of other) → BlockIsBuilt before kept (script_of first.value) s pile over one → BlockIsBuilt before kept (script_of second.value) s over left other
    → CloseIsBuilt before kept (close_script close) s pile left made
cases_built before kept close made lit new first second one other s pile over left is e script built built_other =
    subst (λ cl. CloseIsBuilt before kept (close_script cl) s pile left made) (sym is)
    (λ facts goal under h.
    let old = close_script-Cases lit first second in
    let r = cases_done before kept lit new first second one other s pile over left e built built_other facts goal under (h ∙ ap (λ d. under ++ flags_of before d s facts goal) old) in
    (script ∙ r.0 ∙ ap (λ d. trimmed_from before kept d s facts goal) (sym old), r.1))

-- ---- blocks in boxes

-- the block that is built of the one in a box
pub boxed : (before : List StatementView) (kept : List Obj) (inner : Block) (was : Box Block Global) (block : Block) (s t : Scope) (pile left : List Bool) → inner ≡ was.value → t ≡ s → BlockIsBuilt before kept (script_of inner) t pile left block
    → BlockIsBuilt before kept (script_of was.value) s pile left block
boxed before kept inner was block s t pile left e g built =
    subst (λ x. BlockIsBuilt before kept (script_of was.value) x pile left block) g (subst (λ b. BlockIsBuilt before kept (script_of b) t pile left block) e built)

-- the copies have numbers of 16 bits
pub copies_room : (s : Scope) (sorts : List Sort) → is_small s ≡ true → sorts ≡ superposing.sorts_copied → (s.points + length sorts < 2 ^ 16) × (s.lines + length sorts < 2 ^ 16) × (s.circles + length sorts < 2 ^ 16)
copies_room s sorts h e =
    let n : length sorts ≡ 2 = ap length e in
    room s (length sorts) h (omega (arith, n))
