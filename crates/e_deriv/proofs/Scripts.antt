-- The scripts of steps, of lists of steps and of closes; their sizes and depths; what they are without certificates.
use Rattle.std.proofs.Common.{◌≡◌, ℕ, suc, ◌+◌, ◌<◌, max, List, [], ◌∷◌, ◌++◌, length, drop, get_or, add-one, drop-cons, refl, sym, ap, ◌∙◌, Option, None, Global, Box}
use Rattle.std.proofs.lemmas.Grind.{common_steps}
use Rattle.e_literal.specs.declared.literal.Lit.{Lit}
use Rattle.e_literal.specs.declared.object.Obj.{Obj}
use Rattle.e_construct.specs.declared.construction.Construction.{Construction}
use Rattle.e_construct.specs.declared.superpose.Superpose.{Superpose}
use Rattle.e_clause.specs.declared.cert.Against.{Against}
use Rattle.e_clause.specs.declared.cert.By.{By}
use Rattle.e_clause.specs.declared.cert.Cert.{Cert}
use Rattle.e_deriv.specs.declared.block.Block.{Block}
use Rattle.e_deriv.specs.declared.block.Step.{Step, Row_of-Step, end_of-Step, more_of-Step, items-the_row-Step, items_hidden-the_row-Step-0}
use Rattle.e_deriv.specs.declared.block.Step.TheVariants.{Cite as CiteStep, Hence as HenceStep, Make as MakeStep, Apply as ApplyStep, Claim as ClaimStep, Superposed as SuperposedStep, Claim', Superposed'}
use Rattle.e_deriv.specs.declared.block.Close.TheVariants.{Qed as QedClose, Contradiction as ContradictionClose, Cases as CasesClose}
use Rattle.e_deriv.specs.Script.{Script, Cite, Hence, Make, Apply, Claim, Superposed, Qed, Contradiction, Cases, step_script, row_script, close_script, steps_script, script_of, size, depth, bare_script}
use Rattle.e_deriv.specs.PlainStep.{Cited, Inferred, Made, Applied, Claimed, Copied, plain_step, before}

row_script-items : (n : _) (row : Row_of-Step n) (rest : Script) → row_script row rest ≡ steps_script (items-the_row-Step n row) rest
unfolding row_script
row_script-items n end_of-Step rest = refl
row_script-items n (more_of-Step s steps) rest = ap (step_script s) (row_script-items _ steps rest)

-- the row of steps that a block has after a box
abbrev row_of : Step → (n : _) × Row_of-Step n
row_of (Claim' shown p n row close) = (_, row)
row_of _ = (_, end_of-Step)

row_script-block : (b : Box Block Global) (rest : Script) → row_script (row_of (ClaimStep [] b)).1 rest ≡ steps_script b.value.steps.items rest
row_script-block b rest =
    let row = row_of (ClaimStep [] b) in row_script-items row.0 row.1 rest ∙ ap (λ steps. steps_script steps rest) (items_hidden-the_row-Step-0 b.value.steps)

pub step_script-Cite : (by : By) (rest : Script) → step_script (CiteStep by) rest ≡ Cite by rest
unfolding step_script
step_script-Cite by rest = refl

pub step_script-Hence : (lit : Lit) (cert : Option Cert) (rest : Script) → step_script (HenceStep lit cert) rest ≡ Hence lit cert rest
unfolding step_script
step_script-Hence lit cert rest = refl

pub step_script-Make : (construction : Construction) (names : List (List ℕ)) (certs : List Cert) (rest : Script) → step_script (MakeStep construction names certs) rest ≡ Make construction names certs rest
unfolding step_script
step_script-Make construction names certs rest = refl

pub step_script-Apply : (theorem : ℕ) (args : List (Option Obj)) (names : List (List ℕ)) (certs : List Cert) (rest : Script) → step_script (ApplyStep theorem args names certs) rest ≡ Apply theorem args names certs rest
unfolding step_script
step_script-Apply theorem args names certs rest = refl

pub step_script-Claim : (shown : List Lit) (inner : Box Block Global) (rest : Script) → step_script (ClaimStep shown inner) rest ≡ Claim shown (script_of inner.value) rest
unfolding step_script
step_script-Claim shown inner rest = ap (λ s. Claim shown s rest) (row_script-block inner (close_script inner.value.close))

pub step_script-Superposed : (superposition : Superpose) (names : List (List ℕ)) (shown : List Lit) (certs : List Cert) (inner : Box Block Global) (rest : Script) → step_script (SuperposedStep superposition names shown certs inner) rest ≡ Superposed superposition names shown certs (script_of inner.value) rest
unfolding step_script
step_script-Superposed superposition names shown certs inner rest = ap (λ s. Superposed superposition names shown certs s rest) (row_script-block inner (close_script inner.value.close))

pub close_script-Qed : (objects : List Obj) (certs : List Cert) → close_script (QedClose objects certs) ≡ Qed objects certs
unfolding close_script
close_script-Qed objects certs = refl

pub close_script-Contradiction : (against : Option Against) → close_script (ContradictionClose against) ≡ Contradiction against
unfolding close_script
close_script-Contradiction against = refl

pub close_script-Cases : (lit : Lit) (first : Box Block Global) (second : Box Block Global) → close_script (CasesClose lit first second) ≡ Cases lit (script_of first.value) (script_of second.value)
unfolding close_script
close_script-Cases lit first second =
    ap (λ s. Cases lit s (row_script (row_of (ClaimStep [] second)).1 (close_script second.value.close))) (row_script-block first (close_script first.value.close))
    ∙ ap (Cases lit (script_of first.value)) (row_script-block second (close_script second.value.close))

pub ruleset scripts = (step_script-Cite, step_script-Hence, step_script-Make, step_script-Apply, step_script-Claim, step_script-Superposed, close_script-Qed, close_script-Contradiction, close_script-Cases)

pub size-Cite : (by : By) (rest : Script) → size (Cite by rest) ≡ 1 + size rest
unfolding size
size-Cite by rest = refl

pub size-Hence : (lit : Lit) (cert : Option Cert) (rest : Script) → size (Hence lit cert rest) ≡ 1 + size rest
unfolding size
size-Hence lit cert rest = refl

pub size-Make : (construction : Construction) (names : List (List ℕ)) (certs : List Cert) (rest : Script) → size (Make construction names certs rest) ≡ 1 + size rest
unfolding size
size-Make construction names certs rest = refl

pub size-Apply : (theorem : ℕ) (args : List (Option Obj)) (names : List (List ℕ)) (certs : List Cert) (rest : Script) → size (Apply theorem args names certs rest) ≡ 1 + size rest
unfolding size
size-Apply theorem args names certs rest = refl

pub size-Claim : (shown : List Lit) (inner : Script) (rest : Script) → size (Claim shown inner rest) ≡ 1 + size inner + size rest
unfolding size
size-Claim shown inner rest = refl

pub size-Superposed : (superposition : Superpose) (names : List (List ℕ)) (shown : List Lit) (certs : List Cert) (inner : Script) (rest : Script) → size (Superposed superposition names shown certs inner rest) ≡ 1 + size inner + size rest
unfolding size
size-Superposed superposition names shown certs inner rest = refl

pub size-Qed : (objects : List Obj) (certs : List Cert) → size (Qed objects certs) ≡ 1
unfolding size
size-Qed objects certs = refl

pub size-Contradiction : (against : Option Against) → size (Contradiction against) ≡ 1
unfolding size
size-Contradiction against = refl

pub size-Cases : (lit : Lit) (first : Script) (second : Script) → size (Cases lit first second) ≡ 1 + size first + size second
unfolding size
size-Cases lit first second = refl

pub ruleset sizes = (common_steps, scripts, size-Cite, size-Hence, size-Make, size-Apply, size-Claim, size-Superposed, size-Qed, size-Contradiction, size-Cases)

pub depth-Cite : (by : By) (rest : Script) → depth (Cite by rest) ≡ depth rest
unfolding depth
depth-Cite by rest = refl

pub depth-Hence : (lit : Lit) (cert : Option Cert) (rest : Script) → depth (Hence lit cert rest) ≡ depth rest
unfolding depth
depth-Hence lit cert rest = refl

pub depth-Make : (construction : Construction) (names : List (List ℕ)) (certs : List Cert) (rest : Script) → depth (Make construction names certs rest) ≡ depth rest
unfolding depth
depth-Make construction names certs rest = refl

pub depth-Apply : (theorem : ℕ) (args : List (Option Obj)) (names : List (List ℕ)) (certs : List Cert) (rest : Script) → depth (Apply theorem args names certs rest) ≡ depth rest
unfolding depth
depth-Apply theorem args names certs rest = refl

pub depth-Claim : (shown : List Lit) (inner : Script) (rest : Script) → depth (Claim shown inner rest) ≡ max (1 + depth inner) (depth rest)
unfolding depth
depth-Claim shown inner rest = refl

pub depth-Superposed : (superposition : Superpose) (names : List (List ℕ)) (shown : List Lit) (certs : List Cert) (inner : Script) (rest : Script) → depth (Superposed superposition names shown certs inner rest) ≡ max (1 + depth inner) (depth rest)
unfolding depth
depth-Superposed superposition names shown certs inner rest = refl

pub depth-Qed : (objects : List Obj) (certs : List Cert) → depth (Qed objects certs) ≡ 1
unfolding depth
depth-Qed objects certs = refl

pub depth-Contradiction : (against : Option Against) → depth (Contradiction against) ≡ 1
unfolding depth
depth-Contradiction against = refl

pub depth-Cases : (lit : Lit) (first : Script) (second : Script) → depth (Cases lit first second) ≡ 1 + max (depth first) (depth second)
unfolding depth
depth-Cases lit first second = refl

pub ruleset depths = (common_steps, scripts, depth-Cite, depth-Hence, depth-Make, depth-Apply, depth-Claim, depth-Superposed, depth-Qed, depth-Contradiction, depth-Cases)

pub bare_script-Cite : (by : By) (rest : Script) → bare_script (Cite by rest) ≡ Cite by (bare_script rest)
unfolding bare_script
bare_script-Cite by rest = refl

pub bare_script-Hence : (lit : Lit) (cert : Option Cert) (rest : Script) → bare_script (Hence lit cert rest) ≡ Hence lit None (bare_script rest)
unfolding bare_script
bare_script-Hence lit cert rest = refl

pub bare_script-Make : (construction : Construction) (names : List (List ℕ)) (certs : List Cert) (rest : Script) → bare_script (Make construction names certs rest) ≡ Make construction names [] (bare_script rest)
unfolding bare_script
bare_script-Make construction names certs rest = refl

pub bare_script-Apply : (theorem : ℕ) (args : List (Option Obj)) (names : List (List ℕ)) (certs : List Cert) (rest : Script) → bare_script (Apply theorem args names certs rest) ≡ Apply theorem args names [] (bare_script rest)
unfolding bare_script
bare_script-Apply theorem args names certs rest = refl

pub bare_script-Claim : (shown : List Lit) (inner : Script) (rest : Script) → bare_script (Claim shown inner rest) ≡ Claim shown (bare_script inner) (bare_script rest)
unfolding bare_script
bare_script-Claim shown inner rest = refl

pub bare_script-Superposed : (superposition : Superpose) (names : List (List ℕ)) (shown : List Lit) (certs : List Cert) (inner : Script) (rest : Script) → bare_script (Superposed superposition names shown certs inner rest) ≡ Superposed superposition names shown [] (bare_script inner) (bare_script rest)
unfolding bare_script
bare_script-Superposed superposition names shown certs inner rest = refl

pub bare_script-Qed : (objects : List Obj) (certs : List Cert) → bare_script (Qed objects certs) ≡ Qed objects []
unfolding bare_script
bare_script-Qed objects certs = refl

pub bare_script-Contradiction : (against : Option Against) → bare_script (Contradiction against) ≡ Contradiction None
unfolding bare_script
bare_script-Contradiction against = refl

pub bare_script-Cases : (lit : Lit) (first : Script) (second : Script) → bare_script (Cases lit first second) ≡ Cases lit (bare_script first) (bare_script second)
unfolding bare_script
bare_script-Cases lit first second = refl

pub steps_script-append : (xs ys : List Step) (rest : Script) → steps_script (xs ++ ys) rest ≡ steps_script xs (steps_script ys rest)
steps_script-append [] ys rest = refl
steps_script-append (x ∷ xs) ys rest = ap (step_script x) (steps_script-append xs ys rest)

pub ruleset erasing = (common_steps, scripts, bare_script-Cite, bare_script-Hence, bare_script-Make, bare_script-Apply, bare_script-Claim, bare_script-Superposed, bare_script-Qed, bare_script-Contradiction, bare_script-Cases, steps_script-append)

-- the step at this place, and what comes after it; the loop goes over `seen`
pub steps_at : (items seen : List Step) (rest : Script) (i : ℕ) (s : Step) → seen ≡ items → i < length seen → s ≡ get_or seen i s →
    steps_script (drop i items) rest ≡ step_script s (steps_script (drop (i + 1) items) rest)
steps_at items seen rest i s same lt is =
    ap (λ xs. steps_script (drop i xs) rest) (sym same) ∙ here ∙ ap (λ xs. step_script s (steps_script (drop (i + 1) xs) rest)) same
  where
    here : steps_script (drop i seen) rest ≡ step_script s (steps_script (drop (i + 1) seen) rest)
    here = rw (add-one, drop-cons seen i s) (ap (λ x. step_script x (steps_script (drop (suc i) seen) rest)) (sym is))

-- ---- steps without where they lie

pub plain_step-Cite : (by : By) → plain_step (CiteStep by) ≡ Cited by
unfolding plain_step
plain_step-Cite by = refl

pub plain_step-Hence : (lit : Lit) (cert : Option Cert) → plain_step (HenceStep lit cert) ≡ Inferred lit cert
unfolding plain_step
plain_step-Hence lit cert = refl

pub plain_step-Make : (construction : Construction) (names : List (List ℕ)) (certs : List Cert) → plain_step (MakeStep construction names certs) ≡ Made construction names certs
unfolding plain_step
plain_step-Make construction names certs = refl

pub plain_step-Apply : (theorem : ℕ) (args : List (Option Obj)) (names : List (List ℕ)) (certs : List Cert) → plain_step (ApplyStep theorem args names certs) ≡ Applied theorem args names certs
unfolding plain_step
plain_step-Apply theorem args names certs = refl

pub plain_step-Claim : (shown : List Lit) (inner : Box Block Global) → plain_step (ClaimStep shown inner) ≡ Claimed shown (script_of inner.value)
unfolding plain_step
plain_step-Claim shown inner = ap (Claimed shown) (row_script-block inner (close_script inner.value.close))

pub plain_step-Superposed : (superposition : Superpose) (names : List (List ℕ)) (shown : List Lit) (certs : List Cert) (inner : Box Block Global) → plain_step (SuperposedStep superposition names shown certs inner) ≡ Copied superposition names shown certs (script_of inner.value)
unfolding plain_step
plain_step-Superposed superposition names shown certs inner = ap (Copied superposition names shown certs) (row_script-block inner (close_script inner.value.close))

pub ruleset plain_steps = (plain_step-Cite, plain_step-Hence, plain_step-Make, plain_step-Apply, plain_step-Claim, plain_step-Superposed)

-- a step before what comes after it
pub step_script-plain : (s : Step) (rest : Script) → step_script s rest ≡ before (plain_step s) rest
unfolding step_script plain_step
step_script-plain (CiteStep by) rest = refl
step_script-plain (HenceStep lit cert) rest = refl
step_script-plain (MakeStep construction names certs) rest = refl
step_script-plain (ApplyStep theorem args names certs) rest = refl
step_script-plain (Claim' shown p0 n0 row0 close0) rest = refl
step_script-plain (Superposed' superposition names shown certs p0 n0 row0 close0) rest = refl
