-- The sizes of a step, of what stands after it, and of the blocks inside.
use Rattle.std.proofs.Common.{◌≡◌, ℕ, ◌+◌, ◌<◌, ◌≤◌, List, [], sym, ap, ◌∙◌, arith, Box, Global}
use Rattle.e_literal.specs.declared.literal.Lit.{Lit}
use Rattle.e_construct.specs.declared.superpose.Superpose.{Superpose}
use Rattle.e_clause.specs.declared.cert.Cert.{Cert}
use Rattle.e_deriv.specs.declared.block.Block.{Block}
use Rattle.e_deriv.specs.declared.block.Close.{Close}
use Rattle.e_deriv.specs.declared.block.Step.{Step}
use Rattle.e_deriv.specs.declared.block.Step.TheVariants.{Cite as CiteStep, Hence as HenceStep, Make as MakeStep, Apply as ApplyStep, Claim as ClaimBlock, Superposed as SuperposedBlock, Claim' as ClaimStep, Superposed' as SuperposedStep}
use Rattle.e_deriv.specs.declared.block.Close.TheVariants.{Cases as CasesBlock}
use Rattle.e_deriv.specs.Script.{Script, Cite, Hence, Make, Apply, Claim, Superposed, Qed, Contradiction, Cases, step_script, close_script, script_of, size}
use Rattle.e_deriv.proofs.Scripts.{step_script-Claim, step_script-Superposed, close_script-Cases, size-Claim, size-Superposed, size-Qed, size-Cases}

-- a script has a line
pub one_line : (d : Script) → 1 ≤ size d
unfolding size
one_line (Cite by rest) = omega arith
one_line (Hence lit cert rest) = omega arith
one_line (Make construction names certs rest) = omega arith
one_line (Apply theorem args names certs rest) = omega arith
one_line (Claim shown inner rest) = omega arith
one_line (Superposed superposition names shown certs inner rest) = omega arith
one_line (Qed objects certs) = omega arith
one_line (Contradiction against) = omega arith
one_line (Cases lit first second) = omega arith

-- what stands after a step is shorter, and the step alone is not longer
pub size_step : (step : Step) (rest : Script) → size (step_script step rest) + 1 ≡ size (step_script step (Qed [] [])) + size rest
unfolding size step_script
size_step (CiteStep by) rest = omega arith
size_step (HenceStep lit cert) rest = omega arith
size_step (MakeStep construction names certs) rest = omega arith
size_step (ApplyStep theorem args names certs) rest = omega arith
size_step (ClaimStep shown p0 n0 row0 close0) rest = omega arith
size_step (SuperposedStep superposition names shown certs p0 n0 row0 close0) rest = omega arith

pub size_own : (step : Step) → 2 ≤ size (step_script step (Qed [] []))
unfolding size step_script
size_own (CiteStep by) = omega arith
size_own (HenceStep lit cert) = omega arith
size_own (MakeStep construction names certs) = omega arith
size_own (ApplyStep theorem args names certs) = omega arith
size_own (ClaimStep shown p0 n0 row0 close0) = omega arith
size_own (SuperposedStep superposition names shown certs p0 n0 row0 close0) = omega arith

pub size_claim : (shown : List Lit) (inner : Box Block Global) → size (step_script (ClaimBlock shown inner) (Qed [] [])) ≡ size (script_of inner.value) + 2
size_claim shown inner =
    let a = ap size (step_script-Claim shown inner (Qed [] [])) ∙ size-Claim shown (script_of inner.value) (Qed [] []) in
    let b = size-Qed [] [] in
    omega (arith, a, b)

pub size_superposed : (superposition : Superpose) (names : List (List ℕ)) (shown : List Lit) (certs : List Cert) (inner : Box Block Global) → size (step_script (SuperposedBlock superposition names shown certs inner) (Qed [] [])) ≡ size (script_of inner.value) + 2
size_superposed superposition names shown certs inner =
    let a = ap size (step_script-Superposed superposition names shown certs inner (Qed [] [])) ∙ size-Superposed superposition names shown certs (script_of inner.value) (Qed [] []) in
    let b = size-Qed [] [] in
    omega (arith, a, b)

pub size_cases : (lit : Lit) (first second : Box Block Global) → size (close_script (CasesBlock lit first second)) ≡ 1 + size (script_of first.value) + size (script_of second.value)
size_cases lit first second = ap size (close_script-Cases lit first second) ∙ size-Cases lit (script_of first.value) (script_of second.value)

-- ---- by which the walks through scripts end

pub rest_falls : (step : Step) (rest whole : Script) → whole ≡ step_script step rest → size rest < size whole
rest_falls step rest whole e =
    let a = ap size e in
    let b = size_step step rest in
    let c = size_own step in
    omega (arith, a, b, c)

pub step_falls : (step : Step) (rest whole : Script) → whole ≡ step_script step rest → size (step_script step (Qed [] [])) ≤ size whole
step_falls step rest whole e =
    let a = ap size e in
    let b = size_step step rest in
    let c = one_line rest in
    omega (arith, a, b, c)

pub claim_falls : (step : Step) (shown : List Lit) (inner : Box Block Global) (block : Block) → step ≡ ClaimBlock shown inner → block ≡ inner.value → size (step_script step (Qed [] [])) ≡ size (script_of block) + 2
claim_falls step shown inner block is e = ap (λ s. size (step_script s (Qed [] []))) is ∙ size_claim shown inner ∙ ap (λ x. size (script_of x) + 2) (sym e)

pub superposed_falls : (step : Step) (superposition : Superpose) (names : List (List ℕ)) (shown : List Lit) (certs : List Cert) (inner : Box Block Global) (block : Block) → step ≡ SuperposedBlock superposition names shown certs inner → block ≡ inner.value
    → size (step_script step (Qed [] [])) ≡ size (script_of block) + 2
superposed_falls step superposition names shown certs inner block is e =
    ap (λ s. size (step_script s (Qed [] []))) is ∙ size_superposed superposition names shown certs inner ∙ ap (λ x. size (script_of x) + 2) (sym e)

pub first_falls : (close : Close) (lit : Lit) (first second : Box Block Global) (block : Block) → close ≡ CasesBlock lit first second → block ≡ first.value → size (script_of block) + 2 ≤ size (close_script close)
first_falls close lit first second block is e =
    let a = ap (λ c. size (close_script c)) is ∙ size_cases lit first second in
    let b = ap (λ x. size (script_of x)) e in
    let c = one_line (script_of second.value) in
    omega (arith, a, b, c)

pub second_falls : (close : Close) (lit : Lit) (first second : Box Block Global) (block : Block) → close ≡ CasesBlock lit first second → block ≡ second.value → size (script_of block) + 2 ≤ size (close_script close)
second_falls close lit first second block is e =
    let a = ap (λ c. size (close_script c)) is ∙ size_cases lit first second in
    let b = ap (λ x. size (script_of x)) e in
    let c = one_line (script_of first.value) in
    omega (arith, a, b, c)
