use Rattle.std.proofs.Common.{◌∙◌, ap, arith}
use Rattle.e_deriv.specs.Script.{script_of, step_script, size}
use Rattle.e_prove.proofs.ReachedSteps.{one_line, claim_count, superposed_count}
use Rattle.e_prove.proofs.Blocks.{line_is_one}
use Rattle.e_prove.proofs.reach.step_count.Goals as goal

pub returns-in-Cite : goal.returns-in-Cite
returns-in-Cite c = λ rest. line_is_one c.args.step.now rest c.in-Cite.is

pub returns-in-Cite-2 : goal.returns-in-Cite-2
returns-in-Cite-2 c = λ rest. line_is_one c.args.step.now rest c.in-Cite.is

pub returns-in-Cite-3 : goal.returns-in-Cite-3
returns-in-Cite-3 c = λ rest. line_is_one c.args.step.now rest c.in-Cite.is

pub returns-in-Cite-4 : goal.returns-in-Cite-4
returns-in-Cite-4 c = λ rest. line_is_one c.args.step.now rest c.in-Cite.is

pub returns-in-Claim : goal.returns-in-Claim
returns-in-Claim c = λ rest. let is = ap (λ s. size (step_script s rest)) c.in-Claim.is ∙ claim_count c.in-Claim.shown c.in-Claim.inner rest in let same = ap (λ b. size (script_of b)) c.deref.ensures in omega (arith, is, same, c.size.ensures)

pub size-requires : goal.size-requires
size-requires c =
    let rest = one_line in
    let is = ap (λ s. size (step_script s rest)) c.in-Claim.is ∙ claim_count c.in-Claim.shown c.in-Claim.inner rest in
    let same = ap (λ b. size (script_of b)) c.deref.ensures in
    omega (arith, is, same, c.requires rest)

pub returns-in-Superposed : goal.returns-in-Superposed
returns-in-Superposed c = λ rest.
    let y = c.in-Superposed in
    let is = ap (λ s. size (step_script s rest)) y.is ∙ superposed_count y.superposition y.names y.shown y.certs y.inner rest in
    let same = ap (λ b. size (script_of b)) c.deref-in-Superposed.ensures in
    omega (arith, is, same, c.size-in-Superposed.ensures)

pub size-requires-in-Superposed : goal.size-requires-in-Superposed
size-requires-in-Superposed c =
    let rest = one_line in
    let y = c.in-Superposed in
    let is = ap (λ s. size (step_script s rest)) y.is ∙ superposed_count y.superposition y.names y.shown y.certs y.inner rest in
    let same = ap (λ b. size (script_of b)) c.deref-in-Superposed.ensures in
    omega (arith, is, same, c.requires rest)

pub overflow_add-result : goal.overflow_add-result
overflow_add-result c =
    let rest = one_line in
    let is = ap (λ s. size (step_script s rest)) c.in-Claim.is ∙ claim_count c.in-Claim.shown c.in-Claim.inner rest in
    let same = ap (λ b. size (script_of b)) c.deref.ensures in
    omega (arith, is, same, c.size.ensures, c.requires rest)

pub overflow_add-result-in-Superposed : goal.overflow_add-result-in-Superposed
overflow_add-result-in-Superposed c =
    let rest = one_line in
    let y = c.in-Superposed in
    let is = ap (λ s. size (step_script s rest)) y.is ∙ superposed_count y.superposition y.names y.shown y.certs y.inner rest in
    let same = ap (λ b. size (script_of b)) c.deref-in-Superposed.ensures in
    omega (arith, is, same, c.size-in-Superposed.ensures, c.requires rest)
