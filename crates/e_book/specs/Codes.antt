-- How the logic stores a script: as the list of its lines, each before what comes after it.
use Rattle.std.specs.Prelude.{◌≡◌, ◌⊎◌, ℕ, List, [], ◌∷◌, Option, None, refl}
use Rattle.std.specs.Coded.{Coded, code_by, coded×, coded⊎, coded_ℕ, coded_list, coded_option}
use mathlib.Core.Logic.{inl, inr}
use mathlib.Core.Path.{ap, ◌∙◌}
use Rattle.e_literal.specs.declared.literal.Lit.{Lit}
use Rattle.e_literal.specs.contracts.literal.Lit as literal
use Rattle.e_literal.specs.declared.object.Obj.{Obj}
use Rattle.e_literal.specs.contracts.object.Obj as object
use Rattle.e_construct.specs.declared.construction.Construction.{Construction}
use Rattle.e_construct.specs.contracts.construction.Construction as constructions
use Rattle.e_construct.specs.declared.superpose.Superpose.{Superpose}
use Rattle.e_construct.specs.contracts.superpose.Superpose as superpositions
use Rattle.e_clause.specs.declared.cert.Against.{Against}
use Rattle.e_clause.specs.contracts.cert.Against as against
use Rattle.e_clause.specs.declared.cert.By.{By}
use Rattle.e_clause.specs.contracts.cert.By as citation
use Rattle.e_clause.specs.declared.cert.Cert.{Cert}
use Rattle.e_clause.specs.contracts.cert.Cert as certificate
use Rattle.e_deriv.specs.Script.{Script, Cite, Hence, Make, Apply, Claim, Superposed, Qed}
use Rattle.e_deriv.specs.Script.{Contradiction, Cases}
use Rattle.e_deriv.specs.PlainStep.{PlainStep, Cited, Inferred, Made, Applied, Claimed, Copied}
use Rattle.e_deriv.specs.PlainStep.{before}

-- names, and certificates
abbrev pub Named : Type 0
Named = List (List ℕ) × List Cert

-- what a line says: a step, or a close
abbrev pub StepLine : Type 0
StepLine =
    (By ⊎ (Lit × Option Cert)) ⊎ (((Construction × Named) ⊎ (ℕ × (List (Option Obj) × Named)))
    ⊎ (List Lit ⊎ (Superpose × (List Lit × Named))))

abbrev pub CloseLine : Type 0
CloseLine = (List Obj × List Cert) ⊎ (Option Against ⊎ Lit)

abbrev pub CodedLine : Type 0
CodedLine = StepLine ⊎ CloseLine

-- the lines of a script, and more after them
abbrev pub coded_lines : Script → List CodedLine → List CodedLine
coded_lines (Cite by rest) more = inl (inl (inl by)) ∷ coded_lines rest more
coded_lines (Hence lit cert rest) more = inl (inl (inr (lit, cert))) ∷ coded_lines rest more
coded_lines (Make construction names certs rest) more =
    inl (inr (inl (inl (construction, (names, certs))))) ∷ coded_lines rest more
coded_lines (Apply theorem args names certs rest) more =
    inl (inr (inl (inr (theorem, (args, (names, certs)))))) ∷ coded_lines rest more
coded_lines (Claim shown inner rest) more =
    inl (inr (inr (inl shown))) ∷ coded_lines inner (coded_lines rest more)
coded_lines (Superposed superposition names shown certs inner rest) more =
    inl (inr (inr (inr (superposition, (shown, (names, certs))))))
    ∷ coded_lines inner (coded_lines rest more)
coded_lines (Qed objects certs) more = inr (inl (objects, certs)) ∷ more
coded_lines (Contradiction cert) more = inr (inr (inl cert)) ∷ more
coded_lines (Cases lit first second) more =
    inr (inr (inr lit)) ∷ coded_lines first (coded_lines second more)

-- a line before the first of these scripts, or before the first two
abbrev pub before_one : (Script → Script) → List Script → List Script
before_one f [] = []
before_one f (s ∷ ss) = f s ∷ ss

abbrev pub before_two : (Script → Script → Script) → List Script → List Script
before_two f [] = []
before_two f (s ∷ []) = []
before_two f (s ∷ t ∷ ss) = f s t ∷ ss

abbrev pub put : CodedLine → List Script → List Script
put (inl (inl (inl by))) ss = before_one (Cite by) ss
put (inl (inl (inr p))) ss = before_one (Hence p.0 p.1) ss
put (inl (inr (inl (inl p)))) ss = before_one (Make p.0 p.1.0 p.1.1) ss
put (inl (inr (inl (inr p)))) ss = before_one (Apply p.0 p.1.0 p.1.1.0 p.1.1.1) ss
put (inl (inr (inr (inl shown)))) ss = before_two (Claim shown) ss
put (inl (inr (inr (inr p)))) ss = before_two (Superposed p.0 p.1.1.0 p.1.0 p.1.1.1) ss
put (inr (inl p)) ss = Qed p.0 p.1 ∷ ss
put (inr (inr (inl cert))) ss = Contradiction cert ∷ ss
put (inr (inr (inr lit))) ss = before_two (Cases lit) ss

-- the scripts whose lines these are
abbrev pub scripts : List CodedLine → List Script
scripts [] = []
scripts (l ∷ ls) = put l (scripts ls)

pub scripts-two : (f : Script → Script → Script) (s t : Script) {ss ss' more : List Script}
    → ss ≡ s ∷ ss' → ss' ≡ t ∷ more → before_two f ss ≡ f s t ∷ more
scripts-two f s t e e' = ap (before_two f) (e ∙ ap (λ ss. s ∷ ss) e')

pub scripts-lines : (s : Script) (more : List CodedLine)
    → scripts (coded_lines s more) ≡ s ∷ scripts more
scripts-lines (Cite by rest) more = ap (before_one (Cite by)) (scripts-lines rest more)
scripts-lines (Hence lit cert rest) more =
    ap (before_one (Hence lit cert)) (scripts-lines rest more)
scripts-lines (Make construction names certs rest) more =
    ap (before_one (Make construction names certs)) (scripts-lines rest more)
scripts-lines (Apply theorem args names certs rest) more =
    ap (before_one (Apply theorem args names certs)) (scripts-lines rest more)
scripts-lines (Claim shown inner rest) more =
    scripts-two (Claim shown) inner rest (scripts-lines inner (coded_lines rest more))
    (scripts-lines rest more)
scripts-lines (Superposed superposition names shown certs inner rest) more =
    scripts-two (Superposed superposition names shown certs) inner rest
    (scripts-lines inner (coded_lines rest more)) (scripts-lines rest more)
scripts-lines (Qed objects certs) more = refl
scripts-lines (Contradiction cert) more = refl
scripts-lines (Cases lit first second) more =
    scripts-two (Cases lit) first second (scripts-lines first (coded_lines second more))
    (scripts-lines second more)

abbrev pub first_script : List Script → Script
first_script [] = Contradiction None
first_script (s ∷ ss) = s

abbrev pub named_code : Coded Named
named_code = coded× (coded_list (coded_list coded_ℕ)) (coded_list certificate.the_row.coded)

abbrev pub step_line_code : Coded StepLine
step_line_code =
    coded⊎ (coded⊎ citation.the_row.coded
    (coded× literal.the_row.coded (coded_option certificate.the_row.coded)))
    (coded⊎ (coded⊎ (coded× constructions.the_row.coded named_code)
    (coded× coded_ℕ (coded× (coded_list (coded_option object.the_row.coded)) named_code)))
    (coded⊎ (coded_list literal.the_row.coded) (coded× superpositions.the_row.coded
    (coded× (coded_list literal.the_row.coded) named_code))))

abbrev pub close_line_code : Coded CloseLine
close_line_code =
    coded⊎ (coded× (coded_list object.the_row.coded) (coded_list certificate.the_row.coded))
    (coded⊎ (coded_option against.the_row.coded) literal.the_row.coded)

abbrev pub script_code : Coded Script
script_code =
    code_by (List CodedLine) (coded_list (coded⊎ step_line_code close_line_code))
    (λ s. coded_lines s []) (λ ls. first_script (scripts ls))
    (λ s. ap first_script (scripts-lines s []))

-- a step is stored as a script that begins with it
abbrev pub first_step : Script → PlainStep
first_step (Cite by rest) = Cited by
first_step (Hence lit cert rest) = Inferred lit cert
first_step (Make construction names certs rest) = Made construction names certs
first_step (Apply theorem args names certs rest) = Applied theorem args names certs
first_step (Claim shown inner rest) = Claimed shown inner
first_step (Superposed superposition names shown certs inner rest) =
    Copied superposition names shown certs inner
first_step (Qed objects certs) = Claimed [] (Qed objects certs)
first_step (Contradiction cert) = Claimed [] (Contradiction cert)
first_step (Cases lit first second) = Claimed [] (Cases lit first second)

pub first_step-before : (s : PlainStep) → first_step (before s (Contradiction None)) ≡ s
first_step-before (Cited by) = refl
first_step-before (Inferred lit cert) = refl
first_step-before (Made construction names certs) = refl
first_step-before (Applied theorem args names certs) = refl
first_step-before (Claimed shown inner) = refl
first_step-before (Copied superposition names shown certs inner) = refl

abbrev pub steps_code : Coded (List PlainStep)
steps_code =
    coded_list (code_by Script script_code
    (λ s. before s (Contradiction None)) first_step first_step-before)
