-- The texts of scripts, from those of their lines.
use Rattle.std.proofs.Common.{◌≡◌, ℕ, List, [], ◌∷◌, ◌++◌, map, refl, sym, ap, ◌∙◌, append_assoc, Option}
use Rattle.std.specs.Option.{option_to_list}
use Rattle.std.proofs.lemmas.Grind.{common_steps}
use Rattle.e_literal.specs.declared.literal.Lit.{Lit}
use Rattle.e_literal.specs.declared.object.Obj.{Obj}
use Rattle.e_clause.specs.declared.cert.Against.{Against}
use Rattle.e_clause.specs.declared.cert.Cert.{Cert}
use Rattle.e_construct.specs.Construct.{sorts_made}
use Rattle.e_construct.specs.Superposing as superposing
use Rattle.e_deriv.specs.declared.names.Names.{Names}
use Rattle.e_deriv.specs.Naming.{with_new_names}
use Rattle.e_deriv.specs.declared.block.Step.{Step}
use Rattle.e_deriv.specs.Script.{Script, Qed, Contradiction, Cases, steps_script}
use Rattle.e_deriv.specs.PlainStep.{PlainStep, Cited, Inferred, Made, Applied, Claimed, Copied, plain_step, before}
use Rattle.e_deriv.proofs.Scripts.{scripts, plain_steps, step_script-plain}
use Rattle.e_line.specs.declared.raw_line.RawLine.{RawLine}
use Rattle.e_names.specs.TitledStatements.{TitledStatement, theorem_of}
use Rattle.e_line.specs.Canonical.{line_of}
use Rattle.e_names.specs.Canonical.{hence_raw_line, let_raw_line, apply_raw_line, claim_raw_line, superpose_raw_line, cases_raw_line, else_raw_line, qed_raw_line, contradiction_raw_line}
use Rattle.e_book.specs.Canonical.{text_of}
use Rattle.e_spell.specs.Certificates.{certs_lines}
use Rattle.e_spell.specs.Spelling.{script_lines}
use Rattle.e_spell.specs.inner.Parts.{raw_line_text, certs_text, superposition_text, script_text, step_text, steps_text, names_after_step, names_after, qed_text, contradicted_text, split_text}
use Rattle.e_spell.proofs.CertTexts.{of_certs, of_contradiction}

pub of_lines : (xs ys : List (List ℕ)) → text_of (xs ++ ys) ≡ text_of xs ++ text_of ys
of_lines [] ys = refl
of_lines (x ∷ xs) ys = ap (λ (t : List ℕ). (x ++ 10 ∷ []) ++ t) (of_lines xs ys) ∙ sym (append_assoc (x ++ 10 ∷ []) (text_of xs) (text_of ys))

-- certificates, and what comes after them
of_certified : (ns : Names) (cs : List Cert) (rest : List (List ℕ)) → text_of (certs_lines ns cs ++ rest) ≡ certs_text ns cs ++ text_of rest
of_certified ns cs rest = of_lines (certs_lines ns cs) rest ∙ ap (λ (t : List ℕ). t ++ text_of rest) (of_certs ns cs)

-- ---- steps

-- a line, its certificates, and what comes after them
line_certified : (f : RawLine) (ns : Names) (cs : List Cert) (rest : List (List ℕ)) → text_of (line_of f ∷ (certs_lines ns cs ++ rest)) ≡ (raw_line_text f ++ certs_text ns cs) ++ text_of rest
line_certified f ns cs rest = ap (λ (t : List ℕ). raw_line_text f ++ t) (of_certified ns cs rest) ∙ sym (append_assoc (raw_line_text f) (certs_text ns cs) (text_of rest))

before_text : (known : List TitledStatement) (ns : Names) (s : PlainStep) (rest : Script) → script_text known ns (before s rest) ≡ step_text known ns s ++ script_text known (names_after_step known ns s) rest
unfolding script_text script_lines superposition_text
before_text known ns (Cited by) rest = refl
before_text known ns (Inferred lit cert) rest = line_certified (hence_raw_line ns lit) ns (option_to_list cert) (script_lines known ns rest)
before_text known ns (Made construction names certs) rest = line_certified (let_raw_line ns construction names) ns certs (script_lines known (with_new_names ns (sorts_made construction) names) rest)
before_text known ns (Applied theorem args names certs) rest =
    line_certified (apply_raw_line known ns theorem args names) ns certs (script_lines known (with_new_names ns (theorem_of known theorem).made names) rest)
before_text known ns (Claimed shown inner) rest =
    let line = raw_line_text (claim_raw_line ns shown) in
    let inside = script_lines known ns inner in
    let after = script_lines known ns rest in
    ap (λ (t : List ℕ). line ++ t) (of_lines inside after) ∙ sym (append_assoc line (text_of inside) (text_of after))
before_text known ns (Copied superposition names shown certs inner) rest =
    let line = raw_line_text (superpose_raw_line ns superposition names shown) in
    let inside = script_lines known (with_new_names ns superposing.sorts_copied names) inner in
    let after = script_lines known ns rest in
    ap (λ (t : List ℕ). line ++ t) (of_certified ns certs (inside ++ after) ∙ ap (λ (t : List ℕ). certs_text ns certs ++ t) (of_lines inside after) ∙ sym (append_assoc (certs_text ns certs) (text_of inside) (text_of after)))
    ∙ sym (append_assoc line (certs_text ns certs ++ text_of inside) (text_of after))

pub of_steps : (known : List TitledStatement) (ns : Names) (ss : List Step) (rest : Script)
    → script_text known ns (steps_script ss rest) ≡ steps_text known ns (map plain_step ss) ++ script_text known (names_after known ns (map plain_step ss)) rest
of_steps known ns [] rest = refl
of_steps known ns (s ∷ ss) rest =
    let later = names_after_step known ns (plain_step s) in
    ap (script_text known ns) (step_script-plain s (steps_script ss rest)) ∙ before_text known ns (plain_step s) (steps_script ss rest)
    ∙ ap (λ (t : List ℕ). step_text known ns (plain_step s) ++ t) (of_steps known later ss rest)
    ∙ sym (append_assoc (step_text known ns (plain_step s)) (steps_text known later (map plain_step ss)) (script_text known (names_after known later (map plain_step ss)) rest))

pub ruleset plain = (common_steps, plain_steps)

pub ruleset blocks = (common_steps, of_steps)

-- ---- closes

pub script_text-Qed : (known : List TitledStatement) (ns : Names) (objects : List Obj) (cs : List Cert) → script_text known ns (Qed objects cs) ≡ qed_text ns objects cs
unfolding script_text script_lines
script_text-Qed known ns objects cs = ap (λ (t : List ℕ). raw_line_text (qed_raw_line ns objects) ++ t) (of_certs ns cs)

pub script_text-Contradiction : (known : List TitledStatement) (ns : Names) (against : Option Against) → script_text known ns (Contradiction against) ≡ contradicted_text ns against
unfolding script_text script_lines
script_text-Contradiction known ns against = ap (λ (t : List ℕ). raw_line_text contradiction_raw_line ++ t) (of_contradiction ns against)

pub script_text-Cases : (known : List TitledStatement) (ns : Names) (lit : Lit) (first second : Script) → script_text known ns (Cases lit first second) ≡ split_text known ns lit first second
unfolding script_text script_lines
script_text-Cases known ns lit first second =
    ap (λ (t : List ℕ). raw_line_text (cases_raw_line ns lit) ++ t) (of_lines (script_lines known ns first) (line_of else_raw_line ∷ script_lines known ns second))

pub ruleset closes = (common_steps, scripts, script_text-Qed, script_text-Contradiction, script_text-Cases)
