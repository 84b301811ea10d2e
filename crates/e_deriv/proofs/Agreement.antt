-- Lines that are certified, lines that are licensed, and proofs: what each gives of the others.
use Rattle.std.proofs.Common.{◌≡◌, ℕ, List, [], ◌∷◌, ◌++◌, refl, sym, subst, true, Option, Some, None, ◌&&◌, ltb, length, true≢false}
use Rattle.std.specs.Prelude.{IsTrue}
use Rattle.std.specs.List.{list_all}
use Rattle.std.proofs.lemmas.Bool.{and_from}
use Rattle.e_literal.specs.declared.literal.Lit.{Lit}
use Rattle.e_literal.specs.declared.object.Obj.{Obj}
use Rattle.e_literal.specs.declared.object.Scope.{Scope}
use Rattle.e_literal.specs.Literal.{negation}
use Rattle.e_literal.specs.Facts.{with_fact, with_facts}
use Rattle.e_literal.specs.Scopes.{with_sorts}
use Rattle.e_literal.specs.Use.{StatementView, are_arguments, needs_of_use, gives_of_use, scope_of}
use Rattle.e_literal.proofs.Booleans.{and_left, and_right, all_left, all_right}
use Rattle.e_clause.specs.Allowed.{AllAllowed}
use Rattle.e_clause.specs.Certify.{certify_all}
use Rattle.e_clause.proofs.Sound.{all_allowed_of_certified, contradictory_of_certified}
use Rattle.e_construct.specs.Construct.{sorts_made, gives_of_construction}
use Rattle.e_construct.specs.Superposing as superposing
use Rattle.e_theorem.specs.Choice.{fills, is_choice, IsAllowedChoice}
use Rattle.e_deriv.specs.Script.{Script, Cite, Hence, Make, Apply, Claim, Superposed, Qed, Contradiction, Cases}
use Rattle.e_deriv.specs.Parts.{rest_of, inner_of, args_of, args_written, filled_in, filled_by}
use Rattle.e_deriv.specs.Goal.{Goal, goal_of, facts_of_statement, goal_of_statement}
use Rattle.e_deriv.specs.PlacedSteps.{PlacedStep, placed_step, placed_steps, theorem_at, proof_steps}
use Rattle.e_deriv.specs.Steps.{fits, needs, are_over, is_applied}
use Rattle.e_deriv.specs.Proves.{Proves, IsProof}
use Rattle.e_deriv.specs.Licensed.{AllLicensed}
use Rattle.e_deriv.specs.Certified.{is_certified, certs_of, other_checks, Certified}
use Rattle.e_deriv.proofs.Choices.{written_again, no_blank_again, fills_again, least_of_good}

-- ---- lists of lines, one after the other

pub both_licensed : (before : List StatementView) (xs ys : List PlacedStep) → AllLicensed before xs → AllLicensed before ys → AllLicensed before (xs ++ ys)
both_licensed before [] ys h k = k
both_licensed before (x ∷ xs) ys h k = (h.0, both_licensed before xs ys h.1 k)

pub first_licensed : (before : List StatementView) (xs ys : List PlacedStep) → AllLicensed before (xs ++ ys) → AllLicensed before xs
first_licensed before [] ys h = tt
first_licensed before (x ∷ xs) ys h = (h.0, first_licensed before xs ys h.1)

pub second_licensed : (before : List StatementView) (xs ys : List PlacedStep) → AllLicensed before (xs ++ ys) → AllLicensed before ys
second_licensed before [] ys h = h
second_licensed before (x ∷ xs) ys h = second_licensed before xs ys h.1

-- ---- one line

-- what the test of a line says
record Parts (before : List StatementView) (x : PlacedStep) (more : List PlacedStep) : Type 0 where
  form : IsTrue (fits before x)
  certs : IsTrue (certify_all x.scope x.facts (needs before x) (certs_of x.here))
  others : IsTrue (other_checks x.here x.scope x.facts)
  rest : IsTrue (list_all (is_certified before) more)

parts_of : (before : List StatementView) (x : PlacedStep) (rest : List PlacedStep) → list_all (is_certified before) (x ∷ rest) ≡ true → Parts before x rest
parts_of before x rest h =
    let c = certify_all x.scope x.facts (needs before x) (certs_of x.here) in
    let b = other_checks x.here x.scope x.facts in
    let r = list_all (is_certified before) rest in
    let here = and_left (fits before x && (c && b)) r h in
    let both = and_right (fits before x) (c && b) here in
    record { form = and_left (fits before x) (c && b) here; certs = and_left c b both; others = and_right c b both; rest = and_right (fits before x && (c && b)) r h }

-- ---- certified lines are a proof

proves_of_certified : (before : List StatementView) (d : Script) (s : Scope) (facts : List Lit) (goal : Goal) →
    list_all (is_certified before) (placed_steps before d d s facts goal) ≡ true → Proves before s facts goal d
unfolding placed_steps Proves
proves_of_certified before (Cite by rest) s facts goal h =
    let x = placed_step (Cite by rest) (Cite by rest) s facts goal in
    let q = parts_of before x (placed_steps before rest rest s (with_fact facts by.lit) goal) h in
    (q.form, q.others, proves_of_certified before rest s (with_fact facts by.lit) goal q.rest)
proves_of_certified before (Hence lit None rest) s facts goal h =
    let x = placed_step (Hence lit None rest) (Hence lit None rest) s facts goal in
    let q = parts_of before x (placed_steps before rest rest s (with_fact facts lit) goal) h in
    absurd (true≢false (sym q.certs))
proves_of_certified before (Hence lit (Some cert) rest) s facts goal h =
    let x = placed_step (Hence lit (Some cert) rest) (Hence lit (Some cert) rest) s facts goal in
    let q = parts_of before x (placed_steps before rest rest s (with_fact facts lit) goal) h in
    (q.form, (all_allowed_of_certified s facts (needs before x) (certs_of x.here) q.certs).0, proves_of_certified before rest s (with_fact facts lit) goal q.rest)
proves_of_certified before (Make construction names certs rest) s facts goal h =
    let x = placed_step (Make construction names certs rest) (Make construction names certs rest) s facts goal in
    let after = with_facts facts (gives_of_construction construction s) in
    let q = parts_of before x (placed_steps before rest rest (with_sorts s (sorts_made construction)) after goal) h in
    (q.form, all_allowed_of_certified s facts (needs before x) certs q.certs, proves_of_certified before rest (with_sorts s (sorts_made construction)) after goal q.rest)
proves_of_certified before (Apply theorem args names certs rest) s facts goal h =
    let x = placed_step (Apply theorem args names certs rest) (Apply theorem args names certs rest) s facts goal in
    let t = theorem_at before theorem in
    let after = with_facts facts (gives_of_use t (args_written args) s) in
    let q = parts_of before x (placed_steps before rest rest (with_sorts s t.made) after goal) h in
    (q.others, q.form, all_allowed_of_certified s facts (needs before x) certs q.certs, proves_of_certified before rest (with_sorts s t.made) after goal q.rest)
proves_of_certified before (Claim shown inner rest) s facts goal h =
    let x = placed_step (Claim shown inner rest) (Claim shown inner rest) s facts goal in
    let one = placed_steps before inner inner s facts (goal_of shown) in
    let other = placed_steps before rest rest s (with_facts facts shown) goal in
    let q = parts_of before x (one ++ other) h in (
      q.form,
      proves_of_certified before inner s facts (goal_of shown) (all_left (is_certified before) one other q.rest),
      proves_of_certified before rest s (with_facts facts shown) goal (all_right (is_certified before) one other q.rest),
    )
proves_of_certified before (Superposed superposition names shown certs inner rest) s facts goal h =
    let x = placed_step (Superposed superposition names shown certs inner rest) (Superposed superposition names shown certs inner rest) s facts goal in
    let g = with_sorts s superposing.sorts_copied in
    let given = with_facts facts (superposing.gives_of_superposition superposition s) in
    let one = placed_steps before inner inner g given (goal_of shown) in
    let other = placed_steps before rest rest s (with_facts facts shown) goal in
    let q = parts_of before x (one ++ other) h in (
      and_left (superposing.fits_superposition superposition s) (are_over s shown) q.form,
      all_allowed_of_certified s facts (needs before x) certs q.certs,
      and_right (superposing.fits_superposition superposition s) (are_over s shown) q.form,
      proves_of_certified before inner g given (goal_of shown) (all_left (is_certified before) one other q.rest),
      proves_of_certified before rest s (with_facts facts shown) goal (all_right (is_certified before) one other q.rest),
    )
proves_of_certified before (Qed objects certs) s facts goal h =
    let x = placed_step (Qed objects certs) (Qed objects certs) s facts goal in
    let q = parts_of before x [] h in
    (q.form, all_allowed_of_certified s facts (needs before x) certs q.certs)
proves_of_certified before (Contradiction None) s facts goal h =
    let q = parts_of before (placed_step (Contradiction None) (Contradiction None) s facts goal) [] h in
    absurd (true≢false (sym q.others))
proves_of_certified before (Contradiction (Some a)) s facts goal h =
    let q = parts_of before (placed_step (Contradiction (Some a)) (Contradiction (Some a)) s facts goal) [] h in
    contradictory_of_certified s facts a q.others
proves_of_certified before (Cases lit first second) s facts goal h =
    let x = placed_step (Cases lit first second) (Cases lit first second) s facts goal in
    let one = placed_steps before first first s (with_fact facts lit) goal in
    let other = placed_steps before second second s (with_fact facts (negation lit)) goal in
    let q = parts_of before x (one ++ other) h in (
      q.form,
      proves_of_certified before first s (with_fact facts lit) goal (all_left (is_certified before) one other q.rest),
      proves_of_certified before second s (with_fact facts (negation lit)) goal (all_right (is_certified before) one other q.rest),
    )

-- ---- licensed lines are a proof, with the blanks filled

-- the filled arguments are a choice for themselves
applied_again : (before : List StatementView) (theorem : ℕ) (s : Scope) (pattern : List (Option Obj)) (args : List Obj) → is_applied before theorem s pattern args ≡ true → is_applied before theorem s (filled_in args) args ≡ true
applied_again before theorem s pattern args h =
    let low = ltb theorem (length before) in
    let t = theorem_at before theorem in
    and_from low (is_choice t s (filled_in args) args) (and_left low (is_choice t s pattern args) h)
    (and_from (fills (filled_in args) args) (are_arguments t s args) (fills_again args) (and_right (fills pattern args) (are_arguments t s args) (and_right low (is_choice t s pattern args) h)))

proves_of_licensed : (before : List StatementView) (d f : Script) (s : Scope) (facts : List Lit) (goal : Goal) → AllLicensed before (placed_steps before d f s facts goal) → Proves before s facts goal (filled_by d f)
unfolding placed_steps Proves filled_by
proves_of_licensed before (Cite by rest) f s facts goal h = (h.0.fits, h.0.others, proves_of_licensed before rest (rest_of f) s (with_fact facts by.lit) goal h.1)
proves_of_licensed before (Hence lit cert rest) f s facts goal h = (h.0.fits, h.0.allowed.0, proves_of_licensed before rest (rest_of f) s (with_fact facts lit) goal h.1)
proves_of_licensed before (Make construction names certs rest) f s facts goal h =
    (h.0.fits, h.0.allowed, proves_of_licensed before rest (rest_of f) (with_sorts s (sorts_made construction)) (with_facts facts (gives_of_construction construction s)) goal h.1)
proves_of_licensed before (Apply theorem pattern names certs rest) f s facts goal h =
    let t = theorem_at before theorem in
    let args = args_of f in
    let again : args ≡ args_written (filled_in args) = sym (written_again args) in (
      no_blank_again args,
      subst (λ xs. is_applied before theorem s (filled_in args) xs ≡ true) again (applied_again before theorem s pattern args h.0.fits),
      subst (λ xs. AllAllowed s facts (needs_of_use t xs s)) again h.0.allowed,
      subst (λ xs. Proves before (with_sorts s t.made) (with_facts facts (gives_of_use t xs s)) goal (filled_by rest (rest_of f))) again
          (proves_of_licensed before rest (rest_of f) (with_sorts s t.made) (with_facts facts (gives_of_use t args s)) goal h.1),
    )
proves_of_licensed before (Claim shown inner rest) f s facts goal h =
    let one = placed_steps before inner (inner_of f) s facts (goal_of shown) in
    let other = placed_steps before rest (rest_of f) s (with_facts facts shown) goal in (
      h.0.fits,
      proves_of_licensed before inner (inner_of f) s facts (goal_of shown) (first_licensed before one other h.1),
      proves_of_licensed before rest (rest_of f) s (with_facts facts shown) goal (second_licensed before one other h.1),
    )
proves_of_licensed before (Superposed superposition names shown certs inner rest) f s facts goal h =
    let g = with_sorts s superposing.sorts_copied in
    let given = with_facts facts (superposing.gives_of_superposition superposition s) in
    let one = placed_steps before inner (inner_of f) g given (goal_of shown) in
    let other = placed_steps before rest (rest_of f) s (with_facts facts shown) goal in (
      and_left (superposing.fits_superposition superposition s) (are_over s shown) h.0.fits,
      h.0.allowed,
      and_right (superposing.fits_superposition superposition s) (are_over s shown) h.0.fits,
      proves_of_licensed before inner (inner_of f) g given (goal_of shown) (first_licensed before one other h.1),
      proves_of_licensed before rest (rest_of f) s (with_facts facts shown) goal (second_licensed before one other h.1),
    )
proves_of_licensed before (Qed objects certs) f s facts goal h = (h.0.fits, h.0.allowed)
proves_of_licensed before (Contradiction against) f s facts goal h = h.0.others
proves_of_licensed before (Cases lit first second) f s facts goal h =
    let one = placed_steps before first (inner_of f) s (with_fact facts lit) goal in
    let other = placed_steps before second (rest_of f) s (with_fact facts (negation lit)) goal in (
      h.0.fits,
      proves_of_licensed before first (inner_of f) s (with_fact facts lit) goal (first_licensed before one other h.1),
      proves_of_licensed before second (rest_of f) s (with_fact facts (negation lit)) goal (second_licensed before one other h.1),
    )

-- ---- each line of a proof is licensed

licensed_of_proves : (before : List StatementView) (d : Script) (s : Scope) (facts : List Lit) (goal : Goal) → Proves before s facts goal d → AllLicensed before (placed_steps before d d s facts goal)
unfolding placed_steps Proves
licensed_of_proves before (Cite by rest) s facts goal h = (record { fits = h.0; allowed = tt; others = h.1 }, licensed_of_proves before rest s (with_fact facts by.lit) goal h.2)
licensed_of_proves before (Hence lit cert rest) s facts goal h = (record { fits = h.0; allowed = (h.1, tt); others = tt }, licensed_of_proves before rest s (with_fact facts lit) goal h.2)
licensed_of_proves before (Make construction names certs rest) s facts goal h =
    (record { fits = h.0; allowed = h.1; others = tt }, licensed_of_proves before rest (with_sorts s (sorts_made construction)) (with_facts facts (gives_of_construction construction s)) goal h.2)
licensed_of_proves before (Apply theorem args names certs rest) s facts goal h =
    let t = theorem_at before theorem in
    let good : IsAllowedChoice t s facts args (args_written args) = record { is_choice = and_right (ltb theorem (length before)) (is_choice t s args (args_written args)) h.1; allowed = h.2 } in (
      record { fits = h.1; allowed = h.2; others = least_of_good t s facts args (args_written args) h.0 good },
      licensed_of_proves before rest (with_sorts s t.made) (with_facts facts (gives_of_use t (args_written args) s)) goal h.3,
    )
licensed_of_proves before (Claim shown inner rest) s facts goal h =
    let one = placed_steps before inner inner s facts (goal_of shown) in
    let other = placed_steps before rest rest s (with_facts facts shown) goal in (
      record { fits = h.0; allowed = tt; others = tt },
      both_licensed before one other (licensed_of_proves before inner s facts (goal_of shown) h.1) (licensed_of_proves before rest s (with_facts facts shown) goal h.2),
    )
licensed_of_proves before (Superposed superposition names shown certs inner rest) s facts goal h =
    let g = with_sorts s superposing.sorts_copied in
    let given = with_facts facts (superposing.gives_of_superposition superposition s) in
    let one = placed_steps before inner inner g given (goal_of shown) in
    let other = placed_steps before rest rest s (with_facts facts shown) goal in (
      record { fits = and_from (superposing.fits_superposition superposition s) (are_over s shown) h.0 h.2; allowed = h.1; others = tt },
      both_licensed before one other (licensed_of_proves before inner g given (goal_of shown) h.3) (licensed_of_proves before rest s (with_facts facts shown) goal h.4),
    )
licensed_of_proves before (Qed objects certs) s facts goal h = (record { fits = h.0; allowed = h.1; others = tt }, tt)
licensed_of_proves before (Contradiction against) s facts goal h = (record { fits = refl; allowed = tt; others = h }, tt)
licensed_of_proves before (Cases lit first second) s facts goal h =
    let one = placed_steps before first first s (with_fact facts lit) goal in
    let other = placed_steps before second second s (with_fact facts (negation lit)) goal in (
      record { fits = h.0; allowed = tt; others = tt },
      both_licensed before one other (licensed_of_proves before first s (with_fact facts lit) goal h.1) (licensed_of_proves before second s (with_fact facts (negation lit)) goal h.2),
    )

-- ---- the same of the proof of a statement

pub proof_of_certified : (before : List StatementView) (t : StatementView) (d : Script) → Certified before t d → IsProof before t d
proof_of_certified before t d h = proves_of_certified before d (scope_of t) (facts_of_statement t) (goal_of_statement t) h

pub proof_of_licensed : (before : List StatementView) (t : StatementView) (d f : Script) → AllLicensed before (proof_steps before t d f) → IsProof before t (filled_by d f)
proof_of_licensed before t d f h = proves_of_licensed before d f (scope_of t) (facts_of_statement t) (goal_of_statement t) h

pub licensed_of_proof : (before : List StatementView) (t : StatementView) (d : Script) → IsProof before t d → AllLicensed before (proof_steps before t d d)
licensed_of_proof before t d h = licensed_of_proves before d (scope_of t) (facts_of_statement t) (goal_of_statement t) h
