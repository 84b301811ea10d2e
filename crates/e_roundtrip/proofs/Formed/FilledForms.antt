-- The lines of a certified derivation fit without their certificates too, whatever facts stand before them.
use Rattle.std.proofs.Common.{◌≡◌, ℕ, true, ltb, ◌&&◌, List, [], ◌∷◌, ◌++◌, length, Option, Some, None, refl, sym, true≢false}
use Rattle.std.specs.List.{list_all}
use Rattle.std.proofs.lemmas.Bool.{and_parts, and_from}
use Rattle.e_literal.specs.declared.object.Sort.{Sort}
use Rattle.e_literal.specs.declared.object.Obj.{Obj}
use Rattle.e_literal.specs.declared.object.Scope.{Scope}
use Rattle.e_literal.specs.declared.literal.Lit.{Lit}
use Rattle.e_literal.specs.Literal.{negation, is_in_scope}
use Rattle.e_literal.specs.Facts.{with_fact, with_facts}
use Rattle.e_literal.specs.Scopes.{with_sorts, same_sort, are_of_sorts}
use Rattle.e_literal.specs.Use.{StatementView, are_arguments, gives_of_use}
use Rattle.e_literal.proofs.Booleans.{all_both}
use Rattle.e_construct.specs.Construct.{sorts_made, gives_of_construction}
use Rattle.e_construct.specs.Superposing as superposing
use Rattle.e_theorem.specs.Choice.{fills, is_choice}
use Rattle.e_theorem.specs.Pattern.{are_entries, is_pattern}
use Rattle.e_deriv.specs.Script.{Script, Cite, Hence, Make, Apply, Claim, Superposed, Qed, Contradiction, Cases, bare_script}
use Rattle.e_deriv.specs.Goal.{Goal, goal_of}
use Rattle.e_deriv.specs.Parts.{rest_of, inner_of, args_of, args_written, has_no_blank}
use Rattle.e_deriv.specs.PlacedSteps.{placed_step, placed_steps, theorem_at}
use Rattle.e_deriv.specs.Steps.{is_applied}
use Rattle.e_deriv.specs.Certified.{is_certified}
use Rattle.e_book.proofs.fit_theorems.FittingScripts.{line_fits}
use Rattle.e_roundtrip.proofs.Formed.PlacedScripts.{first_of, both_of, one_certified}

-- ---- arguments that are a pattern without blanks

entries_of : (s : Scope) (sorts : List Sort) (pattern : List (Option Obj)) → has_no_blank pattern ≡ true → are_of_sorts s sorts (args_written pattern) ≡ true → are_entries s sorts pattern ≡ true
entries_of s [] [] n h = refl
entries_of s [] (None ∷ ps) n h = absurd (true≢false (sym n))
entries_of s [] (Some o ∷ ps) n h = absurd (true≢false (sym h))
entries_of s (sort ∷ sorts) [] n h = absurd (true≢false (sym h))
entries_of s (sort ∷ sorts) (None ∷ ps) n h = absurd (true≢false (sym n))
entries_of s (sort ∷ sorts) (Some o ∷ ps) n h =
    let p = and_parts (same_sort sort o.sort) (is_in_scope s o && are_of_sorts s sorts (args_written ps)) h in
    let q = and_parts (is_in_scope s o) (are_of_sorts s sorts (args_written ps)) p.1 in
    and_from (same_sort sort o.sort) (is_in_scope s o && are_entries s sorts ps) p.0 (and_from (is_in_scope s o) (are_entries s sorts ps) q.0 (entries_of s sorts ps n q.1))

-- an application that fits with its own arguments fits by its form
applied_form : (before : List StatementView) (theorem : ℕ) (s : Scope) (pattern : List (Option Obj)) → is_applied before theorem s pattern (args_written pattern) ≡ true → has_no_blank pattern ≡ true
    → (ltb theorem (length before) && is_pattern (theorem_at before theorem) s pattern) ≡ true
applied_form before theorem s pattern h n =
    let t = theorem_at before theorem in
    let p = and_parts (ltb theorem (length before)) (is_choice t s pattern (args_written pattern)) h in
    let q = and_parts (fills pattern (args_written pattern)) (are_arguments t s (args_written pattern)) p.1 in
    and_from (ltb theorem (length before)) (is_pattern t s pattern) p.0 (entries_of s t.declared pattern n q.1)

-- ---- each line

pub forms_of_certified : (before : List StatementView) (d f : Script) (s : Scope) (facts others : List Lit) (goal : Goal) → list_all (is_certified before) (placed_steps before d d s facts goal) ≡ true
    → list_all (line_fits before) (placed_steps before (bare_script d) f s others goal) ≡ true
unfolding placed_steps bare_script
forms_of_certified before (Cite by rest) f s facts others goal h =
    let x = placed_step (Cite by rest) (Cite by rest) s facts goal in
    let p = first_of (is_certified before) x (placed_steps before rest rest s (with_fact facts by.lit) goal) h in
    and_from _ _ (one_certified before x p.0).fitting (forms_of_certified before rest (rest_of f) s (with_fact facts by.lit) (with_fact others by.lit) goal p.1)
forms_of_certified before (Hence lit cert rest) f s facts others goal h =
    let x = placed_step (Hence lit cert rest) (Hence lit cert rest) s facts goal in
    let p = first_of (is_certified before) x (placed_steps before rest rest s (with_fact facts lit) goal) h in
    and_from _ _ (one_certified before x p.0).fitting (forms_of_certified before rest (rest_of f) s (with_fact facts lit) (with_fact others lit) goal p.1)
forms_of_certified before (Make construction names certs rest) f s facts others goal h =
    let x = placed_step (Make construction names certs rest) (Make construction names certs rest) s facts goal in
    let g = gives_of_construction construction s in
    let p = first_of (is_certified before) x (placed_steps before rest rest (with_sorts s (sorts_made construction)) (with_facts facts g) goal) h in
    and_from _ _ (one_certified before x p.0).fitting (forms_of_certified before rest (rest_of f) (with_sorts s (sorts_made construction)) (with_facts facts g) (with_facts others g) goal p.1)
forms_of_certified before (Apply theorem args names certs rest) f s facts others goal h =
    let x = placed_step (Apply theorem args names certs rest) (Apply theorem args names certs rest) s facts goal in
    let t = theorem_at before theorem in
    let after = with_facts facts (gives_of_use t (args_written args) s) in
    let p = first_of (is_certified before) x (placed_steps before rest rest (with_sorts s t.made) after goal) h in
    let one = one_certified before x p.0 in
    and_from _ _ (applied_form before theorem s args one.fitting one.beside)
    (forms_of_certified before rest (rest_of f) (with_sorts s t.made) after (with_facts others (gives_of_use t (args_of f) s)) goal p.1)
forms_of_certified before (Claim shown inner rest) f s facts others goal h =
    let x = placed_step (Claim shown inner rest) (Claim shown inner rest) s facts goal in
    let inside = placed_steps before inner inner s facts (goal_of shown) in
    let later = placed_steps before rest rest s (with_facts facts shown) goal in
    let p = first_of (is_certified before) x (inside ++ later) h in
    let q = both_of (is_certified before) inside later p.1 in
    and_from _ _ (one_certified before x p.0).fitting
    (all_both (line_fits before) (placed_steps before (bare_script inner) (inner_of f) s others (goal_of shown)) (placed_steps before (bare_script rest) (rest_of f) s (with_facts others shown) goal)
    (forms_of_certified before inner (inner_of f) s facts others (goal_of shown) q.0)
    (forms_of_certified before rest (rest_of f) s (with_facts facts shown) (with_facts others shown) goal q.1))
forms_of_certified before (Superposed superposition names shown certs inner rest) f s facts others goal h =
    let x = placed_step (Superposed superposition names shown certs inner rest) (Superposed superposition names shown certs inner rest) s facts goal in
    let within = with_sorts s superposing.sorts_copied in
    let g = superposing.gives_of_superposition superposition s in
    let inside = placed_steps before inner inner within (with_facts facts g) (goal_of shown) in
    let later = placed_steps before rest rest s (with_facts facts shown) goal in
    let p = first_of (is_certified before) x (inside ++ later) h in
    let q = both_of (is_certified before) inside later p.1 in
    and_from _ _ (one_certified before x p.0).fitting
    (all_both (line_fits before) (placed_steps before (bare_script inner) (inner_of f) within (with_facts others g) (goal_of shown)) (placed_steps before (bare_script rest) (rest_of f) s (with_facts others shown) goal)
    (forms_of_certified before inner (inner_of f) within (with_facts facts g) (with_facts others g) (goal_of shown) q.0)
    (forms_of_certified before rest (rest_of f) s (with_facts facts shown) (with_facts others shown) goal q.1))
forms_of_certified before (Qed objects certs) f s facts others goal h =
    let x = placed_step (Qed objects certs) (Qed objects certs) s facts goal in
    and_from _ _ (one_certified before x (first_of (is_certified before) x [] h).0).fitting refl
forms_of_certified before (Contradiction against) f s facts others goal h = refl
forms_of_certified before (Cases lit first second) f s facts others goal h =
    let x = placed_step (Cases lit first second) (Cases lit first second) s facts goal in
    let one = placed_steps before first first s (with_fact facts lit) goal in
    let other = placed_steps before second second s (with_fact facts (negation lit)) goal in
    let p = first_of (is_certified before) x (one ++ other) h in
    let q = both_of (is_certified before) one other p.1 in
    and_from _ _ (one_certified before x p.0).fitting
    (all_both (line_fits before) (placed_steps before (bare_script first) (inner_of f) s (with_fact others lit) goal) (placed_steps before (bare_script second) (rest_of f) s (with_fact others (negation lit)) goal)
    (forms_of_certified before first (inner_of f) s (with_fact facts lit) (with_fact others lit) goal q.0)
    (forms_of_certified before second (rest_of f) s (with_fact facts (negation lit)) (with_fact others (negation lit)) goal q.1))
