-- The title of an earlier theorem and its made objects, by its place.
use Rattle.std.proofs.Common.{◌≡◌, ℕ, ◌≤◌, List, [], length, Some, ap, arith}
use Rattle.std.specs.Prelude.{slice_get, unwrap_or}
use Rattle.std.proofs.lemmas.Grind.{common_steps}
use Rattle.std.proofs.lemmas.List.{get_or_past, length-map}
use Rattle.std.proofs.lemmas.Option.{get_or_from_slice_get, slice_get_past}
use Rattle.e_literal.specs.declared.object.Sort.{Sort}
use Rattle.e_theorem.specs.Statements.{as_view}
use Rattle.e_deriv.specs.declared.names.Names.{Names}
use Rattle.e_deriv.specs.Naming.{with_new_names}
use Rattle.e_deriv.specs.PlacedSteps.{no_statement}
use Rattle.e_names.specs.TitledStatements.{TitledStatement, titles, statements, stated_by, title_at, theorem_of}

pub title_found : (known : List TitledStatement) (k : ℕ) (title : List ℕ) → slice_get (titles known) k ≡ Some title → title_at known k ≡ title
title_found known k title e = get_or_from_slice_get (titles known) k title [] e

pub title_past : (known : List TitledStatement) (k : ℕ) → length known ≤ k → title_at known k ≡ []
title_past known k le = get_or_past (titles known) k [] (omega (arith, length-map known (λ (h : TitledStatement). h.title)))

pub ruleset titles_at = (common_steps, title_found, title_past)

-- past the end nothing is made
pub none_made : (known : List TitledStatement) (k : ℕ) → length known ≤ k → (theorem_of known k).made ≡ []
none_made known k le =
    let all = stated_by known in
    let past : length all ≤ k = omega (arith, length-map (statements known) as_view, length-map known (λ (h : TitledStatement). h.statement)) in
    ap (λ o. (unwrap_or o no_statement).made) (slice_get_past all k past)

pub none_named : (known : List TitledStatement) (k : ℕ) (ns : Names) (names : List (List ℕ)) → length known ≤ k → with_new_names ns (theorem_of known k).made names ≡ ns
none_named known k ns names le = ap (λ (s : List Sort). with_new_names ns s names) (none_made known k le)

pub ruleset made_past = (common_steps, none_named)
