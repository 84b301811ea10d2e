-- The title of an earlier theorem, by its place.
use Rattle.std.proofs.Common.{◌≡◌, ℕ, ◌≤◌, List, [], length, Some, arith}
use Rattle.std.specs.Prelude.{slice_get}
use Rattle.std.proofs.lemmas.Grind.{common_steps}
use Rattle.std.proofs.lemmas.List.{get_or_past, length-map}
use Rattle.std.proofs.lemmas.Option.{get_or_from_slice_get}
use Rattle.e_names.specs.TitledStatements.{TitledStatement, titles, title_at}

pub title_found : (known : List TitledStatement) (k : ℕ) (title : List ℕ) → slice_get (titles known) k ≡ Some title → title_at known k ≡ title
title_found known k title e = get_or_from_slice_get (titles known) k title [] e

pub title_past : (known : List TitledStatement) (k : ℕ) → length known ≤ k → title_at known k ≡ []
title_past known k le = get_or_past (titles known) k [] (omega (arith, length-map known (λ (h : TitledStatement). h.title)))

pub ruleset titles_at = (common_steps, title_found, title_past)
