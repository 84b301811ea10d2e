-- Words each of which is a name.
use Rattle.std.specs.Prelude.{◌≡◌, ℕ, true, List}
use Rattle.std.specs.List.{AllByRecursion}
use Rattle.e_text.specs.Names.{is_name}

abbrev pub AreNames : List (List ℕ) → Type 0
AreNames names = AllByRecursion (λ n. is_name n ≡ true) names
