-- Theorems that their titles name.
use Rattle.std.specs.Prelude.{ℕ, Bool, false, ◌&&◌, ◌==◌, List, Option, None, Some}
use Rattle.e_text.specs.Names.{is_title}
use Rattle.e_names.specs.TitledStatements.{TitledStatement, place_in, title_at}

-- a place, if it is found, is this one
abbrev pub is_found_at : ℕ → Option ℕ → Bool
is_found_at k None = false
is_found_at k (Some i) = i == k

-- the theorem at a place has a title, and is the first with it
abbrev pub is_named_by_title : List TitledStatement → ℕ → Bool
is_named_by_title known k =
    is_title (title_at known k) && is_found_at k (place_in known (title_at known k))
