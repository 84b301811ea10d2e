-- Definitions that are known: their titles and their notions, in order.
use Rattle.std.specs.Prelude.{ℕ, Bool, ◌&&◌, List, [], ◌∷◌, Option, Some, None, map, if◌then◌else◌}
use Rattle.std.specs.List.{list_all, list_any}
use Rattle.std.specs.Str.{bytes_eq}
use Rattle.e_theorem.specs.declared.notion.Notion.{Notion}
use Rattle.e_theorem.specs.Notions.{as_stated, means_something}
use Rattle.e_deriv.specs.Fitting.{is_small_statement}

-- a notion under its title
pub record Titled : Type 0 where
  pub title : List ℕ
  pub notion : Notion

abbrev pub titled_notion : List ℕ → Notion → Titled
titled_notion title notion = record { title = title; notion = notion }

-- the titles and the notions side by side
abbrev pub side_by_side : List (List ℕ) → List Notion → List Titled
side_by_side (t ∷ ts) (n ∷ ns) = titled_notion t n ∷ side_by_side ts ns
side_by_side (t ∷ ts) [] = []
side_by_side [] ns = []

-- a definition has this title
abbrev pub defines : List Titled → List ℕ → Bool
defines notions title = list_any (bytes_eq title) (map (λ n. n.title) notions)

-- the notion with this title
abbrev pub notion_of : List Titled → List ℕ → Option Notion
notion_of [] title = None
notion_of (n ∷ ns) title = if bytes_eq title n.title then Some n.notion else notion_of ns title

-- a notion means at least one literal, and speaks of its declared objects alone
abbrev pub is_notion : Notion → Bool
is_notion n = means_something n && is_small_statement (as_stated n)

abbrev pub are_notions : List Titled → Bool
are_notions notions = list_all (λ n. is_notion n.notion) notions
