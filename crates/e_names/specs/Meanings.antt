-- What items mean: literals of the objects in scope.
use Rattle.std.specs.Prelude.{ℕ, ◌+◌, ◌-◌, ◌==◌, List, [], ◌∷◌, ◌++◌, length, take, Option, Some}
use Rattle.std.specs.Prelude.{None, Result, Ok, Err}
use Rattle.e_literal.specs.declared.literal.Lit.{Lit}
use Rattle.e_theorem.specs.declared.notion.Notion.{Notion}
use Rattle.e_theorem.specs.Notions.{literals_of_notion}
use Rattle.e_deriv.specs.declared.names.Names.{Names}
use Rattle.e_line.specs.declared.fault.FaultKind.{FaultKind}
use Rattle.e_line.specs.declared.fault.FaultKind.TheVariants.{UnknownName}
use Rattle.e_line.specs.declared.items.RawAs.{RawAs}
use Rattle.e_line.specs.declared.items.RawItem.{RawItem}
use Rattle.e_line.specs.declared.items.RawItem.TheVariants.{Literal, As}
use Rattle.e_line.specs.Reading.{◌>>=◌}
use Rattle.e_line.specs.Limits.{most_expanded}
use Rattle.e_names.specs.Scope.{scope_of_names, right_count, objects_of_sorts, lit_in}
use Rattle.e_names.specs.Titled.{Titled, notion_of}

abbrev pub known_notion : Option Notion → Result Notion FaultKind
known_notion None = Err UnknownName
known_notion (Some n) = Ok n

-- the title, then how many names there are, then the names: the literals of the notion with their
-- objects for its declared ones, or the first of them where there are more than this many
unfoldable pub meant_in : List Titled → Names → ℕ → RawAs → Result (List Lit) FaultKind
meant_in notions ns most raw = do
  n ← known_notion (notion_of notions raw.title)
  right ← right_count (length raw.args == length n.declared)
  args ← objects_of_sorts ns n.declared raw.args
  Ok (take most (literals_of_notion n args (scope_of_names ns)))

-- what an item means, and how many literals of the line are of notions, of which this many
-- come before it. One more than a theorem may have is for all that are too many: then the line
-- passes a limit, whatever else it has.
abbrev pub item_in : List Titled → Names → ℕ → RawItem → Result (List Lit × ℕ) FaultKind
item_in notions ns n (Literal raw) = lit_in ns raw >>= λ l. Ok (l ∷ [], n)
item_in notions ns n (As raw) =
    meant_in notions ns (most_expanded + 1 - n) raw >>= λ ls. Ok (ls, n + length ls)

-- what the items of a line mean, in order, and how many of these literals are of notions
abbrev pub items_in : List Titled → Names → ℕ → List RawItem → Result (List Lit × ℕ) FaultKind
items_in notions ns n [] = Ok ([], n)
items_in notions ns n (item ∷ items) =
    item_in notions ns n item >>= λ p. items_in notions ns p.1 items >>= λ q. Ok (p.0 ++ q.0, q.1)
