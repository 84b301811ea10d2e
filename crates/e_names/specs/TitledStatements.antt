-- Theorems that are known: their titles and their statements, in order.
use Rattle.std.specs.Prelude.{ℕ, Bool, List, [], ◌∷◌, Option, map, slice_index_or}
use Rattle.std.specs.List.{list_any, position}
use Rattle.std.specs.Str.{bytes_eq}
use Rattle.e_literal.specs.Use.{StatementView}
use Rattle.e_theorem.specs.declared.statement.Statement.{Statement}
use Rattle.e_theorem.specs.Statements.{as_views}
use Rattle.e_deriv.specs.PlacedSteps.{theorem_at}

-- a statement under its title
pub record TitledStatement : Type 0 where
  pub title : List ℕ
  pub statement : Statement

abbrev pub titled_statement : List ℕ → Statement → TitledStatement
titled_statement title statement = record { title = title; statement = statement }

-- the titles and the statements side by side
abbrev pub side_by_side : List (List ℕ) → List Statement → List TitledStatement
side_by_side (t ∷ ts) (s ∷ ss) = titled_statement t s ∷ side_by_side ts ss
side_by_side (t ∷ ts) [] = []
side_by_side [] ss = []

abbrev pub titles : List TitledStatement → List (List ℕ)
titles known = map (λ h. h.title) known

abbrev pub statements : List TitledStatement → List Statement
statements known = map (λ h. h.statement) known

-- what they state
abbrev pub stated_by : List TitledStatement → List StatementView
stated_by known = as_views (statements known)

-- what the theorem at a place states; past the end one that says nothing
abbrev pub theorem_of : List TitledStatement → ℕ → StatementView
theorem_of known k = theorem_at (stated_by known) k

-- an earlier theorem has this title
abbrev pub is_known : List TitledStatement → List ℕ → Bool
is_known known title = list_any (bytes_eq title) (titles known)

-- the title of the theorem at a place; past the end no word
abbrev pub title_at : List TitledStatement → ℕ → List ℕ
title_at known k = slice_index_or (titles known) k []

-- where the theorem with this title is
abbrev pub place_in : List TitledStatement → List ℕ → Option ℕ
place_in known title = position (bytes_eq title) (titles known)
