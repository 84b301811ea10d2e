-- Arguments with blanks.
use Rattle.std.specs.Prelude.{List, [], ◌∷◌, Bool, true, false, ◌&&◌, Option, Some, None}
use Rattle.e_literal.specs.declared.object.Sort.{Sort}
use Rattle.e_literal.specs.declared.object.Obj.{Obj}
use Rattle.e_literal.specs.declared.object.Scope.{Scope}
use Rattle.e_literal.specs.Literal.{is_in_scope}
use Rattle.e_literal.specs.Scopes.{same_sort}
use Rattle.e_literal.specs.Use.{StatementView}

-- one entry for each sort; a written object is of its sort, and in scope
abbrev pub are_entries : Scope → List Sort → List (Option Obj) → Bool
are_entries s [] [] = true
are_entries s (sort ∷ sorts) (None ∷ entries) = are_entries s sorts entries
are_entries s (sort ∷ sorts) (Some o ∷ entries) =
    same_sort sort o.sort && (is_in_scope s o && are_entries s sorts entries)
are_entries s _ _ = false

-- one entry for each declared object
abbrev pub is_pattern : StatementView → Scope → List (Option Obj) → Bool
is_pattern t s pattern = are_entries s t.declared pattern
