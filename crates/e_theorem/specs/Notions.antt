-- A defined notion, and what it says of arguments.
use Rattle.std.specs.Prelude.{List, [], length, nat_lt, Bool}
use Rattle.e_literal.specs.declared.object.Obj.{Obj}
use Rattle.e_literal.specs.declared.object.Scope.{Scope}
use Rattle.e_literal.specs.declared.literal.Lit.{Lit}
use Rattle.e_literal.specs.Use.{StatementView, gives_of_use}
use Rattle.e_theorem.specs.declared.notion.Notion.{Notion}

-- as a statement that is given nothing and makes nothing: what the notion means is what it shows
abbrev pub as_stated : Notion → StatementView
as_stated n = record { declared = n.declared; given = []; made = []; shown = n.means }

-- its literals with the arguments for its declared objects, in order
abbrev pub literals_of_notion : Notion → List Obj → Scope → List Lit
literals_of_notion n args s = gives_of_use (as_stated n) args s

-- it means something
abbrev pub means_something : Notion → Bool
means_something n = nat_lt 0 (length n.means)
