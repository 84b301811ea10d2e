-- A statement as its four lists.
use Rattle.std.specs.Prelude.{List, map}
use Rattle.e_literal.specs.Use.{StatementView}
use Rattle.e_theorem.specs.declared.statement.Statement.{Statement}

abbrev pub as_view : Statement → StatementView
as_view t = record { declared = t.declared; given = t.given; made = t.made; shown = t.shown }

-- the statements of a list
abbrev pub as_views : List Statement → List StatementView
as_views ts = map as_view ts
