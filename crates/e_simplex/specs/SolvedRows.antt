-- Rows with their solved table, and values that satisfy them.
use Rattle.std.specs.Prelude.{ℕ, false, List}
use Rattle.e_literal.specs.declared.object.Term.{Term}
use Rattle.e_fraction.specs.declared.row.Row.{Row as GivenRow}
use Rattle.e_fraction.specs.Views.{views_of_rows}
use Rattle.e_simplex.specs.declared.table.Table.{Table}
use Rattle.e_simplex.specs.Naming.{AreOnce, AllNamed, named_constraints}
use Rattle.e_simplex.specs.Solved.{IsSolved, columns_of}
use Rattle.e_simplex.specs.Answer.{AreValuesOf}

-- the table is that of the constraints of the rows, over the columns of the terms and some to spare
pub record IsTableFor (rows : List GivenRow) (terms : List Term) (s : Table) : Type 0 where
  pub once : AreOnce terms
  pub named : AllNamed terms (views_of_rows rows)
  pub solved : IsSolved (columns_of s) (named_constraints false terms (views_of_rows rows)) s

pub record AreSolved (rows : List GivenRow) (terms : List Term) (s : Table)
    (values : List (Term × ℕ)) : Type 0 where
  pub table : IsTableFor rows terms s
  pub satisfied : AreValuesOf (views_of_rows rows) values
