-- What comes of the rows of facts that are to be solved.
use Rattle.std.specs.Prelude.{List, None}
use Rattle.e_literal.specs.declared.object.Kind.{Kind}
use Rattle.e_literal.specs.declared.literal.Lit.{Lit}
use Rattle.e_clause.specs.declared.cert.RowName.{RowName}
use Rattle.e_fraction.specs.declared.row.Row.{Row as GivenRow}
use Rattle.e_simplex.specs.declared.solved_rows.Prepared.{Prepared}
use Rattle.e_simplex.specs.Preparing.{IsPreparedRows}
use Rattle.e_metric.specs.SolvedSystems.{AreRowsOf}

-- it comes of the rows of the facts of the kind, which have these names
pub record IsPreparedSystem (which : Kind) (facts : List Lit) (names : List RowName)
    (p : Prepared) : Type 0 where
  pub rows : List GivenRow
  pub rows_of : AreRowsOf which facts None names rows
  pub prepared : IsPreparedRows rows p
