-- The rows that the code names, and where it reads their names.
use Rattle.std.specs.Prelude.{◌++◌, Bool, true, false}
use Rattle.std.specs.Option.{option_map, option_copied}
use Rattle.e_literal.specs.Rows.{Row, Sense, Summands, plus, minus, negative, normal_summands}
use Rattle.e_literal.specs.Rows as senses
use Rattle.e_clause.specs.Sum
use Rattle.e_clause.specs.System.{pos_row, top_row, right_row, least_row}
use Rattle.e_verify.specs.declared.rows.RowSense.{RowSense}
use Rattle.e_verify.specs.declared.rows.RowSense.TheVariants.{Zero, AtLeast, More, Differs}
use Rattle.e_verify.specs.declared.rows.LitRow.{LitRow}
use Rattle.e_verify.specs.declared.rows.Row.{Row as CodeRow}
use Rattle.e_verify.specs.declared.rows.Row.TheVariants.{Sums, Pos, Top, Right, Least}
use Rattle.e_verify.specs.declared.rows.RowScope.{RowScope}

abbrev pub sense_view : RowSense → Sense
sense_view Zero = senses.Zero
sense_view AtLeast = senses.AtLeast
sense_view More = senses.More
sense_view Differs = senses.Not

-- the form, or minus the form
abbrev pub form_turned : Bool → Summands → Summands
form_turned true form = negative form
form_turned false form = form

abbrev pub row_view : CodeRow → Row
row_view (Sums sense x y turned) =
    record {
      sense = sense_view sense;
      form = form_turned turned (normal_summands (plus x.now ++ minus y.now));
    }
row_view (Pos t) = pos_row t
row_view (Top t) = top_row t
row_view Right = right_row
row_view (Least t) = least_row t

abbrev pub lit_row_view : LitRow → Row
lit_row_view c =
    record {
      sense = sense_view c.sense;
      form = normal_summands (plus c.plus.now ++ minus c.minus.now);
    }

abbrev pub row_scope_view : RowScope → Sum.RowScope
row_scope_view p =
    record {
      facts = p.facts.now;
      wanted = option_copied p.wanted;
      above = option_map row_view p.above;
      below = option_map row_view p.below;
    }
