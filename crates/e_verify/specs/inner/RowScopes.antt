-- Where the names of rows are read, with literals that are well formed and small.
use Rattle.std.specs.Prelude.{Bool, true, ◌&&◌}
use Rattle.std.specs.Option.{option_map_or, option_copied}
use Rattle.std.specs.List.{list_all}
use Rattle.e_literal.specs.WellFormed.{is_well_formed}
use Rattle.e_verify.specs.declared.rows.RowScope.{RowScope}
use Rattle.e_verify.specs.inner.Small.{is_small_row}

-- what is wanted is well formed, and so are the facts, and the rows are small
abbrev pub is_well_formed_row_scope : RowScope → Bool
is_well_formed_row_scope p =
    option_map_or is_well_formed (option_copied p.wanted) true
    && (option_map_or is_small_row p.above true
    && (option_map_or is_small_row p.below true && list_all is_well_formed p.facts.now))
