use Rattle.std.specs.Option.{option_map_or, option_copied}
use Rattle.std.proofs.Common.{true, ◌&&◌}
use Rattle.e_literal.specs.WellFormed.{is_well_formed}
use Rattle.std.specs.List.{list_all}
use Rattle.e_literal.proofs.Booleans.{and_left, and_right}
use Rattle.e_verify.specs.inner.Small.{is_small_row}
use Rattle.e_verify.proofs.arithmetic.SmallSums.{if_some}
use Rattle.e_verify.proofs.rows.row_named.Goals as goal

pub returns-in-Below-clause-small : goal.returns-in-Below-clause-small
returns-in-Below-clause-small c =
    let p = c.args.row_scope.now in
    let above = option_map_or is_small_row p.above true in
    let below = option_map_or is_small_row p.below true in
    let facts = list_all is_well_formed p.facts.now in
    if_some is_small_row p.below (and_left below facts (and_right above (below && facts) (and_right (option_map_or is_well_formed (option_copied p.wanted) true) (above && (below && facts)) c.requires.row_scope)))

pub row_at-requires : goal.row_at-requires
row_at-requires c =
    let p = c.args.row_scope.now in
    let above = option_map_or is_small_row p.above true in
    let below = option_map_or is_small_row p.below true in
    let facts = list_all is_well_formed p.facts.now in
    and_right below facts (and_right above (below && facts) (and_right (option_map_or is_well_formed (option_copied p.wanted) true) (above && (below && facts)) c.requires.row_scope))
