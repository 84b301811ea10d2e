use Rattle.std.specs.Prelude.{option_copied}
use Rattle.e_metric.proofs.rows.SystemRows.{all_rows}
use Rattle.e_metric.proofs.systems.system.Goals as goal

pub returns-clause-rows : goal.returns-clause-rows
returns-clause-rows c = all_rows c.args.which c.args.facts.now (option_copied c.args.goal) c.args.terms.now c.new-rows.result.items _ _ _ _
    c.new-rows.ensures.items c.requires.terms
    c.in_ok-add_fact_rows.ensures c.in_ok-add_goal_row.ensures c.in_ok-add_term_rows.ensures c.in_ok-add_right_row.ensures
