use Rattle.std.proofs.Common.{refl, None}
use Rattle.e_metric.proofs.answers.SolvedSystems.{in_order, few_named, small_named}
use Rattle.e_metric.proofs.kind_system.solve_kind.Goals as goal

pub prepare-requires-clause-few : goal.prepare-requires-clause-few
prepare-requires-clause-few c =
    few_named c.args.which c.args.facts.now None c.in_ok-names.names.items c.in_ok-names.rows.items
    (in_order c.args.which c.args.facts.now None c.in_ok-named.named.items c.in_ok-names.names.items c.in_ok-names.rows.items c.in_ok-named.ensures.rows c.in_ok-named.ensures.limited c.in_ok-names.ensures.names c.in_ok-names.ensures.rows) c.requires.facts c.requires.few refl

pub prepare-requires-clause-coefficients : goal.prepare-requires-clause-coefficients
prepare-requires-clause-coefficients c =
    small_named c.args.which c.args.facts.now None c.in_ok-names.names.items c.in_ok-names.rows.items
    (in_order c.args.which c.args.facts.now None c.in_ok-named.named.items c.in_ok-names.names.items c.in_ok-names.rows.items c.in_ok-named.ensures.rows c.in_ok-named.ensures.limited c.in_ok-names.ensures.names c.in_ok-names.ensures.rows) c.requires.facts c.requires.few refl

pub system_of_prepared-requires-clause-prepared : goal.system_of_prepared-requires-clause-prepared
system_of_prepared-requires-clause-prepared c = record {
  rows = c.in_ok-names.rows.items;
  rows_of = in_order c.args.which c.args.facts.now None c.in_ok-named.named.items c.in_ok-names.names.items c.in_ok-names.rows.items c.in_ok-named.ensures.rows c.in_ok-named.ensures.limited c.in_ok-names.ensures.names c.in_ok-names.ensures.rows;
  prepared = c.in_ok-prepared.ensures;
}
