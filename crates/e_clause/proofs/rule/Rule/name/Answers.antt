use Rattle.e_clause.proofs.Names.{found_by_name}
use Rattle.e_clause.proofs.rule.Rule.name.Goals as goal

pub returns-clause-found : goal.returns-clause-found
returns-clause-found c = found_by_name c.args.self.now _ c.table_row.ensures
