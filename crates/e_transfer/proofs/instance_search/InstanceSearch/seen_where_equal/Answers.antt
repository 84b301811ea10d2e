use Rattle.e_transfer.proofs.FreeAreas.{excluded_where_equal}
use Rattle.e_transfer.proofs.instance_search.InstanceSearch.seen_where_equal.Goals as goal

pub returns : goal.returns
returns c =
    let s = c.args.self.now in
    let both = c.in_ok-both.both in
    let told = c.in_ok-both.ensures in
    excluded_where_equal s.query.strength s.query.scope s.query.facts.now s.query.goal.now s.rule s.place c.args.equality.at told.0 s.plan.now c.args.numbers.now both.0 both.1 c.seen_terms.result
    c.requires.of_table c.requires.places told.1 told.2 told.3 c.seen_terms.ensures
