use Rattle.e_transfer.proofs.FreeAreas.{none_where_equal}
use Rattle.e_transfer.proofs.instance_search.InstanceSearch.has_equal_terms.Goals as goal

pub returns-in-Some : goal.returns-in-Some
returns-in-Some c = λ e.
    let s = c.args.self.now in
    let both = c.in-Some.both in
    let told = c.in-Some.ensures in
    none_where_equal s.query.strength s.query.scope s.query.facts.now s.query.goal.now s.rule s.place c.args.equality.at told.0 s.plan.now c.args.numbers.now both.0 both.1 c.requires.of_table c.requires.places
    told.1 told.2 told.3 (c.never_differ.ensures e)
