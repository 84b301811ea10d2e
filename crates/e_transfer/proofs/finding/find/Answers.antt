use Rattle.e_literal.proofs.Booleans.{and_left}
use Rattle.e_clause.specs.LimitedFacts.{are_well_formed_in, are_few}
use Rattle.e_transfer.proofs.Needs.{facts_well, facts_few}
use Rattle.e_transfer.proofs.finding.find.Goals as goal

pub of-requires : goal.of-requires
of-requires c = record {
  facts = facts_well c.args.scope c.args.facts.now (and_left (are_well_formed_in c.args.scope c.args.facts.now) (are_few c.args.facts.now) c.requires.facts);
  few = facts_few c.args.scope c.args.facts.now c.requires.facts;
}
