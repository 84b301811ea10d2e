use Rattle.e_transfer.specs.declared.query.Strength.TheVariants as strength
use Rattle.e_transfer.specs.GivenGoals.{NoneGives}
use Rattle.e_transfer.proofs.RuleSearches.{not_narrow, search_nothing}
use Rattle.e_transfer.proofs.finding.find_narrow.Goals as goal

pub returns-in-No : goal.returns-in-No
returns-in-No c = let s = c.args.query.now in record {
  not_plain = c.requires.not_plain;
  not_narrow = not_narrow s.scope s.facts.now s.goal.now
      (search_nothing strength.NarrowSums s.scope s.facts.now s.goal.now (NoneGives strength.NarrowSums s.scope s.facts.now s.goal.now)
      c.in_ok-cert.field-0 c.in-No.is c.in_ok-cert.ensures);
  rows = c.requires.wide.rows;
  is_system = c.requires.wide.is_system;
  has_width = c.requires.wide.has_width;
}
