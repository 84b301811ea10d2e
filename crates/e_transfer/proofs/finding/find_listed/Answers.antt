use Rattle.e_transfer.specs.declared.query.Strength.TheVariants as strength
use Rattle.e_transfer.specs.GivenGoals.{NoneGives}
use Rattle.e_transfer.proofs.RuleSearches.{not_plain, search_nothing}
use Rattle.e_transfer.proofs.finding.find_listed.Goals as goal

pub returns-in-No : goal.returns-in-No
returns-in-No c =
    not_plain c.args.scope c.args.facts.now c.args.goal.now
    (search_nothing strength.Facts c.args.scope c.args.facts.now c.args.goal.now (NoneGives strength.Facts c.args.scope c.args.facts.now c.args.goal.now)
    c.in_ok-cert.field-0 c.in-No.is c.in_ok-cert.ensures)
