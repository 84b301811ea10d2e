use Rattle.std.proofs.Common.{rules, refl}
use Rattle.e_licence.proofs.KeptVerdicts.{allowed_joins, refused_joins}
use Rattle.e_licence.proofs.verdicts.Verdicts.keep.Goals as goal

pub returns-in_ok-add-in-Yes : goal.returns-in_ok-add-in-Yes
returns-in_ok-add-in-Yes c b =
    allowed_joins b c.args.self.now (record { allowed = c.add.new.self; refused = c.args.self.now.refused }) c.args.lit c.args.verdict.now c.in-Yes.field-0 (search rules)
    c.in_ok-add-in-Yes.ensures.joined refl c.in-Yes.is

pub returns-in_ok-add-in-No : goal.returns-in_ok-add-in-No
returns-in_ok-add-in-No c b =
    refused_joins b c.args.self.now (record { allowed = c.args.self.now.allowed; refused = c.add-in-No.new.self }) c.args.lit c.args.verdict.now
    c.in_ok-add-in-No.ensures.joined refl c.in-No.is
