use Rattle.std.proofs.Common.{◌≡◌, rules}
use Rattle.e_transfer.specs.declared.finding.Found.TheVariants.{Yes}
use Rattle.e_licence.proofs.Licences.{by_transfer, found_at}
use Rattle.e_licence.proofs.licensing.Question.transfer.Goals as goal

pub returns-in-Ok-Yes : goal.returns-in-Ok-Yes
returns-in-Ok-Yes c =
    let b = c.args.self.now.context.now in
    let l = c.args.self.now.lit.now in
    let is : c.in-Ok-Yes.field-0 ≡ Yes c.in-Ok-Yes.cert = search rules in
    let found = found_at b c.scope-scope.result c.facts-facts.result.now l c.in-Ok-Yes.field-0 c.scope-scope.ensures c.facts-facts.ensures.facts c.in-Ok-Yes.ensures in
    by_transfer b l c.in-Ok-Yes.cert c.in-Ok-Yes.field-0 c.requires found is
