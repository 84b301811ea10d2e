use Rattle.std.proofs.Common.{◌≡◌, ◌<◌, rules, get_or, length}
use Rattle.e_licence.proofs.KnownLiterals.{kept_more}
use Rattle.e_licence.proofs.blanks.Blanks.license_all.Goals as goal

pub loop-lit-preserved : goal.loop-lit-preserved
loop-lit-preserved c =
    let given = c.args.self.now.statement.now.given in
    let less : c.loop-lit.lit-index < length given = search rules in
    let is : c.lit-item.result ≡ get_or given c.loop-lit.lit-index c.lit-item.result = search rules in (
      kept_more c.args.self.now.context.now c.args.images.now given c.loop-lit.lit-index c.lit-item.result c.lit-item.result c.in_ok-license_one.field-0 c.in-Yes.field-0 less is c.in-Yes.is
          c.in_ok-license_one.ensures.verdict c.loop-lit.invariant.0,
      c.in_ok-license_one.ensures.memory,
    )
