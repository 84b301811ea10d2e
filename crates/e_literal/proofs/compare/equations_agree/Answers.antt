use Rattle.std.proofs.Common.{sym, ◌∙◌}
use Rattle.e_literal.proofs.Agreeing.{apart_at_first}
use Rattle.e_literal.proofs.compare.equations_agree.Goals as goal

pub returns-else-agree_at_first : goal.returns-else-agree_at_first
returns-else-agree_at_first c =
    c.if-agree_at_first.false
    ∙ sym (apart_at_first c.args.x.now c.args.y.now c.args.z.now c.args.w.now (sym c.agree_at_first.ensures ∙ c.if-agree_at_first.false))
