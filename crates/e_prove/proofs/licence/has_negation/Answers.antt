use Rattle.std.proofs.Common.{ap, ◌∙◌}
use Rattle.e_literal.specs.Literal.{negation}
use Rattle.e_literal.specs.Facts.{has}
use Rattle.e_prove.proofs.licence.has_negation.Goals as goal

pub returns : goal.returns
returns c = c.has-is_there.ensures ∙ ap (has c.args.facts.now) (c.negate-opposite.ensures ∙ ap negation c.in_ok-copy.ensures)
