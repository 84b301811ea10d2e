use Rattle.std.proofs.Common.{ap, ◌∙◌, refl}
use Rattle.std.specs.Prelude.{Some}
use Rattle.e_literal.specs.declared.literal.Lit.{Lit}
use Rattle.e_transfer.proofs.marks.relation_at.Goals as goal

pub returns-clause-is : goal.returns-clause-is
returns-clause-is c = (
  _,
  c.pattern_at-negated.ensures ∙ ap (λ (l : Lit). Some l) c.parts-neg.ensures,
  c.relation_of.ensures.is,
  refl,
)
