use Rattle.std.proofs.Common.{◌∙◌, sym, ap, ap₂}
use Rattle.std.specs.Cmp.Lexicographic.{pointwise}
use Rattle.e_literal.specs.contracts.object.MonoPartialEq.TheImpl.{eq-value as test}
use Rattle.e_facts.proofs.Alike.{alike}
use Rattle.e_facts.proofs.facts.are_alike.Goals as goal

pub returns : goal.returns
returns c = λ h. alike c.args.x.now c.args.y.now (sym (ap₂ (pointwise test.it) c.items.ensures c.items-2.ensures) ∙ sym c.eq.ensures ∙ h)
