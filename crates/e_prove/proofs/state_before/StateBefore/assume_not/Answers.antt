use Rattle.std.proofs.Common.{◌≡◌, sym, ap, ◌∙◌, subst, true}
use Rattle.e_literal.specs.Literal.{negation}
use Rattle.e_literal.specs.Facts.{with_fact}
use Rattle.e_clause.specs.LimitedFacts.{are_limited_facts}
use Rattle.e_licence.specs.Contexts.{Basis}
use Rattle.e_prove.proofs.state_before.StateBefore.assume_not.Goals as goal

pub add-requires : goal.add-requires
add-requires c =
    let x = c.args.self.now.context in
    subst (λ l. are_limited_facts x.scope (with_fact x.facts l) ≡ true) (sym (c.negate.ensures ∙ ap negation c.in_ok-copy.ensures)) c.requires

pub returns : goal.returns
returns c =
    let x = c.args.self.now in
    ap (λ (b : Basis). record x { context = b })
    (c.in_ok-add.ensures.joined ∙ ap (λ l. record x.context { facts = with_fact x.context.facts l }) (c.negate.ensures ∙ ap negation c.in_ok-copy.ensures))
