use Rattle.std.proofs.Common.{◌∙◌, ap, sym}
use Rattle.std.specs.List.{list_any}
use Rattle.e_literal.specs.Facts.{has}
use Rattle.e_facts.specs.inner.Key.{same_at}
use Rattle.e_facts.specs.contracts.key.KeyPartialEq.TheImpl.{eq-value}
use Rattle.e_facts.proofs.Keys.{has_by_key, has_by_places}
use Rattle.e_facts.proofs.facts.Facts.has.Goals as goal

pub returns-in-Some : goal.returns-in-Some
returns-in-Some c =
    c.contains.ensures
    ∙ ap (list_any (eq-value.it c.in-Some.key)) c.self.invariant.keyed
    ∙ has_by_key c.self.inside.lits.items c.args.lit.now c.in-Some.key (sym c.key_of.ensures ∙ c.in-Some.is)
    ∙ ap (λ ls. has ls c.args.lit.now) c.self.view_is

pub returns-in-None : goal.returns-in-None
returns-in-None c =
    c.is_same_at_any.ensures
    ∙ ap (λ ls. list_any (same_at ls c.args.lit.now) c.deref-in-None.result.now) c.deref.ensures.value
    ∙ ap (list_any (same_at c.self.inside.lits.items c.args.lit.now)) (c.deref-in-None.ensures.value ∙ c.self.invariant.placed)
    ∙ has_by_places c.self.inside.lits.items c.args.lit.now (sym c.key_of.ensures ∙ c.in-None.is)
    ∙ ap (λ ls. has ls c.args.lit.now) c.self.view_is
