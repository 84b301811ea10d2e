use Rattle.std.proofs.Common.{◌≡◌, sym, subst, true}
use Rattle.e_literal.specs.Facts.{with_fact}
use Rattle.e_clause.specs.LimitedFacts.{are_limited_facts}
use Rattle.e_licence.specs.Contexts.{Basis}
use Rattle.e_licence.proofs.HeldStates.{after_add, add_joins, add_keeps, add_is}
use Rattle.e_licence.proofs.context.Context.add.Goals as goal

pub invariant_of-self : goal.invariant_of-self
invariant_of-self c =
    let x = c.self.inside in
    after_add c.add.result x.scope x.facts c.add.new.self c.args.lit x.held.items x.solved c.add.ensures.joined c.add.ensures.err
    (subst (λ (b : Basis). are_limited_facts b.scope (with_fact b.facts c.args.lit) ≡ true) (sym c.self.view_is) c.requires) c.self.invariant

pub returns-clause-added : goal.returns-clause-added
returns-clause-added c =
    let x = c.self.inside in
    add_is c.add.result x.scope x.facts c.add.new.self c.args.lit x.held.items c.args.self.now c.self.view_is c.add.ensures.added

pub returns-clause-joined : goal.returns-clause-joined
returns-clause-joined c =
    let x = c.self.inside in
    add_joins c.add.result x.scope x.facts c.add.new.self c.args.lit x.held.items x.solved c.args.self.now c.self.view_is c.add.ensures.joined c.self.invariant

pub returns-clause-err : goal.returns-clause-err
returns-clause-err c =
    let x = c.self.inside in
    add_keeps c.add.result x.scope x.facts c.add.new.self x.held.items c.args.self.now c.self.view_is c.add.ensures.err
