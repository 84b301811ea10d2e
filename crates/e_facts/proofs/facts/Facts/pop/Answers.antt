use Rattle.std.proofs.Common.{◌≡◌, ◌-◌, ◌<◌, suc, length, ◌∙◌, sym, arith}
use Rattle.std.specs.Prelude.{IsSome, ◌↔◌}
use Rattle.e_facts.proofs.TablesOfFacts.{kept_pop_diagram, kept_pop_metric}
use Rattle.e_facts.proofs.facts.Facts.pop.Goals as goal

pub invariant_of-self : goal.invariant_of-self
invariant_of-self c =
    let all = c.self.inside.lits.items in
    let some : 0 < length all = rw c.self.view_is c.requires in
    let count : suc (c.len-last.result - 1) ≡ length all = omega arith in
    rw c.truncate.ensures.items
    (kept_pop_diagram all (c.len-last.result - 1) c.index.result.now c.self.inside.keys.keys c.pop.new.self.keys c.self.inside.places.items c.in-Some.field-0 c.pop.result
    c.self.invariant count c.index.ensures (sym c.key_of-key.ensures ∙ c.in-Some.is) c.pop.ensures.keys c.pop.ensures.found)

pub invariant_of-self-in-None : goal.invariant_of-self-in-None
invariant_of-self-in-None c =
    let all = c.self.inside.lits.items in
    let places = c.self.inside.places.items in
    let some : 0 < length all = rw c.self.view_is c.requires in
    let count : suc (c.len-last.result - 1) ≡ length all = omega arith in
    let found : IsSome c.pop-in-None.result ↔ (0 < length places) =
    (λ is. omega (arith, c.pop-in-None.ensures.variant.0 is), λ more. c.pop-in-None.ensures.variant.1 (omega arith)) in
    rw c.truncate.ensures.items
    (kept_pop_metric all (c.len-last.result - 1) c.index.result.now c.self.inside.keys.keys places c.pop-in-None.new.self.items c.pop-in-None.result
    c.self.invariant count c.index.ensures (sym c.key_of-key.ensures ∙ c.in-None.is) c.pop-in-None.ensures.items found)
