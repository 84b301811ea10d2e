use Rattle.std.proofs.Common.{◌≡◌, false, ◌∙◌, ap, arith}
use Rattle.e_literal.specs.Facts.{has}
use Rattle.e_facts.proofs.TablesOfFacts.{kept_push_metric}
use Rattle.e_facts.proofs.facts.Facts.push_metric.Goals as goal

pub invariant_of-self-in_default : goal.invariant_of-self-in_default
invariant_of-self-in_default c =
    let new : has c.self.inside.lits.items c.args.lit ≡ false = ap (λ ls. has ls c.args.lit) c.self.view_is ∙ c.requires.new in
    rw (c.in_ok-push.ensures.items, c.in_default.ensures.items, c.fingerprint_of-fingerprint.ensures)
    (kept_push_metric c.self.inside.lits.items c.args.lit c.self.inside.keys.keys c.self.inside.places.items c.len-index.result c.self.invariant new c.requires.no_key (omega arith))
