use Rattle.std.proofs.Common.{◌≡◌, drop, ap, ◌∙◌, rules}
use Rattle.e_metric.specs.inner.FurtherRows.{terms_added}
use Rattle.e_metric.proofs.answers.GrownSystems.{facts_together, joined_terms, unchanged}
use Rattle.e_metric.proofs.kind_system.with_rest.Goals as goal

pub joined_system-requires-clause-rows : goal.joined_system-requires-clause-rows
joined_system-requires-clause-rows c =
    let fresh : c.in-Ok.rest.terms.items ≡ terms_added c.args.which c.args.solved_system.terms.items (drop c.args.from c.args.facts.now) = c.in-Ok.ensures.terms ∙ ap (λ ts. terms_added c.args.which ts (drop c.args.from c.args.facts.now)) c.deref.ensures.value in
    facts_together c.args.which c.args.facts.now c.args.from c.args.solved_system c.requires.solved_system c.requires.raised c.in-Ok.rest.terms.items c.in-Ok.rest.names.items c.in-Ok.rest.rows.items fresh c.in-Ok.ensures.named

pub joined_system-requires-clause-terms : goal.joined_system-requires-clause-terms
joined_system-requires-clause-terms c =
    let fresh : c.in-Ok.rest.terms.items ≡ terms_added c.args.which c.args.solved_system.terms.items (drop c.args.from c.args.facts.now) = c.in-Ok.ensures.terms ∙ ap (λ ts. terms_added c.args.which ts (drop c.args.from c.args.facts.now)) c.deref.ensures.value in
    joined_terms c.args.which c.args.facts.now c.args.from c.args.solved_system c.requires.solved_system c.requires.raised c.in-Ok.rest.terms.items fresh

pub returns-then-is_empty-2 : goal.returns-then-is_empty-2
returns-then-is_empty-2 c =
    let fresh : c.in-Ok.rest.terms.items ≡ terms_added c.args.which c.args.solved_system.terms.items (drop c.args.from c.args.facts.now) = c.in-Ok.ensures.terms ∙ ap (λ ts. terms_added c.args.which ts (drop c.args.from c.args.facts.now)) c.deref.ensures.value in
    unchanged c.args.which c.args.facts.now c.args.from c.args.solved_system c.requires.solved_system c.requires.raised c.in-Ok.rest.terms.items c.in-Ok.rest.names.items c.in-Ok.rest.rows.items fresh c.in-Ok.ensures.named
    (search rules) (search rules)
