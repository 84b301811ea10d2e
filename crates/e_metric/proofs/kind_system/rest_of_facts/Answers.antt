use Rattle.std.proofs.Common.{List, drop, subst}
use Rattle.e_literal.specs.declared.object.Term.{Term}
use Rattle.e_metric.specs.AgreeingRows.{AreRows}
use Rattle.e_metric.specs.inner.FurtherRows.{rows_added_by_facts}
use Rattle.e_metric.proofs.answers.SolvedSystems.{named_of}
use Rattle.e_metric.proofs.kind_system.rest_of_facts.Goals as goal

pub returns-clause-named : goal.returns-clause-named
returns-clause-named c =
    named_of (rows_added_by_facts c.args.which c.args.facts.now (drop c.args.from c.args.facts.now) c.in_ok-fresh.fresh.items) c.in_ok-named.named.items c.in_ok-names.names.items c.in_ok-names.rows.items
    (subst (λ (ts : List Term). AreRows (rows_added_by_facts c.args.which c.args.facts.now (drop c.args.from c.args.facts.now) ts) c.in_ok-named.named.items) c.deref.ensures.value c.in_ok-named.ensures.rows)
    c.in_ok-named.ensures.limited c.in_ok-names.ensures.names c.in_ok-names.ensures.rows
