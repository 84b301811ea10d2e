use Rattle.std.proofs.Common.{arith, ◌≡◌, ap, ◌∙◌, List, ℕ}
use Rattle.e_clause.specs.Views.{row_of}
use Rattle.e_transfer.specs.inner.PartsOfChoices.{chosen_arguments}
use Rattle.e_transfer.proofs.SearchedPlaces.{refused_whole, instance_refused}
use Rattle.e_transfer.proofs.instance_search.InstanceSearchTask.check.Goals as goal

pub returns-in-No-clause-verdict : goal.returns-in-No-clause-verdict
returns-in-No-clause-verdict c =
    let s = c.args.self.now in
    let are : c.in_ok-args.args ≡ chosen_arguments (row_of s.row.now) s.plan.now.positions.items c.args.part.now =
    c.in_ok-args.ensures ∙ ap (λ (l : List ℕ). chosen_arguments (row_of s.row.now) l c.args.part.now) c.deref.ensures.value in
    refused_whole s.query.strength s.query.scope s.query.facts.now s.query.goal.now s.rule s.place s.plan.now (row_of s.row.now) c.args.part.now c.in_ok-args.args
    s.of_table are (let e = c.if-part-len.false in omega (arith, e, c.len.ensures, s.plan.now.spans.ok.0))
    (instance_refused s.query.strength s.query.scope s.query.facts.now s.query.goal.now s.rule c.in_ok-args.args c.in_ok-cert.field-0 c.in-No.is c.in_ok-cert.ensures)
