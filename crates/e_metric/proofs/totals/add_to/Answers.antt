use Rattle.std.proofs.Common.{◌+ℤ◌, ap, SFits, to_z-of_z, rules}
use mir.Syntax.{w128}
use Rattle.e_metric.specs.inner.TermTotals.{kept_total}
use Rattle.e_metric.proofs.sums.TermTotals.{added, sum_fits}
use Rattle.e_metric.proofs.totals.add_to.Goals as goal

pub overflow_add-before : goal.overflow_add-before
overflow_add-before c =
    let f : SFits w128 c.total_of_term-before.result = search rules in
    let g : SFits w128 c.args.n = c.ranges.n in
    let e = c.total_of_term-before.ensures in
    simp to_z-of_z (sum_fits (kept_total c.args.totals.now.entries c.args.term) c.total_of_term-before.result c.args.n e c.requires)

pub returns : goal.returns
returns c t =
    let f : SFits w128 c.total_of_term-before.result = search rules in
    let g : SFits w128 c.args.n = c.ranges.n in
    let e = c.total_of_term-before.ensures in
    let h : SFits w128 (c.total_of_term-before.result +ℤ c.args.n) = sum_fits (kept_total c.args.totals.now.entries c.args.term) c.total_of_term-before.result c.args.n e c.requires in
    let u = simp to_z-of_z at c.in_ok-insert.ensures.updates in
    added c.args.totals.now c.insert.new.self c.args.term c.total_of_term-before.result c.args.n e u t
