use Rattle.std.proofs.Common.{◌≡◌, ◌<◌, ◌-◌, length, arith, ◌∙◌}
use Rattle.e_clause.specs.Instance.{clause_of}
use Rattle.e_clause.specs.Views.{row_of}
use Rattle.e_transfer.proofs.MarkedFacts.{none_followed_at, none_elsewhere}
use Rattle.e_transfer.proofs.marks.last_may_hold.Goals as goal

pub returns : goal.returns
returns c = λ e rule place is.
    let s = c.args.query.now in
    let row = row_of c.args.row.now in
    let count = c.clause_len-count.result in
    let long : count ≡ length (clause_of row) = c.clause_len-count.ensures in
    let some = c.if-count-eq0.false in
    let less : count - 1 < length (clause_of row) = omega (arith, long, some) in
    let at = c.relation_at-relation.ensures.is in
    let none = c.may_follow.ensures e in
    none_elsewhere s.strength s.scope s.facts.now s.goal.now rule place (count - 1) row is less
    (none_followed_at s.strength s.facts.now s.goal.now row (count - 1) c.args.goal_mark c.relation_at-relation.result.0 c.relation_at-relation.result.1 at.0 none.0 at.1 at.2 at.3
    (λ same. c.if-own-goal_mark.false (c.mark-own.ensures.is ∙ same)) c.requires.of_goal none.1 none.2)
