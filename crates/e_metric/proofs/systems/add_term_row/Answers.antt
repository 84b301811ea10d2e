use Rattle.std.proofs.Common.{sym, ◌∙◌}
use Rattle.e_metric.proofs.rows.SystemRows.{segment_grows, angle_grows}
use Rattle.e_metric.proofs.systems.add_term_row.Goals as goal

pub returns-in_ok-push-in-Seg : goal.returns-in_ok-push-in-Seg
returns-in_ok-push-in-Seg c = segment_grows c.args.facts.now c.args.term c.in-Seg.a c.in-Seg.b c.args.rows.now.items _ c.in_ok-row-in-Seg.row
    c.in-Seg.is (sym c.tell_apart.ensures ∙ c.if-tell_apart.true) c.in_ok-row-in-Seg.ensures.row c.in_ok-row-in-Seg.ensures.limited c.in_ok-push-in-Seg.ensures.items

pub returns-in_ok-push-in-Ang : goal.returns-in_ok-push-in-Ang
returns-in_ok-push-in-Ang c = angle_grows c.args.facts.now c.args.term c.in-Ang.a c.in-Ang.b c.in-Ang.c c.args.rows.now.items _ c.in_ok-row-in-Ang.row
    c.in-Ang.is c.in_ok-row-in-Ang.ensures.row c.in_ok-row-in-Ang.ensures.limited c.in_ok-push-in-Ang.ensures.items
