use Rattle.std.proofs.Common.{rules}
use Rattle.e_transfer.proofs.Choices.{verdict_yes}
use Rattle.e_licence.proofs.SweptChoices.{swept_none, swept_wide, found_here, under_start, under_more, after_more, popped, under_all, under_full, under_wide}
use Rattle.e_licence.proofs.sweep.+sweep.Goals as goal

pub returns-in-No-clause-outcome : goal.returns-in-No-clause-outcome
returns-in-No-clause-outcome g t c =
    swept_none (g.T.Task.kept c.args.task.now) (g.T.Task.shown c.args.task.now) (g.T.Task.wide c.args.task.now) (g.T.Task.wanted c.args.task.now) c.args.spans.now c.args.most c.args.chosen.now.items _ c.args.found.now _
    c.requires.few c.deref.ensures.value c.in-No.is c.in_ok-proof.ensures.verdict

pub returns-in-TooWide-clause-outcome : goal.returns-in-TooWide-clause-outcome
returns-in-TooWide-clause-outcome g t c =
    swept_wide (g.T.Task.kept c.args.task.now) (g.T.Task.shown c.args.task.now) (g.T.Task.wide c.args.task.now) (g.T.Task.wanted c.args.task.now) c.args.spans.now c.args.most c.args.chosen.now.items _ c.args.found.now _ _
    c.deref.ensures.value c.in-TooWide.is c.in_ok-proof.ensures.verdict

pub returns-in-empty-clause-outcome : goal.returns-in-empty-clause-outcome
returns-in-empty-clause-outcome g t c =
    let kept = verdict_yes (g.T.Task.kept c.args.task.now) (g.T.Task.shown c.args.task.now) (g.T.Task.wide c.args.task.now) (g.T.Task.wanted c.args.task.now) _ _ _ _ c.deref.ensures.value c.in-Yes.is c.in_ok-proof.ensures.verdict in
    found_here c.found_one.result (g.T.Task.kept c.args.task.now) (g.T.Task.wide c.args.task.now) (g.T.Task.wanted c.args.task.now) c.args.spans.now c.args.most c.args.chosen.now.items _ c.args.found.now c.found_one.new.found
    c.in-empty.len_below c.deref-in-empty.ensures.value kept c.found_one.ensures

pub loop-value-init : goal.loop-value-init
loop-value-init g t c = (search rules, under_start (g.T.Task.kept c.args.task.now) (g.T.Task.wanted c.args.task.now) c.args.chosen.now.items _ _ c.args.found.now, c.requires.few, c.in_ok-proof.ensures.memory)

pub loop-value-preserved : goal.loop-value-preserved
loop-value-preserved g t c =
    let after = after_more (g.T.Task.kept c.args.task.now) (g.T.Task.wide c.args.task.now) (g.T.Task.wanted c.args.task.now) _ c.args.most c.push.new.self.items c.sweep.new.chosen.items c.loop-value.found c.sweep.new.found _
    c.in-Done.is c.in_ok-sweep-in-len1-up.ensures.outcome
    in (
      popped c.args.chosen.now.items c.loop-value.chosen.items c.push.new.self.items c.sweep.new.chosen.items c.pop.new.self.items c.loop-value.value _
          c.loop-value.invariant.0 c.in_ok-push-in-len1-up.ensures.items after.0 c.sweep.new.chosen.ok.0 c.pop.ensures.rest,
      under_more (g.T.Task.kept c.args.task.now) (g.T.Task.wide c.args.task.now) (g.T.Task.wanted c.args.task.now) c.args.chosen.now.items c.loop-value.chosen.items c.push.new.self.items c.sweep.new.chosen.items _ _ c.args.most c.loop-value.value c.args.found.now
          c.loop-value.found c.sweep.new.found _ (search rules) (search rules) c.loop-value.invariant.0 c.in_ok-push-in-len1-up.ensures.items c.in-Done.is c.loop-value.invariant.1
          c.in_ok-sweep-in-len1-up.ensures.outcome,
      after.1,
      c.in_ok-sweep-in-len1-up.ensures.memory,
    )

pub returns-in-Full-clause-outcome : goal.returns-in-Full-clause-outcome
returns-in-Full-clause-outcome g t c =
    let kept = verdict_yes (g.T.Task.kept c.args.task.now) (g.T.Task.shown c.args.task.now) (g.T.Task.wide c.args.task.now) (g.T.Task.wanted c.args.task.now) _ _ _ _ c.deref.ensures.value c.in-Yes.is c.in_ok-proof.ensures.verdict in
    under_full (g.T.Task.kept c.args.task.now) (g.T.Task.wide c.args.task.now) (g.T.Task.wanted c.args.task.now) c.args.chosen.now.items _ _ c.args.spans.now c.args.most c.loop-value.value c.args.found.now c.loop-value.found c.sweep.new.found _
    c.in-len1-up.len_at_least (search rules) (search rules) kept (search rules) c.in-Full.is c.loop-value.invariant.1 c.in_ok-sweep-in-len1-up.ensures.outcome

pub returns-in-TooWide-2-clause-outcome : goal.returns-in-TooWide-2-clause-outcome
returns-in-TooWide-2-clause-outcome g t c =
    under_wide (g.T.Task.kept c.args.task.now) (g.T.Task.wide c.args.task.now) (g.T.Task.wanted c.args.task.now) c.args.chosen.now.items _ _ c.args.spans.now c.args.most c.loop-value.value c.args.found.now c.loop-value.found c.sweep.new.found _ _
    c.in-len1-up.len_at_least (search rules) (search rules) (search rules) c.in-TooWide-2.is c.in_ok-sweep-in-len1-up.ensures.outcome

pub returns-after-loop-value-clause-outcome : goal.returns-after-loop-value-clause-outcome
returns-after-loop-value-clause-outcome g t c =
    let kept = verdict_yes (g.T.Task.kept c.args.task.now) (g.T.Task.shown c.args.task.now) (g.T.Task.wide c.args.task.now) (g.T.Task.wanted c.args.task.now) _ _ _ _ c.deref.ensures.value c.in-Yes.is c.in_ok-proof.ensures.verdict in
    under_all (g.T.Task.kept c.args.task.now) (g.T.Task.wide c.args.task.now) (g.T.Task.wanted c.args.task.now) c.args.chosen.now.items c.loop-value.chosen.items c.args.spans.now c.args.most c.loop-value.value c.args.found.now c.loop-value.found
    c.in-len1-up.len_at_least (search rules) kept c.loop-value.invariant.0 c.loop-value.invariant.2 c.loop-value.invariant.1
