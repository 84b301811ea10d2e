use Rattle.std.proofs.Common.{[], rules, refl, sym, ◌∙◌}
use Rattle.std.proofs.lemmas.List.{append-nil}
use Rattle.e_transfer.proofs.Choices.{verdict_no, verdict_wide, all_refused, found_one, stop_one, verdict_yes, found_whole, refused_grows, grown_after}
use Rattle.e_transfer.proofs.walk.+search.Goals as goal

pub returns-in-No-clause-outcome : goal.returns-in-No-clause-outcome
returns-in-No-clause-outcome g t c =
    (refl, verdict_no (g.T.Task.kept c.args.task.now) (g.T.Task.shown c.args.task.now) (g.T.Task.wide c.args.task.now) (g.T.Task.wanted c.args.task.now) _ _ _ _ c.deref.ensures.value c.in-No.is c.in_ok-proof.ensures.verdict)

pub returns-in-TooWide-clause-outcome : goal.returns-in-TooWide-clause-outcome
returns-in-TooWide-clause-outcome g t c =
    verdict_wide (g.T.Task.kept c.args.task.now) (g.T.Task.shown c.args.task.now) (g.T.Task.wide c.args.task.now) (g.T.Task.wanted c.args.task.now) _ _ _ _ _ c.deref.ensures.value c.in-TooWide.is c.in_ok-proof.ensures.verdict

pub returns-in-empty-clause-outcome : goal.returns-in-empty-clause-outcome
returns-in-empty-clause-outcome g t c =
    found_whole (g.T.Task.kept c.args.task.now) (g.T.Task.shown c.args.task.now) (g.T.Task.wide c.args.task.now) (g.T.Task.wanted c.args.task.now) c.args.chosen.now.items _ c.args.spans.now _ _
    c.deref.ensures.value c.in-empty.len_below c.in-Yes.is c.in_ok-proof.ensures.verdict

pub returns-in-Yes-2-clause-outcome : goal.returns-in-Yes-2-clause-outcome
returns-in-Yes-2-clause-outcome g t c =
    found_one (g.T.Task.kept c.args.task.now) (g.T.Task.shown c.args.task.now) (g.T.Task.wide c.args.task.now) (g.T.Task.wanted c.args.task.now) c.args.chosen.now.items _ _ c.args.spans.now c.loop-value.value _ _
    c.in-len1-up.len_at_least (search rules) (search rules)
    (verdict_yes (g.T.Task.kept c.args.task.now) (g.T.Task.shown c.args.task.now) (g.T.Task.wide c.args.task.now) (g.T.Task.wanted c.args.task.now) _ _ _ _ c.deref.ensures.value c.in-Yes.is c.in_ok-proof.ensures.verdict)
    c.loop-value.invariant.1 (search rules) c.in-Yes-2.is c.in_ok-search-in-len1-up.ensures.outcome

pub returns-in-TooWide-2-clause-outcome : goal.returns-in-TooWide-2-clause-outcome
returns-in-TooWide-2-clause-outcome g t c =
    stop_one (g.T.Task.kept c.args.task.now) (g.T.Task.shown c.args.task.now) (g.T.Task.wide c.args.task.now) (g.T.Task.wanted c.args.task.now) c.args.chosen.now.items _ _ c.args.spans.now c.loop-value.value _ _
    c.in-len1-up.len_at_least (search rules) (search rules)
    c.loop-value.invariant.1 (search rules) c.in-TooWide-2.is c.in_ok-search-in-len1-up.ensures.outcome

pub returns-after-loop-value-clause-outcome : goal.returns-after-loop-value-clause-outcome
returns-after-loop-value-clause-outcome g t c =
    (c.loop-value.invariant.0, all_refused (g.T.Task.wanted c.args.task.now) _ _ c.loop-value.value c.in-len1-up.len_at_least (search rules) c.loop-value.invariant.1)

pub returns-in_err-proof-clause-err : goal.returns-in_err-proof-clause-err
returns-in_err-proof-clause-err g t c = refused_grows c.from_residual.result c.args.chosen.now.items _ [] (sym (append-nil _))

pub returns-in_err-push-in-len1-up-clause-err : goal.returns-in_err-push-in-len1-up-clause-err
returns-in_err-push-in-len1-up-clause-err g t c =
    refused_grows c.from_residual-in_err-push-in-len1-up.result c.args.chosen.now.items _ [] (c.in_err-push-in-len1-up.ensures.items ∙ c.loop-value.invariant.0 ∙ sym (append-nil _))

pub returns-in_err-search-in-len1-up-clause-err : goal.returns-in_err-search-in-len1-up-clause-err
returns-in_err-search-in-len1-up-clause-err g t c =
    grown_after c.from_residual-in_err-search-in-len1-up.result c.args.chosen.now.items c.loop-value.chosen.items c.push.new.self.items c.search.new.chosen.items
    c.in_err-search-in-len1-up.ensures.err.0 c.loop-value.value c.loop-value.invariant.0 c.in_ok-push-in-len1-up.ensures.items c.in_err-search-in-len1-up.ensures.err.1
