use Rattle.std.proofs.Common.{◌∙◌, sym}
use Rattle.std.proofs.lemmas.Result.{err_from_is_err_and}
use Rattle.e_text.specs.Lines.{view_of_line}
use Rattle.e_read.proofs.Pieces.{last_turn, err_turn, ended_turn, more_turn}
use Rattle.e_read.proofs.reader.progress_with_line.Goals as goal

pub returns-then-branch-clause-turn : goal.returns-then-branch-clause-turn
returns-then-branch-clause-turn c = last_turn c.args.known.now c.args.reading.now c.args.reading.now (view_of_line c.args.line) (sym c.in_ok-is_end.ensures ∙ c.if-branch.true)

pub returns-in_err-take_line-clause-turn : goal.returns-in_err-take_line-clause-turn
returns-in_err-take_line-clause-turn c =
    let p = err_from_is_err_and c.from_residual-in_err-take_line.result c.from_residual-in_err-take_line.ensures.1 in
    rw (p.1, p.2) (err_turn c.args.known.now c.args.reading.now c.take_line.new.reading (view_of_line c.args.line) c.in_err-take_line.field-0.0 (sym c.in_ok-is_end.ensures ∙ c.if-branch.false) c.in_err-take_line.ensures.value)

pub returns-then-is_finished-clause-turn : goal.returns-then-is_finished-clause-turn
returns-then-is_finished-clause-turn c =
    ended_turn c.args.known.now c.args.reading.now c.take_line.new.reading (view_of_line c.args.line) (sym c.in_ok-is_end.ensures ∙ c.if-branch.false) c.in_ok-take_line.ensures.value (sym c.is_finished.ensures ∙ c.if-is_finished.true)

pub returns-clause-turn : goal.returns-clause-turn
returns-clause-turn c =
    more_turn c.args.known.now c.args.reading.now c.take_line.new.reading (view_of_line c.args.line) (sym c.in_ok-is_end.ensures ∙ c.if-branch.false) c.in_ok-take_line.ensures.value (sym c.is_finished.ensures ∙ c.if-is_finished.false)
