use Rattle.std.proofs.Common.{sym, ◌∙◌}
use Rattle.e_figure.specs.Figure.{scope_of_figure}
use Rattle.e_figure.proofs.Cite.{refuted_is_uncited}
use Rattle.e_figure.proofs.refuting.refutes.Goals as goal

pub returns-clause-uncited : goal.returns-clause-uncited
returns-clause-uncited c e =
    refuted_is_uncited c.args.figure.now (scope_of_figure c.args.figure.now) c.args.facts.now c.args.lit.now c.lines_and_circles_are_proper.ensures (sym c.only_it_fails.ensures ∙ e)
