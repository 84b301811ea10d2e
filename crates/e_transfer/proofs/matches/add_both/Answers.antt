use Rattle.std.proofs.Common.{sym, ◌∙◌}
use Rattle.e_transfer.specs.inner.Equations.{equations_of_points}
use Rattle.e_transfer.proofs.GoalMatches.{contrary_left_out}
use Rattle.e_transfer.proofs.matches.add_both.Goals as goal

pub returns-then-are_contrary : goal.returns-then-are_contrary
returns-then-are_contrary c =
    contrary_left_out c.args.matches.now.items (equations_of_points c.args.first) (equations_of_points c.args.second) (sym c.are_contrary.ensures ∙ c.if-are_contrary.true)
