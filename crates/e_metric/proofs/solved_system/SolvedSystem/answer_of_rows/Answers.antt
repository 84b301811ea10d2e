use Rattle.std.proofs.Common.{◌≤◌, ◌^◌, ◌++◌, Some, subst}
use Rattle.e_literal.specs.Minor.{IsWide}
use Rattle.e_literal.specs.Width.{width}
use Rattle.e_fraction.specs.Views.{views_of_rows}
use Rattle.e_simplex.specs.Answer.{IsVerdict, AreValuesOf, assigned_value}
use Rattle.e_metric.proofs.answers.SolvedSystems.{few_named, small_named, solved_named, wide_named}
use Rattle.e_metric.proofs.solved_system.SolvedSystem.answer_of_rows.Goals as goal

pub decide_with-requires-clause-few : goal.decide_with-requires-clause-few
decide_with-requires-clause-few c = few_named c.args.which c.args.facts.now (Some c.args.goal.now) (c.args.self.now.names.items ++ c.args.names.now) (c.args.self.now.solved_rows ++ c.args.rows.now) c.requires.together c.requires.facts c.requires.few c.requires.goal

pub decide_with-requires-clause-coefficients : goal.decide_with-requires-clause-coefficients
decide_with-requires-clause-coefficients c = small_named c.args.which c.args.facts.now (Some c.args.goal.now) (c.args.self.now.names.items ++ c.args.names.now) (c.args.self.now.solved_rows ++ c.args.rows.now) c.requires.together c.requires.facts c.requires.few c.requires.goal

pub returns-in-Holds : goal.returns-in-Holds
returns-in-Holds c =
    let v : IsVerdict (views_of_rows (c.args.self.now.solved_rows ++ c.args.rows.now)) c.in_ok-values.field-0 = c.in_ok-values.ensures.verdict in
    let h : AreValuesOf (views_of_rows (c.args.self.now.solved_rows ++ c.args.rows.now)) c.in-Holds.values = subst (IsVerdict (views_of_rows (c.args.self.now.solved_rows ++ c.args.rows.now))) c.in-Holds.is v in
    solved_named c.args.which c.args.facts.now (Some c.args.goal.now) (c.args.self.now.names.items ++ c.args.names.now) (c.args.self.now.solved_rows ++ c.args.rows.now) c.requires.together c.requires.facts c.requires.few c.requires.goal (assigned_value c.in-Holds.values) h.satisfy

pub returns-in_ok-width-in-TooWide : goal.returns-in_ok-width-in-TooWide
returns-in_ok-width-in-TooWide c =
    let v : IsVerdict (views_of_rows (c.args.self.now.solved_rows ++ c.args.rows.now)) c.in_ok-values.field-0 = c.in_ok-values.ensures.verdict in
    let h : IsWide (views_of_rows (c.args.self.now.solved_rows ++ c.args.rows.now)) × (2 ^ 63 ≤ width (views_of_rows (c.args.self.now.solved_rows ++ c.args.rows.now))) =
    subst (IsVerdict (views_of_rows (c.args.self.now.solved_rows ++ c.args.rows.now))) c.in-TooWide.is v in
    wide_named c.args.which c.args.facts.now (Some c.args.goal.now) (c.args.self.now.names.items ++ c.args.names.now) (c.args.self.now.solved_rows ++ c.args.rows.now) c.requires.together c.requires.facts c.requires.few c.requires.goal c.in_ok-width-in-TooWide.width c.in_ok-width-in-TooWide.ensures h.0
