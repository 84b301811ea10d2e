use Rattle.std.proofs.Common.{◌≡◌, IfOk, List, Option, Some, sym, subst}
use Rattle.e_literal.specs.declared.literal.Lit.{Lit}
use Rattle.e_theorem.specs.Statements.{as_view}
use Rattle.e_deriv.specs.Goal.{goal_of_statement, goal_with}
use Rattle.e_book.specs.ParserViews.{statement_of_parser}
use Rattle.e_read.specs.inner.Needs.{shown_around, goal_or}
use Rattle.e_read.proofs.needs.goal_with.Goals as goal

pub returns-in-Some : goal.returns-in-Some
returns-in-Some c =
    let d = c.args.parser.now in
    let e : shown_around d.blocks ≡ Some c.in-Some.shown.now = cc in
    subst (λ (o : Option (List Lit)). IfOk c.with_objects.result (λ ls. ls ≡ goal_with (goal_or o (goal_of_statement (as_view (statement_of_parser d)))) c.args.objects.now)) (sym e) c.with_objects.ensures
