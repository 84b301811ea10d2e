use Rattle.std.proofs.Common.{◌++◌, ap, ◌∙◌, true}
use Rattle.e_fraction.specs.Views.{views_of_rows}
use Rattle.e_simplex.specs.Naming.{named_constraints}
use Rattle.e_simplex.proofs.columns.Places.{all_named_first, all_named_last, constraints_both}
use Rattle.e_simplex.proofs.naming.tried_constraints.Goals as goal

pub add_constraints_where-requires-clause-named : goal.add_constraints_where-requires-clause-named
add_constraints_where-requires-clause-named c = all_named_first c.args.terms.now c.args.rows.now c.args.more.now c.requires.named

pub add_constraints_where-requires-2-clause-named : goal.add_constraints_where-requires-2-clause-named
add_constraints_where-requires-2-clause-named c = all_named_last c.args.terms.now c.args.rows.now c.args.more.now c.requires.named

pub returns-clause-value : goal.returns-clause-value
returns-clause-value c =
    c.in_ok-add_constraints_where-2.ensures.value
    ∙ ap (λ v. v ++ named_constraints true c.args.terms.now (views_of_rows c.args.more.now)) (c.in_ok-add_constraints_where.ensures.value ∙ ap (λ v. v ++ named_constraints true c.args.terms.now (views_of_rows c.args.rows.now)) c.in_ok-constraints.ensures.items)
    ∙ constraints_both true c.args.terms.now c.args.rows.now c.args.more.now
