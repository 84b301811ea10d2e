use Rattle.std.proofs.Common.{◌≤◌, ◌++◌, length, ap, subst, sym, ◌∙◌, None, refl}
use Rattle.e_fraction.specs.Limits.{all_small}
use Rattle.e_metric.proofs.answers.SolvedSystems.{few_named, small_named}
use Rattle.e_metric.proofs.kind_system.joined_system.Goals as goal

pub with-requires-clause-few : goal.with-requires-clause-few
with-requires-clause-few c =
    subst (λ rs. length (rs ++ c.args.rest.rows.items) ≤ 4096) (sym c.add.ensures.solved_rows)
    (few_named c.args.which c.args.facts.now None (c.args.solved_system.names.items ++ c.args.rest.names.items) (c.args.solved_system.solved_rows ++ c.args.rest.rows.items) c.requires.rows c.requires.facts c.requires.few refl)

pub with-requires-clause-coefficients : goal.with-requires-clause-coefficients
with-requires-clause-coefficients c =
    ap (λ rs. all_small (rs ++ c.args.rest.rows.items)) c.add.ensures.solved_rows
    ∙ small_named c.args.which c.args.facts.now None (c.args.solved_system.names.items ++ c.args.rest.names.items) (c.args.solved_system.solved_rows ++ c.args.rest.rows.items) c.requires.rows c.requires.facts c.requires.few refl
