use Rattle.std.proofs.Common.{◌∙◌, ◌∷◌, ◌++◌, [], ap, subst, map, Some}
use Rattle.e_literal.specs.Same.{canonical}
use Rattle.e_literal.specs.Solution.{Satisfy}
use Rattle.e_fraction.specs.Views.{views_of_rows}
use Rattle.e_simplex.specs.Answer.{assigned_value}
use Rattle.e_metric.specs.AgreeingRows.{AreRows}
use Rattle.e_metric.specs.inner.FurtherRows.{terms_added, rows_brought_by_goal, value_of_fresh, values_extended}
use Rattle.e_metric.proofs.answers.SolvedSystems.{named_of, asked, goal_terms, goal_together, false_already}
use Rattle.e_metric.proofs.solved_system.SolvedSystem.ask.Goals as goal

pub returns-then-are_so : goal.returns-then-are_so
returns-then-are_so c =
    let facts = c.args.facts.now in
    let l = c.args.goal.now in
    let g = c.args.self.now in
    let rows_are = asked c.args.which facts l g c.deref-2.result.now c.requires.solved_system (c.deref-2.ensures.value ∙ c.in_ok-fresh.ensures ∙ ap (λ ts. terms_added c.args.which ts (l ∷ [])) c.deref.ensures.value) in
    false_already c.args.which facts (Some l) (g.names.items ++ c.in_ok-names.names.items) g.solved_rows c.deref-4.result.now
    (goal_together c.args.which facts l g c.in_ok-names.names.items c.deref-4.result.now c.requires.solved_system
    (named_of (rows_brought_by_goal c.args.which facts l) c.in_ok-named.named.items c.in_ok-names.names.items c.deref-4.result.now
    (subst (λ ns. AreRows ns c.in_ok-named.named.items) rows_are c.in_ok-named.ensures.rows) c.in_ok-named.ensures.limited
    c.in_ok-names.ensures.names (c.deref-4.ensures.value ∙ c.in_ok-names.ensures.rows)))
    c.requires.facts c.requires.few c.requires.goal
    c.values.result.now (map (λ t. (canonical t, value_of_fresh facts t)) c.deref-3.result.now) c.in_ok-values.values
    (c.in_ok-values.ensures ∙ ap (λ vs. values_extended facts vs c.deref-3.result.now) c.items.ensures)
    c.values.ensures
    (subst (λ vs. Satisfy (assigned_value vs) (views_of_rows c.deref-4.result.now)) c.items-2.ensures (c.are_so.ensures c.if-are_so.true))

pub answer_of_rows-requires-clause-terms : goal.answer_of_rows-requires-clause-terms
answer_of_rows-requires-clause-terms c =
    let l = c.args.goal.now in
    goal_terms c.args.which c.args.facts.now l c.args.self.now c.deref-5.result.now c.requires.solved_system (c.deref-5.ensures.value ∙ c.in_ok-fresh.ensures ∙ ap (λ ts. terms_added c.args.which ts (l ∷ [])) c.deref.ensures.value)

pub answer_of_rows-requires-clause-together : goal.answer_of_rows-requires-clause-together
answer_of_rows-requires-clause-together c =
    let facts = c.args.facts.now in
    let l = c.args.goal.now in
    let g = c.args.self.now in
    let rows_are = asked c.args.which facts l g c.deref-2.result.now c.requires.solved_system (c.deref-2.ensures.value ∙ c.in_ok-fresh.ensures ∙ ap (λ ts. terms_added c.args.which ts (l ∷ [])) c.deref.ensures.value) in
    goal_together c.args.which facts l g c.deref-6.result.now c.deref-7.result.now c.requires.solved_system
    (named_of (rows_brought_by_goal c.args.which facts l) c.in_ok-named.named.items c.deref-6.result.now c.deref-7.result.now
    (subst (λ ns. AreRows ns c.in_ok-named.named.items) rows_are c.in_ok-named.ensures.rows) c.in_ok-named.ensures.limited
    (c.deref-6.ensures.value ∙ c.in_ok-names.ensures.names) (c.deref-7.ensures.value ∙ c.in_ok-names.ensures.rows))
