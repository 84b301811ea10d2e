use Rattle.std.proofs.Common.{below_more, ◌≡◌, ◌∙◌, List, [], get_or, subst, sym, arith}
use Rattle.std.proofs.lemmas.List.{get_or_default}
use Rattle.e_clause.specs.Views.{row_of}
use Rattle.e_transfer.specs.declared.equations.Equation.{Equation}
use Rattle.e_transfer.specs.GivenGoals.{NoneWithEquations, signed_literal}
use Rattle.e_transfer.specs.inner.Matches.{Cover}
use Rattle.e_transfer.proofs.RuleSearches.{none_at, search_nothing}
use Rattle.e_transfer.proofs.rule_search.search_place.Goals as goal

pub loop-equations-preserved : goal.loop-equations-preserved
loop-equations-preserved c =
    let s = c.args.query.now in
    let items = c.deref-equations-items.result.now in
    let i = c.loop-equations.equations-index in
    let is : c.items.result.now ≡ get_or items i [] =
    c.items.ensures ∙ c.equations-item.is ∙ get_or_default items i c.equations-item.result [] c.loop-equations-test.true in
    let none = search_nothing s.strength s.scope s.facts.now s.goal.now (NoneWithEquations s.strength s.scope s.facts.now s.goal.now c.args.rule c.args.place c.items.result.now)
    c.in_ok-search_with_equations.field-0 c.in-No.is c.in_ok-search_with_equations.ensures in
    below_more _ _ c.loop-equations.invariant (subst (λ (b : List Equation). NoneWithEquations s.strength s.scope s.facts.now s.goal.now c.args.rule c.args.place b) is none)

pub returns : goal.returns
returns c =
    let s = c.args.query.now in
    let items = c.deref-equations-items.result.now in
    none_at s.strength s.scope s.facts.now s.goal.now c.args.rule c.args.place (row_of c.args.row.now) (signed_literal c.pattern_at-negated.result.1 c.pattern_at-negated.result.0.now) items
    c.requires.of_table c.pattern_at-negated.ensures
    (subst (λ (ms : List (List Equation)). Cover (row_of c.args.row.now) (signed_literal c.pattern_at-negated.result.1 c.pattern_at-negated.result.0.now) s.goal.now ms)
    (sym c.deref-equations-items.ensures.value) c.in_ok-matches.ensures)
    (λ k less. c.loop-equations.invariant k (omega (arith, less, c.loop-equations-test.false)))
