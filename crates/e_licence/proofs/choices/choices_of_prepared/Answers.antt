use Rattle.std.proofs.Common.{ap, sym, ◌∙◌, rules}
use Rattle.e_theorem.specs.Statements.{as_view}
use Rattle.e_licence.proofs.BlankChoices.{has_empty}
use Rattle.e_licence.proofs.ChoicesInOrder.{none_first, swept_all, swept_full, swept_wide}
use Rattle.e_licence.proofs.choices.choices_of_prepared.Goals as goal

pub returns-then-has_empty-clause-choices : goal.returns-then-has_empty-clause-choices
returns-then-has_empty-clause-choices c =
    none_first c.args.context.now (as_view c.args.statement.now) c.args.pattern.now c.args.most c.in_ok-declared.declared.items c.in_ok-spans.spans.items c.empty.result
    (search rules) (search rules) (search rules) (search rules)

pub returns-in-Done-clause-choices : goal.returns-in-Done-clause-choices
returns-in-Done-clause-choices c =
    swept_all c.as_found.result c.args.context.now (as_view c.args.statement.now) c.args.pattern.now c.in_ok-declared.declared.items c.deref-7.result.now c.args.most c.new-chosen.result.items c.sweep.new.chosen.items
    c.empty-found.result c.sweep.new.found c.in_ok-sweep.field-0
    (record { states = c.requires.states; fits = c.requires.fits })
    (record { objects = search rules; spans = search rules; starts = search rules })
    (ap has_empty (c.deref-7.ensures.value ∙ sym c.deref-2.ensures.value) ∙ sym c.has_empty.ensures ∙ c.if-has_empty.false) (search rules) c.in-Done.is c.as_found.ensures c.in_ok-sweep.ensures.outcome

pub returns-in-Full-clause-choices : goal.returns-in-Full-clause-choices
returns-in-Full-clause-choices c =
    swept_full c.as_found-in-Full.result c.args.context.now (as_view c.args.statement.now) c.args.pattern.now c.in_ok-declared.declared.items c.deref-7.result.now c.args.most c.new-chosen.result.items c.sweep.new.chosen.items
    c.empty-found.result c.sweep.new.found c.in_ok-sweep.field-0
    (record { states = c.requires.states; fits = c.requires.fits })
    (record { objects = search rules; spans = search rules; starts = search rules })
    (ap has_empty (c.deref-7.ensures.value ∙ sym c.deref-2.ensures.value) ∙ sym c.has_empty.ensures ∙ c.if-has_empty.false) (search rules) c.in-Full.is c.as_found-in-Full.ensures c.in_ok-sweep.ensures.outcome

pub returns-clause-choices : goal.returns-clause-choices
returns-clause-choices c =
    swept_wide c.args.context.now (as_view c.args.statement.now) c.args.pattern.now c.in_ok-declared.declared.items c.deref-7.result.now c.args.most c.new-chosen.result.items c.sweep.new.chosen.items
    c.empty-found.result c.sweep.new.found c.in_ok-sweep.field-0 c.in-TooWide.width
    (record { states = c.requires.states; fits = c.requires.fits })
    (record { objects = search rules; spans = search rules; starts = search rules })
    (ap has_empty (c.deref-7.ensures.value ∙ sym c.deref-2.ensures.value) ∙ sym c.has_empty.ensures ∙ c.if-has_empty.false) (search rules) c.in-TooWide.is c.in_ok-sweep.ensures.outcome
