use Rattle.std.proofs.Common.{ap, sym, ◌∙◌, rules}
use Rattle.e_theorem.specs.Statements.{as_view}
use Rattle.e_licence.proofs.BlankChoices.{has_empty}
use Rattle.e_licence.proofs.FilledBlanks.{empty_span, found, nothing_found, stopped}
use Rattle.e_licence.proofs.blanks.match_prepared.Goals as goal

pub returns-then-has_empty : goal.returns-then-has_empty
returns-then-has_empty c =
    empty_span c.args.context.now (as_view c.args.statement.now) c.args.pattern.now c.in_ok-declared.declared.items c.in_ok-spans.spans.items (search rules) (search rules) (search rules)

pub returns-in-Yes : goal.returns-in-Yes
returns-in-Yes c =
    found c.args.context.now (as_view c.args.statement.now) c.args.pattern.now c.in_ok-declared.declared.items c.deref-6.result.now c.new-chosen.result.items c.search.new.chosen.items
    c.new.result c.in_ok-search.field-0 c.in-Yes.field-0
    (record { states = c.requires.states; fits = c.requires.fits })
    (record { objects = search rules; spans = search rules; starts = search rules })
    (ap has_empty (c.deref-6.ensures.value ∙ sym c.deref-2.ensures.value) ∙ sym c.has_empty.ensures ∙ c.if-has_empty.false) c.in-Yes.is (search rules) c.in_ok-search.ensures.outcome

pub returns-in-No : goal.returns-in-No
returns-in-No c =
    nothing_found c.args.context.now (as_view c.args.statement.now) c.args.pattern.now c.in_ok-declared.declared.items c.deref-6.result.now c.new-chosen.result.items c.search.new.chosen.items
    c.in_ok-search.field-0 c.requires.states
    (record { objects = search rules; spans = search rules; starts = search rules }) c.in-No.is c.in_ok-search.ensures.outcome

pub returns : goal.returns
returns c =
    stopped c.args.context.now (as_view c.args.statement.now) c.args.pattern.now c.in_ok-declared.declared.items c.deref-6.result.now c.new-chosen.result.items c.search.new.chosen.items
    c.in_ok-search.field-0 c.in-TooWide.width
    (record { states = c.requires.states; fits = c.requires.fits })
    (record { objects = search rules; spans = search rules; starts = search rules })
    (ap has_empty (c.deref-6.ensures.value ∙ sym c.deref-2.ensures.value) ∙ sym c.has_empty.ensures ∙ c.if-has_empty.false) c.in-TooWide.is c.in_ok-search.ensures.outcome
