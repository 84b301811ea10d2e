use Rattle.std.proofs.Common.{◌∙◌, arith}
use Rattle.e_theorem.specs.Statements.{as_view}
use Rattle.e_suggest.proofs.Blanks.{blank_pattern, blanks_are, suggested_is}
use Rattle.e_suggest.proofs.suggestions.all.Goals as goal

pub first_choices-requires-clause-fits : goal.first_choices-requires-clause-fits
first_choices-requires-clause-fits c =
    blank_pattern (as_view c.args.statement.now) c.args.context.now.scope c.deref.result.now c.len.result c.len.ensures (c.deref.ensures.value ∙ c.in_ok-pattern.ensures)

pub first_choices-requires-clause-few : goal.first_choices-requires-clause-few
first_choices-requires-clause-few c = omega (arith, c.requires.few)

pub returns-clause-suggested : goal.returns-clause-suggested
returns-clause-suggested c =
    suggested_is (as_view c.args.statement.now) c.args.context.now c.deref.result.now c.args.most c.first_choices.result
    (blanks_are (as_view c.args.statement.now) c.deref.result.now c.len.result c.len.ensures (c.deref.ensures.value ∙ c.in_ok-pattern.ensures)) c.first_choices.ensures.choices
