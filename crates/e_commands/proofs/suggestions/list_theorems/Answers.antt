use Rattle.std.proofs.Common.{◌+◌, Bool, arith, ap, sym, subst, ◌∙◌}
use Rattle.e_commands.specs.declared.suggestions.Listed.TheVariants as listed
use Rattle.e_theorem.specs.Statements.{as_view}
use Rattle.e_commands.specs.inner.Suggesting.{IsListed}
use Rattle.e_commands.proofs.answers.SuggestedLines.{headed_at, statement_at, listed_start, listed_more, listed_full, listed_wide, listed_all}
use Rattle.e_commands.proofs.suggestions.list_theorems.Goals as goal

pub loop-at-init : goal.loop-at-init
loop-at-init c = (
  listed_start c.args.state.now.names c.args.state.now.context.scope c.args.state.now.context.facts c.args.known.now c.args.out.now.items c.requires.empty,
  c.new-memory.ensures c.args.state.now.context,
)

pub list_theorem-requires-clause-states : goal.list_theorem-requires-clause-states
list_theorem-requires-clause-states c =
    statement_at c.args.known.now c.loop-at.at c.title-title.result (as_view c.statement-statement.result.now) c.requires.small c.title-title.ensures c.statement-statement.ensures

pub overflow_sub-count : goal.overflow_sub-count
overflow_sub-count c = omega (arith, c.loop-at.invariant.0.few)

pub loop-at-preserved : goal.loop-at-preserved
loop-at-preserved c = (
  listed_more c.args.state.now.names c.args.state.now.context.scope c.args.state.now.context.facts c.args.known.now c.loop-at.at c.title-title.result (as_view c.statement-statement.result.now)
      c.loop-at.out.items c.list_theorem.new.out.items c.loop-at.count c.in-Found.lines c.in_ok-lines.field-0
      (headed_at c.args.known.now c.loop-at.at c.title-title.result (as_view c.statement-statement.result.now) c.title-title.ensures c.statement-statement.ensures) c.loop-at.invariant.0 (c.in-Found.is ∙ ap (λ b. listed.Found c.in-Found.lines b) c.if-more.false) c.in_ok-lines.ensures.listed,
  c.in_ok-lines.ensures.memory,
)

pub returns-then-more : goal.returns-then-more
returns-then-more c =
    subst (λ (more : Bool). IsListed c.args.state.now.names c.args.state.now.context.scope c.args.state.now.context.facts c.args.known.now c.list_theorem.new.out.items (listed.Found (c.loop-at.count + c.in-Found.lines) more)) (sym c.if-more.true)
    (listed_full c.args.state.now.names c.args.state.now.context.scope c.args.state.now.context.facts c.args.known.now c.loop-at.at c.title-title.result (as_view c.statement-statement.result.now)
    c.loop-at.out.items c.list_theorem.new.out.items c.loop-at.count c.in-Found.lines c.in_ok-lines.field-0
    (headed_at c.args.known.now c.loop-at.at c.title-title.result (as_view c.statement-statement.result.now) c.title-title.ensures c.statement-statement.ensures) c.loop-at.invariant.0 (c.in-Found.is ∙ ap (λ b. listed.Found c.in-Found.lines b) c.if-more.true) c.in_ok-lines.ensures.listed)

pub returns-in-TooWide : goal.returns-in-TooWide
returns-in-TooWide c =
    listed_wide c.args.state.now.names c.args.state.now.context.scope c.args.state.now.context.facts c.args.known.now c.loop-at.at c.title-title.result (as_view c.statement-statement.result.now) _ c.in-TooWide.width
    c.loop-at.out.items c.list_theorem.new.out.items c.in_ok-lines.field-0
    (headed_at c.args.known.now c.loop-at.at c.title-title.result (as_view c.statement-statement.result.now) c.title-title.ensures c.statement-statement.ensures) c.in-TooWide.is c.in_ok-lines.ensures.listed

pub returns : goal.returns
returns c =
    listed_all c.args.state.now.names c.args.state.now.context.scope c.args.state.now.context.facts c.args.known.now c.loop-at.at c.loop-at.out.items c.loop-at.count
    (omega (arith, c.loop-at-test.false, c.len-at-end.ensures)) c.loop-at.invariant.0
