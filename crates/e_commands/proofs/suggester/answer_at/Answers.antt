use Rattle.std.proofs.Common.{subst, rules}
use Rattle.e_licence.specs.Contexts.{Basis}
use Rattle.e_commands.specs.inner.Suggesting.{IsListed}
use Rattle.e_commands.specs.declared.suggestions.Listed.{Listed}
use Rattle.e_commands.proofs.answers.SuggesterAnswers.{listed_answer, wide_at_place}
use Rattle.e_commands.proofs.suggester.answer_at.Goals as goal

pub returns-in-Found : goal.returns-in-Found
returns-in-Found c =
    let p = c.args.state.now in
    let known = c.args.known.now in
    let listed = subst (λ (b : Basis). IsListed p.names b.scope b.facts known c.list_theorems.new.out.items c.in_ok-lines.field-0) c.in_ok-solve.ensures c.in_ok-lines.ensures in
    listed_answer c.with_last_line.result p.names p.context.scope p.context.facts known c.args.title c.args.step c.in-Found.lines _ c.in-Found.more c.list_theorems.new.out.items _ (search rules) (search rules)
    (subst (λ (l : Listed). IsListed p.names p.context.scope p.context.facts known c.list_theorems.new.out.items l) c.in-Found.is listed) c.with_last_line.ensures

pub returns-in_ok-names-in-TooWide : goal.returns-in_ok-names-in-TooWide
returns-in_ok-names-in-TooWide c =
    let p = c.args.state.now in
    let known = c.args.known.now in
    let listed = subst (λ (b : Basis). IsListed p.names b.scope b.facts known c.list_theorems.new.out.items c.in_ok-lines.field-0) c.in_ok-solve.ensures c.in_ok-lines.ensures in
    wide_at_place c.answer_of_stop.result p.names c.in_ok-names-in-TooWide.names p.context.scope p.context.facts known c.args.title c.args.step c.in-TooWide.width c.in_ok-names-in-TooWide.ensures
    (subst (λ (l : Listed). IsListed p.names p.context.scope p.context.facts known c.list_theorems.new.out.items l) c.in-TooWide.is listed) c.answer_of_stop.ensures
