use Rattle.std.proofs.Common.{arith, subst, rules, sym, inl, inr, refl, [], append-nil}
use Rattle.e_theorem.specs.Statements.{as_view}
use Rattle.e_suggest.specs.Suggestions.{SuggestedIs}
use Rattle.e_commands.proofs.suggestions.list_theorem.Goals as goal

pub returns-then-declared-gt-MOST_DECLARED-clause-listed : goal.returns-then-declared-gt-MOST_DECLARED-clause-listed
returns-then-declared-gt-MOST_DECLARED-clause-listed c = ([], sym (append-nil c.args.out.now.items), refl, omega arith, inl (omega (arith, c.len-declared.ensures, c.if-declared-gt-MOST_DECLARED.true), refl, refl))

pub all-requires-clause-few : goal.all-requires-clause-few
all-requires-clause-few c = omega (arith, c.len-declared.ensures, c.if-declared-gt-MOST_DECLARED.false)

pub returns-in_ok-put_applications-in-Found-clause-listed : goal.returns-in_ok-put_applications-in-Found-clause-listed
returns-in_ok-put_applications-in-Found-clause-listed c =
    let first = subst (SuggestedIs (as_view c.args.statement.now) c.args.state.now.context c.args.left) c.in-Found.is c.in_ok-choices.ensures.suggested in
    (c.in-Found.choices, search rules, search rules, omega (arith, c.len-lines.ensures, first.few), inr (omega (arith, c.len-declared.ensures, c.if-declared-gt-MOST_DECLARED.false), first))

pub returns-in-TooWide-clause-listed : goal.returns-in-TooWide-clause-listed
returns-in-TooWide-clause-listed c = (
  omega (arith, c.len-declared.ensures, c.if-declared-gt-MOST_DECLARED.false),
  subst (SuggestedIs (as_view c.args.statement.now) c.args.state.now.context c.args.left) c.in-TooWide.is c.in_ok-choices.ensures.suggested,
)
