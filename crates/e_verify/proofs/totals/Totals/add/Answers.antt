use Rattle.std.proofs.Common.{◌+ℤ◌, [], ◌∷◌, ap, SFits, to_z-of_z, sym, ◌∙◌}
use mir.Syntax.{w128}
use Rattle.e_literal.specs.Rows.{coefficient, normal_summands, times}
use Rattle.e_verify.specs.inner.Totals.{total_at}
use Rattle.e_verify.proofs.arithmetic.KeyedTotals.{IsKeyFor, added_for, dropped, keys_and, same_entries}
use Rattle.e_verify.proofs.totals.Totals.add.Goals as goal
use Rattle.e_verify.proofs.totals.Totals.add.Goals.{After-push}

the_key : (c : After-push) → IsKeyFor c.args.term c.canonical-ordered.result c.key_of-key.result
the_key c = record { order = c.canonical-ordered.ensures; value = c.key_of-key.ensures.value; narrow = c.key_of-key.ensures.narrow }

pub invariant_of-self : goal.invariant_of-self
invariant_of-self c = same_entries c.self.inside.summands.items c.push.new.self.items c.in_err-push.ensures.items c.self.invariant

pub invariant_of-self-2 : goal.invariant_of-self-2
invariant_of-self-2 c =
    let k = the_key (goal.at.invariant_of-self-2 c).After-push in
    keys_and c.self.inside.summands.items c.push.new.self.items c.args.term c.canonical-ordered.result c.key_of-key.result _ k c.in_ok-push.ensures.items c.self.invariant

pub returns-then-is_degenerate : goal.returns-then-is_degenerate
returns-then-is_degenerate c t = dropped c.args.self.now c.args.term t c.args.n (sym c.is_degenerate.ensures ∙ c.if-is_degenerate.true)

pub returns : goal.returns
returns c t =
    let g : SFits w128 c.args.n = c.ranges.n in
    let k = the_key (goal.at.returns c).After-push in
    let pushed = simp to_z-of_z at c.in_ok-push.ensures.items in
    added_for c.self.inside.summands.items c.push.new.self.items c.args.term c.canonical-ordered.result c.key_of-key.result c.args.n k pushed (sym c.is_degenerate.ensures ∙ c.if-is_degenerate.false) t
    ∙ ap (λ es. total_at es t +ℤ coefficient (normal_summands (times c.args.n c.args.term ∷ [])) t) c.self.view_is
