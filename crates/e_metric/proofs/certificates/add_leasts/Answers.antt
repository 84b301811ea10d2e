use Rattle.std.proofs.Common.{◌≡◌, ◌++◌, ◌≤◌, ◌^◌, List, OnOk, ℤ, ap, sym, ◌∙◌, subst}
use Rattle.std.proofs.lemmas.List.{append-nil}
use Rattle.std.specs.Prelude.{unsigned_abs}
use Rattle.e_clause.specs.declared.cert.RowName.{RowName}
use Rattle.e_fraction.specs.Views.{with_multipliers}
use Rattle.e_literal.specs.Absurd.{total}
use Rattle.e_metric.specs.inner.TermTotals.{kept_total}
use Rattle.e_metric.proofs.sums.TermTotals.{leasts_alike, no_leasts}
use Rattle.e_metric.proofs.certificates.add_leasts.Goals as goal

pub add_leasts_of-requires : goal.add_leasts_of-requires
add_leasts_of-requires c t = subst (λ (z : ℤ). unsigned_abs z ≤ 2 ^ 80) (sym (c.in_ok-totals.ensures t)) (c.requires.left t)

pub returns-then-has_negative : goal.returns-then-has_negative
returns-then-has_negative c =
    subst (λ (l : List (ℤ × RowName)). OnOk c.add_leasts_of.result (c.add_leasts_of.new.sum.items ≡ c.args.sum.now.items ++ l))
    (leasts_alike (kept_total c.in_ok-totals.totals.entries) (total (with_multipliers c.args.rows.now c.args.weights.now)) c.args.terms.now c.in_ok-totals.ensures) c.add_leasts_of.ensures

pub returns : goal.returns
returns c =
    sym (append-nil c.args.sum.now.items)
    ∙ ap (λ (l : List (ℤ × RowName)). c.args.sum.now.items ++ l)
    (sym (sym (leasts_alike (kept_total c.in_ok-totals.totals.entries) (total (with_multipliers c.args.rows.now c.args.weights.now)) c.args.terms.now c.in_ok-totals.ensures)
    ∙ no_leasts c.in_ok-totals.totals.entries c.args.terms.now (sym c.has_negative.ensures ∙ c.if-has_negative.false)))
