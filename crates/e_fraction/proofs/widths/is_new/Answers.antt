-- The two tests are those of the list of terms.
use Rattle.std.proofs.Common.{not, ◌&&◌, ap, sym, ◌∙◌, refl}
use Rattle.std.specs.List.{list_any}
use Rattle.e_literal.specs.Same.{term_eq}
use Rattle.e_fraction.proofs.Products.{is_new_is}
use Rattle.e_fraction.proofs.widths.is_new.Goals as goal

pub returns-then-not-has_summand : goal.returns-then-not-has_summand
returns-then-not-has_summand c =
    sym (ap (λ k. not k && not c.occurs.result) c.if-not-has_summand.true)
    ∙ is_new_is c.args.rows.now c.args.form.now c.args.term c.has_summand.result c.occurs.result c.has_summand.ensures c.occurs.ensures

pub returns-else-not-has_summand : goal.returns-else-not-has_summand
returns-else-not-has_summand c =
    let other = list_any (λ r. list_any (λ q. term_eq q.1 c.args.term) r.form) c.args.rows.now in
    ap not c.if-not-has_summand.false
    ∙ sym (ap (λ k. not k && not other) c.if-not-has_summand.false)
    ∙ is_new_is c.args.rows.now c.args.form.now c.args.term c.has_summand.result other c.has_summand.ensures refl
