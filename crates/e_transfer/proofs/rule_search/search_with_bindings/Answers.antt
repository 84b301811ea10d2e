use Rattle.std.proofs.Common.{◌≡◌, ◌∙◌, ap, length, Option}
use Rattle.e_clause.specs.declared.cert.TransferCert.{TransferCert}
use Rattle.e_clause.specs.Views.{row_of}
use Rattle.e_transfer.specs.declared.query.Strength.TheVariants as strength
use Rattle.e_transfer.specs.declared.walk.Verdict.TheVariants as verdict
use Rattle.e_transfer.specs.GivenGoals.{IsWideTransfer}
use Rattle.e_transfer.specs.inner.SearchedPlaces.{Wanted, Shown}
use Rattle.e_transfer.proofs.RuleSearches.{none_tied, none_unshown, none_wanted}
use Rattle.e_transfer.proofs.rule_search.search_with_bindings.Goals as goal

pub unreachable-requires : goal.unreachable-requires
unreachable-requires c =
    let s = c.args.query.now in
    let plan = c.in_ok-plan.plan in
    none_unshown s.scope s.facts.now s.goal.now (λ part. Unit {0}) (Wanted s.strength s.scope s.facts.now s.goal.now c.args.rule c.args.place plan)
    (λ part w. (s.strength ≡ strength.Sums) × IsWideTransfer s.scope s.facts.now s.goal.now w) plan.spans.items c.deref.result.now c.in_ok-chosen.chosen.items
    c.search-found.new.chosen.items c.in_ok-cert.field-0 c.deref.ensures.value c.in_ok-chosen.ensures.items
    (c.in-Yes-None.is ∙ ap (λ (p : Option TransferCert). verdict.Yes p) c.in-Yes-None.field-0-is) c.in_ok-cert.ensures.outcome

pub returns-in-No : goal.returns-in-No
returns-in-No c =
    let s = c.args.query.now in
    let plan = c.in_ok-plan.plan in
    none_tied s.strength s.scope s.facts.now s.goal.now c.args.rule c.args.place (row_of c.args.row.now) c.args.bindings.now plan c.requires.of_table c.in_ok-plan.ensures
    (none_wanted (λ part. Unit {0}) (Wanted s.strength s.scope s.facts.now s.goal.now c.args.rule c.args.place plan)
    (Shown s.scope s.facts.now s.goal.now (length plan.spans.items)) (λ part w. (s.strength ≡ strength.Sums) × IsWideTransfer s.scope s.facts.now s.goal.now w)
    plan.spans.items c.deref.result.now c.in_ok-chosen.chosen.items c.search-found.new.chosen.items c.in_ok-cert.field-0 c.deref.ensures.value c.in_ok-chosen.ensures.items
    c.in-No.is c.in_ok-cert.ensures.outcome)
