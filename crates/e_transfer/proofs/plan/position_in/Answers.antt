use Rattle.std.proofs.Common.{◌≡◌, sym, ◌∙◌, rules, tests}
use Rattle.std.specs.Prelude.{◌==◌}
use Rattle.std.specs.List.{position}
use Rattle.std.proofs.lemmas.Iterator.{YieldsList-from_slice}
use Rattle.std.proofs.lemmas.Iterator.Search.{position_from_yields_List}
use Rattle.e_transfer.proofs.Lists.{is_found, found_below, found_at}
use Rattle.e_transfer.proofs.plan.position_in.Goals as goal

pub unreachable-requires : goal.unreachable-requires
unreachable-requires c =
    let place : c.position.result ≡ position (λ u. u == c.args.variable) c.args.order.now =
    position_from_yields_List (λ u. u == c.args.variable) _ _ _ c.position.ensures.ran (YieldsList-from_slice c.args.order.now cc) (λ x b q k. search (rules, tests)) in
    is_found c.args.variable c.args.order.now c.requires (sym place ∙ c.in-None.is)

pub returns-clause-below : goal.returns-clause-below
returns-clause-below c =
    let place : c.position.result ≡ position (λ u. u == c.args.variable) c.args.order.now =
    position_from_yields_List (λ u. u == c.args.variable) _ _ _ c.position.ensures.ran (YieldsList-from_slice c.args.order.now cc) (λ x b q k. search (rules, tests)) in
    found_below c.args.variable c.args.order.now c.in-Some.position (sym place ∙ c.in-Some.is)

pub returns-clause-at : goal.returns-clause-at
returns-clause-at c =
    let place : c.position.result ≡ position (λ u. u == c.args.variable) c.args.order.now =
    position_from_yields_List (λ u. u == c.args.variable) _ _ _ c.position.ensures.ran (YieldsList-from_slice c.args.order.now cc) (λ x b q k. search (rules, tests)) in
    found_at c.args.variable c.args.order.now c.in-Some.position (sym place ∙ c.in-Some.is)
