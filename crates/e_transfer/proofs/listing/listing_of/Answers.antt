use Rattle.std.proofs.Common.{rules, ◌≡◌, ◌<◌, ◌+◌, List, ℕ, ap, arith, ◌∙◌, length, length-set, refl, subst, sym, take}
use Rattle.std.proofs.lemmas.List.{take_all}
use Rattle.e_literal.specs.declared.literal.Lit.{Lit}
use Rattle.e_facts.proofs.Items.{fact_at}
use Rattle.e_transfer.specs.Listings.{HasNumbersOf, IsListing}
use Rattle.e_transfer.specs.Marks.{lit_mark}
use Rattle.e_transfer.proofs.Listings.{one_more_listed, of_low_mark, still_long}
use Rattle.e_transfer.proofs.Unification.{whole}
use Rattle.e_transfer.proofs.listing.listing_of.Goals as goal

pub loop-fact-preserved : goal.loop-fact-preserved
loop-fact-preserved c =
    let facts = c.args.facts.now in
    let i = c.loop-fact.fact-index in
    let old = c.loop-fact.listing.items in
    let new = c.add_numbers.new.listing in
    let adds = subst (λ (l : List (List (ℕ × ℕ × ℕ))). HasNumbersOf l c.fact-item.result new) c.deref_mut.ensures.value c.in_ok-add_numbers.ensures in
    let many : c.loop-fact.listing.len ≡ length old = search rules in
    let is = whole c.loop-fact.listing.len new old many (still_long old new c.fact-item.result adds) in
    subst (λ (l : List (List (ℕ × ℕ × ℕ))). IsListing (take (i + 1) facts) l) (sym is)
    (one_more_listed facts old new i c.fact-item.result (fact_at facts facts i c.fact-item.result refl c.loop-fact-test.true c.fact-item.is) (of_low_mark c.fact-item.result) c.loop-fact.invariant adds)

pub returns : goal.returns
returns c = subst (λ (fs : List Lit). IsListing fs c.loop-fact.listing.items) (take_all c.loop-fact.fact-index c.args.facts.now c.loop-fact-test.false) c.loop-fact.invariant
