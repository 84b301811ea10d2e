use Rattle.std.proofs.Common.{◌≡◌, ◌<◌, [], ap, ◌∙◌, get_or, arith}
use Rattle.std.specs.List.{list_any}
use Rattle.std.proofs.lemmas.List.{get_or_read}
use Rattle.e_transfer.specs.inner.BoundFacts.{fits}
use Rattle.e_transfer.proofs.Listings.{some_fit}
use Rattle.e_transfer.proofs.bound_facts.may_be_fact.Goals as goal

pub index-requires : goal.index-requires
index-requires c =
    let long = c.args.query.now.listed.long in
    let low = c.requires in
    omega (arith, long, low)

pub returns : goal.returns
returns c =
    let s = c.args.query.now in
    let listing = s.listing.now.items in
    let long = s.listed.long in
    let low = c.requires in
    let at : c.index.result.now ≡ get_or listing c.args.mark [] = get_or_read listing c.args.mark c.index.result.now (omega (arith, long, low)) c.index.ensures [] in
    c.is_any.ensures ∙ ap (list_any (fits c.args.known)) (c.items.ensures ∙ at ∙ s.listed.at c.args.mark c.requires) ∙ some_fit c.args.mark c.args.known s.facts.now
