use Rattle.std.proofs.Common.{take}
use Rattle.e_transfer.specs.Listings.{IsListing}
use Rattle.e_transfer.proofs.listing.listing_of.Given as goal

abbrev pub invariant-loop-fact : goal.invariant-loop-fact
invariant-loop-fact l = IsListing (take l.fact-index l.facts) l.listing.items
