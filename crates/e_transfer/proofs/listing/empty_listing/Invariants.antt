use Rattle.std.proofs.Common.{◌≡◌, ◌<◌, ℕ, [], length, get_or}
use Rattle.e_transfer.proofs.listing.empty_listing.Given as goal

abbrev pub invariant-loop-mark : goal.invariant-loop-mark
invariant-loop-mark l = record { long : length l.listing.items ≡ l._mark; at : (m : ℕ) → m < l._mark → get_or l.listing.items m [] ≡ [] }
