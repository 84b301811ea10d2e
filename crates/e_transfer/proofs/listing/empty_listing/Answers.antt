use Rattle.std.proofs.Common.{ℕ, arith, []}
use Rattle.e_transfer.proofs.Listings.{pushed_long, pushed_at}
use Rattle.e_transfer.proofs.listing.empty_listing.Goals as goal

pub loop-mark-preserved : goal.loop-mark-preserved
loop-mark-preserved c =
    let i = c.loop-mark.invariant in
    record {
      long = pushed_long c.loop-mark.listing.items c.push.new.self.items c.empty.result c.loop-mark._mark c.in_ok-push.ensures.items i.long;
      at = pushed_at (λ (m : ℕ). []) c.loop-mark.listing.items c.push.new.self.items c.empty.result c.loop-mark._mark c.in_ok-push.ensures.items i.long i.at c.empty.ensures;
    }

pub returns : goal.returns
returns c =
    let i = c.loop-mark.invariant in
    record {
      long = (let e = i.long in omega (arith, e, c.loop-mark-test.false));
      at = λ m less. i.at m (omega (arith, less, c.loop-mark-test.false));
    }
