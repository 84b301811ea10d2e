use Rattle.std.proofs.Common.{◌∷◌}
use Rattle.e_line.specs.Canonical.{sum_words}
use Rattle.e_line.proofs.read_again.Spaced.{after}
use Rattle.e_line.proofs.put_lit.put_sums.Goals as goal

pub returns : goal.returns
returns c =
    after c.args.out.now.items c.put_sum.new.out.items c.put_side.new.out.items (sum_words c.args.left.now) (c.args.sign.now ∷ sum_words c.args.right.now) c.in_ok-put_sum.ensures c.in_ok-put_side.ensures
