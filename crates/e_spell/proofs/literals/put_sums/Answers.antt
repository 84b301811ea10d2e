use Rattle.std.proofs.Common.{◌∷◌}
use Rattle.e_line.specs.Canonical.{sum_words}
use Rattle.e_line.proofs.read_again.Spaced.{after, word_after}
use Rattle.e_names.specs.Canonical.{raw_sum}
use Rattle.e_spell.proofs.literals.put_sums.Goals as goal

pub returns : goal.returns
returns c =
    let a = c.args.out.now.items in
    let b = c.put_sum.new.out.items in
    let end = c.put_sum-2.new.out.items in
    let left = sum_words (raw_sum c.args.names.now c.args.left.now) in
    let right = sum_words (raw_sum c.args.names.now c.args.right.now) in
    after a b end left (c.args.sign.now ∷ right) c.in_ok-put_sum.ensures (word_after b c.put.new.out.items end c.args.sign.now right c.in_ok-put.ensures.ok c.in_ok-put_sum-2.ensures)
