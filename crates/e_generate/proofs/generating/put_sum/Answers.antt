use Rattle.std.proofs.Common.{◌≡◌, ◌+◌, ◌<◌, string_bytes, arith}
use Rattle.e_generate.specs.Generated.{plus_segment}
use Rattle.e_generate.proofs.Numbers.{one_more}
use Rattle.e_generate.proofs.generating.put_sum.Goals as goal

pub loop-i-preserved : goal.loop-i-preserved
loop-i-preserved c =
    one_more plus_segment c.loop-i.i (c.args.last) (string_bytes c.loop-i.out) (string_bytes c.put_added.new.out) (omega (arith, c.loop-i-test.true)) c.in_ok-put_added.ensures c.loop-i.invariant
