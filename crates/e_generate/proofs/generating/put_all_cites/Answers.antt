use Rattle.std.proofs.Common.{◌≡◌, ◌+◌, ◌<◌, string_bytes, arith}
use Rattle.e_generate.specs.Generated.{cites}
use Rattle.e_generate.proofs.Numbers.{one_more}
use Rattle.e_generate.proofs.generating.put_all_cites.Goals as goal

pub loop-i-preserved : goal.loop-i-preserved
loop-i-preserved c =
    one_more cites c.loop-i.i (c.args.last) (string_bytes c.loop-i.out) (string_bytes c.put_cites.new.out) (omega (arith, c.loop-i-test.true)) c.in_ok-put_cites.ensures c.loop-i.invariant
