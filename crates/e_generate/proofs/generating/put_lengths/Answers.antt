use Rattle.std.proofs.Common.{◌≡◌, ◌+◌, ◌<◌, string_bytes, arith}
use Rattle.e_generate.specs.Generated.{hence_line}
use Rattle.e_generate.proofs.Numbers.{one_more}
use Rattle.e_generate.proofs.generating.put_lengths.Goals as goal

pub loop-i-preserved : goal.loop-i-preserved
loop-i-preserved c =
    one_more hence_line c.loop-i.i (c.args.last) (string_bytes c.loop-i.out) (string_bytes c.put_hence.new.out) (omega (arith, c.loop-i-test.true)) c.in_ok-put_hence.ensures c.loop-i.invariant
