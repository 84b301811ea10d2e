use Rattle.std.proofs.Common.{◌≡◌, ◌+◌, ◌-◌, ◌<◌, string_bytes, arith}
use Rattle.e_generate.specs.Generated.{given_between_line}
use Rattle.e_generate.proofs.Numbers.{one_more}
use Rattle.e_generate.proofs.generating.put_given.Goals as goal

pub loop-i-preserved : goal.loop-i-preserved
loop-i-preserved c =
    one_more given_between_line c.loop-i.i (c.args.last - 1) (string_bytes c.loop-i.out) (string_bytes c.put_given_line.new.out) (omega (arith, c.loop-i-test.true)) c.in_ok-put_given_line.ensures c.loop-i.invariant
