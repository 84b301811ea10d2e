use Rattle.std.proofs.Common.{◌≡◌, ◌+◌, ◌<◌, string_bytes, arith}
use Rattle.e_generate.specs.Generated.{point}
use Rattle.e_generate.proofs.Numbers.{one_more}
use Rattle.e_generate.proofs.generating.put_points.Goals as goal

pub loop-i-preserved : goal.loop-i-preserved
loop-i-preserved c =
    one_more point c.loop-i.i (c.args.count) (string_bytes c.loop-i.out) (string_bytes c.put_point.new.out) (omega (arith, c.loop-i-test.true)) c.in_ok-put_point.ensures c.loop-i.invariant
