use Rattle.std.proofs.Common.{◌≡◌, ◌+◌, ◌<◌, string_bytes, arith}
use Rattle.e_generate.specs.Generated.{generated_theorem_text}
use Rattle.e_generate.proofs.Numbers.{one_more}
use Rattle.e_generate.proofs.generating.generated.Goals as goal

pub loop-number-preserved : goal.loop-number-preserved
loop-number-preserved c =
    one_more generated_theorem_text c.loop-number.number (c.args.theorems + 1) (string_bytes c.loop-number.out) (string_bytes c.put_theorem.new.out) (omega (arith, c.loop-number-test.true)) c.in_ok-put_theorem.ensures c.loop-number.invariant
