use Rattle.std.proofs.Common.{arith}
use Rattle.e_drawing.proofs.Drawn.{draws_front}
use Rattle.e_drawing.proofs.drawing.draw.Goals as goal

pub read_and_draw-answer-requires-clause-few : goal.read_and_draw-answer-requires-clause-few
read_and_draw-answer-requires-clause-few c = omega (arith, c.bytes_to_read.ensures.few)

pub returns : goal.returns
returns c = draws_front c.args.text.now c.bytes_to_read.result.now c.read_and_draw-answer.result c.bytes_to_read.ensures.value c.read_and_draw-answer.ensures
