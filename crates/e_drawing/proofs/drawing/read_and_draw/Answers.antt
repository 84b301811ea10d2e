use Rattle.std.proofs.lemmas.Result.{err_from_is_err_and}
use Rattle.e_drawing.proofs.Drawn.{drawn_faulty, drawn_whole}
use Rattle.e_drawing.proofs.drawing.read_and_draw.Goals as goal

pub returns-in_err-read_text : goal.returns-in_err-read_text
returns-in_err-read_text c =
    let p = err_from_is_err_and c.from_residual.result c.from_residual.ensures.1 in
    rw (p.1, p.2) (drawn_faulty c.args.text.now c.in_err-read_text.field-0.0 c.in_err-read_text.ensures)

pub returns : goal.returns
returns c = drawn_whole c.args.text.now c.read_text.new.plan c.in_ok-drawing.drawing c.in_ok-read_text.ensures c.in_ok-drawing.ensures.shown c.in_ok-drawing.ensures.bytes
