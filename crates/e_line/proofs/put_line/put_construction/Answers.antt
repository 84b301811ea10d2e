use Rattle.e_line.specs.Canonical.{filled_pieces, line_pieces, avoid_words}
use Rattle.e_line.proofs.read_again.Spaced.{after}
use Rattle.e_line.proofs.put_line.put_construction.Goals as goal

pub returns : goal.returns
returns c =
    after c.args.out.now.items c.put_shape.new.out.items c.put_avoided.new.out.items (filled_pieces (line_pieces c.args.shapes.now) c.args.new.now c.args.args.now) (avoid_words c.args.avoid.now)
    c.in_ok-put_shape.ensures c.in_ok-put_avoided.ensures
