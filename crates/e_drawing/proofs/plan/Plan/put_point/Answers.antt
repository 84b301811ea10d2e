use Rattle.e_drawing.proofs.Named.{point_named}
use Rattle.e_drawing.proofs.plan.Plan.put_point.Goals as goal

pub add_point-requires-clause-few : goal.add_point-requires-clause-few
add_point-requires-clause-few c = (point_named c.args.self.now c.args.name c.declare.new.names c.args.a c.requires (rw c.from_ref.ensures.value at c.in_ok-declare.ensures.value) c.in_ok-declare.ensures.fits).0

pub returns-clause-fits : goal.returns-clause-fits
returns-clause-fits c =
    rw c.in_ok-add_point.ensures.ok (point_named c.args.self.now c.args.name c.declare.new.names c.args.a c.requires (rw c.from_ref.ensures.value at c.in_ok-declare.ensures.value) c.in_ok-declare.ensures.fits).1
