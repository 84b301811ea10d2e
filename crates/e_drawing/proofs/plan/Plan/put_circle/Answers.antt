use Rattle.e_drawing.proofs.Named.{circle_named}
use Rattle.e_drawing.proofs.plan.Plan.put_circle.Goals as goal

pub add_circle-requires-clause-few : goal.add_circle-requires-clause-few
add_circle-requires-clause-few c = (circle_named c.args.self.now c.args.name c.declare.new.names c.args.c c.requires.fits (rw c.from_ref.ensures.value at c.in_ok-declare.ensures.value) c.in_ok-declare.ensures.fits).0

pub returns-clause-fits : goal.returns-clause-fits
returns-clause-fits c =
    rw c.in_ok-add_circle.ensures.ok (circle_named c.args.self.now c.args.name c.declare.new.names c.args.c c.requires.fits (rw c.from_ref.ensures.value at c.in_ok-declare.ensures.value) c.in_ok-declare.ensures.fits).1
