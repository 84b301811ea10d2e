use Rattle.e_drawing.proofs.Named.{line_named}
use Rattle.e_drawing.proofs.plan.Plan.put_line.Goals as goal

pub add_line-requires-clause-few : goal.add_line-requires-clause-few
add_line-requires-clause-few c = (line_named c.args.self.now c.args.name c.declare.new.names c.args.l c.requires.fits (rw c.from_ref.ensures.value at c.in_ok-declare.ensures.value) c.in_ok-declare.ensures.fits).0

pub returns-clause-fits : goal.returns-clause-fits
returns-clause-fits c =
    rw c.in_ok-add_line.ensures.ok (line_named c.args.self.now c.args.name c.declare.new.names c.args.l c.requires.fits (rw c.from_ref.ensures.value at c.in_ok-declare.ensures.value) c.in_ok-declare.ensures.fits).1
