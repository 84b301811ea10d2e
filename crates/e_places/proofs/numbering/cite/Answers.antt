use Rattle.std.proofs.Common.{ap}
use Rattle.e_deriv.specs.declared.block.Step.TheVariants.{Cite as CiteStep}
use Rattle.e_places.proofs.placing.NumberedSteps.{cite_numbered}
use Rattle.e_places.proofs.numbering.cite.Goals as goal

pub returns : goal.returns
returns c before = cite_numbered before c.args.by.now c.args.state.now c.assume.new.self _ (ap CiteStep c.in_ok-by.ensures) c.in_ok-assume.ensures
