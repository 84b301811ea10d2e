use Rattle.e_deriv.specs.PlainStep.{plain_step}
use Rattle.e_book.specs.Steps.{after_line}
use Rattle.e_book.proofs.parser.TheoremParser.on_by.Goals as goal

pub returns-clause-value : goal.returns-clause-value
unfolding after_line plain_step
returns-clause-value c = let h = c.in_ok-by.ensures in rw h c.add_step.ensures.value
