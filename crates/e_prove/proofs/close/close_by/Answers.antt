use Rattle.std.proofs.Common.{sym, ap}
use Rattle.e_prove.specs.inner.StopsOfSteps.{contradiction_by}
use Rattle.e_prove.proofs.close.close_by.Goals as goal

pub returns-in-Yes : goal.returns-in-Yes
returns-in-Yes c = ap contradiction_by (sym c.in-Yes.is)

pub returns-in-No : goal.returns-in-No
returns-in-No c = ap contradiction_by (sym c.in-No.is)

pub returns-in-TooWide : goal.returns-in-TooWide
returns-in-TooWide c = ap contradiction_by (sym c.in-TooWide.is)
