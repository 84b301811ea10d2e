use Rattle.std.proofs.Common.{sym, ap}
use Rattle.e_prove.specs.declared.stop_reason.StopReason.{StopReason}
use Rattle.e_prove.specs.inner.StopsOfSteps.{stop_of}
use Rattle.e_prove.proofs.stop_reason.stop_with_names.Goals as goal

pub returns-in-Lacks : goal.returns-in-Lacks
returns-in-Lacks c = ap (λ (h : StopReason). stop_of h c.args.step c.args.names) (sym c.in-Lacks.is)

pub returns-in-TooWide : goal.returns-in-TooWide
returns-in-TooWide c = ap (λ (h : StopReason). stop_of h c.args.step c.args.names) (sym c.in-TooWide.is)
