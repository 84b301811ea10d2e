use Rattle.std.proofs.Common.{rules}
use Rattle.e_literal.proofs.CoefficientMaps.{put_nonzero}
use Rattle.e_literal.proofs.joining.put_mono.Goals as goal

pub returns : goal.returns
returns c = search (rules, put_nonzero)
