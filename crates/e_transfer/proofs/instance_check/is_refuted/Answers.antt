use Rattle.std.proofs.Common.{ap}
use Rattle.std.specs.Prelude.{option_copied}
use Rattle.e_transfer.proofs.instance_check.is_refuted.Goals as goal

pub refutes-requires : goal.refutes-requires
refutes-requires c = c.args.query.now.hinted c.in-Some.hints.now (ap option_copied c.in-Some.is)
