use Rattle.e_names.proofs.literals.NamesPut.{signed_so}
use Rattle.e_names.proofs.naming.raw_negated.Goals as goal

pub returns-in_ok-atom-in_default : goal.returns-in_ok-atom-in_default
returns-in_ok-atom-in_default c = signed_so c.args.names.now c.args.atom.now c.in_ok-atom-in_default.atom c.in_default.not-MagLt c.in_ok-atom-in_default.ensures
