use Rattle.std.proofs.Common.{length}
use Rattle.e_literal.proofs.scopes.+have_sorts_of.Given as goal

abbrev pub decreases-have_sorts_of : goal.decreases-have_sorts_of
decreases-have_sorts_of l = length l.models.now
