use Rattle.std.proofs.Common.{◌≡◌, take, map, Some}
use Rattle.e_prove.proofs.application.without_blanks.Given as goal

abbrev pub invariant-loop-object : goal.invariant-loop-object
invariant-loop-object l = l.entries ≡ map Some (take l.object-index l.args)
