use Rattle.std.proofs.Common.{rules, arith}
use Rattle.e_deriv.specs.declared.block.Close.TheViews.{the_lemmas}
use Rattle.e_deriv.proofs.Scripts.{sizes}
use Rattle.e_deriv.proofs.sizes.+size.Goals as goal

pub size-requires : goal.size-requires
size-requires t c = (search (rules, the_lemmas), grind (arith, sizes))

pub size-requires-in-Superposed : goal.size-requires-in-Superposed
size-requires-in-Superposed t c = (search (rules, the_lemmas), grind (arith, sizes))

pub size-requires-in-Cases : goal.size-requires-in-Cases
size-requires-in-Cases t c = (search (rules, the_lemmas), grind (arith, sizes))

pub size-requires-in-Cases-2 : goal.size-requires-in-Cases-2
size-requires-in-Cases-2 t c = (search (rules, the_lemmas), grind (arith, sizes))
