use Rattle.std.proofs.Common.{rules, arith}
use Rattle.e_deriv.specs.declared.block.Close.TheViews.{the_lemmas}
use Rattle.e_deriv.proofs.Scripts.{depths}
use Rattle.e_deriv.proofs.sizes.+depth.Goals as goal

pub depth-requires : goal.depth-requires
depth-requires t c = (search (rules, the_lemmas), grind (arith, depths))

pub depth-requires-in-Superposed : goal.depth-requires-in-Superposed
depth-requires-in-Superposed t c = (search (rules, the_lemmas), grind (arith, depths))

pub depth-requires-in-Cases : goal.depth-requires-in-Cases
depth-requires-in-Cases t c = (search (rules, the_lemmas), grind (arith, depths))

pub depth-requires-in-Cases-2 : goal.depth-requires-in-Cases-2
depth-requires-in-Cases-2 t c = (search (rules, the_lemmas), grind (arith, depths))
