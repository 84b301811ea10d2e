use Rattle.std.proofs.Common.{◌≡◌, ◌<◌, ◌≤◌, rules, sym, ◌∙◌, length, get_or}
use Rattle.e_transfer.proofs.Instances.{chosen, unchosen}
use Rattle.e_transfer.proofs.numbers.number_of.Goals as goal

pub returns-in-Some : goal.returns-in-Some
returns-in-Some c r =
    let less : c.args.variable < length c.args.positions.now = search rules in
    let is : c.number.result ≡ get_or c.args.part.now (get_or c.args.positions.now c.args.variable 0) 0 = search rules in
    is ∙ sym (chosen r c.args.part.now 0 c.args.positions.now c.args.variable less)

pub returns-in-None : goal.returns-in-None
returns-in-None c r =
    let over : length c.args.positions.now ≤ c.args.variable = search rules in
    sym (unchosen r c.args.part.now 0 c.args.positions.now c.args.variable over)
