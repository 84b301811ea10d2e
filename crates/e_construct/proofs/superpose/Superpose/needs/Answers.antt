use Rattle.std.proofs.Common.{rules, ◌≡◌, ◌∙◌, length, arith}
use Rattle.e_construct.proofs.Superposing.{needs_at, needs_of}
use Rattle.e_construct.proofs.superpose.Superpose.needs.Goals as goal

pub returns : goal.returns
returns c =
    let e : length c.args.self.now.points ≡ 6 = omega arith in
    let f : length c.args.self.now.lines ≡ 2 = omega arith in
    let g : c.in_ok-lits.lits.items ≡ needs_at c.args.self.now.points c.args.self.now.lines = search rules in
    g ∙ needs_of c.args.self.now e f
