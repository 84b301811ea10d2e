use Rattle.std.proofs.Common.{rules, ◌≡◌, ◌∙◌, ◌+◌, length, arith}
use Rattle.e_construct.proofs.Superposing.{gives_at, gives_of}
use Rattle.e_construct.proofs.superpose.Superpose.put_gives.Goals as goal

pub returns : goal.returns
returns c =
    let e : length c.args.self.now.points ≡ 6 = omega arith in
    let f : length c.args.self.now.lines ≡ 2 = omega arith in
    let g : c.push-3.new.self.items ≡ gives_at c.args.self.now.points c.args.self.now.lines c.args.scope.points (c.args.scope.points + 1) = search rules in
    g ∙ gives_of c.args.self.now c.args.scope e f
