use Rattle.std.proofs.Common.{◌<◌, length, ap, sym, ◌∙◌, arith}
use Rattle.e_names.specs.TitledStatements.{theorem_of}
use Rattle.e_names.proofs.titles.SideBySide.{length_side_by_side, statement_at}
use Rattle.e_names.proofs.theorems.Theorems.statement.Goals as goal

pub index-requires : goal.index-requires
index-requires c =
    let s = c.self.inside in
    omega (arith, c.requires, ap (λ h. length h) (sym c.self.view_is), length_side_by_side s.titles.keys s.statements.items c.self.invariant)

pub returns : goal.returns
returns c =
    let s = c.self.inside in
    let within : c.args.place < length s.statements.items = omega (arith, c.requires, ap (λ h. length h) (sym c.self.view_is), length_side_by_side s.titles.keys s.statements.items c.self.invariant) in
    statement_at s.titles.keys s.statements.items c.args.place c.index.result.now c.self.invariant within c.index.ensures ∙ ap (λ h. theorem_of h c.args.place) c.self.view_is
