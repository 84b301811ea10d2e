use Rattle.std.proofs.Common.{◌∷◌, ◌++◌, [], ap, ◌∙◌}
use Rattle.e_licence.specs.Contexts.{Basis, state_of}
use Rattle.e_prove.proofs.state_before.StateBefore.enter_block.Goals as goal

pub returns-clause-held : goal.returns-clause-held
returns-clause-held c =
    let x = c.args.self.now in
    ap (λ (b : Basis). record x { context = b }) (c.in_ok-hold.ensures.ok ∙ ap (λ (b : Basis). record b { held = b.held ++ state_of b ∷ [] }) c.in_ok-solve.ensures)
