use Rattle.std.proofs.Common.{◌++◌, ◌∷◌, [], ◌∙◌, ap}
use Rattle.e_literal.specs.declared.object.Term.{Term}
use Rattle.e_transfer.proofs.FreeAreas.{also_pushed}
use Rattle.e_transfer.proofs.areas.add_area.Goals as goal

pub returns-in_ok-push : goal.returns-in_ok-push
returns-in_ok-push c =
    also_pushed c.args.areas.now.items c.push.new.self.items c.args.term
    (c.in_ok-push.ensures.items ∙ ap (λ (t : Term). c.args.areas.now.items ++ t ∷ []) c.canonical.ensures)
