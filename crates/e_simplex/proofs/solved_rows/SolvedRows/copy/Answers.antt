use Rattle.std.proofs.Common.{◌∙◌}
use Rattle.e_simplex.proofs.outcomes.Copying.{same_standing}
use Rattle.e_simplex.proofs.solved_rows.SolvedRows.copy.Goals as goal

pub invariant_of-result : goal.invariant_of-result
invariant_of-result c =
    same_standing c.self.inside.rows.items _ c.self.inside.terms.items _ c.self.inside.solved _ c.self.inside.values _
    (c.in_ok-rows.ensures ∙ c.deref-2.ensures.value) (c.in_ok-terms.ensures.items ∙ c.deref.ensures.value)
    (c.new.ensures ∙ c.in_ok-pairs.ensures.items ∙ c.items.ensures) c.in_ok-solved.ensures c.self.invariant

pub returns : goal.returns
returns c = c.in_ok-rows.ensures ∙ c.deref-2.ensures.value ∙ c.self.view_is
