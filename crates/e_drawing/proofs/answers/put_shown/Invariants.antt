use Rattle.std.proofs.Common.{◌≡◌, ◌++◌, drop}
use Rattle.std.specs.Prelude.{flat_map}
use Rattle.e_drawing.specs.Answers.{shown_line}
use Rattle.e_drawing.proofs.answers.put_shown.Given as goal

abbrev pub invariant-loop-lit : goal.invariant-loop-lit
invariant-loop-lit l = l.out.items ++ flat_map (shown_line l.plan) (drop l.lit-index l.plan.shown) ≡ l.initial.out.items ++ flat_map (shown_line l.plan) l.plan.shown
