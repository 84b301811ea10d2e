use Rattle.std.proofs.Common.{ℕ, take, ap, ◌∙◌}
use Rattle.std.proofs.lemmas.List.{take_min}
use Rattle.e_drawing.proofs.drawing.bytes_to_read.Goals as goal

pub returns-clause-value : goal.returns-clause-value
returns-clause-value c = ap (λ (k : ℕ). take k c.args.text.now) c.min.ensures ∙ take_min 4194305 c.args.text.now
