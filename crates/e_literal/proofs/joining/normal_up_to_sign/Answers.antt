use Rattle.std.proofs.Common.{ap, ap₂, ◌∙◌}
use Rattle.std.specs.Ordering.{ord_min}
use Rattle.e_literal.specs.NormalForm.{form_cmp}
use Rattle.e_literal.proofs.CoefficientMaps.{lesser_is}
use Rattle.e_literal.proofs.joining.normal_up_to_sign.Goals as goal

pub returns : goal.returns
returns c =
    ap (λ m. m.entries) c.min.ensures ∙ lesser_is c.in_ok-form.form c.in_ok-negative.negative ∙ ap₂ (ord_min form_cmp) c.in_ok-form.ensures c.in_ok-negative.ensures
