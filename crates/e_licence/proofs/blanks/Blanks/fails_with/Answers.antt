use Rattle.std.proofs.Common.{◌≡◌, rules, subst}
use Rattle.e_licence.specs.inner.BlankChoices.{images_of_choice, IsRefusedAt, OneIs}
use Rattle.e_licence.proofs.blanks.Blanks.fails_with.Goals as goal

pub returns-in-No-clause-refused : goal.returns-in-No-clause-refused
returns-in-No-clause-refused c = λ yes.
    let s = c.args.self.now in
    let b = s.context.now in
    let is : c.in_ok-images.images ≡ images_of_choice b.scope s.declared.items s.pattern.now c.args.choice.now = search rules in
    subst (λ es. IsRefusedAt b es c.args.lit.now) is (subst (λ v. OneIs b c.in_ok-images.images c.args.lit.now v) c.in-No.is c.in_ok-license_one.ensures.verdict)
