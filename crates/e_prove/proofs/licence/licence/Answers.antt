use Rattle.std.proofs.Common.{ap, subst}
use Rattle.e_deriv.specs.declared.stop.Wanted.TheVariants.{Literal}
use Rattle.e_licence.specs.Licences.{IsLicence}
use Rattle.e_prove.proofs.LicensedLiterals.{one_lacks, one_too_wide}
use Rattle.e_prove.proofs.licence.licence.Goals as goal

pub returns-in-Ok-clause-err : goal.returns-in-Ok-clause-err
returns-in-Ok-clause-err c =
    let x = c.args.context.now in
    let l = c.args.lit.now in
    one_lacks x l _ c.in-No.values (ap Literal c.in-Ok.ensures) (subst (IsLicence x l) c.in-No.is c.in_ok-answer.ensures.licence)

pub returns-in_ok-copy-in-TooWide-clause-err : goal.returns-in_ok-copy-in-TooWide-clause-err
returns-in_ok-copy-in-TooWide-clause-err c =
    let x = c.args.context.now in
    let l = c.args.lit.now in
    one_too_wide x l _ c.in-TooWide.width (ap Literal c.in_ok-copy-in-TooWide.ensures) (subst (IsLicence x l) c.in-TooWide.is c.in_ok-answer.ensures.licence)
