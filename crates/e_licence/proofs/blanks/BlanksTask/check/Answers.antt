use Rattle.std.proofs.Common.{rules}
use Rattle.e_licence.proofs.KnownLiterals.{if_verdict, none_wanted}
use Rattle.e_licence.proofs.blanks.BlanksTask.check.Goals as goal

pub returns-in-Yes-clause-verdict : goal.returns-in-Yes-clause-verdict
returns-in-Yes-clause-verdict c =
    let s = c.args.self.now in
    if_verdict c.license_whole.result s.context.now s.declared.items s.statement.now.declared s.pattern.now s.statement.now.given c.args.part.now c.in_ok-images.images _ s.whole
    s.declares (search rules) (search rules) s.counted c.license_whole.ensures.verdict

pub returns-in-No-clause-verdict : goal.returns-in-No-clause-verdict
returns-in-No-clause-verdict c =
    let s = c.args.self.now in
    none_wanted s.context.now s.declared.items s.statement.now.declared s.pattern.now s.statement.now.given c.args.part.now c.in_ok-images.images c.in_ok-license_completed.field-0
    s.declares (search rules) c.in-No.is c.in_ok-license_completed.ensures.verdict
