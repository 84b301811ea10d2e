use Rattle.std.proofs.Common.{sym, ◌∙◌}
use Rattle.e_verify.proofs.checking.CertifiedLines.{checked_hence}
use Rattle.e_verify.proofs.steps.check_hence.Goals as goal

pub returns : goal.returns
returns c before =
    checked_hence before c.args.lit.now c.args.cert.now c.in-Some.cert c.args.state.now c.assume.new.self c.requires.lit c.in-Some.is (sym c.in_scope.ensures ∙ c.if-not-in_scope.false)
    (sym c.in_ok-certifies.ensures ∙ c.if-not-branch.false) c.in_ok-assume.ensures
