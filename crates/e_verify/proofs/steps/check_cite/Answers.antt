use Rattle.std.proofs.Common.{sym, ◌∙◌}
use Rattle.e_verify.proofs.checking.CertifiedLines.{checked_cite}
use Rattle.e_verify.proofs.steps.check_cite.Goals as goal

pub returns : goal.returns
returns c before = checked_cite before c.args.by.now c.args.state.now c.assume.new.self _ c.requires (sym c.if-not-branch.false ∙ c.in_ok-is_valid_citation.ensures) c.in_ok-assume.ensures
