use Rattle.std.proofs.Common.{sym, subst}
use Rattle.std.specs.Prelude.{OnOk}
use Rattle.e_deriv.specs.Script.{script_of}
use Rattle.e_book.specs.TheoremViews.{entry_of}
use Rattle.e_commands.specs.declared.rewriting.Job.{Job}
use Rattle.e_commands.specs.inner.Rewriting.{HasVersionFor, IsOfSecond}
use Rattle.e_commands.proofs.written_texts.UpgradedTexts.{holds_on_ok}
use Rattle.e_commands.proofs.written_texts.RewrittenTexts.{trimmable}
use Rattle.e_commands.proofs.rewriting.block_of.Goals as goal

pub trimmed_block-requires : goal.trimmed_block-requires
trimmed_block-requires c =
    trimmable c.args.known.now (entry_of c.args.theorem.now) c.requires.verifiable c.requires.certified
    (subst (λ (x : Job). HasVersionFor x (script_of c.args.theorem.now.block)) c.in-Trim.is c.requires.version)

pub returns-in-Upgrade-clause-version : goal.returns-in-Upgrade-clause-version
returns-in-Upgrade-clause-version c =
    subst (λ (x : Job). OnOk c.upgraded_block.result (IsOfSecond x c.args.known.now (entry_of c.args.theorem.now))) (sym c.in-Upgrade.is) c.upgraded_block.ensures.version

pub returns-in-Trim-clause-version : goal.returns-in-Trim-clause-version
returns-in-Trim-clause-version c = holds_on_ok c.trimmed_block.result _ (subst (λ (x : Job). IsOfSecond x c.args.known.now (entry_of c.args.theorem.now)) (sym c.in-Trim.is) tt)

pub returns-in-Uses-clause-version : goal.returns-in-Uses-clause-version
returns-in-Uses-clause-version c = holds_on_ok c.uses_line.result _ (subst (λ (x : Job). IsOfSecond x c.args.known.now (entry_of c.args.theorem.now)) (sym c.in-Uses.is) tt)
