use Rattle.e_commands.proofs.written_texts.UpgradedTexts.{holds_on_ok}
use Rattle.e_commands.proofs.rewriting.upgraded_block.Goals as goal

pub numbered-requires-clause-verifiable : goal.numbered-requires-clause-verifiable
numbered-requires-clause-verifiable c = rw c.statements.ensures c.requires.verifiable

pub numbered-requires-clause-certified : goal.numbered-requires-clause-certified
numbered-requires-clause-certified c = rw c.statements.ensures c.requires.certified

pub returns-clause-block : goal.returns-clause-block
returns-clause-block c = rw (rw c.statements.ensures at c.in_ok-derivation.ensures.numbered) at c.spell-text.ensures

pub returns-clause-version : goal.returns-clause-version
returns-clause-version c = holds_on_ok c.spell-text.result _ (rw (rw c.statements.ensures at c.in_ok-derivation.ensures.numbered) at c.in_ok-derivation.ensures.version)
