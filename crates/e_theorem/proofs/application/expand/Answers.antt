use Rattle.e_theorem.proofs.NotionImages.{whole_expanded}
use Rattle.e_theorem.proofs.application.expand.Goals as goal

pub returns-clause-lits : goal.returns-clause-lits
returns-clause-lits c =
    whole_expanded c.args.notion.now c.args.args.now c.args.scope c.expand_first.result c.len.result c.len.ensures c.expand_first.ensures.lits
