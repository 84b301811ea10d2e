use Rattle.std.proofs.Common.{take, rules}
use Rattle.e_theorem.proofs.NotionImages.{first_expanded}
use Rattle.e_theorem.proofs.application.expand_first.Goals as goal

pub returns-clause-lits : goal.returns-clause-lits
returns-clause-lits c =
    first_expanded _ (take c.min-first.result c.items-2.result.now) c.in_ok-images.images c.args.notion.now c.args.args.now c.args.scope c.min-first.result c.args.most (search rules) (search rules) (search rules)
    (search rules)
