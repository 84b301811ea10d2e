use Rattle.std.proofs.Common.{rules}
use Rattle.e_theorem.proofs.NotionImages.{one_sort_declared, imaged_declared}
use Rattle.e_theorem.proofs.application.images_declared.Goals as goal

pub of_pairs-requires : goal.of_pairs-requires
of_pairs-requires c = record { one_sort = one_sort_declared c.deref.result.now c.args.notion.now c.args.args.now c.args.scope (search rules) c.requires.fit }

pub returns : goal.returns
returns c = imaged_declared c.in_ok-images.images c.deref.result.now c.args.notion.now c.args.args.now c.args.scope (search rules) (search rules) c.requires.fit
