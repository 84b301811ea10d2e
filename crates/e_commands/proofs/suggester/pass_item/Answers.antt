use Rattle.e_names.specs.Titled.{titled_notion}
use Rattle.e_commands.proofs.answers.SuggesterAnswers.{notion_passes}
use Rattle.e_commands.proofs.suggester.pass_item.Goals as goal

pub pass_theorem-requires-clause-good : goal.pass_theorem-requires-clause-good
pass_theorem-requires-clause-good c = rw c.in-Theorem.is at c.requires.good

pub pass_theorem-requires-clause-fitting : goal.pass_theorem-requires-clause-fitting
pass_theorem-requires-clause-fitting c = (rw c.in-Theorem.is at c.requires.fitting).0

pub pass_theorem-requires-clause-states : goal.pass_theorem-requires-clause-states
pass_theorem-requires-clause-states c = (rw c.in-Theorem.is at c.requires.fitting).1

pub add_notion-requires : goal.add_notion-requires
add_notion-requires c = record { new = (rw c.in-Notion.is at c.requires.good).0 }

pub returns-in-Theorem : goal.returns-in-Theorem
returns-in-Theorem c = rw c.in-Theorem.is c.pass_theorem.ensures

pub returns-in_ok-add_notion-in-Notion : goal.returns-in_ok-add_notion-in-Notion
returns-in_ok-add_notion-in-Notion c =
    rw c.in-Notion.is (notion_passes c.args.known.now c.add_notion.new.self c.args.title c.args.step (titled_notion c.in-Notion.name c.in-Notion.notion) (rw c.in-Notion.is at c.requires.good).1 c.in_ok-add_notion-in-Notion.ensures.ok)
