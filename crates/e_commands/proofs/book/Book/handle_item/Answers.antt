use Rattle.e_names.specs.Titled.{titled_notion}
use Rattle.e_commands.proofs.progress.History.{breaks_off, notion_taken}
use Rattle.e_commands.proofs.progress.TakenBooks.{with_notion}
use Rattle.e_commands.proofs.book.Book.handle_item.Goals as goal

pub handle-requires-clause-spelled : goal.handle-requires-clause-spelled
handle-requires-clause-spelled g c = (rw c.in-Theorem.is at c.requires.good).0

pub add_notion-requires : goal.add_notion-requires
add_notion-requires g c = record { new = (rw c.in-Notion.is at c.requires.good).0 }

pub returns-in-Theorem-clause-handles : goal.returns-in-Theorem-clause-handles
returns-in-Theorem-clause-handles g c = λ lines rest after before h read. c.handle.ensures.handles lines rest after before h (rw c.in-Theorem.is at read)

-- nothing is written
pub returns-in_default-clause-handles : goal.returns-in_default-clause-handles
returns-in_default-clause-handles g c =
    λ lines rest after before h read. breaks_off lines before (g.K.Sink.written c.args.sink.now) c.args.self.now.known rest c.args.self.now.steps h

pub returns-in-Ok-clause-handles : goal.returns-in-Ok-clause-handles
returns-in-Ok-clause-handles g c =
    λ lines rest after before h read.
    rw c.in-Ok.ensures.ok (notion_taken lines before (g.K.Sink.written c.args.sink.now) c.args.self.now.known rest after c.args.self.now.steps (titled_notion c.in-Notion.title c.in-Notion.notion) h (rw c.in-Notion.is at read))

pub returns-in-Ok-clause-book : goal.returns-in-Ok-clause-book
returns-in-Ok-clause-book g c =
    with_notion c.args.self.now c.add_notion.new.self (titled_notion c.in-Notion.title c.in-Notion.notion) c.requires.book c.requires.begins (rw c.in-Notion.is at c.requires.good).1 c.in-Ok.ensures.ok
