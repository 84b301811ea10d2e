use Rattle.e_names.specs.TitledStatements.{is_known}
use Rattle.e_names.specs.Titled.{defines}
use Rattle.e_names.proofs.titles.FreshTitles.{neither}
use Rattle.e_names.proofs.known.Known.add.Goals as goal

pub add-requires : goal.add-requires
add-requires c = record { new = (neither (is_known c.args.self.now.theorems c.args.title) (defines c.args.self.now.notions c.args.title) c.requires.new).0 }
