-- Items that are read from words.
use Rattle.std.proofs.Common.{List}
use Rattle.std.specs.List.{AllByRecursion}
use Rattle.e_line.specs.declared.items.RawItem.{RawItem}
use Rattle.e_line.specs.declared.items.RawItem.TheVariants.{Literal, As}
use Rattle.e_line.proofs.read_lines.SumsOfLiterals.{AtomSaid}

-- ---- items

-- what spelling says of an item
abbrev pub ItemSaid : RawItem → Type 0
ItemSaid (Literal raw) = AtomSaid raw.atom
ItemSaid (As raw) = Unit {0}

abbrev pub ItemsSaid : List RawItem → Type 0
ItemsSaid is = AllByRecursion ItemSaid is
