-- What is known of a book, theorems and definitions together.
use Rattle.std.specs.Prelude.{ℕ, Bool, ◌||◌, List, []}
use Rattle.e_names.specs.declared.known.Known.{Known}
use Rattle.e_names.specs.TitledStatements.{is_known}
use Rattle.e_names.specs.Titled.{defines}

abbrev pub nothing_known : Known
nothing_known = record { theorems = []; notions = [] }

-- a theorem or a definition has this title
abbrev pub is_taken : Known → List ℕ → Bool
is_taken known title = is_known known.theorems title || defines known.notions title
