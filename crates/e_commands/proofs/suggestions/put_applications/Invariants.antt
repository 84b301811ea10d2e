use Rattle.std.proofs.Common.{◌≡◌, ◌++◌, take}
use Rattle.e_book.specs.Canonical.{text_of}
use Rattle.e_commands.specs.inner.Suggesting.{apply_lines}
use Rattle.e_commands.proofs.suggestions.put_applications.Given as goal

abbrev pub invariant-loop-choice : goal.invariant-loop-choice
invariant-loop-choice l = l.out.items ≡ l.initial.out.items ++ text_of (apply_lines l.title l.names (take l.choice-index l.choices))
