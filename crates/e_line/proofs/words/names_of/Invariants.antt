use Rattle.std.proofs.Common.{◌≡◌, drop}
use Rattle.e_line.specs.Reading.{with_front, texts, names_of}
use Rattle.e_line.proofs.words.names_of.Given as goal

abbrev pub invariant-loop-word : goal.invariant-loop-word
invariant-loop-word l = with_front l.names (names_of (drop l.word-index (texts l.words))) ≡ names_of (texts l.words)
