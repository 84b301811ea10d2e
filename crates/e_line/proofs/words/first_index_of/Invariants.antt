use Rattle.std.proofs.Common.{◌≡◌, ℕ, ◌<◌, [], get_or, false}
use Rattle.std.specs.Str.{bytes_eq}
use Rattle.e_line.specs.Reading.{texts}
use Rattle.e_line.proofs.words.first_index_of.Given as goal

abbrev pub invariant-loop-i : goal.invariant-loop-i
invariant-loop-i l = (k : ℕ) → k < l.i → bytes_eq (get_or (texts l.words) k []) l.word ≡ false
