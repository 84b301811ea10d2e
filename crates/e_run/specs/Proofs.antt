-- The sentence that people rely on: the bytes spell proofs. They are the head line, the spellings
-- of n theorems, each with a derivation that proves its statement from those before it, and the
-- line with their number, and nothing else.
use Rattle.std.specs.Prelude.{◌≡◌, ℕ, List, Option, Some}
use Rattle.e_io.specs.Bytes.{Grew}
use Rattle.e_roundtrip.specs.Written.{SpellsProofs}

-- what was written spells this many proofs
abbrev pub WroteProofs : ℕ → Option (List ℕ) → Option (List ℕ) → Type 0
WroteProofs n old new = (out : List ℕ) × SpellsProofs n out × Grew old new out

-- the bytes of the source spell this many proofs, where it exposes them
abbrev pub ReadProofs : ℕ → Option (List ℕ) → Type 0
ReadProofs n left = (text : List ℕ) → left ≡ Some text → SpellsProofs n text
