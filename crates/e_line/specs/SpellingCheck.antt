-- A text compared, word by word, with what it is to spell.
use Rattle.std.specs.Prelude.{◌≡◌, ℕ, Bool, true, false, ◌==◌, List, [], ◌∷◌}
use Rattle.std.specs.Prelude.{Option, Some, None, if◌then◌else◌}
use Rattle.std.specs.Borrow.{Bor}

-- what comes after these bytes, where the text begins with them
abbrev pub past_bytes : List ℕ → List ℕ → Option (List ℕ)
past_bytes [] text = Some text
past_bytes (b ∷ bs) [] = None
past_bytes (b ∷ bs) (c ∷ text) = if c == b then past_bytes bs text else None

-- what comes after a space and this word, of a text that was as it should be so far
abbrev pub past_word : Option (List ℕ) → List ℕ → Option (List ℕ)
past_word None word = None
past_word (Some text) word = past_bytes (32 ∷ word) text

abbrev pub past : Option (List ℕ) → List (List ℕ) → Option (List ℕ)
past text [] = text
past text (w ∷ ws) = past (past_word text w) ws

-- the text was as it should be, and nothing more comes
abbrev pub is_spelled : Option (List ℕ) → Bool
is_spelled None = false
is_spelled (Some []) = true
is_spelled (Some (b ∷ text)) = false

-- what a function found to come next is what the definition finds
abbrev pub IsAfter : Option (Bor (List ℕ)) → Option (List ℕ) → Type 0
IsAfter None found = found ≡ None
IsAfter (Some rest) found = found ≡ Some rest.now
