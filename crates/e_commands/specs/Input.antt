-- What was read of a source.
use Rattle.std.specs.Prelude.{◌≡◌, ℕ, List, [], take, Option, Some, None}

-- where a source exposes its bytes, these are the first of them, at most that many
abbrev pub IsTextOf : ℕ → Option (List ℕ) → List ℕ → Type 0
IsTextOf most None text = Unit {0}
IsTextOf most (Some bytes) text = text ≡ take most bytes

-- where a source exposes its bytes, none is left
abbrev pub IsAtEnd : Option (List ℕ) → Type 0
IsAtEnd None = Unit {0}
IsAtEnd (Some bytes) = bytes ≡ []
