-- What is known of a number.
use Rattle.std.specs.Prelude.{ℕ, Bool, true, ◌==◌, Option, Some, None}

-- the number may be this one, by what is known of it
abbrev pub may_be : Option ℕ → ℕ → Bool
may_be (Some known) n = known == n
may_be None n = true
