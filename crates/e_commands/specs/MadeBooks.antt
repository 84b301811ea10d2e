-- What the command `make` writes: the generated book alone.
use Rattle.std.specs.Prelude.{◌≡◌, ℕ, List}
use Rattle.e_generate.specs.Generated.{generated_text}
use Rattle.e_commands.specs.declared.status.Status.{Status}
use Rattle.e_commands.specs.declared.status.Status.TheVariants as status
use Rattle.e_commands.specs.LastLines.{no_memory_line}

-- the book of n theorems is due, or a line where memory ran out before its first byte
abbrev pub MadeAnswer : ℕ → Status → List ℕ → Type 0
MadeAnswer n (status.Made m) out = (m ≡ n) × (out ≡ generated_text n)
MadeAnswer n status.NoMemory out = out ≡ no_memory_line
MadeAnswer n _ out = ⊥
