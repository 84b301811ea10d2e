-- What was written with an answer: all that is due with it, or some first bytes of that, and the
-- sink failed.
use Rattle.std.specs.Prelude.{◌≡◌, ◌⊎◌, ℕ, List, Option}
use Rattle.e_io.specs.Bytes.{Grew, GrewByFront}
use Rattle.e_commands.specs.declared.status.Status.{Status}
use Rattle.e_commands.specs.declared.status.Status.TheVariants as status

-- the bytes that are due with the answer were written
pub record WroteAll (Due : Status → List ℕ → Type 0) (old new : Option (List ℕ))
    (answer : Status) : Type 0 where
  pub out : List ℕ
  pub due : Due answer out
  pub grew : Grew old new out

-- some first bytes of those that are due with some answer were written, and not all
pub record WroteFront (Due : Status → List ℕ → Type 0) (old new : Option (List ℕ)) : Type 0 where
  pub answer : Status
  pub out : List ℕ
  pub due : Due answer out
  pub grew : GrewByFront old new out

-- this is the answer, and what is due with it was written; or the answer is a write fault, and a
-- prefix of what is due with some answer was written
abbrev pub Wrote : (Status → List ℕ → Type 0) → Option (List ℕ) → Option (List ℕ) → Status → Type 0
Wrote Due old new answer =
    WroteAll Due old new answer ⊎ ((answer ≡ status.WriteFault) × WroteFront Due old new)

-- the last lines were written, or a prefix of them and the sink failed
abbrev pub ClosesWith : Option (List ℕ) → Option (List ℕ) → List ℕ → Status → Status → Type 0
ClosesWith old new last answer result =
    ((result ≡ answer) × Grew old new last)
    ⊎ ((result ≡ status.WriteFault) × GrewByFront old new last)
