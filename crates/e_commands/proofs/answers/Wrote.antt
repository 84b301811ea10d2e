-- What is due with an answer was written, or a front of it.
use Rattle.std.proofs.Common.{inl, inr, ℕ, List, Option, sym, subst}
use Rattle.e_commands.specs.declared.status.Status.{Status}
use Rattle.e_commands.specs.Wrote.{ClosesWith, Wrote}

-- the last lines of an answer are all that is due with it
pub closed_wrote : (Due : Status → List ℕ → Type 0) (old new : Option (List ℕ)) (last : List ℕ) (answer result : Status) → Due answer last → ClosesWith old new last answer result → Wrote Due old new result
closed_wrote Due old new last answer result d (inl c) = subst (λ (a : Status). Wrote Due old new a) (sym c.0) (inl (record { out = last; due = d; grew = c.1 }))
closed_wrote Due old new last answer result d (inr c) = inr (c.0, record { answer = answer; out = last; due = d; grew = c.1 })
