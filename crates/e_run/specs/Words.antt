-- The words of a command.
use Rattle.std.specs.Prelude.{ℕ, List, [], ◌∷◌, Bool, true, false, ◌&&◌, nat_le, Option, Some, None}
use Rattle.std.specs.Prelude.{codes, option_and_then, if◌then◌else◌}
use Rattle.std.specs.Str.{bytes_eq}
use Rattle.e_text.specs.Names.{title_of}
use Rattle.e_text.specs.Numerals.{number_of}
use Rattle.e_run.specs.declared.command.Command.{Command}
use Rattle.e_run.specs.declared.command.Command.TheVariants.{Check, Verify, Figure, Rewrite, Make}
use Rattle.e_run.specs.declared.command.Command.TheVariants.{Suggest, Trial, Unknown}
use Rattle.e_commands.specs.declared.rewriting.Job.TheVariants.{Upgrade, Trim, Uses}

-- a numeral from 1 to this number
abbrev pub number_to : ℕ → List ℕ → Option ℕ
number_to most word =
    option_and_then (λ n. if nat_le 1 n && nat_le n most then Some n else None) (number_of word)

abbrev pub plain_command : List ℕ → Command
plain_command word =
    if bytes_eq word (codes "check") then Check else
    if bytes_eq word (codes "verify") then Verify else
    if bytes_eq word (codes "upgrade") then Rewrite Upgrade else
    if bytes_eq word (codes "figure") then Figure else
    if bytes_eq word (codes "trim") then Rewrite Trim else
    if bytes_eq word (codes "uses") then Rewrite Uses else Unknown

abbrev pub counted_command : List ℕ → Option ℕ → Command
counted_command word None = Unknown
counted_command word (Some n) =
    if bytes_eq word (codes "make") then Make n else
    if bytes_eq word (codes "trial") then Trial n else Unknown

abbrev pub placed_command : List ℕ → Option (List ℕ) → Option ℕ → Command
placed_command word (Some title) (Some step) =
    if bytes_eq word (codes "suggest") then Suggest title step else Unknown
placed_command word _ _ = Unknown

-- `check`, `verify`, `upgrade`, `figure`, `trim` and `uses` are alone, `make` and `trial` come
-- before a number, and `suggest` before a title and the number of a step
abbrev pub command_of : List (List ℕ) → Command
command_of (word ∷ []) = plain_command word
command_of (word ∷ number ∷ []) = counted_command word (number_to 500 number)
command_of (word ∷ title ∷ number ∷ []) = placed_command word (title_of title) (number_to 1024 number)
command_of _ = Unknown

-- the command reads the source
abbrev pub reads : Command → Bool
reads Check = true
reads Verify = true
reads Figure = true
reads (Suggest title step) = true
reads (Rewrite job) = true
reads _ = false

-- what holds of its number, where it has one
abbrev pub OfCount : (ℕ → Type 0) → Command → Type 0
OfCount holds (Make n) = holds n
OfCount holds (Trial n) = holds n
OfCount holds _ = Unit {0}

-- and of the number of its step
abbrev pub OfStep : (ℕ → Type 0) → Command → Type 0
OfStep holds (Suggest title step) = holds step
OfStep holds _ = Unit {0}
