-- Uses of earlier theorems, by their spelling.
use Rattle.std.specs.Prelude.{ℕ, Bool, List, Option, Some, None, Result, Ok, codes}
use Rattle.std.specs.Prelude.{if◌then◌else◌}
use Rattle.std.specs.Str.{bytes_eq}
use Rattle.e_text.specs.Names.{name_of}
use Rattle.e_line.specs.declared.fault.FaultKind.{FaultKind}
use Rattle.e_line.specs.declared.applies.RawApply.{RawApply}
use Rattle.e_line.specs.Reading.{◌>>=◌, each, cut_at, first_title, or_malformed, names_after}

-- ---- by its spelling

abbrev pub is_blank_argument : List ℕ → Bool
is_blank_argument w = bytes_eq w (codes "_")

-- an argument: a name, or the blank
abbrev pub argument_of : List ℕ → Result (Option (List ℕ)) FaultKind
argument_of w =
    if is_blank_argument w then Ok None else (or_malformed (name_of w) >>= λ n. Ok (Some n))

abbrev pub arguments_of : List (List ℕ) → Result (List (Option (List ℕ))) FaultKind
arguments_of words = each argument_of words

-- what comes after apply: a title, arguments, and perhaps the word as with names after it
unfoldable pub apply_of : List (List ℕ) → Result RawApply FaultKind
apply_of words = do
  t ← first_title words
  let parts = cut_at (codes "as") t.1
  args ← arguments_of parts.0
  new ← names_after parts.2 parts.1
  Ok (record { title = t.0; args = args; new = new })
