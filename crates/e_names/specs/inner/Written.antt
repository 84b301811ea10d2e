-- What items mean, put after what was there with the names of its objects.
use Rattle.std.specs.Prelude.{◌≡◌, ℕ, ◌++◌, List, map, Result, Ok, Err}
use Rattle.e_literal.specs.declared.literal.Lit.{Lit}
use Rattle.e_deriv.specs.declared.names.Names.{Names}
use Rattle.e_line.specs.declared.fault.FaultKind.{FaultKind}
use Rattle.e_line.specs.declared.fault.LineError.{LineError}
use Rattle.e_line.specs.declared.literal.RawLit.{RawLit}
use Rattle.e_line.specs.Reading.{Fails}
use Rattle.e_names.specs.Canonical.{raw_of}

-- the literals that were read are put last, with names, and this many are of notions
abbrev pub Writes : Names → Result ℕ LineError → (old new : List RawLit)
    → Result (List Lit × ℕ) FaultKind → Type 0
Writes ns (Ok n) old new read =
    (ls : List Lit) × (read ≡ Ok (ls, n)) × (new ≡ old ++ map (raw_of ns) ls)
Writes ns (Err e) old new read = Fails e read
