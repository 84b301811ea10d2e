-- The rows of certificates, and their rules, with the objects of their names.
use Rattle.std.specs.Prelude.{ℕ, [], ◌∷◌, Option, Some, None, Result, Ok, Err}
use Rattle.std.specs.Prelude.{if◌then◌else◌}
use Rattle.e_literal.specs.declared.literal.Lit.{Lit}
use Rattle.e_clause.specs.declared.cert.RowName.{RowName}
use Rattle.e_clause.specs.declared.cert.RowName.TheVariants as names
use Rattle.e_clause.specs.RuleKinds.{is_transfer}
use Rattle.e_deriv.specs.declared.names.Names.{Names}
use Rattle.e_line.specs.declared.fault.FaultKind.{FaultKind}
use Rattle.e_line.specs.declared.fault.FaultKind.TheVariants.{Malformed}
use Rattle.e_line.specs.declared.literal.RawLit.{RawLit}
use Rattle.e_line.specs.Reading.{◌>>=◌}
use Rattle.e_names.specs.Scope.{lit_in, term_in}
use Rattle.e_line.specs.LineLimits.{check_literal_limits}
use Rattle.e_cert.specs.declared.cert_line.RawRow.{RawRow}
use Rattle.e_cert.specs.declared.cert_line.RawRow.TheVariants as rows

-- rows of one sum
abbrev pub most_rows : ℕ
most_rows = 4096

-- a literal of a certificate, with its names and its limits
abbrev pub fact_in : Names → RawLit → Result Lit FaultKind
fact_in ns raw = lit_in ns raw >>= λ l. check_literal_limits (raw ∷ []) >>= λ few. Ok l

-- a row with the objects of its names
unfoldable pub row_in : Names → RawRow → Result RowName FaultKind
row_in ns (rows.Fact raw) = fact_in ns raw >>= λ l. Ok (names.Fact l)
row_in ns rows.Goal = Ok names.Goal
row_in ns (rows.Pos raw) = term_in ns raw >>= λ t. Ok (names.Pos t)
row_in ns (rows.Top raw) = term_in ns raw >>= λ t. Ok (names.Top t)
row_in ns rows.Right = Ok names.Right
row_in ns (rows.Least raw) = term_in ns raw >>= λ t. Ok (names.Least t)
row_in ns rows.Above = Ok names.Above
row_in ns rows.Below = Ok names.Below
row_in ns (rows.FactAt k) = Ok (names.FactAt k)

-- the rule of a transfer is a transfer rule
abbrev pub transfer_rule : Option ℕ → Result ℕ FaultKind
transfer_rule None = Err Malformed
transfer_rule (Some r) = if is_transfer r then Ok r else Err Malformed
