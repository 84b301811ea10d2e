-- Faults with their lines.
use Rattle.std.specs.Prelude.{ℕ}
use Rattle.e_text.specs.declared.line.LineFault.{LineFault}
use Rattle.e_text.specs.declared.line.LineFault.TheVariants as lines
use Rattle.e_line.specs.declared.fault.FaultKind.{FaultKind}
use Rattle.e_line.specs.declared.fault.FaultKind.TheVariants as kinds
use Rattle.e_line.specs.declared.fault.What.TheVariants as limits
use Rattle.e_line.specs.declared.fault.LineError.{LineError}
use Rattle.e_line.specs.declared.fault.LineError.TheVariants as line_errors
use Rattle.e_line.specs.declared.fault.BookFault.{BookFault}
use Rattle.e_line.specs.declared.fault.BookFault.TheVariants as faults

abbrev pub at_line : ℕ → FaultKind → BookFault
at_line line kinds.Malformed = faults.Malformed line
at_line line kinds.UnknownName = faults.UnknownName line
at_line line kinds.NameTaken = faults.NameTaken line
at_line line kinds.WrongSort = faults.WrongSort line
at_line line (kinds.Limit what) = faults.Limit line what
at_line line kinds.Unended = faults.Unended line

abbrev pub error_at : ℕ → LineError → BookFault
error_at line line_errors.NoMemory = faults.NoMemory
error_at line (line_errors.Fault kind) = at_line line kind

-- what is wrong with the bytes of a line
abbrev pub book_fault_of : LineFault → BookFault
book_fault_of (lines.Bytes line) = faults.Limit line limits.Bytes
book_fault_of (lines.LineBytes line) = faults.Limit line limits.LineBytes
book_fault_of (lines.NotAscii line) = faults.Malformed line
