-- Lines of certificates that have the one spelling of what they say.
use Rattle.std.specs.Prelude.{ℕ, Bool, true, ◌&&◌, List, [], ◌∷◌, Result, Ok, Err, if◌then◌else◌, codes}
use Rattle.std.specs.Str.{bytes_eq}
use Rattle.e_text.specs.Tokens.{tokens_of}
use Rattle.e_line.specs.declared.fault.FaultKind.{FaultKind}
use Rattle.e_line.specs.declared.fault.FaultKind.TheVariants.{Malformed}
use Rattle.e_line.specs.Reading.{◌>>=◌}
use Rattle.e_cert.specs.declared.cert_line.RawRow.{RawRow}
use Rattle.e_cert.specs.declared.cert_line.RawRow.TheVariants as rows
use Rattle.e_cert.specs.declared.cert_line.CertLine.{CertLine}
use Rattle.e_cert.specs.declared.cert_line.CertLine.TheVariants as certlines
use Rattle.e_cert.specs.CertLines.{cert_line_of, cert_line_text}
use Rattle.e_line.specs.CanonicalLines.{is_canonical_lit}

abbrev pub is_canonical_row : RawRow → Bool
is_canonical_row (rows.Fact l) = is_canonical_lit l
is_canonical_row row = true

abbrev pub is_canonical_cert_line : CertLine → Bool
is_canonical_cert_line (certlines.Differs r) = is_canonical_row r
is_canonical_cert_line (certlines.Row m r) = is_canonical_row r
is_canonical_cert_line cert_line = true

-- what a line of a certificate says that is spelled so, where these are the words after its bar
unfoldable pub canonical_cert_line : List ℕ → List (List ℕ) → Result CertLine FaultKind
canonical_cert_line line words =
    cert_line_of words
    >>= λ m. if is_canonical_cert_line m && bytes_eq line (cert_line_text m) then Ok m else
    Err Malformed

-- the same of the whole line: its first word is the bar
abbrev pub cert_line_of_words : List ℕ → List (List ℕ) → Result CertLine FaultKind
cert_line_of_words line [] = Err Malformed
cert_line_of_words line (w ∷ ws) =
    if bytes_eq w (codes "|") then canonical_cert_line line ws else Err Malformed

abbrev pub cert_line_of_bytes : List ℕ → Result CertLine FaultKind
cert_line_of_bytes line = cert_line_of_words line (tokens_of line)
