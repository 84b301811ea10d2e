-- The lines of certificates, by their spelling alone, and how each is spelled.
use Rattle.std.specs.Prelude.{ℕ, ℤ, pos, neg_ℤ, ◌^◌, Bool, ◌&&◌, ◌==◌, nat_lt, nat_le, List, []}
use Rattle.std.specs.Prelude.{◌∷◌, length, decimal, Option, Some, None, Result, Ok, Err, codes}
use Rattle.std.specs.Prelude.{true, false, if◌then◌else◌}
use Rattle.std.specs.Str.{bytes_eq}
use Rattle.std.specs.Fmt.{signed_decimal}
use Rattle.e_text.specs.Tokens.{joined_words}
use Rattle.e_text.specs.Numerals.{number_of}
use Rattle.e_clause.specs.declared.cert.Version.{Version}
use Rattle.e_clause.specs.Versions.{by_literals, by_places}
use Rattle.e_line.specs.declared.fault.FaultKind.{FaultKind}
use Rattle.e_line.specs.declared.fault.FaultKind.TheVariants.{Malformed}
use Rattle.e_line.specs.Reading.{◌>>=◌, first_title, no_word_left, names_of}
use Rattle.e_line.specs.Sums.{term_of}
use Rattle.e_line.specs.Literals.{lit_of, diagram_lit_of}
use Rattle.e_line.specs.Canonical.{term_words, lit_words}
use Rattle.e_cert.specs.declared.cert_line.RawRow.{RawRow}
use Rattle.e_cert.specs.declared.cert_line.RawRow.TheVariants as rows
use Rattle.e_cert.specs.declared.cert_line.CertLine.{CertLine}
use Rattle.e_cert.specs.declared.cert_line.CertLine.TheVariants as certlines

-- ---- multipliers

-- the size of a multiplier: a numeral from 1 to 2 ^ 80
abbrev pub limited_size : Option ℕ → Result ℕ FaultKind
limited_size None = Err Malformed
limited_size (Some n) = if nat_lt 0 n && nat_le n (2 ^ 80) then Ok n else Err Malformed

abbrev pub size_of : List ℕ → Result ℤ FaultKind
size_of digits = limited_size (number_of digits) >>= λ n. Ok (pos n)

-- a whole number other than 0, with a minus sign where it is negative
abbrev pub multiplier_of : List ℕ → Result ℤ FaultKind
multiplier_of [] = Err Malformed
multiplier_of (b ∷ bs) =
    if b == 45 then (size_of bs >>= λ n. Ok (neg_ℤ n)) else size_of (b ∷ bs)

-- ---- rows

-- a place among the facts: a numeral below 2 ^ 32
abbrev pub limited_place : Option ℕ → Result ℕ FaultKind
limited_place None = Err Malformed
limited_place (Some n) = if nat_lt n (2 ^ 32) then Ok n else Err Malformed

abbrev pub place_of_digits : List ℕ → Result ℕ FaultKind
place_of_digits digits = limited_place (number_of digits)

-- the row of a fact: one word is its place, and a literal has more
unfoldable pub fact_row_of : List (List ℕ) → Result RawRow FaultKind
fact_row_of [] = Err Malformed
fact_row_of (w ∷ ws) =
    if length ws == 0 then (place_of_digits w >>= λ k. Ok (rows.FactAt k)) else
    (lit_of (w ∷ ws) >>= λ l. Ok (rows.Fact l))

abbrev pub bare_row : List (List ℕ) → RawRow → Result RawRow FaultKind
bare_row words row = no_word_left words >>= λ none. Ok row

-- a row, by its first word
unfoldable pub raw_row_named : List ℕ → List (List ℕ) → Result RawRow FaultKind
raw_row_named w ws =
    if bytes_eq w (codes "fact") then fact_row_of ws else
    if bytes_eq w (codes "goal") then bare_row ws rows.Goal else
    if bytes_eq w (codes "pos") then (term_of ws >>= λ t. Ok (rows.Pos t)) else
    if bytes_eq w (codes "top") then (term_of ws >>= λ t. Ok (rows.Top t)) else
    if bytes_eq w (codes "right") then bare_row ws rows.Right else
    if bytes_eq w (codes "least") then (term_of ws >>= λ t. Ok (rows.Least t)) else
    if bytes_eq w (codes "above") then bare_row ws rows.Above else
    if bytes_eq w (codes "below") then bare_row ws rows.Below else Err Malformed

unfoldable pub raw_row_of : List (List ℕ) → Result RawRow FaultKind
raw_row_of [] = Err Malformed
raw_row_of (w ∷ ws) = raw_row_named w ws

-- the rows that can say that a form is not 0
abbrev pub may_differ : RawRow → Bool
may_differ (rows.Fact l) = true
may_differ rows.Goal = true
may_differ (rows.FactAt k) = true
may_differ row = false

-- ---- lines

abbrev pub bare_cert_line : List (List ℕ) → CertLine → Result CertLine FaultKind
bare_cert_line words cert_line = no_word_left words >>= λ none. Ok cert_line

unfoldable pub differs_of : List (List ℕ) → Result CertLine FaultKind
differs_of words =
    raw_row_of words >>= λ r. if may_differ r then Ok (certlines.Differs r) else Err Malformed

-- a rule, and the names of its arguments
unfoldable pub transfer_of : List (List ℕ) → Result CertLine FaultKind
transfer_of words = do
  t ← first_title words
  ns ← names_of t.1
  Ok (certlines.Transfer t.0 ns)

-- a fact, or the one at a place
unfoldable pub fact_cert_line_of : List (List ℕ) → Result CertLine FaultKind
fact_cert_line_of [] = Ok certlines.Fact
fact_cert_line_of (w ∷ ws) =
    no_word_left ws >>= λ none. place_of_digits w >>= λ k. Ok (certlines.FactAt k)

-- a row after its multiplier
unfoldable pub row_cert_line_of : List ℕ → List (List ℕ) → Result CertLine FaultKind
row_cert_line_of w ws = do
  m ← multiplier_of w
  r ← raw_row_of ws
  Ok (certlines.Row m r)

-- a line of a certificate, by the first word after the bar `|`
unfoldable pub cert_line_named : List ℕ → List (List ℕ) → Result CertLine FaultKind
cert_line_named w ws =
    if bytes_eq w (codes "fact") then fact_cert_line_of ws else
    if bytes_eq w (codes "metric") then bare_cert_line ws certlines.Metric else
    if bytes_eq w (codes "transfer") then transfer_of ws else
    if bytes_eq w (codes "clash") then (diagram_lit_of ws >>= λ l. Ok (certlines.Clash l)) else
    if bytes_eq w (codes "sum") then bare_cert_line ws certlines.Sum else
    if bytes_eq w (codes "differs") then differs_of ws else row_cert_line_of w ws

unfoldable pub cert_line_of : List (List ℕ) → Result CertLine FaultKind
cert_line_of [] = Err Malformed
cert_line_of (w ∷ ws) = cert_line_named w ws

-- ---- how they are spelled

abbrev pub raw_row_words : RawRow → List (List ℕ)
raw_row_words (rows.Fact l) = codes "fact" ∷ lit_words l
raw_row_words rows.Goal = codes "goal" ∷ []
raw_row_words (rows.Pos t) = codes "pos" ∷ term_words t
raw_row_words (rows.Top t) = codes "top" ∷ term_words t
raw_row_words rows.Right = codes "right" ∷ []
raw_row_words (rows.Least t) = codes "least" ∷ term_words t
raw_row_words rows.Above = codes "above" ∷ []
raw_row_words rows.Below = codes "below" ∷ []
raw_row_words (rows.FactAt k) = codes "fact" ∷ decimal k ∷ []

-- the words after the bar
abbrev pub cert_line_words : CertLine → List (List ℕ)
cert_line_words certlines.Fact = codes "fact" ∷ []
cert_line_words certlines.Metric = codes "metric" ∷ []
cert_line_words (certlines.Transfer rule ns) = codes "transfer" ∷ rule ∷ ns
cert_line_words (certlines.Clash l) = codes "clash" ∷ lit_words l
cert_line_words certlines.Sum = codes "sum" ∷ []
cert_line_words (certlines.Differs r) = codes "differs" ∷ raw_row_words r
cert_line_words (certlines.Row m r) = signed_decimal m ∷ raw_row_words r
cert_line_words (certlines.FactAt k) = codes "fact" ∷ decimal k ∷ []

-- a line without its end
abbrev pub cert_line_text : CertLine → List ℕ
cert_line_text cert_line = joined_words (codes "|" ∷ cert_line_words cert_line)

-- ---- versions

-- the row may come in this version: a fact is cited by its literal in the first, and by its place
-- in the second
abbrev pub row_is_of : Version → RawRow → Bool
row_is_of v (rows.Fact l) = by_literals v
row_is_of v (rows.FactAt k) = by_places v
row_is_of v row = true

-- the line may come in this version
abbrev pub cert_line_is_of : Version → CertLine → Bool
cert_line_is_of v certlines.Fact = by_literals v
cert_line_is_of v (certlines.FactAt k) = by_places v
cert_line_is_of v (certlines.Differs r) = row_is_of v r
cert_line_is_of v (certlines.Row m r) = row_is_of v r
cert_line_is_of v cert_line = true
