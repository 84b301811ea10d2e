-- What the spelling of a line of a certificate says of it.
use Rattle.std.proofs.Common.{◌≡◌, ℕ, true, cond, ◌&&◌, List, Ok, Err, subst}
use Rattle.std.specs.Str.{bytes_eq}
use Rattle.std.proofs.lemmas.Slice.Eq.{bytes_eq-Decides}
use Rattle.std.proofs.lemmas.Bool.{and_parts}
use Rattle.e_line.specs.declared.fault.FaultKind.TheVariants.{Malformed}
use Rattle.e_line.specs.declared.literal.RawLit.{RawLit}
use Rattle.e_line.specs.Literals.{is_diagram_raw}
use Rattle.e_line.proofs.base.Bound.{bind_ok, ok_is, read_ok}
use Rattle.e_line.proofs.read_lines.SumsOfLiterals.{diagram_said}
use Rattle.e_line.proofs.base.Choices.{passed}
use Rattle.e_cert.specs.declared.cert_line.RawRow.{RawRow}
use Rattle.e_cert.specs.declared.cert_line.RawRow.TheVariants as rows
use Rattle.e_cert.specs.declared.cert_line.CertLine.{CertLine}
use Rattle.e_cert.specs.declared.cert_line.CertLine.TheVariants as certlines
use Rattle.e_cert.specs.CertLines.{cert_line_of, cert_line_text}
use Rattle.e_cert.specs.CanonicalCertLines.{is_canonical_row, is_canonical_cert_line, canonical_cert_line}
use Rattle.e_cert.proofs.CertLineLits.{OfRow, OfCertLine, cert_line_lit}
use Rattle.e_roundtrip.proofs.OneLine.LitsRead.{Signed, lit_signed}
use Rattle.e_roundtrip.proofs.OneLine.LitsSpelled.{Canonical, canonical, diagram_canonical}

-- ---- by spelling

-- no <= is negated in the literal of a fact
abbrev pub RowSigned : RawRow → Type 0
RowSigned row = OfRow Signed row

abbrev pub IsOfDiagram : RawLit → Type 0
IsOfDiagram l = is_diagram_raw l.atom ≡ true

-- and the literal of a clash compares no sums
abbrev pub CertLineSigned : CertLine → Type 0
CertLineSigned cert_line = OfCertLine Signed IsOfDiagram cert_line

pub cert_line_signed : (ws : List (List ℕ)) (m : CertLine) → cert_line_of ws ≡ Ok m → CertLineSigned m
cert_line_signed ws m e = cert_line_lit Signed lit_signed IsOfDiagram diagram_said ws m e

-- ---- in the one spelling

-- a negation stands before neither < nor <=
abbrev pub CanonicalRow : RawRow → Type 0
CanonicalRow row = OfRow Canonical row

abbrev pub CanonicalCertLine : CertLine → Type 0
CanonicalCertLine cert_line = OfCertLine Canonical Canonical cert_line

row_canonical : (r : RawRow) → is_canonical_row r ≡ true → RowSigned r → CanonicalRow r
row_canonical (rows.Fact l) d s = canonical l d s
row_canonical (rows.FactAt k) d s = s
row_canonical r d s = tt

cert_line_canonical : (m : CertLine) → is_canonical_cert_line m ≡ true → CertLineSigned m → CanonicalCertLine m
cert_line_canonical (certlines.Differs r) d s = row_canonical r d s
cert_line_canonical (certlines.Row m r) d s = row_canonical r d s
cert_line_canonical (certlines.Clash l) d s = diagram_canonical l s
cert_line_canonical (certlines.FactAt k) d s = s
cert_line_canonical m d s = tt

-- a line of a certificate is that of its form
pub strict_cert_line_read : (line : List ℕ) (words : List (List ℕ)) (m : CertLine) → canonical_cert_line line words ≡ Ok m → (line ≡ cert_line_text m) × CanonicalCertLine m
unfolding canonical_cert_line
strict_cert_line_read line words m e =
    let a = bind_ok (cert_line_of words) (λ m. cond (is_canonical_cert_line m && bytes_eq line (cert_line_text m)) (read_ok m) (Err Malformed)) m e in
    let t = passed (is_canonical_cert_line a.0 && bytes_eq line (cert_line_text a.0)) (read_ok a.0) m a.2 in
    let p = and_parts (is_canonical_cert_line a.0) (bytes_eq line (cert_line_text a.0)) t.0 in
    subst (λ (x : CertLine). (line ≡ cert_line_text x) × CanonicalCertLine x) (ok_is a.0 m t.1)
    ((bytes_eq-Decides line (cert_line_text a.0)).0 p.1, cert_line_canonical a.0 p.0 (cert_line_signed words a.0 a.1))
