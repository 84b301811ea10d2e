-- A row of a certificate, with the names of its objects, is read as that row.
use Rattle.std.proofs.Common.{◌≡◌, Bool, true, false, Ok, refl}
use Rattle.e_literal.specs.declared.object.Sort.TheVariants.{Point}
use Rattle.e_literal.specs.declared.object.Term.{Term}
use Rattle.e_literal.specs.declared.object.Term.TheVariants as terms
use Rattle.e_literal.specs.declared.literal.Atom.{Atom}
use Rattle.e_literal.specs.declared.literal.Atom.TheVariants as atoms
use Rattle.e_literal.specs.declared.literal.Lit.{Lit}
use Rattle.e_literal.specs.Literal.{obj}
use Rattle.e_clause.specs.declared.cert.RowName.{RowName}
use Rattle.e_clause.specs.declared.cert.RowName.TheVariants as names
use Rattle.e_clause.specs.MetricCertificate.{row_name_in}
use Rattle.e_deriv.specs.declared.names.Names.{Names}
use Rattle.e_clause.specs.Written.{is_writable_name}
use Rattle.e_names.specs.Scope.{scope_of_names, term_in}
use Rattle.e_names.specs.Canonical.{raw_term, raw_signed, raw_of}
use Rattle.e_line.proofs.read_again.SumsAgain.{TermNamed}
use Rattle.e_names.proofs.resolution.Lookups.{InOrder, number_again, named_at}
use Rattle.e_names.proofs.resolution.LitLookups.{lit_number_again, lit_named, TermWithin, two, three}
use Rattle.e_names.proofs.literals.ShortLits.{few_again}
use Rattle.e_cert.specs.declared.cert_line.RawRow.{RawRow}
use Rattle.e_cert.specs.declared.cert_line.RawRow.TheVariants as rows
use Rattle.e_cert.specs.CertLines.{raw_row_words}
use Rattle.e_line.specs.CanonicalLines.{is_canonical_lit}
use Rattle.e_cert.specs.Rows.{row_in}
use Rattle.e_spell.specs.Certificates.{row_words as spelled_row}
use Rattle.e_roundtrip.proofs.Certificates.CertLinesAgain.{RowNamed}

-- a row with the names of its objects
abbrev pub raw_row : Names → RowName → RawRow
raw_row ns (names.Fact l) = rows.Fact (raw_of ns l)
raw_row ns names.Goal = rows.Goal
raw_row ns (names.Pos t) = rows.Pos (raw_term ns t)
raw_row ns (names.Top t) = rows.Top (raw_term ns t)
raw_row ns names.Right = rows.Right
raw_row ns (names.Least t) = rows.Least (raw_term ns t)
raw_row ns names.Above = rows.Above
raw_row ns names.Below = rows.Below
raw_row ns (names.FactAt k) = rows.FactAt k

-- its spelling
pub row_spelled : (ns : Names) (r : RowName) → spelled_row ns r ≡ raw_row_words (raw_row ns r)
row_spelled ns (names.Fact l) = refl
row_spelled ns names.Goal = refl
row_spelled ns (names.Pos t) = refl
row_spelled ns (names.Top t) = refl
row_spelled ns names.Right = refl
row_spelled ns (names.Least t) = refl
row_spelled ns names.Above = refl
row_spelled ns names.Below = refl
row_spelled ns (names.FactAt k) = refl

-- ---- terms

-- its points are found, and their names are names
record TermRead (ns : Names) (t : Term) : Type 0 where
  read : term_in ns (raw_term ns t) ≡ Ok t
  named : TermNamed (raw_term ns t)

term_read : (ns : Names) (t : Term) → InOrder ns → TermWithin ns t → TermRead ns t
unfolding term_in
term_read ns (terms.Seg a b) o h =
    let t = two ns (obj Point a) (obj Point b) h in
    record { read = rw (number_again ns Point a o t.0, number_again ns Point b o t.1) refl; named = (named_at ns Point a o t.0, named_at ns Point b o t.1) }
term_read ns (terms.Ang a b c) o h =
    let t = three ns (obj Point a) (obj Point b) (obj Point c) h in
    record {
      read = rw (number_again ns Point a o t.0, number_again ns Point b o t.1, number_again ns Point c o t.2) refl;
      named = (named_at ns Point a o t.0, named_at ns Point b o t.1, named_at ns Point c o t.2);
    }
term_read ns (terms.Area a b c) o h =
    let t = three ns (obj Point a) (obj Point b) (obj Point c) h in
    record {
      read = rw (number_again ns Point a o t.0, number_again ns Point b o t.1, number_again ns Point c o t.2) refl;
      named = (named_at ns Point a o t.0, named_at ns Point b o t.1, named_at ns Point c o t.2);
    }
term_read ns terms.Right o h = record { read = refl; named = tt }

-- ---- rows

signed_direct : (ns : Names) (neg : Bool) (a : Atom) → is_canonical_lit (raw_signed ns neg a) ≡ true
signed_direct ns true (atoms.MagLt x y) = refl
signed_direct ns false (atoms.MagLt x y) = refl
signed_direct ns true a = refl
signed_direct ns false a = refl

-- the negation of X < Y is written Y <= X
pub lit_direct : (ns : Names) (l : Lit) → is_canonical_lit (raw_of ns l) ≡ true
lit_direct ns l = signed_direct ns l.neg l.atom

-- the objects of its name are in scope, and its literal is well formed
pub record GoodName (ns : Names) (r : RowName) : Type 0 where
  pub within : row_name_in (scope_of_names ns) r ≡ true
  pub good : is_writable_name r ≡ true

pub row_in_again : (ns : Names) (r : RowName) → InOrder ns → GoodName ns r → row_in ns (raw_row ns r) ≡ Ok r
unfolding row_in
row_in_again ns (names.Fact l) o g = rw (lit_number_again ns l o g.within g.good, few_again ns l g.good) refl
row_in_again ns names.Goal o g = refl
row_in_again ns (names.Pos t) o g = rw (term_read ns t o g.within).read refl
row_in_again ns (names.Top t) o g = rw (term_read ns t o g.within).read refl
row_in_again ns names.Right o g = refl
row_in_again ns (names.Least t) o g = rw (term_read ns t o g.within).read refl
row_in_again ns names.Above o g = refl
row_in_again ns names.Below o g = refl
row_in_again ns (names.FactAt k) o g = refl

pub row_named_again : (ns : Names) (r : RowName) → InOrder ns → GoodName ns r → RowNamed (raw_row ns r)
row_named_again ns (names.Fact l) o g = (lit_named ns l o g.within g.good, lit_direct ns l)
row_named_again ns names.Goal o g = tt
row_named_again ns (names.FactAt k) o g = g.good
row_named_again ns (names.Pos t) o g = (term_read ns t o g.within).named
row_named_again ns (names.Top t) o g = (term_read ns t o g.within).named
row_named_again ns names.Right o g = tt
row_named_again ns (names.Least t) o g = (term_read ns t o g.within).named
row_named_again ns names.Above o g = tt
row_named_again ns names.Below o g = tt
