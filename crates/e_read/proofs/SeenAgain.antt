-- A line of a certificate that came before is taken as what it said then.
use Rattle.std.proofs.Common.{◌≡◌, ℕ, Bool, true, false, cond, List, [], ◌∷◌, Result, Ok, Err, refl, sym, ap, subst, ◌∙◌}
use Rattle.e_line.specs.declared.fault.FaultKind.{FaultKind}
use Rattle.e_line.specs.declared.fault.FaultKind.TheVariants.{Malformed}
use Rattle.e_line.specs.declared.fault.LineError.{LineError}
use Rattle.e_line.specs.declared.fault.LineError.TheVariants as line_errors
use Rattle.e_line.specs.Reading.{◌>>=◌, Moves}
use Rattle.e_line.proofs.base.Choices.{passed}
use Rattle.e_names.specs.TitledStatements.{TitledStatement}
use Rattle.e_cert.specs.declared.cert_line.CertLine.{CertLine}
use Rattle.e_cert.specs.declared.owed.Pending.{Pending}
use Rattle.e_cert.specs.CertLines.{cert_line_is_of}
use Rattle.e_cert.specs.Owed.{after_cert_line}
use Rattle.e_cert.specs.CanonicalCertLines.{canonical_cert_line, cert_line_of_words, cert_line_of_bytes}
use Rattle.e_text.specs.Tokens.{tokens_of}
use Rattle.e_read.specs.Text.{is_bar}
use Rattle.e_read.specs.declared.reading.BlockParser.{BlockParser}
use Rattle.e_read.specs.inner.Machine.{with_cert_line, parser_after_certificate, parser_after_exact_line, parser_after_words, parser_after_bytes}

by_version : (of : Bool) (r : BlockParser) (m : CertLine) → cond of (with_cert_line r m) (Err Malformed) ≡ (cond of (after_cert_line r.owed m) (Err Malformed) >>= λ o. Ok (record r { owed = o }))
unfolding with_cert_line
by_version true r m = refl
by_version false r m = refl

-- what is owed after a line goes into the block
moved : (r : BlockParser) (result : Result (Unit {0}) LineError) (new : Pending) (read : Result Pending FaultKind) → Moves result new read → Moves result (record r { owed = new }) (read >>= λ o. Ok (record r { owed = o }))
moved r (Ok u) new read h = ap (λ (p : Result Pending FaultKind). p >>= λ o. Ok (record r { owed = o })) h
moved r (Err line_errors.NoMemory) new read h = tt
moved r (Err (line_errors.Fault f)) new read h = ap (λ (p : Result Pending FaultKind). p >>= λ o. Ok (record r { owed = o })) h

abbrev Takes : BlockParser → CertLine → Result (Unit {0}) LineError → Pending → Type 0
Takes r m result new = Moves result new (cond (cert_line_is_of r.version m) (after_cert_line r.owed m) (Err Malformed))

taken : (r : BlockParser) (m : CertLine) (result : Result (Unit {0}) LineError) (new : Pending) (read : Result BlockParser FaultKind)
    → read ≡ cond (cert_line_is_of r.version m) (with_cert_line r m) (Err Malformed) → Takes r m result new → Moves result (record r { owed = new }) read
taken r m result new read e h =
    subst (λ (x : Result BlockParser FaultKind). Moves result (record r { owed = new }) x) (sym (e ∙ by_version (cert_line_is_of r.version m) r m)) (moved r result new (cond (cert_line_is_of r.version m) (after_cert_line r.owed m) (Err Malformed)) h)

certificate_is : (r : BlockParser) (line : List ℕ) (words : List (List ℕ)) (m : CertLine) → canonical_cert_line line words ≡ Ok m → parser_after_certificate r line words ≡ cond (cert_line_is_of r.version m) (with_cert_line r m) (Err Malformed)
unfolding parser_after_certificate
certificate_is r line words m e = ap (λ (x : Result CertLine FaultKind). x >>= λ m. cond (cert_line_is_of r.version m) (with_cert_line r m) (Err Malformed)) e

-- a line that is read
pub line_read : (r : BlockParser) (line : List ℕ) (words : List (List ℕ)) (m : CertLine) (result : Result (Unit {0}) LineError) (new : Pending)
    → canonical_cert_line line words ≡ Ok m → Takes r m result new → Moves result (record r { owed = new }) (parser_after_certificate r line words)
line_read r line words m result new e h = taken r m result new (parser_after_certificate r line words) (certificate_is r line words m e) h

again_is : (known : List TitledStatement) (r : BlockParser) (line : List ℕ) (m : CertLine) (words : List (List ℕ)) → cert_line_of_words line words ≡ Ok m
    → parser_after_words known r line words ≡ cond (cert_line_is_of r.version m) (with_cert_line r m) (Err Malformed)
unfolding parser_after_words
again_is known r line m [] e = absurd cc
again_is known r line m (w ∷ ws) e =
    let p = passed (is_bar w) (canonical_cert_line line ws) m e in
    ap (λ (b : Bool). cond b (parser_after_certificate r line ws) (parser_after_exact_line known r line)) p.0 ∙ certificate_is r line ws m p.1

-- one that is known
pub line_again : (known : List TitledStatement) (r : BlockParser) (line : List ℕ) (m : CertLine) (result : Result (Unit {0}) LineError) (new : Pending)
    → cert_line_of_bytes line ≡ Ok m → Takes r m result new → Moves result (record r { owed = new }) (parser_after_bytes known r line)
unfolding parser_after_bytes
line_again known r line m result new e h = taken r m result new (parser_after_words known r line (tokens_of line)) (again_is known r line m (tokens_of line) e) h
