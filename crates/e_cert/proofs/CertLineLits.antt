-- What holds of each literal that is read as the words say holds of the literal in a line of a certificate.
use Rattle.std.proofs.Common.{◌≡◌, ◌∙◌, ℕ, ◌^◌, cond, true, ltb, List, [], ◌∷◌, length, Option, Some, None, Result, Ok, Err, sym, ap, subst}
use Rattle.std.specs.Prelude.{codes, ◌==◌}
use Rattle.std.specs.Str.{bytes_eq}
use Rattle.e_line.specs.declared.fault.FaultKind.{FaultKind}
use Rattle.e_line.specs.declared.fault.FaultKind.TheVariants.{Malformed}
use Rattle.e_line.specs.declared.literal.RawLit.{RawLit}
use Rattle.e_line.specs.declared.sum.RawTerm.{RawTerm}
use Rattle.e_line.specs.Reading.{◌>>=◌, first_title, no_word_left, names_of}
use Rattle.e_text.specs.Numerals.{number_of}
use Rattle.e_line.specs.Sums.{term_of}
use Rattle.e_line.specs.Literals.{lit_of, diagram_lit_of}
use Rattle.e_line.proofs.base.Bound.{bind_ok, ok_is, read_ok}
use Rattle.e_line.proofs.base.Choices.{either, passed}
use Rattle.e_cert.specs.declared.cert_line.RawRow.{RawRow}
use Rattle.e_cert.specs.declared.cert_line.RawRow.TheVariants as rows
use Rattle.e_cert.specs.declared.cert_line.CertLine.{CertLine}
use Rattle.e_cert.specs.declared.cert_line.CertLine.TheVariants as certlines
use Rattle.e_cert.specs.CertLines.{multiplier_of, limited_place, place_of_digits, fact_row_of, bare_row, raw_row_named, raw_row_of, may_differ, bare_cert_line, differs_of, transfer_of, fact_cert_line_of, row_cert_line_of, cert_line_named, cert_line_of}

-- what is said of a row's literal, where the row is a fact; a place has 32 bits
abbrev pub OfRow : (RawLit → Type 0) → RawRow → Type 0
OfRow P (rows.Fact l) = P l
OfRow P (rows.FactAt k) = ltb k (2 ^ 32) ≡ true
OfRow P row = Unit {0}

-- what is said of the literal of a row, and what of that of a clash
abbrev pub OfCertLine : (RawLit → Type 0) → (RawLit → Type 0) → CertLine → Type 0
OfCertLine P Q (certlines.Differs r) = OfRow P r
OfCertLine P Q (certlines.Row m r) = OfRow P r
OfCertLine P Q (certlines.Clash l) = Q l
OfCertLine P Q (certlines.FactAt k) = ltb k (2 ^ 32) ≡ true
OfCertLine P Q cert_line = Unit {0}

few_places : (o : Option ℕ) (k : ℕ) → limited_place o ≡ Ok k → ltb k (2 ^ 32) ≡ true
few_places None k e = absurd cc
few_places (Some n) k e = let p = passed (ltb n (2 ^ 32)) (read_ok n) k e in ap (λ m. ltb m (2 ^ 32)) (sym (ok_is n k p.1)) ∙ p.0

module _ (P : RawLit → Type 0) (literal : (ws : List (List ℕ)) (l : RawLit) → lit_of ws ≡ Ok l → P l) where
  bare_row_lit : (ws : List (List ℕ)) (row r : RawRow) → OfRow P row → bare_row ws row ≡ Ok r → OfRow P r
  bare_row_lit ws row r h e = let n = bind_ok (no_word_left ws) (λ none. read_ok row) r e in subst (OfRow P) (ok_is row r n.2) h

  term_row_lit : (ws : List (List ℕ)) (f : RawTerm → RawRow) (r : RawRow) → ((t : RawTerm) → OfRow P (f t)) → (term_of ws >>= λ t. read_ok (f t)) ≡ Ok r → OfRow P r
  term_row_lit ws f r h e = let t = bind_ok (term_of ws) (λ t. read_ok (f t)) r e in subst (OfRow P) (ok_is (f t.0) r t.2) (h t.0)

  fact_lit : (ws : List (List ℕ)) (r : RawRow) → (lit_of ws >>= λ l. read_ok (rows.Fact l)) ≡ Ok r → OfRow P r
  fact_lit ws r e = let l = bind_ok (lit_of ws) (λ l. read_ok (rows.Fact l)) r e in subst (OfRow P) (ok_is (rows.Fact l.0) r l.2) (literal ws l.0 l.1)

  place_row_lit : (w : List ℕ) (r : RawRow) → (place_of_digits w >>= λ k. read_ok (rows.FactAt k)) ≡ Ok r → OfRow P r
  place_row_lit w r e = let k = bind_ok (place_of_digits w) (λ k. read_ok (rows.FactAt k)) r e in subst (OfRow P) (ok_is (rows.FactAt k.0) r k.2) (few_places (number_of w) k.0 k.1)

  fact_row_lit : (ws : List (List ℕ)) (r : RawRow) → fact_row_of ws ≡ Ok r → OfRow P r
  unfolding fact_row_of
  fact_row_lit [] r e = absurd cc
  fact_row_lit (w ∷ ws) r e =
      either (OfRow P) (length ws == 0) (place_of_digits w >>= λ k. read_ok (rows.FactAt k)) (lit_of (w ∷ ws) >>= λ l. read_ok (rows.Fact l)) r e (place_row_lit w r) (fact_lit (w ∷ ws) r)

  no_row : (r : RawRow) → let none : Result RawRow FaultKind = Err Malformed in none ≡ Ok r → OfRow P r
  no_row r h = absurd cc

  row_named_lit : (w : List ℕ) (ws : List (List ℕ)) (r : RawRow) → raw_row_named w ws ≡ Ok r → OfRow P r
  unfolding raw_row_named
  row_named_lit w ws r e =
      let none : Result RawRow FaultKind = Err Malformed in
      let r7 : Result RawRow FaultKind = cond (bytes_eq w (codes "below")) (bare_row ws rows.Below) none in
      let r6 : Result RawRow FaultKind = cond (bytes_eq w (codes "above")) (bare_row ws rows.Above) r7 in
      let r5 : Result RawRow FaultKind = cond (bytes_eq w (codes "least")) (term_of ws >>= λ t. read_ok (rows.Least t)) r6 in
      let r4 : Result RawRow FaultKind = cond (bytes_eq w (codes "right")) (bare_row ws rows.Right) r5 in
      let r3 : Result RawRow FaultKind = cond (bytes_eq w (codes "top")) (term_of ws >>= λ t. read_ok (rows.Top t)) r4 in
      let r2 : Result RawRow FaultKind = cond (bytes_eq w (codes "pos")) (term_of ws >>= λ t. read_ok (rows.Pos t)) r3 in
      let r1 : Result RawRow FaultKind = cond (bytes_eq w (codes "goal")) (bare_row ws rows.Goal) r2 in
      either (OfRow P) (bytes_eq w (codes "fact")) (fact_row_of ws) r1 r e (fact_row_lit ws r) (λ e1.
      either (OfRow P) (bytes_eq w (codes "goal")) (bare_row ws rows.Goal) r2 r e1 (bare_row_lit ws rows.Goal r tt) (λ e2.
      either (OfRow P) (bytes_eq w (codes "pos")) (term_of ws >>= λ t. read_ok (rows.Pos t)) r3 r e2 (term_row_lit ws rows.Pos r (λ t. tt)) (λ e3.
      either (OfRow P) (bytes_eq w (codes "top")) (term_of ws >>= λ t. read_ok (rows.Top t)) r4 r e3 (term_row_lit ws rows.Top r (λ t. tt)) (λ e4.
      either (OfRow P) (bytes_eq w (codes "right")) (bare_row ws rows.Right) r5 r e4 (bare_row_lit ws rows.Right r tt) (λ e5.
      either (OfRow P) (bytes_eq w (codes "least")) (term_of ws >>= λ t. read_ok (rows.Least t)) r6 r e5 (term_row_lit ws rows.Least r (λ t. tt)) (λ e6.
      either (OfRow P) (bytes_eq w (codes "above")) (bare_row ws rows.Above) r7 r e6 (bare_row_lit ws rows.Above r tt) (λ e7.
      either (OfRow P) (bytes_eq w (codes "below")) (bare_row ws rows.Below) none r e7 (bare_row_lit ws rows.Below r tt) (no_row r))))))))

  row_lit : (ws : List (List ℕ)) (r : RawRow) → raw_row_of ws ≡ Ok r → OfRow P r
  unfolding raw_row_of
  row_lit [] r e = absurd cc
  row_lit (w ∷ ws) r e = row_named_lit w ws r e

  module _ (Q : RawLit → Type 0) (clashing : (ws : List (List ℕ)) (l : RawLit) → diagram_lit_of ws ≡ Ok l → Q l) where
    bare_lit : (ws : List (List ℕ)) (cert_line m : CertLine) → OfCertLine P Q cert_line → bare_cert_line ws cert_line ≡ Ok m → OfCertLine P Q m
    bare_lit ws cert_line m h e = let n = bind_ok (no_word_left ws) (λ none. read_ok cert_line) m e in subst (OfCertLine P Q) (ok_is cert_line m n.2) h

    fact_cert_line_lit : (ws : List (List ℕ)) (m : CertLine) → fact_cert_line_of ws ≡ Ok m → OfCertLine P Q m
    unfolding fact_cert_line_of
    fact_cert_line_lit [] m e = subst (OfCertLine P Q) (ok_is certlines.Fact m e) tt
    fact_cert_line_lit (w ∷ ws) m e =
        let n = bind_ok (no_word_left ws) (λ none. place_of_digits w >>= λ k. read_ok (certlines.FactAt k)) m e in
        let k = bind_ok (place_of_digits w) (λ k. read_ok (certlines.FactAt k)) m n.2 in
        subst (OfCertLine P Q) (ok_is (certlines.FactAt k.0) m k.2) (few_places (number_of w) k.0 k.1)

    differs_lit : (ws : List (List ℕ)) (m : CertLine) → differs_of ws ≡ Ok m → OfCertLine P Q m
    unfolding differs_of
    differs_lit ws m e =
        let r = bind_ok (raw_row_of ws) (λ r. cond (may_differ r) (read_ok (certlines.Differs r)) (Err Malformed)) m e in
        subst (OfCertLine P Q) (ok_is (certlines.Differs r.0) m (passed (may_differ r.0) (read_ok (certlines.Differs r.0)) m r.2).1) (row_lit ws r.0 r.1)

    row_cert_line_lit : (w : List ℕ) (ws : List (List ℕ)) (m : CertLine) → row_cert_line_of w ws ≡ Ok m → OfCertLine P Q m
    unfolding row_cert_line_of
    row_cert_line_lit w ws m e =
        let n = bind_ok (multiplier_of w) (λ n. raw_row_of ws >>= λ r. read_ok (certlines.Row n r)) m e in
        let r = bind_ok (raw_row_of ws) (λ r. read_ok (certlines.Row n.0 r)) m n.2 in
        subst (OfCertLine P Q) (ok_is (certlines.Row n.0 r.0) m r.2) (row_lit ws r.0 r.1)

    transfer_lit : (ws : List (List ℕ)) (m : CertLine) → transfer_of ws ≡ Ok m → OfCertLine P Q m
    unfolding transfer_of
    transfer_lit ws m e =
        let t = bind_ok (first_title ws) (λ t. names_of t.1 >>= λ ns. read_ok (certlines.Transfer t.0 ns)) m e in
        let ns = bind_ok (names_of t.0.1) (λ ns. read_ok (certlines.Transfer t.0.0 ns)) m t.2 in
        subst (OfCertLine P Q) (ok_is (certlines.Transfer t.0.0 ns.0) m ns.2) tt

    clash_lit : (ws : List (List ℕ)) (m : CertLine) → (diagram_lit_of ws >>= λ l. read_ok (certlines.Clash l)) ≡ Ok m → OfCertLine P Q m
    clash_lit ws m e =
        let l = bind_ok (diagram_lit_of ws) (λ l. read_ok (certlines.Clash l)) m e in
        subst (OfCertLine P Q) (ok_is (certlines.Clash l.0) m l.2) (clashing ws l.0 l.1)

    cert_line_named_lit : (w : List ℕ) (ws : List (List ℕ)) (m : CertLine) → cert_line_named w ws ≡ Ok m → OfCertLine P Q m
    unfolding cert_line_named
    cert_line_named_lit w ws m e =
        let m5 : Result CertLine FaultKind = cond (bytes_eq w (codes "differs")) (differs_of ws) (row_cert_line_of w ws) in
        let m4 : Result CertLine FaultKind = cond (bytes_eq w (codes "sum")) (bare_cert_line ws certlines.Sum) m5 in
        let m3 : Result CertLine FaultKind = cond (bytes_eq w (codes "clash")) (diagram_lit_of ws >>= λ l. read_ok (certlines.Clash l)) m4 in
        let m2 : Result CertLine FaultKind = cond (bytes_eq w (codes "transfer")) (transfer_of ws) m3 in
        let m1 : Result CertLine FaultKind = cond (bytes_eq w (codes "metric")) (bare_cert_line ws certlines.Metric) m2 in
        either (OfCertLine P Q) (bytes_eq w (codes "fact")) (fact_cert_line_of ws) m1 m e (fact_cert_line_lit ws m) (λ e1.
        either (OfCertLine P Q) (bytes_eq w (codes "metric")) (bare_cert_line ws certlines.Metric) m2 m e1 (bare_lit ws certlines.Metric m tt) (λ e2.
        either (OfCertLine P Q) (bytes_eq w (codes "transfer")) (transfer_of ws) m3 m e2 (transfer_lit ws m) (λ e3.
        either (OfCertLine P Q) (bytes_eq w (codes "clash")) (diagram_lit_of ws >>= λ l. read_ok (certlines.Clash l)) m4 m e3 (clash_lit ws m) (λ e4.
        either (OfCertLine P Q) (bytes_eq w (codes "sum")) (bare_cert_line ws certlines.Sum) m5 m e4 (bare_lit ws certlines.Sum m tt) (λ e5.
        either (OfCertLine P Q) (bytes_eq w (codes "differs")) (differs_of ws) (row_cert_line_of w ws) m e5 (differs_lit ws m) (row_cert_line_lit w ws m))))))

    pub cert_line_lit : (ws : List (List ℕ)) (m : CertLine) → cert_line_of ws ≡ Ok m → OfCertLine P Q m
    unfolding cert_line_of
    cert_line_lit [] m e = absurd cc
    cert_line_lit (w ∷ ws) m e = cert_line_named_lit w ws m e
