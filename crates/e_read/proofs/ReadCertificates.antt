-- The certificates of a theorem that is read from a derivation text are of its version, and their literals are well formed.
use Rattle.std.proofs.Common.{◌≡◌, ℕ, Bool, true, false, cond, inl, inr, List, [], ◌∷◌, ◌++◌, Option, Some, None, Result, Ok, Err, refl, sym, ap, subst, ◌∙◌}
use Rattle.std.specs.Option.{option_to_list}
use Rattle.e_text.specs.Lines.{LineView}
use Rattle.e_text.specs.declared.line.LineFault.{LineFault}
use Rattle.e_literal.specs.declared.literal.Lit.{Lit}
use Rattle.e_literal.proofs.Booleans.{all_both}
use Rattle.e_construct.specs.Construct.{needs_of_construction}
use Rattle.e_construct.specs.Superposing as superposing
use Rattle.e_line.specs.declared.fault.FaultKind.{FaultKind}
use Rattle.e_line.specs.declared.raw_line.RawLine.{RawLine}
use Rattle.e_line.specs.declared.raw_line.RawLine.TheVariants as rawlines
use Rattle.e_book.specs.declared.parser.TheoremParser.{TheoremParser}
use Rattle.e_line.specs.Reading.{◌>>=◌}
use Rattle.e_names.specs.TitledStatements.{TitledStatement}
use Rattle.e_book.specs.ParserViews.{entry_of_parser}
use Rattle.e_book.specs.TheoremViews.{TheoremView}
use Rattle.e_book.specs.Book.{is_done}
use Rattle.e_book.specs.Steps.{begin, step}
use Rattle.e_names.specs.Scope.{lit_in, let_in}
use Rattle.e_names.specs.Superposes.{superpose_in}
use Rattle.e_line.proofs.base.Bound.{bind_ok, ok_is, read_ok}
use Rattle.e_line.proofs.base.Choices.{passed}
use Rattle.e_cert.specs.declared.owed.Obligation.{Obligation}
use Rattle.e_cert.specs.declared.owed.Obligation.TheVariants as due
use Rattle.e_cert.specs.declared.owed.Pending.{Pending}
use Rattle.e_cert.specs.declared.kept.StepCerts.{StepCerts}
use Rattle.e_read.specs.declared.reading.BlockParser.{BlockParser}
use Rattle.e_read.specs.inner.Strict.{is_apart}
use Rattle.e_read.specs.inner.Needs.{one_each, needs_of_raw_apply, needs_at_qed, due_of}
use Rattle.e_read.specs.Text.{Derived, Last, garbled_at}
use Rattle.e_read.specs.inner.Machine.{owes_nothing, at_start, owed_by, parser_and_owed, parser_after_line, theorem_with_certs, finished_theorem, or_on, is_end, piece_from}
use Rattle.e_read.specs.Text as text
use Rattle.e_read.proofs.TextTied.{text_read}
use Rattle.e_read.proofs.Bridge.{Answer, derives, no_last, garbled_ok, derived_is, goes_on}
use Rattle.e_read.proofs.TakenLines.{Stepped, line_taken, either}
use Rattle.e_cert.proofs.FormsOfCertificates.{are_certs_of_version, AreOfVersion}
use Rattle.e_read.proofs.FilledCertificates.{filled_good}
use Rattle.e_cert.proofs.FormsOfCertLines.{GoodDue, GoodOwed, strict_good, settled_good}
use Rattle.e_clause.specs.declared.cert.Version.{Version}
use Rattle.e_deriv.specs.Versions.{has_certs_of}
use Rattle.e_deriv.specs.Written.{has_writable_certs}
use Rattle.e_deriv.proofs.Versions.{good_of_version}
use Rattle.e_cert.specs.CertLines.{cert_line_is_of}

some_is : (x y : TheoremView) → Some x ≡ Some y → x ≡ y
some_is x y e = cc

module _ (v : Version) where
  -- ---- what a line owes

  owes : {X : Type 0} (r : Result X FaultKind) (f : X → List Lit) (new : Obligation) → (r >>= λ x. read_ok (one_each (f x))) ≡ Ok new → GoodDue v new
  owes r f new e = let x = bind_ok r (λ x. read_ok (one_each (f x))) new e in subst (GoodDue v) (ok_is (one_each (f x.0)) new x.2) refl

  due_good : (known : List TitledStatement) (d : TheoremParser) (f : RawLine) (new : Obligation) → due_of known d f ≡ Ok new → GoodDue v new
  unfolding due_of
  due_good known d (rawlines.Hence raw) new e = owes (lit_in d.in_scope raw) (λ l. l ∷ []) new e
  due_good known d (rawlines.Let raw) new e = owes (let_in d.in_scope raw) (λ construction. needs_of_construction construction) new e
  due_good known d (rawlines.Apply raw) new e = owes (needs_of_raw_apply known d raw) (λ ls. ls) new e
  due_good known d (rawlines.Superpose raw) new e = owes (superpose_in d.in_scope raw) (λ p. superposing.needs_of_superposition p.0) new e
  due_good known d (rawlines.Qed ns) new e = owes (needs_at_qed d ns) (λ ls. ls) new e
  due_good known d rawlines.Contradiction new e = subst (GoodDue v) (ok_is (due.Contradiction None) new e) refl
  due_good known d f new e = subst (GoodDue v) (ok_is due.Nothing new e) refl

  nothing_good : GoodOwed v owes_nothing
  nothing_good = record { certs = refl; rows_of_sums = refl }

  owed_good : (known : List TitledStatement) (d : TheoremParser) (f : RawLine) (o : Pending) → owed_by known d f ≡ Ok o → GoodOwed v o
  unfolding owed_by
  owed_good known d f o e =
      let owing : Obligation → Pending = λ new. record { names = d.in_scope; due = new; sums = None } in
      let n = bind_ok (due_of known d f) (λ new. read_ok (owing new)) o e in
      subst (GoodOwed v) (ok_is (owing n.0) o n.2) (record { certs = due_good known d f n.0 n.1; rows_of_sums = refl })

  gone_good : (known : List TitledStatement) (parser : Option TheoremParser) (f : RawLine) (d : TheoremParser) (o : Pending) → parser_and_owed known parser f ≡ Ok (d, o) → GoodOwed v o
  gone_good known None f d o e =
      let x = bind_ok (begin known f) (λ x. read_ok (x, owes_nothing)) (d, o) e in
      subst (GoodOwed v) (ap (λ (p : TheoremParser × Pending). p.1) (ok_is (x.0, owes_nothing) (d, o) x.2)) nothing_good
  gone_good known (Some a) f d o e =
      let p = passed (is_apart a f) (owed_by known a f >>= λ w. step known a f >>= λ x. Ok (x, w)) (d, o) e in
      let n = bind_ok (owed_by known a f) (λ w. step known a f >>= λ x. Ok (x, w)) (d, o) p.1 in
      let x = bind_ok (step known a f) (λ x. Ok (x, n.0)) (d, o) n.2 in
      subst (GoodOwed v) (ap (λ (q : TheoremParser × Pending). q.1) (ok_is (x.0, n.0) (d, o) x.2)) (owed_good known a f n.0 n.1)

  -- ---- the lines of a block

  -- what was read of certificates is good
  record GoodReading (r : BlockParser) : Type 0 where
    version : r.version ≡ v
    kept : AreOfVersion v r.kept
    owed : GoodOwed v r.owed

  taken_good : (known : List TitledStatement) (r next : BlockParser) (l : LineView) → GoodReading r → parser_after_line known r l ≡ Ok next → GoodReading next
  taken_good known r next l h e =
      elim (line_taken known r next l e) [
        | inl c ↦ record {
          version = c.2.version ∙ h.version;
          kept = subst (AreOfVersion v) (sym c.2.kept) h.kept;
          owed = strict_good v r.owed l.bytes c.0 c.2.cert_line next.owed h.owed (subst (λ (x : Version). cert_line_is_of x c.2.cert_line ≡ true) h.version c.2.of) c.2.spelled c.2.owed;
        }
        | inr s ↦ after s.1
      ]
    where
      after : Stepped known r next l.bytes → GoodReading next
      after s =
          let good : GoodReading (record { version = r.version; parser = Some s.parser; owed = s.owed; kept = r.kept ++ option_to_list s.read }) = record {
            version = h.version;
            kept = all_both (are_certs_of_version v) r.kept (option_to_list s.read) h.kept (settled_good v r.owed s.read h.owed s.settled_is);
            owed = gone_good known r.parser s.raw_line s.parser s.owed s.gone;
          } in
          subst GoodReading (sym s.next_is) good

  finished_good : (parser : Option TheoremParser) (kept : List StepCerts) (t : TheoremView) → AreOfVersion v kept → finished_theorem parser kept ≡ Some t → has_certs_of v t.script ≡ true
  finished_good None kept t h e = absurd cc
  finished_good (Some d) kept t h e = by (is_done d) e
    where
      by : (b : Bool) → cond b (Some (theorem_with_certs d kept)) None ≡ Some t → has_certs_of v t.script ≡ true
      by true k = subst (λ (x : TheoremView). has_certs_of v x.script ≡ true) (some_is (theorem_with_certs d kept) t k) (filled_good v (entry_of_parser d).script kept h).0
      by false k = absurd cc

  certs_read : (known : List TitledStatement) (last : ℕ) (r : BlockParser) (lines rest : List (Result LineView LineFault)) (t : TheoremView) → GoodReading r → piece_from known last r lines ≡ derives t rest → has_certs_of v t.script ≡ true
  unfolding piece_from
  certs_read known last r [] rest t h e = absurd cc
  certs_read known last r (Err f ∷ lines) rest t h e = absurd cc
  certs_read known last r (Ok l ∷ lines) rest t h e =
      let next : Result BlockParser ℕ = garbled_at l.number (parser_after_line known r l) in
      let then : BlockParser → Result Answer ℕ = λ x. or_on (finished_theorem x.parser x.kept) lines (piece_from known last x lines) in
      elim (either (is_end known r.parser l) (Ok (Last, lines)) (next >>= then) (derives t rest) e) [
        | inl p ↦ absurd (no_last lines rest t p.1)
        | inr p ↦
            let x = bind_ok next then (Derived t, rest) p.1 in
            let good = taken_good known r x.0 l h (garbled_ok l.number (parser_after_line known r l) x.0 x.1) in
            elim (goes_on (finished_theorem x.0.parser x.0.kept) lines rest (piece_from known last x.0 lines) t x.2) [
              | inl q ↦ finished_good x.0.parser x.0.kept t good.kept (q.1 ∙ ap (λ (y : TheoremView). Some y) (derived_is q.0 t lines rest q.2).0)
              | inr q ↦ certs_read known last x.0 lines rest t good q.1
            ]
      ]

  start_good : GoodReading (at_start v)
  start_good = record { version = refl; kept = refl; owed = nothing_good }

  -- the certificates of a theorem that is read from its first line on
  pub version_read : (known : List TitledStatement) (last : ℕ) (lines rest : List (Result LineView LineFault)) (t : TheoremView) → piece_from known last (at_start v) lines ≡ derives t rest → has_certs_of v t.script ≡ true
  version_read known last lines rest t e = certs_read known last (at_start v) lines rest t start_good e

  -- so their literals are well formed
  pub good_certs_read : (known : List TitledStatement) (last : ℕ) (lines rest : List (Result LineView LineFault)) (t : TheoremView) → text.piece_from known last (text.at_start v) lines ≡ derives t rest → has_writable_certs t.script ≡ true
  good_certs_read known last lines rest t e = good_of_version v t.script (version_read known last lines rest t (text_read v known last lines ∙ e))
