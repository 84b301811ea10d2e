-- What a line does that is taken: it is one of a certificate, or it is read as a line of a book.
use Rattle.std.proofs.Common.{◌≡◌, ℕ, Bool, true, false, cond, inl, inr, List, [], ◌∷◌, ◌++◌, Option, Some, None, Result, Ok, Err, refl, sym, ap, subst, ◌∙◌}
use Rattle.std.specs.Prelude.{◌⊎◌, ◌&&◌}
use Rattle.std.specs.Str.{bytes_eq}
use Rattle.std.specs.Option.{option_to_list}
use Rattle.std.proofs.lemmas.Bool.{eqb-true}
use Rattle.e_text.specs.Tokens.{tokens_of}
use Rattle.e_text.specs.Lines.{LineView}
use Rattle.e_line.specs.declared.fault.FaultKind.{FaultKind}
use Rattle.e_line.specs.declared.fault.FaultKind.TheVariants.{Malformed}
use Rattle.e_line.specs.declared.raw_line.RawLine.{RawLine}
use Rattle.e_book.specs.declared.parser.TheoremParser.{TheoremParser}
use Rattle.e_line.specs.Reading.{◌>>=◌}
use Rattle.e_line.specs.RawLines.{raw_line_of, raw_line_named}
use Rattle.e_names.specs.TitledStatements.{TitledStatement}
use Rattle.e_book.specs.Steps.{begin, step}
use Rattle.e_book.specs.Grammar.{starts_with_hash, is_skipped}
use Rattle.e_book.specs.Book.{line_step}
use Rattle.e_line.specs.Canonical.{line_of}
use Rattle.e_line.proofs.base.Bound.{bind_ok, ok_is}
use Rattle.e_line.proofs.base.Choices.{passed}
use Rattle.e_cert.specs.declared.cert_line.CertLine.{CertLine}
use Rattle.e_cert.specs.declared.owed.Pending.{Pending}
use Rattle.e_cert.specs.declared.kept.StepCerts.{StepCerts}
use Rattle.e_read.specs.declared.reading.BlockParser.{BlockParser}
use Rattle.e_cert.specs.CertLines.{cert_line_is_of}
use Rattle.e_line.specs.CanonicalLines.{is_canonical_form, canonical_line_of, canonical_line}
use Rattle.e_cert.specs.CanonicalCertLines.{canonical_cert_line}
use Rattle.e_read.specs.inner.Strict.{is_apart}
use Rattle.e_cert.specs.Owed.{after_cert_line, finish_certs}
use Rattle.e_read.specs.Laws.{begins_with_bar}
use Rattle.e_read.specs.Text.{is_bar, is_lf_end}
use Rattle.e_read.specs.inner.Machine.{owes_nothing, with_cert_line, parser_after_certificate, owed_by, parser_and_owed, finish_line, with_raw_line, parser_after_exact_line, parser_after_words, parser_after_bytes, parser_after_line}

pub either : {A : Type 0} (b : Bool) (x y z : A) → cond b x y ≡ z → ((b ≡ true) × (x ≡ z)) ⊎ ((b ≡ false) × (y ≡ z))
either true x y z e = inl (refl, e)
either false x y z e = inr (refl, e)

-- no line of a book begins with #
hashed : (b : ℕ) (bs : List ℕ) (ws : List (List ℕ)) → b ≡ 35 → raw_line_named (b ∷ bs) ws ≡ Err Malformed
unfolding raw_line_named
hashed b bs ws e = subst (λ (x : ℕ). raw_line_named (x ∷ bs) ws ≡ Err Malformed) (sym e) refl

-- a line of a certificate
pub record Certified (r next : BlockParser) (line : List ℕ) (words : List (List ℕ)) : Type 0 where
  pub cert_line : CertLine
  pub spelled : canonical_cert_line line words ≡ Ok cert_line
  pub of : cert_line_is_of r.version cert_line ≡ true
  pub owed : after_cert_line r.owed cert_line ≡ Ok next.owed
  pub parser : next.parser ≡ r.parser
  pub kept : next.kept ≡ r.kept
  pub version : next.version ≡ r.version

-- any other line
pub record Stepped (known : List TitledStatement) (r next : BlockParser) (line : List ℕ) : Type 0 where
  pub raw_line : RawLine
  pub spelled : canonical_line line ≡ Ok raw_line
  pub read : Option StepCerts
  pub settled_is : finish_certs r.owed ≡ Ok read
  pub parser : TheoremParser
  pub owed : Pending
  pub gone : parser_and_owed known r.parser raw_line ≡ Ok (parser, owed)
  pub next_is : next ≡ record { version = r.version; parser = Some parser; owed = owed; kept = r.kept ++ option_to_list read }

certified_line : (r next : BlockParser) (line : List ℕ) (words : List (List ℕ)) → parser_after_certificate r line words ≡ Ok next → Certified r next line words
unfolding with_cert_line parser_after_certificate
certified_line r next line words e =
    let m = bind_ok (canonical_cert_line line words) (λ m. cond (cert_line_is_of r.version m) (after_cert_line r.owed m >>= λ o. Ok (record r { owed = o })) (Err Malformed)) next e in
    let p = passed (cert_line_is_of r.version m.0) (after_cert_line r.owed m.0 >>= λ o. Ok (record r { owed = o })) next m.2 in
    let o = bind_ok (after_cert_line r.owed m.0) (λ o. Ok (record r { owed = o })) next p.1 in
    let is : record r { owed = o.0 } ≡ next = ok_is (record r { owed = o.0 }) next o.2 in
    record {
      cert_line = m.0;
      spelled = m.1;
      of = p.0;
      owed = o.1 ∙ ap (λ (x : BlockParser). Ok x.owed) is;
      parser = sym (ap (λ (x : BlockParser). x.parser) is);
      kept = sym (ap (λ (x : BlockParser). x.kept) is);
      version = sym (ap (λ (x : BlockParser). x.version) is);
    }

stepped_line : (known : List TitledStatement) (r next : BlockParser) (line : List ℕ) → parser_after_exact_line known r line ≡ Ok next → Stepped known r next line
unfolding with_raw_line parser_after_exact_line
stepped_line known r next line e =
    let with_kept : Option StepCerts → BlockParser = λ k. record { version = r.version; parser = r.parser; owed = owes_nothing; kept = r.kept ++ option_to_list k } in
    let end : BlockParser → TheoremParser × Pending → BlockParser = λ s x. record { version = s.version; parser = Some x.0; owed = x.1; kept = s.kept } in
    let f = bind_ok (canonical_line line) (λ f. finish_line r >>= λ s. parser_and_owed known s.parser f >>= λ x. Ok (end s x)) next e in
    let s = bind_ok (finish_line r) (λ s. parser_and_owed known s.parser f.0 >>= λ x. Ok (end s x)) next f.2 in
    let k = bind_ok (finish_certs r.owed) (λ k. Ok (with_kept k)) s.0 s.1 in
    let kept_is : with_kept k.0 ≡ s.0 = ok_is (with_kept k.0) s.0 k.2 in
    let x = bind_ok (parser_and_owed known s.0.parser f.0) (λ x. Ok (end s.0 x)) next s.2 in
    record {
      raw_line = f.0;
      spelled = f.1;
      read = k.0;
      settled_is = k.1;
      parser = x.0.0;
      owed = x.0.1;
      gone = ap (λ (q : BlockParser). parser_and_owed known q.parser f.0) kept_is ∙ x.1;
      next_is = sym (ap (λ (q : BlockParser). end q x.0) kept_is ∙ ok_is (end s.0 x.0) next x.2);
    }

-- what a line is that is taken
pub line_taken : (known : List TitledStatement) (r next : BlockParser) (l : LineView) → parser_after_line known r l ≡ Ok next
    → ((ws : List (List ℕ)) × (begins_with_bar (tokens_of l.bytes) ≡ true) × Certified r next l.bytes ws) ⊎ ((begins_with_bar (tokens_of l.bytes) ≡ false) × Stepped known r next l.bytes)
unfolding parser_after_line parser_after_bytes parser_after_words
line_taken known r next l e = by_words (tokens_of l.bytes) refl (passed (is_lf_end l.end) (parser_after_words known r l.bytes (tokens_of l.bytes)) next e).1
  where
    by_words : (words : List (List ℕ)) → tokens_of l.bytes ≡ words → parser_after_words known r l.bytes words ≡ Ok next
        → ((ws : List (List ℕ)) × (begins_with_bar (tokens_of l.bytes) ≡ true) × Certified r next l.bytes ws) ⊎ ((begins_with_bar (tokens_of l.bytes) ≡ false) × Stepped known r next l.bytes)
    by_words [] same h = absurd cc
    by_words (w ∷ ws) same h =
        elim (either (is_bar w) (parser_after_certificate r l.bytes ws) (parser_after_exact_line known r l.bytes) (Ok next) h) [
          | inl p ↦ inl (ws, ap begins_with_bar same ∙ p.0, certified_line r next l.bytes ws p.1)
          | inr p ↦ inr (ap begins_with_bar same ∙ p.0, stepped_line known r next l.bytes p.1)
        ]

-- the form of a line in the one spelling is that of its words
pub form_read : (line : List ℕ) (f : RawLine) → canonical_line line ≡ Ok f → (raw_line_of (tokens_of line) ≡ Ok f) × ((is_canonical_form f && bytes_eq line (line_of f)) ≡ true)
unfolding canonical_line_of
form_read line f e =
    let g = bind_ok (raw_line_of (tokens_of line)) (λ f. cond (is_canonical_form f && bytes_eq line (line_of f)) (Ok f) (Err Malformed)) f e in
    let p = passed (is_canonical_form g.0 && bytes_eq line (line_of g.0)) (Ok g.0) f g.2 in
    let same : g.0 ≡ f = ok_is g.0 f p.1 in
    subst (λ (x : RawLine). (raw_line_of (tokens_of line) ≡ Ok x) × ((is_canonical_form x && bytes_eq line (line_of x)) ≡ true)) same (g.1, p.0)

-- words that have a form say something
pub not_skipped : (words : List (List ℕ)) (f : RawLine) → raw_line_of words ≡ Ok f → is_skipped words ≡ false
unfolding raw_line_of
not_skipped [] f e = absurd cc
not_skipped ([] ∷ ws) f e = refl
not_skipped ((b ∷ bs) ∷ ws) f e =
    elim (either (starts_with_hash (b ∷ bs)) true false (starts_with_hash (b ∷ bs)) (same_bool (starts_with_hash (b ∷ bs)))) [
      | inl p ↦ absurd (no_form (sym (hashed b bs ws (eqb-true b 35 p.0)) ∙ e))
      | inr p ↦ p.0
    ]
  where
    same_bool : (x : Bool) → cond x true false ≡ x
    same_bool true = refl
    same_bool false = refl

    no_form : let none : Result RawLine FaultKind = Err Malformed in none ≡ Ok f → ⊥
    no_form h = absurd cc

-- a line that goes on is one of a book
pub book_line : (known : List TitledStatement) (parser : Option TheoremParser) (f : RawLine) (d : TheoremParser) (o : Pending) (words : List (List ℕ)) → raw_line_of words ≡ Ok f → parser_and_owed known parser f ≡ Ok (d, o) → line_step known parser words ≡ Ok d
unfolding line_step
book_line known None f d o words h e =
    let x = bind_ok (begin known f) (λ x. Ok (x, owes_nothing)) (d, o) e in
    let same : x.0 ≡ d = ap (λ (p : TheoremParser × Pending). p.0) (ok_is (x.0, owes_nothing) (d, o) x.2) in
    rw h (x.1 ∙ ap (λ (y : TheoremParser). Ok y) same)
book_line known (Some a) f d o words h e =
    let p = passed (is_apart a f) (owed_by known a f >>= λ new. step known a f >>= λ x. Ok (x, new)) (d, o) e in
    let n = bind_ok (owed_by known a f) (λ new. step known a f >>= λ x. Ok (x, new)) (d, o) p.1 in
    let x = bind_ok (step known a f) (λ x. Ok (x, n.0)) (d, o) n.2 in
    let same : x.0 ≡ d = ap (λ (q : TheoremParser × Pending). q.0) (ok_is (x.0, n.0) (d, o) x.2) in
    rw h (x.1 ∙ ap (λ (y : TheoremParser). Ok y) same)
