-- Lines that are taken one after another, in the one spelling of a derivation.
use Rattle.std.proofs.Common.{◌≡◌, ℕ, Bool, true, false, List, [], ◌∷◌, ◌++◌, map, Option, Some, None, Ok, refl, sym, ap, subst, ◌∙◌, append_assoc}
use Rattle.std.specs.Prelude.{codes}
use Rattle.std.specs.Option.{option_to_list}
use Rattle.std.specs.Str.{bytes_eq}
use Rattle.std.specs.List.{list_all}
use Rattle.std.proofs.lemmas.List.Folds.{list_all-append}
use Rattle.std.proofs.lemmas.Bool.{and_parts}
use Rattle.e_text.specs.Tokens.{tokens_of, joined_words}
use Rattle.e_literal.specs.declared.object.Sort.TheVariants as sorts
use Rattle.e_construct.specs.declared.construction.Shape.{Shape}
use Rattle.e_construct.specs.Lines.{Piece, pieces}
use Rattle.e_line.specs.declared.lets.RawLet.{RawLet}
use Rattle.e_line.specs.declared.raw_line.RawLine.{RawLine}
use Rattle.e_line.specs.declared.raw_line.RawLine.TheVariants as rawlines
use Rattle.e_book.specs.declared.parser.TheoremParser.{TheoremParser}
use Rattle.e_names.specs.TitledStatements.{TitledStatement}
use Rattle.e_book.specs.Steps.{step}
use Rattle.e_book.specs.Book.{is_done}
use Rattle.e_line.specs.Canonical.{filled_pieces, line_pieces, avoid_words, let_words, raw_line_words, line_of}
use Rattle.e_line.proofs.base.Bound.{same_bytes}
use Rattle.e_line.proofs.read_again.Pieces.{alike, first_alike}
use Rattle.e_line.proofs.read_again.LetsAgain.{LetNamed, as_read as let_as_read}
use Rattle.e_line.proofs.read_again.Respelled.{GoodForm, as_read, form_again}
use Rattle.e_book.proofs.canonical.LineWords.{words_again}
use Rattle.e_cert.specs.declared.cert_line.CertLine.{CertLine}
use Rattle.e_cert.specs.declared.owed.Obligation.{Obligation}
use Rattle.e_cert.specs.declared.owed.Pending.{Pending}
use Rattle.e_cert.specs.declared.kept.StepCerts.{StepCerts}
use Rattle.e_read.specs.declared.reading.BlockParser.{BlockParser}
use Rattle.e_clause.specs.declared.cert.Version.{Version}
use Rattle.e_cert.specs.CertLines.{cert_line_text, cert_line_is_of}
use Rattle.e_cert.proofs.FormsOfCertificates.{are_certs_of_version, AreOfVersion}
use Rattle.e_line.specs.CanonicalLines.{is_canonical_form, canonical_line_of, canonical_line}
use Rattle.e_read.specs.inner.Strict.{is_apart}
use Rattle.e_cert.specs.Owed.{after_cert_line, finish_certs}
use Rattle.e_read.specs.inner.Needs.{due_of}
use Rattle.e_read.specs.inner.Machine.{parser_after_certificate, with_cert_line, owed_by, with_raw_line, parser_after_exact_line, parser_after_words}
use Rattle.e_roundtrip.proofs.Certificates.CertLinesAgain.{CertLineNamed, cert_line_tokens_again, strict_cert_line_again}
use Rattle.e_roundtrip.proofs.Certificates.Feeding.{OneCertLine, Fed, owing}
use Rattle.e_roundtrip.proofs.Certificates.CertsPut.{Keeps}
use Rattle.e_roundtrip.proofs.Certificates.VersionLines.{LineOf, LinesOf, same_cert_line}

-- ---- lines of the script are in the one spelling

abbrev line_of_shapes : List Shape → (new args avoid : List (List ℕ)) → RawLet
line_of_shapes shapes new args avoid = record { shapes = shapes; new = new; args = args; avoid = avoid }

-- the shapes that have one line are spelled alike
let_alike : (s : Shape) (new args avoid : List (List ℕ)) → let_words (let_as_read (line_of_shapes (s ∷ []) new args avoid)) ≡ let_words (line_of_shapes (s ∷ []) new args avoid)
let_alike s new args avoid =
    let a = first_alike s in
    let same : line_pieces (alike s) ≡ pieces s = ap line_pieces a.is ∙ a.same in
    ap (λ (ps : List Piece). filled_pieces ps new args ++ avoid_words avoid) same

let_line : (l : RawLet) → LetNamed l → let_words (let_as_read l) ≡ let_words l
let_line l g =
    subst (λ (shapes : List Shape). let_words (let_as_read (line_of_shapes shapes l.new l.args l.avoid)) ≡ let_words (line_of_shapes shapes l.new l.args l.avoid)) (sym g.alone) (let_alike g.shape l.new l.args l.avoid)

-- a form is spelled as it is read
line_again : (f : RawLine) → GoodForm f → line_of (as_read f) ≡ line_of f
line_again (rawlines.Let l) g = ap (λ (ws : List (List ℕ)). joined_words (codes "let" ∷ ws)) (let_line l g)
line_again (rawlines.Theorem t) g = refl
line_again (rawlines.Declare sort ns) g = refl
line_again (rawlines.Given ls) g = refl
line_again (rawlines.Made sort ns) g = refl
line_again (rawlines.Show ls) g = refl
line_again rawlines.Proof g = refl
line_again (rawlines.By r ns l) g = refl
line_again (rawlines.Hence l) g = refl
line_again (rawlines.Apply a) g = refl
line_again (rawlines.Qed ns) g = refl
line_again rawlines.Contradiction g = refl
line_again (rawlines.Claim ls) g = refl
line_again (rawlines.Superpose s) g = refl
line_again (rawlines.Cases l) g = refl
line_again rawlines.Else g = refl
line_again rawlines.End g = refl

pub strict_form_again : (f : RawLine) → GoodForm f → is_canonical_form (as_read f) ≡ true → canonical_line (line_of f) ≡ Ok (as_read f)
unfolding canonical_line_of
strict_form_again f g s =
    let same : bytes_eq (line_of f) (line_of (as_read f)) ≡ true = ap (bytes_eq (line_of f)) (line_again f g) ∙ same_bytes (line_of f) in
    rw (words_again f g, form_again f g, s, same) refl

-- no such line begins with the sign of certificates
pub no_bar : (known : List TitledStatement) (r : BlockParser) (line : List ℕ) (f : RawLine) → parser_after_words known r line (raw_line_words f) ≡ parser_after_exact_line known r line
unfolding parser_after_words
no_bar known r line (rawlines.Theorem t) = refl
no_bar known r line (rawlines.Declare sorts.Point ns) = refl
no_bar known r line (rawlines.Declare sorts.Line ns) = refl
no_bar known r line (rawlines.Declare sorts.Circle ns) = refl
no_bar known r line (rawlines.Given ls) = refl
no_bar known r line (rawlines.Made sort ns) = refl
no_bar known r line (rawlines.Show ls) = refl
no_bar known r line rawlines.Proof = refl
no_bar known r line (rawlines.By rule ns l) = refl
no_bar known r line (rawlines.Hence l) = refl
no_bar known r line (rawlines.Let l) = refl
no_bar known r line (rawlines.Apply a) = refl
no_bar known r line (rawlines.Qed ns) = refl
no_bar known r line rawlines.Contradiction = refl
no_bar known r line (rawlines.Claim ls) = refl
no_bar known r line (rawlines.Superpose s) = refl
no_bar known r line (rawlines.Cases l) = refl
no_bar known r line rawlines.Else = refl
no_bar known r line rawlines.End = refl

-- ---- lines in the middle of a theorem

-- a line is taken, and the theorem goes on
pub record OneLine (known : List TitledStatement) (r : BlockParser) (line : List ℕ) (next : BlockParser) : Type 0 where
  pub before : TheoremParser
  pub here : r.parser ≡ Some before
  pub leads : parser_after_words known r line (tokens_of line) ≡ Ok next
  pub after : TheoremParser
  pub there : next.parser ≡ Some after
  pub going : is_done after ≡ false

abbrev pub AllTaken : List TitledStatement → BlockParser → List (List ℕ) → BlockParser → Type 0
AllTaken known r [] last = r ≡ last
AllTaken known r (line ∷ more) last = (next : BlockParser) × OneLine known r line next × AllTaken known next more last

pub taken_append : (known : List TitledStatement) (r next last : BlockParser) (xs ys : List (List ℕ)) → AllTaken known r xs next → AllTaken known next ys last → AllTaken known r (xs ++ ys) last
taken_append known r next last [] ys a b = subst (λ (x : BlockParser). AllTaken known x ys last) (sym a) b
taken_append known r next last (x ∷ xs) ys a b = (a.0, a.1, taken_append known a.0 next last xs ys a.2 b)

-- the parser that has come, and what is kept of its lines once nothing more is owed
pub record Stands (r : BlockParser) (d : TheoremParser) (ks : List StepCerts) : Type 0 where
  pub parser : r.parser ≡ Some d
  pub read : Option StepCerts
  pub settles : finish_certs r.owed ≡ Ok read
  pub kept : r.kept ++ option_to_list read ≡ ks

pub record Reached (known : List TitledStatement) (r : BlockParser) (lines : List (List ℕ)) (e : TheoremParser) (ks : List StepCerts) : Type 0 where
  pub last : BlockParser
  pub version : last.version ≡ r.version
  pub taken : AllTaken known r lines last
  pub stands : Stands last e ks

-- the lines lead from one parser to another, and so much more is kept, where that is of the version of the text
abbrev pub Along : List TitledStatement → TheoremParser → List (List ℕ) → TheoremParser → List StepCerts → Type 0
Along known d lines e more = (r : BlockParser) (ks : List StepCerts) → AreOfVersion r.version more → Stands r d ks → Reached known r lines e (ks ++ more)

abbrev AreOf : Version → List StepCerts → Bool
AreOf v ks = list_all (are_certs_of_version v) ks

pub along_append : (known : List TitledStatement) (d e f : TheoremParser) (xs ys : List (List ℕ)) (js ls : List StepCerts) → Along known d xs e js → Along known e ys f ls → Along known d (xs ++ ys) f (js ++ ls)
along_append known d e f xs ys js ls p q = λ r ks of s.
    let both = and_parts (AreOf r.version js) (AreOf r.version ls) (sym (list_all-append (are_certs_of_version r.version) js ls) ∙ of) in
    let a = p r ks both.0 s in
    let b = q a.last (ks ++ js) (subst (λ (v : Version). AreOfVersion v ls) (sym a.version) both.1) a.stands in
    record {
      last = b.last;
      version = b.version ∙ a.version;
      taken = taken_append known r a.last b.last xs ys a.taken b.taken;
      stands = subst (λ (x : List StepCerts). Stands b.last f x) (append_assoc ks js ls) b.stands;
    }

-- ---- lines of certificates

cert_line_leads : (known : List TitledStatement) (r : BlockParser) (m : CertLine) (o : Pending) → CertLineNamed m → cert_line_is_of r.version m ≡ true → after_cert_line r.owed m ≡ Ok o → parser_after_words known r (cert_line_text m) (tokens_of (cert_line_text m)) ≡ Ok (record r { owed = o })
unfolding with_cert_line parser_after_certificate parser_after_words
cert_line_leads known r m o h of e =
    ap (λ (ws : List (List ℕ)). parser_after_words known r (cert_line_text m) ws) (cert_line_tokens_again m h) ∙ rw (strict_cert_line_again m h, of, e) refl

words_lead : (known : List TitledStatement) (r : BlockParser) (words : List (List ℕ)) (o : Pending) → LineOf r.version words → OneCertLine r.owed words o → parser_after_words known r (joined_words words) (tokens_of (joined_words words)) ≡ Ok (record r { owed = o })
words_lead known r words o l m =
    let same : l.0 ≡ m.cert_line = same_cert_line l.0 m.cert_line l.2 m.named (sym l.1 ∙ m.spelled) in
    let of : cert_line_is_of r.version m.cert_line ≡ true = sym (ap (cert_line_is_of r.version) same) ∙ l.3 in
    subst (λ (ws : List (List ℕ)). parser_after_words known r (joined_words ws) (tokens_of (joined_words ws)) ≡ Ok (record r { owed = o })) (sym m.spelled) (cert_line_leads known r m.cert_line o m.named of m.leads)

cert_lines_taken : (known : List TitledStatement) (r : BlockParser) (d : TheoremParser) (lines : List (List (List ℕ))) (last : Pending) → r.parser ≡ Some d → is_done d ≡ false → LinesOf r.version lines → Fed r.owed lines last → AllTaken known r (map joined_words lines) (record r { owed = last })
cert_lines_taken known r d [] last here going of fed = ap (λ (o : Pending). record r { owed = o }) fed
cert_lines_taken known r d (words ∷ lines) last here going of fed = (
  record r { owed = fed.0 },
  record { before = d; here = here; leads = words_lead known r words fed.0 of.0 fed.1; after = d; there = here; going = going },
  cert_lines_taken known (record r { owed = fed.0 }) d lines last here going of.1 fed.2,
)

-- ---- a line of the script with its certificates

pub form_leads : (known : List TitledStatement) (r : BlockParser) (d e : TheoremParser) (ks : List StepCerts) (f : RawLine) (owed : Obligation) → Stands r d ks → GoodForm f → is_canonical_form (as_read f) ≡ true → is_apart d (as_read f) ≡ true → due_of known d (as_read f) ≡ Ok owed
    → step known d (as_read f) ≡ Ok e → parser_after_words known r (line_of f) (tokens_of (line_of f)) ≡ Ok (record { version = r.version; parser = Some e; owed = owing d.in_scope owed None; kept = ks })
unfolding with_raw_line owed_by parser_after_exact_line
form_leads known r d e ks f owed s good strict apart due steps =
    ap (parser_after_words known r (line_of f)) (words_again f good) ∙ no_bar known r (line_of f) f
    ∙ rw (strict_form_again f good strict, s.settles, s.parser, apart, due, steps) (ap (λ (x : List StepCerts). Ok (record { version = r.version; parser = Some e; owed = owing d.in_scope owed None; kept = x })) s.kept)

pub step_along : (known : List TitledStatement) (d e : TheoremParser) (f : RawLine) (owed : Obligation) (lines : List (List (List ℕ))) (k : Option StepCerts) → GoodForm f → is_canonical_form (as_read f) ≡ true → is_apart d (as_read f) ≡ true → due_of known d (as_read f) ≡ Ok owed
    → step known d (as_read f) ≡ Ok e → is_done e ≡ false → Keeps d.in_scope owed lines k → Along known d (line_of f ∷ map joined_words lines) e (option_to_list k)
step_along known d e f owed lines k good strict apart due steps going keeps = λ r ks of s.
    let begun : BlockParser = record { version = r.version; parser = Some e; owed = owing d.in_scope owed None; kept = ks } in
    record {
      last = record begun { owed = keeps.last };
      version = refl;
      taken = (
        begun,
        record { before = d; here = s.parser; leads = form_leads known r d e ks f owed s good strict apart due steps; after = e; there = refl; going = going },
        cert_lines_taken known begun e lines keeps.last refl going (keeps.of r.version of) keeps.fed,
      );
      stands = record { parser = refl; read = k; settles = keeps.settles; kept = refl };
    }
