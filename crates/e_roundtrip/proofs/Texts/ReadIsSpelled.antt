-- The lines that are read as a theorem with its derivation are those of its one spelling, and that derivation has the form.
use Rattle.std.proofs.Common.{◌≡◌, ℕ, true, false, inl, inr, List, [], ◌∷◌, ◌++◌, map, Option, Some, None, Result, Ok, Err, refl, sym, ap, subst, ◌∙◌, append_assoc}
use Rattle.std.specs.Prelude.{◌⊎◌}
use Rattle.std.specs.Option.{option_to_list}
use Rattle.std.specs.List.{list_all}
use Rattle.std.specs.Str.{bytes_eq}
use Rattle.std.proofs.lemmas.List.{append-nil}
use Rattle.std.proofs.lemmas.Slice.Eq.{bytes_eq-Decides}
use Rattle.std.proofs.lemmas.Bool.{and_parts}
use Rattle.e_text.specs.Tokens.{tokens_of}
use Rattle.e_text.specs.Lines.{LineView}
use Rattle.e_text.specs.declared.line.LineEnd.{LineEnd}
use Rattle.e_text.specs.declared.line.LineEnd.TheVariants as ends
use Rattle.e_text.specs.declared.line.LineFault.{LineFault}
use Rattle.e_literal.specs.declared.object.Scope.{Scope}
use Rattle.e_theorem.specs.Statements.{as_view}
use Rattle.e_deriv.specs.declared.names.Names.{Names}
use Rattle.e_deriv.specs.Goal.{goal_of_statement, facts_of_statement}
use Rattle.e_deriv.specs.PlacedSteps.{placed_steps}
use Rattle.e_line.specs.declared.raw_line.RawLine.{RawLine}
use Rattle.e_book.specs.declared.parser.Section.{Section}
use Rattle.e_book.specs.declared.parser.Section.TheVariants.{Done}
use Rattle.e_book.specs.declared.parser.TheoremParser.{TheoremParser}
use Rattle.e_line.specs.Reading.{◌>>=◌}
use Rattle.e_names.specs.Scope.{scope_of_names}
use Rattle.e_names.specs.TitledStatements.{TitledStatement, stated_by}
use Rattle.e_book.specs.ParserViews.{entry_of_parser}
use Rattle.e_book.specs.TheoremViews.{TheoremView}
use Rattle.e_book.specs.Book.{is_last, is_done}
use Rattle.e_book.specs.Steps.{begin, step}
use Rattle.e_line.specs.Canonical.{line_of}
use Rattle.e_names.specs.Canonical.{end_raw_line}
use Rattle.e_book.specs.Canonical.{head_raw_lines, names_of_proof}
use Rattle.e_line.proofs.base.Bound.{bind_ok, ok_is, read_ok}
use Rattle.e_names.proofs.read_lines.Building.{declared_scope}
use Rattle.e_line.proofs.base.Choices.{passed}
use Rattle.e_cert.specs.declared.owed.Obligation.{Obligation}
use Rattle.e_cert.specs.declared.owed.Obligation.TheVariants as due
use Rattle.e_cert.specs.declared.owed.Pending.{Pending}
use Rattle.e_cert.specs.declared.kept.StepCerts.{StepCerts}
use Rattle.e_read.specs.declared.reading.BlockParser.{BlockParser}
use Rattle.e_cert.specs.CertLines.{cert_line_text}
use Rattle.e_line.specs.CanonicalLines.{is_canonical_form}
use Rattle.e_read.specs.inner.Strict.{is_apart}
use Rattle.e_read.specs.inner.Needs.{due_of}
use Rattle.e_read.specs.Filled.{script_with_certs}
use Rattle.e_read.specs.Text.{Derived, Last, is_lf_end, garbled_at}
use Rattle.e_read.specs.inner.Machine.{parser_after_bytes, owes_nothing, at_start, owed_by, parser_and_owed, parser_after_words, parser_after_line, theorem_with_certs, is_finished, finished_theorem, or_on, is_end, piece_from}
use Rattle.e_clause.specs.declared.cert.Version.{Version}
use Rattle.e_read.specs.Text as text
use Rattle.e_read.proofs.TextTied.{text_read}
use Rattle.e_read.proofs.Consequences.{text_spelled}
use Rattle.e_read.proofs.ReadCertificates.{version_read}
use Rattle.e_read.proofs.TakenLines.{Certified, Stepped, line_taken, form_read, either}
use Rattle.e_read.proofs.Bridge.{Answer, derives, no_last, garbled_ok, derived_is, goes_on, unfinished, still, closed_is}
use Rattle.e_spell.specs.Spelling.{script_lines, spelled_lines}
use Rattle.e_roundtrip.specs.Formed.{is_formed}
use Rattle.e_roundtrip.specs.Spelled.{ShowsEnded, CanBeSpelled}
use Rattle.e_roundtrip.proofs.Formed.FormedLines.{FormedHere}
use Rattle.e_roundtrip.proofs.Certificates.FormsOfOwedCertificates.{DueFormed, KeptIsFormed}
use Rattle.e_roundtrip.proofs.Certificates.CertLinesFormed.{OwedFormed, strict_formed, settled_formed}
use Rattle.e_roundtrip.proofs.OneLine.RawLinesRead.{Read, form_facts}
use Rattle.e_roundtrip.proofs.Certificates.CertLinesRead.{strict_cert_line_read}
use Rattle.e_roundtrip.proofs.Certificates.OwedSpelled.{owed_text, kept_text, due_at_first, FitsDue, after_cert_line_spelled, settled_spelled}
use Rattle.e_roundtrip.proofs.Heads.HeadTaken.{InProof, ParserSaid, puts_begun}
use Rattle.e_roundtrip.proofs.Blocks.LinesWithCertificates.{Leaves, step_left, due_at_start}

-- ---- what was said so far

abbrev StateSaid : List TitledStatement → Option TheoremParser → List StepCerts → List (List ℕ) → Type 0
StateSaid known None ks ls = (ks ≡ []) × (ls ≡ [])
StateSaid known (Some d) ks ls = ParserSaid known d.section d ks ls

-- These lines were taken: those after which something was owed, and those of what is owed so far. Whatever is kept for that and has
-- its form, all together is said.
record SaidSoFar (known : List TitledStatement) (parser : Option TheoremParser) (o : Pending) (ks : List StepCerts) (done : List (List ℕ)) : Type 0 where
  before : List (List ℕ)
  all : done ≡ before ++ owed_text o
  fits : FitsDue o.due
  formed : OwedFormed o
  said : (k : Option StepCerts) → KeptIsFormed (scope_of_names o.names) (due_at_first o.due) k → StateSaid known parser (ks ++ option_to_list k) (before ++ kept_text o.names k)

-- before the first line
start_said : (known : List TitledStatement) → SaidSoFar known None owes_nothing [] []
start_said known = record { before = []; all = refl; fits = tt; formed = record { certs = tt; rows_of_sums = tt }; said = λ k a. by_kept k a } where
  by_kept : (k : Option StepCerts) → KeptIsFormed (scope_of_names owes_nothing.names) due.Nothing k → ([] ++ option_to_list k ≡ []) × ([] ++ kept_text owes_nothing.names k ≡ [])
  by_kept None a = (refl, refl)
  by_kept (Some k) a = absurd a

-- ---- a line of a certificate

same_names : (known : List TitledStatement) (parser : Option TheoremParser) (ks : List StepCerts) (before : List (List ℕ)) (o new : Pending) → new.names ≡ o.names → due_at_first new.due ≡ due_at_first o.due
    → ((k : Option StepCerts) → KeptIsFormed (scope_of_names o.names) (due_at_first o.due) k → StateSaid known parser (ks ++ option_to_list k) (before ++ kept_text o.names k))
    → (k : Option StepCerts) → KeptIsFormed (scope_of_names new.names) (due_at_first new.due) k → StateSaid known parser (ks ++ option_to_list k) (before ++ kept_text new.names k)
same_names known parser ks before o new n f said k a =
    subst (λ (ns : Names). StateSaid known parser (ks ++ option_to_list k) (before ++ kept_text ns k)) (sym n)
    (said k (subst (λ (ns : Names). KeptIsFormed (scope_of_names ns) (due_at_first o.due) k) n (subst (λ (d : Obligation). KeptIsFormed (scope_of_names new.names) d k) f a)))

certified_said : (known : List TitledStatement) (r next : BlockParser) (line : List ℕ) (words : List (List ℕ)) (done : List (List ℕ)) → SaidSoFar known r.parser r.owed r.kept done → Certified r next line words
    → SaidSoFar known next.parser next.owed next.kept (done ++ line ∷ [])
certified_said known r next line words done s c =
    let m = strict_cert_line_read line words c.cert_line c.spelled in
    let o = after_cert_line_spelled r.owed next.owed c.cert_line s.fits m.1 c.owed in
    let here : SaidSoFar known r.parser next.owed r.kept (done ++ line ∷ []) = record {
      before = s.before;
      all = ap (λ (l : List ℕ). done ++ l ∷ []) m.0 ∙ ap (λ (l : List (List ℕ)). l ++ cert_line_text c.cert_line ∷ []) s.all ∙ append_assoc s.before (owed_text r.owed) (cert_line_text c.cert_line ∷ []) ∙ ap (λ (l : List (List ℕ)). s.before ++ l) (sym o.lines);
      fits = o.fits;
      formed = strict_formed r.owed line words c.cert_line next.owed s.formed c.spelled c.owed;
      said = same_names known r.parser r.kept s.before r.owed next.owed o.names o.first s.said;
    } in
    subst (λ (d : Option TheoremParser). SaidSoFar known d next.owed next.kept (done ++ line ∷ [])) (sym c.parser)
    (subst (λ (ks : List StepCerts). SaidSoFar known r.parser next.owed ks (done ++ line ∷ [])) (sym c.kept) here)

-- ---- any other line

abbrev with_owed : TheoremParser → Pending → TheoremParser × Pending
with_owed d o = (d, o)

abbrev owed : Names → Obligation → Pending
owed ns d = record { names = ns; due = d; sums = None }

-- a line that was taken, and nothing is owed after the last line
record StepSaid (known : List TitledStatement) (d : TheoremParser) (o : Pending) (ks : List StepCerts) (done : List (List ℕ)) : Type 0 where
  so_far : SaidSoFar known (Some d) o ks done
  names : Names
  last : is_done d ≡ true → o ≡ owed names due.Nothing

-- after a line nothing of what it owes has come
step_said : (known : List TitledStatement) (d e : TheoremParser) (f : RawLine) (owes : Obligation) (ks : List StepCerts) (done : List (List ℕ)) → Leaves known d e f owes ks done → owed_text (owed d.in_scope owes) ≡ [] → FitsDue owes → DueFormed (scope_of_names d.in_scope) owes
    → StepSaid known e (owed d.in_scope owes) ks (done ++ line_of f ∷ [])
step_said known d e f owes ks done l none fits formed =
    record {
      so_far = record {
        before = done ++ line_of f ∷ [];
        all = sym (append-nil (done ++ line_of f ∷ [])) ∙ ap (λ (x : List (List ℕ)). (done ++ line_of f ∷ []) ++ x) (sym none);
        fits = fits;
        formed = record { certs = formed; rows_of_sums = tt };
        said = l.said;
      };
      names = d.in_scope;
      last = λ h. ap (λ (x : Obligation). owed d.in_scope x) (l.last h);
    }

-- the first line
first_said : (known : List TitledStatement) (e : TheoremParser) (f : RawLine) (ks : List StepCerts) (done : List (List ℕ)) → ks ≡ [] → done ≡ [] → begin known f ≡ Ok e → StepSaid known e owes_nothing ks (done ++ line_of f ∷ [])
first_said known e f ks done k n b =
    subst (λ (l : List (List ℕ)). StepSaid known e owes_nothing ks (l ++ line_of f ∷ [])) (sym n)
    (subst (λ (j : List StepCerts). StepSaid known e owes_nothing j (line_of f ∷ [])) (sym k)
    (record {
      so_far = record { before = line_of f ∷ []; all = refl; fits = tt; formed = record { certs = tt; rows_of_sums = tt }; said = λ j a. by_kept j a };
      names = owes_nothing.names;
      last = λ h. refl;
    }))
  where
    by_kept : (j : Option StepCerts) → KeptIsFormed (scope_of_names owes_nothing.names) due.Nothing j → ParserSaid known e.section e ([] ++ option_to_list j) ((line_of f ∷ []) ++ kept_text owes_nothing.names j)
    by_kept None a = puts_begun known e f b
    by_kept (Some j) a = absurd a

-- what a line owes, with the names before it
owed_is : (known : List TitledStatement) (d : TheoremParser) (f : RawLine) (o : Pending) → owed_by known d f ≡ Ok o → (new : Obligation) × (due_of known d f ≡ Ok new) × (owed d.in_scope new ≡ o)
unfolding owed_by
owed_is known d f o e =
    let n = bind_ok (due_of known d f) (λ new. read_ok (owed d.in_scope new)) o e in
    (n.0, n.1, ok_is (owed d.in_scope n.0) o n.2)

gone_said : (known : List TitledStatement) (parser : Option TheoremParser) (e : TheoremParser) (f : RawLine) (o : Pending) (ks : List StepCerts) (done : List (List ℕ)) → StateSaid known parser ks done → Read f → is_canonical_form f ≡ true → parser_and_owed known parser f ≡ Ok (e, o)
    → StepSaid known e o ks (done ++ line_of f ∷ [])
gone_said known None e f o ks done s r st g =
    let b = bind_ok (begin known f) (λ x. read_ok (with_owed x owes_nothing)) (e, o) g in
    let is = ok_is (with_owed b.0 owes_nothing) (e, o) b.2 in
    subst (λ (p : TheoremParser × Pending). StepSaid known p.0 p.1 ks (done ++ line_of f ∷ [])) is (first_said known b.0 f ks done s.0 s.1 b.1)
gone_said known (Some d) e f o ks done s r st g =
    let p = passed (is_apart d f) (owed_by known d f >>= λ w. step known d f >>= λ x. read_ok (with_owed x w)) (e, o) g in
    let w = bind_ok (owed_by known d f) (λ w. step known d f >>= λ x. read_ok (with_owed x w)) (e, o) p.1 in
    let x = bind_ok (step known d f) (λ x. read_ok (with_owed x w.0)) (e, o) w.2 in
    let n = owed_is known d f w.0 w.1 in
    let at = due_at_start known d f n.0 d.in_scope n.1 in
    subst (λ (q : TheoremParser × Pending). StepSaid known q.0 q.1 ks (done ++ line_of f ∷ [])) (ap (λ (v : Pending). with_owed x.0 v) n.2 ∙ ok_is (with_owed x.0 w.0) (e, o) x.2)
    (step_said known d x.0 f n.0 ks done (step_left known d x.0 f n.0 ks done s r st p.0 n.1 x.1) at.none at.fits at.formed)

stepped_said : (known : List TitledStatement) (r next : BlockParser) (line : List ℕ) (done : List (List ℕ)) → SaidSoFar known r.parser r.owed r.kept done → (s : Stepped known r next line) → StepSaid known s.parser s.owed (r.kept ++ option_to_list s.read) (done ++ line ∷ [])
stepped_said known r next line done so s =
    let f = form_read line s.raw_line s.spelled in
    let b = and_parts (is_canonical_form s.raw_line) (bytes_eq line (line_of s.raw_line)) f.1 in
    let is : line ≡ line_of s.raw_line = (bytes_eq-Decides line (line_of s.raw_line)).0 b.1 in
    let text = settled_spelled r.owed s.read so.fits s.settled_is in
    let state = so.said s.read (settled_formed r.owed s.read so.formed s.settled_is) in
    let all : so.before ++ kept_text r.owed.names s.read ≡ done = ap (λ (l : List (List ℕ)). so.before ++ l) (sym text) ∙ sym so.all in
    let ks = r.kept ++ option_to_list s.read in
    let here = subst (λ (l : List (List ℕ)). StateSaid known r.parser ks l) all state in
    subst (λ (l : List ℕ). StepSaid known s.parser s.owed ks (done ++ l ∷ [])) (sym is) (gone_said known r.parser s.parser s.raw_line s.owed ks done here (form_facts (tokens_of line) s.raw_line f.0) b.0 s.gone)

-- ---- the last line

at_done : (known : List TitledStatement) (p : Section) (d : TheoremParser) (ks : List StepCerts) (ls : List (List ℕ)) → is_last p ≡ true → ParserSaid known p d ks ls → InProof known Done d ks ls
at_done known Done d ks ls l h = h
at_done known p d ks ls l h = absurd cc

-- after the last line the lines are those of the theorem
all_said : (known : List TitledStatement) (d : TheoremParser) (o : Pending) (ks : List StepCerts) (done : List (List ℕ)) → StepSaid known d o ks done → is_done d ≡ true → done ≡ spelled_lines known (theorem_with_certs d ks) (theorem_with_certs d ks).script
all_said known d o ks done s l =
    let so = subst (λ (x : Pending). SaidSoFar known (Some d) x ks done) (s.last l) s.so_far in
    let i = at_done known d.section d (ks ++ []) (so.before ++ []) l (so.said None tt) in
    let t = theorem_with_certs d ks in
    let head = map line_of (head_raw_lines t) in
    let end = line_of end_raw_line ∷ [] in
    let script : script_lines known (names_of_proof t) (script_with_certs (entry_of_parser d).script ks).0 ≡ i.body.0 =
    ap (λ (x : List StepCerts). script_lines known (names_of_proof t) (script_with_certs (entry_of_parser d).script x).0) (sym (append-nil ks) ∙ sym (append-nil (ks ++ []))) ∙ i.body.1.spelled [] in
    so.all ∙ i.lines ∙ ap (λ (l : List (List ℕ)). head ++ l) i.body.2 ∙ ap (λ (l : List (List ℕ)). head ++ (l ++ end)) (sym script)

-- the derivation has the form that its lines owe, where the names of its proof are in scope
abbrev EntryFormed : List TitledStatement → TheoremView → Type 0
EntryFormed known t = FormedHere known (names_of_proof t) (goal_of_statement (as_view t.statement)) t.script

all_formed : (known : List TitledStatement) (d : TheoremParser) (o : Pending) (ks : List StepCerts) (done : List (List ℕ)) → StepSaid known d o ks done → is_done d ≡ true → EntryFormed known (theorem_with_certs d ks)
all_formed known d o ks done s l =
    let so = subst (λ (x : Pending). SaidSoFar known (Some d) x ks done) (s.last l) s.so_far in
    let i = at_done known d.section d (ks ++ []) (so.before ++ []) l (so.said None tt) in
    let t = theorem_with_certs d ks in
    subst (λ (x : List StepCerts). FormedHere known (names_of_proof t) (goal_of_statement (as_view t.statement)) (script_with_certs (entry_of_parser d).script x).0) (append-nil (ks ++ []) ∙ append-nil ks) (i.body.1.formed [])

-- ---- all lines

-- the lines that are still taken, with those before them, are the spelling, and the derivation has the form
record Rest (known : List TitledStatement) (done : List (List ℕ)) (t : TheoremView) (lines rest : List (Result LineView LineFault)) : Type 0 where
  texts : List (List ℕ)
  shows : ShowsEnded lines texts rest
  all : done ++ texts ≡ spelled_lines known t t.script
  formed : EntryFormed known t

-- a line that is taken ends with a line feed
ends_with_lf : (known : List TitledStatement) (r next : BlockParser) (l : LineView) → parser_after_line known r l ≡ Ok next → l.end ≡ ends.Lf
unfolding parser_after_line parser_after_bytes
ends_with_lf known r next l e = is_lf l.end (passed (is_lf_end l.end) (parser_after_words known r l.bytes (tokens_of l.bytes)) next e).0
  where
    is_lf : (x : LineEnd) → is_lf_end x ≡ true → x ≡ ends.Lf
    is_lf ends.Lf h = refl
    is_lf x h = absurd cc

-- one line more
one_more : (known : List TitledStatement) (done : List (List ℕ)) (t : TheoremView) (l : LineView) (lines rest : List (Result LineView LineFault)) → l.end ≡ ends.Lf → Rest known (done ++ l.bytes ∷ []) t lines rest → Rest known done t (Ok l ∷ lines) rest
one_more known done t l lines rest end r =
    record { texts = l.bytes ∷ r.texts; shows = (refl, end, r.shows); all = sym (append_assoc done (l.bytes ∷ []) r.texts) ∙ r.all; formed = r.formed }

-- how reading goes on after a line
abbrev After : List TitledStatement → ℕ → BlockParser → List (Result LineView LineFault) → List (Result LineView LineFault) → TheoremView → Type 0
After known last next lines rest t =
    ((x : TheoremView) × (finished_theorem next.parser next.kept ≡ Some x) × (derives x lines ≡ derives t rest)) ⊎ ((finished_theorem next.parser next.kept ≡ None) × (piece_from known last next lines ≡ derives t rest))

-- after a line of a certificate
certificate_rest : (known : List TitledStatement) (last : ℕ) (r next : BlockParser) (lines rest : List (Result LineView LineFault)) (t : TheoremView) (done : List (List ℕ)) → is_finished r.parser ≡ false → next.parser ≡ r.parser → After known last next lines rest t
    → (is_finished next.parser ≡ false → piece_from known last next lines ≡ derives t rest → Rest known done t lines rest) → Rest known done t lines rest
certificate_rest known last r next lines rest t done unended same goes more =
    let unended_still : is_finished next.parser ≡ false = ap is_finished same ∙ unended in
    elim goes [
      | inl q ↦ absurd (unfinished next.parser next.kept q.0 unended_still q.1)
      | inr q ↦ more unended_still q.1
    ]

-- after any other line
step_rest : (known : List TitledStatement) (last : ℕ) (next : BlockParser) (d : TheoremParser) (o : Pending) (lines rest : List (Result LineView LineFault)) (t : TheoremView) (done : List (List ℕ)) → next.parser ≡ Some d → StepSaid known d o next.kept done → After known last next lines rest t
    → (is_finished next.parser ≡ false → piece_from known last next lines ≡ derives t rest → Rest known done t lines rest) → Rest known done t lines rest
step_rest known last next d o lines rest t done parser_is s goes more =
    elim goes [
      | inl q ↦
          let c = closed_is d next.kept q.0 (sym (ap (λ (x : Option TheoremParser). finished_theorem x next.kept) parser_is) ∙ q.1) in
          let p = derived_is q.0 t lines rest q.2 in
          let is : theorem_with_certs d next.kept ≡ t = c.1 ∙ p.0 in
          record { texts = []; shows = p.1; all = append-nil done ∙ all_said known d o next.kept done s c.0 ∙ ap (λ (x : TheoremView). spelled_lines known x x.script) is; formed = subst (EntryFormed known) is (all_formed known d o next.kept done s c.0) }
      | inr q ↦ more (still next.parser next.kept q.0) q.1
    ]

whole : (known : List TitledStatement) (last : ℕ) (r : BlockParser) (lines rest : List (Result LineView LineFault)) (t : TheoremView) (done : List (List ℕ)) → SaidSoFar known r.parser r.owed r.kept done → is_finished r.parser ≡ false
    → piece_from known last r lines ≡ derives t rest → Rest known done t lines rest
unfolding piece_from
whole known last r [] rest t done s unended e = absurd cc
whole known last r (Err f ∷ lines) rest t done s unended e = absurd cc
whole known last r (Ok l ∷ lines) rest t done s unended e =
    let next : Result BlockParser ℕ = garbled_at l.number (parser_after_line known r l) in
    let then : BlockParser → Result Answer ℕ = λ x. or_on (finished_theorem x.parser x.kept) lines (piece_from known last x lines) in
    elim (either (is_end known r.parser l) (Ok (Last, lines)) (next >>= then) (derives t rest) e) [
      | inl p ↦ absurd (no_last lines rest t p.1)
      | inr p ↦
          let x = bind_ok next then (Derived t, rest) p.1 in
          let took = garbled_ok l.number (parser_after_line known r l) x.0 x.1 in
          let goes = goes_on (finished_theorem x.0.parser x.0.kept) lines rest (piece_from known last x.0 lines) t x.2 in
          let now = done ++ l.bytes ∷ [] in
          one_more known done t l lines rest (ends_with_lf known r x.0 l took)
          (elim (line_taken known r x.0 l took) [
            | inl c ↦
                let so = certified_said known r x.0 l.bytes c.0 done s c.2 in
                certificate_rest known last r x.0 lines rest t now unended c.2.parser goes (λ n h. whole known last x.0 lines rest t now so n h)
            | inr c ↦
                let st = stepped_said known r x.0 l.bytes done s c.1 in
                let kept_is : r.kept ++ option_to_list c.1.read ≡ x.0.kept = sym (ap (λ (y : BlockParser). y.kept) c.1.next_is) in
                let owed_is : c.1.owed ≡ x.0.owed = sym (ap (λ (y : BlockParser). y.owed) c.1.next_is) in
                let parser_is : x.0.parser ≡ Some c.1.parser = ap (λ (y : BlockParser). y.parser) c.1.next_is in
                let here = subst (λ (ks : List StepCerts). StepSaid known c.1.parser c.1.owed ks now) kept_is st in
                let so = subst (λ (y : Option TheoremParser). SaidSoFar known y x.0.owed x.0.kept now) (sym parser_is) (subst (λ (y : Pending). SaidSoFar known (Some c.1.parser) y x.0.kept now) owed_is here.so_far) in
                step_rest known last x.0 c.1.parser c.1.owed lines rest t now parser_is here goes (λ n h. whole known last x.0 lines rest t now so n h)
          ])
    ]

spelled_by_parser : (v : Version) (known : List TitledStatement) (last : ℕ) (t : TheoremView) (lines rest : List (Result LineView LineFault)) → piece_from known last (at_start v) lines ≡ derives t rest → ShowsEnded lines (spelled_lines known t t.script) rest
spelled_by_parser v known last t lines rest e =
    let r = whole known last (at_start v) lines rest t [] (start_said known) refl e in
    subst (λ (texts : List (List ℕ)). ShowsEnded lines texts rest) r.all r.shows

-- what is read can be spelled, by its form
formed_by_parser : (v : Version) (known : List TitledStatement) (last : ℕ) (t : TheoremView) (lines rest : List (Result LineView LineFault)) → piece_from known last (at_start v) lines ≡ derives t rest → CanBeSpelled v known t t.script
formed_by_parser v known last t lines rest e =
    let r = whole known last (at_start v) lines rest t [] (start_said known) refl e in
    let plain = text_spelled v known last lines rest t e in
    let st = as_view t.statement in
    let before = stated_by known in
    let facts = facts_of_statement st in
    record {
      plain = plain;
      formed = subst (λ (s : Scope). list_all (is_formed before) (placed_steps before t.script t.script s facts (goal_of_statement st)) ≡ true) (declared_scope st t.names plain.fits.scope) (r.formed facts);
      version = version_read v known last lines rest t e;
    }

pub read_is_spelled_so : (v : Version) (known : List TitledStatement) (last : ℕ) (t : TheoremView) (lines rest : List (Result LineView LineFault)) → text.piece_from known last (text.at_start v) lines ≡ derives t rest → ShowsEnded lines (spelled_lines known t t.script) rest
read_is_spelled_so v known last t lines rest e = spelled_by_parser v known last t lines rest (text_read v known last lines ∙ e)

pub read_is_formed_so : (v : Version) (known : List TitledStatement) (last : ℕ) (t : TheoremView) (lines rest : List (Result LineView LineFault)) → text.piece_from known last (text.at_start v) lines ≡ derives t rest → CanBeSpelled v known t t.script
read_is_formed_so v known last t lines rest e = formed_by_parser v known last t lines rest (text_read v known last lines ∙ e)
