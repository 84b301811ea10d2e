-- A text is read by the parser's state as by the grammar.
use Rattle.std.proofs.Common.{◌≡◌, ℕ, Bool, true, false, cond, List, [], ◌∷◌, ◌++◌, length, Option, Some, None, Result, Ok, Err, refl, sym, ap, subst, ◌∙◌}
use Rattle.std.specs.Prelude.{◌&&◌}
use Rattle.std.specs.Option.{option_to_list}
use Rattle.std.specs.Prelude.{option_and_then}
use Rattle.e_deriv.specs.declared.names.Names.{Names}
use Rattle.e_line.specs.declared.fault.FaultKind.{FaultKind}
use Rattle.e_line.specs.declared.fault.FaultKind.TheVariants.{Malformed}
use Rattle.e_line.specs.declared.raw_line.RawLine.{RawLine}
use Rattle.e_line.specs.Reading.{◌>>=◌}
use Rattle.e_names.specs.TitledStatements.{TitledStatement}
use Rattle.e_book.specs.declared.parser.TheoremParser.{TheoremParser}
use Rattle.e_book.specs.Steps.{begin, step, no_names}
use Rattle.e_book.specs.Open.{Open}
use Rattle.e_book.specs.Counts.{context_at}
use Rattle.e_book.specs.Grammar.{begins, line_after}
use Rattle.e_book.proofs.grammar.ParserState.{open_of, Tied, Alike}
use Rattle.e_book.proofs.grammar.GrammarRead.{HasItems, items_read, begin_alike, step_alike}
use Rattle.e_cert.specs.declared.cert_line.CertLine.{CertLine}
use Rattle.e_cert.specs.declared.owed.Pending.{Pending}
use Rattle.e_cert.specs.declared.kept.StepCerts.{StepCerts}
use Rattle.e_cert.specs.CertLines.{cert_line_is_of}
use Rattle.e_cert.specs.Owed.{after_cert_line, finish_certs}
use Rattle.e_cert.specs.Certificates.{Lack, More, Wrong, Due, Nothing, Certificates, OfContradiction, below}
use Rattle.e_cert.proofs.Fronts.{fed, fed_last, Agrees, IsFault, below_fed}
use Rattle.e_read.specs.declared.reading.BlockParser.{BlockParser}
use Rattle.e_text.specs.Lines.{LineView}
use Rattle.e_text.specs.Tokens.{tokens_of}
use Rattle.e_line.specs.CanonicalLines.{canonical_line}
use Rattle.e_cert.specs.CanonicalCertLines.{canonical_cert_line}
use Rattle.e_book.specs.TheoremViews.{TheoremView}
use Rattle.e_book.specs.Grammar.{Rest, theorem_ended}
use Rattle.e_book.specs.ParserViews.{entry_of_parser}
use Rattle.e_book.specs.Book.{is_done}
use Rattle.e_read.specs.Text.{TextPiece, is_bar, is_lf_end, garbled_at, last_line_of, Block, is_front, or_lacks, owing_after}
use Rattle.e_read.specs.inner.Machine.{owes_nothing, with_cert_line, owed_by, parser_and_owed, with_raw_line, parser_after_certificate, parser_after_exact_line, parser_after_words, parser_after_bytes, parser_after_line, theorem_with_certs, finished_theorem, or_on, is_end, piece_from, at_start}
use Rattle.std.specs.Str.{bytes_eq}
use Rattle.e_clause.specs.declared.cert.Version.{Version}
use Rattle.e_read.specs.inner.Strict as strict
use Rattle.e_read.specs.Owing.{due_after, is_apart}
use Rattle.e_read.specs.Text as grammar
use Rattle.e_read.proofs.DueTied.{pending_for, SameNames, OwedAlike, owed_alike, apart_alike, ended_alike}
use Rattle.e_read.proofs.TakenLines.{form_read}

below_same : (d : Due) (n ns : Names) (ms : List CertLine) → SameNames d n ns → below n d ms ≡ below ns d ms
below_same Nothing n ns ms e = refl
below_same (Certificates wanted) n ns ms e = ap (λ (x : Names). below x (Certificates wanted) ms) e
below_same OfContradiction n ns ms e = ap (λ (x : Names). below x OfContradiction ms) e

abbrev parsed : TheoremParser → Pending → Result (TheoremParser × Pending) FaultKind
parsed e o = Ok (e, o)

abbrev owed_so : Names → Due → Result (Names × Due) FaultKind
owed_so ns d = Ok (ns, d)

abbrev gone_so : Names × Due → Open → Result (Open × Names × Due) FaultKind
gone_so owed o = Ok (o, owed.0, owed.1)

abbrev at_end : BlockParser → Option StepCerts → Result BlockParser FaultKind
at_end r k = Ok (record { version = r.version; parser = r.parser; owed = owes_nothing; kept = r.kept ++ option_to_list k })

abbrev answered : {A : Type 0} → A → Result A FaultKind
answered x = Ok x

pending_is : (x y : Pending) → answered x ≡ answered y → x ≡ y
pending_is x y e = cc

opt : (x y : Option StepCerts) → answered x ≡ answered y → x ≡ y
opt x y e = cc

no_bool : true ≡ false → ⊥
no_bool e = absurd cc

module _ (known : List TitledStatement) where
  abbrev Said : Option TheoremParser → Option Open → Type 0
  Said None None = Unit {0}
  Said (Some d) (Some o) = (open_of d ≡ o) × Tied known d
  Said None (Some o) = ⊥
  Said (Some d) None = ⊥

  record TiedBlock (r : BlockParser) (b : Block) : Type 0 where
    names : Names
    version : r.version ≡ b.version
    said : Said r.parser b.said
    same_names : SameNames b.due names b.names
    owed : fed (pending_for names b.due) b.lines ≡ Ok r.owed
    kept : r.kept ≡ b.kept

  abbrev Both : Result BlockParser FaultKind → Result Block FaultKind → Type 0
  Both (Ok r) (Ok b) = TiedBlock r b
  Both (Ok r) (Err k) = ⊥
  Both (Err j) (Ok b) = ⊥
  Both (Err j) (Err k) = Unit {0}

  -- ---- a line of a certificate

  abbrev more_lines : Block → CertLine → Block
  more_lines b m = record b { lines = b.lines ++ m ∷ [] }

  cert_by : (r : BlockParser) (b : Block) (m : CertLine) (t : TiedBlock r b) (c : Bool) (x : Result Pending FaultKind) (q : Result (Option StepCerts) Lack) → fed (pending_for t.names b.due) (b.lines ++ m ∷ []) ≡ x → Agrees x q
      → Both (cond c (x >>= λ o. Ok (record r { owed = o })) (Err Malformed)) (cond (c && is_front q) (Ok (more_lines b m)) (Err Malformed))
  cert_by r b m t false x q e a = tt
  cert_by r b m t true (Ok p) (Ok k) e a = record { names = t.names; version = t.version; said = t.said; same_names = t.same_names; owed = e; kept = t.kept }
  cert_by r b m t true (Ok p) (Err More) e a = record { names = t.names; version = t.version; said = t.said; same_names = t.same_names; owed = e; kept = t.kept }
  cert_by r b m t true (Ok p) (Err Wrong) e a = absurd a
  cert_by r b m t true (Err j) (Ok k) e a = absurd cc
  cert_by r b m t true (Err j) (Err More) e a = absurd cc
  cert_by r b m t true (Err j) (Err Wrong) e a = tt

  cert_tied : (r : BlockParser) (b : Block) (m : CertLine) → TiedBlock r b → Both (cond (cert_line_is_of r.version m) (with_cert_line r m) (Err Malformed)) (grammar.with_cert_line b m)
  unfolding with_cert_line
  cert_tied r b m t =
      let e : fed (pending_for t.names b.due) (b.lines ++ m ∷ []) ≡ after_cert_line r.owed m = fed_last (pending_for t.names b.due) b.lines m ∙ ap (λ (x : Result Pending FaultKind). x >>= λ p. after_cert_line p m) t.owed in
      let q : below t.names b.due (b.lines ++ m ∷ []) ≡ below b.names b.due (b.lines ++ m ∷ []) = below_same b.due t.names b.names (b.lines ++ m ∷ []) t.same_names in
      let a = subst (λ (x : Result Pending FaultKind). Agrees x (below b.names b.due (b.lines ++ m ∷ []))) e (subst (λ (x : Result (Option StepCerts) Lack). Agrees (fed (pending_for t.names b.due) (b.lines ++ m ∷ [])) x) q (below_fed t.names b.due (b.lines ++ m ∷ []))) in
      subst (λ (v : _). Both (cond (cert_line_is_of v m) (after_cert_line r.owed m >>= λ o. Ok (record r { owed = o })) (Err Malformed)) (grammar.with_cert_line b m)) (sym t.version)
      (cert_by r b m t (cert_line_is_of b.version m) (after_cert_line r.owed m) (below b.names b.due (b.lines ++ m ∷ [])) e a)

  -- ---- any other line

  abbrev GoneAlike : Result (TheoremParser × Pending) FaultKind → Result (Open × Names × Due) FaultKind → Type 0
  GoneAlike (Ok e) (Ok o) = (open_of e.0 ≡ o.0) × Tied known e.0 × ((n : Names) × (e.1 ≡ pending_for n o.2) × SameNames o.2 n o.1)
  GoneAlike (Ok e) (Err k) = ⊥
  GoneAlike (Err j) (Ok o) = ⊥
  GoneAlike (Err j) (Err k) = Unit {0}

  some_by : (a c : Bool) (ow : Result Pending FaultKind) (du : Result Due FaultKind) (ns : Names) (x : Result TheoremParser FaultKind) (y : Result Open FaultKind) → ((e : TheoremParser) → x ≡ Ok e → a ≡ c) → ((e : TheoremParser) → x ≡ Ok e → OwedAlike ow du ns) → Alike known x y
      → GoneAlike (cond a (ow >>= λ o. x >>= λ e. parsed e o) (Err Malformed)) (cond c (du >>= λ d. owed_so ns d) (Err Malformed) >>= λ owed. y >>= λ o. gone_so owed o)
  some_by true true (Ok ow) (Ok du) ns (Ok e) (Ok o) h k al = (al.0, al.1, k e refl)
  some_by true true (Ok ow) (Err j) ns (Ok e) (Ok o) h k al = absurd (k e refl)
  some_by true true (Err i) (Ok du) ns (Ok e) (Ok o) h k al = absurd (k e refl)
  some_by true true (Err i) (Err j) ns (Ok e) (Ok o) h k al = tt
  some_by false false ow du ns (Ok e) (Ok o) h k al = tt
  some_by true false ow du ns (Ok e) (Ok o) h k al = absurd (no_bool (h e refl))
  some_by false true ow du ns (Ok e) (Ok o) h k al = absurd (no_bool (sym (h e refl)))
  some_by a c ow du ns (Ok e) (Err j) h k al = absurd al
  some_by a c ow du ns (Err j) (Ok o) h k al = absurd al
  some_by true true (Ok ow) (Ok du) ns (Err i) (Err j) h k al = tt
  some_by true true (Ok ow) (Err l) ns (Err i) (Err j) h k al = tt
  some_by true true (Err m) (Ok du) ns (Err i) (Err j) h k al = tt
  some_by true true (Err m) (Err l) ns (Err i) (Err j) h k al = tt
  some_by true false (Ok ow) du ns (Err i) (Err j) h k al = tt
  some_by true false (Err m) du ns (Err i) (Err j) h k al = tt
  some_by false true ow (Ok du) ns (Err i) (Err j) h k al = tt
  some_by false true ow (Err l) ns (Err i) (Err j) h k al = tt
  some_by false false ow du ns (Err i) (Err j) h k al = tt

  none_by : (x : Result TheoremParser FaultKind) (y : Result Open FaultKind) → Alike known x y → GoneAlike (x >>= λ e. parsed e owes_nothing) (y >>= λ o. gone_so (no_names, Nothing) o)
  none_by (Ok e) (Ok o) al = (al.0, al.1, (no_names, refl, tt))
  none_by (Ok e) (Err k) al = absurd al
  none_by (Err j) (Ok o) al = absurd al
  none_by (Err j) (Err k) al = tt

  abbrev SameEnd : Result (Option StepCerts) FaultKind → Result (Option StepCerts) Lack → Type 0
  SameEnd x (Ok k) = x ≡ Ok k
  SameEnd x (Err l) = IsFault x

  same_end : (p : Pending) (q : Result (Option StepCerts) Lack) → Agrees (Ok p) q → SameEnd (finish_certs p) q
  same_end p (Ok k) a = ap finish_certs (pending_is p a.0 a.1) ∙ a.2
  same_end p (Err More) a = subst (λ (x : Pending). IsFault (finish_certs x)) (sym (pending_is p a.0 a.1)) a.2
  same_end p (Err Wrong) a = absurd a

  abbrev next_parser : BlockParser → Option StepCerts → TheoremParser × Pending → BlockParser
  next_parser r k e = record { version = r.version; parser = Some e.0; owed = e.1; kept = r.kept ++ option_to_list k }

  abbrev next_block : Block → Option StepCerts → Names × Due → Open → Block
  next_block b k owed o = record { version = b.version; said = Some o; names = owed.0; due = owed.1; lines = []; kept = b.kept ++ option_to_list k }

  kept_so : (k j : Option StepCerts) (x y : List StepCerts) → k ≡ j → x ≡ y → x ++ option_to_list k ≡ y ++ option_to_list j
  kept_so k j x y e h = ap (λ (z : List StepCerts). z ++ option_to_list k) h ∙ ap (λ (z : Option StepCerts). y ++ option_to_list z) e

  raw_by : (r : BlockParser) (b : Block) → TiedBlock r b → (x : Result (Option StepCerts) FaultKind) (q : Result (Option StepCerts) Lack) (g : Result (TheoremParser × Pending) FaultKind) (h : Result (Names × Due) FaultKind) (y : Result Open FaultKind)
      → SameEnd x q → GoneAlike g (h >>= λ owed. y >>= λ o. gone_so owed o) → Both (x >>= λ k. g >>= λ e. Ok (next_parser r k e)) (or_lacks q >>= λ k. h >>= λ owed. y >>= λ o. Ok (next_block b k owed o))
  raw_by r b t (Ok k) (Ok j) (Ok e) (Ok owed) (Ok o) s g = record { names = g.2.0; version = t.version; said = (g.0, g.1); same_names = g.2.2; owed = ap (λ (z : Pending). Ok z) (sym g.2.1); kept = kept_so k j r.kept b.kept (opt k j s) t.kept }
  raw_by r b t (Ok k) (Ok j) (Ok e) (Ok owed) (Err i) s g = absurd g
  raw_by r b t (Ok k) (Ok j) (Ok e) (Err i) y s g = absurd g
  raw_by r b t (Ok k) (Ok j) (Err i) (Ok owed) (Ok o) s g = absurd g
  raw_by r b t (Ok k) (Ok j) (Err i) (Ok owed) (Err l) s g = tt
  raw_by r b t (Ok k) (Ok j) (Err i) (Err l) y s g = tt
  raw_by r b t (Err i) (Ok j) g h y s e = absurd cc
  raw_by r b t (Ok k) (Err l) g h y s e = absurd s
  raw_by r b t (Err i) (Err l) g h y s e = tt

  both_bind : {A : Type 0} (q : Result A FaultKind) (f : A → Result BlockParser FaultKind) (g : A → Result Block FaultKind) → ((x : A) → q ≡ Ok x → Both (f x) (g x)) → Both (q >>= f) (q >>= g)
  both_bind (Ok x) f g h = h x refl
  both_bind (Err e) f g h = tt

  both_if : (c : Bool) (x y : Result BlockParser FaultKind) (z w : Result Block FaultKind) → Both x z → Both y w → Both (cond c x y) (cond c z w)
  both_if true x y z w h k = h
  both_if false x y z w h k = k

  both_same : (x y : Result BlockParser FaultKind) (z : Result Block FaultKind) → x ≡ y → Both y z → Both x z
  both_same x y z e h = subst (λ (v : Result BlockParser FaultKind). Both v z) (sym e) h

  good : (line : List ℕ) (f : RawLine) → canonical_line line ≡ Ok f → HasItems f
  good line f e = items_read (tokens_of line) f (form_read line f e).0

  gone : (s : Option TheoremParser) (o : Option Open) (f : RawLine) → Said s o → HasItems f → GoneAlike (parser_and_owed known s f) (owing_after known o f >>= λ owed. line_after known o f >>= λ o. gone_so owed o)
  gone None None f h g = none_by (begin known f) (begins known f) (begin_alike known f)
  gone (Some d) (Some o) f h g =
      subst (λ (x : Open). GoneAlike (parser_and_owed known (Some d) f) (owing_after known (Some x) f >>= λ owed. line_after known (Some x) f >>= λ o. gone_so owed o)) h.0
      (some_by (strict.is_apart d f) (is_apart (open_of d) f) (owed_by known d f) (due_after known (open_of d) f) (context_at known (open_of d)).names (step known d f) (line_after known (Some (open_of d)) f)
      (λ e is. apart_alike known d f e is) (λ e is. owed_alike known d f e h.1 is) (step_alike known d f h.1 g))
  gone None (Some o) f h g = absurd h
  gone (Some d) None f h g = absurd h

  finished_line : (r : BlockParser) (f : RawLine) → with_raw_line known r f ≡ (finish_certs r.owed >>= λ k. parser_and_owed known r.parser f >>= λ e. Ok (next_parser r k e))
  unfolding with_raw_line
  finished_line r f = by (finish_certs r.owed)
    where
      by : (x : Result (Option StepCerts) FaultKind) → ((x >>= λ k. at_end r k) >>= λ s. parser_and_owed known s.parser f >>= λ e. Ok (record { version = s.version; parser = Some e.0; owed = e.1; kept = s.kept })) ≡ (x >>= λ k. parser_and_owed known r.parser f >>= λ e. Ok (next_parser r k e))
      by (Ok k) = refl
      by (Err e) = refl

  raw_tied : (r : BlockParser) (b : Block) (f : RawLine) → TiedBlock r b → HasItems f → Both (with_raw_line known r f) (grammar.with_raw_line known b f)
  raw_tied r b f t g =
      let a = subst (λ (x : Result (Option StepCerts) Lack). Agrees (Ok r.owed) x) (below_same b.due t.names b.names b.lines t.same_names) (subst (λ (x : Result Pending FaultKind). Agrees x (below t.names b.due b.lines)) t.owed (below_fed t.names b.due b.lines)) in
      both_same (with_raw_line known r f) (finish_certs r.owed >>= λ k. parser_and_owed known r.parser f >>= λ e. Ok (next_parser r k e)) (grammar.with_raw_line known b f) (finished_line r f)
      (raw_by r b t (finish_certs r.owed) (below b.names b.due b.lines) (parser_and_owed known r.parser f) (owing_after known b.said f) (line_after known b.said f) (same_end r.owed (below b.names b.due b.lines) a) (gone r.parser b.said f t.said g))

  words_tied : (r : BlockParser) (b : Block) (line : List ℕ) (words : List (List ℕ)) → TiedBlock r b → Both (parser_after_words known r line words) (grammar.with_words known b line words)
  unfolding parser_after_words parser_after_certificate parser_after_exact_line
  words_tied r b line [] t = tt
  words_tied r b line (w ∷ ws) t = both_if (is_bar w) (parser_after_certificate r line ws) (parser_after_exact_line known r line) _ _
      (both_bind (canonical_cert_line line ws) _ _ (λ m e. cert_tied r b m t)) (both_bind (canonical_line line) _ _ (λ f e. raw_tied r b f t (good line f e)))

  line_tied : (r : BlockParser) (b : Block) (l : LineView) → TiedBlock r b → Both (parser_after_line known r l) (grammar.with_line known b l)
  unfolding parser_after_line parser_after_bytes
  line_tied r b l t = both_if (is_lf_end l.end) (parser_after_words known r l.bytes (tokens_of l.bytes)) (Err Malformed) _ _ (words_tied r b l.bytes (tokens_of l.bytes) t) tt

  abbrev Answer : Type 0
  Answer = Result (TextPiece × Rest) ℕ

  end_same : (s : Option TheoremParser) (o : Option Open) (l : LineView) → Said s o → is_end known s l ≡ grammar.is_end known o l
  end_same None None l h = by (is_lf_end l.end)
    where
      by : (c : Bool) → cond c (bytes_eq l.bytes (last_line_of (length known))) false ≡ (c && bytes_eq l.bytes (last_line_of (length known)))
      by true = refl
      by false = refl
  end_same (Some d) (Some o) l h = refl
  end_same None (Some o) l h = absurd h
  end_same (Some d) None l h = absurd h

  done_if : (d : TheoremParser) (c : Bool) (k : List StepCerts) (lines : Rest) (x : Answer) → or_on (cond c (Some (theorem_with_certs d k)) None) lines x ≡ grammar.or_on (cond c (Some (entry_of_parser d)) None) k lines x
  done_if d true k lines x = refl
  done_if d false k lines x = refl

  done_by : (s : Option TheoremParser) (o : Option Open) (k j : List StepCerts) (lines : Rest) (x y : Answer) → Said s o → k ≡ j → x ≡ y → or_on (finished_theorem s k) lines x ≡ grammar.or_on (option_and_then theorem_ended o) j lines y
  done_by None None k j lines x y h e is = is
  done_by (Some d) (Some o) k j lines x y h e is =
      done_if d (is_done d) k lines x ∙ ap (λ (t : Option TheoremView). grammar.or_on t k lines x) (sym (ended_alike d) ∙ ap theorem_ended h.0)
      ∙ ap (λ (z : List StepCerts). grammar.or_on (theorem_ended o) z lines x) e ∙ ap (λ (z : Answer). grammar.or_on (theorem_ended o) j lines z) is
  done_by None (Some o) k j lines x y h e is = absurd h
  done_by (Some d) None k j lines x y h e is = absurd h

  after_by : (n last : ℕ) (lines : Rest) (x : Result BlockParser FaultKind) (y : Result Block FaultKind) → Both x y → ((r : BlockParser) (b : Block) → TiedBlock r b → piece_from known last r lines ≡ grammar.piece_from known last b lines)
      → (garbled_at n x >>= λ m. or_on (finished_theorem m.parser m.kept) lines (piece_from known last m lines)) ≡ (garbled_at n y >>= λ m. grammar.or_on (option_and_then theorem_ended m.said) m.kept lines (grammar.piece_from known last m lines))
  after_by n last lines (Ok r) (Ok b) t h = done_by r.parser b.said r.kept b.kept lines (piece_from known last r lines) (grammar.piece_from known last b lines) t.said t.kept (h r b t)
  after_by n last lines (Ok r) (Err k) t h = absurd t
  after_by n last lines (Err j) (Ok b) t h = absurd t
  after_by n last lines (Err j) (Err k) t h = refl

  in_case : (c d : Bool) (x y z : Answer) → c ≡ d → y ≡ z → cond c x y ≡ cond d x z
  in_case true true x y z e h = refl
  in_case false false x y z e h = h
  in_case true false x y z e h = absurd (no_bool e)
  in_case false true x y z e h = absurd (no_bool (sym e))

  text_from : (last : ℕ) (lines : Rest) (r : BlockParser) (b : Block) → TiedBlock r b → piece_from known last r lines ≡ grammar.piece_from known last b lines
  unfolding piece_from grammar.piece_from
  text_from last [] r b t = refl
  text_from last (Err f ∷ lines) r b t = refl
  text_from last (Ok l ∷ lines) r b t = in_case (is_end known r.parser l) (grammar.is_end known b.said l) _ _ _ (end_same r.parser b.said l t.said)
      (after_by l.number last lines (parser_after_line known r l) (grammar.with_line known b l) (line_tied r b l t) (text_from last lines))

pub text_read : (v : Version) (known : List TitledStatement) (last : ℕ) (lines : Rest) → piece_from known last (at_start v) lines ≡ grammar.piece_from known last (grammar.at_start v) lines
text_read v known last lines = text_from known last lines (at_start v) (grammar.at_start v) (record { names = no_names; version = refl; said = tt; same_names = tt; owed = refl; kept = refl })
