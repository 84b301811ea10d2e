-- The lines of a derivation's one spelling are read as the theorem with that derivation.
use Rattle.std.proofs.Common.{◌≡◌, ℕ, true, false, ◌&&◌, List, [], ◌∷◌, ◌++◌, length, map, Option, Some, None, Result, Ok, Err, refl, sym, ap, subst, ◌∙◌, arith, append_assoc}
use Rattle.std.specs.List.{list_all}
use Rattle.std.proofs.lemmas.List.{append-nil}
use Rattle.e_text.specs.Tokens.{tokens_of}
use Rattle.e_text.specs.Lines.{LineView}
use Rattle.e_text.specs.declared.line.LineEnd.{LineEnd}
use Rattle.e_text.specs.declared.line.LineEnd.TheVariants.{Lf}
use Rattle.e_text.specs.declared.line.LineFault.{LineFault}
use Rattle.e_literal.specs.declared.object.Scope.{Scope}
use Rattle.e_literal.specs.declared.literal.Lit.{Lit}
use Rattle.e_literal.specs.Use.{scope_of}
use Rattle.e_literal.proofs.GrownScopes.{sorts_next}
use Rattle.e_theorem.specs.Statements.{as_view}
use Rattle.e_deriv.specs.Script.{Script, bare_script, Cite, Hence, Make, Apply, Claim, Superposed, Qed, Contradiction, Cases}
use Rattle.e_deriv.specs.Goal.{Goal, goal_of_statement, facts_of_statement}
use Rattle.e_deriv.specs.PlacedSteps.{placed_steps}
use Rattle.e_line.specs.declared.raw_line.RawLine.TheVariants as rawlines
use Rattle.e_book.specs.declared.parser.Section.TheVariants.{Closed, Done}
use Rattle.e_book.specs.declared.parser.TheoremParser.{TheoremParser}
use Rattle.e_names.specs.TitledStatements.{TitledStatement, stated_by}
use Rattle.e_names.specs.Scope.{scope_of_names}
use Rattle.e_book.specs.Steps.{begin, with_title, parser_after_close, after_line, step}
use Rattle.e_book.specs.TheoremViews.{TheoremView}
use Rattle.e_line.specs.Limits.{count_monomials}
use Rattle.e_book.specs.Fits.{few_facts, few_terms}
use Rattle.e_book.specs.Book.{is_done}
use Rattle.e_line.specs.Canonical.{line_of}
use Rattle.e_names.specs.Canonical.{end_raw_line}
use Rattle.e_book.specs.Canonical.{names_of_proof}
use Rattle.e_book.specs.HasSpelling.{HasSpelling}
use Rattle.e_book.proofs.canonical.LineWords.{words_again}
use Rattle.e_names.proofs.resolution.Lookups.{InOrder, in_order}
use Rattle.e_names.proofs.read_lines.Building.{declared_scope}
use Rattle.e_names.proofs.distinct_names.OrderedNames.{first_in_order}
use Rattle.e_book.proofs.fit_theorems.FittingScripts.{line_fits}
use Rattle.e_book.proofs.canonical.HeadRead.{run_title}
use Rattle.e_book.proofs.canonical.LinesRead.{Inside, proving}
use Rattle.e_book.proofs.canonical.ScriptParts.{steps_of, close_of, same_script}
use Rattle.e_book.proofs.canonical.ScriptRead.{Ready}
use Rattle.e_book.proofs.canonical.CanonicalRead.{stating_forms, run_statement, started, begins}
use Rattle.e_cert.specs.declared.owed.Obligation.TheVariants as due
use Rattle.e_cert.specs.declared.kept.StepCerts.{StepCerts}
use Rattle.e_read.specs.declared.reading.BlockParser.{BlockParser}
use Rattle.e_read.specs.Filled.{script_with_certs}
use Rattle.e_cert.specs.Owed.{finish_certs}
use Rattle.e_read.specs.inner.Needs.{due_of}
use Rattle.e_read.specs.Text.{Derived}
use Rattle.e_read.proofs.TextTied.{text_read}
use Rattle.e_read.specs.inner.Machine.{parser_after_exact_line as line_stepped, parser_after_bytes, with_raw_line, owes_nothing, at_start, parser_after_words, parser_after_line, theorem_with_certs, finished_theorem, is_end, piece_from}
use Rattle.e_spell.specs.Spelling.{script_lines}
use Rattle.e_roundtrip.specs.Formed.{is_formed}
use Rattle.e_roundtrip.specs.Spelled.{ShowsEnded, CanBeSpelled}
use Rattle.e_roundtrip.specs.Laws.{SpelledIsRead}
use Rattle.e_roundtrip.proofs.Blocks.FilledBack.{kepts, filled_back, kept_against}
use Rattle.std.specs.Option.{option_map_or, option_to_list}
use Rattle.std.proofs.lemmas.Bool.{and_parts, and_from}
use Rattle.e_literal.proofs.Booleans.{all_both}
use Rattle.e_clause.specs.declared.cert.Version.{Version}
use Rattle.e_clause.specs.declared.cert.Cert.{Cert}
use Rattle.e_clause.specs.declared.cert.Against.{Against}
use Rattle.e_clause.specs.Versions.{is_cert_of, is_against_of}
use Rattle.e_deriv.specs.Versions.{has_certs_of}
use Rattle.e_cert.proofs.FormsOfCertificates.{are_certs_of_version, AreOfVersion}
use Rattle.e_roundtrip.proofs.Blocks.LinesTaken.{strict_form_again, no_bar, AllTaken, Stands, Along, along_append, form_leads}
use Rattle.e_roundtrip.proofs.Formed.PlacedScripts.{Stood}
use Rattle.e_roundtrip.proofs.Blocks.ScriptAlong.{script_spelled}
use Rattle.e_roundtrip.proofs.Heads.HeadAlong.{parser_is, head_along, statement_heads}

-- ---- the proof

-- the entry without certificates
abbrev plain_entry : TheoremView → Script → TheoremView
plain_entry t d = record t { script = bare_script d }

pub stood : (v : Version) (known : List TitledStatement) (t : TheoremView) (d : Script) → CanBeSpelled v known t d → InOrder t.names → Stood known (started t) (begins t) d (facts_of_statement (as_view t.statement)) (goal_of_statement (as_view t.statement))
stood v known t d c o =
    let h = c.plain in
    let s : Scope = scope_of (as_view t.statement) in
    let before = stated_by known in
    let facts : List Lit = facts_of_statement (as_view t.statement) in
    let goal : Goal = goal_of_statement (as_view t.statement) in
    let scope : s ≡ scope_of_names (names_of_proof t) = sym (declared_scope (as_view t.statement) t.names h.fits.scope) in
    let ready : Ready known (started t) (begins t) (bare_script d) facts goal = record {
      order = first_in_order s t.names o;
      goal_sorts = sorts_next s t.statement.made;
      plain = h.script;
      fitting = subst (λ (z : Scope). list_all (line_fits before) (placed_steps before (bare_script d) (bare_script d) z facts goal) ≡ true) scope h.fits.script;
      new_names = h.fits.new_names;
      few = omega (arith, h.fits.steps);
      shallow = omega (arith, h.fits.depth);
      good = h.fits.good_script;
      theorems = h.theorems;
      blanks = h.fits.blanks;
      facts = subst (λ (z : Scope). few_facts before (length t.statement.given) z (bare_script d) ≡ true) scope h.fits.facts;
      terms = subst (λ (z : Scope). few_terms before (count_monomials t.statement.given) z (bare_script d) ≡ true) scope h.fits.terms;
    } in
    record {
      ready = ready;
      goal_is = refl;
      formed = subst (λ (z : Scope). list_all (is_formed before) (placed_steps before d d z facts goal) ≡ true) scope c.formed;
    }

-- the parser after the last close line
abbrev shut_parser : TheoremView → Script → Inside → TheoremParser
shut_parser t d last = record (proving (started t) last) { steps = steps_of (bare_script d); blocks = []; close = close_of (bare_script d); section = Closed }

closed_last : (t : TheoremView) (d : Script) (last : Inside) → parser_after_close (proving (started t) last) [] (steps_of (bare_script d)) (close_of (bare_script d)) ≡ Ok (shut_parser t d last)
unfolding parser_after_close
closed_last t d last = refl

-- all lines between the first and the last
abbrev middle : List TitledStatement → TheoremView → Script → List (List ℕ)
middle known t d = map line_of (stating_forms t) ++ script_lines known (names_of_proof t) d

record Middle (known : List TitledStatement) (t : TheoremView) (d : Script) : Type 0 where
  last : Inside
  along : Along known (with_title t.title) (middle known t d) (shut_parser t d last) (kepts d)

middle_along : (v : Version) (known : List TitledStatement) (t : TheoremView) (d : Script) → CanBeSpelled v known t d → InOrder t.names → Middle known t d
middle_along v known t d c o =
    let proof = script_spelled known (started t) (begins t) d (facts_of_statement (as_view t.statement)) (goal_of_statement (as_view t.statement)) (stood v known t d c o) in
    let p = proving (started t) (begins t) in
    let e = shut_parser t d proof.last in
    let statement = head_along known (with_title t.title) p (stating_forms t) (run_statement known (plain_entry t d) c.plain o) (statement_heads t.names t.statement) in
    record {
      last = proof.last;
      along = along_append known (with_title t.title) p e (map line_of (stating_forms t)) (script_lines known (names_of_proof t) d) [] (kepts d) statement (proof.along e (closed_last t d proof.last) refl);
    }

-- ---- what is kept is of the version

kept_if_any : (v : Version) (c : Option Cert) → option_map_or (is_cert_of v) c true ≡ true → list_all (is_cert_of v) (option_to_list c) ≡ true
kept_if_any v None h = refl
kept_if_any v (Some c) h = and_from (is_cert_of v c) true h refl

kept_against_of : (v : Version) (a : Option Against) → option_map_or (is_against_of v) a true ≡ true → are_certs_of_version v (kept_against a) ≡ true
kept_against_of v None h = refl
kept_against_of v (Some a) h = h

kepts_of : (v : Version) (d : Script) → has_certs_of v d ≡ true → AreOfVersion v (kepts d)
unfolding has_certs_of kepts
kepts_of v (Cite by rest) h = kepts_of v rest h
kepts_of v (Hence lit cert rest) h = let p = and_parts (option_map_or (is_cert_of v) cert true) (has_certs_of v rest) h in and_from _ _ (kept_if_any v cert p.0) (kepts_of v rest p.1)
kepts_of v (Make construction names certs rest) h = let p = and_parts (list_all (is_cert_of v) certs) (has_certs_of v rest) h in and_from _ _ p.0 (kepts_of v rest p.1)
kepts_of v (Apply theorem args names certs rest) h = let p = and_parts (list_all (is_cert_of v) certs) (has_certs_of v rest) h in and_from _ _ p.0 (kepts_of v rest p.1)
kepts_of v (Claim shown inner rest) h =
    let p = and_parts (has_certs_of v inner) (has_certs_of v rest) h in all_both (are_certs_of_version v) (kepts inner) (kepts rest) (kepts_of v inner p.0) (kepts_of v rest p.1)
kepts_of v (Superposed superposition names shown certs inner rest) h =
    let p = and_parts (list_all (is_cert_of v) certs) (has_certs_of v inner && has_certs_of v rest) h in
    let q = and_parts (has_certs_of v inner) (has_certs_of v rest) p.1 in
    and_from _ _ p.0 (all_both (are_certs_of_version v) (kepts inner) (kepts rest) (kepts_of v inner q.0) (kepts_of v rest q.1))
kepts_of v (Qed objects certs) h = and_from _ _ h refl
kepts_of v (Contradiction against) h = and_from _ _ (kept_against_of v against h) refl
kepts_of v (Cases lit first second) h =
    let p = and_parts (has_certs_of v first) (has_certs_of v second) h in all_both (are_certs_of_version v) (kepts first) (kepts second) (kepts_of v first p.0) (kepts_of v second p.1)

-- ---- lines that are read

record Left (known : List TitledStatement) (number : ℕ) (r next : BlockParser) (all : List (Result LineView LineFault)) (more : List (List ℕ)) (rest : List (Result LineView LineFault)) : Type 0 where
  ahead : List (Result LineView LineFault)
  shown : ShowsEnded ahead more rest
  same : piece_from known number r all ≡ piece_from known number next ahead

taken_is : (known : List TitledStatement) (r next : BlockParser) (l : LineView) (text : List ℕ) → l.bytes ≡ text → l.end ≡ Lf → parser_after_words known r text (tokens_of text) ≡ Ok next → parser_after_line known r l ≡ Ok next
unfolding parser_after_line parser_after_bytes
taken_is known r next l text b e leads =
    let w : parser_after_words known r l.bytes (tokens_of l.bytes) ≡ Ok next = ap (λ (x : List ℕ). parser_after_words known r x (tokens_of x)) b ∙ leads in
    rw (e, w) refl

unfinished : (parser : Option TheoremParser) (d : TheoremParser) (kept : List StepCerts) → parser ≡ Some d → is_done d ≡ false → finished_theorem parser kept ≡ None
unfinished parser d kept e going = ap (λ (x : Option TheoremParser). finished_theorem x kept) e ∙ rw going refl

one_read : (known : List TitledStatement) (number : ℕ) (r next : BlockParser) (l : LineView) (after : List (Result LineView LineFault)) (text : List ℕ) → is_end known r.parser l ≡ false → l.bytes ≡ text → l.end ≡ Lf → parser_after_words known r text (tokens_of text) ≡ Ok next
    → finished_theorem next.parser next.kept ≡ None → piece_from known number r (Ok l ∷ after) ≡ piece_from known number next after
unfolding piece_from
one_read known number r next l after text here b e leads more = rw (here, taken_is known r next l text b e leads, more) refl

all_read : (known : List TitledStatement) (number : ℕ) (r next : BlockParser) (texts more : List (List ℕ)) (all rest : List (Result LineView LineFault)) → AllTaken known r texts next → ShowsEnded all (texts ++ more) rest → Left known number r next all more rest
all_read known number r next [] more all rest a sh = record { ahead = all; shown = sh; same = ap (λ (x : BlockParser). piece_from known number x all) a }
all_read known number r next (text ∷ texts) more [] rest a sh = absurd sh
all_read known number r next (text ∷ texts) more (Err f ∷ all) rest a sh = absurd sh
all_read known number r next (text ∷ texts) more (Ok l ∷ all) rest a sh =
    let one = a.1 in
    let here : is_end known r.parser l ≡ false = ap (λ (x : Option TheoremParser). is_end known x l) one.here in
    let left = all_read known number a.0 next texts more all rest a.2 sh.2 in
    record {
      ahead = left.ahead;
      shown = left.shown;
      same = one_read known number r a.0 l all text here sh.0 sh.1 one.leads (unfinished a.0.parser one.after a.0.kept one.there one.going) ∙ left.same;
    }

-- ---- the first line

abbrev titled : Version → TheoremView → BlockParser
titled v t = record { version = v; parser = Some (with_title t.title); owed = owes_nothing; kept = [] }

title_stands : (v : Version) (t : TheoremView) → Stands (titled v t) (with_title t.title) []
unfolding finish_certs
title_stands v t = record { parser = refl; read = None; settles = refl; kept = refl }

title_leads : (v : Version) (known : List TitledStatement) (t : TheoremView) (d : Script) → HasSpelling known (plain_entry t d) → parser_after_words known (at_start v) (line_of (rawlines.Theorem t.title)) (tokens_of (line_of (rawlines.Theorem t.title))) ≡ Ok (titled v t)
unfolding finish_certs with_raw_line line_stepped
title_leads v known t d h =
    let f = rawlines.Theorem t.title in
    let r = run_title known t.title h.title h.fits.new h.few_theorems in
    let begins : begin known f ≡ Ok (with_title t.title) = r.2 ∙ ap (λ (x : TheoremParser). Ok x) (parser_is r.0 (with_title t.title) r.4) in
    ap (parser_after_words known (at_start v) (line_of f)) (words_again f h.title) ∙ no_bar known (at_start v) (line_of f) f ∙ rw (strict_form_again f h.title refl, begins) refl

-- a first line of a theorem is no last line of a text
not_last : (known : List TitledStatement) (l : LineView) (title : List ℕ) → l.bytes ≡ line_of (rawlines.Theorem title) → is_end known None l ≡ false
not_last known l title b = by_end l.end
  where
    by_end : (e : LineEnd) → is_end known None (record l { end = e }) ≡ false
    by_end Lf = rw b refl
    by_end e = refl

-- ---- the last line

step_end : (known : List TitledStatement) (t : TheoremView) (d : Script) (last : Inside) → step known (shut_parser t d last) rawlines.End ≡ Ok (record (shut_parser t d last) { section = Done })
unfolding step after_line
step_end known t d last = refl

-- the certificates at their lines
script_whole : (t : TheoremView) (d : Script) (known : List TitledStatement) → HasSpelling known (plain_entry t d) → (last : Inside) → theorem_with_certs (record (shut_parser t d last) { section = Done }) (kepts d) ≡ record t { script = d }
script_whole t d known h last =
    let same = same_script (bare_script d) h.script in
    let back : script_with_certs (bare_script d) (kepts d) ≡ (d, []) = ap (script_with_certs (bare_script d)) (sym (append-nil (kepts d))) ∙ filled_back d [] in
    ap (λ (x : Script). record t { script = (script_with_certs x (kepts d)).0 }) same ∙ ap (λ (x : Script × List StepCerts). record t { script = x.0 }) back

end_leads : (known : List TitledStatement) (t : TheoremView) (d : Script) (last : Inside) (r : BlockParser) → Stands r (shut_parser t d last) (kepts d)
    → (next : BlockParser) × (parser_after_words known r (line_of rawlines.End) (tokens_of (line_of rawlines.End)) ≡ Ok next) × (next.parser ≡ Some (record (shut_parser t d last) { section = Done })) × (next.kept ≡ kepts d)
unfolding due_of
end_leads known t d last r s =
    let e = shut_parser t d last in
    let leads = form_leads known r e (record e { section = Done }) (kepts d) rawlines.End due.Nothing s tt refl refl refl (step_end known t d last) in
    (_, leads, refl, refl)

end_read : (known : List TitledStatement) (number : ℕ) (t : TheoremView) (d : Script) (last : Inside) (r : BlockParser) (all rest : List (Result LineView LineFault)) → HasSpelling known (plain_entry t d) → Stands r (shut_parser t d last) (kepts d)
    → ShowsEnded all (line_of rawlines.End ∷ []) rest → piece_from known number r all ≡ Ok (Derived (record t { script = d }), rest)
unfolding piece_from
end_read known number t d last r [] rest h s sh = absurd sh
end_read known number t d last r (Err f ∷ all) rest h s sh = absurd sh
end_read known number t d last r (Ok l ∷ all) rest h s sh =
    let e = end_leads known t d last r s in
    let here : is_end known r.parser l ≡ false = ap (λ (x : Option TheoremParser). is_end known x l) s.parser in
    let done : finished_theorem e.0.parser e.0.kept ≡ Some (record t { script = d }) =
    ap (λ (x : Option TheoremParser). finished_theorem x e.0.kept) e.2 ∙ ap (λ (ks : List StepCerts). finished_theorem (Some (record (shut_parser t d last) { section = Done })) ks) e.3 ∙ ap (λ (x : TheoremView). Some x) (script_whole t d known h last) in
    rw (here, taken_is known r e.0 l (line_of rawlines.End) sh.0 sh.1 e.1, done) (ap (λ (ls : List (Result LineView LineFault)). Ok (Derived (record t { script = d }), ls)) sh.2)

-- ---- the law

whole_read : (v : Version) (known : List TitledStatement) (number : ℕ) (t : TheoremView) (d : Script) (all rest : List (Result LineView LineFault)) → CanBeSpelled v known t d → ShowsEnded all (line_of (rawlines.Theorem t.title) ∷ (middle known t d ++ line_of rawlines.End ∷ [])) rest
    → piece_from known number (at_start v) all ≡ Ok (Derived (record t { script = d }), rest)
unfolding piece_from
whole_read v known number t d [] rest c sh = absurd sh
whole_read v known number t d (Err f ∷ all) rest c sh = absurd sh
whole_read v known number t d (Ok l ∷ all) rest c sh =
    let h = c.plain in
    let o = in_order t.names h.point_names h.line_names h.circle_names h.fits.differ in
    let m = middle_along v known t d c o in
    let reached = m.along (titled v t) [] (kepts_of v d c.version) (title_stands v t) in
    let left = all_read known number (titled v t) reached.last (middle known t d) (line_of rawlines.End ∷ []) all rest reached.taken sh.2 in
    one_read known number (at_start v) (titled v t) l all (line_of (rawlines.Theorem t.title)) (not_last known l t.title sh.0) sh.0 sh.1 (title_leads v known t d h) refl
    ∙ left.same ∙ end_read known number t d m.last reached.last left.ahead rest h reached.stands left.shown

pub spelled_is_read : SpelledIsRead
spelled_is_read v known last t d lines rest c sh =
    let a = map line_of (stating_forms t) in
    let b = script_lines known (names_of_proof t) d in
    let end = line_of end_raw_line ∷ [] in
    sym (text_read v known last lines) ∙ whole_read v known last t d lines rest c (subst (λ (x : List (List ℕ)). ShowsEnded lines (line_of (rawlines.Theorem t.title) ∷ x) rest) (sym (append_assoc a b end)) sh)
