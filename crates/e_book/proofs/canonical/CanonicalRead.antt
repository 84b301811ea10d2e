-- A theorem is read from its canonical lines.
use Rattle.std.proofs.Common.{◌≡◌, ℕ, true, cond, List, [], ◌∷◌, ◌++◌, length, map, Option, Some, None, Result, Ok, Err, refl, sym, ap, subst, ◌∙◌, arith, append_assoc}
use Rattle.std.specs.List.{list_all}
use Rattle.std.proofs.lemmas.Bool.{and_parts}
use Rattle.e_text.specs.Tokens.{tokens_of}
use Rattle.e_text.specs.Lines.{LineView}
use Rattle.e_text.specs.declared.line.LineFault.{LineFault}
use Rattle.e_literal.specs.declared.object.Scope.{Scope}
use Rattle.e_literal.specs.declared.literal.Lit.{Lit}
use Rattle.e_literal.specs.Literal.{all_in_scope}
use Rattle.e_literal.specs.Scopes.{nothing, with_sorts}
use Rattle.e_literal.specs.Use.{scope_of}
use Rattle.e_literal.proofs.GrownScopes.{sorts_next}
use Rattle.e_theorem.specs.Statements.{as_view}
use Rattle.e_deriv.specs.declared.names.Names.{Names}
use Rattle.e_deriv.specs.Naming.{first_names}
use Rattle.e_deriv.specs.Script.{Script}
use Rattle.e_deriv.specs.Goal.{Goal, goal_of_statement, facts_of_statement}
use Rattle.e_deriv.specs.PlacedSteps.{placed_steps}
use Rattle.e_line.specs.declared.fault.BookFault.{BookFault}
use Rattle.e_line.specs.declared.raw_line.RawLine.{RawLine}
use Rattle.e_line.specs.declared.raw_line.RawLine.TheVariants as rawlines
use Rattle.e_book.specs.declared.parser.Section.TheVariants.{Closed, Done}
use Rattle.e_book.specs.declared.parser.TheoremParser.{TheoremParser}
use Rattle.e_names.specs.TitledStatements.{TitledStatement, stated_by}
use Rattle.e_names.specs.Scope.{scope_of_names}
use Rattle.e_book.specs.Steps.{parser_after_close, after_line, step, with_title}
use Rattle.e_book.specs.ParserViews.{entry_of_parser}
use Rattle.e_book.specs.TheoremViews.{TheoremView}
use Rattle.e_book.specs.Fits.{few_facts, few_terms}
use Rattle.e_book.specs.Book.{line_step, is_done, read_from}
use Rattle.e_line.specs.Limits.{count_monomials}
use Rattle.e_line.specs.Canonical.{raw_line_words, line_of}
use Rattle.e_names.specs.Canonical.{given_raw_line, show_raw_line}
use Rattle.e_book.specs.Canonical.{declare_raw_line, made_raw_line, sort_groups, declared_objects, made_objects, given_raw_lines, shown_raw_lines, head_raw_lines, script_raw_lines, names_of_proof, raw_lines_of}
use Rattle.e_book.specs.HasSpelling.{HasSpelling}
use Rattle.e_book.specs.Laws.{Shows}
use Rattle.e_line.proofs.read_again.Respelled.{GoodForm, as_read, form_again}
use Rattle.e_book.proofs.canonical.LineWords.{words_again, not_skipped}
use Rattle.e_names.proofs.resolution.Lookups.{InOrder, in_order}
use Rattle.e_book.proofs.canonical.Declared.{form_step, Runs, runs_append, Few, run_from, all_first}
use Rattle.e_names.proofs.read_lines.Building.{declared_scope}
use Rattle.e_names.proofs.distinct_names.OrderedNames.{first_in_order, lit_of_first}
use Rattle.e_names.proofs.literals.PlainLits.{Plain}
use Rattle.e_book.proofs.fit_theorems.FittingScripts.{line_fits}
use Rattle.e_book.proofs.canonical.HeadRead.{declaring, declared_lines, given_parser, making, made_lines, showing, run_title, run_all_given, run_all_shown}
use Rattle.e_book.proofs.canonical.LinesRead.{Inside, proving, Closes}
use Rattle.e_book.proofs.canonical.ScriptParts.{steps_of, close_of, same_script}
use Rattle.e_book.proofs.canonical.ScriptRead.{Taken, run_script}

-- ---- the statement

-- given literals are spelled with the names of the declared objects alone
given_forms_of : (s : Scope) (ns : Names) (ls : List Lit) → list_all (all_in_scope s) ls ≡ true → map (given_raw_line (first_names s ns)) ls ≡ map (given_raw_line ns) ls
given_forms_of s ns [] h = refl
given_forms_of s ns (l ∷ ls) h =
    let p = and_parts (all_in_scope s l) (list_all (all_in_scope s) ls) h in
    rw (lit_of_first s ns l p.0, given_forms_of s ns ls p.1) refl

-- the parser after the word proof
abbrev pub started : TheoremView → TheoremParser
started t = showing t.title t.names t.statement.declared t.statement.given t.statement.made t.statement.shown

abbrev pub begins : TheoremView → Inside
begins t = record { blocks = []; in_scope = names_of_proof t; steps = []; lines = 0; facts = length t.statement.given; terms = count_monomials t.statement.given }

run_proof : (known : List TitledStatement) (t : TheoremView) → Runs known (Some (started t)) (rawlines.Proof ∷ []) (Some (proving (started t) (begins t)))
unfolding step after_line
run_proof known t = (proving (started t) (begins t), tt, refl, refl, refl)

-- the lines after the title
abbrev pub stating_forms : TheoremView → List RawLine
stating_forms t = given_raw_lines t.names t.statement ++ (shown_raw_lines t.names t.statement ++ rawlines.Proof ∷ [])

-- the lines of the statement lead from the title to the parser that begins the proof
pub run_statement : (known : List TitledStatement) (t : TheoremView) → HasSpelling known t → InOrder t.names → Runs known (Some (with_title t.title)) (stating_forms t) (Some (proving (started t) (begins t)))
run_statement known t h o =
    let ns = t.names in
    let st = t.statement in
    let s : Scope = scope_of (as_view t.statement) in
    let dn = first_names s ns in
    let few : Few ns = record { points = h.fits.points; lines = h.fits.lines; circles = h.fits.circles } in
    let end : Option TheoremParser = Some (proving (started t) (begins t)) in
    let titled : Option TheoremParser = Some (with_title t.title) in
    let declared : Option TheoremParser = Some (declaring t.title dn st.declared) in
    let given : Option TheoremParser = Some (given_parser t.title dn st.declared st.given) in
    let made : Option TheoremParser = Some (making t.title st.declared st.given ns st.made) in
    let f4 : List RawLine = rawlines.Proof ∷ [] in
    let f3 : List RawLine = map made_raw_line (sort_groups ns (made_objects st)) ++ map (show_raw_line ns) st.shown in
    let f2 : List RawLine = f3 ++ f4 in
    let f1 : List RawLine = map declare_raw_line (sort_groups ns (declared_objects st)) ++ map (given_raw_line ns) st.given in
    let run_declared : Runs known titled (map declare_raw_line (sort_groups ns (declared_objects st))) declared =
    run_from known rawlines.Declare (declaring t.title) (declared_lines known t.title) ns nothing [] st.declared st.made o few h.fits.scope in
    let plain : Plain dn st.given = record { within = subst (λ (z : Scope). list_all (all_in_scope z) st.given ≡ true) (sym (declared_scope (as_view st) ns h.fits.scope)) h.fits.given; good = h.fits.good_given } in
    let run_given : Runs known declared (map (given_raw_line ns) st.given) given =
    subst (λ (fs : List RawLine). Runs known declared fs given) (given_forms_of s ns st.given h.fits.given)
    (run_all_given known t.title dn st.declared st.given (first_in_order s ns o) plain h.fits.given_facts h.fits.given_terms) in
    let whole : first_names (with_sorts s st.made) ns ≡ ns = ap (λ (z : Scope). first_names z ns) h.fits.scope ∙ all_first ns in
    let run_made : Runs known given (map made_raw_line (sort_groups ns (made_objects st))) made =
    subst (λ (m : Names). Runs known given (map made_raw_line (sort_groups ns (made_objects st))) (Some (making t.title st.declared st.given m st.made))) whole
    (run_from known rawlines.Made (making t.title st.declared st.given) (made_lines known t.title st.declared st.given) ns s [] st.made [] o few h.fits.scope) in
    let run_shown : Runs known made (map (show_raw_line ns) st.shown) (Some (started t)) = run_all_shown known t.title ns st.declared st.given st.made st.shown o (record { within = h.fits.shown; good = h.fits.good_shown }) h.some_shown in
    let stating : Runs known titled f1 given = runs_append known titled declared given (map declare_raw_line (sort_groups ns (declared_objects st))) (map (given_raw_line ns) st.given) run_declared run_given in
    let showing : Runs known given f3 (Some (started t)) = runs_append known given made (Some (started t)) (map made_raw_line (sort_groups ns (made_objects st))) (map (show_raw_line ns) st.shown) run_made run_shown in
    runs_append known titled given end f1 f2 stating (runs_append known given (Some (started t)) end f3 f4 showing (run_proof known t))

run_head : (known : List TitledStatement) (t : TheoremView) → HasSpelling known t → InOrder t.names → Runs known None (head_raw_lines t) (Some (proving (started t) (begins t)))
run_head known t h o =
    runs_append known None (Some (with_title t.title)) (Some (proving (started t) (begins t))) (rawlines.Theorem t.title ∷ []) (stating_forms t) (run_title known t.title h.title h.fits.new h.few_theorems) (run_statement known t h o)

-- ---- the proof

pub run_proof_lines : (known : List TitledStatement) (t : TheoremView) → HasSpelling known t → InOrder t.names → Taken known (started t) (begins t) t.script
run_proof_lines known t h o =
    let s : Scope = scope_of (as_view t.statement) in
    let before = stated_by known in
    let facts : List Lit = facts_of_statement (as_view t.statement) in
    let goal : Goal = goal_of_statement (as_view t.statement) in
    let scope : s ≡ scope_of_names (names_of_proof t) = sym (declared_scope (as_view t.statement) t.names h.fits.scope) in
    run_script known (started t) (begins t) t.script facts goal (record {
      order = first_in_order s t.names o;
      goal_sorts = sorts_next s t.statement.made;
      plain = h.script;
      fitting = subst (λ (z : Scope). list_all (line_fits before) (placed_steps before t.script t.script z facts goal) ≡ true) scope h.fits.script;
      new_names = h.fits.new_names;
      few = omega (arith, h.fits.steps);
      shallow = omega (arith, h.fits.depth);
      good = h.fits.good_script;
      theorems = h.theorems;
      blanks = h.fits.blanks;
      facts = subst (λ (z : Scope). few_facts before (length t.statement.given) z t.script ≡ true) scope h.fits.facts;
      terms = subst (λ (z : Scope). few_terms before (count_monomials t.statement.given) z t.script ≡ true) scope h.fits.terms;
    })

-- all lines but the last
abbrev front : List TitledStatement → TheoremView → List RawLine
front known t = head_raw_lines t ++ script_raw_lines known (names_of_proof t) t.script

-- ---- the lines

-- the forms are taken from lines that spell them
line_taken : (known : List TitledStatement) (s : Option TheoremParser) (f : RawLine) → GoodForm f → line_step known s (raw_line_words f) ≡ form_step known s (as_read f)
unfolding line_step
line_taken known None f good = rw (form_again f good) refl
line_taken known (Some d) f good = rw (form_again f good) refl

record Left (known : List TitledStatement) (last : ℕ) (s u : Option TheoremParser) (all : List (Result LineView LineFault)) (gs : List RawLine) (rest : List (Result LineView LineFault)) : Type 0 where
  ahead : List (Result LineView LineFault)
  shown : Shows ahead (map line_of gs) rest
  same : read_from known last s all ≡ read_from known last u ahead

one_read : (known : List TitledStatement) (last : ℕ) (s : Option TheoremParser) (l : LineView) (after : List (Result LineView LineFault)) (f : RawLine) (e : TheoremParser) → l.bytes ≡ line_of f → GoodForm f → form_step known s (as_read f) ≡ Ok e
    → read_from known last s (Ok l ∷ after) ≡ cond (is_done e) (Ok (Some (entry_of_parser e, after))) (read_from known last (Some e) after)
one_read known last s l after f e b good h =
    let words : tokens_of l.bytes ≡ raw_line_words f = ap tokens_of b ∙ words_again f good in
    let next : line_step known s (raw_line_words f) ≡ Ok e = line_taken known s f good ∙ h in
    rw (words, not_skipped f, next) refl

reads_runs : (known : List TitledStatement) (last : ℕ) (s u : Option TheoremParser) (fs gs : List RawLine) (all rest : List (Result LineView LineFault)) → Runs known s fs u → Shows all (map line_of (fs ++ gs)) rest → Left known last s u all gs rest
reads_runs known last s u [] gs all rest r sh = record { ahead = all; shown = sh; same = ap (λ (x : Option TheoremParser). read_from known last x all) r }
reads_runs known last s u (f ∷ fs) gs [] rest r sh = absurd sh
reads_runs known last s u (f ∷ fs) gs (Err x ∷ all) rest r sh = absurd sh
reads_runs known last s u (f ∷ fs) gs (Ok l ∷ all) rest r sh =
    let more = reads_runs known last (Some r.0) u fs gs all rest r.4 sh.1 in
    let here = one_read known last s l all f r.0 sh.0 r.1 r.2 in
    let goes : cond (is_done r.0) (Ok (Some (entry_of_parser r.0, all))) (read_from known last (Some r.0) all) ≡ read_from known last (Some r.0) all = rw r.3 refl in
    record { ahead = more.ahead; shown = more.shown; same = here ∙ goes ∙ more.same }

abbrev answered : TheoremView → List (Result LineView LineFault) → Result (Option (TheoremView × List (Result LineView LineFault))) BookFault
answered t rest = Ok (Some (t, rest))

-- ---- the whole

-- the parser after the last close line
abbrev pub shut_parser : TheoremView → Inside → TheoremParser
shut_parser t last = record (proving (started t) last) { steps = steps_of t.script; blocks = []; close = close_of t.script; section = Closed }

pub closed_last : (t : TheoremView) (last : Inside) → parser_after_close (proving (started t) last) [] (steps_of t.script) (close_of t.script) ≡ Ok (shut_parser t last)
unfolding parser_after_close
closed_last t last = refl

pub step_end : (known : List TitledStatement) (t : TheoremView) (last : Inside) → step known (shut_parser t last) rawlines.End ≡ Ok (record (shut_parser t last) { section = Done })
unfolding step after_line
step_end known t last = refl

end_read : (known : List TitledStatement) (number : ℕ) (t : TheoremView) (last : Inside) (all rest : List (Result LineView LineFault)) → Closes (steps_of t.script) (close_of t.script) t.script → Shows all (line_of rawlines.End ∷ []) rest
    → read_from known number (Some (shut_parser t last)) all ≡ answered t rest
end_read known number t last [] rest same sh = absurd sh
end_read known number t last (Err x ∷ all) rest same sh = absurd sh
end_read known number t last (Ok l ∷ all) rest same sh =
    let d = shut_parser t last in
    one_read known number (Some d) l all rawlines.End (record d { section = Done }) sh.0 tt (step_end known t last)
    ∙ ap (λ (s : Script). answered (record t { script = s }) all) same ∙ ap (λ (ls : List (Result LineView LineFault)). answered t ls) sh.1

pub canonical_lines_read : (known : List TitledStatement) (last : ℕ) (t : TheoremView) (all rest : List (Result LineView LineFault)) → HasSpelling known t → Shows all (map line_of (raw_lines_of known t)) rest
    → read_from known last None all ≡ Ok (Some (t, rest))
canonical_lines_read known last t all rest h sh =
    let o = in_order t.names h.point_names h.line_names h.circle_names h.fits.differ in
    let proof = run_proof_lines known t h o in
    let d = shut_parser t proof.last in
    let runs : Runs known None (front known t) (Some d) =
    runs_append known None (Some (proving (started t) (begins t))) (Some d) (head_raw_lines t) (script_raw_lines known (names_of_proof t) t.script) (run_head known t h o) (proof.runs d (closed_last t proof.last) refl) in
    let whole : raw_lines_of known t ≡ front known t ++ rawlines.End ∷ [] = sym (append_assoc (head_raw_lines t) (script_raw_lines known (names_of_proof t) t.script) (rawlines.End ∷ [])) in
    let shown : Shows all (map line_of (front known t ++ rawlines.End ∷ [])) rest = subst (λ (fs : List RawLine). Shows all (map line_of fs) rest) whole sh in
    let l = reads_runs known last None (Some d) (front known t) (rawlines.End ∷ []) all rest runs shown in
    l.same ∙ end_read known last t proof.last l.ahead rest (same_script t.script h.script) l.shown
