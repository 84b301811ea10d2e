-- Lines are read as the grammar says: the parser makes the same of each, and holds what the lines have said.
use Rattle.std.proofs.Common.{◌≡◌, ℕ, ◌+◌, ◌<◌, Bool, true, false, cond, leb, List, [], ◌∷◌, length, map, Option, Some, None, Result, Ok, Err, refl, sym, ap, subst, ◌∙◌, arith}
use Rattle.e_deriv.specs.declared.names.Names.{Names}
use Rattle.e_text.specs.Tokens.{tokens_of}
use Rattle.e_line.specs.declared.fault.FaultKind.{FaultKind}
use Rattle.e_line.specs.declared.fault.FaultKind.TheVariants.{Malformed, NameTaken}
use Rattle.e_line.specs.declared.fault.What.TheVariants as limits
use Rattle.e_line.specs.declared.fault.BookFault.{BookFault}
use Rattle.e_line.specs.declared.raw_line.RawLine.{RawLine}
use Rattle.e_line.specs.declared.raw_line.RawLine.TheVariants as rawlines
use Rattle.e_book.specs.declared.steps.CloseLine.TheVariants as closes
use Rattle.e_book.specs.declared.parser.TheoremParser.{TheoremParser}
use Rattle.e_book.specs.declared.parser.Section.{Section}
use Rattle.e_book.specs.declared.parser.Section.TheVariants as places
use Rattle.e_line.specs.Faults.{at_line}
use Rattle.e_line.specs.Reading.{◌>>=◌, names_of, not_empty, some_names}
use Rattle.e_line.specs.Literals.{is_diagram_raw}
use Rattle.e_line.specs.RawLines.{raw_line_of}
use Rattle.e_names.specs.TitledStatements.{TitledStatement, is_known}
use Rattle.e_line.specs.Limits.{most_theorems, within}
use Rattle.e_book.specs.ParserViews.{entry_of_parser}
use Rattle.e_book.specs.TheoremViews.{TheoremView}
use Rattle.e_book.specs.LineLimits.{FewNamed}
use Rattle.e_book.specs.Steps.{line_may_come, after_let, after_apply, after_claim, after_superpose, after_cases, after_by, after_hence, after_qed, after_close_line, after_line, step, begin, with_title}
use Rattle.e_book.specs.Open.{Open, Stating, Proving}
use Rattle.e_book.specs.Grammar.{Rest, empty_head, begins, goes_on, next, line_after, line_read, theorem_ended, or_more, is_skipped, put_at}
use Rattle.e_book.specs.Grammar as grammar
use Rattle.e_line.specs.Canonical.{line_of}
use Rattle.e_book.specs.Canonical.{raw_lines_of}
use Rattle.e_book.specs.HasSpelling.{HasSpelling}
use Rattle.e_book.specs.Laws.{Shows}
use Rattle.e_book.specs.Book.{line_step, is_last, is_done}
use Rattle.e_book.specs.Book as book
use Rattle.e_line.proofs.base.Bound.{bind_ok, ok_is, read_ok}
use Rattle.e_book.proofs.canonical.CanonicalRead.{canonical_lines_read}
use Rattle.e_book.proofs.fit_theorems.ReadSpelled.{read_is_spelled}
use Rattle.e_line.proofs.read_lines.RawLinesByWord.{OfEachForm, form_by_word}
use Rattle.e_names.proofs.read_lines.LiteralsOfRawLines.{some_lits_said}
use Rattle.e_line.proofs.read_lines.SumsOfLiterals.{diagram_said}
use Rattle.e_book.proofs.grammar.ParserState.{around_of, head_of, open_there, open_of, BlockOf, UnprovedOf, Stands, Body, Tied, Alike, tied_there}
use Rattle.e_book.proofs.grammar.LimitTests.{kept, then_limits, test, both_read}
use Rattle.e_book.proofs.grammar.BlockLines.{by_alike, hence_alike, let_alike, apply_alike, claim_alike, superpose_alike, cases_alike}
use Rattle.e_book.proofs.grammar.BlockEnds.{qed_alike, contradiction_alike, else_alike, end_alike}
use Rattle.e_book.proofs.grammar.StatementLines.{declare_alike, give_alike, make_alike, show_alike, proof_alike}

-- ---- what the spelling of a line says of its items

abbrev pub HasItems : RawLine → Type 0
HasItems (rawlines.Given raws) = 0 < length raws
HasItems (rawlines.Made sort new) = 0 < length new
HasItems (rawlines.Show raws) = 0 < length raws
HasItems (rawlines.By rule names l) = is_diagram_raw l.atom ≡ true
HasItems f = Unit {0}

not_empty_some : (ns ms : List (List ℕ)) → not_empty ns ≡ Ok ms → 0 < length ms
not_empty_some [] ms e = absurd cc
not_empty_some (n ∷ ns) ms e = subst (λ (x : List (List ℕ)). 0 < length x) (ok_is (n ∷ ns) ms e) (omega arith)

some_named : (ws ns : List (List ℕ)) → some_names ws ≡ Ok ns → 0 < length ns
unfolding some_names
some_named ws ns e =
    let a = bind_ok (names_of ws) (λ ns. not_empty ns) ns e in
    not_empty_some a.0 ns a.2

has_items : OfEachForm HasItems
has_items = record {
  of_theorem = λ ws t e. tt;
  of_declare = λ sort ws ns e. tt;
  of_made = λ sort. some_named;
  of_given = λ ws ls e. (some_lits_said ws ls e).0;
  of_show = λ ws ls e. (some_lits_said ws ls e).0;
  of_claim = λ ws ls e. tt;
  of_by = λ rule names. diagram_said;
  of_hence = λ ws l e. tt;
  of_cases = λ ws l e. tt;
  of_let = λ ws l e. tt;
  of_apply = λ ws a e. tt;
  of_superpose = λ ws s e. tt;
  of_qed = λ names. tt;
  of_proof = tt;
  of_contradiction = tt;
  of_else = tt;
  of_end = tt;
}

pub items_read : (words : List (List ℕ)) (f : RawLine) → raw_line_of words ≡ Ok f → HasItems f
items_read = form_by_word HasItems has_items

-- ---- a line at each place

abbrev Line : List TitledStatement → Section → TheoremParser → RawLine → Type 0
Line known p d f = Alike known (cond (line_may_come p f) (after_line known d f) (Err Malformed)) (next known (open_there d p) f >>= then_limits known f)

at_declaring : (known : List TitledStatement) (d : TheoremParser) (f : RawLine) → d.section ≡ places.Declaring → Stands places.Declaring d → UnprovedOf d → FewNamed d.names → HasItems f → Line known places.Declaring d f
unfolding after_line
at_declaring known d (rawlines.Declare sort new) at s u few some = declare_alike known places.Declaring d sort new tt at s u few
at_declaring known d (rawlines.Given raws) at s u few some = give_alike known places.Declaring d raws tt s u few some
at_declaring known d (rawlines.Made sort new) at s u few some = make_alike known places.Declaring d sort new tt s u few some
at_declaring known d (rawlines.Show raws) at s u few some = show_alike known places.Declaring d raws tt u few some
at_declaring known d rawlines.Proof at s u few some = proof_alike known places.Declaring d tt s u few
at_declaring known d f at s u few some = refl

at_giving : (known : List TitledStatement) (d : TheoremParser) (f : RawLine) → d.section ≡ places.Giving → Stands places.Giving d → UnprovedOf d → FewNamed d.names → HasItems f → Line known places.Giving d f
unfolding after_line
at_giving known d (rawlines.Declare sort new) at s u few some = declare_alike known places.Giving d sort new tt at s u few
at_giving known d (rawlines.Given raws) at s u few some = give_alike known places.Giving d raws tt s u few some
at_giving known d (rawlines.Made sort new) at s u few some = make_alike known places.Giving d sort new tt s u few some
at_giving known d (rawlines.Show raws) at s u few some = show_alike known places.Giving d raws tt u few some
at_giving known d rawlines.Proof at s u few some = proof_alike known places.Giving d tt s u few
at_giving known d f at s u few some = refl

at_making : (known : List TitledStatement) (d : TheoremParser) (f : RawLine) → d.section ≡ places.Making → Stands places.Making d → UnprovedOf d → FewNamed d.names → HasItems f → Line known places.Making d f
unfolding after_line
at_making known d (rawlines.Declare sort new) at s u few some = declare_alike known places.Making d sort new tt at s u few
at_making known d (rawlines.Given raws) at s u few some = give_alike known places.Making d raws tt s u few some
at_making known d (rawlines.Made sort new) at s u few some = make_alike known places.Making d sort new tt s u few some
at_making known d (rawlines.Show raws) at s u few some = show_alike known places.Making d raws tt u few some
at_making known d rawlines.Proof at s u few some = proof_alike known places.Making d tt s u few
at_making known d f at s u few some = refl

at_showing : (known : List TitledStatement) (d : TheoremParser) (f : RawLine) → d.section ≡ places.Showing → Stands places.Showing d → UnprovedOf d → FewNamed d.names → HasItems f → Line known places.Showing d f
unfolding after_line
at_showing known d (rawlines.Declare sort new) at s u few some = declare_alike known places.Showing d sort new tt at s u few
at_showing known d (rawlines.Given raws) at s u few some = give_alike known places.Showing d raws tt s u few some
at_showing known d (rawlines.Made sort new) at s u few some = make_alike known places.Showing d sort new tt s u few some
at_showing known d (rawlines.Show raws) at s u few some = show_alike known places.Showing d raws tt u few some
at_showing known d rawlines.Proof at s u few some = proof_alike known places.Showing d tt s u few
at_showing known d f at s u few some = refl

-- a line of a block, in which the names are those of what has been said
in_block : (known : List TitledStatement) (d : TheoremParser) (f : RawLine) (r : Result TheoremParser FaultKind) → BlockOf known d → Alike known r (goes_on known d.in_scope (head_of d) (around_of d.blocks) d.steps f >>= then_limits known f)
    → Alike known r (next known (Proving (head_of d) (around_of d.blocks) d.steps) f >>= then_limits known f)
in_block known d f r t a =
    subst (λ (ns : Names). Alike known r (goes_on known ns (head_of d) (around_of d.blocks) d.steps f >>= then_limits known f)) t.counted.names a

at_proving : (known : List TitledStatement) (d : TheoremParser) (f : RawLine) → d.section ≡ places.Proving → BlockOf known d → FewNamed d.names → HasItems f → Line known places.Proving d f
unfolding after_line
at_proving known d (rawlines.By rule names l) at t few plain = in_block known d (rawlines.By rule names l) (after_by d rule names l) t (by_alike known d rule names l t at few plain)
at_proving known d (rawlines.Hence l) at t few some = in_block known d (rawlines.Hence l) (after_hence d l) t (hence_alike known d l t at few)
at_proving known d (rawlines.Let l) at t few some = in_block known d (rawlines.Let l) (after_let d l) t (let_alike known d l t at few)
at_proving known d (rawlines.Apply a) at t few some = in_block known d (rawlines.Apply a) (after_apply known d a) t (apply_alike known d a t at few)
at_proving known d (rawlines.Claim ls) at t few some = in_block known d (rawlines.Claim ls) (after_claim d ls) t (claim_alike known d ls t at few)
at_proving known d (rawlines.Superpose s) at t few some = in_block known d (rawlines.Superpose s) (after_superpose d s) t (superpose_alike known d s t at few)
at_proving known d (rawlines.Cases l) at t few some = in_block known d (rawlines.Cases l) (after_cases d l) t (cases_alike known d l t at few)
at_proving known d (rawlines.Qed names) at t few some = in_block known d (rawlines.Qed names) (after_qed d names) t (qed_alike known d names t at few)
at_proving known d rawlines.Contradiction at t few some = in_block known d rawlines.Contradiction (after_close_line d closes.Contradiction) t (contradiction_alike known d t at few)
at_proving known d f at t few some = refl

at_splitting : (known : List TitledStatement) (d : TheoremParser) (f : RawLine) → Body known places.Splitting d → FewNamed d.names → Line known places.Splitting d f
unfolding after_line
at_splitting known d rawlines.Else b few = else_alike known d b.0 b.1 few
at_splitting known d f b few = refl

at_closed : (known : List TitledStatement) (d : TheoremParser) (f : RawLine) → Body known places.Closed d → FewNamed d.names → Line known places.Closed d f
unfolding after_line
at_closed known d rawlines.End b few = end_alike known d few b
at_closed known d f b few = refl

at_done : (known : List TitledStatement) (d : TheoremParser) (f : RawLine) → Line known places.Done d f
at_done known d rawlines.End = refl
at_done known d f = refl

by_place : (known : List TitledStatement) (p : Section) (d : TheoremParser) (f : RawLine) → d.section ≡ p → Body known p d → FewNamed d.names → HasItems f → Line known p d f
by_place known places.Declaring d f at b few some = at_declaring known d f at b.0 b.1 few some
by_place known places.Giving d f at b few some = at_giving known d f at b.0 b.1 few some
by_place known places.Making d f at b few some = at_making known d f at b.0 b.1 few some
by_place known places.Showing d f at b few some = at_showing known d f at b.0 b.1 few some
by_place known places.Proving d f at b few some = at_proving known d f at b few some
by_place known places.Splitting d f at b few some = at_splitting known d f b few
by_place known places.Closed d f at b few some = at_closed known d f b few
by_place known places.Done d f at b few some = at_done known d f

pub step_alike : (known : List TitledStatement) (d : TheoremParser) (f : RawLine) → Tied known d → HasItems f → Alike known (step known d f) (line_after known (Some (open_of d)) f)
unfolding step
step_alike known d f t some = by_place known d.section d f refl t.body t.names some

-- ---- the first line

free_title : (known : List TitledStatement) (b : Bool) (x : Result TheoremParser FaultKind) (y : Result Open FaultKind) → Alike known x y → Alike known (cond b (Err NameTaken) x) (cond b (Err NameTaken) y)
free_title known true x y h = refl
free_title known false x y h = h

begun_tied : (known : List TitledStatement) (t : List ℕ) → Alike known (read_ok (with_title t)) (read_ok (Stating (empty_head t)))
begun_tied known t =
    let few : FewNamed (with_title t).names = record { points = omega arith; lines = omega arith; circles = omega arith } in
    let none : UnprovedOf (with_title t) = record { steps = refl; blocks = refl; lines = refl; facts = refl; terms = refl; few_facts = omega arith; few_terms = omega arith } in
    tied_there known (with_title t) (Stating (empty_head t)) places.Declaring refl few ((refl, refl, refl), none) refl

abbrev begins_titled : List TitledStatement → List ℕ → Result Open FaultKind
begins_titled known t = kept ((leb (length known + 1) most_theorems, limits.Theorems) ∷ []) (Stating (empty_head t))

pub begin_alike : (known : List TitledStatement) (f : RawLine) → Alike known (begin known f) (begins known f)
unfolding begin
begin_alike known (rawlines.Theorem t) =
    let n = Stating (empty_head t) in
    free_title known (is_known known t) (within (length known + 1) most_theorems limits.Theorems >>= λ few. read_ok (with_title t)) (begins_titled known t)
    (test known (read_ok (with_title t)) n (length known + 1) most_theorems limits.Theorems [] (λ w. begun_tied known t))
begin_alike known f = refl

-- ---- a line by its words

abbrev said : Option TheoremParser → Option Open
said None = None
said (Some d) = Some (open_of d)

abbrev TiedSoFar : List TitledStatement → Option TheoremParser → Type 0
TiedSoFar known None = Unit {0}
TiedSoFar known (Some d) = Tied known d

words_alike : (known : List TitledStatement) (o : Option TheoremParser) (words : List (List ℕ)) → TiedSoFar known o → Alike known (line_step known o words) (line_read known (said o) words)
unfolding line_step
words_alike known None words t = both_read known (raw_line_of words) (λ f. begin known f) (λ f. begins known f) (λ f e. begin_alike known f)
words_alike known (Some d) words t =
    both_read known (raw_line_of words) (λ f. step known d f) (λ f. line_after known (Some (open_of d)) f) (λ f e. step_alike known d f t (items_read words f e))

-- ---- line after line

abbrev Answer : Type 0
Answer = Result (Option (TheoremView × Rest)) BookFault

in_case : (b : Bool) (x y z w : Answer) → x ≡ z → y ≡ w → cond b x y ≡ cond b z w
in_case true x y z w e h = e
in_case false x y z w e h = h

abbrev whole : TheoremView → Rest → Answer
whole t lines = Ok (Some (t, lines))

abbrev wrong_at : ℕ → FaultKind → Answer
wrong_at number kind = Err (at_line number kind)

-- a theorem ends, or its lines go on
ends_alike : (d : TheoremParser) (p : Section) (lines : Rest) (x y : Answer) → x ≡ y → cond (is_last p) (whole (entry_of_parser d) lines) x ≡ or_more (theorem_ended (open_there d p)) lines y
ends_alike d places.Done lines x y e = refl
ends_alike d p lines x y e = e

after_alike : (known : List TitledStatement) (last number : ℕ) (lines : Rest) (r : Result TheoremParser FaultKind) (q : Result Open FaultKind) → Alike known r q
    → ((e : TheoremParser) → Tied known e → book.read_from known last (Some e) lines ≡ grammar.read_from known last (Some (open_of e)) lines)
    → (put_at number r >>= λ d. cond (is_done d) (whole (entry_of_parser d) lines) (book.read_from known last (Some d) lines))
    ≡ (put_at number q >>= λ n. or_more (theorem_ended n) lines (grammar.read_from known last (Some n) lines))
after_alike known last number lines (Ok e) (Ok n) a more =
    ends_alike e e.section lines (book.read_from known last (Some e) lines) (grammar.read_from known last (Some (open_of e)) lines) (more e a.1)
    ∙ ap (λ (o : Open). or_more (theorem_ended o) lines (grammar.read_from known last (Some o) lines)) a.0
after_alike known last number lines (Err j) (Err k) a more = ap (λ (x : FaultKind). wrong_at number x) a
after_alike known last number lines (Ok e) (Err k) a more = absurd a
after_alike known last number lines (Err j) (Ok n) a more = absurd a

read_alike : (known : List TitledStatement) (last : ℕ) (o : Option TheoremParser) (lines : Rest) → TiedSoFar known o → book.read_from known last o lines ≡ grammar.read_from known last (said o) lines
read_alike known last None [] t = refl
read_alike known last (Some d) [] t = refl
read_alike known last None (Err f ∷ lines) t = refl
read_alike known last (Some d) (Err f ∷ lines) t = refl
read_alike known last None (Ok line ∷ lines) t =
    let words = tokens_of line.bytes in
    in_case (is_skipped words) (book.read_from known last None lines)
    (put_at line.number (line_step known None words) >>= λ d. cond (is_done d) (whole (entry_of_parser d) lines) (book.read_from known last (Some d) lines))
    (grammar.read_from known last None lines) (put_at line.number (line_read known None words) >>= λ n. or_more (theorem_ended n) lines (grammar.read_from known last (Some n) lines))
    (read_alike known last None lines t)
    (after_alike known last line.number lines (line_step known None words) (line_read known None words) (words_alike known None words t) (λ e u. read_alike known last (Some e) lines u))
read_alike known last (Some d) (Ok line ∷ lines) t =
    let words = tokens_of line.bytes in
    let o : Open = open_of d in
    in_case (is_skipped words) (book.read_from known last (Some d) lines)
    (put_at line.number (line_step known (Some d) words) >>= λ x. cond (is_done x) (whole (entry_of_parser x) lines) (book.read_from known last (Some x) lines))
    (grammar.read_from known last (Some o) lines) (put_at line.number (line_read known (Some o) words) >>= λ n. or_more (theorem_ended n) lines (grammar.read_from known last (Some n) lines))
    (read_alike known last (Some d) lines t)
    (after_alike known last line.number lines (line_step known (Some d) words) (line_read known (Some o) words) (words_alike known (Some d) words t) (λ e u. read_alike known last (Some e) lines u))

pub grammar_read : (known : List TitledStatement) (last : ℕ) (lines : Rest) → book.read_from known last None lines ≡ grammar.read_from known last None lines
grammar_read known last lines = read_alike known last None lines tt

-- ---- what is known of what the parser reads, of what the grammar reads

pub canonical_grammar : (known : List TitledStatement) (last : ℕ) (t : TheoremView) (lines rest : Rest) → HasSpelling known t → Shows lines (map line_of (raw_lines_of known t)) rest → grammar.read_from known last None lines ≡ whole t rest
canonical_grammar known last t lines rest h s = sym (grammar_read known last lines) ∙ canonical_lines_read known last t lines rest h s

pub spelled_grammar : (known : List TitledStatement) (last : ℕ) (t : TheoremView) (lines rest : Rest) → grammar.read_from known last None lines ≡ whole t rest → HasSpelling known t
spelled_grammar known last t lines rest e = read_is_spelled known last t lines rest (grammar_read known last lines ∙ e)
