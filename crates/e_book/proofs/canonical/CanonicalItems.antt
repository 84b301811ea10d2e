-- The canonical lines of a theorem are read as that theorem in a book too: no item stands on them.
use Rattle.std.proofs.Common.{◌≡◌, ℕ, ◌<◌, Bool, true, false, cond, ltb, List, [], ◌∷◌, ◌++◌, length, ◌+◌, map, Some, None, Ok, Err, refl, sym, ap, subst, ◌∙◌, append_assoc, arith}
use Rattle.std.specs.Prelude.{codes}
use Rattle.std.proofs.lemmas.Bool.{le-ltb}
use Rattle.std.specs.List.{list_any, AllByRecursion}
use Rattle.e_text.specs.Names.{reserved_words}
use Rattle.e_text.specs.Tokens.{tokens_of}
use Rattle.e_text.specs.Lines.{LineView}
use Rattle.e_literal.specs.declared.literal.Lit.{Lit}
use Rattle.e_literal.specs.Literal.{all_in_scope}
use Rattle.e_literal.specs.WellFormed.{is_well_formed}
use Rattle.e_deriv.specs.declared.names.Names.{Names}
use Rattle.e_deriv.specs.Script.{Script}
use Rattle.e_line.specs.declared.literal.RawLit.{RawLit}
use Rattle.e_line.specs.declared.literal.RawAtom.{RawAtom}
use Rattle.e_line.specs.declared.literal.RawAtom.TheVariants as raw
use Rattle.e_line.specs.declared.raw_line.RawLine.{RawLine}
use Rattle.e_line.specs.declared.raw_line.RawLine.TheVariants as rawlines
use Rattle.e_line.specs.declared.items.BookLine.TheVariants.{Plain}
use Rattle.e_names.specs.declared.known.Known.{Known}
use Rattle.e_book.specs.declared.parser.Section.TheVariants.{Done}
use Rattle.e_book.specs.declared.parser.TheoremParser.{TheoremParser}
use Rattle.e_book.specs.declared.partial_item.PartialItem.{PartialItem}
use Rattle.e_literal.specs.declared.object.Sort.TheVariants.{Point, Line, Circle}
use Rattle.e_line.specs.Limits.{most_theorems}
use Rattle.e_names.specs.TitledStatements.{TitledStatement, is_known}
use Rattle.e_names.specs.Titled.{defines, are_notions}
use Rattle.e_names.specs.Scope.{scope_of_names, lit_in}
use Rattle.e_line.specs.RawLines.{raw_line_named, raw_line_of}
use Rattle.e_names.specs.Fits.{NamesDiffer}
use Rattle.e_book.specs.ParserViews.{entry_of_parser}
use Rattle.e_book.specs.TheoremViews.{TheoremView}
use Rattle.e_names.specs.Canonical.{raw_of}
use Rattle.e_line.specs.Canonical.{sum_words, sums_words, words_with_neg, lit_words, lits_words, raw_line_words, line_of as written_line}
use Rattle.e_book.specs.Canonical.{script_raw_lines, names_of_proof, raw_lines_of}
use Rattle.e_line.specs.Names.{AreNames}
use Rattle.e_book.specs.HasSpelling.{HasSpelling}
use Rattle.e_book.specs.Laws.{Shows}
use Rattle.e_book.specs.Steps.{with_title, begin, step}
use Rattle.e_book.specs.Book.{is_last}
use Rattle.e_line.specs.Items.{is_as, begins_item, has_item, line_named, book_line_of}
use Rattle.e_book.specs.Grammar.{Rest}
use Rattle.e_book.specs.Definitions.{BookItem, OfTheorem, Answer}
use Rattle.e_book.specs.Definitions as grammar
use Rattle.e_book.specs.inner.Machine as machine
use Rattle.e_book.specs.inner.Machine.{partial_item, begins_theorem, goes_on, line_step, item_from}
use Rattle.e_line.proofs.read_again.SumsAgain.{is_mono_word, mono_word_differs, Begins, sum_begins, name_word}
use Rattle.e_line.proofs.read_again.LitsAgain.{AtomNamed, LitNamed, LitsNamed, split_again}
use Rattle.e_line.proofs.read_again.SuperposesAgain.{lits_after}
use Rattle.e_line.proofs.read_again.Respelled.{GoodForm, as_read, form_again}
use Rattle.e_book.proofs.canonical.LineWords.{words_again, not_skipped}
use Rattle.e_names.proofs.resolution.Lookups.{in_order}
use Rattle.e_names.proofs.resolution.LitLookups.{lit_number_again}
use Rattle.e_book.proofs.canonical.Declared.{Runs, runs_append}
use Rattle.e_book.proofs.canonical.LinesRead.{Inside, proving}
use Rattle.e_book.proofs.canonical.ScriptParts.{same_script}
use Rattle.e_book.proofs.canonical.CanonicalRead.{started, begins, stating_forms, run_statement, run_proof_lines, shut_parser, closed_last, step_end}
use Rattle.e_book.proofs.grammar.PartialTied.{items_read_alike}

-- ---- literals that are written out

pub literal_again : (ns : Names) (l : Lit) → AreNames ns.points → AreNames ns.lines → AreNames ns.circles → NamesDiffer ns → all_in_scope (scope_of_names ns) l ≡ true → is_well_formed l ≡ true → lit_in ns (raw_of ns l) ≡ Ok l
literal_again ns l hp hl hc d within good = lit_number_again ns l (in_order ns hp hl hc d) within good

-- ---- no literal begins with the word as

no_as : is_mono_word (codes "as") ≡ false
unfolding reserved_words
no_as = refl

word_no_as : (w : List ℕ) → is_mono_word w ≡ true → is_as w ≡ false
word_no_as w h = mono_word_differs w (codes "as") h no_as

sums_no_as : (ws : List (List ℕ)) → Begins ws → begins_item ws ≡ false
sums_no_as ws b = ap begins_item b.is ∙ word_no_as b.first b.word

signed_no_as : (neg : Bool) (a : RawAtom) → AtomNamed a → begins_item (words_with_neg neg a) ≡ false
signed_no_as neg (raw.Equal x y) h = by neg where
  by : (neg : Bool) → begins_item (words_with_neg neg (raw.Equal x y)) ≡ false
  by true = word_no_as x (name_word x h.0)
  by false = word_no_as x (name_word x h.0)
signed_no_as true (raw.SumsEqual x y) h = sums_no_as (sums_words x (codes "!=") y) (sum_begins x (codes "!=" ∷ sum_words y) h.left)
signed_no_as false (raw.SumsEqual x y) h = sums_no_as (sums_words x (codes "=") y) (sum_begins x (codes "=" ∷ sum_words y) h.left)
signed_no_as false (raw.SumsLess x y) h = sums_no_as (sums_words x (codes "<") y) (sum_begins x (codes "<" ∷ sum_words y) h.left)
signed_no_as false (raw.SumsAtMost x y) h = sums_no_as (sums_words x (codes "<=") y) (sum_begins x (codes "<=" ∷ sum_words y) h.left)
signed_no_as true (raw.SumsLess x y) h = refl
signed_no_as true (raw.SumsAtMost x y) h = refl
signed_no_as true (raw.On x y) h = refl
signed_no_as true (raw.Inside x y) h = refl
signed_no_as true (raw.Center x y) h = refl
signed_no_as true (raw.Between x y z) h = refl
signed_no_as true (raw.Same x y z) h = refl
signed_no_as true (raw.Meets x y) h = refl
signed_no_as false (raw.On x y) h = refl
signed_no_as false (raw.Inside x y) h = refl
signed_no_as false (raw.Center x y) h = refl
signed_no_as false (raw.Between x y z) h = refl
signed_no_as false (raw.Same x y z) h = refl
signed_no_as false (raw.Meets x y) h = refl

none_as : (ls : List RawLit) → AllByRecursion LitNamed ls → list_any begins_item (map lit_words ls) ≡ false
none_as [] h = refl
none_as (l ∷ ls) h = rw (signed_no_as l.neg l.atom h.0.atom, none_as ls h.1) refl

lits_no_item : (ls : List RawLit) → LitsNamed ls → has_item (lits_words ls) ≡ false
lits_no_item [] h = absurd h
lits_no_item (l ∷ ls) h = ap (list_any begins_item) (split_again l ls h.0 h.1) ∙ none_as (l ∷ ls) h

-- ---- canonical lines are lines without items

form_named_again : (w : List ℕ) (ws : List (List ℕ)) (g : RawLine) → raw_line_of (w ∷ ws) ≡ Ok g → raw_line_named w ws ≡ Ok g
unfolding raw_line_of
form_named_again w ws g h = h

pub plain_again : (f : RawLine) → GoodForm f → book_line_of (raw_line_words f) ≡ Ok (Plain (as_read f))
unfolding book_line_of line_named raw_line_of
plain_again (rawlines.Given []) h = absurd h
plain_again (rawlines.Given (l ∷ [])) h = rw (lits_no_item (l ∷ []) (h, tt), form_again (rawlines.Given (l ∷ [])) h) refl
plain_again (rawlines.Given (l ∷ m ∷ ls)) h = absurd h
plain_again (rawlines.Show []) h = absurd h
plain_again (rawlines.Show (l ∷ [])) h = rw (lits_no_item (l ∷ []) (h, tt), form_again (rawlines.Show (l ∷ [])) h) refl
plain_again (rawlines.Show (l ∷ m ∷ ls)) h = absurd h
plain_again (rawlines.Claim ls) h = rw (lits_no_item ls h, form_again (rawlines.Claim ls) h) refl
plain_again (rawlines.Superpose s) h = rw (lits_after s h, lits_no_item s.shown h.shown, form_again (rawlines.Superpose s) h) refl
plain_again (rawlines.Declare Point ns) h = rw (form_again (rawlines.Declare Point ns) h) refl
plain_again (rawlines.Declare Line ns) h = rw (form_again (rawlines.Declare Line ns) h) refl
plain_again (rawlines.Declare Circle ns) h = rw (form_again (rawlines.Declare Circle ns) h) refl
plain_again f h = rw (form_again f h) refl

-- ---- line after line

-- a theorem that comes without items
abbrev theorem : TheoremParser → PartialItem
theorem d = partial_item false d

next_taken : (known : Known) (d e : TheoremParser) (f : RawLine) → GoodForm f → step known.theorems d (as_read f) ≡ Ok e → line_step known (Some (theorem d)) (raw_line_words f) ≡ Ok (theorem e)
unfolding line_step goes_on machine.step
next_taken known d e f good h = rw (plain_again f good, h) refl

abbrev found : BookItem → Rest → Answer
found i rest = Ok (Some (i, rest))

next_read : (known : Known) (last : ℕ) (d e : TheoremParser) (l : LineView) (after : Rest) (f : RawLine) → l.bytes ≡ written_line f → GoodForm f → step known.theorems d (as_read f) ≡ Ok e
    → item_from known last (Some (theorem d)) (Ok l ∷ after) ≡ cond (is_last e.section) (found (OfTheorem (entry_of_parser e)) after) (item_from known last (Some (theorem e)) after)
next_read known last d e l after f b good h =
    let words : tokens_of l.bytes ≡ raw_line_words f = ap tokens_of b ∙ words_again f good in
    let next : line_step known (Some (theorem d)) (raw_line_words f) ≡ Ok (theorem e) = next_taken known d e f good h in
    rw (words, not_skipped f, next) refl

record Left (known : Known) (last : ℕ) (d u : TheoremParser) (all : Rest) (gs : List RawLine) (rest : Rest) : Type 0 where
  ahead : Rest
  shown : Shows ahead (map written_line gs) rest
  same : item_from known last (Some (theorem d)) all ≡ item_from known last (Some (theorem u)) ahead

reads_runs : (known : Known) (last : ℕ) (d u : TheoremParser) (fs gs : List RawLine) (all rest : Rest) → Runs known.theorems (Some d) fs (Some u) → Shows all (map written_line (fs ++ gs)) rest → Left known last d u all gs rest
reads_runs known last d u [] gs all rest r sh = record { ahead = all; shown = sh; same = ap (λ (x : TheoremParser). item_from known last (Some (theorem x)) all) (some_is d u r) } where
  some_is : (x y : TheoremParser) → Some x ≡ Some y → x ≡ y
  some_is x y e = cc
reads_runs known last d u (f ∷ fs) gs [] rest r sh = absurd sh
reads_runs known last d u (f ∷ fs) gs (Err x ∷ all) rest r sh = absurd sh
reads_runs known last d u (f ∷ fs) gs (Ok l ∷ all) rest r sh =
    let more = reads_runs known last r.0 u fs gs all rest r.4 sh.1 in
    let here = next_read known last d r.0 l all f sh.0 r.1 r.2 in
    let goes : cond (is_last r.0.section) (found (OfTheorem (entry_of_parser r.0)) all) (item_from known last (Some (theorem r.0)) all) ≡ item_from known last (Some (theorem r.0)) all = rw r.3 refl in
    record { ahead = more.ahead; shown = more.shown; same = here ∙ goes ∙ more.same }

end_read : (known : Known) (number : ℕ) (t : TheoremView) (last : Inside) (all rest : Rest) → entry_of_parser (shut_parser t last) ≡ t → Shows all (written_line rawlines.End ∷ []) rest
    → item_from known number (Some (theorem (shut_parser t last))) all ≡ found (OfTheorem t) rest
end_read known number t last [] rest same sh = absurd sh
end_read known number t last (Err x ∷ all) rest same sh = absurd sh
end_read known number t last (Ok l ∷ all) rest same sh =
    let d = shut_parser t last in
    next_read known number d (record d { section = Done }) l all rawlines.End sh.0 tt (step_end known.theorems t last)
    ∙ ap (λ (x : TheoremView). found (OfTheorem x) all) same ∙ ap (λ (ls : Rest). found (OfTheorem t) ls) sh.1

-- the first line
begins_is : (known : Known) (t : List ℕ) → machine.begins known (Plain (rawlines.Theorem t)) ≡ begins_theorem known (rawlines.Theorem t)
unfolding machine.begins
begins_is known t = refl

title_begins : (known : List TitledStatement) (t : List ℕ) → is_known known t ≡ false → length known < most_theorems → begin known (rawlines.Theorem t) ≡ Ok (with_title t)
unfolding begin
title_begins known t new few =
    let room : ltb most_theorems (length known + 1) ≡ false = le-ltb _ _ (omega (arith, few)) in
    rw (new, room) refl

begun_taken : (known : Known) (t : List ℕ) (e : TheoremParser) → GoodForm (rawlines.Theorem t) → defines known.notions t ≡ false → begin known.theorems (rawlines.Theorem t) ≡ Ok e → line_step known None (raw_line_words (rawlines.Theorem t)) ≡ Ok (theorem e)
unfolding line_step begins_theorem
begun_taken known t e good free h = rw (plain_again (rawlines.Theorem t) good) (begins_is known t ∙ rw (free, h) refl)

first_read : (known : Known) (last : ℕ) (t : List ℕ) (e : TheoremParser) (l : LineView) (after : Rest) → l.bytes ≡ written_line (rawlines.Theorem t) → GoodForm (rawlines.Theorem t) → defines known.notions t ≡ false → begin known.theorems (rawlines.Theorem t) ≡ Ok e → is_last e.section ≡ false
    → item_from known last None (Ok l ∷ after) ≡ item_from known last (Some (theorem e)) after
first_read known last t e l after b good free h go =
    let words : tokens_of l.bytes ≡ raw_line_words (rawlines.Theorem t) = ap tokens_of b ∙ words_again (rawlines.Theorem t) good in
    let next = begun_taken known t e good free h in
    rw (words, not_skipped (rawlines.Theorem t), next, go) refl

canonical_items : (known : Known) (last : ℕ) (t : TheoremView) (all rest : Rest) → HasSpelling known.theorems t → defines known.notions t.title ≡ false → Shows all (map written_line (raw_lines_of known.theorems t)) rest
    → item_from known last None all ≡ found (OfTheorem t) rest
canonical_items known last t [] rest h free sh = absurd sh
canonical_items known last t (Err x ∷ all) rest h free sh = absurd sh
canonical_items known last t (Ok l ∷ all) rest h free sh =
    let o = in_order t.names h.point_names h.line_names h.circle_names h.fits.differ in
    let before = known.theorems in
    let proof = run_proof_lines before t h o in
    let d = shut_parser t proof.last in
    let first = with_title t.title in
    let script = script_raw_lines before (names_of_proof t) t.script in
    let front = stating_forms t ++ script in
    let runs : Runs before (Some first) front (Some d) =
    runs_append before (Some first) (Some (proving (started t) (begins t))) (Some d) (stating_forms t) script (run_statement before t h o) (proof.runs d (closed_last t proof.last) refl) in
    let whole : raw_lines_of before t ≡ rawlines.Theorem t.title ∷ (front ++ rawlines.End ∷ []) = ap (λ (fs : List RawLine). rawlines.Theorem t.title ∷ fs) (sym (append_assoc (stating_forms t) script (rawlines.End ∷ []))) in
    let shown : Shows (Ok l ∷ all) (map written_line (rawlines.Theorem t.title ∷ (front ++ rawlines.End ∷ []))) rest = subst (λ (fs : List RawLine). Shows (Ok l ∷ all) (map written_line fs) rest) whole sh in
    let left = reads_runs known last first d front (rawlines.End ∷ []) all rest runs shown.1 in
    first_read known last t.title first l all shown.0 h.title free (title_begins before t.title h.fits.new h.few_theorems) refl
    ∙ left.same ∙ end_read known last t proof.last left.ahead rest (ap (λ (s : Script). record t { script = s }) (same_script t.script h.script)) left.shown

-- as the grammar reads them
pub canonical_grammar : (known : Known) (last : ℕ) (t : TheoremView) (lines rest : Rest) → are_notions known.notions ≡ true → HasSpelling known.theorems t → defines known.notions t.title ≡ false → Shows lines (map written_line (raw_lines_of known.theorems t)) rest
    → grammar.item_from known last None lines ≡ Ok (Some (OfTheorem t, rest))
canonical_grammar known last t lines rest all h free sh = sym (items_read_alike known last lines all) ∙ canonical_items known last t lines rest h free sh
