-- What each line keeps of what is known of a theorem or of a definition, and so what is read is known to be.
use Rattle.std.proofs.Common.{◌≡◌, ℕ, ◌+◌, ◌<◌, Bool, true, false, cond, not, leb, ◌&&◌, ◌||◌, inl, inr, List, [], ◌∷◌, ◌++◌, length, length-append, map, replicate, Option, Some, None, Result, Ok, Err, refl, sym, ap, subst, ◌∙◌, arith}
use Rattle.std.specs.List.{list_all}
use Rattle.std.proofs.lemmas.Bool.{and_parts, and_from, lt-ltb, le-leb}
use Rattle.std.specs.Prelude.{◌⊎◌}
use Rattle.e_literal.specs.declared.object.Sort.{Sort}
use Rattle.e_literal.specs.declared.object.Scope.{Scope}
use Rattle.e_literal.specs.declared.literal.Lit.{Lit}
use Rattle.e_literal.specs.Literal.{all_in_scope}
use Rattle.e_literal.specs.Scopes.{nothing, with_sorts}
use Rattle.e_literal.specs.WellFormed.{is_well_formed}
use Rattle.e_literal.specs.Use.{is_statement}
use Rattle.e_text.specs.Tokens.{tokens_of}
use Rattle.e_theorem.specs.Notions.{as_stated, means_something}
use Rattle.e_deriv.specs.declared.names.Names.{Names}
use Rattle.e_deriv.specs.Fitting.{is_small, is_small_statement, all_objects}
use Rattle.e_line.specs.declared.fault.FaultKind.{FaultKind}
use Rattle.e_line.specs.declared.fault.What.TheVariants as limits
use Rattle.e_line.specs.declared.fault.BookFault.{BookFault}
use Rattle.e_line.specs.declared.literal.RawLit.{RawLit}
use Rattle.e_line.specs.declared.raw_line.RawLine.{RawLine}
use Rattle.e_line.specs.declared.raw_line.RawLine.TheVariants as rawlines
use Rattle.e_line.specs.declared.items.RawItem.{RawItem}
use Rattle.e_line.specs.declared.items.ListHead.{ListHead}
use Rattle.e_line.specs.declared.items.ListHead.TheVariants as list_heads
use Rattle.e_line.specs.declared.items.BookLine.{BookLine}
use Rattle.e_line.specs.declared.items.BookLine.TheVariants.{Plain, Define, Listed}
use Rattle.e_names.specs.declared.known.Known.{Known}
use Rattle.e_book.specs.declared.parser.Section.{Section}
use Rattle.e_book.specs.declared.parser.Section.TheVariants as places
use Rattle.e_book.specs.declared.parser.TheoremParser.{TheoremParser}
use Rattle.e_book.specs.declared.partial_item.PartialItem.{PartialItem}
use Rattle.e_line.specs.Reading.{◌>>=◌, with_front}
use Rattle.e_names.specs.TitledStatements.{TitledStatement, is_known}
use Rattle.e_names.specs.Taken.{is_taken}
use Rattle.e_names.specs.Titled.{defines, are_notions}
use Rattle.e_line.specs.Limits.{most_notions, most_expanded, within}
use Rattle.e_names.specs.Scope.{scope_of_names, right_count, lit_in, lits_in}
use Rattle.e_line.specs.LineLimits.{check_literal_limits}
use Rattle.e_names.specs.Canonical.{raw_of}
use Rattle.e_book.specs.ParserViews.{entry_of_parser}
use Rattle.e_book.specs.Steps.{line_may_come, with_declared, after_declare, after_show, with_title, begin, step}
use Rattle.e_book.specs.Book.{is_last}
use Rattle.e_line.specs.Items.{book_line_of, list_raw_line, is_show}
use Rattle.e_names.specs.Meanings.{items_in}
use Rattle.e_book.specs.Grammar.{Rest, is_skipped, put_at}
use Rattle.e_book.specs.Definitions.{BookItem, OfTheorem, OfNotion, Answer, has_notion_title, IsWellFormedItem}
use Rattle.e_book.specs.inner.Machine as machine
use Rattle.e_book.specs.inner.Machine.{names_there, is_ready, line_written_out, partial_item, begins_theorem, begins_definition, is_showing, defines_on, with_parser, goes_on, goes_on_with_items, line_step, notion_of_parser, item_of_partial, item_from, is_done}
use Rattle.e_line.proofs.base.Bound.{bind_ok, ok_is, read_ok, each_length}
use Rattle.e_names.proofs.titles.FreshTitles.{neither, was_free}
use Rattle.e_book.proofs.parsers.ParserFits.{HeadOf, Body, Good}
use Rattle.e_book.proofs.grammar.StatementLines.{IsStating}
use Rattle.e_book.proofs.grammar.PartialTied.{stating_declares, stating_shows}
use Rattle.e_names.proofs.read_lines.Citations.{counted}
use Rattle.e_book.proofs.parsers.ParserInvariants.{keeps, keeps_begin, good_begun}
use Rattle.e_book.proofs.fit_theorems.ReadSpelled.{Spelled, spelled_next, spelled_begin, done_spelled}
use Rattle.e_book.proofs.parsers.SameTitle.{same_title, title_begun}
use Rattle.e_names.proofs.read_lines.LiteralsOfRawLines.{Said, form_said}
use Rattle.e_line.proofs.read_lines.SumsOfLiterals.{LitsSaid}
use Rattle.e_line.proofs.read_lines.ItemsOfWords.{ItemsSaid}
use Rattle.e_names.proofs.read_lines.ItemsWritten.{items_said, items_some}
use Rattle.e_line.proofs.read_lines.LinesByWord.{ListHeadSaid, LineSaid, line_read_as}

-- ---- what is known

record GoodTheorem (known : Known) (d : TheoremParser) : Type 0 where
  good : Good known.theorems d
  spelled : Spelled known.theorems d
  title : defines known.notions d.title ≡ false

-- a definition is a statement so far; after its last line only what it means counts
abbrev StatesOf : List TitledStatement → Section → TheoremParser → Type 0
StatesOf known places.Done d = Unit {0}
StatesOf known p d = IsStating p × Body known p d

-- it means something from its first shown line on
abbrev MeansThere : Section → List Lit → Type 0
MeansThere places.Showing ls = 0 < length ls
MeansThere places.Done ls = 0 < length ls
MeansThere p ls = Unit {0}

record GoodDefinition (known : Known) (d : TheoremParser) : Type 0 where
  title : is_taken known d.title ≡ false
  head : HeadOf known.theorems d
  made : d.made ≡ []
  states : StatesOf known.theorems d.section d
  means : MeansThere d.section d.shown

abbrev GoodBy : Known → Bool → TheoremParser → Type 0
GoodBy known true d = GoodDefinition known d
GoodBy known false d = GoodTheorem known d

abbrev GoodPartial : Known → PartialItem → Type 0
GoodPartial known c = GoodBy known c.defines c.parser

-- ---- a line of a theorem

theorem_on : (known : Known) (d e : TheoremParser) (f : RawLine) → GoodTheorem known d → Said f → step known.theorems d f ≡ Ok e → GoodTheorem known e
theorem_on known d e f g s h = record {
  good = keeps known.theorems d e f g.good s h;
  spelled = spelled_next known.theorems d e f g.spelled s h;
  title = ap (λ (t : List ℕ). defines known.notions t) (same_title known.theorems d e f h) ∙ g.title;
}

-- ---- a line of a definition

good_there : (known : List TitledStatement) (d : TheoremParser) (p : Section) → d.section ≡ p → IsStating p → HeadOf known d → StatesOf known p d → Good known d
good_there known d places.Declaring at st h s = record { head = h; body = subst (λ (q : Section). Body known q d) (sym at) s.1 }
good_there known d places.Giving at st h s = record { head = h; body = subst (λ (q : Section). Body known q d) (sym at) s.1 }
good_there known d places.Making at st h s = record { head = h; body = subst (λ (q : Section). Body known q d) (sym at) s.1 }
good_there known d places.Showing at st h s = record { head = h; body = subst (λ (q : Section). Body known q d) (sym at) s.1 }
good_there known d p at st h s = absurd st

states_there : (known : List TitledStatement) (d : TheoremParser) (p : Section) → IsStating p → Body known p d → StatesOf known p d
states_there known d places.Declaring st b = (tt, b)
states_there known d places.Giving st b = (tt, b)
states_there known d places.Making st b = (tt, b)
states_there known d places.Showing st b = (tt, b)
states_there known d p st b = absurd st

declares_at : (p : Section) (sort : Sort) (new : List (List ℕ)) → line_may_come p (rawlines.Declare sort new) ≡ true → p ≡ places.Declaring
declares_at places.Declaring sort new a = refl
declares_at p sort new a = absurd cc

shows_at : (p : Section) (raws : List RawLit) → line_may_come p (rawlines.Show raws) ≡ true → IsStating p
shows_at places.Declaring raws a = tt
shows_at places.Giving raws a = tt
shows_at places.Making raws a = tt
shows_at places.Showing raws a = tt
shows_at p raws a = absurd cc

definition_more : (known : Known) (d e : TheoremParser) (f : RawLine) → GoodDefinition known d → IsStating d.section → IsStating e.section → e.made ≡ d.made → MeansThere e.section e.shown → Said f → step known.theorems d f ≡ Ok e → GoodDefinition known e
definition_more known d e f g at to made means s h =
    let good = keeps known.theorems d e f (good_there known.theorems d d.section refl at g.head g.states) s h in
    record {
      title = ap (λ (t : List ℕ). is_taken known t) (same_title known.theorems d e f h) ∙ g.title;
      head = good.head;
      made = made ∙ g.made;
      states = states_there known.theorems e e.section to good.body;
      means = means;
    }

definition_declares : (known : Known) (d e : TheoremParser) (sort : Sort) (new : List (List ℕ)) → GoodDefinition known d → Said (rawlines.Declare sort new) → defines_on d (rawlines.Declare sort new) ≡ Ok e → GoodDefinition known e
unfolding defines_on
definition_declares known d e sort new g s h =
    let next : Names → TheoremParser = λ names. record d { names = names; declared = d.declared ++ replicate (length new) sort } in
    let r = bind_ok (right_count (line_may_come d.section (rawlines.Declare sort new))) (λ right. after_declare d sort new) e h in
    let n = bind_ok (with_declared d.names sort new) (λ names. read_ok (next names)) e r.2 in
    let is : next n.0 ≡ e = ok_is (next n.0) e n.2 in
    let at : d.section ≡ places.Declaring = declares_at d.section sort new (counted _ r.0 r.1) in
    let to : e.section ≡ places.Declaring = ap (λ (x : TheoremParser). x.section) (sym is) ∙ at in
    definition_more known d e (rawlines.Declare sort new) g (subst IsStating (sym at) tt) (subst IsStating (sym to) tt) (ap (λ (x : TheoremParser). x.made) (sym is))
    (subst (λ (p : Section). MeansThere p e.shown) (sym to) tt) s (sym (stating_declares known.theorems d sort new) ∙ h)

definition_shows : (known : Known) (d e : TheoremParser) (raws : List RawLit) → GoodDefinition known d → Said (rawlines.Show raws) → defines_on d (rawlines.Show raws) ≡ Ok e → GoodDefinition known e
unfolding defines_on
definition_shows known d e raws g s h =
    let then : List Lit → TheoremParser = λ ls. record d { shown = ls; section = places.Showing } in
    let r = bind_ok (right_count (line_may_come d.section (rawlines.Show raws))) (λ right. after_show d raws) e h in
    let all = bind_ok (with_front d.shown (lits_in d.names raws)) (λ ls. check_literal_limits raws >>= λ few. read_ok (then ls)) e r.2 in
    let ls = bind_ok (lits_in d.names raws) (λ xs. read_ok (d.shown ++ xs)) all.0 all.1 in
    let f = bind_ok (check_literal_limits raws) (λ few. read_ok (then all.0)) e all.2 in
    let is : then all.0 ≡ e = ok_is (then all.0) e f.2 in
    let to : e.section ≡ places.Showing = ap (λ (x : TheoremParser). x.section) (sym is) in
    let count : 0 < length all.0 = omega (arith, s.0, each_length (lit_in d.names) raws ls.0 ls.1, length-append d.shown ls.0, ap (λ (x : List Lit). length x) (ok_is (d.shown ++ ls.0) all.0 ls.2)) in
    definition_more known d e (rawlines.Show raws) g (shows_at d.section raws (counted _ r.0 r.1)) (subst IsStating (sym to) tt) (ap (λ (x : TheoremParser). x.made) (sym is))
    (subst (λ (p : Section). MeansThere p e.shown) (sym to) (subst (λ (x : TheoremParser). 0 < length x.shown) is count)) s (sym (stating_shows known.theorems d raws) ∙ h)

showing_at : (p : Section) → is_showing p ≡ true → p ≡ places.Showing
showing_at places.Showing a = refl
showing_at p a = absurd cc

definition_ends : (known : Known) (d e : TheoremParser) → GoodDefinition known d → defines_on d rawlines.End ≡ Ok e → GoodDefinition known e
unfolding defines_on
definition_ends known d e g h =
    let last : TheoremParser = record d { section = places.Done } in
    let r = bind_ok (right_count (is_showing d.section)) (λ right. read_ok last) e h in
    let at : d.section ≡ places.Showing = showing_at d.section (counted _ r.0 r.1) in
    let some : 0 < length d.shown = subst (λ (p : Section). MeansThere p d.shown) at g.means in
    subst (λ (x : TheoremParser). GoodDefinition known x) (ok_is last e r.2) (record { title = g.title; head = g.head; made = g.made; states = tt; means = some })

definition_on : (known : Known) (d e : TheoremParser) (f : RawLine) → GoodDefinition known d → Said f → defines_on d f ≡ Ok e → GoodDefinition known e
unfolding defines_on
definition_on known d e (rawlines.Declare sort new) g s h = definition_declares known d e sort new g s h
definition_on known d e (rawlines.Show raws) g s h = definition_shows known d e raws g s h
definition_on known d e rawlines.End g s h = definition_ends known d e g h
definition_on known d e f g s h = absurd cc

-- ---- a line without items

plain_by : (b : Bool) (known : Known) (c e : PartialItem) (f : RawLine) → c.defines ≡ b → GoodBy known b c.parser → Said f
    → cond b (defines_on c.parser f >>= λ d. Ok (with_parser c d)) (step known.theorems c.parser f >>= λ d. Ok (with_parser c d)) ≡ Ok e → GoodPartial known e
plain_by true known c e f t g s h =
    let d = bind_ok (defines_on c.parser f) (λ d. read_ok (with_parser c d)) e h in
    subst (λ (x : PartialItem). GoodPartial known x) (ok_is (with_parser c d.0) e d.2) (subst (λ (b : Bool). GoodBy known b d.0) (sym t) (definition_on known c.parser d.0 f g s d.1))
plain_by false known c e f t g s h =
    let d = bind_ok (step known.theorems c.parser f) (λ d. read_ok (with_parser c d)) e h in
    subst (λ (x : PartialItem). GoodPartial known x) (ok_is (with_parser c d.0) e d.2) (subst (λ (b : Bool). GoodBy known b d.0) (sym t) (theorem_on known c.parser d.0 f g s d.1))

plain_kept : (known : Known) (c e : PartialItem) (f : RawLine) → GoodPartial known c → Said f → goes_on known c f ≡ Ok e → GoodPartial known e
unfolding goes_on
plain_kept known c e f g s h = plain_by c.defines known c e f refl g s h

-- ---- a line with items

-- what spelling would say of the line as it is written out
out_said : (known : Known) (d : TheoremParser) (line : ListHead) (is : List RawItem) (w : RawLine × ℕ) → are_notions known.notions ≡ true → ListHeadSaid line → 0 < length is → ItemsSaid is → line_written_out known.notions d line is ≡ Ok w → Said w.0
out_said known d line is w all head some said e =
    let ns = names_there d in
    let out : List Lit × ℕ → RawLine × ℕ = λ p. (list_raw_line line (map (raw_of ns) p.0), p.1) in
    let r = bind_ok (is_ready d line) (λ ready. items_in known.notions ns 0 is >>= λ p. read_ok (out p)) w e in
    let p = bind_ok (items_in known.notions ns 0 is) (λ p. read_ok (out p)) w r.2 in
    subst (λ (x : RawLine × ℕ). Said x.0) (ok_is (out p.0) w p.2)
    (raw_line_of line (map (raw_of ns) p.0.0) head (items_some known.notions ns is p.0 all some p.1) (items_said known.notions ns 0 is p.0 all said p.1))
  where
    raw_line_of : (line : ListHead) (raws : List RawLit) → ListHeadSaid line → 0 < length raws → LitsSaid raws → Said (list_raw_line line raws)
    raw_line_of list_heads.Given raws h n s = s
    raw_line_of list_heads.Show raws h n s = (n, s)
    raw_line_of list_heads.Claim raws h n s = (n, s)
    raw_line_of (list_heads.Superpose args new) raws h n s = (h.0, h.1, n, s)

listed_kept : (known : Known) (c e : PartialItem) (line : ListHead) (is : List RawItem) → are_notions known.notions ≡ true → GoodPartial known c → ListHeadSaid line → 0 < length is → ItemsSaid is → goes_on_with_items known c line is ≡ Ok e → GoodPartial known e
unfolding goes_on_with_items
listed_kept known c e line is all g head some said h =
    let add : (RawLine × ℕ) → PartialItem → Result PartialItem FaultKind = λ w x. within (x.expanded + w.1) most_expanded limits.Expanded >>= λ few. read_ok (record x { expanded = x.expanded + w.1 }) in
    let r = bind_ok (right_count (not c.defines || is_show line)) (λ right. line_written_out known.notions c.parser line is >>= λ w. goes_on known c w.0 >>= λ x. add w x) e h in
    let w = bind_ok (line_written_out known.notions c.parser line is) (λ w. goes_on known c w.0 >>= λ x. add w x) e r.2 in
    let x = bind_ok (goes_on known c w.0.0) (λ x. add w.0 x) e w.2 in
    let f = bind_ok (within (x.0.expanded + w.0.1) most_expanded limits.Expanded) (λ few. read_ok (record x.0 { expanded = x.0.expanded + w.0.1 })) e x.2 in
    subst (λ (y : PartialItem). GoodPartial known y) (ok_is (record x.0 { expanded = x.0.expanded + w.0.1 }) e f.2)
    (plain_kept known c x.0 w.0.0 g (out_said known c.parser line is w.0 all head some said w.1) x.1)

-- ---- each line

next_kept : (known : Known) (c e : PartialItem) (words : List (List ℕ)) (l : BookLine) → are_notions known.notions ≡ true → GoodPartial known c → LineSaid words l → machine.step known c l ≡ Ok e → GoodPartial known e
unfolding machine.step
next_kept known c e words (Plain f) all g said h = plain_kept known c e f g (form_said words f said) h
next_kept known c e words (Define t) all g said h = absurd cc
next_kept known c e words (Listed line is) all g said h = listed_kept known c e line is all g said.0 said.1 said.2 h

free_title : (known : Known) (f : RawLine) (d : TheoremParser) → has_notion_title known.notions f ≡ false → begin known.theorems f ≡ Ok d → defines known.notions d.title ≡ false
unfolding begin
free_title known (rawlines.Theorem t) d n b = ap (λ (x : List ℕ). defines known.notions x) (title_begun known.theorems t d b) ∙ n
free_title known f d n b = absurd cc

first_theorem : (known : Known) (e : PartialItem) (f : RawLine) → Said f → begins_theorem known f ≡ Ok e → GoodPartial known e
unfolding begins_theorem
first_theorem known e f s h =
    let n = was_free (has_notion_title known.notions f) (begin known.theorems f >>= λ d. Ok (partial_item false d)) e h in
    let d = bind_ok (begin known.theorems f) (λ d. read_ok (partial_item false d)) e n.1 in
    subst (λ (x : PartialItem). GoodPartial known x) (ok_is (partial_item false d.0) e d.2)
    (record { good = keeps_begin known.theorems f d.0 d.1; spelled = spelled_begin known.theorems f d.0 s d.1; title = free_title known f d.0 n.0 d.1 })

first_definition : (known : Known) (e : PartialItem) (t : List ℕ) → begins_definition known t ≡ Ok e → GoodPartial known e
unfolding begins_definition
first_definition known e t h =
    let n = was_free (is_taken known t) (within (length known.notions + 1) most_notions limits.Notions >>= λ few. read_ok (partial_item true (with_title t))) e h in
    let w = bind_ok (within (length known.notions + 1) most_notions limits.Notions) (λ few. read_ok (partial_item true (with_title t))) e n.1 in
    let good = good_begun known.theorems t (neither (is_known known.theorems t) (defines known.notions t) n.0).0 in
    subst (λ (x : PartialItem). GoodPartial known x) (ok_is (partial_item true (with_title t)) e w.2) (record { title = n.0; head = good.head; made = refl; states = (tt, good.body); means = tt })

first_kept : (known : Known) (e : PartialItem) (words : List (List ℕ)) (l : BookLine) → LineSaid words l → machine.begins known l ≡ Ok e → GoodPartial known e
unfolding machine.begins
first_kept known e words (Plain f) said h = first_theorem known e f (form_said words f said) h
first_kept known e words (Define t) said h = first_definition known e t h
first_kept known e words (Listed line is) said h = absurd cc

abbrev GoodSoFar : Known → Option PartialItem → Type 0
GoodSoFar known None = Unit {0}
GoodSoFar known (Some c) = GoodPartial known c

line_kept : (known : Known) (o : Option PartialItem) (words : List (List ℕ)) (e : PartialItem) → are_notions known.notions ≡ true → GoodSoFar known o → line_step known o words ≡ Ok e → GoodPartial known e
unfolding line_step
line_kept known None words e all g h = let l = bind_ok (book_line_of words) (λ l. machine.begins known l) e h in first_kept known e words l.0 (line_read_as words l.0 l.1) l.2
line_kept known (Some c) words e all g h = let l = bind_ok (book_line_of words) (λ l. machine.step known c l) e h in next_kept known c e words l.0 all g (line_read_as words l.0 l.1) l.2

-- ---- what has come whole

last_is : (p : Section) → is_last p ≡ true → p ≡ places.Done
last_is places.Done a = refl
last_is p a = absurd cc

each_shown : (p q : Lit → Bool) (ls : List Lit) → list_all p ls ≡ true → list_all q ls ≡ true → list_all (λ l. p l && q l) ls ≡ true
each_shown p q [] h k = refl
each_shown p q (l ∷ ls) h k =
    let a = and_parts (p l) (list_all p ls) h in
    let b = and_parts (q l) (list_all q ls) k in
    rw (a.0, b.0, each_shown p q ls a.1 b.1) refl

definition_good : (known : Known) (d : TheoremParser) → GoodDefinition known d → is_last d.section ≡ true → IsWellFormedItem known (OfNotion (notion_of_parser d))
definition_good known d g a =
    let n = (notion_of_parser d).notion in
    let some : 0 < length d.shown = subst (λ (p : Section). MeansThere p d.shown) (last_is d.section a) g.means in
    let scope : with_sorts nothing d.declared ≡ scope_of_names d.names = sym (ap (with_sorts (with_sorts nothing d.declared)) g.made) ∙ g.head.scope in
    let shown : list_all (all_in_scope (with_sorts nothing d.declared)) d.shown ≡ true = subst (λ (s : Scope). list_all (all_in_scope s) d.shown ≡ true) (sym scope) g.head.shown in
    let states : is_statement (as_stated n) ≡ true = each_shown is_well_formed (all_in_scope (with_sorts nothing d.declared)) d.shown g.head.good_shown shown in
    let few = g.head.few in
    let small : is_small (all_objects (as_stated n)) ≡ true =
    subst (λ (s : Scope). is_small s ≡ true) (sym scope)
    (and_from (leb (length d.names.points) 1000) (leb (length d.names.lines) 1000 && leb (length d.names.circles) 1000) (le-leb _ _ (omega (arith, few.points)))
    (and_from (leb (length d.names.lines) 1000) (leb (length d.names.circles) 1000) (le-leb _ _ (omega (arith, few.lines))) (le-leb _ _ (omega (arith, few.circles))))) in
    let statement : is_small_statement (as_stated n) ≡ true = and_from (is_statement (as_stated n)) (is_small (all_objects (as_stated n))) states small in
    (g.title, and_from (means_something n) (is_small_statement (as_stated n)) (lt-ltb 0 (length d.shown) some) statement)

whole_by : (b : Bool) (known : Known) (d : TheoremParser) → GoodBy known b d → is_last d.section ≡ true → IsWellFormedItem known (cond b (OfNotion (notion_of_parser d)) (OfTheorem (entry_of_parser d)))
whole_by true known d g a = definition_good known d g a
whole_by false known d g a = (done_spelled known.theorems d g.good g.spelled a, g.title)

whole_good : (known : Known) (c : PartialItem) → GoodPartial known c → is_done c ≡ true → IsWellFormedItem known (item_of_partial c)
whole_good known c g a = whole_by c.defines known c.parser g a

-- ---- all lines

abbrev found : BookItem → Rest → Answer
found i rest = Ok (Some (i, rest))

same_item : (i j : BookItem) (xs ys : Rest) → found i xs ≡ found j ys → i ≡ j
same_item i j xs ys e = ap (λ (p : BookItem × Rest). p.0) (pair_is (i, xs) (j, ys) e) where
  pair_is : (p q : BookItem × Rest) → found p.0 p.1 ≡ found q.0 q.1 → p ≡ q
  pair_is p q e = cc

either_read : (b : Bool) (x y z : Answer) → cond b x y ≡ z → ((b ≡ true) × (x ≡ z)) ⊎ ((b ≡ false) × (y ≡ z))
either_read true x y z e = inl (refl, e)
either_read false x y z e = inr (refl, e)

put_ok : (n : ℕ) (r : Result PartialItem FaultKind) (c : PartialItem) → put_at n r ≡ Ok c → r ≡ Ok c
put_ok n (Ok x) c e = cc
put_ok n (Err k) c e = absurd cc

reading_good : (known : Known) (last : ℕ) (o : Option PartialItem) (lines rest : Rest) (i : BookItem) → are_notions known.notions ≡ true → GoodSoFar known o → item_from known last o lines ≡ found i rest → IsWellFormedItem known i
reading_good known last None [] rest i all g e = absurd cc
reading_good known last (Some c) [] rest i all g e = absurd cc
reading_good known last o (Err f ∷ lines) rest i all g e = absurd cc
reading_good known last o (Ok line ∷ lines) rest i all g e =
    let words = tokens_of line.bytes in
    let next : Result PartialItem BookFault = put_at line.number (line_step known o words) in
    let then : PartialItem → Answer = λ c. cond (is_done c) (found (item_of_partial c) lines) (item_from known last (Some c) lines) in
    elim (either_read (is_skipped words) (item_from known last o lines) (next >>= then) (found i rest) e) [
      | inl s ↦ reading_good known last o lines rest i all g s.1
      | inr s ↦
          let c = bind_ok next then (Some (i, rest)) s.1 in
          let good = line_kept known o words c.0 all g (put_ok line.number (line_step known o words) c.0 c.1) in
          elim (either_read (is_done c.0) (found (item_of_partial c.0) lines) (item_from known last (Some c.0) lines) (found i rest) c.2) [
            | inl q ↦ subst (λ (x : BookItem). IsWellFormedItem known x) (same_item (item_of_partial c.0) i lines rest q.1) (whole_good known c.0 good q.0)
            | inr q ↦ reading_good known last (Some c.0) lines rest i all good q.1
          ]
    ]

-- what is read has a spelling, or is a notion
pub read_is_well_formed : (known : Known) (last : ℕ) (i : BookItem) (lines rest : Rest) → are_notions known.notions ≡ true → item_from known last None lines ≡ Ok (Some (i, rest)) → IsWellFormedItem known i
read_is_well_formed known last i lines rest all e = reading_good known last None lines rest i all tt e
