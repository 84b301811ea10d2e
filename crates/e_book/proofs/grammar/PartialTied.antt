-- The parser makes of each line of a book what the grammar makes of it: of theorems with items, and of definitions.
use Rattle.std.proofs.Common.{◌≡◌, ℕ, ◌+◌, ◌<◌, Bool, true, false, cond, not, leb, ◌||◌, List, [], ◌∷◌, ◌++◌, length, map, replicate, Option, Some, None, Result, Ok, Err, inl, inr, refl, sym, ap, subst, ◌∙◌, arith}
use Rattle.std.specs.Prelude.{◌⊎◌}
use Rattle.e_literal.specs.declared.object.Sort.{Sort}
use Rattle.e_literal.specs.declared.literal.Lit.{Lit}
use Rattle.e_deriv.specs.declared.names.Names.{Names}
use Rattle.e_text.specs.Tokens.{tokens_of}
use Rattle.e_line.specs.declared.fault.FaultKind.{FaultKind}
use Rattle.e_line.specs.declared.fault.FaultKind.TheVariants.{Malformed, NameTaken, Limit}
use Rattle.e_line.specs.declared.fault.What.TheVariants as limits
use Rattle.e_line.specs.declared.literal.RawLit.{RawLit}
use Rattle.e_line.specs.declared.raw_line.RawLine.{RawLine}
use Rattle.e_line.specs.declared.raw_line.RawLine.TheVariants as rawlines
use Rattle.e_line.specs.declared.items.RawItem.{RawItem}
use Rattle.e_line.specs.declared.items.ListHead.{ListHead}
use Rattle.e_line.specs.declared.items.ListHead.TheVariants as list_heads
use Rattle.e_line.specs.declared.items.BookLine.{BookLine}
use Rattle.e_line.specs.declared.items.BookLine.TheVariants.{Plain, Define, Listed}
use Rattle.e_names.specs.declared.known.Known.{Known}
use Rattle.e_book.specs.declared.parser.Section.{Section}
use Rattle.e_book.specs.declared.parser.Section.TheVariants as places
use Rattle.e_book.specs.declared.parser.TheoremParser.{TheoremParser}
use Rattle.e_book.specs.declared.partial_item.PartialItem.{PartialItem as Held}
use Rattle.e_line.specs.Reading.{◌>>=◌, with_front}
use Rattle.e_names.specs.TitledStatements.{TitledStatement}
use Rattle.e_names.specs.Taken.{is_taken}
use Rattle.e_names.specs.Titled.{are_notions}
use Rattle.e_line.specs.Limits.{most_notions, most_expanded, within}
use Rattle.e_line.specs.LineLimits.{check_literal_limits}
use Rattle.e_book.specs.LineLimits.{FewNamed}
use Rattle.e_names.specs.Scope.{right_count, fresh, lits_in}
use Rattle.e_names.specs.Superposes.{placed_in, superpose_in}
use Rattle.e_names.specs.Canonical.{raw_of}
use Rattle.e_book.specs.Steps.{line_may_come, after_declare, after_show, with_title, begin, after_line, step}
use Rattle.e_line.specs.Items.{book_line_of, list_raw_line, is_show}
use Rattle.e_names.specs.Meanings.{items_in}
use Rattle.e_book.specs.Open.{Head, Open, Stating, Proving, BySuperposition}
use Rattle.e_book.specs.Counts.{context_at, limits_kept, all_kept}
use Rattle.e_book.specs.Grammar.{empty_head, begins, with_new, none_given, none_made, at_its_place, states, goes_on as goes_on_there, next, line_after, is_empty, Rest, is_skipped, put_at}
use Rattle.e_book.specs.Definitions.{BookItem, PartialItem, InTheorem, InDefinition, Defined, has_notion_title, after_first_line, says_more, still_defined, ends_definition, plain_line, written_out, with_more_literals, after_listed_line, next_line, item_after_words, Answer, OfTheorem, OfNotion, item_ended, whole_or, item_from}
use Rattle.e_line.specs.Faults.{at_line}
use Rattle.e_book.specs.Book.{is_last}
use Rattle.e_book.specs.ParserViews.{statement_of_parser, entry_of_parser}
use Rattle.e_book.specs.inner.Machine as machine
use Rattle.e_book.specs.inner.Machine.{names_at_place, head_names, line_written_out, partial_item, begins_theorem, begins_definition, is_showing, defines_on, with_parser, goes_on, goes_on_with_items, line_step, notion_of_parser, item_of_partial}
use Rattle.e_line.proofs.base.Bound.{bind_ok, ok_is, read_ok}
use Rattle.e_book.proofs.grammar.LimitTests.{by_test, then_limits}
use Rattle.e_book.proofs.grammar.ParserState.{around_of, head_of, open_there, open_of, BlockOf, UnprovedOf, Stands, Body, Tied, Alike}
use Rattle.e_book.proofs.grammar.StatementLines.{IsStating, may_give}
use Rattle.e_book.proofs.grammar.GrammarRead.{HasItems, items_read, step_alike, begin_alike}
use Rattle.e_names.proofs.read_lines.ItemsWritten.{items_some}
use Rattle.e_line.proofs.read_lines.LinesByWord.{LineSaid, line_read_as}

-- ---- what the parser holds is what has been said

abbrev pub definition_there : TheoremParser → ℕ → Section → PartialItem
definition_there d n places.Done = Defined (notion_of_parser d)
definition_there d n p = InDefinition (head_of d) n

abbrev pub said_by : Bool → TheoremParser → ℕ → PartialItem
said_by true d n = definition_there d n d.section
said_by false d n = InTheorem (open_of d) n

abbrev pub said_of : Held → PartialItem
said_of c = said_by c.defines c.parser c.expanded

-- a definition has no proof
abbrev pub DefinitionTied : Section → TheoremParser → Type 0
DefinitionTied places.Done d = Unit {0}
DefinitionTied p d = IsStating p × Stands p d × UnprovedOf d

abbrev pub TiedBy : List TitledStatement → Bool → TheoremParser → Type 0
TiedBy known true d = FewNamed d.names × DefinitionTied d.section d
TiedBy known false d = Tied known d

abbrev pub TiedPartial : Known → Held → Type 0
TiedPartial known c = TiedBy known.theorems c.defines c.parser

-- the parser's answer to a line, and the grammar's: one fault, or what the parser holds is what has been said
abbrev pub AlikePartial : Known → Result Held FaultKind → Result PartialItem FaultKind → Type 0
AlikePartial known (Ok e) (Ok n) = (said_of e ≡ n) × TiedPartial known e
AlikePartial known (Ok e) (Err k) = ⊥
AlikePartial known (Err j) (Ok n) = ⊥
AlikePartial known (Err j) (Err k) = j ≡ k

-- after what both read alike
both : {A : Type 0} (known : Known) (r : Result A FaultKind) (f : A → Result Held FaultKind) (g : A → Result PartialItem FaultKind) → ((x : A) → r ≡ Ok x → AlikePartial known (f x) (g x)) → AlikePartial known (r >>= f) (r >>= g)
both known (Ok x) f g h = h x refl
both known (Err k) f g h = refl

-- ---- a theorem

in_theorem : (known : Known) (c : Held) (n : ℕ) (r : Result TheoremParser FaultKind) (q : Result Open FaultKind) → c.defines ≡ false → c.expanded ≡ n → Alike known.theorems r q
    → AlikePartial known (r >>= λ d. Ok (with_parser c d)) (q >>= λ o. Ok (InTheorem o n))
in_theorem known c n (Ok d) (Ok o) t e a = (ap (λ (b : Bool). said_by b d c.expanded) t ∙ ap (λ (m : ℕ). InTheorem (open_of d) m) e ∙ ap (λ (x : Open). InTheorem x n) a.0, subst (λ (b : Bool). TiedBy known.theorems b d) (sym t) a.1)
in_theorem known c n (Err j) (Err k) t e a = a
in_theorem known c n (Ok d) (Err k) t e a = absurd a
in_theorem known c n (Err j) (Ok o) t e a = absurd a

-- ---- a definition

-- a line of a statement leaves a statement
declared_states : (h : Head) (sort : Sort) (new : List (List ℕ)) (o : Open) → states h (rawlines.Declare sort new) ≡ Ok o → (g : Head) × (o ≡ Stating g)
declared_states h sort new o e = by (none_given h.statement) e where
  g : Head
  g = record h { names = with_new h.names sort new; statement = record h.statement { declared = h.statement.declared ++ replicate (length new) sort } }

  by : (b : Bool) → at_its_place b (fresh h.names [] new >>= λ free. read_ok (Stating g)) ≡ Ok o → (g : Head) × (o ≡ Stating g)
  by true k = let f = bind_ok (fresh h.names [] new) (λ free. read_ok (Stating g)) o k in (g, sym (ok_is (Stating g) o f.2))
  by false k = absurd cc

shown_states : (h : Head) (raws : List RawLit) (o : Open) → states h (rawlines.Show raws) ≡ Ok o → (g : Head) × (o ≡ Stating g)
shown_states h raws o e =
    let then : List Lit → Head = λ ls. record h { statement = record h.statement { shown = h.statement.shown ++ ls } } in
    let ls = bind_ok (lits_in h.names raws) (λ ls. read_ok (Stating (then ls))) o e in
    (then ls.0, sym (ok_is (Stating (then ls.0)) o ls.2))

stating_after : (known : List TitledStatement) (h : Head) (f : RawLine) (o : Open) → says_more f ≡ true → line_after known (Some (Stating h)) f ≡ Ok o → (g : Head) × (o ≡ Stating g)
stating_after known h (rawlines.Declare sort new) o m e =
    let a = bind_ok (states h (rawlines.Declare sort new)) (then_limits known (rawlines.Declare sort new)) o e in
    let k = bind_ok (all_kept (limits_kept known (rawlines.Declare sort new) a.0)) (λ kept. read_ok a.0) o a.2 in
    let s = declared_states h sort new a.0 a.1 in (s.0, sym (ok_is a.0 o k.2) ∙ s.1)
stating_after known h (rawlines.Show raws) o m e =
    let a = bind_ok (states h (rawlines.Show raws)) (then_limits known (rawlines.Show raws)) o e in
    let k = bind_ok (all_kept (limits_kept known (rawlines.Show raws) a.0)) (λ kept. read_ok a.0) o a.2 in
    let s = shown_states h raws a.0 a.1 in (s.0, sym (ok_is a.0 o k.2) ∙ s.1)
stating_after known h f o m e = absurd cc

-- a parser at such a place is a statement
stating_parser : (d : TheoremParser) (p : Section) (g : Head) → open_there d p ≡ Stating g → IsStating p
stating_parser d places.Declaring g e = tt
stating_parser d places.Giving g e = tt
stating_parser d places.Making g e = tt
stating_parser d places.Showing g e = tt
stating_parser d places.Proving g e = absurd cc
stating_parser d places.Splitting g e = absurd cc
stating_parser d places.Closed g e = absurd cc
stating_parser d places.Done g e = absurd cc

head_there : (d : TheoremParser) (p : Section) → IsStating p → open_there d p ≡ Stating (head_of d)
head_there d places.Declaring s = refl
head_there d places.Giving s = refl
head_there d places.Making s = refl
head_there d places.Showing s = refl
head_there d p s = absurd s

definition_at : (d : TheoremParser) (n : ℕ) (p : Section) → IsStating p → definition_there d n p ≡ InDefinition (head_of d) n
definition_at d n places.Declaring s = refl
definition_at d n places.Giving s = refl
definition_at d n places.Making s = refl
definition_at d n places.Showing s = refl
definition_at d n p s = absurd s

tied_body : (known : List TitledStatement) (d : TheoremParser) (p : Section) → IsStating p → Body known p d → DefinitionTied p d
tied_body known d places.Declaring s b = (tt, b.0, b.1)
tied_body known d places.Giving s b = (tt, b.0, b.1)
tied_body known d places.Making s b = (tt, b.0, b.1)
tied_body known d places.Showing s b = (tt, b.0, b.1)
tied_body known d p s b = absurd s

body_tied : (known : List TitledStatement) (d : TheoremParser) (p : Section) → IsStating p → DefinitionTied p d → Body known p d
body_tied known d places.Declaring s t = (t.1, t.2)
body_tied known d places.Giving s t = (t.1, t.2)
body_tied known d places.Making s t = (t.1, t.2)
body_tied known d places.Showing s t = (t.1, t.2)
body_tied known d p s t = absurd s

in_definition : (known : Known) (c : Held) (h : Head) (f : RawLine) (n : ℕ) (r : Result TheoremParser FaultKind) → c.defines ≡ true → c.expanded ≡ n → says_more f ≡ true → Alike known.theorems r (line_after known.theorems (Some (Stating h)) f)
    → AlikePartial known (r >>= λ d. Ok (with_parser c d)) (line_after known.theorems (Some (Stating h)) f >>= λ o. still_defined n o)
in_definition known c h f n r t e m a = by r (line_after known.theorems (Some (Stating h)) f) (λ o k. stating_after known.theorems h f o m k) a where
  by : (r : Result TheoremParser FaultKind) (q : Result Open FaultKind) → ((o : Open) → q ≡ Ok o → (g : Head) × (o ≡ Stating g)) → Alike known.theorems r q
      → AlikePartial known (r >>= λ d. Ok (with_parser c d)) (q >>= λ o. still_defined n o)
  by (Ok d) (Ok o) s a =
      let g = s o refl in
      let st = stating_parser d d.section g.0 (a.0 ∙ g.1) in
      let still : still_defined n o ≡ Ok (InDefinition (head_of d) n) = ap (still_defined n) (sym a.0 ∙ head_there d d.section st) in
      subst (λ (x : Result PartialItem FaultKind). AlikePartial known (Ok (with_parser c d)) x) (sym still) (
        ap (λ (b : Bool). said_by b d c.expanded) t ∙ definition_at d c.expanded d.section st ∙ ap (λ (k : ℕ). InDefinition (head_of d) k) e,
        subst (λ (b : Bool). TiedBy known.theorems b d) (sym t) (a.1.names, tied_body known.theorems d d.section st a.1.body),
      )
  by (Err j) (Err k) s a = a
  by (Ok d) (Err k) s a = absurd a
  by (Err j) (Ok o) s a = absurd a

-- a test before a line is that of its place
by_place : (b : Bool) (r : Result TheoremParser FaultKind) → (right_count b >>= λ right. r) ≡ cond b r (Err Malformed)
by_place true r = refl
by_place false r = refl

-- the last line of a definition
ends_alike : (known : Known) (c : Held) (d : TheoremParser) (p : Section) → d.section ≡ p → c.defines ≡ true → FewNamed d.names → DefinitionTied p d → IsStating p
    → AlikePartial known ((right_count (is_showing p) >>= λ right. Ok (record d { section = places.Done })) >>= λ x. Ok (with_parser c x)) (ends_definition (head_of d) rawlines.End)
ends_alike known c d places.Declaring at t few body s = let none : is_empty d.shown ≡ true = body.1.2 in rw none refl
ends_alike known c d places.Giving at t few body s = let none : is_empty d.shown ≡ true = body.1.2 in rw none refl
ends_alike known c d places.Making at t few body s = let none : is_empty d.shown ≡ true = body.1.1 in rw none refl
ends_alike known c d places.Showing at t few body s =
    let e : TheoremParser = record d { section = places.Done } in
    let some : is_empty d.shown ≡ false = body.1 in
    rw some (ap (λ (b : Bool). said_by b e c.expanded) t, subst (λ (b : Bool). TiedBy known.theorems b e) (sym t) (few, tt))
ends_alike known c d p at t few body s = absurd s

-- ---- a line without items

pub stating_declares : (known : List TitledStatement) (d : TheoremParser) (sort : Sort) (new : List (List ℕ)) → defines_on d (rawlines.Declare sort new) ≡ step known d (rawlines.Declare sort new)
unfolding defines_on step after_line
stating_declares known d sort new = by_place (line_may_come d.section (rawlines.Declare sort new)) (after_declare d sort new)

pub stating_shows : (known : List TitledStatement) (d : TheoremParser) (raws : List RawLit) → defines_on d (rawlines.Show raws) ≡ step known d (rawlines.Show raws)
unfolding defines_on step after_line
stating_shows known d raws = by_place (line_may_come d.section (rawlines.Show raws)) (after_show d raws)

-- more is said in a definition
more_said : (known : Known) (c : Held) (f : RawLine) → IsStating c.parser.section → c.defines ≡ true → says_more f ≡ true → FewNamed c.parser.names → DefinitionTied c.parser.section c.parser → HasItems f → defines_on c.parser f ≡ step known.theorems c.parser f
    → AlikePartial known (defines_on c.parser f >>= λ x. Ok (with_parser c x)) (line_after known.theorems (Some (Stating (head_of c.parser))) f >>= λ o. still_defined c.expanded o)
more_said known c f st t m few body some is =
    let d = c.parser in
    let tied : Tied known.theorems d = record { names = few; body = body_tied known.theorems d d.section st body } in
    let alike = subst (λ (o : Open). Alike known.theorems (step known.theorems d f) (line_after known.theorems (Some o) f)) (head_there d d.section st) (step_alike known.theorems d f tied some) in
    subst (λ (r : Result TheoremParser FaultKind). AlikePartial known (r >>= λ x. Ok (with_parser c x)) (line_after known.theorems (Some (Stating (head_of d))) f >>= λ o. still_defined c.expanded o)) (sym is)
    (in_definition known c (head_of d) f c.expanded (step known.theorems d f) t refl m alike)

plain_stating : (known : Known) (c : Held) (f : RawLine) → IsStating c.parser.section → c.defines ≡ true → FewNamed c.parser.names → DefinitionTied c.parser.section c.parser → HasItems f
    → AlikePartial known (defines_on c.parser f >>= λ x. Ok (with_parser c x)) (plain_line known (InDefinition (head_of c.parser) c.expanded) f)
unfolding defines_on
plain_stating known c (rawlines.Declare sort new) st t few body some = more_said known c (rawlines.Declare sort new) st t refl few body some (stating_declares known.theorems c.parser sort new)
plain_stating known c (rawlines.Show raws) st t few body some = more_said known c (rawlines.Show raws) st t refl few body some (stating_shows known.theorems c.parser raws)
plain_stating known c rawlines.End st t few body some = ends_alike known c c.parser c.parser.section refl t few body st
plain_stating known c f st t few body some = refl

-- after its last line nothing may come
plain_done : (known : Known) (c : Held) (d : TheoremParser) (f : RawLine) → d.section ≡ places.Done → AlikePartial known (defines_on d f >>= λ x. Ok (with_parser c x)) (plain_line known (Defined (notion_of_parser d)) f)
unfolding defines_on
plain_done known c d (rawlines.Declare sort new) at = rw at refl
plain_done known c d (rawlines.Show raws) at = rw at refl
plain_done known c d rawlines.End at = rw at refl
plain_done known c d f at = refl

at_stating : (known : Known) (c : Held) (p : Section) (f : RawLine) → c.parser.section ≡ p → IsStating p → c.defines ≡ true → FewNamed c.parser.names → DefinitionTied p c.parser → HasItems f
    → AlikePartial known (defines_on c.parser f >>= λ x. Ok (with_parser c x)) (plain_line known (definition_there c.parser c.expanded p) f)
at_stating known c p f at st t few body some =
    subst (λ (x : PartialItem). AlikePartial known (defines_on c.parser f >>= λ x. Ok (with_parser c x)) (plain_line known x f)) (sym (definition_at c.parser c.expanded p st))
    (plain_stating known c f (subst IsStating (sym at) st) t few (subst (λ (q : Section). DefinitionTied q c.parser) (sym at) body) some)

plain_at : (known : Known) (c : Held) (p : Section) (f : RawLine) → c.parser.section ≡ p → c.defines ≡ true → FewNamed c.parser.names → DefinitionTied p c.parser → HasItems f
    → AlikePartial known (defines_on c.parser f >>= λ x. Ok (with_parser c x)) (plain_line known (definition_there c.parser c.expanded p) f)
plain_at known c places.Done f at t few body some = plain_done known c c.parser f at
plain_at known c places.Declaring f at t few body some = at_stating known c places.Declaring f at tt t few body some
plain_at known c places.Giving f at t few body some = at_stating known c places.Giving f at tt t few body some
plain_at known c places.Making f at t few body some = at_stating known c places.Making f at tt t few body some
plain_at known c places.Showing f at t few body some = at_stating known c places.Showing f at tt t few body some
plain_at known c places.Proving f at t few body some = absurd body.0
plain_at known c places.Splitting f at t few body some = absurd body.0
plain_at known c places.Closed f at t few body some = absurd body.0

plain_by : (b : Bool) (known : Known) (c : Held) (f : RawLine) → c.defines ≡ b → TiedBy known.theorems b c.parser → HasItems f
    → AlikePartial known (cond b (defines_on c.parser f >>= λ d. Ok (with_parser c d)) (step known.theorems c.parser f >>= λ d. Ok (with_parser c d))) (plain_line known (said_by b c.parser c.expanded) f)
plain_by true known c f t tied some = plain_at known c c.parser.section f refl t tied.0 tied.1 some
plain_by false known c f t tied some = in_theorem known c c.expanded (step known.theorems c.parser f) (line_after known.theorems (Some (open_of c.parser)) f) t refl (step_alike known.theorems c.parser f tied some)

plain_alike : (known : Known) (c : Held) (f : RawLine) → TiedPartial known c → HasItems f → AlikePartial known (goes_on known c f) (plain_line known (said_of c) f)
unfolding goes_on
plain_alike known c f tied some = plain_by c.defines known c f refl tied some

-- ---- a line with items

-- one fault, or none
abbrev SameFault : {A B : Type 0} → Result A FaultKind → Result B FaultKind → Type 0
SameFault (Ok x) (Ok y) = Unit {0}
SameFault (Err j) (Err k) = j ≡ k
SameFault r q = ⊥

abbrev fault : {C : Type 0} → FaultKind → Result C FaultKind
fault z = Err z

same_then : {A B C : Type 0} (r : Result A FaultKind) (q : Result B FaultKind) (x y : Result C FaultKind) → SameFault r q → x ≡ y → (r >>= λ a. x) ≡ (q >>= λ b. y)
same_then (Ok a) (Ok b) x y s e = e
same_then (Err j) (Err k) x y s e = ap (λ (z : FaultKind). fault z) s
same_then (Ok a) (Err k) x y s e = absurd s
same_then (Err j) (Ok b) x y s e = absurd s

abbrev all_right : Result (Unit {0}) FaultKind
all_right = Ok tt

placed : (a b : Bool) (n : Open) → a ≡ b → SameFault (right_count a >>= λ right. all_right) (at_its_place b (read_ok n))
placed true true n e = tt
placed false false n e = refl
placed true false n e = absurd cc
placed false true n e = absurd cc

abbrev with_none : {A : Type 0} → A → A × List Lit
with_none form = (form, [])

-- the points and lines of a superposition, and its new names
copied : {A : Type 0} (r : Result A FaultKind) (q : Result (Unit {0}) FaultKind) (f : A × List Lit → Open) → SameFault (r >>= λ form. q) ((r >>= λ form. q >>= λ free. read_ok (with_none form)) >>= λ p. read_ok (f p))
copied (Ok x) (Ok u) f = tt
copied (Ok x) (Err k) f = refl
copied (Err j) q f = refl

ready_proving : (known : List TitledStatement) (d : TheoremParser) (args new : List (List ℕ)) → BlockOf known d
    → SameFault (placed_in d.in_scope args >>= λ superposition. fresh d.in_scope [] new) (next known (Proving (head_of d) (around_of d.blocks) d.steps) (list_raw_line (list_heads.Superpose args new) []))
unfolding superpose_in
ready_proving known d args new b =
    subst (λ (ns : Names). SameFault (placed_in d.in_scope args >>= λ superposition. fresh d.in_scope [] new) (goes_on_there known ns (head_of d) (around_of d.blocks) d.steps (list_raw_line (list_heads.Superpose args new) []))) b.counted.names
    (copied (placed_in d.in_scope args) (fresh d.in_scope [] new) (λ p. Proving (head_of d) (record { steps = d.steps; opener = BySuperposition p.0 new p.1 } ∷ around_of d.blocks) []))

abbrev given_none : TheoremParser → Open
given_none d = Stating (record (head_of d) { statement = record (statement_of_parser d) { given = d.given ++ [] } })

ready_at : (known : List TitledStatement) (p : Section) (d : TheoremParser) (line : ListHead) → Body known p d
    → SameFault (right_count (line_may_come p (list_raw_line line [])) >>= λ right. head_names d.in_scope line) (next known (open_there d p) (list_raw_line line []))
ready_at known places.Declaring d list_heads.Given b = placed true (none_made (statement_of_parser d)) (given_none d) (may_give places.Declaring d [] tt b.0)
ready_at known places.Giving d list_heads.Given b = placed true (none_made (statement_of_parser d)) (given_none d) (may_give places.Giving d [] tt b.0)
ready_at known places.Making d list_heads.Given b = placed false (none_made (statement_of_parser d)) (given_none d) (may_give places.Making d [] tt b.0)
ready_at known places.Showing d list_heads.Given b = placed false (none_made (statement_of_parser d)) (given_none d) (may_give places.Showing d [] tt b.0)
ready_at known places.Proving d list_heads.Given b = refl
ready_at known places.Splitting d list_heads.Given b = refl
ready_at known places.Closed d list_heads.Given b = refl
ready_at known places.Done d list_heads.Given b = refl
ready_at known places.Declaring d list_heads.Show b = tt
ready_at known places.Giving d list_heads.Show b = tt
ready_at known places.Making d list_heads.Show b = tt
ready_at known places.Showing d list_heads.Show b = tt
ready_at known places.Proving d list_heads.Show b = refl
ready_at known places.Splitting d list_heads.Show b = refl
ready_at known places.Closed d list_heads.Show b = refl
ready_at known places.Done d list_heads.Show b = refl
ready_at known places.Declaring d list_heads.Claim b = refl
ready_at known places.Giving d list_heads.Claim b = refl
ready_at known places.Making d list_heads.Claim b = refl
ready_at known places.Showing d list_heads.Claim b = refl
ready_at known places.Proving d list_heads.Claim b = tt
ready_at known places.Splitting d list_heads.Claim b = refl
ready_at known places.Closed d list_heads.Claim b = refl
ready_at known places.Done d list_heads.Claim b = refl
ready_at known places.Declaring d (list_heads.Superpose args new) b = refl
ready_at known places.Giving d (list_heads.Superpose args new) b = refl
ready_at known places.Making d (list_heads.Superpose args new) b = refl
ready_at known places.Showing d (list_heads.Superpose args new) b = refl
ready_at known places.Proving d (list_heads.Superpose args new) b = ready_proving known d args new b
ready_at known places.Splitting d (list_heads.Superpose args new) b = refl
ready_at known places.Closed d (list_heads.Superpose args new) b = refl
ready_at known places.Done d (list_heads.Superpose args new) b = refl

-- nothing more is said at these places
abbrev IsOver : Section → Type 0
IsOver places.Splitting = Unit {0}
IsOver places.Closed = Unit {0}
IsOver places.Done = Unit {0}
IsOver p = ⊥

over : (p : Section) (line : ListHead) → IsOver p → line_may_come p (list_raw_line line []) ≡ true → ⊥
over places.Splitting list_heads.Given o may = absurd cc
over places.Splitting list_heads.Show o may = absurd cc
over places.Splitting list_heads.Claim o may = absurd cc
over places.Splitting (list_heads.Superpose args new) o may = absurd cc
over places.Closed list_heads.Given o may = absurd cc
over places.Closed list_heads.Show o may = absurd cc
over places.Closed list_heads.Claim o may = absurd cc
over places.Closed (list_heads.Superpose args new) o may = absurd cc
over places.Done list_heads.Given o may = absurd cc
over places.Done list_heads.Show o may = absurd cc
over places.Done list_heads.Claim o may = absurd cc
over places.Done (list_heads.Superpose args new) o may = absurd cc
over p line o may = o

-- where such a line may come, the names are those before the line
names_at : (known : List TitledStatement) (p : Section) (d : TheoremParser) (line : ListHead) → Body known p d → line_may_come p (list_raw_line line []) ≡ true → names_at_place p d.names d.in_scope ≡ (context_at known (open_there d p)).names
names_at known places.Declaring d line b may = refl
names_at known places.Giving d line b may = refl
names_at known places.Making d line b may = refl
names_at known places.Showing d line b may = refl
names_at known places.Proving d line b may = b.counted.names
names_at known places.Splitting d line b may = absurd (over places.Splitting line tt may)
names_at known places.Closed d line b may = absurd (over places.Closed line tt may)
names_at known places.Done d line b may = absurd (over places.Done line tt may)

abbrev put_out : Known → ListHead → List RawItem → Names → Result (RawLine × ℕ) FaultKind
put_out known line is ns = items_in known.notions ns 0 is >>= λ p. Ok (list_raw_line line (map (raw_of ns) p.0), p.1)

-- where it may not come, neither looks further
after_place : {A : Type 0} (b : Bool) (r : Result (Unit {0}) FaultKind) (q : Result A FaultKind) (x y : Result (RawLine × ℕ) FaultKind) → SameFault (right_count b >>= λ right. r) q → (b ≡ true → x ≡ y) → ((right_count b >>= λ right. r) >>= λ ready. x) ≡ (q >>= λ there. y)
after_place true r q x y s e = same_then r q x y s (e refl)
after_place false r (Ok a) x y s e = absurd s
after_place false r (Err k) x y s e = ap (λ (z : FaultKind). fault z) s

written_at : (known : Known) (p : Section) (d : TheoremParser) (line : ListHead) (is : List RawItem) → d.section ≡ p → Body known.theorems p d → line_written_out known.notions d line is ≡ written_out known (open_there d p) line is
written_at known p d line is at b =
    subst (λ (q : Section). ((right_count (line_may_come q (list_raw_line line [])) >>= λ right. head_names d.in_scope line) >>= λ ready. put_out known line is (names_at_place q d.names d.in_scope)) ≡ written_out known (open_there d p) line is) (sym at)
    (after_place (line_may_come p (list_raw_line line [])) (head_names d.in_scope line) (next known.theorems (open_there d p) (list_raw_line line [])) (put_out known line is (names_at_place p d.names d.in_scope))
    (put_out known line is (context_at known.theorems (open_there d p)).names) (ready_at known.theorems p d line b) (λ may. ap (put_out known line is) (names_at known.theorems p d line b may)))

written_alike : (known : Known) (d : TheoremParser) (line : ListHead) (is : List RawItem) → Tied known.theorems d → line_written_out known.notions d line is ≡ written_out known (open_of d) line is
written_alike known d line is t = written_at known d.section d line is refl t.body

-- ---- what is written out

-- a line with the names of these objects, and how many literals are of notions
abbrev out : ListHead → Names → List Lit × ℕ → RawLine × ℕ
out line ns p = (list_raw_line line (map (raw_of ns) p.0), p.1)

record Out (known : Known) (ns : Names) (line : ListHead) (is : List RawItem) (w : RawLine × ℕ) : Type 0 where
  meanings : List Lit × ℕ
  read : items_in known.notions ns 0 is ≡ Ok meanings
  are : out line ns meanings ≡ w

was_out : (known : Known) (o : Open) (line : ListHead) (is : List RawItem) (w : RawLine × ℕ) → written_out known o line is ≡ Ok w → Out known (context_at known.theorems o).names line is w
was_out known o line is w e =
    let ns = (context_at known.theorems o).names in
    let t = bind_ok (next known.theorems o (list_raw_line line [])) (λ there. items_in known.notions ns 0 is >>= λ p. read_ok (out line ns p)) w e in
    let p = bind_ok (items_in known.notions ns 0 is) (λ p. read_ok (out line ns p)) w t.2 in
    record { meanings = p.0; read = p.1; are = ok_is (out line ns p.0) w p.2 }

has : (line : ListHead) (raws : List RawLit) → 0 < length raws → HasItems (list_raw_line line raws)
has list_heads.Given raws h = h
has list_heads.Show raws h = h
has list_heads.Claim raws h = tt
has (list_heads.Superpose args new) raws h = tt

-- it has a literal where one has to be
out_has : (known : Known) (o : Open) (line : ListHead) (is : List RawItem) (w : RawLine × ℕ) → are_notions known.notions ≡ true → 0 < length is → written_out known o line is ≡ Ok w → HasItems w.0
out_has known o line is w all some e =
    let ns = (context_at known.theorems o).names in
    let x = was_out known o line is w e in
    subst (λ (y : RawLine × ℕ). HasItems y.0) x.are (has line (map (raw_of ns) x.meanings.0) (items_some known.notions ns is x.meanings all some x.read))

shown : (line : ListHead) (raws : List RawLit) → is_show line ≡ true → list_raw_line line raws ≡ rawlines.Show raws
shown list_heads.Show raws s = refl
shown list_heads.Given raws s = absurd cc
shown list_heads.Claim raws s = absurd cc
shown (list_heads.Superpose args new) raws s = absurd cc

out_shows : (known : Known) (o : Open) (line : ListHead) (is : List RawItem) (w : RawLine × ℕ) → is_show line ≡ true → written_out known o line is ≡ Ok w → (raws : List RawLit) × (w.0 ≡ rawlines.Show raws)
out_shows known o line is w s e =
    let ns = (context_at known.theorems o).names in
    let x = was_out known o line is w e in
    (map (raw_of ns) x.meanings.0, ap (λ (y : RawLine × ℕ). y.0) (sym x.are) ∙ shown line (map (raw_of ns) x.meanings.0) s)

-- ---- the last limit

-- it is a theorem, or its last line has not come
abbrev GoesOn : Held → Type 0
GoesOn c = (c.defines ≡ false) ⊎ IsStating c.parser.section

abbrev add_count : ℕ → Held → Result Held FaultKind
add_count k e = within (e.expanded + k) most_expanded limits.Expanded >>= λ few. Ok (record e { expanded = e.expanded + k })

limit_by : (known : Known) (f : Held) (n : PartialItem) (a : ℕ) → AlikePartial known (Ok f) (Ok n) → AlikePartial known (within a most_expanded limits.Expanded >>= λ few. Ok f) (all_kept ((leb a most_expanded, limits.Expanded) ∷ []) >>= λ kept. Ok n)
limit_by known f n a h =
    by_test (λ (over under : Bool). AlikePartial known (cond over (Err (Limit limits.Expanded)) (read_ok tt) >>= λ few. Ok f) (all_kept ((under, limits.Expanded) ∷ []) >>= λ kept. Ok n)) a most_expanded refl (λ le. h)

counted_by : (known : Known) (e : Held) (k : ℕ) (b : Bool) → e.defines ≡ b → GoesOn e → TiedBy known.theorems b e.parser → AlikePartial known (add_count k e) (with_more_literals k (said_by b e.parser e.expanded))
counted_by known e k false t on tied =
    limit_by known (record e { expanded = e.expanded + k }) (InTheorem (open_of e.parser) (e.expanded + k)) (e.expanded + k)
    (ap (λ (b : Bool). said_by b e.parser (e.expanded + k)) t, subst (λ (b : Bool). TiedBy known.theorems b e.parser) (sym t) tied)
counted_by known e k true t (inl h) tied = absurd (let no : true ≡ false = sym t ∙ h in cc)
counted_by known e k true t (inr st) tied =
    let is : said_by true e.parser e.expanded ≡ InDefinition (head_of e.parser) e.expanded = definition_at e.parser e.expanded e.parser.section st in
    subst (λ (n : PartialItem). AlikePartial known (add_count k e) (with_more_literals k n)) (sym is)
    (limit_by known (record e { expanded = e.expanded + k }) (InDefinition (head_of e.parser) (e.expanded + k)) (e.expanded + k)
    (ap (λ (b : Bool). said_by b e.parser (e.expanded + k)) t ∙ definition_at e.parser (e.expanded + k) e.parser.section st, subst (λ (b : Bool). TiedBy known.theorems b e.parser) (sym t) tied))

then_counted : (known : Known) (k : ℕ) (r : Result Held FaultKind) (q : Result PartialItem FaultKind) → ((e : Held) → r ≡ Ok e → GoesOn e) → AlikePartial known r q → AlikePartial known (r >>= λ e. add_count k e) (q >>= λ n. with_more_literals k n)
then_counted known k (Ok e) (Ok n) on a = subst (λ (x : PartialItem). AlikePartial known (add_count k e) (with_more_literals k x)) a.0 (counted_by known e k e.defines refl (on e refl) a.1)
then_counted known k (Err i) (Err j) on a = a
then_counted known k (Ok e) (Err j) on a = absurd a
then_counted known k (Err i) (Ok n) on a = absurd a

-- a shown line leaves a definition at its shown lines
pub shown_there : (d e : TheoremParser) (raws : List RawLit) → defines_on d (rawlines.Show raws) ≡ Ok e → e.section ≡ places.Showing
unfolding defines_on
shown_there d e raws h =
    let then : List Lit → TheoremParser = λ ls. record d { shown = ls; section = places.Showing } in
    let r = bind_ok (right_count (line_may_come d.section (rawlines.Show raws))) (λ right. after_show d raws) e h in
    let ls = bind_ok (with_front d.shown (lits_in d.names raws)) (λ ls. check_literal_limits raws >>= λ few. read_ok (then ls)) e r.2 in
    let f = bind_ok (check_literal_limits raws) (λ few. read_ok (then ls.0)) e ls.2 in
    ap (λ (x : TheoremParser). x.section) (sym (ok_is (then ls.0) e f.2))

stays : (known : Known) (c e : Held) (b : Bool) (f : RawLine) → c.defines ≡ b → (b ≡ true → (raws : List RawLit) × (f ≡ rawlines.Show raws))
    → cond b (defines_on c.parser f >>= λ d. Ok (with_parser c d)) (step known.theorems c.parser f >>= λ d. Ok (with_parser c d)) ≡ Ok e → GoesOn e
stays known c e false f t show h =
    let d = bind_ok (step known.theorems c.parser f) (λ d. read_ok (with_parser c d)) e h in
    inl (ap (λ (x : Held). x.defines) (sym (ok_is (with_parser c d.0) e d.2)) ∙ t)
stays known c e true f t show h =
    let d = bind_ok (defines_on c.parser f) (λ d. read_ok (with_parser c d)) e h in
    let s = show refl in
    let at : d.0.section ≡ places.Showing = shown_there c.parser d.0 s.0 (subst (λ (g : RawLine). defines_on c.parser g ≡ Ok d.0) s.1 d.1) in
    inr (subst IsStating (sym (ap (λ (x : Held). x.parser.section) (sym (ok_is (with_parser c d.0) e d.2)) ∙ at)) tt)

goes_on_stays : (known : Known) (c e : Held) (f : RawLine) → (c.defines ≡ true → (raws : List RawLit) × (f ≡ rawlines.Show raws)) → goes_on known c f ≡ Ok e → GoesOn e
unfolding goes_on
goes_on_stays known c e f show h = stays known c e c.defines f refl show h

-- ---- a line with items, whole: it is written out, taken so, and counted

abbrev take_out : Known → Held → ListHead → List RawItem → Result Held FaultKind
take_out known c line is = line_written_out known.notions c.parser line is >>= λ w. goes_on known c w.0 >>= λ e. add_count w.1 e

abbrev take_said : Known → Open → PartialItem → ListHead → List RawItem → Result PartialItem FaultKind
take_said known o n line is = written_out known o line is >>= λ w. plain_line known n w.0 >>= λ x. with_more_literals w.1 x

listed_on : (known : Known) (c : Held) (o : Open) (line : ListHead) (is : List RawItem) (n : PartialItem) → are_notions known.notions ≡ true → 0 < length is → TiedPartial known c → said_of c ≡ n → (c.defines ≡ true → is_show line ≡ true)
    → line_written_out known.notions c.parser line is ≡ written_out known o line is → AlikePartial known (take_out known c line is) (take_said known o n line is)
listed_on known c o line is n all some tied said show same =
    subst (λ (r : Result (RawLine × ℕ) FaultKind). AlikePartial known (r >>= λ w. goes_on known c w.0 >>= λ e. add_count w.1 e) (take_said known o n line is)) (sym same)
    (both known (written_out known o line is) (λ w. goes_on known c w.0 >>= λ e. add_count w.1 e) (λ w. plain_line known n w.0 >>= λ x. with_more_literals w.1 x)
    (λ w q. then_counted known w.1 (goes_on known c w.0) (plain_line known n w.0) (λ e h. goes_on_stays known c e w.0 (λ t. out_shows known o line is w (show t) q) h)
    (subst (λ (x : PartialItem). AlikePartial known (goes_on known c w.0) (plain_line known x w.0)) said (plain_alike known c w.0 tied (out_has known o line is w all some q)))))

listed_stating : (known : Known) (c : Held) (line : ListHead) (is : List RawItem) (s : Bool) → is_show line ≡ s → are_notions known.notions ≡ true → 0 < length is → IsStating c.parser.section → c.defines ≡ true → FewNamed c.parser.names → DefinitionTied c.parser.section c.parser
    → AlikePartial known (right_count s >>= λ right. take_out known c line is) (cond s (take_said known (Stating (head_of c.parser)) (InDefinition (head_of c.parser) c.expanded) line is) (Err Malformed))
listed_stating known c line is true show all some st t few body =
    let d = c.parser in
    let tied : Tied known.theorems d = record { names = few; body = body_tied known.theorems d d.section st body } in
    let said : said_of c ≡ InDefinition (head_of d) c.expanded = ap (λ (b : Bool). said_by b d c.expanded) t ∙ definition_at d c.expanded d.section st in
    listed_on known c (Stating (head_of d)) line is (InDefinition (head_of d) c.expanded) all some (subst (λ (b : Bool). TiedBy known.theorems b d) (sym t) (few, body)) said (λ x. show)
    (written_alike known d line is tied ∙ ap (λ (o : Open). written_out known o line is) (head_there d d.section st))
listed_stating known c line is false show all some st t few body = refl

-- after the last line of a definition
not_ready : (known : Known) (c : Held) (line : ListHead) (is : List RawItem) → c.parser.section ≡ places.Done → take_out known c line is ≡ Err Malformed
not_ready known c list_heads.Given is at = rw at refl
not_ready known c list_heads.Show is at = rw at refl
not_ready known c list_heads.Claim is at = rw at refl
not_ready known c (list_heads.Superpose args new) is at = rw at refl

listed_done : (known : Known) (c : Held) (line : ListHead) (is : List RawItem) (s : Bool) → c.parser.section ≡ places.Done → AlikePartial known (right_count s >>= λ right. take_out known c line is) (Err Malformed)
listed_done known c line is false at = refl
listed_done known c line is true at = subst (λ (r : Result Held FaultKind). AlikePartial known r (Err Malformed)) (sym (not_ready known c line is at)) refl

listed_there : (known : Known) (c : Held) (p : Section) (line : ListHead) (is : List RawItem) → c.parser.section ≡ p → IsStating p → are_notions known.notions ≡ true → 0 < length is → c.defines ≡ true → FewNamed c.parser.names → DefinitionTied p c.parser
    → AlikePartial known (right_count (is_show line) >>= λ right. take_out known c line is) (after_listed_line known (definition_there c.parser c.expanded p) line is)
listed_there known c p line is at st all some t few body =
    subst (λ (x : PartialItem). AlikePartial known (right_count (is_show line) >>= λ right. take_out known c line is) (after_listed_line known x line is)) (sym (definition_at c.parser c.expanded p st))
    (listed_stating known c line is (is_show line) refl all some (subst IsStating (sym at) st) t few (subst (λ (q : Section). DefinitionTied q c.parser) (sym at) body))

listed_at : (known : Known) (c : Held) (p : Section) (line : ListHead) (is : List RawItem) → c.parser.section ≡ p → are_notions known.notions ≡ true → 0 < length is → c.defines ≡ true → FewNamed c.parser.names → DefinitionTied p c.parser
    → AlikePartial known (right_count (is_show line) >>= λ right. take_out known c line is) (after_listed_line known (definition_there c.parser c.expanded p) line is)
listed_at known c places.Done line is at all some t few body = listed_done known c line is (is_show line) at
listed_at known c places.Declaring line is at all some t few body = listed_there known c places.Declaring line is at tt all some t few body
listed_at known c places.Giving line is at all some t few body = listed_there known c places.Giving line is at tt all some t few body
listed_at known c places.Making line is at all some t few body = listed_there known c places.Making line is at tt all some t few body
listed_at known c places.Showing line is at all some t few body = listed_there known c places.Showing line is at tt all some t few body
listed_at known c places.Proving line is at all some t few body = absurd body.0
listed_at known c places.Splitting line is at all some t few body = absurd body.0
listed_at known c places.Closed line is at all some t few body = absurd body.0

listed_by : (b : Bool) (known : Known) (c : Held) (line : ListHead) (is : List RawItem) → c.defines ≡ b → are_notions known.notions ≡ true → 0 < length is → TiedBy known.theorems b c.parser
    → AlikePartial known (right_count (not b || is_show line) >>= λ right. take_out known c line is) (after_listed_line known (said_by b c.parser c.expanded) line is)
listed_by true known c line is t all some tied = listed_at known c c.parser.section line is refl all some t tied.0 tied.1
listed_by false known c line is t all some tied =
    listed_on known c (open_of c.parser) line is (InTheorem (open_of c.parser) c.expanded) all some (subst (λ (b : Bool). TiedBy known.theorems b c.parser) (sym t) tied) (ap (λ (b : Bool). said_by b c.parser c.expanded) t)
    (λ h. absurd (let no : true ≡ false = sym h ∙ t in cc)) (written_alike known c.parser line is tied)

listed_alike : (known : Known) (c : Held) (line : ListHead) (is : List RawItem) → are_notions known.notions ≡ true → 0 < length is → TiedPartial known c → AlikePartial known (goes_on_with_items known c line is) (after_listed_line known (said_of c) line is)
unfolding goes_on_with_items
listed_alike known c line is all some tied = listed_by c.defines known c line is refl all some tied

-- ---- each line

next_alike : (known : Known) (c : Held) (words : List (List ℕ)) (l : BookLine) → are_notions known.notions ≡ true → TiedPartial known c → LineSaid words l → AlikePartial known (machine.step known c l) (next_line known (said_of c) l)
unfolding machine.step
next_alike known c words (Plain f) all tied said = plain_alike known c f tied (items_read words f said)
next_alike known c words (Define t) all tied said = refl
next_alike known c words (Listed line is) all tied said = listed_alike known c line is all said.1 tied

-- the first line
taken_or : (known : Known) (b : Bool) (r : Result Held FaultKind) (q : Result PartialItem FaultKind) → AlikePartial known r q → AlikePartial known (cond b (Err NameTaken) r) (cond b (Err NameTaken) q)
taken_or known true r q a = refl
taken_or known false r q a = a

first_theorem : (known : Known) (f : RawLine) → AlikePartial known (begins_theorem known f) (after_first_line known (Plain f))
unfolding begins_theorem
first_theorem known f =
    taken_or known (has_notion_title known.notions f) (begin known.theorems f >>= λ d. Ok (partial_item false d)) (begins known.theorems f >>= λ o. Ok (InTheorem o 0)) (begun_by (begin known.theorems f) (begins known.theorems f) (begin_alike known.theorems f))
  where
    begun_by : (r : Result TheoremParser FaultKind) (q : Result Open FaultKind) → Alike known.theorems r q → AlikePartial known (r >>= λ d. Ok (partial_item false d)) (q >>= λ o. Ok (InTheorem o 0))
    begun_by (Ok d) (Ok o) a = (ap (λ (x : Open). InTheorem x 0) a.0, a.1)
    begun_by (Err j) (Err k) a = a
    begun_by (Ok d) (Err k) a = absurd a
    begun_by (Err j) (Ok o) a = absurd a

nothing_tied : (t : List ℕ) → FewNamed (with_title t).names × DefinitionTied places.Declaring (with_title t)
nothing_tied t =
    (record { points = omega arith; lines = omega arith; circles = omega arith }, (tt, (refl, refl, refl), record { steps = refl; blocks = refl; lines = refl; facts = refl; terms = refl; few_facts = omega arith; few_terms = omega arith }))

first_definition : (known : Known) (t : List ℕ) → AlikePartial known (begins_definition known t) (after_first_line known (Define t))
unfolding begins_definition
first_definition known t =
    let f : Held = partial_item true (with_title t) in
    let n = InDefinition (empty_head t) 0 in
    taken_or known (is_taken known t) (within (length known.notions + 1) most_notions limits.Notions >>= λ few. Ok f) (all_kept ((leb (length known.notions + 1) most_notions, limits.Notions) ∷ []) >>= λ kept. Ok n)
    (by_test (λ (over under : Bool). AlikePartial known (cond over (Err (Limit limits.Notions)) (read_ok tt) >>= λ few. Ok f) (all_kept ((under, limits.Notions) ∷ []) >>= λ kept. Ok n)) (length known.notions + 1) most_notions refl
    (λ le. (refl, nothing_tied t)))

first_alike : (known : Known) (l : BookLine) → AlikePartial known (machine.begins known l) (after_first_line known l)
unfolding machine.begins
first_alike known (Plain f) = first_theorem known f
first_alike known (Define t) = first_definition known t
first_alike known (Listed line is) = refl

-- ---- a line by its words

abbrev pub said : Option Held → Option PartialItem
said None = None
said (Some c) = Some (said_of c)

abbrev pub TiedSoFar : Known → Option Held → Type 0
TiedSoFar known None = Unit {0}
TiedSoFar known (Some c) = TiedPartial known c

words_alike : (known : Known) (o : Option Held) (words : List (List ℕ)) → are_notions known.notions ≡ true → TiedSoFar known o → AlikePartial known (line_step known o words) (item_after_words known (said o) words)
unfolding line_step
words_alike known None words all t = both known (book_line_of words) (λ l. machine.begins known l) (λ l. after_first_line known l) (λ l e. first_alike known l)
words_alike known (Some c) words all t = both known (book_line_of words) (λ l. machine.step known c l) (λ l. next_line known (said_of c) l) (λ l e. next_alike known c words l all t (line_read_as words l e))

-- ---- line after line

in_case : (b : Bool) (x y z w : Answer) → x ≡ z → y ≡ w → cond b x y ≡ cond b z w
in_case true x y z w e h = e
in_case false x y z w e h = h

abbrev found : BookItem → Rest → Answer
found i lines = Ok (Some (i, lines))

abbrev wrong_at : ℕ → FaultKind → Answer
wrong_at number kind = Err (at_line number kind)

-- it ends, or its lines go on
theorem_ends : (d : TheoremParser) (n : ℕ) (p : Section) (lines : Rest) (x y : Answer) → x ≡ y → cond (is_last p) (found (OfTheorem (entry_of_parser d)) lines) x ≡ whole_or (item_ended (InTheorem (open_there d p) n)) lines y
theorem_ends d n places.Done lines x y e = refl
theorem_ends d n p lines x y e = e

definition_ends : (d : TheoremParser) (n : ℕ) (p : Section) (lines : Rest) (x y : Answer) → x ≡ y → cond (is_last p) (found (OfNotion (notion_of_parser d)) lines) x ≡ whole_or (item_ended (definition_there d n p)) lines y
definition_ends d n places.Done lines x y e = refl
definition_ends d n p lines x y e = e

partial_ends : (b : Bool) (d : TheoremParser) (n : ℕ) (lines : Rest) (x y : Answer) → x ≡ y
    → cond (is_last d.section) (found (cond b (OfNotion (notion_of_parser d)) (OfTheorem (entry_of_parser d))) lines) x ≡ whole_or (item_ended (said_by b d n)) lines y
partial_ends true d n lines x y e = definition_ends d n d.section lines x y e
partial_ends false d n lines x y e = theorem_ends d n d.section lines x y e

after_alike : (known : Known) (last number : ℕ) (lines : Rest) (r : Result Held FaultKind) (q : Result PartialItem FaultKind) → AlikePartial known r q
    → ((e : Held) → TiedPartial known e → machine.item_from known last (Some e) lines ≡ item_from known last (Some (said_of e)) lines)
    → (put_at number r >>= λ c. cond (machine.is_done c) (found (item_of_partial c) lines) (machine.item_from known last (Some c) lines))
    ≡ (put_at number q >>= λ n. whole_or (item_ended n) lines (item_from known last (Some n) lines))
after_alike known last number lines (Ok e) (Ok n) a more =
    partial_ends e.defines e.parser e.expanded lines (machine.item_from known last (Some e) lines) (item_from known last (Some (said_of e)) lines) (more e a.1)
    ∙ ap (λ (x : PartialItem). whole_or (item_ended x) lines (item_from known last (Some x) lines)) a.0
after_alike known last number lines (Err j) (Err k) a more = ap (λ (x : FaultKind). wrong_at number x) a
after_alike known last number lines (Ok e) (Err k) a more = absurd a
after_alike known last number lines (Err j) (Ok n) a more = absurd a

read_alike : (known : Known) (last : ℕ) (o : Option Held) (lines : Rest) → are_notions known.notions ≡ true → TiedSoFar known o → machine.item_from known last o lines ≡ item_from known last (said o) lines
read_alike known last None [] all t = refl
read_alike known last (Some c) [] all t = refl
read_alike known last None (Err f ∷ lines) all t = refl
read_alike known last (Some c) (Err f ∷ lines) all t = refl
read_alike known last None (Ok line ∷ lines) all t =
    let words = tokens_of line.bytes in
    in_case (is_skipped words) (machine.item_from known last None lines)
    (put_at line.number (line_step known None words) >>= λ c. cond (machine.is_done c) (found (item_of_partial c) lines) (machine.item_from known last (Some c) lines))
    (item_from known last None lines) (put_at line.number (item_after_words known None words) >>= λ n. whole_or (item_ended n) lines (item_from known last (Some n) lines))
    (read_alike known last None lines all t)
    (after_alike known last line.number lines (line_step known None words) (item_after_words known None words) (words_alike known None words all t) (λ e u. read_alike known last (Some e) lines all u))
read_alike known last (Some c) (Ok line ∷ lines) all t =
    let words = tokens_of line.bytes in
    let n : PartialItem = said_of c in
    in_case (is_skipped words) (machine.item_from known last (Some c) lines)
    (put_at line.number (line_step known (Some c) words) >>= λ x. cond (machine.is_done x) (found (item_of_partial x) lines) (machine.item_from known last (Some x) lines))
    (item_from known last (Some n) lines) (put_at line.number (item_after_words known (Some n) words) >>= λ x. whole_or (item_ended x) lines (item_from known last (Some x) lines))
    (read_alike known last (Some c) lines all t)
    (after_alike known last line.number lines (line_step known (Some c) words) (item_after_words known (Some n) words) (words_alike known (Some c) words all t) (λ e u. read_alike known last (Some e) lines all u))

pub items_read_alike : (known : Known) (last : ℕ) (lines : Rest) → are_notions known.notions ≡ true → machine.item_from known last None lines ≡ item_from known last None lines
items_read_alike known last lines all = read_alike known last None lines all tt
