-- A theorem or a definition as the parser holds it while its lines come. Proofs tie this to the
-- grammar in Definitions.
use Rattle.std.specs.Prelude.{◌≡◌, ℕ, ◌+◌, ◌≤◌, Bool, true, false, not, ◌||◌, List, [], ◌∷◌, ◌++◌}
use Rattle.std.specs.Prelude.{length, map, Option, Some, None, Result, Ok, Err, if◌then◌else◌}
use Rattle.e_text.specs.Tokens.{tokens_of}
use Rattle.e_text.specs.Lines.{LineView, HaveNoFault}
use Rattle.e_deriv.specs.declared.names.Names.{Names}
use Rattle.e_line.specs.declared.fault.FaultKind.{FaultKind}
use Rattle.e_line.specs.declared.fault.FaultKind.TheVariants.{Malformed, NameTaken}
use Rattle.e_line.specs.declared.fault.What.TheVariants as limits
use Rattle.e_line.specs.declared.fault.BookFault.{BookFault}
use Rattle.e_line.specs.declared.fault.BookFault.TheVariants as faults
use Rattle.e_line.specs.declared.raw_line.RawLine.{RawLine}
use Rattle.e_line.specs.declared.raw_line.RawLine.TheVariants as rawlines
use Rattle.e_line.specs.declared.items.RawItem.{RawItem}
use Rattle.e_line.specs.declared.items.ListHead.{ListHead}
use Rattle.e_line.specs.declared.items.ListHead.TheVariants as list_heads
use Rattle.e_line.specs.declared.items.BookLine.{BookLine}
use Rattle.e_line.specs.declared.items.BookLine.TheVariants.{Plain, Define, Listed}
use Rattle.e_book.specs.declared.item.Item.{Item}
use Rattle.e_names.specs.declared.known.Known.{Known}
use Rattle.e_book.specs.declared.parser.Section.{Section}
use Rattle.e_book.specs.declared.parser.Section.TheVariants.{Showing, Proving, Done}
use Rattle.e_book.specs.declared.parser.TheoremParser.{TheoremParser}
use Rattle.e_book.specs.declared.partial_item.PartialItem.{PartialItem}
use Rattle.e_line.specs.Reading.{◌>>=◌}
use Rattle.e_line.specs.Faults.{book_fault_of}
use Rattle.e_names.specs.Taken.{is_taken}
use Rattle.e_names.specs.Titled.{Titled, titled_notion}
use Rattle.e_line.specs.Limits.{most_theorems, most_notions, most_expanded, within}
use Rattle.e_names.specs.Scope.{right_count, fresh}
use Rattle.e_names.specs.Superposes.{placed_in}
use Rattle.e_names.specs.Canonical.{raw_of}
use Rattle.e_book.specs.Steps.{line_may_come, after_declare, after_show, with_title, begin}
use Rattle.e_book.specs.Steps.{FitsScope}
use Rattle.e_book.specs.Steps as steps
use Rattle.e_book.specs.Book.{is_last}
use Rattle.e_book.specs.ParserViews.{entry_of_parser}
use Rattle.e_line.specs.Items.{book_line_of, list_raw_line, is_show}
use Rattle.e_names.specs.Meanings.{items_in}
use Rattle.e_book.specs.Grammar.{Rest, is_skipped, put_at, BookFails}
use Rattle.e_book.specs.Definitions.{BookItem, OfTheorem, OfNotion, Answer, has_notion_title}
use Rattle.e_book.specs.Definitions.{view_of}

-- ---- a line with items

abbrev pub names_at_place : Section → (names in_scope : Names) → Names
names_at_place Proving names in_scope = in_scope
names_at_place p names in_scope = names

-- the names of the objects that the next line may name
abbrev pub names_there : TheoremParser → Names
names_there d = names_at_place d.section d.names d.in_scope

-- the names before the literals, from left to right
abbrev pub head_names : Names → ListHead → Result (Unit {0}) FaultKind
head_names ns (list_heads.Superpose args new) = placed_in ns args >>= λ superposition. fresh ns [] new
head_names ns line = Ok tt

-- a line that takes literals may come here
abbrev pub is_ready : TheoremParser → ListHead → Result (Unit {0}) FaultKind
is_ready d line =
    right_count (line_may_come d.section (list_raw_line line []))
    >>= λ right. head_names d.in_scope line

-- the line with its items written out, and how many literals are of notions
abbrev pub line_written_out : List Titled → TheoremParser → ListHead → List RawItem
    → Result (RawLine × ℕ) FaultKind
line_written_out notions d line is =
    is_ready d line >>= λ ready. items_in notions (names_there d) 0 is
    >>= λ p. Ok (list_raw_line line (map (raw_of (names_there d)) p.0), p.1)

-- ---- the first line

-- only the title has come
abbrev pub partial_item : Bool → TheoremParser → PartialItem
partial_item defines d = record { defines = defines; parser = d; expanded = 0 }

unfoldable pub begins_theorem : Known → RawLine → Result PartialItem FaultKind
begins_theorem known f =
    if has_notion_title known.notions f then Err NameTaken else
    (begin known.theorems f >>= λ d. Ok (partial_item false d))

unfoldable pub begins_definition : Known → List ℕ → Result PartialItem FaultKind
begins_definition known t =
    if is_taken known t then Err NameTaken else
    (within (length known.notions + 1) most_notions limits.Notions
    >>= λ few. Ok (partial_item true (with_title t)))

unfoldable pub begins : Known → BookLine → Result PartialItem FaultKind
begins known (Plain f) = begins_theorem known f
begins known (Define t) = begins_definition known t
begins known (Listed line is) = Err Malformed

-- ---- each other line

abbrev pub is_showing : Section → Bool
is_showing Showing = true
is_showing p = false

unfoldable pub defines_on : TheoremParser → RawLine → Result TheoremParser FaultKind
defines_on d (rawlines.Declare sort new) =
    right_count (line_may_come d.section (rawlines.Declare sort new))
    >>= λ right. after_declare d sort new
defines_on d (rawlines.Show raws) =
    right_count (line_may_come d.section (rawlines.Show raws)) >>= λ right. after_show d raws
defines_on d rawlines.End =
    right_count (is_showing d.section) >>= λ right. Ok (record d { section = Done })
defines_on d f = Err Malformed

abbrev pub with_parser : PartialItem → TheoremParser → PartialItem
with_parser c d = record c { parser = d }

unfoldable pub goes_on : Known → PartialItem → RawLine → Result PartialItem FaultKind
goes_on known c f =
    if c.defines then (defines_on c.parser f >>= λ d. Ok (with_parser c d)) else
    (steps.step known.theorems c.parser f >>= λ d. Ok (with_parser c d))

-- it is taken as it is written out, and then the limit of what items mean
unfoldable pub goes_on_with_items : Known → PartialItem → ListHead → List RawItem
    → Result PartialItem FaultKind
goes_on_with_items known c line is = do
  right ← right_count (not c.defines || is_show line)
  w ← line_written_out known.notions c.parser line is
  e ← goes_on known c w.0
  few ← within (e.expanded + w.1) most_expanded limits.Expanded
  Ok (record e { expanded = e.expanded + w.1 })

unfoldable pub step : Known → PartialItem → BookLine → Result PartialItem FaultKind
step known c (Plain f) = goes_on known c f
step known c (Define t) = Err Malformed
step known c (Listed line is) = goes_on_with_items known c line is

-- it is within the limits between two lines
pub record FitsPartial (known : Known) (c : PartialItem) : Type 0 where
  pub parser : FitsScope c.parser
  pub expanded : c.expanded ≤ most_expanded
  pub few : c.defines ≡ false → length known.theorems ≤ most_theorems

-- ---- lines

unfoldable pub line_step : Known → Option PartialItem → List (List ℕ) → Result PartialItem FaultKind
line_step known None words = book_line_of words >>= λ l. begins known l
line_step known (Some c) words = book_line_of words >>= λ l. step known c l

abbrev pub partial_after : Known → Option PartialItem → List (List ℕ)
    → Result (Option PartialItem) FaultKind
partial_after known c words = line_step known c words >>= λ d. Ok (Some d)

abbrev pub is_done : PartialItem → Bool
is_done c = is_last c.parser.section

abbrev pub notion_of_parser : TheoremParser → Titled
notion_of_parser d = titled_notion d.title (record { declared = d.declared; means = d.shown })

-- what the lines make
abbrev pub item_of_partial : PartialItem → BookItem
item_of_partial c =
    if c.defines then OfNotion (notion_of_parser c.parser) else OfTheorem (entry_of_parser c.parser)

abbrev pub at_end : ℕ → Option PartialItem → Answer
at_end last None = Ok None
at_end last (Some c) = Err (faults.Unended last)

-- the next theorem or definition and the lines after it, or the first fault
abbrev pub item_from : Known → ℕ → Option PartialItem → Rest → Answer
item_from known last c [] = at_end last c
item_from known last c (Err f ∷ lines) = Err (book_fault_of f)
item_from known last c (Ok line ∷ lines) =
    if is_skipped (tokens_of line.bytes) then item_from known last c lines else
    (put_at line.number (line_step known c (tokens_of line.bytes)) >>= λ d. if is_done d
    then Ok (Some (item_of_partial d, lines)) else item_from known last (Some d) lines)

-- ---- reading on from what has come, whatever lines come

-- what has come is what some lines made of it
pub record IsBegun (known : Known) (c : Option PartialItem) : Type 0 where
  pub front : Rest
  pub reads : (last : ℕ) (more : Rest)
      → item_from known last None (front ++ more) ≡ item_from known last c more

-- where the last line has come, what they make is taken out, and the next line begins anew
abbrev pub IsEnded : Option PartialItem → Option Item → Option PartialItem → Type 0
IsEnded None i new = (i ≡ None) × (new ≡ None)
IsEnded (Some c) None new = (is_done c ≡ false) × (new ≡ Some c)
IsEnded (Some c) (Some i) new =
    (is_done c ≡ true) × (view_of i ≡ item_of_partial c) × (new ≡ None)

-- whether the last line of it has come
abbrev pub has_ended : Option PartialItem → Bool
has_ended None = false
has_ended (Some c) = is_done c

-- what a line makes of it: to read on from here through the line is to read on from there; or the
-- line ends the theorem or the definition; or it is the first with a fault
abbrev pub TakesLine : Known → Option PartialItem → LineView → Result Bool BookFault
    → Option PartialItem → Type 0
TakesLine known old l (Ok false) new =
    (last : ℕ) (more : Rest)
    → item_from known last old (Ok l ∷ more) ≡ item_from known last new more
TakesLine known old l (Ok true) None = ⊥
TakesLine known old l (Ok true) (Some c) =
    (is_done c ≡ true)
    × ((last : ℕ) (more : Rest)
    → item_from known last old (Ok l ∷ more) ≡ Ok (Some (item_of_partial c, more)))
TakesLine known old l (Err f) new =
    (last : ℕ) (more : Rest) → BookFails f (item_from known last old (Ok l ∷ more))

-- what the lines that come make of it: all are taken, and none has a fault; or a theorem or a
-- definition ends, and these are left
abbrev pub ReadsOn : Known → Option PartialItem → Rest → Result (Option Item) BookFault
    → Option PartialItem → Rest → Type 0
ReadsOn known old lines (Ok None) new left =
    (left ≡ []) × HaveNoFault lines
    × ((last : ℕ) (more : Rest)
    → item_from known last old (lines ++ more) ≡ item_from known last new more)
ReadsOn known old lines (Ok (Some i)) new left =
    (new ≡ None) × (HaveNoFault left → HaveNoFault lines) × ((last : ℕ) (more : Rest)
    → item_from known last old (lines ++ more) ≡ Ok (Some (view_of i, left ++ more)))
ReadsOn known old lines (Err f) new left =
    (last : ℕ) (more : Rest) → BookFails f (item_from known last old (lines ++ more))

-- no lines come any more: that is a fault inside a theorem or a definition
abbrev pub end_of : ℕ → Option PartialItem → Result (Unit {0}) BookFault
end_of line None = Ok tt
end_of line (Some c) = Err (faults.Unended line)
