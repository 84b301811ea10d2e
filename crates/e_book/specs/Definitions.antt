-- The grammar of books, on which the claim rests: definitions, and theorems as Grammar has them,
-- one after another.
use Rattle.std.specs.Prelude.{◌≡◌, ℕ, ◌+◌, List, [], ◌∷◌, length, map, nat_le, Bool, true, false}
use Rattle.std.specs.Prelude.{Option, Some, None, IsTrue, Result, Ok, Err, if◌then◌else◌}
use Rattle.std.specs.Option.{option_map}
use Rattle.e_text.specs.Tokens.{tokens_of}
use Rattle.e_text.specs.Lines.{Ahead}
use Rattle.e_theorem.specs.Statements.{as_view}
use Rattle.e_deriv.specs.declared.names.Names.{Names}
use Rattle.e_deriv.specs.Script.{script_of}
use Rattle.e_deriv.specs.Fitting.{is_small_statement, IsFitting}
use Rattle.e_line.specs.declared.fault.FaultKind.{FaultKind}
use Rattle.e_line.specs.declared.fault.FaultKind.TheVariants.{Malformed, NameTaken}
use Rattle.e_line.specs.declared.fault.What.TheVariants as limits
use Rattle.e_line.specs.declared.fault.BookFault.{BookFault}
use Rattle.e_line.specs.declared.fault.BookFault.TheVariants as faults
use Rattle.e_line.specs.declared.raw_line.RawLine.{RawLine}
use Rattle.e_line.specs.declared.raw_line.RawLine.TheVariants as rawlines
use Rattle.e_line.specs.declared.items.RawItem.{RawItem}
use Rattle.e_line.specs.declared.items.ListHead.{ListHead}
use Rattle.e_line.specs.declared.items.BookLine.{BookLine}
use Rattle.e_line.specs.declared.items.BookLine.TheVariants.{Plain, Define, Listed}
use Rattle.e_book.specs.declared.item.Item.{Item}
use Rattle.e_book.specs.declared.item.Item.TheVariants as items
use Rattle.e_names.specs.declared.known.Known.{Known}
use Rattle.e_line.specs.Reading.{◌>>=◌}
use Rattle.e_line.specs.Faults.{book_fault_of}
use Rattle.e_names.specs.TitledStatements.{stated_by}
use Rattle.e_names.specs.Taken.{is_taken}
use Rattle.e_names.specs.Titled.{Titled, titled_notion, defines, is_notion}
use Rattle.e_line.specs.Limits.{most_notions, most_expanded}
use Rattle.e_names.specs.Canonical.{raw_of}
use Rattle.e_book.specs.TheoremViews.{TheoremView, entry_of}
use Rattle.e_book.specs.HasSpelling.{HasSpelling}
use Rattle.e_line.specs.Items.{book_line_of, list_raw_line, is_show}
use Rattle.e_names.specs.Meanings.{items_in}
use Rattle.e_book.specs.Open.{Head, Open, Stating}
use Rattle.e_book.specs.Counts.{context_at, all_kept}
use Rattle.e_book.specs.Grammar.{Rest, empty_head, begins, is_empty, next, line_after}
use Rattle.e_book.specs.Grammar.{theorem_ended, is_skipped, put_at, BookFails}

-- what a book consists of
pub data BookItem : Type 0 where
  OfTheorem : (theorem : TheoremView) → BookItem
  OfNotion : (notion : Titled) → BookItem

-- What has been said of a theorem or of a definition whose lines come, and how many literals its
-- items mean. A definition says what it means as a statement says what it shows.
pub data PartialItem : Type 0 where
  InTheorem : (so_far : Open) (expanded : ℕ) → PartialItem
  InDefinition : (head : Head) (expanded : ℕ) → PartialItem
  Defined : (notion : Titled) → PartialItem

-- ---- the first line: theorems and definitions share their titles

abbrev pub has_notion_title : List Titled → RawLine → Bool
has_notion_title notions (rawlines.Theorem t) = defines notions t
has_notion_title notions f = false

abbrev pub after_first_line : Known → BookLine → Result PartialItem FaultKind
after_first_line known (Plain f) =
    if has_notion_title known.notions f then Err NameTaken else
    (begins known.theorems f >>= λ o. Ok (InTheorem o 0))
after_first_line known (Define t) =
    if is_taken known t then Err NameTaken else
    (all_kept ((nat_le (length known.notions + 1) most_notions, limits.Notions) ∷ [])
    >>= λ kept. Ok (InDefinition (empty_head t) 0))
after_first_line known (Listed line items) = Err Malformed

-- ---- a line without items

-- more declared objects of a definition, or more of what it means
abbrev pub says_more : RawLine → Bool
says_more (rawlines.Declare sort new) = true
says_more (rawlines.Show raws) = true
says_more f = false

abbrev pub still_defined : ℕ → Open → Result PartialItem FaultKind
still_defined n (Stating h) = Ok (InDefinition h n)
still_defined n o = Err Malformed

abbrev pub notion_of_head : Head → Titled
notion_of_head h = titled_notion h.title (record { declared = h.statement.declared; means = h.statement.shown })

-- the last line of a definition, which means something
abbrev pub ends_definition : Head → RawLine → Result PartialItem FaultKind
ends_definition h rawlines.End =
    if is_empty h.statement.shown then Err Malformed else Ok (Defined (notion_of_head h))
ends_definition h f = Err Malformed

abbrev pub plain_line : Known → PartialItem → RawLine → Result PartialItem FaultKind
plain_line known (InTheorem o n) f =
    line_after known.theorems (Some o) f >>= λ m. Ok (InTheorem m n)
plain_line known (InDefinition h n) f =
    if says_more f
    then (line_after known.theorems (Some (Stating h)) f >>= λ o. still_defined n o)
    else ends_definition h f
plain_line known (Defined t) f = Err Malformed

-- ---- a line with items: the literals that they mean are written out in their place

-- The line may come there, and then the names are looked up from left to right: the line with the
-- literals, with the names of their objects, and how many of them are of notions.
abbrev pub written_out : Known → Open → ListHead → List RawItem → Result (RawLine × ℕ) FaultKind
written_out known o line is =
    let ns : Names = (context_at known.theorems o).names in
    next known.theorems o (list_raw_line line []) >>= λ there. items_in known.notions ns 0 is
    >>= λ p. Ok (list_raw_line line (map (raw_of ns) p.0), p.1)

-- with so many more literals that items mean, within their limit
abbrev pub with_more_literals : ℕ → PartialItem → Result PartialItem FaultKind
with_more_literals n (InTheorem o m) =
    all_kept ((nat_le (m + n) most_expanded, limits.Expanded) ∷ [])
    >>= λ kept. Ok (InTheorem o (m + n))
with_more_literals n (InDefinition h m) =
    all_kept ((nat_le (m + n) most_expanded, limits.Expanded) ∷ [])
    >>= λ kept. Ok (InDefinition h (m + n))
with_more_literals n (Defined t) = Err Malformed

-- it is taken as it is written out; the last limit is that of the literals that items mean
abbrev pub after_listed_line : Known → PartialItem → ListHead → List RawItem
    → Result PartialItem FaultKind
after_listed_line known (InTheorem o n) line is =
    written_out known o line is >>= λ w. plain_line known (InTheorem o n) w.0 >>= λ c. with_more_literals w.1 c
after_listed_line known (InDefinition h n) line is =
    if is_show line
    then (written_out known (Stating h) line is >>= λ w. plain_line known (InDefinition h n) w.0
    >>= λ c. with_more_literals w.1 c)
    else Err Malformed
after_listed_line known (Defined t) line is = Err Malformed

-- ---- lines

abbrev pub next_line : Known → PartialItem → BookLine → Result PartialItem FaultKind
next_line known c (Plain f) = plain_line known c f
next_line known c (Define t) = Err Malformed
next_line known c (Listed line is) = after_listed_line known c line is

-- the words of a line that begins a theorem or a definition, or goes on with it
abbrev pub item_after_words : Known → Option PartialItem → List (List ℕ)
    → Result PartialItem FaultKind
item_after_words known None words = book_line_of words >>= λ l. after_first_line known l
item_after_words known (Some c) words = book_line_of words >>= λ l. next_line known c l

abbrev pub put_there : ℕ → Result PartialItem FaultKind → Result PartialItem BookFault
put_there line read = put_at line read

-- a theorem or a definition whose last line has come
abbrev pub item_ended : PartialItem → Option BookItem
item_ended (InTheorem o n) = option_map OfTheorem (theorem_ended o)
item_ended (InDefinition h n) = None
item_ended (Defined t) = Some (OfNotion t)

-- what is read next, and the lines after it; nothing; or a fault
abbrev pub Answer : Type 0
Answer = Result (Option (BookItem × Rest)) BookFault

abbrev pub whole_or : Option BookItem → Rest → Answer → Answer
whole_or None lines more = more
whole_or (Some i) lines more = Ok (Some (i, lines))

abbrev pub at_end : ℕ → Option PartialItem → Answer
at_end last None = Ok None
at_end last (Some c) = Err (faults.Unended last)

-- the next theorem or definition and the lines after it, or the first fault; last is the number
-- after the last line
abbrev pub item_from : Known → ℕ → Option PartialItem → Rest → Answer
item_from known last c [] = at_end last c
item_from known last c (Err f ∷ lines) = Err (book_fault_of f)
item_from known last c (Ok line ∷ lines) =
    if is_skipped (tokens_of line.bytes) then item_from known last c lines else
    (put_at line.number (item_after_words known c (tokens_of line.bytes))
    >>= λ n. whole_or (item_ended n) lines (item_from known last (Some n) lines))

-- ---- what is answered

abbrev pub view_of : Item → BookItem
view_of (items.Theorem t) = OfTheorem (entry_of t)
view_of (items.Notion title n) = OfNotion (titled_notion title n)

-- what was answered is what the grammar says, unless memory ran out
abbrev pub BookReads : Result (Option Item) BookFault → Ahead → Answer → Type 0
BookReads (Ok (Some i)) new read = read ≡ Ok (Some (view_of i, new.lines))
BookReads (Ok None) new read = read ≡ Ok None
BookReads (Err f) new read = BookFails f read

-- A theorem that is read has a spelling, and a title that no definition has. A definition that is
-- read has a title that nothing has, means something, and speaks of its declared objects alone.
abbrev pub IsWellFormedItem : Known → BookItem → Type 0
IsWellFormedItem known (OfTheorem t) =
    HasSpelling known.theorems t × (defines known.notions t.title ≡ false)
IsWellFormedItem known (OfNotion n) = (is_taken known n.title ≡ false) × IsTrue (is_notion n.notion)

abbrev pub HasWellFormedView : Known → Item → Type 0
HasWellFormedView known i = IsWellFormedItem known (view_of i)

-- where the theorems before are statements, a theorem that is read can be judged, and is one
abbrev pub IsFittingItem : Known → Item → Type 0
IsFittingItem known (items.Theorem t) =
    IsFitting (stated_by known.theorems) (as_view t.statement) (script_of t.block)
    × IsTrue (is_small_statement (as_view t.statement))
IsFittingItem known (items.Notion title n) = Unit {0}
