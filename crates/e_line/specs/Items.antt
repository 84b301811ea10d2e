-- The lines of a book by their spelling alone: those of theorems, with items among their literals,
-- and the first line of a definition.
use Rattle.std.specs.Prelude.{ℕ, Bool, true, false, ◌&&◌, List, [], ◌∷◌, Result, Ok}
use Rattle.std.specs.Prelude.{Err, codes, if◌then◌else◌}
use Rattle.std.specs.List.{slice_split, list_any}
use Rattle.std.specs.Str.{bytes_eq}
use Rattle.e_line.specs.declared.fault.FaultKind.{FaultKind}
use Rattle.e_line.specs.declared.fault.FaultKind.TheVariants.{Malformed}
use Rattle.e_line.specs.declared.literal.RawLit.{RawLit}
use Rattle.e_line.specs.declared.raw_line.RawLine.{RawLine}
use Rattle.e_line.specs.declared.raw_line.RawLine.TheVariants as rawlines
use Rattle.e_line.specs.declared.items.RawAs.{RawAs}
use Rattle.e_line.specs.declared.items.RawItem.{RawItem}
use Rattle.e_line.specs.declared.items.RawItem.TheVariants.{Literal, As}
use Rattle.e_line.specs.declared.items.ListHead.{ListHead}
use Rattle.e_line.specs.declared.items.ListHead.TheVariants.{Given, Show, Claim, Superpose}
use Rattle.e_line.specs.declared.items.BookLine.{BookLine}
use Rattle.e_line.specs.declared.items.BookLine.TheVariants.{Plain, Define, Listed}
use Rattle.e_line.specs.Reading.{◌>>=◌, each, first_title, no_word_left, names_of}
use Rattle.e_line.specs.Literals.{is_semicolon, lit_of}
use Rattle.e_line.specs.Lets.{are_words_of, new_words, argument_words}
use Rattle.e_line.specs.Superposes.{superpose_pieces, words_to_show, words_shown}
use Rattle.e_line.specs.RawLines.{raw_line_named}

-- ---- what is between two semicolons

abbrev pub is_as : List ℕ → Bool
is_as w = bytes_eq w (codes "as")

-- after the word as: a title, and names, perhaps none
unfoldable pub as_of : List (List ℕ) → Result RawAs FaultKind
as_of words = do
  t ← first_title words
  args ← names_of t.1
  Ok (record { title = t.0; args = args })

-- a literal, or the word as, a title and names
unfoldable pub item_of : List (List ℕ) → Result RawItem FaultKind
item_of [] = Err Malformed
item_of (w ∷ ws) =
    if is_as w then (as_of ws >>= λ a. Ok (As a)) else (lit_of (w ∷ ws) >>= λ l. Ok (Literal l))

-- one or more of these between semicolons
abbrev pub items_of : List (List ℕ) → Result (List RawItem) FaultKind
items_of words = each item_of (slice_split is_semicolon words)

abbrev pub begins_item : List (List ℕ) → Bool
begins_item [] = false
begins_item (w ∷ ws) = is_as w

-- one of these is no literal
abbrev pub has_item : List (List ℕ) → Bool
has_item words = list_any begins_item (slice_split is_semicolon words)

-- ---- lines

unfoldable pub define_of : List (List ℕ) → Result BookLine FaultKind
define_of words = do
  t ← first_title words
  none ← no_word_left t.1
  Ok (Define t.0)

-- the words of a superposition up to show
unfoldable pub placing_of : List (List ℕ) → Result ListHead FaultKind
placing_of head =
    if are_words_of superpose_pieces head
    then (names_of (new_words superpose_pieces head)
    >>= λ new. names_of (argument_words superpose_pieces head)
    >>= λ args. Ok (Superpose args new))
    else Err Malformed

unfoldable pub line_with_items : ListHead → List (List ℕ) → Result BookLine FaultKind
line_with_items line words = do
  items ← items_of words
  Ok (Listed line items)

-- a line by its first word and the others: where an item is among literals, the line with its
-- items; the first line of a definition; and any other line as one of a theorem
unfoldable pub line_named : List ℕ → List (List ℕ) → Result BookLine FaultKind
line_named w ws =
    if bytes_eq w (codes "define") then define_of ws else
    if bytes_eq w (codes "given") && has_item ws then line_with_items Given ws else
    if bytes_eq w (codes "show") && has_item ws then line_with_items Show ws else
    if bytes_eq w (codes "claim") && has_item ws then line_with_items Claim ws else
    if bytes_eq w (codes "superpose") && has_item (words_shown ws)
    then (placing_of (words_to_show ws) >>= λ line. line_with_items line (words_shown ws)) else
    (raw_line_named w ws >>= λ f. Ok (Plain f))

unfoldable pub book_line_of : List (List ℕ) → Result BookLine FaultKind
book_line_of [] = Err Malformed
book_line_of (w ∷ ws) = line_named w ws

-- ---- the raw line of a line that takes literals, with these literals

abbrev pub raw_superpose_line : (args new : List (List ℕ)) → List RawLit → RawLine
raw_superpose_line args new shown =
    rawlines.Superpose (record { args = args; new = new; shown = shown })

abbrev pub list_raw_line : ListHead → List RawLit → RawLine
list_raw_line Given raws = rawlines.Given raws
list_raw_line Show raws = rawlines.Show raws
list_raw_line Claim raws = rawlines.Claim raws
list_raw_line (Superpose args new) raws = raw_superpose_line args new raws

abbrev pub is_show : ListHead → Bool
is_show Show = true
is_show line = false
