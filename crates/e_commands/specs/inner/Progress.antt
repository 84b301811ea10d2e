-- How far a book was taken while its lines come, whatever lines come.
use Rattle.std.specs.Prelude.{◌≡◌, ℕ, ◌+◌, ◌*◌, ◌≤◌, IsTrue, IfSome, List, [], ◌++◌, length, Option}
use Rattle.std.specs.Prelude.{Some, None, Result, Ok, Err}
use Rattle.std.specs.List.{list_all}
use Rattle.e_io.specs.Bytes.{Grew}
use Rattle.e_text.specs.Lines.{Ahead, HaveNoFault, IsClosed}
use Rattle.e_deriv.specs.Fitting.{is_small_statement}
use Rattle.e_book.specs.declared.partial_item.PartialItem.{PartialItem}
use Rattle.e_names.specs.declared.known.Known.{Known}
use Rattle.e_line.specs.declared.fault.BookFault.TheVariants.{Unended}
use Rattle.e_names.specs.TitledStatements.{stated_by}
use Rattle.e_names.specs.Taken.{nothing_known}
use Rattle.e_names.specs.Titled.{are_notions}
use Rattle.e_book.specs.Grammar.{last_line, Rest}
use Rattle.e_book.specs.inner.Machine.{FitsPartial, item_from, IsBegun}
use Rattle.e_commands.specs.declared.book.Book.{Book}
use Rattle.e_commands.specs.declared.pieces.Untaken.{Untaken}
use Rattle.e_commands.specs.declared.blocks.BookResult.{BookResult}
use Rattle.e_commands.specs.declared.blocks.BookResult.TheVariants.{All, Faulty}
use Rattle.e_commands.specs.declared.output.Failure.{Failure}
use Rattle.e_commands.specs.Outcome.{Begins, lines_of_book}
use Rattle.e_commands.specs.Answers.{Derived, AllDerived, theorems_of, steps_of, blocks_of}
use Rattle.e_commands.specs.inner.BookResults.{BookResultIs, BlocksAre}

-- ---- a book by its lines

-- the theorems so far are the first of these lines, each with its derivation, and their blocks were
-- written; then these lines are left
pub record History (lines : Rest) (old : Option (List ℕ)) (known : Known) (rest : Rest)
    (new : Option (List ℕ)) (steps : ℕ) : Type 0 where
  pub derived : List Derived
  pub sound : AllDerived [] derived
  pub begins : Begins lines (theorems_of derived) known rest
  pub grew : Grew old new (blocks_of [] derived)
  pub steps_are : steps ≡ steps_of derived

-- before the first line
abbrev pub first_book : Book
first_book =
    record {
      known = nothing_known;
      reading = record { partial_item = None };
      theorems = 0;
      steps = 0;
    }

-- what is known of a book between two lines
pub record IsBook (b : Book) : Type 0 where
  pub small : IsTrue (list_all is_small_statement (stated_by b.known.theorems))
  pub notions : IsTrue (are_notions b.known.notions)
  pub count : length b.known.theorems ≡ b.theorems
  pub most : b.theorems ≤ 500
  pub steps : b.steps ≤ 1024 * b.theorems
  pub partial_item : IfSome b.reading.partial_item (FitsPartial b.known)
  pub begun : IsBegun b.known b.reading.partial_item

-- By what comes: all lines of the book, and those that remain. Whatever comes, the theorems so far
-- are the first of all lines, and to read the next one from its first line is to read on from what
-- has come of it.
pub record Reaches (all remaining : Rest → Rest) (old : Option (List ℕ)) (b : Book)
    (new : Option (List ℕ)) : Type 0 where
  pub tail : Rest
  pub history : (more : Rest) → History (all more) old b.known (tail ++ remaining more) new b.steps
  pub reads : (last : ℕ) (more : Rest) → item_from b.known last None (tail ++ remaining more)
      ≡ item_from b.known last b.reading.partial_item (remaining more)

-- the next theorem or definition is taken, and these lines are left; or the blocks end or break off
-- at it
abbrev pub Handles : Rest → Option (List ℕ) → Rest → Result (Option BookResult) Failure → Book
    → Option (List ℕ) → Type 0
Handles lines old after (Ok None) b new = History lines old b.known after new b.steps
Handles lines old after (Ok (Some book_result)) b new = BookResultIs lines old new book_result
Handles lines old after (Err error) b new = BlocksAre lines old new (Err error)

-- the lines that remained are taken; or the blocks end or break off at them
abbrev pub BookTakes : (Rest → Rest) → Option (List ℕ) → Result (Option BookResult) Failure → Book
    → Option (List ℕ) → Type 0
BookTakes all old (Ok None) b new = Reaches all (λ more. more) old b new
BookTakes all old (Ok (Some book_result)) b new =
    (more : Rest) → BookResultIs (all more) old new book_result
BookTakes all old (Err error) b new = (more : Rest) → BlocksAre (all more) old new (Err error)

-- the lines that remained are taken, and none has a fault
pub record AreTaken (old new : Ahead) : Type 0 where
  pub none : new.lines ≡ []
  pub good : HaveNoFault old.lines
  pub line : new.line ≡ last_line old

-- how a book ends where no lines come any more
abbrev pub result_at : ℕ → Option PartialItem → ℕ → ℕ → BookResult
result_at line None theorems steps = All theorems steps
result_at line (Some d) theorems steps = Faulty (Unended line)

-- ---- a book by its bytes

-- These bytes were read. Those that are taken are lines with their ends, and none has a fault; so
-- whatever bytes come, the lines of the book begin with these.
pub record IsReadUpTo (read : List ℕ) (old : Option (List ℕ)) (b : Book) (u : Untaken)
    (new : Option (List ℕ)) : Type 0 where
  pub taken : List ℕ
  pub all : read ≡ taken ++ u.bytes.items
  pub closed : IsClosed taken
  pub good : HaveNoFault (lines_of_book taken)
  pub line : u.line ≡ 1 + length (lines_of_book taken)
  pub before : u.before ≡ length taken
  pub reaches : Reaches (λ more. lines_of_book taken ++ more) (λ more. more) old b new

-- all these bytes were read, and the book goes on; or its blocks end or break off at them, whatever
-- bytes come
abbrev pub PieceTakes : List ℕ → Option (List ℕ) → Result (Option BookResult) Failure → Book
    → Untaken → Option (List ℕ) → Type 0
PieceTakes read old (Ok None) b u new = IsReadUpTo read old b u new
PieceTakes read old (Ok (Some book_result)) b u new =
    (left : List ℕ) → BookResultIs (lines_of_book (read ++ left)) old new book_result
PieceTakes read old (Err error) b u new =
    (left : List ℕ) → BlocksAre (lines_of_book (read ++ left)) old new (Err error)
