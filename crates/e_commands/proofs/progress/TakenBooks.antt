-- A book while its lines come, whatever lines come.
use Rattle.std.proofs.Common.{◌≡◌, ℕ, true, List, [], ◌++◌, length, Option, Some, None, Result, Ok, Err, refl, sym, ap, subst, ◌∙◌, arith, append_assoc}
use Rattle.std.specs.Prelude.{IfOk, IfSome, IfNone}
use Rattle.e_book.specs.declared.partial_item.PartialItem.{PartialItem}
use Rattle.e_book.specs.declared.reading.Reading.{Reading}
use Rattle.e_book.specs.declared.item.Item.{Item}
use Rattle.e_names.specs.declared.known.Known.{Known}
use Rattle.e_line.specs.declared.fault.BookFault.{BookFault}
use Rattle.e_line.specs.declared.fault.BookFault.TheVariants as faults
use Rattle.e_names.specs.Taken.{nothing_known}
use Rattle.e_names.specs.Titled.{Titled, is_notion, are_notions}
use Rattle.e_book.specs.Definitions.{BookItem, view_of, item_from}
use Rattle.e_book.specs.inner.Machine.{FitsPartial, IsBegun, ReadsOn}
use Rattle.e_book.specs.inner.Machine as machine
use Rattle.e_book.proofs.grammar.PartialTied.{items_read_alike}
use Rattle.e_book.proofs.parsers.ReadingOn.{begun_first}
use Rattle.e_book.specs.Grammar.{Rest}
use Rattle.e_names.proofs.titles.NotionsBeside.{one_more_notion}
use Rattle.e_commands.specs.declared.book.Book.{Book}
use Rattle.e_commands.specs.declared.blocks.BookResult.TheVariants.{Faulty}
use Rattle.e_commands.specs.declared.blocks.BookResult.{BookResult}
use Rattle.e_commands.specs.declared.output.Failure.{Failure}
use Rattle.e_commands.specs.declared.output.Failure.TheVariants.{WriteFault}
use Rattle.e_deriv.specs.declared.stop.Stop.{Stop}
use Rattle.e_deriv.specs.declared.stop.Stop.TheVariants as stops
use Rattle.e_commands.specs.Outcome.{and_notion, end_line_number}
use Rattle.e_commands.specs.Outcome as outcome
use Rattle.e_commands.specs.Answers.{OutcomeAfter}
use Rattle.e_commands.specs.inner.BookResults.{BookResultIs, BreaksOff, result_of_stop, result_of_fault}
use Rattle.e_commands.specs.inner.Progress.{History, IsBook, Reaches, BookTakes, first_book, result_at}
use Rattle.e_commands.proofs.progress.History.{begins, ends_with, ends_counted, breaks_off}

-- what reading gives
abbrev Answer : Type 0
Answer = Result (Option (BookItem × Rest)) BookFault

abbrev found : BookItem → Rest → Answer
found i rest = Ok (Some (i, rest))

-- the parser reads what the grammar says
pub tied : (b : Book) (last : ℕ) (lines : Rest) → IsBook b → machine.item_from b.known last None lines ≡ item_from b.known last None lines
tied b last lines h = items_read_alike b.known last lines h.notions

-- ---- before the first line

pub first_is_book : IsBook first_book
first_is_book = record { small = refl; notions = refl; count = refl; most = omega arith; steps = omega arith; partial_item = tt; begun = begun_first nothing_known }

pub reaches_first : (remaining : Rest → Rest) (old : Option (List ℕ)) → Reaches remaining remaining old first_book old
reaches_first remaining old = record { tail = []; history = λ more. begins (remaining more) old; reads = λ last more. refl }

-- ---- between two lines

-- more has come of the next theorem or definition
pub book_with : (b : Book) (r : Reading) → IsBook b → IfSome r.partial_item (FitsPartial b.known) → IsBegun b.known r.partial_item → IsBook (record b { reading = r })
book_with b r h fits begun = record { small = h.small; notions = h.notions; count = h.count; most = h.most; steps = h.steps; partial_item = fits; begun = begun }

-- what comes begins with these lines
pub reaches_remaining : (all : Rest → Rest) (old : Option (List ℕ)) (b : Book) (new : Option (List ℕ)) (lines : Rest) → Reaches all (λ more. more) old b new → Reaches (λ more. all (lines ++ more)) (λ more. lines ++ more) old b new
reaches_remaining all old b new lines r = record { tail = r.tail; history = λ more. r.history (lines ++ more); reads = λ last more. r.reads last (lines ++ more) }

-- all lines are what they are, in whatever way they are written
pub reaches_as : (all same : Rest → Rest) (old : Option (List ℕ)) (b : Book) (new : Option (List ℕ)) → ((more : Rest) → all more ≡ same more) → Reaches all (λ more. more) old b new → Reaches same (λ more. more) old b new
reaches_as all same old b new e r =
    record { tail = r.tail; history = λ more. subst (λ (ls : Rest). History ls old b.known (r.tail ++ more) new b.steps) (e more) (r.history more); reads = r.reads }

-- ---- a theorem or a definition ends

-- it is the next of the book
pub next_is : (all : Rest → Rest) (old : Option (List ℕ)) (b : Book) (new : Option (List ℕ)) (lines left : Rest) (c : Option PartialItem) (i : Item) (r : Reaches all (λ more. lines ++ more) old b new) → IsBook b
    → ReadsOn b.known b.reading.partial_item lines (Ok (Some i)) c left → (more : Rest) → item_from b.known (end_line_number (all more)) None (r.tail ++ (lines ++ more)) ≡ found (view_of i) (left ++ more)
next_is all old b new lines left c i r is h more =
    let last = end_line_number (all more) in
    sym (tied b last (r.tail ++ (lines ++ more)) is) ∙ r.reads last more ∙ h.2 last more

-- and is taken
pub next_reaches : (all : Rest → Rest) (old : Option (List ℕ)) (b : Book) (new : Option (List ℕ)) (left : Rest) → ((more : Rest) → History (all more) old b.known (left ++ more) new b.steps) → b.reading.partial_item ≡ None
    → Reaches all (λ more. left ++ more) old b new
next_reaches all old b new left h none =
    record { tail = []; history = h; reads = λ last more. ap (λ (c : Option PartialItem). machine.item_from b.known last c (left ++ more)) (sym none) }

-- a definition is known
pub with_notion : (b : Book) (known : Known) (n : Titled) → IsBook b → b.reading.partial_item ≡ None → is_notion n.notion ≡ true → known ≡ and_notion b.known n → IsBook (record b { known = known })
with_notion b known n h none good e = record {
  small = rw e h.small;
  notions = rw e (one_more_notion b.known.notions n h.notions good);
  count = ap (λ (k : Known). length k.theorems) e ∙ h.count;
  most = h.most;
  steps = h.steps;
  partial_item = rw none tt;
  begun = rw none (begun_first known);
}

-- ---- the lines are used up

pub all_reached : (all : Rest → Rest) (old : Option (List ℕ)) (b : Book) (reading : Reading) (new : Option (List ℕ)) (lines left : Rest) → Reaches all (λ more. lines ++ more) old b new → ReadsOn b.known b.reading.partial_item lines (Ok None) reading.partial_item left
    → Reaches all (λ more. more) old (record b { reading = reading }) new
all_reached all old b reading new lines left r h = record {
  tail = r.tail ++ lines;
  history = λ more. subst (λ (ls : Rest). History (all more) old b.known ls new b.steps) (sym (append_assoc r.tail lines more)) (r.history more);
  reads = λ last more. ap (λ (ls : Rest). machine.item_from b.known last None ls) (append_assoc r.tail lines more) ∙ r.reads last more ∙ h.2 last more;
}

-- ---- the blocks end, or break off

-- then the book does not go on, and the sink did not fail
pub stop_none : (title : List ℕ) (stop : Stop) (r : Result (Option BookResult) Failure) (P : Type 0) → r ≡ result_of_stop title stop → IfOk r (λ e. IfNone e P)
stop_none title (stops.Unlicensed step wanted values names) r P e = subst (λ (x : Result (Option BookResult) Failure). IfOk x (λ o. IfNone o P)) (sym e) tt
stop_none title (stops.TooWide step wanted width names) r P e = subst (λ (x : Result (Option BookResult) Failure). IfOk x (λ o. IfNone o P)) (sym e) tt
stop_none title stops.NoMemory r P e = subst (λ (x : Result (Option BookResult) Failure). IfOk x (λ o. IfNone o P)) (sym e) tt

pub fault_none : (f : BookFault) (r : Result (Option BookResult) Failure) (P : Type 0) → r ≡ result_of_fault f → IfOk r (λ e. IfNone e P)
fault_none faults.NoMemory r P e = subst (λ (x : Result (Option BookResult) Failure). IfOk x (λ o. IfNone o P)) (sym e) tt
fault_none (faults.Malformed line) r P e = subst (λ (x : Result (Option BookResult) Failure). IfOk x (λ o. IfNone o P)) (sym e) tt
fault_none (faults.UnknownName line) r P e = subst (λ (x : Result (Option BookResult) Failure). IfOk x (λ o. IfNone o P)) (sym e) tt
fault_none (faults.NameTaken line) r P e = subst (λ (x : Result (Option BookResult) Failure). IfOk x (λ o. IfNone o P)) (sym e) tt
fault_none (faults.WrongSort line) r P e = subst (λ (x : Result (Option BookResult) Failure). IfOk x (λ o. IfNone o P)) (sym e) tt
fault_none (faults.Limit line what) r P e = subst (λ (x : Result (Option BookResult) Failure). IfOk x (λ o. IfNone o P)) (sym e) tt
fault_none (faults.Unended line) r P e = subst (λ (x : Result (Option BookResult) Failure). IfOk x (λ o. IfNone o P)) (sym e) tt

fault_writes : (f : BookFault) → result_of_fault f ≡ Err WriteFault → ⊥
fault_writes faults.NoMemory e = absurd cc
fault_writes (faults.Malformed line) e = absurd cc
fault_writes (faults.UnknownName line) e = absurd cc
fault_writes (faults.NameTaken line) e = absurd cc
fault_writes (faults.WrongSort line) e = absurd cc
fault_writes (faults.Limit line what) e = absurd cc
fault_writes (faults.Unended line) e = absurd cc

pub fault_unwritten : (f : BookFault) (r : Result (Option BookResult) Failure) → r ≡ result_of_fault f → r ≡ Err WriteFault → ⊥
fault_unwritten f r e h = fault_writes f (sym e ∙ h)

pub off_here : (all remaining : Rest → Rest) (old : Option (List ℕ)) (b : Book) (new : Option (List ℕ)) → Reaches all remaining old b new → (more : Rest) → BreaksOff (all more) old new
off_here all remaining old b new r more = breaks_off (all more) old new b.known (r.tail ++ remaining more) b.steps (r.history more)

-- the next line has a fault
faulty_at : (all : Rest → Rest) (old : Option (List ℕ)) (b : Book) (new : Option (List ℕ)) (lines : Rest) (f : BookFault) → IsBook b → Reaches all (λ more. lines ++ more) old b new
    → ((last : ℕ) (more : Rest) → machine.item_from b.known last b.reading.partial_item (lines ++ more) ≡ Err f) → (more : Rest) → BookResultIs (all more) old new (Faulty f)
faulty_at all old b new lines f is r h more =
    let last = end_line_number (all more) in
    ends_with (all more) old new b.known (r.tail ++ (lines ++ more)) b.steps (OutcomeAfter (all more) (outcome.Faulty f)) (r.history more) (sym (tied b last (r.tail ++ (lines ++ more)) is) ∙ r.reads last more ∙ h last more)

-- or memory ran out
pub faulty_here : (all : Rest → Rest) (old : Option (List ℕ)) (b c : Book) (new : Option (List ℕ)) (lines left : Rest) (d : Option PartialItem) (f : BookFault) → IsBook b → Reaches all (λ more. lines ++ more) old b new → ReadsOn b.known b.reading.partial_item lines (Err f) d left
    → BookTakes all old (result_of_fault f) c new
faulty_here all old b c new lines left d faults.NoMemory is r h = off_here all (λ more. lines ++ more) old b new r
faulty_here all old b c new lines left d (faults.Malformed line) is r h = faulty_at all old b new lines (faults.Malformed line) is r h
faulty_here all old b c new lines left d (faults.UnknownName line) is r h = faulty_at all old b new lines (faults.UnknownName line) is r h
faulty_here all old b c new lines left d (faults.NameTaken line) is r h = faulty_at all old b new lines (faults.NameTaken line) is r h
faulty_here all old b c new lines left d (faults.WrongSort line) is r h = faulty_at all old b new lines (faults.WrongSort line) is r h
faulty_here all old b c new lines left d (faults.Limit line what) is r h = faulty_at all old b new lines (faults.Limit line what) is r h
faulty_here all old b c new lines left d (faults.Unended line) is r h = faulty_at all old b new lines (faults.Unended line) is r h

-- no lines come any more, by what has come of the next theorem or definition
ends_at : (lines rest : Rest) (old new : Option (List ℕ)) (known : Known) (c : Option PartialItem) (line theorems steps : ℕ) → end_line_number lines ≡ line → length known.theorems ≡ theorems → are_notions known.notions ≡ true
    → History lines old known rest new steps → ((last : ℕ) → machine.item_from known last None rest ≡ machine.item_from known last c []) → BookResultIs lines old new (result_at line c theorems steps)
ends_at lines rest old new known None line theorems steps is count notions h reads =
    ends_counted lines old new known rest steps theorems h (sym (items_read_alike known (end_line_number lines) rest notions) ∙ reads (end_line_number lines), count)
ends_at lines rest old new known (Some c) line theorems steps is count notions h reads =
    ends_with lines old new known rest steps (OutcomeAfter lines (outcome.Faulty (faults.Unended line))) h (sym (items_read_alike known (end_line_number lines) rest notions) ∙ reads (end_line_number lines) ∙ ap (λ (n : ℕ). unended n) is)
  where
    unended : ℕ → Answer
    unended n = Err (faults.Unended n)

pub ends_here : (all : Rest → Rest) (old : Option (List ℕ)) (b : Book) (new : Option (List ℕ)) (line : ℕ) → IsBook b → end_line_number (all []) ≡ line → Reaches all (λ more. more) old b new
    → BookResultIs (all []) old new (result_at line b.reading.partial_item b.theorems b.steps)
ends_here all old b new line h is r =
    ends_at (all []) (r.tail ++ []) old new b.known b.reading.partial_item line b.theorems b.steps is h.count h.notions (r.history []) (λ last. r.reads last [])
