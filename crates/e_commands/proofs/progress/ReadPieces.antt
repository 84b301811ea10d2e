-- A book by its bytes: those that were read, those of them that are taken, and whatever comes.
use Rattle.std.proofs.Common.{◌≡◌, ℕ, zero, suc, ◌+◌, ◌<◌, ◌≤◌, Bool, true, false, eqb, List, [], ◌++◌, length, take, inl, inr, Option, Some, None, Result, Ok, Err, refl, sym, ap, ap₂, subst, ◌∙◌, arith, append_assoc, length-append}
use Rattle.std.specs.Prelude.{IfOk}
use Rattle.std.proofs.lemmas.Bool.{eqb-true}
use Rattle.std.proofs.lemmas.List.{append-nil, nil_from_length}
use Rattle.e_io.specs.Bytes.{ReadsBytes, Grew}
use Rattle.e_text.specs.Lines.{Bounds, Spot, HaveNoFault, IsClosed, IsOpen, lines_of, spot_after}
use Rattle.e_text.proofs.Fronts.{lines_of-front}
use Rattle.e_text.proofs.ClosedTexts.{closed_both, closed_after, then_good, good_both, fault_is_last, then_some}
use Rattle.e_text.proofs.LinesOfTexts.{lines_of-take}
use Rattle.e_book.specs.declared.partial_item.PartialItem.{PartialItem}
use Rattle.e_book.specs.Definitions.{BookItem}
use Rattle.e_book.specs.inner.Machine.{at_end}
use Rattle.e_book.specs.Grammar.{Rest}
use Rattle.e_commands.specs.declared.book.Book.{Book}
use Rattle.e_commands.specs.declared.pieces.Untaken.{Untaken}
use Rattle.e_commands.specs.declared.blocks.BookResult.{BookResult}
use Rattle.e_commands.specs.declared.output.Failure.{Failure}
use Rattle.e_commands.specs.declared.output.Failure.TheVariants.{NoMemory, ReadFault, WriteFault}
use Rattle.e_commands.specs.declared.status.Status.{Status}
use Rattle.e_commands.specs.inner.Finished.{Finishes}
use Rattle.e_commands.specs.declared.status.Status.TheVariants as status
use Rattle.e_commands.specs.Input.{IsTextOf}
use Rattle.e_commands.specs.LastLines.{read_fault_line}
use Rattle.e_commands.specs.Outcome.{end_line_number, lines_of_book}
use Rattle.e_commands.specs.Answers.{IsReadFault, written_with, OutputUpTo}
use Rattle.e_commands.specs.Wrote.{ClosesWith}
use Rattle.e_commands.specs.inner.BookResults.{BreaksOff, BlocksAre, SourceResultIs, IsAll}
use Rattle.e_commands.specs.inner.Progress.{History, IsBook, Reaches, IsReadUpTo, PieceTakes, first_book}
use Rattle.e_commands.specs.Taken.{TookFew, OfWholeLines, HandledAll, HaveNone}
use Rattle.e_commands.specs.inner.Handled.{AllBlocks, HandledBlocks, TextResultIs}
use Rattle.e_commands.proofs.progress.TakenBooks.{tied, reaches_first, reaches_as, off_here}
use Rattle.e_commands.proofs.progress.TakenBytes.{TakenSoFar, taken_more, taken_of, taken_map, all_of}
use Rattle.e_commands.proofs.outcomes.AcceptedBooks.{all_is_short}
use Rattle.e_commands.proofs.written_texts.LastLinesWritten.{grew_all}
use Rattle.e_roundtrip.specs.Written.{version_line}
use Rattle.e_clause.specs.declared.cert.Version.TheVariants.{One}

abbrev bounds : Bounds
bounds = record { longest = 1600; most = 4194304 }

abbrev spot : ℕ → ℕ → Spot
spot a b = record { line = a; before = b }

-- the lines of bytes after others
abbrev pub lines_at : ℕ → ℕ → List ℕ → Rest
lines_at line before bytes = lines_of bounds (spot line before) bytes

-- a test of a count
some_of : (n : ℕ) → eqb n 0 ≡ false → 0 < n
some_of zero e = absurd cc
some_of (suc n) e = omega arith

-- ---- the lines of a book after what is taken

lines_after : (taken bytes : List ℕ) (line before : ℕ) → IsClosed taken → HaveNoFault (lines_of_book taken) → line ≡ 1 + length (lines_of_book taken) → before ≡ length taken
    → lines_of_book (taken ++ bytes) ≡ lines_of_book taken ++ lines_at line before bytes
lines_after taken bytes line before closed good at from =
    let next : spot_after bounds (spot 1 0) taken ≡ spot line before = ap₂ (λ (a b : ℕ). spot a b) (sym at) (omega (arith, from)) in
    lines_of-front bounds (spot 1 0) taken bytes closed ∙ then_good (lines_of_book taken) (lines_of bounds (spot_after bounds (spot 1 0) taken) bytes) good
    ∙ ap (λ (p : Spot). lines_of_book taken ++ lines_of bounds p bytes) next

-- with what comes after them
lines_with : (taken bytes left : List ℕ) (line before : ℕ) → IsClosed taken → HaveNoFault (lines_of_book taken) → line ≡ 1 + length (lines_of_book taken) → before ≡ length taken → IsClosed bytes
    → (more : Rest) × (lines_of_book (taken ++ (bytes ++ left)) ≡ lines_of_book taken ++ (lines_at line before bytes ++ more))
lines_with taken bytes left line before closed good at from ended =
    let s = then_some (lines_at line before bytes) (lines_of bounds (spot_after bounds (spot line before) bytes) left) (fault_is_last bounds (spot line before) bytes) in (
      s.0,
      lines_after taken (bytes ++ left) line before closed good at from
          ∙ ap (λ (ls : Rest). lines_of_book taken ++ ls) (lines_of-front bounds (spot line before) bytes left ended ∙ s.1),
    )

-- ---- how far a book is taken

pub read_first : (u : Untaken) (old : Option (List ℕ)) → u.bytes.items ≡ [] → u.line ≡ 1 → u.before ≡ 0 → IsReadUpTo [] old first_book u old
read_first u old none line before =
    record { taken = []; all = sym none; closed = refl; good = tt; line = line; before = before; reaches = reaches_first (λ more. more) old }

-- more was read
pub read_more : (read more : List ℕ) (old : Option (List ℕ)) (b : Book) (u v : Untaken) (new : Option (List ℕ)) → v.bytes.items ≡ u.bytes.items ++ more → v.line ≡ u.line → v.before ≡ u.before → IsReadUpTo read old b u new → IsReadUpTo (read ++ more) old b v new
read_more read more old b u v new items line before s = record {
  taken = s.taken;
  all = ap (λ (xs : List ℕ). xs ++ more) s.all ∙ append_assoc s.taken u.bytes.items more ∙ ap (λ (xs : List ℕ). s.taken ++ xs) (sym items);
  closed = s.closed;
  good = s.good;
  line = line ∙ s.line;
  before = before ∙ s.before;
  reaches = s.reaches;
}

-- what was not taken is taken
pub read_taken : (read : List ℕ) (old : Option (List ℕ)) (b c : Book) (u v : Untaken) (new newer : Option (List ℕ)) (lines : Rest) (s : IsReadUpTo read old b u new) → IsClosed u.bytes.items → v.bytes.items ≡ [] → v.line ≡ u.line + length lines
    → v.before ≡ u.before + length u.bytes.items → lines ≡ lines_at u.line u.before u.bytes.items → HaveNoFault lines → Reaches (λ more. lines_of_book s.taken ++ (lines ++ more)) (λ more. more) old c newer → IsReadUpTo read old c v newer
read_taken read old b c u v new newer lines s ended none line before is good r =
    let items = u.bytes.items in
    let all : lines_of_book (s.taken ++ items) ≡ lines_of_book s.taken ++ lines = lines_after s.taken items u.line u.before s.closed s.good s.line s.before ∙ ap (λ (ls : Rest). lines_of_book s.taken ++ ls) (sym is) in
    record {
      taken = s.taken ++ items;
      all = s.all ∙ sym (append-nil (s.taken ++ items)) ∙ ap (λ (xs : List ℕ). (s.taken ++ items) ++ xs) (sym none);
      closed = closed_both s.taken items s.closed ended;
      good = subst HaveNoFault (sym all) (good_both (lines_of_book s.taken) lines s.good good);
      line = omega (arith, line, s.line, ap length all, length-append (lines_of_book s.taken) lines);
      before = omega (arith, before, s.before, length-append s.taken items);
      reaches = reaches_as (λ more. lines_of_book s.taken ++ (lines ++ more)) (λ more. lines_of_book (s.taken ++ items) ++ more) old c newer
          (λ more. sym (append_assoc (lines_of_book s.taken) lines more) ∙ ap (λ (ls : Rest). ls ++ more) (sym all)) r;
    }

-- what holds of the lines of what is not taken, whatever lines come, holds of the book, whatever bytes come
pub whatever_comes : (P : Rest → Type 0) (read : List ℕ) (old : Option (List ℕ)) (b : Book) (u : Untaken) (new : Option (List ℕ)) (lines : Rest) (s : IsReadUpTo read old b u new) → IsClosed u.bytes.items → lines ≡ lines_at u.line u.before u.bytes.items
    → ((more : Rest) → P (lines_of_book s.taken ++ (lines ++ more))) → (left : List ℕ) → P (lines_of_book (read ++ left))
whatever_comes P read old b u new lines s ended is h left =
    let items = u.bytes.items in
    let w = lines_with s.taken items left u.line u.before s.closed s.good s.line s.before ended in
    let all : lines_of_book (read ++ left) ≡ lines_of_book s.taken ++ (lines ++ w.0) =
    ap (λ (xs : List ℕ). lines_of_book (xs ++ left)) s.all ∙ ap lines_of_book (append_assoc s.taken items left) ∙ w.1 ∙ ap (λ (ls : Rest). lines_of_book s.taken ++ (ls ++ w.0)) (sym is) in
    subst P (sym all) (h w.0)

-- it may break off here
pub off_now : (read : List ℕ) (old : Option (List ℕ)) (b : Book) (u : Untaken) (new : Option (List ℕ)) → IsReadUpTo read old b u new → (more : List ℕ) → BreaksOff (lines_of_book (read ++ more)) old new
off_now read old b u new s more =
    let items = u.bytes.items in
    let remaining = lines_at u.line u.before (items ++ more) in
    let all : lines_of_book (read ++ more) ≡ lines_of_book s.taken ++ remaining =
    ap (λ (xs : List ℕ). lines_of_book (xs ++ more)) s.all ∙ ap lines_of_book (append_assoc s.taken items more) ∙ lines_after s.taken (items ++ more) u.line u.before s.closed s.good s.line s.before in
    subst (λ (ls : Rest). BreaksOff ls old new) (sym all) (off_here (λ more. lines_of_book s.taken ++ more) (λ more. more) old b new s.reaches remaining)

pub off_in_piece : (read piece : List ℕ) (old : Option (List ℕ)) (b : Book) (u : Untaken) (new : Option (List ℕ)) → IsReadUpTo read old b u new → (left : List ℕ) → BreaksOff (lines_of_book ((read ++ piece) ++ left)) old new
off_in_piece read piece old b u new s left =
    subst (λ (t : List ℕ). BreaksOff (lines_of_book t) old new) (sym (append_assoc read piece left)) (off_now read old b u new s (piece ++ left))

-- the same after a first part of a piece
pub in_piece : (P : List ℕ → Type 0) (read ended rest piece : List ℕ) → piece ≡ ended ++ rest → ((left : List ℕ) → P ((read ++ ended) ++ left)) → (left : List ℕ) → P ((read ++ piece) ++ left)
in_piece P read ended rest piece is h left =
    let e : (read ++ ended) ++ (rest ++ left) ≡ (read ++ piece) ++ left =
    sym (append_assoc (read ++ ended) rest left) ∙ ap (λ (xs : List ℕ). xs ++ left) (append_assoc read ended rest ∙ ap (λ (xs : List ℕ). read ++ xs) (sym is)) in
    subst P e (h (rest ++ left))

-- ---- the two parts of a piece

-- nothing in it has its end
pub read_open : (read piece ended rest : List ℕ) (empty : Bool) (old : Option (List ℕ)) (b : Book) (u v : Untaken) (new : Option (List ℕ)) → piece ≡ ended ++ rest → empty ≡ eqb (length ended) 0 → empty ≡ true
    → v.bytes.items ≡ u.bytes.items ++ rest → v.line ≡ u.line → v.before ≡ u.before → IsReadUpTo read old b u new → IsReadUpTo (read ++ piece) old b v new
read_open read piece ended rest empty old b u v new is test empty_is items line before s =
    let nothing : ended ≡ [] = nil_from_length ended (eqb-true (length ended) 0 (sym test ∙ empty_is)) in
    let same : piece ≡ rest = is ∙ ap (λ (xs : List ℕ). xs ++ rest) nothing in
    read_more read piece old b u v new (items ∙ ap (λ (xs : List ℕ). u.bytes.items ++ xs) (sym same)) line before s

-- the first part, which has bytes, is closed
pub closed_part : (before items bytes ended : List ℕ) (empty : Bool) → items ≡ before ++ ended → ended ≡ bytes → empty ≡ eqb (length ended) 0 → empty ≡ false → IsClosed bytes → IsClosed items
closed_part before items bytes ended empty is front test empty_is h =
    subst IsClosed (sym is) (closed_after before ended (some_of (length ended) (sym test ∙ empty_is)) (subst IsClosed (sym front) h))

-- the second part comes after the first
pub read_both : (read piece ended rest : List ℕ) (old : Option (List ℕ)) (b : Book) (u v : Untaken) (new : Option (List ℕ)) → piece ≡ ended ++ rest
    → v.bytes.items ≡ u.bytes.items ++ rest → v.line ≡ u.line → v.before ≡ u.before → IsReadUpTo (read ++ ended) old b u new → IsReadUpTo (read ++ piece) old b v new
read_both read piece ended rest old b u v new is items line before s =
    let whole : (read ++ ended) ++ rest ≡ read ++ piece = append_assoc read ended rest ∙ ap (λ (xs : List ℕ). read ++ xs) (sym is) in
    subst (λ (t : List ℕ). IsReadUpTo t old b v new) whole (read_more (read ++ ended) rest old b u v new items line before s)

-- and is all that is kept
pub open_part : (before items bytes rest : List ℕ) → items ≡ before ++ rest → before ≡ [] → rest ≡ bytes → IsOpen bytes → IsOpen items
open_part before items bytes rest is none back h = subst IsOpen (sym (is ∙ ap (λ (xs : List ℕ). xs ++ rest) none ∙ back)) h

-- ---- the last lines

pub lines_are : (read : List ℕ) (old : Option (List ℕ)) (b : Book) (u : Untaken) (new : Option (List ℕ)) (lines : Rest) (s : IsReadUpTo read old b u new) → lines ≡ lines_at u.line u.before u.bytes.items
    → lines_of_book s.taken ++ (lines ++ []) ≡ lines_of_book read
lines_are read old b u new lines s is =
    ap (λ (ls : Rest). lines_of_book s.taken ++ ls) (append-nil lines ∙ is) ∙ sym (lines_after s.taken u.bytes.items u.line u.before s.closed s.good s.line s.before) ∙ ap lines_of_book (sym s.all)

pub number_is : (read : List ℕ) (old : Option (List ℕ)) (b : Book) (u : Untaken) (new : Option (List ℕ)) (lines : Rest) (s : IsReadUpTo read old b u new) → end_line_number (lines_of_book s.taken ++ (lines ++ [])) ≡ u.line + length lines
number_is read old b u new lines s = omega (arith, s.line, length-append (lines_of_book s.taken) (lines ++ []), ap length (append-nil lines))

-- how much was read
pub count_is : (read : List ℕ) (old : Option (List ℕ)) (b : Book) (u : Untaken) (new : Option (List ℕ)) → IsReadUpTo read old b u new → length read ≡ u.before + length u.bytes.items
count_is read old b u new s = omega (arith, ap length s.all, length-append s.taken u.bytes.items, s.before)

-- ---- the source

pub record ReadState (left0 left old : Option (List ℕ)) (b : Book) (u : Untaken) (new : Option (List ℕ)) : Type 0 where
  pub read : List ℕ
  pub so_far : TakenSoFar left0 left read
  pub is_read : IsReadUpTo read old b u new

-- one more piece was read and taken
pub read_state_more : (E : Type 0) (left0 left next old : Option (List ℕ)) (b c : Book) (u v : Untaken) (new newer : Option (List ℕ)) (to piece : List ℕ) (n : ℕ) (s : ReadState left0 left old b u new) → piece ≡ take n to → ReadsBytes {E = E} left next (Ok n) to
    → IsReadUpTo (s.read ++ piece) old c v newer → ReadState left0 next old c v newer
read_state_more E left0 left next old b c u v new newer to piece n s is r h =
    record { read = s.read ++ piece; so_far = subst (λ (xs : List ℕ). TakenSoFar left0 next (s.read ++ xs)) (sym is) (taken_more E left0 left next s.read to n s.so_far r); is_read = h }

pub book_ends : (lines : Rest) (old new : Option (List ℕ)) (r : Result BookResult Failure) → BlocksAre lines old new r → SourceResultIs lines old new r
book_ends lines old new (Ok book_result) h = h
book_ends lines old new (Err NoMemory) h = h
book_ends lines old new (Err ReadFault) h = absurd h
book_ends lines old new (Err WriteFault) h = h

-- what was read is all that counts
pub text_ends : (left : Option (List ℕ)) (read : List ℕ) (old new : Option (List ℕ)) (r : Result BookResult Failure) → IsTextOf 4194305 left read → BlocksAre (lines_of_book read) old new r → TextResultIs left old new r
text_ends None read old new r is h = (read, tt, book_ends (lines_of_book read) old new r h)
text_ends (Some text) read old new r is h = (
  text,
  refl,
  subst (λ (ls : Rest). SourceResultIs ls old new r) (ap lines_of_book is ∙ lines_of-take bounds (spot 1 0) text (omega arith)) (book_ends (lines_of_book read) old new r h),
)

-- memory gave out, and says nothing else
pub out_of_memory : (read : List ℕ) (old : Option (List ℕ)) (r : Result (Option BookResult) Failure) (b : Book) (u : Untaken) (new : Option (List ℕ)) → r ≡ Err NoMemory → ((left : List ℕ) → BreaksOff (lines_of_book (read ++ left)) old new) → PieceTakes read old r b u new
out_of_memory read old r b u new e h = subst (λ (x : Result (Option BookResult) Failure). PieceTakes read old x b u new) (sym e) h

-- no source was read there
pub no_read : (lines : Rest) (old new : Option (List ℕ)) (r : Result BookResult Failure) → BlocksAre lines old new r → r ≡ Err ReadFault → ⊥
no_read lines old new r h e = subst (BlocksAre lines old new) e h

-- the blocks end or break off in a piece
pub ends_in_piece : (E : Type 0) (left0 left next old : Option (List ℕ)) (b : Book) (u : Untaken) (new newer : Option (List ℕ)) (to piece : List ℕ) (n : ℕ) (s : ReadState left0 left old b u new) (r : Result BookResult Failure) → piece ≡ take n to → ReadsBytes {E = E} left next (Ok n) to
    → ((more : List ℕ) → BlocksAre (lines_of_book ((s.read ++ piece) ++ more)) old newer r) → TextResultIs left0 old newer r
ends_in_piece E left0 left next old b u new newer to piece n s r is reads h =
    all_of left0 next (s.read ++ piece) (λ text. SourceResultIs (lines_of_book text) old newer r) (subst (λ (xs : List ℕ). TakenSoFar left0 next (s.read ++ xs)) (sym is) (taken_more E left0 left next s.read to n s.so_far reads))
    (λ more. book_ends (lines_of_book ((s.read ++ piece) ++ more)) old newer r (h more))

pub took_in_piece : (E : Type 0) (left0 left next old : Option (List ℕ)) (b : Book) (u : Untaken) (new : Option (List ℕ)) (to piece : List ℕ) (n : ℕ) (s : ReadState left0 left old b u new) → piece ≡ take n to → ReadsBytes {E = E} left next (Ok n) to
    → u.before + length u.bytes.items + length piece ≤ 4194305 → TookFew left0 next
took_in_piece E left0 left next old b u new to piece n s is reads few =
    taken_of left0 next (s.read ++ piece) (λ taken. length taken ≤ 4194305) (subst (λ (xs : List ℕ). TakenSoFar left0 next (s.read ++ xs)) (sym is) (taken_more E left0 left next s.read to n s.so_far reads))
    (omega (arith, count_is s.read old b u new s.is_read, length-append s.read piece, few))

-- what was read is too long for a book whose theorems are all taken
pub all_too_long : (old new : Option (List ℕ)) (read : List ℕ) (P : Type 0) (r : Result BookResult Failure) → BlocksAre (lines_of_book read) old new r → 4194304 < length read → IfOk r (λ e. IsAll e → P)
all_too_long old new read P (Ok book_result) h long = λ a. absurd (omega (arith, all_is_short old new read book_result a h, long))
all_too_long old new read P (Err error) h long = tt

pub if_all : (P : Type 0) (r : Result BookResult Failure) → P → IfOk r (λ e. IsAll e → P)
if_all P (Ok book_result) p = λ a. p
if_all P (Err error) p = tt

-- the last line comes where the answer is the read fault
last_grew : (old new : Option (List ℕ)) (last : List ℕ) (result : Status) → ClosesWith old new last status.ReadFault result → result ≡ status.ReadFault → Grew old new last
last_grew old new last result (inl c) e = c.1
last_grew old new last result (inr c) e = absurd (let f : status.WriteFault ≡ status.ReadFault = sym c.0 ∙ e in cc)

-- ---- what was taken is handled

-- what has come is no whole theorem or definition
machine_ends : (last : ℕ) (c : Option PartialItem) (i : BookItem) (rest : Rest) → at_end last c ≡ Ok (Some (i, rest)) → ⊥
machine_ends last None i rest e = cc
machine_ends last (Some c) i rest e = cc

pub handled_now : (read : List ℕ) (old : Option (List ℕ)) (b : Book) (u : Untaken) (new : Option (List ℕ)) → IsBook b → IsReadUpTo read old b u new → IsOpen u.bytes.items → OfWholeLines (λ lines. AllBlocks lines old new) read
handled_now read old b u new book s unended =
    let lines = lines_of_book s.taken in
    let h = subst (λ (ls : Rest). History ls old b.known (s.reaches.tail ++ []) new b.steps) (append-nil lines) (s.reaches.history []) in (
      s.taken,
      u.bytes.items,
      s.all,
      s.closed,
      unended,
      record {
        derived = h.derived;
        sound = h.sound;
        known = b.known;
        rest = s.reaches.tail ++ [];
        begins = h.begins;
        none = λ i after e. machine_ends (end_line_number lines) b.reading.partial_item i after (sym (s.reaches.reads (end_line_number lines) []) ∙ tied b (end_line_number lines) (s.reaches.tail ++ []) book ∙ e);
        grew = h.grew;
      },
    )

-- with the head line and the last one
with_lines : (old s0 s1 s2 : Option (List ℕ)) (read : List ℕ) → Grew old s0 (version_line One) → Grew s1 s2 read_fault_line → OfWholeLines (λ lines. AllBlocks lines s0 s1) read
    → OfWholeLines (λ lines. (out : List ℕ) × Grew old s2 out × OutputUpTo lines (HaveNone (end_line_number lines)) read_fault_line out) read
with_lines old s0 s1 s2 read head last h =
    let a = h.5 in (
      h.0,
      h.1,
      h.2,
      h.3,
      h.4,
      (
        written_with a.derived read_fault_line,
        grew_all old s0 s1 s2 a.derived read_fault_line head a.grew last,
        record { derived = a.derived; sound = a.sound; known = a.known; rest = a.rest; begins = a.begins; holds = a.none; bytes = refl },
      ),
    )

handled_closed : (left0 left1 old s0 s1 s2 : Option (List ℕ)) (result : Status) → Grew old s0 (version_line One) → HandledBlocks left0 left1 s0 s1 → (result ≡ status.ReadFault → Grew s1 s2 read_fault_line) → IsReadFault result → HandledAll left0 left1 old s2
handled_closed left0 left1 old s0 s1 s2 status.ReadFault head h last a =
    taken_map left0 left1 (OfWholeLines (λ lines. AllBlocks lines s0 s1)) (OfWholeLines (λ lines. (out : List ℕ) × Grew old s2 out × OutputUpTo lines (HaveNone (end_line_number lines)) read_fault_line out)) (λ read. with_lines old s0 s1 s2 read head (last refl)) h
handled_closed left0 left1 old s0 s1 s2 result head h last a = absurd a

pub handled_finished : (left0 left1 old s0 s1 s2 : Option (List ℕ)) (f : Failure) (result : Status) → f ≡ ReadFault → Grew old s0 (version_line One) → HandledBlocks left0 left1 s0 s1 → Finishes s1 s2 (Err f) result → IsReadFault result → HandledAll left0 left1 old s2
handled_finished left0 left1 old s0 s1 s2 f result is head h c r =
    handled_closed left0 left1 old s0 s1 s2 result head h (last_grew s1 s2 read_fault_line result (subst (λ (x : Failure). Finishes s1 s2 (Err x) result) is c)) r
