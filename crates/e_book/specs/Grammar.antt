-- The grammar of theorems: each line has a form, then its names are looked up, and then the limits
-- are asked.
use Rattle.std.specs.Prelude.{◌≡◌, ◌==◌, ℕ, ◌+◌, List, [], ◌∷◌, ◌++◌, length, replicate, nat_le}
use Rattle.std.specs.Prelude.{Bool, true, false, ◌&&◌, Option, Some, None, Result, Ok, Err}
use Rattle.std.specs.Prelude.{if◌then◌else◌}
use Rattle.e_literal.specs.declared.object.Sort.{Sort}
use Rattle.e_theorem.specs.declared.statement.Statement.{Statement}
use Rattle.e_deriv.specs.declared.names.Names.{Names}
use Rattle.e_deriv.specs.Naming.{names_of_sort, with_names}
use Rattle.e_deriv.specs.Script.{Qed, Contradiction}
use Rattle.e_deriv.specs.PlainStep.{PlainStep, Cited, Inferred, Made, Applied}
use Rattle.e_text.specs.Tokens.{tokens_of}
use Rattle.e_text.specs.Lines.{LineView, Ahead}
use Rattle.e_text.specs.declared.line.LineFault.{LineFault}
use Rattle.e_line.specs.declared.fault.FaultKind.{FaultKind}
use Rattle.e_line.specs.declared.fault.FaultKind.TheVariants.{Malformed, NameTaken}
use Rattle.e_line.specs.declared.fault.What.TheVariants as limits
use Rattle.e_line.specs.declared.fault.BookFault.{BookFault}
use Rattle.e_line.specs.declared.fault.BookFault.TheVariants as faults
use Rattle.e_line.specs.declared.raw_line.RawLine.{RawLine}
use Rattle.e_line.specs.declared.raw_line.RawLine.TheVariants as rawlines
use Rattle.e_line.specs.Reading.{◌>>=◌}
use Rattle.e_line.specs.Faults.{at_line, book_fault_of}
use Rattle.e_names.specs.TitledStatements.{TitledStatement, is_known}
use Rattle.e_book.specs.TheoremViews.{TheoremView}
use Rattle.e_line.specs.RawLines.{raw_line_of}
use Rattle.e_line.specs.Limits.{most_theorems}
use Rattle.e_names.specs.Scope.{fresh, lit_in, lits_in, by_in, let_in, qed_in}
use Rattle.e_names.specs.Superposes.{superpose_in}
use Rattle.e_names.specs.Applies.{apply_in}
use Rattle.e_book.specs.Open.{Head, Opener, ByClaim, BySuperposition, ByCase, Enclosing, Open}
use Rattle.e_book.specs.Open.{Stating, Proving, Splitting, Proved, Ended, made_inside, after_close}
use Rattle.e_book.specs.Counts.{context_at, limits_kept, all_kept}

-- ---- a line at its place, with its names: what comes after it

abbrev pub empty_head : List ℕ → Head
empty_head title =
    record {
      title = title;
      names = record { points = []; lines = []; circles = [] };
      statement = record { declared = []; given = []; made = []; shown = [] };
    }

-- the first line
abbrev pub begins : List TitledStatement → RawLine → Result Open FaultKind
begins known (rawlines.Theorem t) =
    if is_known known t then Err NameTaken else
    (all_kept ((nat_le (length known + 1) most_theorems, limits.Theorems) ∷ [])
    >>= λ kept. Ok (Stating (empty_head t)))
begins known f = Err Malformed

abbrev pub is_empty : {A : Type 0} → List A → Bool
is_empty [] = true
is_empty (x ∷ xs) = false

-- nothing has come yet of what comes later in a statement
abbrev pub none_made : Statement → Bool
none_made t = is_empty t.made && is_empty t.shown

abbrev pub none_given : Statement → Bool
none_given t = is_empty t.given && none_made t

-- a line of the statement that comes too late is malformed
abbrev pub at_its_place : Bool → Result Open FaultKind → Result Open FaultKind
at_its_place true next = next
at_its_place false next = Err Malformed

-- new names for objects of a sort
abbrev pub with_new : Names → Sort → List (List ℕ) → Names
with_new ns sort new = with_names ns sort (names_of_sort ns sort ++ new)

-- a line of the statement
abbrev pub states : Head → RawLine → Result Open FaultKind
states h (rawlines.Declare sort new) = at_its_place (none_given h.statement)
    (fresh h.names [] new >>= λ free. Ok (Stating (record h {
      names = with_new h.names sort new;
      statement =
          record h.statement { declared = h.statement.declared ++ replicate (length new) sort };
    })))
states h (rawlines.Given raws) = at_its_place (none_made h.statement)
    (lits_in h.names raws >>= λ ls. Ok (Stating (record h {
      statement = record h.statement { given = h.statement.given ++ ls };
    })))
states h (rawlines.Made sort new) = at_its_place (is_empty h.statement.shown)
    (fresh h.names [] new >>= λ free. Ok (Stating (record h {
      names = with_new h.names sort new;
      statement = record h.statement { made = h.statement.made ++ replicate (length new) sort };
    })))
states h (rawlines.Show raws) =
    lits_in h.names raws >>= λ ls. Ok (Stating (record h {
      statement = record h.statement { shown = h.statement.shown ++ ls };
    }))
states h rawlines.Proof = if is_empty h.statement.shown then Err Malformed else Ok (Proving h [] [])
states h f = Err Malformed

-- one more step of the open block
abbrev pub one_more_step : Head → List Enclosing → List PlainStep → PlainStep
    → Result Open FaultKind
one_more_step h around steps s = Ok (Proving h around (steps ++ s ∷ []))

-- a block inside the open one
abbrev pub inner_block : Head → List Enclosing → List PlainStep → Opener → Result Open FaultKind
inner_block h around steps opener =
    Ok (Proving h (record { steps = steps; opener = opener } ∷ around) [])

-- a line of a block, where these names are in scope
abbrev pub goes_on : List TitledStatement → Names → Head → List Enclosing → List PlainStep → RawLine
    → Result Open FaultKind
goes_on known ns h around steps (rawlines.By rule args raw) =
    by_in ns rule args raw >>= λ b. one_more_step h around steps (Cited b)
goes_on known ns h around steps (rawlines.Hence raw) =
    lit_in ns raw >>= λ l. one_more_step h around steps (Inferred l None)
goes_on known ns h around steps (rawlines.Let raw) =
    let_in ns raw >>= λ construction. one_more_step h around steps (Made construction raw.new [])
goes_on known ns h around steps (rawlines.Apply raw) =
    apply_in known ns raw >>= λ a. one_more_step h around steps (Applied a.0 a.1 raw.new [])
goes_on known ns h around steps (rawlines.Claim raws) =
    lits_in ns raws >>= λ ls. inner_block h around steps (ByClaim ls)
goes_on known ns h around steps (rawlines.Superpose raw) =
    superpose_in ns raw >>= λ p. inner_block h around steps (BySuperposition p.0 raw.new p.1)
goes_on known ns h around steps (rawlines.Cases raw) =
    lit_in ns raw >>= λ l. inner_block h around steps (ByCase l)
goes_on known ns h around steps (rawlines.Qed names) =
    qed_in ns (made_inside around h.statement.made) names
    >>= λ objects. Ok (after_close h around steps (Qed objects []))
goes_on known ns h around steps rawlines.Contradiction =
    Ok (after_close h around steps (Contradiction None))
goes_on known ns h around steps f = Err Malformed

-- a line at its place, without its limits
abbrev pub next : List TitledStatement → Open → RawLine → Result Open FaultKind
next known (Stating h) f = states h f
next known (Proving h around steps) f =
    goes_on known (context_at known (Proving h around steps)).names h around steps f
next known (Splitting h around) rawlines.Else = Ok (Proving h around [])
next known (Proved h script) rawlines.End =
    Ok (Ended (record {
      title = h.title;
      names = h.names;
      statement = h.statement;
      script = script;
    }))
next known o f = Err Malformed

-- a line: its form there, its names, and then the limits
abbrev pub line_after : List TitledStatement → Option Open → RawLine → Result Open FaultKind
line_after known None f = begins known f
line_after known (Some o) f =
    next known o f >>= λ n. all_kept (limits_kept known f n) >>= λ kept. Ok n

abbrev pub line_read : List TitledStatement → Option Open → List (List ℕ) → Result Open FaultKind
line_read known o words = raw_line_of words >>= λ f. line_after known o f

-- ---- lines

abbrev pub starts_with_hash : List ℕ → Bool
starts_with_hash [] = false
starts_with_hash (b ∷ bs) = b == 35

-- a line without words, or whose first word begins with #, says nothing
abbrev pub is_skipped : List (List ℕ) → Bool
is_skipped [] = true
is_skipped (w ∷ ws) = starts_with_hash w

-- a fault at its line
abbrev pub put_at : {A : Type 0} → ℕ → Result A FaultKind → Result A BookFault
put_at line (Ok x) = Ok x
put_at line (Err kind) = Err (at_line line kind)

-- the lines of a text that are left, each with its bytes or with a fault of them
abbrev pub Rest : Type 0
Rest = List (Result LineView LineFault)

abbrev pub theorem_ended : Open → Option TheoremView
theorem_ended (Ended t) = Some t
theorem_ended o = None

-- what is read, where this has ended: it, or what the lines after it make
abbrev pub or_more : Option TheoremView → Rest → Result (Option (TheoremView × Rest)) BookFault
    → Result (Option (TheoremView × Rest)) BookFault
or_more None lines more = more
or_more (Some t) lines more = Ok (Some (t, lines))

-- what is read, where no lines are left: a theorem that has begun is unended
abbrev pub no_more : ℕ → Option Open → Result (Option (TheoremView × Rest)) BookFault
no_more last None = Ok None
no_more last (Some o) = Err (faults.Unended last)

-- the next theorem and the lines after it, or the first fault; last is the number after the last
-- line
abbrev pub read_from : List TitledStatement → ℕ → Option Open → Rest
    → Result (Option (TheoremView × Rest)) BookFault
read_from known last o [] = no_more last o
read_from known last o (Err f ∷ lines) = Err (book_fault_of f)
read_from known last o (Ok line ∷ lines) =
    if is_skipped (tokens_of line.bytes) then read_from known last o lines else
    (put_at line.number (line_read known o (tokens_of line.bytes))
    >>= λ n. or_more (theorem_ended n) lines (read_from known last (Some n) lines))

-- ---- what is answered

-- the number after the last line
abbrev pub last_line : Ahead → ℕ
last_line ahead = ahead.line + length ahead.lines

-- the fault that was answered is the one that the grammar says, unless memory ran out
abbrev pub BookFails : {Y : Type 0} → BookFault → Result Y BookFault → Type 0
BookFails faults.NoMemory read = Unit {0}
BookFails (faults.Malformed line) read = read ≡ Err (faults.Malformed line)
BookFails (faults.UnknownName line) read = read ≡ Err (faults.UnknownName line)
BookFails (faults.NameTaken line) read = read ≡ Err (faults.NameTaken line)
BookFails (faults.WrongSort line) read = read ≡ Err (faults.WrongSort line)
BookFails (faults.Limit line what) read = read ≡ Err (faults.Limit line what)
BookFails (faults.Unended line) read = read ≡ Err (faults.Unended line)
