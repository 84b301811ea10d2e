-- What each line makes of the parser of a theorem. What lines mean is in Grammar, and proofs tie
-- these to it.
use Rattle.std.specs.Prelude.{ℕ, ◌+◌, ◌≤◌, Bool, true, false, ◌≡◌, Option, List, [], ◌∷◌, ◌++◌}
use Rattle.std.specs.Prelude.{length, replicate, Some, None, Result, Ok, Err, if◌then◌else◌}
use Rattle.e_literal.specs.declared.object.Sort.{Sort}
use Rattle.e_literal.specs.declared.object.Obj.{Obj}
use Rattle.e_literal.specs.declared.literal.Lit.{Lit}
use Rattle.e_literal.specs.Use.{StatementView}
use Rattle.e_construct.specs.Construct.{sorts_made, gives_of_construction}
use Rattle.e_construct.specs.Superposing as superposing
use Rattle.e_deriv.specs.declared.names.Names.{Names}
use Rattle.e_deriv.specs.Naming.{names_of_sort, with_names, with_new_names, declared_names}
use Rattle.e_deriv.specs.PlainStep.{PlainStep, Cited, Inferred, Made, Applied, Claimed, Copied}
use Rattle.e_deriv.specs.PlainStep.{all_before}
use Rattle.e_deriv.specs.Script.{Script}
use Rattle.e_line.specs.declared.fault.FaultKind.{FaultKind}
use Rattle.e_line.specs.declared.fault.FaultKind.TheVariants.{Malformed, NameTaken}
use Rattle.e_line.specs.declared.fault.What.TheVariants as limits
use Rattle.e_line.specs.declared.literal.RawLit.{RawLit}
use Rattle.e_line.specs.declared.lets.RawLet.{RawLet}
use Rattle.e_line.specs.declared.superposes.RawSuperpose.{RawSuperpose}
use Rattle.e_line.specs.declared.applies.RawApply.{RawApply}
use Rattle.e_book.specs.declared.blocks.OpenBlock.{OpenBlock}
use Rattle.e_book.specs.declared.blocks.BlockKind.{BlockKind}
use Rattle.e_book.specs.declared.blocks.BlockKind.TheVariants as kind
use Rattle.e_line.specs.declared.raw_line.RawLine.{RawLine}
use Rattle.e_line.specs.declared.raw_line.RawLine.TheVariants as rawlines
use Rattle.e_book.specs.declared.steps.CloseLine.{CloseLine}
use Rattle.e_book.specs.declared.steps.CloseLine.TheVariants as closes
use Rattle.e_book.specs.declared.parser.Section.{Section}
use Rattle.e_book.specs.declared.parser.Section.TheVariants.{Declaring, Giving, Making, Showing}
use Rattle.e_book.specs.declared.parser.Section.TheVariants.{Proving, Splitting, Closed, Done}
use Rattle.e_book.specs.declared.parser.TheoremParser.{TheoremParser}
use Rattle.e_line.specs.declared.fault.LineError.{LineError}
use Rattle.e_line.specs.Reading.{◌>>=◌, with_front, Fails}
use Rattle.e_line.specs.Limits.{most_theorems, most_of, most_steps, most_depth, most_facts}
use Rattle.e_line.specs.Limits.{most_monomials_of_facts, most_blanks, what_of, within, monomials}
use Rattle.e_line.specs.Limits.{count_monomials}
use Rattle.e_theorem.specs.Statements.{as_view}
use Rattle.e_names.specs.TitledStatements.{TitledStatement, is_known, theorem_of}
use Rattle.e_book.specs.ParserViews.{statement_of_parser, script_of_close}
use Rattle.e_line.specs.LineLimits.{count_raw_monomials, check_literal_limits}
use Rattle.e_book.specs.LineLimits.{few_objects, FewNamed}
use Rattle.e_book.specs.Blocks.{made_in}
use Rattle.e_names.specs.Superposes.{superpose_in}
use Rattle.e_names.specs.Scope.{scope_of_names, fresh, lit_in, lits_in, by_in, let_in, qed_in}
use Rattle.e_names.specs.Applies.{count_blanks, apply_in}

-- which lines may come at a place
abbrev pub line_may_come : Section → RawLine → Bool
line_may_come Declaring (rawlines.Declare sort ns) = true
line_may_come Declaring (rawlines.Given ls) = true
line_may_come Declaring (rawlines.Made sort ns) = true
line_may_come Declaring (rawlines.Show ls) = true
line_may_come Giving (rawlines.Given ls) = true
line_may_come Giving (rawlines.Made sort ns) = true
line_may_come Giving (rawlines.Show ls) = true
line_may_come Making (rawlines.Made sort ns) = true
line_may_come Making (rawlines.Show ls) = true
line_may_come Showing (rawlines.Show ls) = true
line_may_come Showing rawlines.Proof = true
line_may_come Proving (rawlines.By r ns l) = true
line_may_come Proving (rawlines.Hence l) = true
line_may_come Proving (rawlines.Let l) = true
line_may_come Proving (rawlines.Apply a) = true
line_may_come Proving (rawlines.Qed ns) = true
line_may_come Proving rawlines.Contradiction = true
line_may_come Proving (rawlines.Claim ls) = true
line_may_come Proving (rawlines.Superpose s) = true
line_may_come Proving (rawlines.Cases l) = true
line_may_come Splitting rawlines.Else = true
line_may_come Closed rawlines.End = true
line_may_come section raw_line = false

-- the names with new ones for objects of a sort
unfoldable pub with_declared : Names → Sort → List (List ℕ) → Result Names FaultKind
with_declared ns sort new = do
  free ← fresh ns [] new
  few ← within (length (names_of_sort ns sort) + length new) (most_of sort) (what_of sort)
  Ok (with_names ns sort (names_of_sort ns sort ++ new))

-- one more step line, and this many more facts
unfoldable pub with_step : TheoremParser → PlainStep → ℕ → Result TheoremParser FaultKind
with_step d s given = do
  few ← within (d.lines + 1) most_steps limits.Steps
  none ← within (d.facts + given) most_facts limits.Facts
  Ok (record d { lines = d.lines + 1; steps = d.steps ++ s ∷ []; facts = d.facts + given })

-- this many monomials and those of the literals, or the limit of all
abbrev pub terms_after_raw : ℕ → List RawLit → Result ℕ FaultKind
terms_after_raw n raws =
    let m = n + count_raw_monomials raws in within m most_monomials_of_facts limits.Terms >>= λ few. Ok m

abbrev pub terms_after : ℕ → List Lit → Result ℕ FaultKind
terms_after n ls =
    let m = n + count_monomials ls in within m most_monomials_of_facts limits.Terms >>= λ few. Ok m

-- the limits of literals that become facts, after that of facts
unfoldable pub with_terms : TheoremParser → List RawLit → Result TheoremParser FaultKind
with_terms d raws = do
  few ← check_literal_limits raws
  n ← terms_after_raw d.terms raws
  Ok (record d { terms = n })

-- a construction: its names, then the limits of objects, of steps and of facts. Its new objects are
-- in scope after it.
unfoldable pub after_let : TheoremParser → RawLet → Result TheoremParser FaultKind
after_let d raw = do
  construction ← let_in d.in_scope raw
  let after = with_new_names d.in_scope (sorts_made construction) raw.new
  few ← few_objects after
  with_step (record d { in_scope = after }) (Made construction raw.new [])
      (length (gives_of_construction construction (scope_of_names d.in_scope)))

-- a theorem is used within the limits of objects, of steps, of facts, of monomials and of blanks.
-- What it shows are facts, and its made objects are in scope after the line.
unfoldable pub with_use : TheoremParser → StatementView → ℕ → List (Option Obj) → List (List ℕ)
    → Result TheoremParser FaultKind
with_use d t theorem args new = do
  let after = with_new_names d.in_scope t.made new
  few ← few_objects after
  e ← with_step (record d { in_scope = after }) (Applied theorem args new []) (length t.shown)
  n ← terms_after e.terms t.shown
  written ← within (count_blanks args) most_blanks limits.Blanks
  Ok (record e { terms = n })

-- an earlier theorem: its title and the names, then the limits
unfoldable pub after_apply : List TitledStatement → TheoremParser → RawApply
    → Result TheoremParser FaultKind
after_apply known d raw = do
  a ← apply_in known d.in_scope raw
  with_use d (theorem_of known a.0) a.0 a.1 raw.new

-- ---- blocks inside a block

-- the block that an inner one interrupts
abbrev pub outer_of : TheoremParser → BlockKind → OpenBlock
outer_of d kind =
    record { steps = d.steps; in_scope = d.in_scope; facts = d.facts; terms = d.terms; kind = kind }

-- an inner block begins, in which this many literals are facts at once
abbrev pub inside_block : TheoremParser → BlockKind → ℕ → TheoremParser
inside_block d kind given =
    record d {
      lines = d.lines + 1;
      blocks = outer_of d kind ∷ d.blocks;
      steps = [];
      facts = d.facts + given;
    }

-- the limits of steps, of depth and of facts there
unfoldable pub room_inside : TheoremParser → ℕ → Result (Unit {0}) FaultKind
room_inside d given = do
  few ← within (d.lines + 1) most_steps limits.Steps
  shallow ← within (length d.blocks + 2) most_depth limits.Depth
  within (d.facts + given) most_facts limits.Facts

-- the limits of a line that begins an inner block with these facts, and of its literals as they are
-- written: how many monomials are facts in the block
unfoldable pub terms_inside : TheoremParser → (given : List Lit) → (raws : List RawLit)
    → Result ℕ FaultKind
terms_inside d given raws = do
  room ← room_inside d (length given)
  few ← check_literal_limits raws
  terms_after d.terms given

-- a line that begins an inner block, within these limits
unfoldable pub inside_if_room : TheoremParser → BlockKind → ℕ → Result TheoremParser FaultKind
inside_if_room d kind given = do
  few ← within (d.lines + 1) most_steps limits.Steps
  shallow ← within (length d.blocks + 2) most_depth limits.Depth
  none ← within (d.facts + given) most_facts limits.Facts
  Ok (inside_block d kind given)

-- a claim: its literals are facts only after its block
unfoldable pub after_claim : TheoremParser → List RawLit → Result TheoremParser FaultKind
after_claim d raws = do
  ls ← lits_in d.in_scope raws
  e ← inside_if_room d (kind.Claim ls) 0
  few ← check_literal_limits raws
  Ok e

-- the block of a superposition begins with these names and facts
unfoldable pub after_copies : TheoremParser → BlockKind → Names → (given : List Lit)
    → (shown : List RawLit) → Result TheoremParser FaultKind
after_copies d what after given shown = do
  e ← inside_if_room d what (length given)
  few ← check_literal_limits shown
  n ← terms_after e.terms given
  Ok (record e { in_scope = after; terms = n })

-- a superposition: its block begins with the copied points and what it gives
unfoldable pub after_superpose : TheoremParser → RawSuperpose → Result TheoremParser FaultKind
after_superpose d raw = do
  p ← superpose_in d.in_scope raw
  let given = superposing.gives_of_superposition p.0 (scope_of_names d.in_scope)
  let after = with_new_names d.in_scope superposing.sorts_copied raw.new
  objects ← few_objects after
  e ← inside_if_room d (kind.Superpose p.0 raw.new p.1) (length given)
  few ← check_literal_limits raw.shown
  n ← terms_after e.terms given
  Ok (record e { in_scope = after; terms = n })

-- a split: its first block begins with the literal
unfoldable pub after_cases : TheoremParser → RawLit → Result TheoremParser FaultKind
after_cases d raw = do
  l ← lit_in d.in_scope raw
  e ← inside_if_room d (kind.First l) 1
  with_terms e (raw ∷ [])

-- the counts after a block that shows these literals: the limits of facts and of monomials
unfoldable pub counted_from : TheoremParser → (facts terms : ℕ) → List Lit
    → Result TheoremParser FaultKind
counted_from d facts terms shown = do
  few ← within (facts + length shown) most_facts limits.Facts
  n ← terms_after terms shown
  Ok (record d { facts = facts + length shown; terms = n })

-- what a block shows is a step of the block around it
unfoldable pub after_inner_block : TheoremParser → OpenBlock → List OpenBlock → List Lit → PlainStep
    → Result TheoremParser FaultKind
after_inner_block d o os shown s = do
  e ← counted_from d o.facts o.terms shown
  Ok (record e { steps = o.steps ++ s ∷ []; in_scope = o.in_scope; blocks = os })

-- A block inside another is closed. A claim or a superposition is a step of the block around it.
-- After the first block of a split comes `else`. After the second one the split closes the block
-- around it.
abbrev pub closed_inside : TheoremParser → OpenBlock → List OpenBlock → Script
    → (CloseLine → Result TheoremParser FaultKind) → BlockKind → Result TheoremParser FaultKind
closed_inside d o os inner close (kind.Claim shown) =
    after_inner_block d o os shown (Claimed shown inner)
closed_inside d o os inner close (kind.Superpose superposition names shown) =
    after_inner_block d o os shown (Copied superposition names shown [] inner)
closed_inside d o os inner close (kind.First lit) =
    Ok (record d {
      steps = [];
      in_scope = o.in_scope;
      facts = o.facts + 1;
      terms = o.terms + monomials lit.atom;
      blocks = record o { kind = kind.Second lit inner } ∷ os;
      section = Splitting;
    })
closed_inside d o os inner close (kind.Second lit first) = close (closes.Cases lit first inner)

-- the block with these steps inside these blocks is closed
unfoldable pub parser_after_close : TheoremParser → List OpenBlock → List PlainStep → CloseLine
    → Result TheoremParser FaultKind
parser_after_close d [] steps close =
    Ok (record d { steps = steps; blocks = []; close = close; section = Closed })
parser_after_close d (o ∷ os) steps close =
    closed_inside d o os (all_before steps (script_of_close close))
    (λ c. parser_after_close d os o.steps c) o.kind

-- what closing the open block inside another one leaves: the parser, or the close of that other
-- block
abbrev pub ClosesInside : TheoremParser → OpenBlock → CloseLine
    → Result (Option CloseLine) LineError → TheoremParser → Type 0
ClosesInside d o close (Ok None) new =
    (again : CloseLine → Result TheoremParser FaultKind)
    → closed_inside d o d.blocks (all_before d.steps (script_of_close close)) again o.kind ≡ Ok new
ClosesInside d o close (Ok (Some next)) new =
    ((again : CloseLine → Result TheoremParser FaultKind) → closed_inside d o d.blocks
    (all_before d.steps (script_of_close close)) again o.kind ≡ again next)
    × (new ≡ record d { steps = o.steps })
ClosesInside d o close (Err e) new =
    (again : CloseLine → Result TheoremParser FaultKind)
    → Fails e (closed_inside d o d.blocks (all_before d.steps (script_of_close close)) again o.kind)

-- a close line: the limit of steps, and what it closes
unfoldable pub after_close_line : TheoremParser → CloseLine → Result TheoremParser FaultKind
after_close_line d close =
    within (d.lines + 1) most_steps limits.Steps
    >>= λ few. parser_after_close (record d { lines = d.lines + 1 }) d.blocks d.steps close

-- declared objects
abbrev pub after_declare : TheoremParser → Sort → List (List ℕ) → Result TheoremParser FaultKind
after_declare d sort ns =
    with_declared d.names sort ns >>= λ names. Ok (record d {
      names = names;
      declared = d.declared ++ replicate (length ns) sort;
    })

-- given literals: their names, then the limits
abbrev pub after_given : TheoremParser → List RawLit → Result TheoremParser FaultKind
after_given d raws =
    with_front d.given (lits_in d.names raws)
    >>= λ ls. within (d.facts + length raws) most_facts limits.Facts
    >>= λ few. with_terms (record d { given = ls; facts = d.facts + length raws; section = Giving })
    raws

-- made objects
abbrev pub after_made : TheoremParser → Sort → List (List ℕ) → Result TheoremParser FaultKind
after_made d sort ns =
    with_declared d.names sort ns >>= λ names. Ok (record d {
      names = names;
      made = d.made ++ replicate (length ns) sort;
      section = Making;
    })

-- shown literals
abbrev pub after_show : TheoremParser → List RawLit → Result TheoremParser FaultKind
after_show d raws =
    with_front d.shown (lits_in d.names raws) >>= λ ls. check_literal_limits raws
    >>= λ few. Ok (record d { shown = ls; section = Showing })

-- the proof begins with the declared objects, and the names of the made ones are free again
abbrev pub after_proof : TheoremParser → Result TheoremParser FaultKind
after_proof d =
    Ok (record d {
      in_scope = declared_names (as_view (statement_of_parser d)) d.names;
      section = Proving;
    })

-- a citation: its rule, its names and its literal, then the limits
abbrev pub after_by : TheoremParser → List ℕ → List (List ℕ) → RawLit
    → Result TheoremParser FaultKind
after_by d r ns l = by_in d.in_scope r ns l >>= λ b. with_step d (Cited b) 1

-- a literal that is to be allowed: its names, then the limits
abbrev pub after_hence : TheoremParser → RawLit → Result TheoremParser FaultKind
after_hence d raw =
    lit_in d.in_scope raw >>= λ l. with_step d (Inferred l None) 1 >>= λ e. with_terms e (raw ∷ [])

-- the close by qed: its objects, then the limit of steps
abbrev pub after_qed : TheoremParser → List (List ℕ) → Result TheoremParser FaultKind
after_qed d ns =
    qed_in d.in_scope (made_in d.blocks d.made) ns
    >>= λ objects. after_close_line d (closes.Qed objects)

unfoldable pub after_line : List TitledStatement → TheoremParser → RawLine
    → Result TheoremParser FaultKind
after_line known d (rawlines.Theorem t) = Err Malformed
after_line known d (rawlines.Declare sort ns) = after_declare d sort ns
after_line known d (rawlines.Given raws) = after_given d raws
after_line known d (rawlines.Made sort ns) = after_made d sort ns
after_line known d (rawlines.Show raws) = after_show d raws
after_line known d rawlines.Proof = after_proof d
after_line known d (rawlines.By r ns l) = after_by d r ns l
after_line known d (rawlines.Hence raw) = after_hence d raw
after_line known d (rawlines.Let raw) = after_let d raw
after_line known d (rawlines.Apply raw) = after_apply known d raw
after_line known d (rawlines.Qed ns) = after_qed d ns
after_line known d rawlines.Contradiction = after_close_line d closes.Contradiction
after_line known d (rawlines.Claim raws) = after_claim d raws
after_line known d (rawlines.Superpose raw) = after_superpose d raw
after_line known d (rawlines.Cases raw) = after_cases d raw
after_line known d rawlines.Else = Ok (record d { section = Proving })
after_line known d rawlines.End = Ok (record d { section = Done })

-- a line at its place: its form there, then its names from left to right, then the limits
unfoldable pub step : List TitledStatement → TheoremParser → RawLine
    → Result TheoremParser FaultKind
step known d raw_line =
    if line_may_come d.section raw_line then after_line known d raw_line else Err Malformed

-- how many names there are
abbrev pub count_names : Names → ℕ
count_names ns = length ns.points + length ns.lines + length ns.circles

-- how many literals the inner block begins with, where `else` begins another with as many
abbrev pub begun_with : BlockKind → ℕ
begun_with (kind.First lit) = 1
begun_with other = 0

-- how many monomials they have
abbrev pub begun_terms : BlockKind → ℕ
begun_terms (kind.First lit) = monomials lit.atom
begun_terms other = 0

-- an interrupted block is within the limits, and so is what its `else` begins with
pub record FitsOuter (o : OpenBlock) : Type 0 where
  pub in_scope : FewNamed o.in_scope
  pub facts : o.facts + begun_with o.kind ≤ most_facts
  pub terms : o.terms + begun_terms o.kind ≤ most_monomials_of_facts

abbrev pub AllFit : List OpenBlock → Type 0
AllFit [] = Unit {0}
AllFit (o ∷ os) = FitsOuter o × AllFit os

-- the parser is within the limits between two lines
pub record FitsScope (d : TheoremParser) : Type 0 where
  pub names : FewNamed d.names
  pub in_scope : FewNamed d.in_scope
  -- no more objects are declared than have names
  pub declared : length d.declared ≤ count_names d.names
  pub lines : d.lines ≤ most_steps
  pub facts : d.facts ≤ most_facts
  pub terms : d.terms ≤ most_monomials_of_facts
  pub blocks : AllFit d.blocks
  pub shallow : length d.blocks + 1 ≤ most_depth

-- a block inside the open one, with this many facts, is within the limits
pub record HasRoom (d : TheoremParser) (given : ℕ) : Type 0 where
  pub lines : d.lines + 1 ≤ most_steps
  pub depth : length d.blocks + 2 ≤ most_depth
  pub facts : d.facts + given ≤ most_facts

abbrev pub no_names : Names
no_names = record { points = []; lines = []; circles = [] }

-- a theorem of which only the title has come
abbrev pub with_title : List ℕ → TheoremParser
with_title title =
    record {
      title = title;
      names = no_names;
      in_scope = no_names;
      declared = [];
      given = [];
      made = [];
      shown = [];
      steps = [];
      lines = 0;
      facts = 0;
      terms = 0;
      blocks = [];
      close = closes.Qed [];
      section = Declaring;
    }

-- a theorem begins with its title, which no earlier one has
unfoldable pub begin : List TitledStatement → RawLine → Result TheoremParser FaultKind
begin known (rawlines.Theorem t) =
    if is_known known t then Err NameTaken else
    (within (length known + 1) most_theorems limits.Theorems >>= λ few. Ok (with_title t))
begin known raw_line = Err Malformed
