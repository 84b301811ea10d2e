-- What the parser holds while the lines of a theorem come, and what they have said: the one follows from the other.
use Rattle.std.proofs.Common.{◌≡◌, ℕ, ◌+◌, ◌≤◌, true, false, List, [], ◌∷◌, length, Result, Ok, Err, sym, ap, subst, ◌∙◌}
use Rattle.e_literal.specs.declared.literal.Lit.{Lit}
use Rattle.e_deriv.specs.declared.names.Names.{Names}
use Rattle.e_deriv.specs.Script.{size}
use Rattle.e_deriv.specs.PlainStep.{PlainStep, all_before}
use Rattle.e_line.specs.declared.fault.FaultKind.{FaultKind}
use Rattle.e_book.specs.declared.blocks.OpenBlock.{OpenBlock}
use Rattle.e_book.specs.declared.blocks.BlockKind.{BlockKind}
use Rattle.e_book.specs.declared.blocks.BlockKind.TheVariants as kind
use Rattle.e_book.specs.declared.parser.TheoremParser.{TheoremParser}
use Rattle.e_book.specs.declared.parser.Section.{Section}
use Rattle.e_book.specs.declared.parser.Section.TheVariants as places
use Rattle.e_names.specs.TitledStatements.{TitledStatement}
use Rattle.e_line.specs.Limits.{most_steps, most_depth, most_facts, most_monomials_of_facts, count_monomials}
use Rattle.e_book.specs.LineLimits.{FewNamed}
use Rattle.e_book.specs.Steps.{FitsOuter}
use Rattle.e_book.specs.ParserViews.{statement_of_parser, entry_of_parser, script_of_close}
use Rattle.e_book.specs.Open.{Head, Opener, ByClaim, BySuperposition, ByCase, ByElse, Enclosing, Open, Stating, Proving, Splitting, Proved, Ended}
use Rattle.e_book.specs.Counts.{LineContext, after_steps, first_context, count_lines, lines_around}
use Rattle.e_book.specs.Grammar.{is_empty}
use Rattle.e_line.proofs.base.Bound.{read_ok}

-- ---- what has been said

abbrev pub opener_of : BlockKind → Opener
opener_of (kind.Claim shown) = ByClaim shown
opener_of (kind.Superpose superposition names shown) = BySuperposition superposition names shown
opener_of (kind.First lit) = ByCase lit
opener_of (kind.Second lit first) = ByElse lit first

abbrev pub around_of : List OpenBlock → List Enclosing
around_of [] = []
around_of (o ∷ os) = record { steps = o.steps; opener = opener_of o.kind } ∷ around_of os

abbrev pub head_of : TheoremParser → Head
head_of d = record { title = d.title; names = d.names; statement = statement_of_parser d }

abbrev pub open_there : TheoremParser → Section → Open
open_there d places.Proving = Proving (head_of d) (around_of d.blocks) d.steps
open_there d places.Splitting = Splitting (head_of d) (around_of d.blocks)
open_there d places.Closed = Proved (head_of d) (all_before d.steps (script_of_close d.close))
open_there d places.Done = Ended (entry_of_parser d)
open_there d place = Stating (head_of d)

abbrev pub open_of : TheoremParser → Open
open_of d = open_there d d.section

-- ---- the counts

-- names and counts that are those of a place
pub record Counted (ns : Names) (k m : ℕ) (at : LineContext) : Type 0 where
  pub names : ns ≡ at.names
  pub facts : k ≡ length at.facts
  pub terms : m ≡ count_monomials at.facts

-- where the last line of a block stands, inside these
abbrev pub context_in : List TitledStatement → Head → List OpenBlock → List PlainStep → LineContext
context_in known h os ss = after_steps known (first_context known h (around_of os)) ss

pub record OuterTied (known : List TitledStatement) (h : Head) (os : List OpenBlock) (o : OpenBlock) : Type 0 where
  pub counted : Counted o.in_scope o.facts o.terms (context_in known h os o.steps)
  pub few : FitsOuter o

abbrev pub BlocksTied : List TitledStatement → Head → List OpenBlock → Type 0
BlocksTied known h [] = Unit {0}
BlocksTied known h (o ∷ os) = OuterTied known h os o × BlocksTied known h os

-- an open block with its counts, all within the limits
pub record BlockTied (known : List TitledStatement) (h : Head) (os : List OpenBlock) (ss : List PlainStep) (ns : Names) (n k m : ℕ) : Type 0 where
  pub counted : Counted ns k m (context_in known h os ss)
  pub few : FewNamed ns
  pub few_facts : k ≤ most_facts
  pub few_terms : m ≤ most_monomials_of_facts
  pub lines : n ≡ count_lines ss + lines_around (around_of os)
  pub short : n ≤ most_steps
  pub blocks : BlocksTied known h os
  pub shallow : length os + 1 ≤ most_depth

abbrev pub BlockOf : List TitledStatement → TheoremParser → Type 0
BlockOf known d = BlockTied known (head_of d) d.blocks d.steps d.in_scope d.lines d.facts d.terms

-- no line of the proof has come
pub record Unproved (given : List Lit) (ss : List PlainStep) (os : List OpenBlock) (n k m : ℕ) : Type 0 where
  pub steps : ss ≡ []
  pub blocks : os ≡ []
  pub lines : n ≡ 0
  pub facts : k ≡ length given
  pub terms : m ≡ count_monomials given
  pub few_facts : k ≤ most_facts
  pub few_terms : m ≤ most_monomials_of_facts

abbrev pub UnprovedOf : TheoremParser → Type 0
UnprovedOf d = Unproved d.given d.steps d.blocks d.lines d.facts d.terms

-- which parts of the statement stand already
abbrev pub Stands : Section → TheoremParser → Type 0
Stands places.Declaring d = (is_empty d.given ≡ true) × (is_empty d.made ≡ true) × (is_empty d.shown ≡ true)
Stands places.Giving d = (is_empty d.given ≡ false) × (is_empty d.made ≡ true) × (is_empty d.shown ≡ true)
Stands places.Making d = (is_empty d.made ≡ false) × (is_empty d.shown ≡ true)
Stands places.Showing d = is_empty d.shown ≡ false
Stands place d = Unit {0}

abbrev pub Body : List TitledStatement → Section → TheoremParser → Type 0
Body known places.Proving d = BlockOf known d
Body known places.Splitting d = (d.steps ≡ []) × BlockOf known d
Body known places.Closed d = size (all_before d.steps (script_of_close d.close)) ≤ most_steps
Body known places.Done d = size (all_before d.steps (script_of_close d.close)) ≤ most_steps
Body known place d = Stands place d × UnprovedOf d

pub record Tied (known : List TitledStatement) (d : TheoremParser) : Type 0 where
  pub names : FewNamed d.names
  pub body : Body known d.section d

-- the parser's answer to a line, and the grammar's: one fault, or what the parser holds is what the lines have said
abbrev pub Alike : List TitledStatement → Result TheoremParser FaultKind → Result Open FaultKind → Type 0
Alike known (Ok e) (Ok n) = (open_of e ≡ n) × Tied known e
Alike known (Ok e) (Err k) = ⊥
Alike known (Err j) (Ok n) = ⊥
Alike known (Err j) (Err k) = j ≡ k

-- a parser at this place
pub tied_there : (known : List TitledStatement) (e : TheoremParser) (n : Open) (p : Section) → e.section ≡ p → FewNamed e.names → Body known p e → open_there e p ≡ n → Alike known (read_ok e) (read_ok n)
tied_there known e n p at few body is =
    (ap (λ (q : Section). open_there e q) at ∙ is, record { names = few; body = subst (λ (q : Section). Body known q e) (sym at) body })
