-- What is known of a parser while its lines come.
use Rattle.std.proofs.Common.{◌≡◌, ℕ, ◌≤◌, true, false, List, [], length}
use Rattle.std.specs.List.{list_all}
use Rattle.e_literal.specs.declared.object.Sort.{Sort}
use Rattle.e_literal.specs.declared.literal.Lit.{Lit}
use Rattle.e_literal.specs.Literal.{all_in_scope}
use Rattle.e_literal.specs.Scopes.{nothing, with_sorts}
use Rattle.e_literal.specs.WellFormed.{is_well_formed}
use Rattle.e_theorem.specs.Statements.{as_view}
use Rattle.e_deriv.specs.declared.names.Names.{Names}
use Rattle.e_deriv.specs.Script.{Script, size}
use Rattle.e_deriv.specs.PlainStep.{PlainStep, all_before}
use Rattle.e_deriv.specs.Naming.{declared_names}
use Rattle.e_book.specs.declared.blocks.OpenBlock.{OpenBlock}
use Rattle.e_book.specs.declared.parser.Section.{Section}
use Rattle.e_book.specs.declared.parser.Section.TheVariants.{Declaring, Giving, Making, Showing, Proving, Splitting, Closed, Done}
use Rattle.e_book.specs.declared.parser.TheoremParser.{TheoremParser}
use Rattle.e_line.specs.Limits.{most_steps, most_facts, most_monomials_of_facts, count_monomials}
use Rattle.e_names.specs.TitledStatements.{TitledStatement, is_known, stated_by}
use Rattle.e_names.specs.Scope.{scope_of_names}
use Rattle.e_book.specs.LineLimits.{FewNamed}
use Rattle.e_book.specs.ParserViews.{script_of_close, statement_of_parser}
use Rattle.e_names.specs.Fits.{NamesDiffer}
use Rattle.e_book.proofs.fit_theorems.FittingScripts.{Spot, spot, ScriptFits}
use Rattle.e_book.proofs.parsers.OpenBlocks.{Open}

-- the title, the names and the statement, so far
pub record Head (known : List TitledStatement) (title : List ℕ) (ns : Names) (declared : List Sort) (gs : List Lit) (made : List Sort) (ls : List Lit) : Type 0 where
  pub new : is_known known title ≡ false
  pub scope : with_sorts (with_sorts nothing declared) made ≡ scope_of_names ns
  pub differ : NamesDiffer ns
  pub few : FewNamed ns
  pub given : list_all (all_in_scope (with_sorts nothing declared)) gs ≡ true
  pub shown : list_all (all_in_scope (scope_of_names ns)) ls ≡ true
  pub good_given : list_all is_well_formed gs ≡ true
  pub good_shown : list_all is_well_formed ls ≡ true
  pub few_given : length gs ≤ most_facts
  pub few_terms : count_monomials gs ≤ most_monomials_of_facts

abbrev pub HeadOf : List TitledStatement → TheoremParser → Type 0
HeadOf known d = Head known d.title d.names d.declared d.given d.made d.shown

-- where the first line of the proof stands
abbrev pub start : List TitledStatement → TheoremParser → Spot
start known d = spot (stated_by known) (declared_names (as_view (statement_of_parser d)) d.names) (length d.given) (count_monomials d.given)

-- no line of the proof has come
pub record NoProof (gs : List Lit) (ss : List PlainStep) (os : List OpenBlock) (n k m : ℕ) : Type 0 where
  pub steps : ss ≡ []
  pub blocks : os ≡ []
  pub lines : n ≡ 0
  pub facts : k ≡ length gs
  pub terms : m ≡ count_monomials gs

abbrev pub NoProofOf : TheoremParser → Type 0
NoProofOf d = NoProof d.given d.steps d.blocks d.lines d.facts d.terms

-- lines of the proof may come
abbrev pub OpenOf : List TitledStatement → TheoremParser → Type 0
OpenOf known d = Open (start known d) d.made d.blocks d.steps (spot (stated_by known) d.in_scope d.facts d.terms) d.lines

-- the proof is closed
pub record Shut (at : Spot) (made : List Sort) (script : Script) : Type 0 where
  pub fits : ScriptFits at made 0 script
  pub short : size script ≤ most_steps

abbrev pub ShutOf : List TitledStatement → TheoremParser → Type 0
ShutOf known d = Shut (start known d) d.made (all_before d.steps (script_of_close d.close))

-- what has come and what has not, at a place
abbrev pub Body : List TitledStatement → Section → TheoremParser → Type 0
Body known Declaring d = (d.given ≡ []) × (d.made ≡ []) × (d.shown ≡ []) × NoProofOf d
Body known Giving d = (d.made ≡ []) × (d.shown ≡ []) × NoProofOf d
Body known Making d = (d.shown ≡ []) × NoProofOf d
Body known Showing d = NoProofOf d
Body known Proving d = OpenOf known d
Body known Splitting d = OpenOf known d
Body known Closed d = ShutOf known d
Body known Done d = ShutOf known d

pub record Good (known : List TitledStatement) (d : TheoremParser) : Type 0 where
  pub head : HeadOf known d
  pub body : Body known d.section d
