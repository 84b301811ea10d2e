-- What certificates a line owes, by what the parser holds.
use Rattle.std.specs.Prelude.{ℕ, List, [], ◌∷◌, Option, Some, None, Result, Ok}
use Rattle.e_literal.specs.declared.literal.Lit.{Lit}
use Rattle.e_construct.specs.Construct.{needs_of_construction}
use Rattle.e_construct.specs.Superposing as superposing
use Rattle.e_theorem.specs.Statements.{as_view}
use Rattle.e_deriv.specs.Goal.{Goal, goal_of, goal_of_statement, goal_with}
use Rattle.e_line.specs.declared.fault.FaultKind.{FaultKind}
use Rattle.e_book.specs.declared.blocks.OpenBlock.{OpenBlock}
use Rattle.e_book.specs.declared.blocks.BlockKind.{BlockKind}
use Rattle.e_book.specs.declared.blocks.BlockKind.TheVariants as kind
use Rattle.e_line.specs.declared.applies.RawApply.{RawApply}
use Rattle.e_line.specs.declared.raw_line.RawLine.{RawLine}
use Rattle.e_line.specs.declared.raw_line.RawLine.TheVariants as rawlines
use Rattle.e_book.specs.declared.parser.TheoremParser.{TheoremParser}
use Rattle.e_line.specs.Reading.{◌>>=◌}
use Rattle.e_names.specs.TitledStatements.{TitledStatement, theorem_of}
use Rattle.e_book.specs.ParserViews.{statement_of_parser}
use Rattle.e_book.specs.Blocks.{made_in}
use Rattle.e_names.specs.Scope.{scope_of_names, lit_in, let_in, qed_in}
use Rattle.e_names.specs.Superposes.{superpose_in}
use Rattle.e_names.specs.Applies.{apply_in}
use Rattle.e_cert.specs.declared.owed.Obligation.{Obligation}
use Rattle.e_cert.specs.declared.owed.Obligation.TheVariants as due
use Rattle.e_read.specs.Owing.{needs_in}

-- what a block shows that a claim or a superposition began; a block of a split has the goal of the
-- block that it closes
abbrev pub shown_inside : BlockKind → Option (List Lit) → Option (List Lit)
shown_inside (kind.Claim shown) around = Some shown
shown_inside (kind.Superpose superposition names shown) around = Some shown
shown_inside (kind.First lit) around = around
shown_inside (kind.Second lit first) around = around

-- what the innermost claim or superposition of these blocks shows, if there is one
abbrev pub shown_around : List OpenBlock → Option (List Lit)
shown_around [] = None
shown_around (o ∷ os) = shown_inside o.kind (shown_around os)

abbrev pub goal_or : Option (List Lit) → Goal → Goal
goal_or None goal = goal
goal_or (Some shown) goal = goal_of shown

-- the goal of the block that is open: that of the claim or superposition that it is in, and else
-- that of the whole proof
abbrev pub open_goal : TheoremParser → Goal
open_goal d = goal_or (shown_around d.blocks) (goal_of_statement (as_view (statement_of_parser d)))

-- one certificate for each of these literals
abbrev pub one_each : List Lit → Obligation
one_each wanted = due.Literals wanted [] None

unfoldable pub needs_of_raw_apply : List TitledStatement → TheoremParser → RawApply
    → Result (List Lit) FaultKind
needs_of_raw_apply known d raw =
    apply_in known d.in_scope raw
    >>= λ a. needs_in (scope_of_names d.in_scope) (theorem_of known a.0) a.1

-- the literals of the goal, with the objects that are named for its made ones
unfoldable pub needs_at_qed : TheoremParser → List (List ℕ) → Result (List Lit) FaultKind
needs_at_qed d ns =
    qed_in d.in_scope (made_in d.blocks d.made) ns
    >>= λ objects. Ok (goal_with (open_goal d) objects)

-- what a line owes: one certificate for the literal of hence, for each literal that a construction,
-- an application or a superposition needs, for each literal of the goal at qed, and one of a
-- contradiction; no other line owes any
unfoldable pub due_of : List TitledStatement → TheoremParser → RawLine → Result Obligation FaultKind
due_of known d (rawlines.Hence raw) = lit_in d.in_scope raw >>= λ l. Ok (one_each (l ∷ []))
due_of known d (rawlines.Let raw) =
    let_in d.in_scope raw >>= λ construction. Ok (one_each (needs_of_construction construction))
due_of known d (rawlines.Apply raw) = needs_of_raw_apply known d raw >>= λ ls. Ok (one_each ls)
due_of known d (rawlines.Superpose raw) =
    superpose_in d.in_scope raw >>= λ p. Ok (one_each (superposing.needs_of_superposition p.0))
due_of known d (rawlines.Qed ns) = needs_at_qed d ns >>= λ ls. Ok (one_each ls)
due_of known d rawlines.Contradiction = Ok (due.Contradiction None)
due_of known d raw_line = Ok due.Nothing
