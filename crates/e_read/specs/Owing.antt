-- What certificates a line owes, after the lines so far.
use Rattle.std.specs.Prelude.{Bool, true, false, not, List, [], ◌∷◌, Option, Result, Ok}
use Rattle.e_literal.specs.declared.literal.Lit.{Lit}
use Rattle.e_literal.specs.declared.object.Obj.{Obj}
use Rattle.e_literal.specs.declared.object.Scope.{Scope}
use Rattle.e_literal.specs.declared.object.Sort.{Sort}
use Rattle.e_literal.specs.Scopes.{same_sort}
use Rattle.e_literal.specs.Use.{StatementView, use_of}
use Rattle.e_construct.specs.Construct.{needs_of_construction}
use Rattle.e_construct.specs.Superposing as superposing
use Rattle.e_theorem.specs.Statements.{as_view}
use Rattle.e_deriv.specs.declared.names.Names.{Names}
use Rattle.e_deriv.specs.Goal.{Goal, goal_of, goal_of_statement, goal_with}
use Rattle.e_line.specs.declared.fault.FaultKind.{FaultKind}
use Rattle.e_line.specs.declared.applies.RawApply.{RawApply}
use Rattle.e_line.specs.declared.raw_line.RawLine.{RawLine}
use Rattle.e_line.specs.declared.raw_line.RawLine.TheVariants as rawlines
use Rattle.e_line.specs.Reading.{◌>>=◌, each, or_malformed}
use Rattle.e_names.specs.TitledStatements.{TitledStatement, theorem_of}
use Rattle.e_names.specs.Scope.{scope_of_names, lit_in, let_in, qed_in}
use Rattle.e_names.specs.Superposes.{superpose_in}
use Rattle.e_names.specs.Applies.{apply_in}
use Rattle.e_book.specs.Open.{Head, Opener, ByClaim, BySuperposition, Enclosing}
use Rattle.e_book.specs.Open.{Open, Stating, Proving, made_inside}
use Rattle.e_book.specs.Counts.{context_at}
use Rattle.e_cert.specs.Certificates.{Due, Nothing, Certificates, OfContradiction}

-- the goal of a block inside these: that of the claim or superposition that it is in, and else that
-- of the whole proof
abbrev pub goal_after : Opener → Goal → Goal
goal_after (ByClaim shown) goal = goal_of shown
goal_after (BySuperposition superposition names shown) goal = goal_of shown
goal_after opener goal = goal

abbrev pub goal_inside : List Enclosing → Goal → Goal
goal_inside [] goal = goal
goal_inside (a ∷ around) goal = goal_after a.opener (goal_inside around goal)

-- the given literals of an earlier theorem at its arguments, none of which is a blank
abbrev pub needs_in : Scope → StatementView → List (Option Obj) → Result (List Lit) FaultKind
needs_in s t pattern =
    each or_malformed pattern >>= λ args. or_malformed (use_of t args s) >>= λ u. Ok u.needs

unfoldable pub needs_of_raw_apply : List TitledStatement → Names → RawApply
    → Result (List Lit) FaultKind
needs_of_raw_apply known ns raw =
    apply_in known ns raw
    >>= λ a. needs_in (scope_of_names ns) (theorem_of known a.0) a.1

-- a line of a block, where these names are in scope: one certificate for the literal of hence, for
-- each literal that a construction, an application or a superposition needs, for each literal of
-- the goal at qed, and one of a contradiction; no other line owes any
unfoldable pub due_in_block : List TitledStatement → Names → Head → List Enclosing → RawLine
    → Result Due FaultKind
due_in_block known ns h around (rawlines.Hence raw) =
    lit_in ns raw >>= λ l. Ok (Certificates (l ∷ []))
due_in_block known ns h around (rawlines.Let raw) =
    let_in ns raw >>= λ construction. Ok (Certificates (needs_of_construction construction))
due_in_block known ns h around (rawlines.Apply raw) =
    needs_of_raw_apply known ns raw >>= λ ls. Ok (Certificates ls)
due_in_block known ns h around (rawlines.Superpose raw) =
    superpose_in ns raw >>= λ p. Ok (Certificates (superposing.needs_of_superposition p.0))
due_in_block known ns h around (rawlines.Qed names) =
    qed_in ns (made_inside around h.statement.made) names >>= λ objects. Ok (Certificates
    (goal_with (goal_inside around (goal_of_statement (as_view h.statement))) objects))
due_in_block known ns h around rawlines.Contradiction = Ok OfContradiction
due_in_block known ns h around f = Ok Nothing

-- what a line owes after these
abbrev pub due_after : List TitledStatement → Open → RawLine → Result Due FaultKind
due_after known (Proving h around steps) f =
    due_in_block known (context_at known (Proving h around steps)).names h around f
due_after known o f = Ok Nothing

-- the last of these objects has this sort
abbrev pub ends_with : List Sort → Sort → Bool
ends_with [] sort = false
ends_with (s ∷ []) sort = same_sort s sort
ends_with (s ∷ t ∷ ss) sort = ends_with (t ∷ ss) sort

-- neighbouring lines of objects of one sort are one line
abbrev pub is_apart : Open → RawLine → Bool
is_apart (Stating h) (rawlines.Declare sort ns) = not (ends_with h.statement.declared sort)
is_apart (Stating h) (rawlines.Made sort ns) = not (ends_with h.statement.made sort)
is_apart o f = true
