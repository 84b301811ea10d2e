-- Which steps are kept, as a pile: what comes last is read first, so that the flags are read in
-- text order.
use Rattle.std.specs.Prelude.{List, [], ◌∷◌, ◌++◌, Bool, true, false}
use Rattle.e_literal.specs.declared.object.Scope.{Scope}
use Rattle.e_literal.specs.declared.literal.Lit.{Lit}
use Rattle.e_literal.specs.Literal.{negation}
use Rattle.e_literal.specs.Facts.{with_fact, with_facts}
use Rattle.e_literal.specs.Scopes.{with_sorts}
use Rattle.e_literal.specs.Use.{StatementView}
use Rattle.e_construct.specs.Construct.{sorts_made, gives_of_construction}
use Rattle.e_construct.specs.Superposing as superposing
use Rattle.e_deriv.specs.Script.{Script, Cite, Hence, Make, Apply, Claim, Superposed, Qed}
use Rattle.e_deriv.specs.Script.{Contradiction, Cases}
use Rattle.e_deriv.specs.Goal.{Goal, goal_of}
use Rattle.e_deriv.specs.PlacedSteps.{theorem_at}
use Rattle.e_trim.specs.Looked.{Wants, no_wants}
use Rattle.e_trim.specs.Trimmed.{joins_at, is_kept, wants, wants_outside}

-- the flag of a step, and under it those of the block inside, which is read only where the step is
-- kept
abbrev pub flag : Bool → List Bool → List Bool
flag true inner = inner ++ true ∷ []
flag false inner = false ∷ []

-- the flags of a script: under those of a step are those of what comes after it
unfoldable pub flags_of : List StatementView → Script → Scope → List Lit → Goal → List Bool
flags_of before (Cite by rest) s facts goal =
    let after = with_fact facts by.lit in
    flags_of before rest s after goal
    ++ flag (is_kept before (Cite by rest) s facts (wants before rest s after goal)) []
flags_of before (Hence lit cert rest) s facts goal =
    let after = with_fact facts lit in
    flags_of before rest s after goal
    ++ flag (is_kept before (Hence lit cert rest) s facts (wants before rest s after goal)) []
flags_of before (Make construction names certs rest) s facts goal =
    let after = with_facts facts (gives_of_construction construction s) in
    let wide = with_sorts s (sorts_made construction) in
    flags_of before rest wide after goal
    ++ flag
    (is_kept before (Make construction names certs rest) s facts
    (wants before rest wide after goal)) []
flags_of before (Apply theorem args names certs rest) s facts goal =
    let here = Apply theorem args names certs rest in
    let after = with_facts facts (joins_at before here s) in
    let wide = with_sorts s (theorem_at before theorem).made in
    flags_of before rest wide after goal
    ++ flag (is_kept before here s facts (wants before rest wide after goal)) []
flags_of before (Claim shown inner rest) s facts goal =
    let after = with_facts facts shown in
    flags_of before rest s after goal
    ++ flag (is_kept before (Claim shown inner rest) s facts (wants before rest s after goal))
    (flags_of before inner s facts (goal_of shown))
flags_of before (Superposed superposition names shown certs inner rest) s facts goal =
    let after = with_facts facts shown in
    let opened = with_facts facts (superposing.gives_of_superposition superposition s) in
    flags_of before rest s after goal
    ++ flag (is_kept before (Superposed superposition names shown certs inner rest) s facts
    (wants before rest s after goal))
    (flags_of before inner (with_sorts s superposing.sorts_copied) opened (goal_of shown))
flags_of before (Qed objects certs) s facts goal = []
flags_of before (Contradiction against) s facts goal = []
flags_of before (Cases lit first second) s facts goal =
    flags_of before second s (with_fact facts (negation lit)) goal
    ++ flags_of before first s (with_fact facts lit) goal

-- what the block inside of a step wants outside of it
abbrev pub inside_of : List StatementView → Script → Scope → List Lit → Wants
inside_of before (Claim shown inner rest) s facts =
    wants_outside s facts (wants before inner s facts (goal_of shown))
inside_of before (Superposed superposition names shown certs inner rest) s facts =
    wants_outside s facts (wants before inner (with_sorts s superposing.sorts_copied)
    (with_facts facts (superposing.gives_of_superposition superposition s)) (goal_of shown))
inside_of before _ s facts = no_wants

-- the flags of the block inside of a step
abbrev pub step_flags : List StatementView → Script → Scope → List Lit → List Bool
step_flags before (Claim shown inner rest) s facts = flags_of before inner s facts (goal_of shown)
step_flags before (Superposed superposition names shown certs inner rest) s facts =
    flags_of before inner (with_sorts s superposing.sorts_copied)
    (with_facts facts (superposing.gives_of_superposition superposition s)) (goal_of shown)
step_flags before _ s facts = []
