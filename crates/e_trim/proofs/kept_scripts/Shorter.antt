-- What is left of a script is not longer and not deeper.
use Rattle.std.proofs.Common.{◌≤◌, List, ◌++◌, arith, Bool, true, false, cond}
use Rattle.e_literal.specs.declared.object.Obj.{Obj}
use Rattle.e_literal.specs.declared.object.Scope.{Scope}
use Rattle.e_literal.specs.declared.literal.Lit.{Lit}
use Rattle.e_literal.specs.Literal.{negation}
use Rattle.e_literal.specs.Facts.{with_fact, with_facts}
use Rattle.e_literal.specs.Scopes.{with_sorts, next_objects}
use Rattle.e_literal.specs.Use.{StatementView}
use Rattle.e_construct.specs.Construct.{sorts_made, gives_of_construction}
use Rattle.e_construct.specs.Superposing as superposing
use Rattle.e_deriv.specs.Script.{Script, Cite, Hence, Make, Apply, Claim, Superposed, Qed, Contradiction, Cases, size, depth}
use Rattle.e_deriv.specs.Goal.{Goal, goal_of}
use Rattle.e_deriv.specs.PlacedSteps.{theorem_at}
use Rattle.e_trim.specs.Trimmed.{joins_at, is_kept, wants, trimmed_from}
use Rattle.e_trim.specs.Laws.{TrimmedIsShorter}

abbrev Fits : Script → Script → Type 0
Fits t d = (size t ≤ size d) × (depth t ≤ depth d)

-- whichever of the two is left
either : (b : Bool) (x y d : Script) → Fits x d → Fits y d → Fits (cond b x y) d
either true x y d h k = h
either false x y d h k = k

pub shorter : (d : Script) (before : List StatementView) (kept : List Obj) (s : Scope) (facts : List Lit) (goal : Goal) → Fits (trimmed_from before kept d s facts goal) d
unfolding trimmed_from size depth
shorter (Cite by rest) before kept s facts goal =
    let r = shorter rest before kept s (with_fact facts by.lit) goal in
    either (is_kept before (Cite by rest) s facts (wants before rest s (with_fact facts by.lit) goal)) _ _ (Cite by rest) (omega (arith, r.0), r.1) (omega (arith, r.0), r.1)
shorter (Hence lit cert rest) before kept s facts goal =
    let r = shorter rest before kept s (with_fact facts lit) goal in
    either (is_kept before (Hence lit cert rest) s facts (wants before rest s (with_fact facts lit) goal)) _ _ (Hence lit cert rest) (omega (arith, r.0), r.1) (omega (arith, r.0), r.1)
shorter (Make construction names certs rest) before kept s facts goal =
    let one = shorter rest before (kept ++ next_objects s (sorts_made construction)) (with_sorts s (sorts_made construction)) (with_facts facts (gives_of_construction construction s)) goal in
    let other = shorter rest before kept (with_sorts s (sorts_made construction)) (with_facts facts (gives_of_construction construction s)) goal in
    either (is_kept before (Make construction names certs rest) s facts (wants before rest (with_sorts s (sorts_made construction)) (with_facts facts (gives_of_construction construction s)) goal)) _ _ (Make construction names certs rest) (omega (arith, one.0), one.1) (omega (arith, other.0), other.1)
shorter (Apply theorem args names certs rest) before kept s facts goal =
    let here = Apply theorem args names certs rest in
    let new = (theorem_at before theorem).made in
    let one = shorter rest before (kept ++ next_objects s new) (with_sorts s new) (with_facts facts (joins_at before here s)) goal in
    let other = shorter rest before kept (with_sorts s new) (with_facts facts (joins_at before here s)) goal in
    either (is_kept before here s facts (wants before rest (with_sorts s new) (with_facts facts (joins_at before here s)) goal)) _ _ here (omega (arith, one.0), one.1) (omega (arith, other.0), other.1)
shorter (Claim shown inner rest) before kept s facts goal =
    let i = shorter inner before kept s facts (goal_of shown) in
    let r = shorter rest before kept s (with_facts facts shown) goal in
    either (is_kept before (Claim shown inner rest) s facts (wants before rest s (with_facts facts shown) goal)) _ _ (Claim shown inner rest) (omega (arith, i.0, r.0), omega (arith, i.1, r.1)) (omega (arith, r.0), omega (arith, r.1))
shorter (Superposed superposition names shown certs inner rest) before kept s facts goal =
    let i = shorter inner before (kept ++ next_objects s superposing.sorts_copied) (with_sorts s superposing.sorts_copied) (with_facts facts (superposing.gives_of_superposition superposition s)) (goal_of shown) in
    let r = shorter rest before kept s (with_facts facts shown) goal in
    either (is_kept before (Superposed superposition names shown certs inner rest) s facts (wants before rest s (with_facts facts shown) goal)) _ _ (Superposed superposition names shown certs inner rest)
    (omega (arith, i.0, r.0), omega (arith, i.1, r.1)) (omega (arith, r.0), omega (arith, r.1))
shorter (Qed objects certs) before kept s facts goal = (omega arith, omega arith)
shorter (Contradiction against) before kept s facts goal = (omega arith, omega arith)
shorter (Cases lit first second) before kept s facts goal =
    let a = shorter first before kept s (with_fact facts lit) goal in
    let b = shorter second before kept s (with_fact facts (negation lit)) goal in
    (omega (arith, a.0, b.0), omega (arith, a.1, b.1))

pub trimmed_shorter : TrimmedIsShorter
trimmed_shorter before t d = shorter d before _ _ _ _
