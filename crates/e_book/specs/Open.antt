-- A theorem whose lines are coming: what they have said so far. All else is a function of it.
use Rattle.std.specs.Prelude.{ℕ, List, [], ◌∷◌, ◌++◌, Bool, true, false, if◌then◌else◌}
use Rattle.e_literal.specs.declared.literal.Lit.{Lit}
use Rattle.e_literal.specs.declared.object.Sort.{Sort}
use Rattle.e_construct.specs.declared.superpose.Superpose.{Superpose}
use Rattle.e_theorem.specs.declared.statement.Statement.{Statement}
use Rattle.e_deriv.specs.declared.names.Names.{Names}
use Rattle.e_deriv.specs.Script.{Script, Cases}
use Rattle.e_deriv.specs.PlainStep.{PlainStep, Claimed, Copied, all_before}
use Rattle.e_book.specs.TheoremViews.{TheoremView}

-- the title, the names of the declared and the made objects, and the statement
pub record Head : Type 0 where
  pub title : List ℕ
  pub names : Names
  pub statement : Statement

-- what began a block inside another
pub data Opener : Type 0 where
  ByClaim : (shown : List Lit) → Opener
  BySuperposition : (superposition : Superpose) (names : List (List ℕ)) (shown : List Lit) → Opener
  ByCase : (lit : Lit) → Opener
  ByElse : (lit : Lit) (first : Script) → Opener

-- a block that an inner one interrupts: its steps so far, and what began the inner one
pub record Enclosing : Type 0 where
  pub steps : List PlainStep
  pub opener : Opener

-- before the proof; in a block, with those around it, the innermost first; after the first block of
-- a split; after the proof; after the last line
pub data Open : Type 0 where
  Stating : (head : Head) → Open
  Proving : (head : Head) (around : List Enclosing) (steps : List PlainStep) → Open
  Splitting : (head : Head) (around : List Enclosing) → Open
  Proved : (head : Head) (script : Script) → Open
  Ended : (theorem : TheoremView) → Open

-- a claim and a superposition have goals of their own, without made objects
abbrev pub has_goal : Opener → Bool
has_goal (ByClaim shown) = true
has_goal (BySuperposition superposition names shown) = true
has_goal (ByCase lit) = false
has_goal (ByElse lit first) = false

-- the made objects of the goal of a block inside these
abbrev pub made_inside : List Enclosing → List Sort → List Sort
made_inside [] made = made
made_inside (a ∷ around) made = if has_goal a.opener then [] else made_inside around made

-- what closing a block inside another leaves; the second block of a split closes the block around
-- it too
abbrev pub after_inner_close : Head → List Enclosing → List PlainStep → Script
    → (Script → Open) → Opener → Open
after_inner_close h around steps inner again (ByClaim shown) =
    Proving h around (steps ++ Claimed shown inner ∷ [])
after_inner_close h around steps inner again (BySuperposition superposition names shown) =
    Proving h around (steps ++ Copied superposition names shown [] inner ∷ [])
after_inner_close h around steps inner again (ByCase lit) =
    Splitting h (record { steps = steps; opener = ByElse lit inner } ∷ around)
after_inner_close h around steps inner again (ByElse lit first) = again (Cases lit first inner)

-- the block with these steps is closed
unfoldable pub after_close : Head → List Enclosing → List PlainStep → Script → Open
after_close h [] steps close = Proved h (all_before steps close)
after_close h (a ∷ around) steps close =
    after_inner_close h around a.steps (all_before steps close)
    (λ c. after_close h around a.steps c) a.opener
