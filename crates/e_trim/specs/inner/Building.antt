-- What is built of a script by the flags on the pile.
use Rattle.std.specs.Prelude.{◌≡◌, List, [], ◌++◌, map, Bool, IsTrue, if◌then◌else◌}
use Rattle.std.specs.Option.{option_map}
use Rattle.std.specs.List.{list_all}
use Rattle.e_literal.specs.declared.object.Obj.{Obj}
use Rattle.e_literal.specs.declared.object.Scope.{Scope}
use Rattle.e_literal.specs.declared.literal.Lit.{Lit}
use Rattle.e_literal.specs.Facts.{with_facts}
use Rattle.e_literal.specs.Scopes.{with_sorts, next_objects}
use Rattle.e_literal.specs.Use.{StatementView}
use Rattle.e_construct.specs.Superposing as superposing
use Rattle.e_deriv.specs.declared.block.Block.{Block}
use Rattle.e_deriv.specs.declared.block.Step.{Step}
use Rattle.e_deriv.specs.declared.block.Close.{Close}
use Rattle.e_deriv.specs.Script.{Script, script_of, steps_script, step_script, close_script, Cite}
use Rattle.e_deriv.specs.Script.{Hence, Make, Apply, Claim, Superposed}
use Rattle.e_deriv.specs.Goal.{Goal, goal_of}
use Rattle.e_deriv.specs.PlacedSteps.{placed_steps}
use Rattle.e_deriv.specs.Fitting.{is_small}
use Rattle.e_trim.specs.Trimmed.{by_at, lit_among_kept, cert_at, construction_among_kept, args_at}
use Rattle.e_trim.specs.Trimmed.{superpose_at, trimmed_from}
use Rattle.e_trim.specs.inner.Flags.{flag, flags_of, step_flags}

-- with some facts and some goal at most 1,000 objects of each sort are in scope before each step
pub record AreSmall (before : List StatementView) (d : Script) (s : Scope) : Type 0 where
  pub facts : List Lit
  pub goal : Goal
  pub small : IsTrue (list_all (λ x. is_small x.scope) (placed_steps before d d s facts goal))

-- with something after it
pub record IsSmallStep (before : List StatementView) (step : Step) (s : Scope) : Type 0 where
  pub rest : Script
  pub small : AreSmall before (step_script step rest) s

-- the kept step over the kept objects, with more after it
abbrev pub kept_step : List StatementView → List Obj → Script → Scope → List Lit → Script → Script
kept_step before kept (Cite by rest) s facts more = Cite (by_at kept by) more
kept_step before kept (Hence lit cert rest) s facts more =
    Hence (lit_among_kept kept lit) (option_map (cert_at kept) cert) more
kept_step before kept (Make construction names certs rest) s facts more =
    Make (construction_among_kept kept construction) names (map (cert_at kept) certs) more
kept_step before kept (Apply theorem args names certs rest) s facts more =
    Apply theorem (args_at kept args) names (map (cert_at kept) certs) more
kept_step before kept (Claim shown inner rest) s facts more =
    Claim (map (lit_among_kept kept) shown)
    (trimmed_from before kept inner s facts (goal_of shown)) more
kept_step before kept (Superposed superposition names shown certs inner rest) s facts more =
    Superposed (superpose_at kept superposition) names (map (lit_among_kept kept) shown)
    (map (cert_at kept) certs)
    (trimmed_from before (kept ++ next_objects s superposing.sorts_copied) inner
    (with_sorts s superposing.sorts_copied)
    (with_facts facts (superposing.gives_of_superposition superposition s)) (goal_of shown))
    more
kept_step before kept close s facts more = more

-- the flag of a step is taken from the pile; those of the block inside stay, where the step is kept
abbrev pub TakesFlag : List Bool → List Bool → Bool → Type 0
TakesFlag pile left kept =
    (under inner : List Bool) (b : Bool) → pile ≡ under ++ flag b inner
    → (kept ≡ b) × (left ≡ under ++ (if b then inner else []))

-- the flags of the script lie on the pile, over others, and are taken; after the steps that were
-- there comes what is left of the script
abbrev pub IsBuilt : List StatementView → List Obj → Script → Scope → List Bool → List Bool
    → List Step → List Step → Close → Type 0
IsBuilt before kept d s pile left done now close =
    (facts : List Lit) (goal : Goal) (under : List Bool)
    → pile ≡ under ++ flags_of before d s facts goal
    → (steps_script now (close_script close)
    ≡ steps_script done (trimmed_from before kept d s facts goal)) × (left ≡ under)

abbrev pub StepIsBuilt : List StatementView → List Obj → Step → Scope → List Bool
    → List Bool → Step → Type 0
StepIsBuilt before kept step s pile left new =
    (rest more : Script) (facts : List Lit) (under : List Bool)
    → pile ≡ under ++ step_flags before (step_script step rest) s facts
    → (step_script new more ≡ kept_step before kept (step_script step rest) s facts more)
    × (left ≡ under)

abbrev pub CloseIsBuilt : List StatementView → List Obj → Script → Scope → List Bool
    → List Bool → Close → Type 0
CloseIsBuilt before kept d s pile left new =
    (facts : List Lit) (goal : Goal) (under : List Bool)
    → pile ≡ under ++ flags_of before d s facts goal
    → (close_script new ≡ trimmed_from before kept d s facts goal) × (left ≡ under)

abbrev pub BlockIsBuilt : List StatementView → List Obj → Script → Scope → List Bool
    → List Bool → Block → Type 0
BlockIsBuilt before kept d s pile left new =
    (facts : List Lit) (goal : Goal) (under : List Bool)
    → pile ≡ under ++ flags_of before d s facts goal
    → (script_of new ≡ trimmed_from before kept d s facts goal) × (left ≡ under)
