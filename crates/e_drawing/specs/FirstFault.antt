-- The fault of a figure text is its first one, whatever follows it.
use Rattle.std.specs.Prelude.{◌≡◌, ◌⊎◌, ℕ, List, ◌∷◌, ◌++◌, Result, Ok, Err}
use Rattle.e_text.specs.Lines.{LineView}
use Rattle.e_text.specs.declared.line.LineFault.{LineFault}
use Rattle.e_line.specs.declared.fault.BookFault.{BookFault}
use Rattle.e_line.specs.declared.fault.BookFault.TheVariants as faults
use Rattle.e_drawing.specs.declared.plan.Plan.{Plan}
use Rattle.e_drawing.specs.Plans.{no_plan}
use Rattle.e_drawing.specs.Texts.{plan_from}

-- no line is wrong: read alone the lines are a figure, or they end too soon
abbrev pub HaveNoWrongLine : List (Result LineView LineFault) → Type 0
HaveNoWrongLine lines =
    (last : ℕ) → ((p : Plan) × (plan_from last no_plan lines ≡ Ok p))
    ⊎ (plan_from last no_plan lines ≡ Err (faults.Unended last))

-- the lines begin with a front of which no line is wrong, and the line after it has this fault,
-- whatever follows it
pub record FaultsAt (lines : List (Result LineView LineFault)) (fault : BookFault) : Type 0 where
  pub front : List (Result LineView LineFault)
  pub line : Result LineView LineFault
  pub rest : List (Result LineView LineFault)
  pub all : lines ≡ front ++ line ∷ rest
  pub before : HaveNoWrongLine front
  pub there : (last : ℕ) (other : List (Result LineView LineFault))
      → plan_from last no_plan (front ++ line ∷ other) ≡ Err fault

-- the fault is the first, or no line is wrong, and they end too soon
abbrev pub FigureFaultIsFirst : Type 0
FigureFaultIsFirst =
    (last : ℕ) (lines : List (Result LineView LineFault)) (fault : BookFault)
    → plan_from last no_plan lines ≡ Err fault → FaultsAt lines fault
    ⊎ (((n : ℕ) → plan_from n no_plan lines ≡ Err (faults.Unended n))
    × (fault ≡ faults.Unended last))
