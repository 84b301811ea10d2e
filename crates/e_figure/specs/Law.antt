-- What holds in every figure.
use Rattle.std.specs.Prelude.{◌≡◌, ℕ, ◌<◌, List, Bool, false, ◌&&◌, IsTrue, Some, is_some}
use Rattle.std.specs.Prelude.{slice_get}
use Rattle.std.specs.Option.{option_map_or}
use Rattle.std.specs.List.{list_any, list_all}
use Rattle.e_literal.specs.Literal.{is_in_scope}
use Rattle.e_literal.specs.declared.literal.Lit.{Lit}
use Rattle.e_literal.specs.declared.object.Obj.{Obj}
use Rattle.e_clause.specs.Instance.{Inst}
use Rattle.e_clause.specs.RuleKinds.{diagram_rule_count}
use Rattle.e_figure.specs.declared.witness.LawFault.{LawFault}
use Rattle.e_figure.specs.declared.witness.LawFault.TheVariants.{BadArgs, NoMemory}
use Rattle.e_figure.specs.Figure.{FigureView, is_figure, scope_of_figure}
use Rattle.e_figure.specs.Truth.{is_true}

-- some literal of each instance of a rule of diagrams and equality is true
abbrev pub EveryInstanceIsTrue : Type 0
EveryInstanceIsTrue =
    (d : FigureView) (rule : ℕ) (args : List Obj) (lits : List Lit) →
    IsTrue (is_figure d) → rule < diagram_rule_count → Inst rule args ≡ Some lits
    → IsTrue (list_any (is_true d) lits)

-- the literal at this place of the instance is true
abbrev pub true_at : FigureView → ℕ → List Obj → ℕ → Bool
true_at d rule args k =
    option_map_or (λ lits. option_map_or (is_true d) (slice_get lits k) false)
    (Inst rule args) false

-- the arguments are in the figure's scope
abbrev pub are_in_figure : FigureView → List Obj → Bool
are_in_figure d args = list_all (is_in_scope (scope_of_figure d)) args

-- the rule has an instance at the arguments, and they are in the figure's scope
abbrev pub has_instance : FigureView → ℕ → List Obj → Bool
has_instance d rule args = is_some (Inst rule args) && are_in_figure d args

-- BadArgs only where there is no instance in the figure's scope; out of memory is free
abbrev pub LawFaultIs : FigureView → ℕ → List Obj → LawFault → Type 0
LawFaultIs d rule args BadArgs = has_instance d rule args ≡ false
LawFaultIs d rule args NoMemory = Unit {0}
